-- One step of what follows declarations, and the end of those that are followed from a root.
use Rattle.std.proofs.Common.{◌≡◌, ◌≢◌, ◌∙◌, ◌+◌, ◌<◌, ◌≤◌, ℕ, zero, suc, List, [], ◌∷◌, ◌++◌, Bool, true, false, MatchOption, Option, Some, None, ap, arith, cond, inl, inr, length, map, refl, replicate, reverse, set, slice_get, subst, sum_by, sym, true≢false, length-set}
use Rattle.std.proofs.lemmas.List.{map_push, reverse-append}
use Rattle.std.proofs.lemmas.List.Elements.{Contains-append_left, Contains-push}
use Rattle.std.proofs.lemmas.List.Sums.{sum_by_push}
use Rattle.wgsl_module.specs.Order.{Begins, GoesOn, IsBehind, IsClosed, LeadsOn, LeadsTo, begun, itself}
use Rattle.wgsl_module.specs.declared.walk.Order.{Order}
use Rattle.wgsl_typing.specs.declared.fault.Place.{Place}
use Rattle.wgsl_module.specs.declared.walk.State.{State}
use Rattle.wgsl_module.specs.declared.walk.State.TheVariants.{Done, Open, Unseen}
use Rattle.wgsl_module.proofs.Order.{is_done, last_too, no_more, none_done, stands_there}
use Rattle.wgsl_module.proofs.Following.{Following, back, done, led_on, led_to_new, leads_back, none_outside, opened_on, outside, set_same, top_done, top_gone}

abbrev pub cycles_of : Order → List ℕ
cycles_of s = map (λ cycle. cycle.0) s.cycles.items

abbrev pub Kept : (ℕ → ℕ → List ℕ) → ℕ → ℕ → Order → Type 0
Kept from low root s = Following from low root s.states.items s.indices.items (cycles_of s) (reverse s.stack.items)

top_first : (xs : List (ℕ × ℕ)) (e : ℕ × ℕ) → reverse (xs ++ e ∷ []) ≡ e ∷ reverse xs
top_first xs e = reverse-append xs (e ∷ [])

-- the same of what has these parts
same_kept : (from : ℕ → ℕ → List ℕ) (low root : ℕ) (cycles : List ℕ) (states : List State) (order : List ℕ) (stack : List (ℕ × ℕ)) (r : Order) → r.states.items ≡ states
    → reverse r.stack.items ≡ stack → r.indices.items ≡ order → cycles_of r ≡ cycles → Following from low root states order cycles stack
    → Kept from low root r
same_kept from low root cycles states order stack r are_states is_stack is_order are_cycles f =
    let first = subst (λ x. Following from low root x order cycles stack) (sym are_states) f in
    let second = subst (λ x. Following from low root r.states.items x cycles stack) (sym is_order) first in
    let third = subst (λ x. Following from low root r.states.items r.indices.items x stack) (sym are_cycles) second in
    subst (λ x. Following from low root r.states.items r.indices.items (cycles_of r) x) (sym is_stack) third

-- One step

closes : (from : ℕ → ℕ → List ℕ) (low root index at : ℕ) (s r : Order) (o : Option State) → slice_get s.states.items index ≡ o → from index at ≡ [] → IsClosed o index s r
    → Following from low root s.states.items s.indices.items (cycles_of s) ((index, at) ∷ reverse s.stack.items) → Kept from low root r
closes from low root index at s r None is at_end goes f = subst (λ t. Kept from low root t) (sym goes)
    (top_gone from low root index at _ _ _ _ (λ shut. cc (sym is ∙ shut)) (λ i. outside (none_outside s.states.items index is)) f)
closes from low root index at s r (Some Done) is at_end goes f = subst (λ t. Kept from low root t) (sym goes)
    (top_gone from low root index at _ _ _ _ (λ shut. cc (sym is ∙ shut)) (λ i. done (ap is_done is)) f)
closes from low root index at s r (Some Open) is at_end goes f = same_kept from low root _ _ _ _ r goes.0 (ap reverse goes.1) goes.2 (ap (map (λ cycle. cycle.0)) goes.3)
    (top_done from low root index at _ _ _ _ Open is refl at_end f)
closes from low root index at s r (Some Unseen) is at_end goes f = same_kept from low root _ _ _ _ r goes.0 (ap reverse goes.1) goes.2 (ap (map (λ cycle. cycle.0)) goes.3)
    (top_done from low root index at _ _ _ _ Unseen is refl at_end f)

leads_on : (from : ℕ → ℕ → List ℕ) (low root index at : ℕ) (n : ℕ × Place × ℕ) (s r : Order) (o : Option State) → slice_get s.states.items n.0 ≡ o
    → from index at ≡ n.0 ∷ from index n.2 → LeadsOn o index n s r
    → Following from low root s.states.items s.indices.items (cycles_of s) ((index, at) ∷ reverse s.stack.items) → Kept from low root r
leads_on from low root index at n s r None is next goes f =
    same_kept from low root _ _ _ _ r goes.0 (ap reverse goes.1 ∙ top_first s.stack.items (index, n.2)) goes.2 (ap (map (λ cycle. cycle.0)) goes.3)
    (led_on from low root index at n.0 n.2 _ _ _ _ _ (λ k h. h) next (outside (none_outside s.states.items n.0 is)) f)
leads_on from low root index at n s r (Some Done) is next goes f =
    same_kept from low root _ _ _ _ r goes.0 (ap reverse goes.1 ∙ top_first s.stack.items (index, n.2)) goes.2 (ap (map (λ cycle. cycle.0)) goes.3)
    (led_on from low root index at n.0 n.2 _ _ _ _ _ (λ k h. h) next (done (ap is_done is)) f)
leads_on from low root index at n s r (Some Open) is next goes f =
    same_kept from low root _ _ _ _ r goes.0 (ap reverse goes.1 ∙ top_first s.stack.items (index, n.2)) goes.2 (ap (map (λ cycle. cycle.0)) goes.3 ∙ map_push (λ cycle. cycle.0) s.cycles.items (n.0, n.1))
    (led_on from low root index at n.0 n.2 _ _ _ _ _ (λ k h. Contains-append_left (cycles_of s) (n.0 ∷ []) k h) next
    (back (leads_back from low root index at n.0 _ _ _ _ is f) (Contains-push (cycles_of s) n.0)) f)
leads_on from low root index at n s r (Some Unseen) is next goes f =
    same_kept from low root _ _ _ _ r goes.0
    (ap reverse goes.1 ∙ (top_first (s.stack.items ++ (index, n.2) ∷ []) (n.0, 0) ∙ ap (λ st. (n.0, 0) ∷ st) (top_first s.stack.items (index, n.2))))
    goes.2 (ap (map (λ cycle. cycle.0)) goes.3) (led_to_new from low root index at n.0 n.2 _ _ _ _ next is f)

pub goes_on : (from : ℕ → ℕ → List ℕ) (low root index at : ℕ) (next : Option (ℕ × Place × ℕ)) (s r : Order)
    → MatchOption next (from index at ≡ []) (λ n. from index at ≡ n.0 ∷ from index n.2) → GoesOn index next s r
    → Following from low root s.states.items s.indices.items (cycles_of s) ((index, at) ∷ reverse s.stack.items) → Kept from low root r
goes_on from low root index at None s r is goes f = closes from low root index at s r (slice_get s.states.items index) refl is goes f
goes_on from low root index at (Some n) s r is goes f = leads_on from low root index at n s r (slice_get s.states.items n.0) refl is goes f

-- what was on top is taken off
pub taken_off : (from : ℕ → ℕ → List ℕ) (low root : ℕ) (cycles : List ℕ) (states : List State) (order : List ℕ) (stack rest : List (ℕ × ℕ)) (e : ℕ × ℕ) → stack ≡ rest ++ e ∷ []
    → Following from low root states order cycles (reverse stack) → Following from low root states order cycles (e ∷ reverse rest)
taken_off from low root cycles states order stack rest e is f = subst (λ st. Following from low root states order cycles st) (ap reverse is ∙ top_first rest e) f

-- The states of all

-- no other is unseen, and there are as many
pub record Moves (states new : List State) : Type 0 where
  pub seen : (k : ℕ) → slice_get new k ≡ Some Unseen → slice_get states k ≡ Some Unseen
  pub len : length new ≡ length states

still_unseen : (states : List State) (i k : ℕ) (t : State) → Some t ≢ Some Unseen → slice_get (set states i t) k ≡ Some Unseen → slice_get states k ≡ Some Unseen
still_unseen [] i k t seen is = is
still_unseen (u ∷ states) zero zero t seen is = absurd (seen is)
still_unseen (u ∷ states) zero (suc k) t seen is = is
still_unseen (u ∷ states) (suc i) zero t seen is = is
still_unseen (u ∷ states) (suc i) (suc k) t seen is = still_unseen states i k t seen is

moved : (states new : List State) (i : ℕ) (t : State) → Some t ≢ Some Unseen → new ≡ set states i t → Moves states new
moved states new i t seen is = record {
  seen = λ k unseen. still_unseen states i k t seen (ap (λ x. slice_get x k) (sym is) ∙ unseen);
  len = ap length is ∙ length-set states i t;
}

left : (states new : List State) → new ≡ states → Moves states new
left states new is = record { seen = λ k unseen. ap (λ x. slice_get x k) (sym is) ∙ unseen; len = ap length is }

abbrev is_seen : Option State → Bool
is_seen (Some Unseen) = false
is_seen other = true

done_seen : Some Done ≢ Some Unseen
done_seen is = true≢false (ap is_seen is)

open_seen : Some Open ≢ Some Unseen
open_seen is = true≢false (ap is_seen is)

closed_moves : (index : ℕ) (o : Option State) (s r : Order) → IsClosed o index s r → Moves s.states.items r.states.items
closed_moves index None s r goes = left _ _ (ap (λ (t : Order). t.states.items) goes)
closed_moves index (Some Done) s r goes = left _ _ (ap (λ (t : Order). t.states.items) goes)
closed_moves index (Some Open) s r goes = moved _ _ index Done done_seen goes.0
closed_moves index (Some Unseen) s r goes = moved _ _ index Done done_seen goes.0

begun_moves : (index : ℕ) (o : Option State) (states new : List State) → new ≡ begun o index states → Moves states new
begun_moves index None states new goes = left _ _ goes
begun_moves index (Some Done) states new goes = left _ _ goes
begun_moves index (Some Open) states new goes = left _ _ goes
begun_moves index (Some Unseen) states new goes = moved _ _ index Open open_seen goes

pub moves : (index : ℕ) (next : Option (ℕ × Place × ℕ)) (s r : Order) → GoesOn index next s r → Moves s.states.items r.states.items
moves index None s r goes = closed_moves index (slice_get s.states.items index) s r goes
moves index (Some n) s r goes = begun_moves n.0 (slice_get s.states.items n.0) s.states.items r.states.items goes.0

-- One root

within : (states : List State) (k : ℕ) → slice_get states k ≡ Some Unseen → k < length states
within [] k is = cc is
within (s ∷ states) zero is = omega arith
within (s ∷ states) (suc k) is = let rest = within states k is in omega (arith, rest)

begins : (from : ℕ → ℕ → List ℕ) (low root : ℕ) (s r : Order) (o : Option State) → slice_get s.states.items root ≡ o → Begins o root s r → s.stack.items ≡ []
    → Kept from low root s → Kept from low root r × (slice_get r.states.items root ≢ Some Unseen) × (length r.states.items ≡ length s.states.items)
begins from low root s r None is goes none f = (
  same_kept from low root _ _ _ _ r goes.0 (ap reverse goes.1) goes.2 (ap (map (λ cycle. cycle.0)) goes.3) f,
  λ unseen. cc (sym is ∙ (ap (λ x. slice_get x root) (sym goes.0) ∙ unseen)),
  ap length goes.0,
)
begins from low root s r (Some Done) is goes none f = (
  same_kept from low root _ _ _ _ r goes.0 (ap reverse goes.1) goes.2 (ap (map (λ cycle. cycle.0)) goes.3) f,
  λ unseen. done_seen (sym is ∙ (ap (λ x. slice_get x root) (sym goes.0) ∙ unseen)),
  ap length goes.0,
)
begins from low root s r (Some Open) is goes none f = (
  same_kept from low root _ _ _ _ r goes.0 (ap reverse goes.1) goes.2 (ap (map (λ cycle. cycle.0)) goes.3) f,
  λ unseen. open_seen (sym is ∙ (ap (λ x. slice_get x root) (sym goes.0) ∙ unseen)),
  ap length goes.0,
)
begins from low root s r (Some Unseen) is goes none f =
    let empty = subst (λ st. Following from low root s.states.items s.indices.items (cycles_of s) st) (ap reverse none) f in (
      same_kept from low root _ _ _ _ r goes.0 (ap reverse goes.1 ∙ (top_first s.stack.items (root, 0) ∙ ap (λ st. (root, 0) ∷ reverse st) none)) goes.2 (ap (map (λ cycle. cycle.0)) goes.3)
          (opened_on from low root root _ _ _ [] is empty.ordered empty.placed empty.standing empty.done tt (λ k h. elim h [ inl same ↦ (subst (λ l. LeadsTo (λ j. from j 0) root l) same (itself root), within s.states.items root is) | inr none ↦ absurd none ]) empty.in_turn),
      λ unseen. open_seen (sym (set_same s.states.items root Unseen Open is) ∙ (ap (λ x. slice_get x root) (sym goes.0) ∙ unseen)),
      ap length goes.0 ∙ length-set s.states.items root Open,
    )

pub begun_root : (from : ℕ → ℕ → List ℕ) (low root : ℕ) (s r : Order) → Begins (slice_get s.states.items root) root s r → s.stack.items ≡ []
    → Kept from low root s → Kept from low root r × (slice_get r.states.items root ≢ Some Unseen) × (length r.states.items ≡ length s.states.items)
begun_root from low root s r goes none f = begins from low root s r (slice_get s.states.items root) refl goes none f

all_done : (o : Option State) → o ≢ Some Unseen → o ≢ Some Open → o ≢ None → is_done o ≡ true
all_done None seen shut inside = absurd (inside refl)
all_done (Some Done) seen shut inside = refl
all_done (Some Open) seen shut inside = absurd (shut refl)
all_done (Some Unseen) seen shut inside = absurd (seen refl)

-- nothing stands on the stack any more
pub root_done : (from : ℕ → ℕ → List ℕ) (low root : ℕ) (cycles : List ℕ) (states : List State) (order : List ℕ) (stack after : List (ℕ × ℕ)) → stack ≡ [] → after ≡ []
    → slice_get states root ≢ Some Unseen → Following from low root states order cycles (reverse stack) → Following from low (root + 1) states order cycles (reverse after)
root_done from low root cycles states order stack after none still seen f =
    let empty = subst (λ st. Following from low root states order cycles st) (ap reverse none) f in
    let ended : Following from low (root + 1) states order cycles [] = record {
      ordered = f.ordered;
      placed = f.placed;
      standing = empty.standing;
      stacked = tt;
      done = last_too low root states states (λ k h. h) refl (λ inside. all_done (slice_get states root) seen (λ is. empty.standing root is)
          (λ is. let past = none_outside states root is in omega (arith, inside, past))) f.done;
      reached = λ k h. absurd h;
      in_turn = f.in_turn;
    } in
    subst (λ st. Following from low (root + 1) states order cycles (reverse st)) (sym still) ended

pub none_of : {A : Type 0} (xs : List A) → length xs ≡ 0 → xs ≡ []
none_of [] none = refl
none_of (x ∷ xs) none = absurd (omega (arith, none))

-- All

pub none_yet : (from : ℕ → ℕ → List ℕ) (low n : ℕ) → Following from low low (replicate n Unseen) [] [] []
none_yet from low n = record {
  ordered = none_done n;
  placed = λ front i rest is. absurd (no_more front rest i (sym is));
  standing = λ k is. absurd (none_open n k is);
  stacked = tt;
  done = λ k above under inside. absurd (omega (arith, above, under));
  reached = λ k h. absurd h;
  in_turn = λ front i rest is inside. absurd (no_more front rest i (sym is));
}
  where
    none_open : (n k : ℕ) → slice_get (replicate n Unseen) k ≡ Some Open → ⊥
    none_open zero k is = cc is
    none_open (suc n) zero is = open_seen (sym is)
    none_open (suc n) (suc k) is = none_open n k is

none_past : (states : List State) (k : ℕ) → length states ≤ k → slice_get states k ≡ None
none_past [] k past = refl
none_past (s ∷ states) zero past = absurd (omega (arith, past))
none_past (s ∷ states) (suc k) past = none_past states k (omega (arith, past))

pub all_behind : (from : ℕ → ℕ → List ℕ) (low root : ℕ) (cycles : List ℕ) (states : List State) (order : List ℕ) (stack : List (ℕ × ℕ)) → Following from low root states order cycles stack
    → IsBehind (λ i. from i 0) cycles order
all_behind from low root cycles states order stack f front index rest is other stands h = elim (f.placed front index rest is other h) [
  | inl in_it ↦ inl in_it
  | inr others ↦ elim others [
    | inl way ↦ inr way
    | inr past ↦
        let once = stands_there order other stands in
        let none = f.ordered other ∙ ap (λ o. cond (is_done o) 1 0) (none_past states other past) in
        absurd (omega (arith, once, none))
  ]
]

-- The work that is left

abbrev pub weight : (ℕ → ℕ → List ℕ) → ℕ × ℕ → ℕ
weight from e = length (from e.0 e.1) + 1

abbrev pub unseen_work : (ℕ → ℕ) → List State → ℕ
unseen_work f [] = 0
unseen_work f (Unseen ∷ states) = f 0 + unseen_work (λ i. f (suc i)) states
unseen_work f (other ∷ states) = unseen_work (λ i. f (suc i)) states

abbrev pub work : (ℕ → ℕ → List ℕ) → Order → ℕ
work from s = unseen_work (λ i. weight from (i, 0)) s.states.items + sum_by (weight from) s.stack.items

opened_work : (f : ℕ → ℕ) (states : List State) (n : ℕ) → slice_get states n ≡ Some Unseen → unseen_work f states ≡ f n + unseen_work f (set states n Open)
opened_work f [] n is = cc is
opened_work f (Unseen ∷ states) zero is = refl
opened_work f (Open ∷ states) zero is = absurd (open_seen is)
opened_work f (Done ∷ states) zero is = absurd (done_seen is)
opened_work f (Unseen ∷ states) (suc n) is = let rest = opened_work (λ i. f (suc i)) states n is in omega (arith, rest)
opened_work f (Open ∷ states) (suc n) is = opened_work (λ i. f (suc i)) states n is
opened_work f (Done ∷ states) (suc n) is = opened_work (λ i. f (suc i)) states n is

done_work : (f : ℕ → ℕ) (states : List State) (n : ℕ) → unseen_work f (set states n Done) ≤ unseen_work f states
done_work f [] n = omega arith
done_work f (Unseen ∷ states) zero = omega arith
done_work f (Open ∷ states) zero = omega arith
done_work f (Done ∷ states) zero = omega arith
done_work f (Unseen ∷ states) (suc n) = let rest = done_work (λ i. f (suc i)) states n in omega (arith, rest)
done_work f (Open ∷ states) (suc n) = done_work (λ i. f (suc i)) states n
done_work f (Done ∷ states) (suc n) = done_work (λ i. f (suc i)) states n

-- less is left, if what stood on top had this much more to follow
less : (from : ℕ → ℕ → List ℕ) (index at : ℕ) (before s r : Order) (v w : ℕ) → before.states.items ≡ s.states.items → before.stack.items ≡ s.stack.items ++ (index, at) ∷ []
    → unseen_work (λ i. weight from (i, 0)) r.states.items ≡ v → sum_by (weight from) r.stack.items ≡ sum_by (weight from) s.stack.items + w
    → v + w < unseen_work (λ i. weight from (i, 0)) s.states.items + weight from (index, at) → work from r < work from before
less from index at before s r v w same is new rest fewer =
    let states = ap (unseen_work (λ i. weight from (i, 0))) same in
    let all = ap (sum_by (weight from)) is ∙ sum_by_push (weight from) s.stack.items (index, at) in
    omega (arith, states, all, new, rest, fewer)

closed_less : (from : ℕ → ℕ → List ℕ) (index at : ℕ) (before s r : Order) → before.states.items ≡ s.states.items → before.stack.items ≡ s.stack.items ++ (index, at) ∷ []
    → r.states.items ≡ set s.states.items index Done → r.stack.items ≡ s.stack.items → work from r < work from before
closed_less from index at before s r same is states stack =
    let rest = ap (sum_by (weight from)) stack in
    let fewer = done_work (λ i. weight from (i, 0)) s.states.items index in
    less from index at before s r _ 0 same is (ap (unseen_work (λ i. weight from (i, 0))) states) (omega (arith, rest)) (omega (arith, fewer))

none_less : (from : ℕ → ℕ → List ℕ) (index at : ℕ) (before s r : Order) → before.states.items ≡ s.states.items → before.stack.items ≡ s.stack.items ++ (index, at) ∷ []
    → r ≡ s → work from r < work from before
none_less from index at before s r same is unchanged = subst (λ t. work from t < work from before) (sym unchanged)
    (less from index at before s s (unseen_work (λ i. weight from (i, 0)) s.states.items) 0 same is refl (omega arith) (omega arith))

closes_less : (from : ℕ → ℕ → List ℕ) (index at : ℕ) (before s r : Order) (o : Option State) → before.states.items ≡ s.states.items
    → before.stack.items ≡ s.stack.items ++ (index, at) ∷ [] → IsClosed o index s r → work from r < work from before
closes_less from index at before s r None same is goes = none_less from index at before s r same is goes
closes_less from index at before s r (Some Done) same is goes = none_less from index at before s r same is goes
closes_less from index at before s r (Some Open) same is goes = closed_less from index at before s r same is goes.0 goes.1
closes_less from index at before s r (Some Unseen) same is goes = closed_less from index at before s r same is goes.0 goes.1

led_less : (from : ℕ → ℕ → List ℕ) (index at : ℕ) (n : ℕ × Place × ℕ) (before s r : Order) → before.states.items ≡ s.states.items
    → before.stack.items ≡ s.stack.items ++ (index, at) ∷ [] → from index at ≡ n.0 ∷ from index n.2 → r.states.items ≡ s.states.items
    → r.stack.items ≡ s.stack.items ++ (index, n.2) ∷ [] → work from r < work from before
led_less from index at n before s r same is next states stack =
    let more : length (from index at) ≡ suc (length (from index n.2)) = ap length next in
    less from index at before s r (unseen_work (λ i. weight from (i, 0)) s.states.items) (weight from (index, n.2)) same is
    (ap (unseen_work (λ i. weight from (i, 0))) states) (ap (sum_by (weight from)) stack ∙ sum_by_push (weight from) s.stack.items (index, n.2)) (omega (arith, more))

leads_less : (from : ℕ → ℕ → List ℕ) (index at : ℕ) (n : ℕ × Place × ℕ) (before s r : Order) (o : Option State) → slice_get s.states.items n.0 ≡ o
    → before.states.items ≡ s.states.items → before.stack.items ≡ s.stack.items ++ (index, at) ∷ [] → from index at ≡ n.0 ∷ from index n.2 → LeadsOn o index n s r
    → work from r < work from before
leads_less from index at n before s r None at_n same is next goes = led_less from index at n before s r same is next goes.0 goes.1
leads_less from index at n before s r (Some Done) at_n same is next goes = led_less from index at n before s r same is next goes.0 goes.1
leads_less from index at n before s r (Some Open) at_n same is next goes = led_less from index at n before s r same is next goes.0 goes.1
leads_less from index at n before s r (Some Unseen) at_n same is next goes =
    let more : length (from index at) ≡ suc (length (from index n.2)) = ap length next in
    let unseen = opened_work (λ i. weight from (i, 0)) s.states.items n.0 at_n in
    let first = sum_by_push (weight from) s.stack.items (index, n.2) in
    let all = ap (sum_by (weight from)) goes.1 ∙ sum_by_push (weight from) (s.stack.items ++ (index, n.2) ∷ []) (n.0, 0) in
    less from index at before s r (unseen_work (λ i. weight from (i, 0)) (set s.states.items n.0 Open)) (weight from (index, n.2) + weight from (n.0, 0)) same is
    (ap (unseen_work (λ i. weight from (i, 0))) goes.0) (omega (arith, first, all)) (omega (arith, more, unseen))

pub less_work : (from : ℕ → ℕ → List ℕ) (index at : ℕ) (next : Option (ℕ × Place × ℕ)) (before s r : Order)
    → MatchOption next (from index at ≡ []) (λ n. from index at ≡ n.0 ∷ from index n.2) → GoesOn index next s r
    → before.states.items ≡ s.states.items → before.stack.items ≡ s.stack.items ++ (index, at) ∷ [] → work from r < work from before
less_work from index at None before s r at_end goes same is = closes_less from index at before s r (slice_get s.states.items index) same is goes
less_work from index at (Some n) before s r next goes same is = leads_less from index at n before s r (slice_get s.states.items n.0) refl same is next goes
