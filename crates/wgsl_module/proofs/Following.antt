-- What is kept where declarations are followed: those that are open stand on the stack, each led to by the one below it.
use Rattle.std.proofs.Common.{◌≡◌, ◌≢◌, ◌∙◌, ◌<◌, ◌≤◌, ◌⊎◌, ℕ, zero, suc, List, [], ◌∷◌, ◌++◌, true, false, Contains, Option, Some, None, ap, arith, cond, inl, inr, length, length-set, refl, set, slice_get, subst, sym, true≢false}
use Rattle.std.proofs.lemmas.List.Elements.{Contains-append_left, Contains-append_right, Contains-push}
use Rattle.wgsl_module.specs.Order.{IsInTurn, LeadsTo, itself, through}
use Rattle.wgsl_module.specs.declared.walk.State.{State}
use Rattle.wgsl_module.specs.declared.walk.State.TheVariants.{Done, Open, Unseen}
use Rattle.wgsl_module.proofs.Order.{AreDone, IsOrder, StaysDone, in_front, in_order, is_done, last_or_before, one_done, same_or_not, stays_done}

-- States

pub set_same : (states : List State) (i : ℕ) (s t : State) → slice_get states i ≡ Some s → slice_get (set states i t) i ≡ Some t
set_same [] i s t is = cc is
set_same (u ∷ states) zero s t is = refl
set_same (u ∷ states) (suc i) s t is = set_same states i s t is

set_other : (states : List State) (i k : ℕ) (t : State) → i ≢ k → slice_get (set states i t) k ≡ slice_get states k
set_other [] i k t other = refl
set_other (u ∷ states) zero zero t other = absurd (other refl)
set_other (u ∷ states) zero (suc k) t other = refl
set_other (u ∷ states) (suc i) zero t other = refl
set_other (u ∷ states) (suc i) (suc k) t other = set_other states i k t (λ is. other (ap suc is))

pub none_outside : (states : List State) (i : ℕ) → slice_get states i ≡ None → length states ≤ i
none_outside [] i is = omega arith
none_outside (s ∷ states) zero is = cc is
none_outside (s ∷ states) (suc i) is = let rest = none_outside states i is in omega (arith, rest)

-- Ways

pub through_last : {leads : ℕ → List ℕ} {a b : ℕ} (c : ℕ) → LeadsTo leads a b → Contains (leads b) c → LeadsTo leads a c
through_last c (itself i) last = through _ _ _ last (itself c)
through_last c (through i next o first rest) last = through _ _ _ first (through_last c rest last)

none_in : (k : ℕ) → Contains [] k → ⊥
none_in k h = let lt : h.0 < 0 = h.1 in omega (arith, lt)

-- The stack, from the top down

-- it stands on the stack
abbrev pub Stands : ℕ → List (ℕ × ℕ) → Type 0
Stands k [] = ⊥
Stands k (e ∷ stack) = (e.0 ≡ k) ⊎ Stands k stack

-- what one leads to is done, leads back to it, or is no declaration
pub data Settled (leads : ℕ → List ℕ) (states : List State) (cycles : List ℕ) (i k : ℕ) : Type 0 where
  done : is_done (slice_get states k) ≡ true → Settled leads states cycles i k
  back : LeadsTo leads k i → Contains cycles k → Settled leads states cycles i k
  outside : length states ≤ k → Settled leads states cycles i k

-- it isn't followed yet, it is settled, or it stands right above on the stack
pub data Followed (from : ℕ → ℕ → List ℕ) (states : List State) (cycles : List ℕ) (above : Option ℕ) (i at k : ℕ) : Type 0 where
  ahead : Contains (from i at) k → Followed from states cycles above i at k
  settled : Settled (λ j. from j 0) states cycles i k → Followed from states cycles above i at k
  next_up : above ≡ Some k → Followed from states cycles above i at k

abbrev pub IsLed : (ℕ → List ℕ) → Option ℕ → ℕ → Type 0
IsLed leads None i = Unit {0}
IsLed leads (Some j) i = Contains (leads i) j

-- one on the stack, with how far it is followed
pub record Entry (from : ℕ → ℕ → List ℕ) (states : List State) (cycles : List ℕ) (above : Option ℕ) (i at : ℕ) : Type 0 where
  pub led : IsLed (λ j. from j 0) above i
  pub within : (k : ℕ) → Contains (from i at) k → Contains (from i 0) k
  pub followed : (k : ℕ) → Contains (from i 0) k → Followed from states cycles above i at k

abbrev pub Stacked : (ℕ → ℕ → List ℕ) → List State → List ℕ → Option ℕ → List (ℕ × ℕ) → Type 0
Stacked from states cycles above [] = Unit {0}
Stacked from states cycles above (e ∷ stack) = Entry from states cycles above e.0 e.1 × Stacked from states cycles (Some e.0) stack

-- what stands on the stack leads to its top
to_top : (from : ℕ → ℕ → List ℕ) (states : List State) (cycles : List ℕ) (i k : ℕ) (stack : List (ℕ × ℕ)) → Stacked from states cycles (Some i) stack → Stands k stack
    → LeadsTo (λ j. from j 0) k i
to_top from states cycles i k [] stacked stands = absurd stands
to_top from states cycles i k (e ∷ stack) stacked stands = elim stands [
  | inl same ↦ subst (λ j. LeadsTo (λ l. from l 0) j i) same (through _ _ _ stacked.0.led (itself i))
  | inr below ↦ through_last i (to_top from states cycles e.0 k stack stacked.1 below) stacked.0.led
]

-- What is settled stays so
pub record Grows (states new : List State) (cycles more : List ℕ) : Type 0 where
  pub stays : StaysDone states new
  pub len : length new ≡ length states
  pub grown : (k : ℕ) → Contains cycles k → Contains more k

settled_still : (leads : ℕ → List ℕ) (states new : List State) (cycles more : List ℕ) (i k : ℕ) → Grows states new cycles more → Settled leads states cycles i k
    → Settled leads new more i k
settled_still leads states new cycles more i k g (done is) = done (g.stays k is)
settled_still leads states new cycles more i k g (back leads_back some) = back leads_back (g.grown k some)
settled_still leads states new cycles more i k g (outside past) = outside (omega (arith, past, g.len))

followed_still : (from : ℕ → ℕ → List ℕ) (states new : List State) (cycles more : List ℕ) (above : Option ℕ) (i at k : ℕ) → Grows states new cycles more
    → Followed from states cycles above i at k → Followed from new more above i at k
followed_still from states new cycles more above i at k g (ahead h) = ahead h
followed_still from states new cycles more above i at k g (settled s) = settled (settled_still (λ j. from j 0) states new cycles more i k g s)
followed_still from states new cycles more above i at k g (next_up is) = next_up is

stacked_still : (from : ℕ → ℕ → List ℕ) (states new : List State) (cycles more : List ℕ) (above : Option ℕ) (stack : List (ℕ × ℕ)) → Grows states new cycles more
    → Stacked from states cycles above stack → Stacked from new more above stack
stacked_still from states new cycles more above [] g stacked = tt
stacked_still from states new cycles more above (e ∷ stack) g stacked = (
  record {
    led = stacked.0.led;
    within = stacked.0.within;
    followed = λ k h. followed_still from states new cycles more above e.0 e.1 k g (stacked.0.followed k h);
  },
  stacked_still from states new cycles more (Some e.0) stack g stacked.1,
)

-- the one above is settled
without_top : (from : ℕ → ℕ → List ℕ) (states : List State) (cycles : List ℕ) (j : ℕ) (stack : List (ℕ × ℕ))
    → ((i : ℕ) → Settled (λ l. from l 0) states cycles i j) → Stacked from states cycles (Some j) stack → Stacked from states cycles None stack
without_top from states cycles j [] top stacked = tt
without_top from states cycles j (e ∷ stack) top stacked = (
  record { led = tt; within = stacked.0.within; followed = λ k h. down k (stacked.0.followed k h) },
  stacked.1,
)
  where
    down : (k : ℕ) → Followed from states cycles (Some j) e.0 e.1 k → Followed from states cycles None e.0 e.1 k
    down k (ahead h) = ahead h
    down k (settled s) = settled s
    down k (next_up is) = settled (subst (λ l. Settled (λ l. from l 0) states cycles e.0 l) (cc is) (top e.0))

-- Those that are done

-- each is behind those that it leads to, but for what leads back to it and for what is no declaration
abbrev pub IsPlaced : (ℕ → List ℕ) → ℕ → List ℕ → List ℕ → Type 0
IsPlaced leads count cycles order = (front : List ℕ) (i : ℕ) (rest : List ℕ) → order ≡ front ++ i ∷ rest → (k : ℕ) → Contains (leads i) k
    → Contains front k ⊎ ((Contains cycles k × LeadsTo leads k i) ⊎ (count ≤ k))

placed_still : (leads : ℕ → List ℕ) (count : ℕ) (cycles more order : List ℕ) → ((k : ℕ) → Contains cycles k → Contains more k) → IsPlaced leads count cycles order → IsPlaced leads count more order
placed_still leads count cycles more order grows placed front i rest is k h = elim (placed front i rest is k h) [
  | inl in_it ↦ inl in_it
  | inr others ↦ inr (elim others [ inl way ↦ inl (grows k way.0, way.1) | inr past ↦ inr past ])
]

one_placed : (leads : ℕ → List ℕ) (states : List State) (cycles : List ℕ) (i : ℕ) (order : List ℕ) → IsOrder states order
    → ((k : ℕ) → Contains (leads i) k → Settled leads states cycles i k)
    → IsPlaced leads (length states) cycles order → IsPlaced leads (length states) cycles (order ++ i ∷ [])
one_placed leads states cycles i order ordered all placed front j rest is k h = elim (last_or_before order front rest i j is) [
  | inl last ↦ here (subst (λ l. Settled leads states cycles l k) (sym last.1) (all k (subst (λ l. Contains (leads l) k) last.1 h))) last.0
  | inr before ↦ placed front j before.0 before.1 k h
]
  where
    here : Settled leads states cycles j k → front ≡ order → Contains front k ⊎ ((Contains cycles k × LeadsTo leads k j) ⊎ (length states ≤ k))
    here (done is_so) same = inl (subst (λ f. Contains f k) (sym same) (in_order order k 0 (ordered k ∙ ap (λ b. cond b 1 0) is_so)))
    here (back way some) same = inr (inl (some, way))
    here (outside past) same = inr (inr past)

-- what stands on the stack is reached from this one, below which all are done
abbrev pub AreReached : (ℕ → List ℕ) → ℕ → ℕ → List (ℕ × ℕ) → Type 0
AreReached leads root count stack = (k : ℕ) → Stands k stack → LeadsTo leads root k × (root < count)

one_in_turn : (leads : ℕ → List ℕ) (low root i to : ℕ) (states : List State) (order : List ℕ) → IsOrder states order → AreDone low root states
    → LeadsTo leads root i × (root < length states) → IsInTurn leads low to order → IsInTurn leads low to (order ++ i ∷ [])
one_in_turn leads low root i to states order ordered all_done way turn front j rest is inside = elim (last_or_before order front rest i j is) [
  | inl last ↦ (
    root,
    subst (LeadsTo leads root) (sym last.1) way.0,
    λ k above under. subst (λ f. Contains f k) (sym last.0) (in_order order k 0 (ordered k ∙ ap (λ b. cond b 1 0) (all_done k above under (omega (arith, under, way.1))))),
  )
  | inr before ↦ turn front j before.0 before.1 inside
]

-- All

-- what is kept of the declarations that are followed from a root on, those below it being done
pub record Following (from : ℕ → ℕ → List ℕ) (low root : ℕ) (states : List State) (order cycles : List ℕ) (stack : List (ℕ × ℕ)) : Type 0 where
  pub ordered : IsOrder states order
  pub placed : IsPlaced (λ i. from i 0) (length states) cycles order
  pub standing : (k : ℕ) → slice_get states k ≡ Some Open → Stands k stack
  pub stacked : Stacked from states cycles None stack
  pub done : AreDone low root states
  pub reached : AreReached (λ i. from i 0) root (length states) stack
  pub in_turn : IsInTurn (λ i. from i 0) low (length states) order

-- the top is done already, or is none
pub top_gone : (from : ℕ → ℕ → List ℕ) (low root index at : ℕ) (cycles : List ℕ) (states : List State) (order : List ℕ) (below : List (ℕ × ℕ)) → slice_get states index ≢ Some Open
    → ((i : ℕ) → Settled (λ l. from l 0) states cycles i index) → Following from low root states order cycles ((index, at) ∷ below)
    → Following from low root states order cycles below
top_gone from low root index at cycles states order below shut gone f = record {
  ordered = f.ordered;
  placed = f.placed;
  standing = λ k is. elim (f.standing k is) [ inl same ↦ absurd (shut (subst (λ j. slice_get states j ≡ Some Open) (sym same) is)) | inr rest ↦ rest ];
  stacked = without_top from states cycles index below gone f.stacked.1;
  done = f.done;
  reached = λ k h. f.reached k (inr h);
  in_turn = f.in_turn;
}

none_open : (states : List State) (k : ℕ) → slice_get states k ≡ Some Done → slice_get states k ≡ Some Open → ⊥
none_open states k is_done is_open = cc (sym is_done ∙ is_open)

-- the top is done from now on
pub top_done : (from : ℕ → ℕ → List ℕ) (low root index at : ℕ) (cycles : List ℕ) (states : List State) (order : List ℕ) (below : List (ℕ × ℕ)) (s : State)
    → slice_get states index ≡ Some s → is_done (Some s) ≡ false → from index at ≡ [] → Following from low root states order cycles ((index, at) ∷ below)
    → Following from low root (set states index Done) (order ++ index ∷ []) cycles below
top_done from low root index at cycles states order below s is not_done at_end f = record {
  ordered = one_done states order index s is not_done f.ordered;
  placed = subst (λ n. IsPlaced (λ i. from i 0) n cycles (order ++ index ∷ [])) (sym (length-set states index Done))
      (one_placed (λ i. from i 0) states cycles index order f.ordered (λ k h. left k (f.stacked.0.followed k h)) f.placed);
  standing = λ k is_open. elim (same_or_not index k) [
    | inl same ↦ absurd (none_open (set states index Done) k (subst (λ j. slice_get (set states index Done) j ≡ Some Done) same (set_same states index s Done is)) is_open)
    | inr other ↦ elim (f.standing k (sym (set_other states index k Done other) ∙ is_open)) [ inl same ↦ absurd (other same) | inr rest ↦ rest ]
  ];
  stacked = without_top from (set states index Done) cycles index below (λ i. done (ap is_done (set_same states index s Done is)))
      (stacked_still from states (set states index Done) cycles cycles (Some index) below grows f.stacked.1);
  done = λ k above under inside. stays_done states index k (f.done k above under (omega (arith, inside, length-set states index Done)));
  reached = λ k h. let way = f.reached k (inr h) in (way.0, omega (arith, way.1, length-set states index Done));
  in_turn = subst (λ n. IsInTurn (λ i. from i 0) low n (order ++ index ∷ [])) (sym (length-set states index Done))
      (one_in_turn (λ i. from i 0) low root index (length states) states order f.ordered f.done (f.reached index (inl refl)) f.in_turn);
}
  where
    grows : Grows states (set states index Done) cycles cycles
    grows = record { stays = stays_done states index; len = length-set states index Done; grown = λ k h. h }

    left : (k : ℕ) → Followed from states cycles None index at k → Settled (λ l. from l 0) states cycles index k
    left k (ahead h) = absurd (none_in k (subst (λ xs. Contains xs k) at_end h))
    left k (settled s) = s
    left k (next_up is) = cc is

-- What is led to next

entry_on : (from : ℕ → ℕ → List ℕ) (states new : List State) (cycles more : List ℕ) (above : Option ℕ) (i at n behind : ℕ) → Grows states new cycles more
    → from i at ≡ n ∷ from i behind → IsLed (λ l. from l 0) above i → Followed from new more above i behind n → Entry from states cycles None i at
    → Entry from new more above i behind
entry_on from states new cycles more above i at n behind g is led next e = record {
  led = led;
  within = λ k h. e.within k (subst (λ xs. Contains xs k) (sym is) (Contains-append_right (n ∷ []) (from i behind) k h));
  followed = λ k h. on k (e.followed k h);
}
  where
    on : (k : ℕ) → Followed from states cycles None i at k → Followed from new more above i behind k
    on k (ahead h) = elim (in_front n k (from i behind) (subst (λ xs. Contains xs k) is h)) [
      | inl same ↦ subst (λ l. Followed from new more above i behind l) same next
      | inr rest ↦ ahead rest
    ]
    on k (settled s) = settled (settled_still (λ l. from l 0) states new cycles more i k g s)
    on k (next_up none) = cc none

-- it is done, is none, or leads back
pub led_on : (from : ℕ → ℕ → List ℕ) (low root i at n behind : ℕ) (cycles more : List ℕ) (states : List State) (order : List ℕ) (below : List (ℕ × ℕ)) → ((k : ℕ) → Contains cycles k → Contains more k)
    → from i at ≡ n ∷ from i behind → Settled (λ l. from l 0) states more i n → Following from low root states order cycles ((i, at) ∷ below)
    → Following from low root states order more ((i, behind) ∷ below)
led_on from low root i at n behind cycles more states order below grows is next f = record {
  ordered = f.ordered;
  placed = placed_still (λ l. from l 0) (length states) cycles more order grows f.placed;
  standing = f.standing;
  stacked = (entry_on from states states cycles more None i at n behind g is tt (settled next) f.stacked.0, stacked_still from states states cycles more (Some i) below g f.stacked.1);
  done = f.done;
  reached = f.reached;
  in_turn = f.in_turn;
}
  where
    g : Grows states states cycles more
    g = record { stays = λ k h. h; len = refl; grown = grows }

-- it leads back, since it stands on the stack
pub leads_back : (from : ℕ → ℕ → List ℕ) (low root i at n : ℕ) (cycles : List ℕ) (states : List State) (order : List ℕ) (below : List (ℕ × ℕ)) → slice_get states n ≡ Some Open
    → Following from low root states order cycles ((i, at) ∷ below) → LeadsTo (λ l. from l 0) n i
leads_back from low root i at n cycles states order below is_open f = elim (f.standing n is_open) [
  | inl same ↦ subst (λ j. LeadsTo (λ l. from l 0) j i) same (itself i)
  | inr rest ↦ to_top from states cycles i n below f.stacked.1 rest
]

stays_opened : (states : List State) (n : ℕ) → slice_get states n ≡ Some Unseen → StaysDone states (set states n Open)
stays_opened states n unseen k is = elim (same_or_not n k) [
  | inl same ↦ absurd (no_unseen (slice_get states k) (subst (λ j. slice_get states j ≡ Some Unseen) same unseen) is)
  | inr other ↦ ap is_done (set_other states n k Open other) ∙ is
]
  where
    no_unseen : (o : Option State) → o ≡ Some Unseen → is_done o ≡ true → ⊥
    no_unseen o unseen is = absurd (true≢false (sym is ∙ ap is_done unseen))

-- what isn't done is none of the order
same_order : (states : List State) (order : List ℕ) (n : ℕ) → slice_get states n ≡ Some Unseen → IsOrder states order → IsOrder (set states n Open) order
same_order states order n unseen ordered k = elim (same_or_not n k) [
  | inl same ↦ ordered k ∙ ap (λ b. cond b 1 0) (ap is_done (subst (λ j. slice_get states j ≡ Some Unseen) same unseen)
      ∙ sym (ap is_done (subst (λ j. slice_get (set states n Open) j ≡ Some Open) same (set_same states n Unseen Open unseen))))
  | inr other ↦ ordered k ∙ ap (λ o. cond (is_done o) 1 0) (sym (set_other states n k Open other))
]

-- it is opened, on top of what stands on the stack
pub opened_on : (from : ℕ → ℕ → List ℕ) (low root n : ℕ) (cycles : List ℕ) (states : List State) (order : List ℕ) (stack : List (ℕ × ℕ)) → slice_get states n ≡ Some Unseen
    → IsOrder states order → IsPlaced (λ l. from l 0) (length states) cycles order → ((k : ℕ) → slice_get states k ≡ Some Open → Stands k stack)
    → AreDone low root states → Stacked from (set states n Open) cycles (Some n) stack → AreReached (λ l. from l 0) root (length states) ((n, 0) ∷ stack)
    → IsInTurn (λ l. from l 0) low (length states) order → Following from low root (set states n Open) order cycles ((n, 0) ∷ stack)
opened_on from low root n cycles states order stack unseen ordered placed standing all_done stacked reached turn = record {
  ordered = same_order states order n unseen ordered;
  placed = subst (λ m. IsPlaced (λ l. from l 0) m cycles order) (sym (length-set states n Open)) placed;
  standing = λ k is_open. elim (same_or_not n k) [
    | inl same ↦ inl same
    | inr other ↦ inr (standing k (sym (set_other states n k Open other) ∙ is_open))
  ];
  stacked = (record { led = tt; within = λ k h. h; followed = λ k h. ahead h }, stacked);
  done = λ k above under inside. stays_opened states n unseen k (all_done k above under (omega (arith, inside, length-set states n Open)));
  reached = λ k h. let way = reached k h in (way.0, omega (arith, way.1, length-set states n Open));
  in_turn = subst (λ m. IsInTurn (λ l. from l 0) low m order) (sym (length-set states n Open)) turn;
}

pub led_to_new : (from : ℕ → ℕ → List ℕ) (low root i at n behind : ℕ) (cycles : List ℕ) (states : List State) (order : List ℕ) (below : List (ℕ × ℕ))
    → from i at ≡ n ∷ from i behind → slice_get states n ≡ Some Unseen → Following from low root states order cycles ((i, at) ∷ below)
    → Following from low root (set states n Open) order cycles ((n, 0) ∷ (i, behind) ∷ below)
led_to_new from low root i at n behind cycles states order below is unseen f =
    opened_on from low root n cycles states order ((i, behind) ∷ below) unseen f.ordered f.placed f.standing f.done (
      entry_on from states (set states n Open) cycles cycles (Some n) i at n behind g is led (next_up refl) f.stacked.0,
      stacked_still from states (set states n Open) cycles cycles (Some i) below g f.stacked.1,
    ) (λ k h. elim h [ inl same ↦ subst (λ l. LeadsTo (λ j. from j 0) root l × (root < length states)) same next_too | inr rest ↦ f.reached k rest ]) f.in_turn
  where
    g : Grows states (set states n Open) cycles cycles
    g = record { stays = stays_opened states n unseen; len = length-set states n Open; grown = λ k h. h }

    led : Contains (from i 0) n
    led = f.stacked.0.within n (subst (λ xs. Contains xs n) (sym is) (Contains-append_left (n ∷ []) (from i behind) n (Contains-push [] n)))

    next_too : LeadsTo (λ j. from j 0) root n × (root < length states)
    next_too = let way = f.reached i (inl refl) in (through_last n way.0 led, way.1)
