-- Declarations that are found, and those that are left.
use Rattle.std.proofs.Common.{◌≡◌, ◌∙◌, ◌+◌, ◌<◌, ◌≤◌, ℕ, List, [], ◌∷◌, ◌++◌, Bool, true, false, ◌||◌, Option, Some, None, ap, append_assoc, arith, cond, drop, drop-cons, get_or, is_some, length, map, refl, slice_range, subst, suc, sym, unwrap_or}
use Rattle.std.proofs.lemmas.List.{append-nil, drop_all, map_push}
use Rattle.std.proofs.lemmas.List.Edits.{between_more, between_none}
use Rattle.wgsl_module.specs.Declarations.{Written, begins, begun, body_up_to, ended, name_of, unless_ended, with_end, with_event, with_name, written, written_in}
use Rattle.wgsl_module.specs.declared.declaration.Declaration.{Declaration}
use Rattle.wgsl_module.specs.declared.declaration.DeclarationKind.{DeclarationKind}
use Rattle.wgsl_reader.specs.declared.read.Event.{Event}

-- What is left

-- declarations, the first of which began with these events and with this of its body
abbrev with_front : List Event → List Event → List Written → List Written
with_front own body [] = []
with_front own body (d ∷ ds) = with_name d.kind (own ++ d.events) (body ++ d.body) ∷ ds

without_front : (in_body : Bool) (events : List Event) → with_front [] [] (written_in in_body events) ≡ written_in in_body events
without_front in_body [] = refl
without_front in_body (e ∷ events) = all (ended e.mark in_body) (in_body || begins e.mark) (written_in (unless_ended (ended e.mark in_body) (in_body || begins e.mark)) events)
  where
    one : (b : Bool) (ds : List Written) → with_front [] [] (with_event b e ds) ≡ with_event b e ds
    one b [] = refl
    one true (d ∷ ds) = refl
    one false (d ∷ ds) = refl

    all : (kind : Option DeclarationKind) (b : Bool) (ds : List Written) → with_front [] [] (with_end kind b e ds) ≡ with_end kind b e ds
    all (Some kind) b ds = refl
    all None b ds = one b ds

in_front : (own body : List Event) (e : Event) (ds : List Written) → with_front own body (with_event false e ds) ≡ with_front (own ++ e ∷ []) body ds
in_front own body e [] = refl
in_front own body e (d ∷ ds) = ap (λ es. with_name d.kind es (body ++ d.body) ∷ ds) (sym (append_assoc own (e ∷ []) d.events))

in_its_body : (own body : List Event) (e : Event) (ds : List Written) → with_front own body (with_event true e ds) ≡ with_front own (body ++ e ∷ []) ds
in_its_body own body e [] = refl
in_its_body own body e (d ∷ ds) = ap (λ es. with_name d.kind (own ++ d.events) es ∷ ds) (sym (append_assoc body (e ∷ []) d.body))

-- from an index on
abbrev left : List Event → ℕ → Option ℕ → ℕ → List Written
left events from body i = with_front (slice_range events from (unwrap_or body i)) (body_up_to events body i) (written_in (is_some body) (drop i events))

-- declarations that are found, and those that are left, are all
pub record Found (events : List Event) (ds : List Declaration) (from : ℕ) (body : Option ℕ) (i : ℕ) : Type 0 where
  pub all : map written ds ++ left events from body i ≡ written_in false events
  pub above : from ≤ unwrap_or body i
  pub below : unwrap_or body i ≤ i

pub none_found : (events : List Event) → Found events [] 0 None 0
none_found events = record { all = ap (λ own. with_front own [] (written_in false events)) (between_none events 0) ∙ without_front false events; above = omega arith; below = omega arith }

next_of : (events : List Event) (i : ℕ) (d : Event) → i < length events → drop i events ≡ get_or events i d ∷ drop (i + 1) events
next_of events i d inside = let next : suc i ≡ i + 1 = omega arith in subst (λ k. drop i events ≡ get_or events i d ∷ drop k events) next (drop-cons events i d inside)

pub all_found : (events : List Event) (ds : List Declaration) (from : ℕ) (body : Option ℕ) (i : ℕ) → length events ≤ i → Found events ds from body i
    → map written ds ≡ written_in false events
all_found events ds from body i end found = sym (append-nil (map written ds))
    ∙ subst (λ es. map written ds ++ with_front (slice_range events from (unwrap_or body i)) (body_up_to events body i) (written_in (is_some body) es) ≡ written_in false events)
    (drop_all i events end) found.all

-- one that ends
ended_left : (own body : List Event) (e : Event) (in_body : Bool) (kind : DeclarationKind) (events : List Event) → ended e.mark in_body ≡ Some kind
    → with_front own body (written_in in_body (e ∷ events)) ≡ with_name kind own body ∷ written_in false events
ended_left own body e in_body kind events is =
    ap (λ k. with_front own body (with_end k (in_body || begins e.mark) e (written_in (unless_ended k (in_body || begins e.mark)) events))) is
    ∙ (ap (λ es. with_name kind es (body ++ []) ∷ written_in false events) (append-nil own)
    ∙ ap (λ es. with_name kind own es ∷ written_in false events) (append-nil body))

pub found_one : (events : List Event) (ds : List Declaration) (from : ℕ) (body : Option ℕ) (i : ℕ) (d : Event) (x : Declaration) → i < length events
    → ended (get_or events i d).mark (is_some body) ≡ Some x.kind → x.events.now ≡ slice_range events from (unwrap_or body i) → x.body.now ≡ body_up_to events body i
    → x.named ≡ name_of x.kind x.events.now → Found events ds from body i → Found events (ds ++ x ∷ []) (i + 1) None (i + 1)
found_one events ds from body i d x inside is own begun named found =
    let rest = written_in false (drop (i + 1) events) in
    let all = subst (λ es. map written ds ++ with_front (slice_range events from (unwrap_or body i)) (body_up_to events body i) (written_in (is_some body) es) ≡ written_in false events)
    (next_of events i d inside) found.all in
    let one = ended_left (slice_range events from (unwrap_or body i)) (body_up_to events body i) (get_or events i d) (is_some body) x.kind (drop (i + 1) events) is in
    let here : written x ∷ rest ≡ with_name x.kind (slice_range events from (unwrap_or body i)) (body_up_to events body i) ∷ rest =
    ap (λ name. record { kind = x.kind; named = name; events = x.events.now; body = x.body.now } ∷ rest) named
    ∙ (ap (λ es. with_name x.kind es x.body.now ∷ rest) own ∙ ap (λ es. with_name x.kind (slice_range events from (unwrap_or body i)) es ∷ rest) begun) in
    let none : left events (i + 1) None (i + 1) ≡ rest = ap (λ es. with_front es [] rest) (between_none events (i + 1)) ∙ without_front false (drop (i + 1) events) in
    record {
      all = ap (λ ws. map written (ds ++ x ∷ []) ++ ws) none ∙ (ap (λ ws. ws ++ rest) (map_push written ds x)
          ∙ (append_assoc (map written ds) (written x ∷ []) rest ∙ (ap (λ ws. map written ds ++ ws) (here ∙ sym one) ∙ all)));
      above = omega arith;
      below = omega arith;
    }

-- one that goes on
further : (b : Bool) (events : List Event) (from : ℕ) (i : ℕ) (e : Event) (ds : Bool → List Written)
    → slice_range events from (i + 1) ≡ slice_range events from i ++ e ∷ [] → slice_range events i (i + 1) ≡ e ∷ []
    → with_front (slice_range events from i) [] (with_event b e (ds b))
    ≡ with_front (slice_range events from (unwrap_or (cond b (Some i) None) (i + 1))) (body_up_to events (cond b (Some i) None) (i + 1)) (ds (is_some (cond b (Some i) None)))
further true events from i e ds own body = in_its_body (slice_range events from i) [] e (ds true) ∙ ap (λ es. with_front (slice_range events from i) es (ds true)) (sym body)
further false events from i e ds own body = in_front (slice_range events from i) [] e (ds false) ∙ ap (λ es. with_front es [] (ds false)) (sym own)

goes_on : (own body : List Event) (e : Event) (in_body : Bool) (events : List Event) → ended e.mark in_body ≡ None
    → with_front own body (written_in in_body (e ∷ events)) ≡ with_front own body (with_event (in_body || begins e.mark) e (written_in (in_body || begins e.mark) events))
goes_on own body e in_body events is = ap (λ k. with_front own body (with_end k (in_body || begins e.mark) e (written_in (unless_ended k (in_body || begins e.mark)) events))) is

begun_at : (b : Bool) (from i : ℕ) → from ≤ i → (from ≤ unwrap_or (cond b (Some i) None) (i + 1)) × (unwrap_or (cond b (Some i) None) (i + 1) ≤ i + 1)
begun_at true from i above = (above, omega arith)
begun_at false from i above = (omega (arith, above), omega arith)

pub read_one : (events : List Event) (ds : List Declaration) (from : ℕ) (body : Option ℕ) (i : ℕ) (d : Event) → i < length events
    → ended (get_or events i d).mark (is_some body) ≡ None → Found events ds from body i → Found events ds from (begun (get_or events i d).mark i body) (i + 1)
read_one events ds from None i d inside is found =
    let e = get_or events i d in
    let rest = drop (i + 1) events in
    let all = subst (λ es. map written ds ++ with_front (slice_range events from i) [] (written_in false es) ≡ written_in false events) (next_of events i d inside) found.all in
    let at = begun_at (begins e.mark) from i found.above in
    let own = between_more events from i d found.above inside in
    let body = between_more events i i d (omega arith) inside ∙ ap (λ es. es ++ e ∷ []) (between_none events i) in
    let on = goes_on (slice_range events from i) [] e false rest is ∙ further (begins e.mark) events from i e (λ b. written_in b rest) own body in
    record { all = ap (λ ws. map written ds ++ ws) (sym on) ∙ all; above = at.0; below = at.1 }
read_one events ds from (Some begin) i d inside is found =
    let e = get_or events i d in
    let rest = drop (i + 1) events in
    let own = slice_range events from begin in
    let all = subst (λ es. map written ds ++ with_front own (slice_range events begin i) (written_in true es) ≡ written_in false events) (next_of events i d inside) found.all in
    let on = goes_on own (slice_range events begin i) e true rest is ∙ (in_its_body own (slice_range events begin i) e (written_in true rest)
    ∙ ap (λ es. with_front own es (written_in true rest)) (sym (between_more events begin i d found.below inside))) in
    record { all = ap (λ ws. map written ds ++ ws) (sym on) ∙ all; above = found.above; below = omega (arith, found.below) }
