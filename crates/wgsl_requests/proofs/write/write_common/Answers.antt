use Rattle.wgsl_requests.proofs.Shared.{◌≡◌, ℕ, List, [], ◌∷◌, Option, Some, None, map, refl, sym, ap, subst, ◌∙◌, option_and_then, option_map, WgslType}
use Rattle.wgsl_requests.proofs.Shared.{ConvertsTo, left_common_once, receives_nil, receives_cons, receives_head, receives_tail, view}
use Rattle.wgsl_rules.specs.conversion.Common.{IsLeftCommon, of_no_types}
use Rattle.wgsl_rules.specs.conversion.Converted.{all_to}
use Rattle.wgsl_rules.specs.Headline.{Receives}
use Rattle.wgsl_rules.proofs.conversion.Order.{dec_converts}
use Rattle.wgsl_core.proofs.Converted.{converted_some, converted_none}
use Rattle.wgsl_types.specs.Typed.{on_line, typed, typed_to}
use Rattle.wgsl_types.specs.declared.typed.Typed.{Typed}
use Rattle.wgsl_requests.specs.Answers.{IsReceivedCommon, common_is}
use Rattle.wgsl_requests.specs.Views.{first_type_of}
use Rattle.wgsl_requests.proofs.write.write_common.Goals as goal

-- values that convert together have their common type
abbrev Lines : Type 0
Lines = List (WgslType × ℕ)

abbrev types_of : List Typed → List WgslType
types_of = map (λ (x : Typed). view x.ty)

-- each value converts to t, and what it becomes is t on its line
record AllConvert (t : WgslType) (xs : List Typed) (ys : Lines) : Type 0 where
  receives : Receives t (types_of xs)
  kept : ys ≡ map (λ (x : Typed). (t, x.line)) xs

-- one more value, of which its conversion is known
abbrev onto : Typed → Option WgslType → Option Lines → Option Lines
onto x o r = option_and_then (λ y. option_map (λ ys. y ∷ ys) r) (on_line x.line o)

all_converted : (t : WgslType) (xs : List Typed) (ys : Lines) → all_to typed_to t xs ≡ Some ys → AllConvert t xs ys
all_converted t [] ys h = let e : [] ≡ ys = cc h in record { receives = receives_nil t; kept = sym e }
all_converted t (x ∷ xs) ys h = elim (dec_converts (view x.ty) t) [
  | yes c ↦ go (all_to typed_to t xs) (all_converted t xs) c (subst (λ o. onto x o (all_to typed_to t xs) ≡ Some ys) (converted_some (view x.ty) t c) h)
  | no n ↦ absurd (stuck (subst (λ o. onto x o (all_to typed_to t xs) ≡ Some ys) (converted_none (view x.ty) t n) h))
]
  where
    go : (r : Option Lines) → ((zs : Lines) → r ≡ Some zs → AllConvert t xs zs) → ConvertsTo (view x.ty) t → onto x (Some t) r ≡ Some ys → AllConvert t (x ∷ xs) ys
    go None more c e = absurd (cc e)
    go (Some zs) more c e =
        let k : (t, x.line) ∷ zs ≡ ys = cc e in
        let m = more zs refl in
        record { receives = receives_cons t (view x.ty) (types_of xs) c m.receives; kept = sym k ∙ ap (λ (us : Lines). (t, x.line) ∷ us) m.kept }

    stuck : onto x None (all_to typed_to t xs) ≡ Some ys → ⊥
    stuck e = cc e

received_convert : (t : WgslType) (xs : List Typed) → Receives t (types_of xs) → all_to typed_to t xs ≡ Some (map (λ (x : Typed). (t, x.line)) xs)
received_convert t [] g = refl
received_convert t (x ∷ xs) g =
    let c = receives_head t (view x.ty) (types_of xs) g in
    let more = received_convert t xs (receives_tail t (view x.ty) (types_of xs) g) in
    ap (λ o. onto x o (all_to typed_to t xs)) (converted_some (view x.ty) t c) ∙ ap (λ r. onto x (Some t) r) more

-- the first of the converted values has the common type to which all convert; without one there is none
first_received : {V : Type 0} (items : V → List Typed) (xs : List Typed) (r : Option V) (c : Option WgslType) → IsLeftCommon (types_of xs) c →
    option_map (λ v. map typed (items v)) r ≡ option_and_then (λ t. all_to typed_to t xs) c → IsReceivedCommon (types_of xs) (first_type_of (option_map items r))
first_received items xs None None h e = λ t k g. let q : None ≡ Some t = left_common_once (types_of xs) None (Some t) h k in absurd (cc q)
first_received items xs None (Some c) h e = λ t k g.
    let q : Some c ≡ Some t = left_common_once (types_of xs) (Some c) (Some t) h k in
    let s : t ≡ c = cc q in
    absurd (cc (e ∙ received_convert c xs (subst (λ t. Receives t (types_of xs)) s g)))
first_received items xs (Some v) None h e = absurd (cc e)
first_received items xs (Some v) (Some c) h e = at xs (items v) h (all_converted c xs (map typed (items v)) (sym e))
  where
    at : (xs ys : List Typed) → IsLeftCommon (types_of xs) (Some c) → AllConvert c xs (map typed ys) → IsReceivedCommon (types_of xs) (first_type_of (Some ys))
    at [] ys h m = let q : None ≡ Some c = left_common_once [] None (Some c) of_no_types h in absurd (cc q)
    at (x ∷ xs) [] h m = absurd (cc m.kept)
    at (x ∷ xs) (y ∷ ys) h m =
        let k : typed y ≡ (c, x.line) = cc m.kept in
        let s : c ≡ view y.ty = sym (ap (λ (p : WgslType × ℕ). p.0) k) in
        subst (λ t. IsReceivedCommon (types_of (x ∷ xs)) (Some t)) s (h, m.receives)

pub returns : goal.returns
returns c =
    let all = c.in_ok-converted.ensures.value in
    let received = first_received (λ v. v.items) c.args.values.now c.in_ok-converted.converted all.0 all.1 all.2 in
    (_, (_, common_is _ (subst (λ t. IsReceivedCommon (types_of c.args.values.now) t) (sym c.first_type.ensures) received), refl, refl), c.in_ok-written.ensures)
