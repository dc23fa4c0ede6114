-- What constructors of scalars make of value types is the result of the least candidate.
use Rattle.std.proofs.Common.{◌≡◌, List, [], ◌∷◌, Option, Some, None, Ok, Err, All, refl, sym, subst}
use Rattle.wgsl_calls.proofs.Common.{All-nil, All-cons, Scalar, WgslType, scalar, IsScalar, Parameter, IsValueType, of_one_type, Refusal, Takes, scalar_call, value_converts, values_head, whole, any_scalar, above_admits, as_scalar, IsScalarCandidate, scalar_zero, scalar_conversion, IsLeastMade}
use Rattle.wgsl_calls.proofs.ChosenAmong.{least_made, none_made, least_member, only_one, IsMember}

no_argument : (s : Scalar) → IsLeastMade (IsScalarCandidate s None) [] (Ok (scalar s))
no_argument s = least_made (IsScalarCandidate s None) [] [] (scalar s) (only_one (IsScalarCandidate s None) [] [] (scalar s) scalar_zero ([], tt) only)
  where
    only : (vs : List WgslType) (r : WgslType) → IsScalarCandidate s None vs r → Takes vs [] → (vs ≡ []) × (r ≡ scalar s)
    only vs r scalar_zero k = (refl, refl)
    only vs r (scalar_conversion t) k = absurd k.1

-- a candidate that takes arguments converts one scalar
only_scalar : (s : Scalar) (a : WgslType) (ts us : List WgslType) (r : WgslType) → IsValueType a → IsScalarCandidate s None us r → Takes us (a ∷ ts) →
    (ts ≡ []) × ((t : Scalar) × (a ≡ scalar t)) × IsMember (whole ∷ []) (λ c. scalar s) us r
only_scalar s a ts us r v scalar_zero k = absurd k.1
only_scalar s a [] us r v (scalar_conversion t) ([], k) = absurd k
only_scalar s a [] us r v (scalar_conversion t) (w ∷ ws, k) =
    (refl, as_scalar a (above_admits (value_converts v k.0).0 any_scalar tt tt), record { at = scalar t; parameters = refl; result = refl })
only_scalar s a (b ∷ ts) us r v (scalar_conversion t) ([], k) = absurd k
only_scalar s a (b ∷ ts) us r v (scalar_conversion t) (w ∷ [], k) = absurd k.1
only_scalar s a (b ∷ ts) us r v (scalar_conversion t) (w ∷ x ∷ ws, k) = absurd k.1

one_scalar : (s t : Scalar) → IsLeastMade (IsScalarCandidate s None) (scalar t ∷ []) (Ok (scalar s))
one_scalar s t =
    let vs = All-cons IsValueType (scalar t) [] tt (All-nil IsValueType) in
    least_made (IsScalarCandidate s None) (scalar t ∷ []) (scalar t ∷ []) (scalar s)
    (least_member (IsScalarCandidate s None) (whole ∷ []) (λ c. scalar s) (scalar t ∷ []) (scalar t ∷ []) (scalar t) tt vs vs ([], refl, refl) (of_one_type (scalar t))
    (λ us r q k. (only_scalar s (scalar t) [] us r tt q k).2) (scalar_conversion t))

no_scalar : (s : Scalar) (a : WgslType) (ts : List WgslType) (e : Refusal) → IsValueType a → (ts ≡ [] → IsScalar a → ⊥) → IsLeastMade (IsScalarCandidate s None) (a ∷ ts) (Err e)
no_scalar s a ts e v f = none_made (IsScalarCandidate s None) (a ∷ ts) e (λ us r q k.
    let j = only_scalar s a ts us r v q k in
    f j.0 (subst IsScalar (sym j.1.1) tt))

no_template : (s : Scalar) (ps : List Parameter) (ts : List WgslType) (e : Refusal) → IsLeastMade (IsScalarCandidate s (Some ps)) ts (Err e)
no_template s ps ts e = none_made (IsScalarCandidate s (Some ps)) ts e (λ us t q k. elim q [ ])

pub scalar_made : (s : Scalar) (template : Option (List Parameter)) (ts : List WgslType) (e : Refusal) → All IsValueType ts →
    IsLeastMade (IsScalarCandidate s template) ts (scalar_call s template ts e)
scalar_made s None [] e vs = no_argument s
scalar_made s None (scalar t ∷ []) e vs = one_scalar s t
scalar_made s None (scalar t ∷ b ∷ ts) e vs = no_scalar s (scalar t) (b ∷ ts) e tt (λ p h. cc p)
scalar_made s None (a ∷ ts) e vs = no_scalar s a ts e (values_head a ts vs) (λ p h. h)
scalar_made s (Some ps) ts e vs = no_template s ps ts e
