-- What the rows of the functions with candidates ask of the first argument, and which calls they refuse for it.
use Rattle.std.proofs.Common.{ℕ, ◌⊎◌, List, [], ◌∷◌, inl, inr, refl, sym, ap, subst, ◌∙◌}
use Rattle.wgsl_rules.proofs.Common.{Scalar, AbstractInt, AbstractFloat, F32, F16, F64, vec_of, WgslType, scalar, within, vec, IsFloat, IsFloatOrVector, IsAbstractIntOrVector, Shape, Is, IsScalarOf, IsVectorOf, IsScalarOrVectorOf, RefusedThoughTaken}
use Rattle.wgsl_rules.specs.operators.Candidates.{Name, atan2, step, cross, reflect, distance, fma, smoothstep, face_forward, mix, refract, insert_bits}
use Rattle.wgsl_syntax.specs.declared.call.ScalarKind.TheVariants.{Number, Float}
use Rattle.wgsl_syntax.specs.declared.call.Shape.TheVariants.{Any, VectorOf, ScalarOrVectorOf}
use Rattle.wgsl_rules.proofs.conversion.Order.{Above, above_to_within}
use Rattle.wgsl_rules.proofs.operators.FamilyKinds.{Kind, any_type, a_number, a_float, or_vector, vector_of, Admits, above_admits, above_admitted, float_above}

-- What a row asks of its first argument: it is of the kind then, with all that it converts to.
-- A type that converts to one of the kind has the shape, or its call is one of `RefusedThoughTaken`.
pub record Shaped (n : Name) (s : Shape) (k : Kind) : Type 0 where
  pub up : (a c : WgslType) → Is s a → Above a c → Admits k c
  pub down : (a c : WgslType) (ts : List WgslType) → Above a c → Admits k c → Is s a ⊎ RefusedThoughTaken n (a ∷ ts)
  pub unfit : (a : WgslType) (ts : List WgslType) → RefusedThoughTaken n (a ∷ ts) → ¬ Is s a

number_shape : (t : WgslType) → IsScalarOrVectorOf Number t → Admits (or_vector a_number) t
number_shape (scalar s) h = h
number_shape (within (vec_of n) (scalar s)) h = h
number_shape _ h = absurd h

shape_number : (t : WgslType) → Admits (or_vector a_number) t → IsScalarOrVectorOf Number t
shape_number (scalar s) h = h
shape_number (within (vec_of n) (scalar s)) h = h
shape_number _ h = absurd h

pub float_shape : (t : WgslType) → IsScalarOrVectorOf Float t → Admits (or_vector a_float) t
float_shape (scalar s) h = h
float_shape (within (vec_of n) (scalar s)) h = h
float_shape _ h = absurd h

pub float_scalar : (t : WgslType) → Admits a_float t → IsScalarOf Float t
float_scalar (scalar s) h = h
float_scalar t h = absurd h

float_or_vector : (t : WgslType) → IsScalarOf Float t → IsScalarOrVectorOf Float t
float_or_vector (scalar s) h = h
float_or_vector t h = absurd h

-- no call is refused for its first argument
abbrev pub no_refusal : Name → Type 0
no_refusal n = (a : WgslType) (ts : List WgslType) → ¬ RefusedThoughTaken n (a ∷ ts)

pub of_numbers : (n : Name) → no_refusal n → Shaped n (ScalarOrVectorOf Number) (or_vector a_number)
of_numbers n r = record {
  up = λ a c h k. above_admitted k (or_vector a_number) tt (number_shape a h);
  down = λ a c ts k h. inl (shape_number a (above_admits k (or_vector a_number) tt h));
  unfit = λ a ts h k. r a ts h;
}

pub of_any : (n : Name) → no_refusal n → Shaped n Any any_type
of_any n r = record { up = λ a c h k. tt; down = λ a c ts k h. inl tt; unfit = λ a ts h k. r a ts h }

number_vector : (t : WgslType) → IsVectorOf Number t → Admits (vector_of a_number) t
number_vector (within (vec_of n) (scalar s)) h = h
number_vector _ h = absurd h

vector_number : (t : WgslType) → Admits (vector_of a_number) t → IsVectorOf Number t
vector_number (within (vec_of n) (scalar s)) h = h
vector_number _ h = absurd h

pub of_number_vectors : (n : Name) → no_refusal n → Shaped n (VectorOf Number) (vector_of a_number)
of_number_vectors n r = record {
  up = λ a c h k. above_admitted k (vector_of a_number) tt (number_vector a h);
  down = λ a c ts k h. inl (vector_number a (above_admits k (vector_of a_number) tt h));
  unfit = λ a ts h k. r a ts h;
}

pub no_int_float : (t : WgslType) → IsAbstractIntOrVector t → ¬ IsScalarOrVectorOf Float t
no_int_float (scalar AbstractInt) h k = k
no_int_float (within (vec_of n) (scalar AbstractInt)) h k = k
no_int_float t h k = h

no_int_float_vector : (t : WgslType) → IsAbstractIntOrVector t → ¬ IsVectorOf Float t
no_int_float_vector (within (vec_of n) (scalar AbstractInt)) h k = k
no_int_float_vector (scalar s) h k = k
no_int_float_vector t h k = h

-- a vector that converts to a vector of floats
float_vector_above : (a e : WgslType) (n : ℕ) → Above a (vec n e) → Admits a_float e → IsVectorOf Float a ⊎ IsAbstractIntOrVector a
float_vector_above a e n k h =
    let x = above_to_within k (vec_of n) e refl in
    elim (float_above x.2 h) [
      | inl m ↦ inl (subst (λ a. IsVectorOf Float a) (sym x.1) (float_scalar x.0 m))
      | inr m ↦ inr (subst IsAbstractIntOrVector (sym (x.1 ∙ ap (λ t. vec n t) m.0)) tt)
    ]

vector_shape : (t : WgslType) → IsVectorOf Float t → IsScalarOrVectorOf Float t
vector_shape (within (vec_of n) t) h = h
vector_shape t h = absurd h

pub float_or_vector_above : (a c : WgslType) → Above a c → Admits (or_vector a_float) c → IsScalarOrVectorOf Float a ⊎ IsAbstractIntOrVector a
float_or_vector_above a (scalar s) k h =
    elim (float_above k h) [
      | inl m ↦ inl (float_or_vector a (float_scalar a m))
      | inr m ↦ inr (subst IsAbstractIntOrVector (sym m.0) tt)
    ]
float_or_vector_above a (within (vec_of n) e) k h = elim (float_vector_above a e n k h) [ inl m ↦ inl (vector_shape a m) | inr m ↦ inr m ]
float_or_vector_above a c k h = absurd h

-- a call is refused exactly if its first argument is an abstract integer or a vector of it
abbrev pub ints_refused : Name → Type 0
ints_refused n =
    ((a : WgslType) (ts : List WgslType) → RefusedThoughTaken n (a ∷ ts) → IsAbstractIntOrVector a) × ((a : WgslType) (ts : List WgslType) → IsAbstractIntOrVector a → RefusedThoughTaken n (a ∷ ts))

pub of_floats : (n : Name) → ints_refused n → Shaped n (ScalarOrVectorOf Float) (or_vector a_float)
of_floats n r = record {
  up = λ a c h k. above_admitted k (or_vector a_float) tt (float_shape a h);
  down = λ a c ts k h. elim (float_or_vector_above a c k h) [ inl m ↦ inl m | inr m ↦ inr (r.1 a ts m) ];
  unfit = λ a ts h. no_int_float a (r.0 a ts h);
}

float_vector : (t : WgslType) → IsVectorOf Float t → Admits (vector_of a_float) t
float_vector (within (vec_of n) (scalar s)) h = h
float_vector _ h = absurd h

pub of_float_vectors : (n : Name) → ints_refused n → Shaped n (VectorOf Float) (vector_of a_float)
of_float_vectors n r = record {
  up = λ a c h k. above_admitted k (vector_of a_float) tt (float_vector a h);
  down = down;
  unfit = λ a ts h. no_int_float_vector a (r.0 a ts h);
}
  where
    down : (a c : WgslType) (ts : List WgslType) → Above a c → Admits (vector_of a_float) c → IsVectorOf Float a ⊎ RefusedThoughTaken n (a ∷ ts)
    down a (within (vec_of n) e) ts k h = elim (float_vector_above a e n k h) [ inl m ↦ inl m | inr m ↦ inr (r.1 a ts m) ]
    down a c ts k h = absurd h

-- Whether a call is one of `RefusedThoughTaken`

dec_int : (t : WgslType) → Dec (IsAbstractIntOrVector t)
dec_int (scalar AbstractInt) = yes tt
dec_int (within (vec_of n) (scalar AbstractInt)) = yes tt
dec_int t = no (λ h. h)

dec_float_scalar : (s : Scalar) → Dec (IsFloat s)
dec_float_scalar AbstractFloat = yes tt
dec_float_scalar F32 = yes tt
dec_float_scalar F16 = yes tt
dec_float_scalar F64 = yes tt
dec_float_scalar s = no (λ h. h)

dec_float : (t : WgslType) → Dec (IsFloatOrVector t)
dec_float (scalar s) = dec_float_scalar s
dec_float (within (vec_of n) (scalar s)) = dec_float_scalar s
dec_float t = no (λ h. h)

pub dec_refused : (n : Name) (ts : List WgslType) → Dec (RefusedThoughTaken n ts)
dec_refused atan2 (a ∷ ts) = dec_int a
dec_refused step (a ∷ ts) = dec_int a
dec_refused distance (a ∷ ts) = dec_int a
dec_refused cross (a ∷ ts) = dec_int a
dec_refused reflect (a ∷ ts) = dec_int a
dec_refused fma (a ∷ ts) = dec_int a
dec_refused smoothstep (a ∷ ts) = dec_int a
dec_refused face_forward (a ∷ ts) = dec_int a
dec_refused mix (within (vec_of n) e ∷ b ∷ scalar s ∷ []) = dec_int (scalar s)
dec_refused mix (a ∷ ts) = dec_int a
dec_refused refract (a ∷ b ∷ c ∷ ts) = dec_int c
dec_refused insert_bits (a ∷ ts) = dec_float a
dec_refused n ts = no (λ h. h)
