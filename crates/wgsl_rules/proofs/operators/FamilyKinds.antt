-- The types that a family admits, and the outer layers of operands.
use Rattle.std.proofs.Common.{◌≡◌, ℕ, ◌⊎◌, ◌↔◌, List, [], ◌∷◌, All, refl, sym, ap, subst, ◌∙◌, inl, inr, arith}
use Rattle.wgsl_rules.proofs.Common.{Scalar, Bool, AbstractInt, AbstractFloat, I32, U32, I64, U64, F32, F16, ResultFunction, ResultShape, ResultPrecision, Layer, vec_of, WgslType, scalar, within, result_struct, IsInteger, IsFloat, IsNumeric, IsScalarOrVector, HasRanks}
use Rattle.wgsl_syntax.specs.declared.result_struct.ResultPrecision.TheVariants as precision
use Rattle.wgsl_rules.specs.conversion.Conversion.{BaseStep, int_to_float, int_to_i32, int_to_u32, int_to_i64, int_to_u64, float_to_f32, float_to_f16, result_to_f32, result_to_f16, Step, base, inside, IsValueType}
use Rattle.wgsl_rules.proofs.conversion.Steps.{depth}
use Rattle.wgsl_rules.proofs.conversion.Order.{Above, here, further, above_level, above_inside, above_to_within, above_from_within, value_converts}
use Rattle.wgsl_rules.proofs.conversion.Commons.{values_head, values_tail}

-- The types c that a family admits

pub data Kind : Type 0 where
  any_type any_scalar an_integer a_number a_float a_bool an_integer_or_bool scalar_or_vector no_type : Kind
  or_vector vector_of : Kind → Kind

abbrev pub IsBool : Scalar → Type 0
IsBool Bool = Unit {0}
IsBool s = ⊥

abbrev pub Admits : Kind → WgslType → Type 0
Admits any_type c = Unit {0}
Admits any_scalar (scalar s) = Unit {0}
Admits an_integer (scalar s) = IsInteger s
Admits a_number (scalar s) = IsNumeric s
Admits a_float (scalar s) = IsFloat s
Admits a_bool (scalar s) = IsBool s
Admits an_integer_or_bool (scalar s) = IsInteger s ⊎ IsBool s
Admits scalar_or_vector c = IsScalarOrVector c
Admits (or_vector k) (scalar s) = Admits k (scalar s)
Admits (or_vector k) (within (vec_of n) c) = Admits k c
Admits (vector_of k) (within (vec_of n) c) = Admits k c
Admits k c = ⊥

-- if a type of the kind is admitted, so is each type that converts to it
abbrev pub IsDown : Kind → Type 0
IsDown a_float = ⊥
IsDown (or_vector k) = IsDown k
IsDown (vector_of k) = IsDown k
IsDown k = Unit {0}

admits_int : (k : Kind) (s : Scalar) → IsDown k → ¬ IsBool s → Admits k (scalar s) → Admits k (scalar AbstractInt)
admits_int a_float s d n h = absurd d
admits_int a_bool s d n h = absurd (n h)
admits_int an_integer_or_bool s d n h = inl tt
admits_int no_type s d n h = absurd h
admits_int (or_vector k) s d n h = admits_int k s d n h
admits_int (vector_of k) s d n h = absurd h
admits_int _ s d n h = tt

admits_float : (k : Kind) (s : Scalar) → IsDown k → ¬ IsBool s → ¬ IsInteger s → Admits k (scalar s) → Admits k (scalar AbstractFloat)
admits_float an_integer s d n m h = absurd (m h)
admits_float a_float s d n m h = absurd d
admits_float a_bool s d n m h = absurd (n h)
admits_float an_integer_or_bool s d n m (inl h) = absurd (m h)
admits_float an_integer_or_bool s d n m (inr h) = absurd (n h)
admits_float no_type s d n m h = absurd h
admits_float (or_vector k) s d n m h = admits_float k s d n m h
admits_float (vector_of k) s d n m h = absurd h
admits_float _ s d n m h = tt

admits_result : (k : Kind) (m : ResultFunction) (s : ResultShape) (p q : ResultPrecision) → Admits k (result_struct m s p) → Admits k (result_struct m s q)
unfolding result_struct
admits_result any_type m s p q h = tt
admits_result _ m s p q h = absurd h

base_admits : {t u : WgslType} {w : ℕ} → BaseStep t u w → (k : Kind) → IsDown k → Admits k u → Admits k t
base_admits int_to_float k d h = admits_int k AbstractFloat d (λ n. n) h
base_admits int_to_i32 k d h = admits_int k I32 d (λ n. n) h
base_admits int_to_u32 k d h = admits_int k U32 d (λ n. n) h
base_admits int_to_i64 k d h = admits_int k I64 d (λ n. n) h
base_admits int_to_u64 k d h = admits_int k U64 d (λ n. n) h
base_admits float_to_f32 k d h = admits_float k F32 d (λ n. n) (λ n. n) h
base_admits float_to_f16 k d h = admits_float k F16 d (λ n. n) (λ n. n) h
base_admits (result_to_f32 m s) k d h = admits_result k m s precision.F32 precision.Abstract h
base_admits (result_to_f16 m s) k d h = admits_result k m s precision.F16 precision.Abstract h

-- a property of the types inside a layer is one of the layer
abbrev Passes : (Kind → Type 0) → WgslType → WgslType → Type 0
Passes Q t u = (k : Kind) → Q k → Admits k t → Admits k u

layer_passes : (Q : Kind → Type 0) → ((k : Kind) → Q (or_vector k) → Q k) → ((k : Kind) → Q (vector_of k) → Q k) → (l : Layer) (t u : WgslType) →
    Passes Q t u → Passes Q (within l t) (within l u)
layer_passes Q o v l t u f any_type q h = tt
layer_passes Q o v (vec_of n) t u f scalar_or_vector q h = tt
layer_passes Q o v (vec_of n) t u f (or_vector k) q h = f k (o k q) h
layer_passes Q o v (vec_of n) t u f (vector_of k) q h = f k (v k q) h
layer_passes _ o v l t u f _ q h = absurd h

step_admits : {t u : WgslType} {w : ℕ} → Step t u w → (k : Kind) → IsDown k → Admits k u → Admits k t
step_admits (base b) k d h = base_admits b k d h
step_admits (inside {t = t} {u = u} l s) k d h = layer_passes IsDown (λ k d. d) (λ k d. d) l u t (step_admits s) k d h

pub above_admits : {t u : WgslType} → Above t u → (k : Kind) → IsDown k → Admits k u → Admits k t
above_admits here k d h = h
above_admits (further a s) k d h = above_admits a k d (step_admits s k d h)

-- if a type of the kind is admitted, so is each type that it converts to
abbrev pub IsUp : Kind → Type 0
IsUp an_integer = ⊥
IsUp an_integer_or_bool = ⊥
IsUp (or_vector k) = IsUp k
IsUp (vector_of k) = IsUp k
IsUp k = Unit {0}

admitted_scalar : (k : Kind) (s r : Scalar) → IsUp k → ¬ IsBool s → (IsFloat s → IsFloat r) → IsNumeric r → Admits k (scalar s) → Admits k (scalar r)
admitted_scalar an_integer s r u n f m h = absurd u
admitted_scalar a_number s r u n f m h = m
admitted_scalar a_float s r u n f m h = f h
admitted_scalar a_bool s r u n f m h = absurd (n h)
admitted_scalar an_integer_or_bool s r u n f m h = absurd u
admitted_scalar no_type s r u n f m h = absurd h
admitted_scalar (or_vector k) s r u n f m h = admitted_scalar k s r u n f m h
admitted_scalar (vector_of k) s r u n f m h = absurd h
admitted_scalar _ s r u n f m h = tt

base_admitted : {t u : WgslType} {w : ℕ} → BaseStep t u w → (k : Kind) → IsUp k → Admits k t → Admits k u
base_admitted int_to_float k u h = admitted_scalar k AbstractInt AbstractFloat u (λ n. n) (λ n. tt) tt h
base_admitted int_to_i32 k u h = admitted_scalar k AbstractInt I32 u (λ n. n) (λ n. n) tt h
base_admitted int_to_u32 k u h = admitted_scalar k AbstractInt U32 u (λ n. n) (λ n. n) tt h
base_admitted int_to_i64 k u h = admitted_scalar k AbstractInt I64 u (λ n. n) (λ n. n) tt h
base_admitted int_to_u64 k u h = admitted_scalar k AbstractInt U64 u (λ n. n) (λ n. n) tt h
base_admitted float_to_f32 k u h = admitted_scalar k AbstractFloat F32 u (λ n. n) (λ n. n) tt h
base_admitted float_to_f16 k u h = admitted_scalar k AbstractFloat F16 u (λ n. n) (λ n. n) tt h
base_admitted (result_to_f32 m s) k u h = admits_result k m s precision.Abstract precision.F32 h
base_admitted (result_to_f16 m s) k u h = admits_result k m s precision.Abstract precision.F16 h

step_admitted : {t u : WgslType} {w : ℕ} → Step t u w → (k : Kind) → IsUp k → Admits k t → Admits k u
step_admitted (base b) k u h = base_admitted b k u h
step_admitted (inside {t = t} {u = v} l s) k u h = layer_passes IsUp (λ k u. u) (λ k u. u) l t v (step_admitted s) k u h

pub above_admitted : {t u : WgslType} → Above t u → (k : Kind) → IsUp k → Admits k t → Admits k u
above_admitted here k u h = h
above_admitted (further a s) k u h = step_admitted s k u (above_admitted a k u h)

-- Outer layers, which conversion keeps

pub data Outer : Type 0 where
  plain : Outer
  layer : Layer → Outer

abbrev pub outer : WgslType → Outer
outer (within l t) = layer l
outer t = plain

abbrev pub outers : List WgslType → List Outer
outers [] = []
outers (t ∷ ts) = outer t ∷ outers ts

base_outer : {t u : WgslType} {w : ℕ} → BaseStep t u w → outer t ≡ outer u
unfolding result_struct
base_outer int_to_float = refl
base_outer _ = refl

step_outer : {t u : WgslType} {w : ℕ} → Step t u w → outer t ≡ outer u
step_outer (base b) = base_outer b
step_outer (inside l s) = refl

pub above_outer : {t u : WgslType} → Above t u → outer t ≡ outer u
above_outer here = refl
above_outer (further a s) = above_outer a ∙ step_outer s

pub ranked_outers : (ts us : List WgslType) (ws : List ℕ) → All IsValueType ts → HasRanks ts us ws → outers ts ≡ outers us
ranked_outers [] [] ws vs h = refl
ranked_outers [] (u ∷ us) ws vs h = absurd h
ranked_outers (t ∷ ts) [] ws vs h = absurd h
ranked_outers (t ∷ ts) (u ∷ us) [] vs h = absurd h
ranked_outers (t ∷ ts) (u ∷ us) (w ∷ ws) vs h =
    let v = values_head t ts vs in
    let e = above_outer (value_converts v h.0).0 in
    let k = ranked_outers ts us ws (values_tail t ts vs) h.1 in
    cc (e, k)

-- The least admitted type: b itself, or, if b is an abstract integer or a vector of it and the kind has floats only, the
-- abstract float or the vector of it

pub record IsLeastAdmitted (k : Kind) (b d : WgslType) : Type 0 where
  pub above : Above b d
  pub admitted : Admits k d
  pub least : (c : WgslType) → Above b c → Admits k c → Above d c

pub int_above : {t u : WgslType} → Above t u → u ≡ scalar AbstractInt → t ≡ scalar AbstractInt
int_above {t} a e = above_level a (omega (arith, ap depth e)) ∙ e

float_step : {t u : WgslType} {w : ℕ} → Step t u w → Admits a_float u → Admits a_float t ⊎ (t ≡ scalar AbstractInt) × (u ≡ scalar AbstractFloat)
float_step (base b) h = float_base b h
  where
    float_base : {t u : WgslType} {w : ℕ} → BaseStep t u w → Admits a_float u → Admits a_float t ⊎ (t ≡ scalar AbstractInt) × (u ≡ scalar AbstractFloat)
    float_base int_to_float h = inr (refl, refl)
    float_base float_to_f32 h = inl tt
    float_base float_to_f16 h = inl tt
    float_base (result_to_f32 m s) h = inl (admits_result a_float m s precision.F32 precision.Abstract h)
    float_base (result_to_f16 m s) h = inl (admits_result a_float m s precision.F16 precision.Abstract h)
    float_base _ h = absurd h
float_step (inside l s) h = absurd h

-- a type that converts to a float is a float or an abstract integer
pub float_above : {t u : WgslType} → Above t u → Admits a_float u → Admits a_float t ⊎ (t ≡ scalar AbstractInt) × Above (scalar AbstractFloat) u
float_above here h = inl h
float_above {t} (further {v = v} a s) h = past a s (float_step s h) (float_above a)
  where
    past : {u : WgslType} {w : ℕ} → Above t u → Step u v w → Admits a_float u ⊎ (u ≡ scalar AbstractInt) × (v ≡ scalar AbstractFloat) →
        (Admits a_float u → Admits a_float t ⊎ (t ≡ scalar AbstractInt) × Above (scalar AbstractFloat) u) → Admits a_float t ⊎ (t ≡ scalar AbstractInt) × Above (scalar AbstractFloat) v
    past a s (inl k) go = elim (go k) [ inl m ↦ inl m | inr m ↦ inr (m.0, further m.1 s) ]
    past a s (inr e) go = inr (int_above a e.0, subst (λ v. Above (scalar AbstractFloat) v) (sym e.1) here)

pub as_scalar : (t : WgslType) → Admits any_scalar t → (s : Scalar) × (t ≡ scalar s)
as_scalar (scalar s) h = (s, refl)
as_scalar t h = absurd h

least_float : (b c : WgslType) → Above b c → Admits a_float c → (d : WgslType) × IsLeastAdmitted a_float b d
least_float b c a h =
    elim (float_above a h) [
      | inl k ↦ (b, record { above = here; admitted = k; least = λ c a h. a })
      | inr k ↦ (
        scalar AbstractFloat,
        record {
          above = subst (λ b. Above b (scalar AbstractFloat)) (sym k.0) (further here (base int_to_float));
          admitted = tt;
          least = λ c a h. int_least c (subst (λ b. Above b c) k.0 a) h;
        },
      )
    ]
  where
    int_least : (c : WgslType) → Above (scalar AbstractInt) c → Admits a_float c → Above (scalar AbstractFloat) c
    int_least c a h = elim (float_above a h) [ inl k ↦ absurd k | inr k ↦ k.1 ]

itself : (k : Kind) → IsDown k → (b c : WgslType) → Above b c → Admits k c → (d : WgslType) × IsLeastAdmitted k b d
itself k d b c a h = (b, record { above = here; admitted = above_admits a k d h; least = λ c a h. a })

or_scalar : (k : Kind) (t : WgslType) → Admits any_scalar t → Admits k t → Admits (or_vector k) t
or_scalar k (scalar s) h g = g
or_scalar k t h g = absurd h

scalar_or : (k : Kind) (t : WgslType) → Admits any_scalar t → Admits (or_vector k) t → Admits k t
scalar_or k (scalar s) h g = g
scalar_or k t h g = absurd h

least_plain : (k : Kind) (b : WgslType) (s : Scalar) → Above b (scalar s) → Admits k (scalar s) → (d : WgslType) × IsLeastAdmitted k b d → (d : WgslType) × IsLeastAdmitted (or_vector k) b d
least_plain k b s a h m =
    let p = above_admits a any_scalar tt tt in (
      m.0,
      record {
        above = m.1.above;
        admitted = or_scalar k m.0 (above_admits (m.1.least (scalar s) a h) any_scalar tt tt) m.1.admitted;
        least = λ c a h. m.1.least c a (scalar_or k c (above_admitted a any_scalar tt p) h);
      },
    )

least_layered : (k j : Kind) → ((n : ℕ) (t : WgslType) → Admits j (within (vec_of n) t) ↔ Admits k t) → (b x : WgslType) (n : ℕ) → b ≡ within (vec_of n) x →
    (d : WgslType) × IsLeastAdmitted k x d → (d : WgslType) × IsLeastAdmitted j b d
least_layered k j f b x n e m = (
  within (vec_of n) m.0,
  record {
    above = subst (λ b. Above b (within (vec_of n) m.0)) (sym e) (above_inside (vec_of n) m.1.above);
    admitted = (f n m.0).1 m.1.admitted;
    least = λ c a h.
        let y = above_from_within a (vec_of n) x e in
        subst (λ c. Above (within (vec_of n) m.0) c) (sym y.1)
        (above_inside (vec_of n) (m.1.least y.0 y.2 ((f n y.0).0 (subst (λ c. Admits j c) y.1 h))));
  },
)

pub least_admitted : (k : Kind) (b c : WgslType) → Above b c → Admits k c → (d : WgslType) × IsLeastAdmitted k b d
least_admitted any_type b c a h = itself any_type tt b c a h
least_admitted any_scalar b c a h = itself any_scalar tt b c a h
least_admitted an_integer b c a h = itself an_integer tt b c a h
least_admitted a_number b c a h = itself a_number tt b c a h
least_admitted a_float b c a h = least_float b c a h
least_admitted a_bool b c a h = itself a_bool tt b c a h
least_admitted an_integer_or_bool b c a h = itself an_integer_or_bool tt b c a h
least_admitted scalar_or_vector b c a h = itself scalar_or_vector tt b c a h
least_admitted no_type b c a h = itself no_type tt b c a h
least_admitted (or_vector k) b (scalar s) a h = least_plain k b s a h (least_admitted k b (scalar s) a h)
least_admitted (or_vector k) b (within (vec_of n) e) a h =
    let x = above_to_within a (vec_of n) e refl in
    least_layered k (or_vector k) (λ n t. (λ h. h, λ h. h)) b x.0 n x.1 (least_admitted k x.0 e x.2 h)
least_admitted (or_vector k) b c a h = absurd h
least_admitted (vector_of k) b (within (vec_of n) e) a h =
    let x = above_to_within a (vec_of n) e refl in
    least_layered k (vector_of k) (λ n t. (λ h. h, λ h. h)) b x.0 n x.1 (least_admitted k x.0 e x.2 h)
least_admitted (vector_of k) b c a h = absurd h
