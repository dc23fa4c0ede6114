-- The concrete type of least rank.
use Rattle.std.proofs.Common.{◌≡◌, ◌≢◌, ℕ, ◌<◌, ◌⊎◌, ◌↔◌, Some, None, Bool, true, false, refl, sym, ◌∙◌, ap, subst, inl, inr, arith}
use Rattle.wgsl_rules.proofs.Common.{ℕ_discrete, Scalar, AbstractInt, AbstractFloat, I32, U32, F32, F16, I64, U64, F64, Layer, array_of, vec_of, mat_of, WgslType, scalar, within, int_to_i32, float_to_f32, base, IsValueType, IsFloatScalar, is_abstract, IsAbstract, HasFloatMatrices, concretized, IsLeastConcrete}
use Rattle.wgsl_rules.proofs.conversion.Steps.{depth}
use Rattle.wgsl_rules.proofs.conversion.Order.{Above, here, further, above_depth, above_level, above_inside, above_from_within, above_converts, value_converts}
use Rattle.wgsl_rules.proofs.conversion.Equations.{above_plain, IsPlainScalar, scalar_rank, converts_scalar}

record Least (t u : WgslType) : Type 0 where
  above : Above t u
  concrete : ¬ IsAbstract u
  least : (v : WgslType) → Above t v → ¬ IsAbstract v → (v ≡ u) ⊎ (depth u < depth v)

itself : (t : WgslType) → ¬ IsAbstract t → Least t t
itself t h = record {
  above = here;
  concrete = h;
  least = λ v a c. elim (ℕ_discrete (depth t) (depth v)) [
    | yes e ↦ inl (sym (above_level a (omega (arith, e))))
    | no n ↦ inr (omega (arith, n, above_depth a))
  ];
}

within_layer : (l : Layer) (t u : WgslType) → Least t u → Least (within l t) (within l u)
within_layer l t u k = record {
  above = above_inside l k.above;
  concrete = k.concrete;
  least = λ v a c.
      let m = above_from_within a l t refl in
      elim (k.least m.0 m.2 (λ h. c (subst IsAbstract (sym m.1) h))) [
        | inl e ↦ inl (m.1 ∙ ap (λ s. within l s) e)
        | inr d ↦ inr (subst (λ v. depth u < depth v) (sym m.1) d)
      ];
}

no_target : (r s : Scalar) → scalar_rank r s ≡ None → ¬ Above (scalar r) (scalar s)
no_target r s n a =
    let k = above_converts a in
    let e : None ≡ Some k.0 = sym n ∙ (converts_scalar r s k.0).0 k.1 in
    cc e

int_targets : (s : Scalar) → Above (scalar AbstractInt) (scalar s) → ¬ IsAbstract (scalar s) → (scalar s ≡ scalar I32) ⊎ (3 < depth (scalar s))
int_targets AbstractInt a c = absurd (c refl)
int_targets AbstractFloat a c = absurd (c refl)
int_targets I32 a c = inl refl
int_targets U32 a c = inr (omega arith)
int_targets F32 a c = inr (omega arith)
int_targets F16 a c = inr (omega arith)
int_targets I64 a c = inr (omega arith)
int_targets U64 a c = inr (omega arith)
int_targets s a c = absurd (no_target AbstractInt s refl a)

float_targets : (s : Scalar) → Above (scalar AbstractFloat) (scalar s) → ¬ IsAbstract (scalar s) → (scalar s ≡ scalar F32) ⊎ (6 < depth (scalar s))
float_targets AbstractFloat a c = absurd (c refl)
float_targets F32 a c = inl refl
float_targets F16 a c = inr (omega arith)
float_targets s a c = absurd (no_target AbstractFloat s refl a)

plain_least : (r u : Scalar) → Above (scalar r) (scalar u) → ¬ IsAbstract (scalar u) →
    ((s : Scalar) → Above (scalar r) (scalar s) → ¬ IsAbstract (scalar s) → (scalar s ≡ scalar u) ⊎ (depth (scalar u) < depth (scalar s))) →
    Least (scalar r) (scalar u)
plain_least r u a c f = record { above = a; concrete = c; least = λ v b d. go v b d (above_plain b tt) }
  where
    go : (v : WgslType) → Above (scalar r) v → ¬ IsAbstract v → IsPlainScalar v → (v ≡ scalar u) ⊎ (depth (scalar u) < depth v)
    go (scalar s) b d h = f s b d
    go v b d h = absurd h

int_least : Least (scalar AbstractInt) (scalar I32)
int_least = plain_least AbstractInt I32 (further here (base int_to_i32)) (λ e. cc e) int_targets

float_least : Least (scalar AbstractFloat) (scalar F32)
float_least = plain_least AbstractFloat F32 (further here (base float_to_f32)) (λ e. cc e) float_targets

matrix_least : (c r : ℕ) (t : WgslType) → IsFloatScalar t → Least (within (mat_of c r) t) (concretized (within (mat_of c r) t))
matrix_least c r (scalar AbstractFloat) h = within_layer (mat_of c r) (scalar AbstractFloat) (scalar F32) float_least
matrix_least c r (scalar F32) h = itself (within (mat_of c r) (scalar F32)) (λ e. cc e)
matrix_least c r (scalar F16) h = itself (within (mat_of c r) (scalar F16)) (λ e. cc e)
matrix_least c r (scalar F64) h = itself (within (mat_of c r) (scalar F64)) (λ e. cc e)
matrix_least c r t h = absurd h

concretized_least : (t : WgslType) → HasFloatMatrices t → Least t (concretized t)
concretized_least (scalar AbstractInt) h = int_least
concretized_least (scalar AbstractFloat) h = float_least
concretized_least (within (mat_of c r) t) h = matrix_least c r t h
concretized_least (within (vec_of n) t) h = within_layer (vec_of n) t (concretized t) (concretized_least t h)
concretized_least (within (array_of n) t) h = within_layer (array_of n) t (concretized t) (concretized_least t h)
concretized_least t h = itself t (λ e. cc e)

pub least_concrete : (t : WgslType) → IsValueType t → HasFloatMatrices t → IsLeastConcrete t (concretized t)
least_concrete t v h =
    let k = concretized_least t h in
    let m = above_converts k.above in
    let n = value_converts v m.1 in
    record {
      concrete = k.concrete;
      rank = m.0;
      converts = m.1;
      least = λ u w c q.
          let p = value_converts v q in
          elim (k.least u p.0 c) [ inl e ↦ inl e | inr d ↦ inr (omega (arith, n.1, p.1, d)) ];
    }

-- for every type

pub concretized_concrete : (t : WgslType) → ¬ IsAbstract (concretized t)
concretized_concrete (scalar AbstractInt) = λ e. cc e
concretized_concrete (scalar AbstractFloat) = λ e. cc e
concretized_concrete (within (mat_of c r) t) = matrix (is_abstract t) refl
  where
    matrix : (b : Bool) → is_abstract t ≡ b → ¬ IsAbstract (concretized (within (mat_of c r) t))
    matrix true e = rw e (λ q. cc q)
    matrix false e = rw e (λ q. cc (q, e))
concretized_concrete (within (vec_of n) t) = concretized_concrete t
concretized_concrete (within (array_of n) t) = concretized_concrete t
concretized_concrete t = λ e. cc e

pub concrete_stays : (t : WgslType) → ¬ IsAbstract t → concretized t ≡ t
concrete_stays (scalar AbstractInt) h = absurd (h refl)
concrete_stays (scalar AbstractFloat) h = absurd (h refl)
concrete_stays (within (mat_of c r) t) h = matrix (is_abstract t) refl
  where
    matrix : (b : Bool) → is_abstract t ≡ b → concretized (within (mat_of c r) t) ≡ within (mat_of c r) t
    matrix true e = absurd (h e)
    matrix false e = rw e
concrete_stays (within (vec_of n) t) h = ap (λ t. within (vec_of n) t) (concrete_stays t h)
concrete_stays (within (array_of n) t) h = ap (λ t. within (array_of n) t) (concrete_stays t h)
concrete_stays t h = refl

-- for a type u that is the concrete type of t

abbrev IsOf : WgslType → WgslType → Type 0
IsOf t u = u ≡ concretized t

pub concrete_is_concrete : (t u : WgslType) → IsOf t u → ¬ IsAbstract u
concrete_is_concrete t u e h = concretized_concrete t (subst IsAbstract e h)

pub concrete_changes : (t u : WgslType) → IsOf t u → (u ≢ t) ↔ IsAbstract t
concrete_changes t u e = (λ n. abstract (is_abstract t) refl (λ k. n (e ∙ k)), λ a k. concrete_is_concrete t u e (subst IsAbstract (sym k) a))
  where
    abstract : (b : Bool) → is_abstract t ≡ b → concretized t ≢ t → IsAbstract t
    abstract true q n = q
    abstract false q n = absurd (n (concrete_stays t (λ h. absurd (cc (h, q)))))

pub concrete_once : (t u : WgslType) → IsOf t u → concretized u ≡ u
concrete_once t u e = concrete_stays u (concrete_is_concrete t u e)

pub concrete_least : (t u : WgslType) → IsOf t u → IsValueType t → HasFloatMatrices t → IsLeastConcrete t u
concrete_least t u e v h = subst (λ u. IsLeastConcrete t u) (sym e) (least_concrete t v h)
