-- Equality of types is decidable.
use Rattle.std.proofs.Common.{◌≡◌, Option, Some, None, refl, ap}
use mathlib.Core.List.{List-discrete}
use native.Mathlib.Decide.{ℕ_discrete}
use Rattle.wgsl_rules.specs.types.Types.{Layer, array_of, vec_of, mat_of, WgslType, scalar, within, struct, atomic, pointer, reference, texture, sampler, binding_array, ray_query, acceleration_structure, Members, no_members, member}
use Rattle.wgsl_syntax.proofs.Discrete.{same_scalar, same_space, same_access, same_flag, same_sampler, same_texture}

-- a conjunction of decidable facts is decidable
pub both : {A B : Type 0} → Dec A → Dec B → Dec (A × B)
both (yes a) (yes b) = yes (a, b)
both (no n) b = no (λ p. n p.0)
both (yes a) (no n) = no (λ p. n p.1)

-- equivalent facts are decided together
pub by : {A B : Type 0} → (A → B) → (B → A) → Dec A → Dec B
by f g (yes a) = yes (f a)
by f g (no n) = no (λ b. n (g b))

pub same_option : {A : Type 0} → ((a b : A) → Dec (a ≡ b)) → (a b : Option A) → Dec (a ≡ b)
same_option same (Some a) (Some b) = by (λ p. ap Some p) (λ q. cc q) (same a b)
same_option same None None = yes refl
same_option same a b = no (λ q. (cc q))

pub same_layer : (a b : Layer) → Dec (a ≡ b)
same_layer (array_of n) (array_of m) = by (λ p. ap array_of p) (λ q. cc q) (same_option ℕ_discrete n m)
same_layer (vec_of n) (vec_of m) = by (λ p. ap vec_of p) (λ q. cc q) (ℕ_discrete n m)
same_layer (mat_of c r) (mat_of d s) = by (λ p. cc (p.0, p.1)) (λ q. (cc q, cc q)) (both (ℕ_discrete c d) (ℕ_discrete r s))
same_layer a b = no (λ q. (cc q))

mutual
  pub same_type : (a b : WgslType) → Dec (a ≡ b)
  same_type (scalar x) (scalar y) = by (λ p. ap scalar p) (λ q. cc q) (same_scalar x y)
  same_type (within l t) (within m u) = by (λ p. cc (p.0, p.1)) (λ q. (cc q, cc q)) (both (same_layer l m) (same_type t u))
  same_type (struct n ms) (struct m ns) = by (λ p. cc (p.0, p.1)) (λ q. (cc q, cc q)) (both (List-discrete ℕ_discrete n m) (same_members ms ns))
  same_type (atomic t) (atomic u) = by (λ p. ap atomic p) (λ q. cc q) (same_type t u)
  same_type (pointer s t m) (pointer r u n) =
      by (λ p. cc (p.0, p.1.0, p.1.1)) (λ q. (cc q, (cc q, cc q))) (both (same_space s r) (both (same_type t u) (same_access m n)))
  same_type (reference s t m) (reference r u n) =
      by (λ p. cc (p.0, p.1.0, p.1.1)) (λ q. (cc q, (cc q, cc q))) (both (same_space s r) (both (same_type t u) (same_access m n)))
  same_type (texture t) (texture u) = by (λ p. ap texture p) (λ q. cc q) (same_texture t u)
  same_type (sampler s) (sampler r) = by (λ p. ap sampler p) (λ q. cc q) (same_sampler s r)
  same_type (binding_array n t) (binding_array m u) =
      by (λ p. cc (p.0, p.1)) (λ q. (cc q, cc q)) (both (same_option ℕ_discrete n m) (same_type t u))
  same_type (ray_query f) (ray_query g) = by (λ p. ap ray_query p) (λ q. cc q) (same_option same_flag f g)
  same_type (acceleration_structure f) (acceleration_structure g) = by (λ p. ap acceleration_structure p) (λ q. cc q) (same_option same_flag f g)
  same_type a b = no (λ q. (cc q))

  pub same_members : (a b : Members) → Dec (a ≡ b)
  same_members no_members no_members = yes refl
  same_members (member n t s a ms) (member m u r b ns) =
      by (λ p. cc (p.0, p.1.0, p.1.1.0, p.1.1.1.0, p.1.1.1.1)) (λ q. (cc q, (cc q, (cc q, (cc q, cc q)))))
      (both (List-discrete ℕ_discrete n m)
      (both (same_type t u) (both (same_option ℕ_discrete s r) (both (same_option ℕ_discrete a b) (same_members ms ns)))))
  same_members a b = no (λ q. (cc q))
