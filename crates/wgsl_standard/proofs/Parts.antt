-- Operands of other types convert to no parameter, and the parts of a type are its own.
use Rattle.std.proofs.Common.{◌≡◌, ℕ, Option, Some, None, refl, sym, ◌∙◌, ap, option_map}
use Rattle.wgsl_standard.proofs.Common.{Scalar, WgslType, vec_of, mat_of, scalar, within, Converts, IsValueType, above_to_within, value_converts, Dimensions, Single, Vector, Matrix, type_with, parts_of}
use Rattle.wgsl_core.specs.Forms.{scalar_of}
use Rattle.wgsl_rules.proofs.operators.FamilyKinds.{any_scalar, above_admits, as_scalar}

pub parts_once : (o : Dimensions) (s : Scalar) → parts_of (type_with o s) ≡ Some (o, s)
parts_once Single s = refl
parts_once o s = refl

scalar_again : (t : WgslType) (s : Scalar) → scalar_of t ≡ Some s → t ≡ scalar s
scalar_again (scalar r) s e = let q : r ≡ s = cc e in ap scalar q
scalar_again t s e = absurd (cc e)

pub pair_of : (a b : Dimensions × Scalar) → Some a ≡ Some b → (a.0 ≡ b.0) × (a.1 ≡ b.1)
pair_of a b e = let q : a ≡ b = cc e in (ap (λ p. p.0) q, ap (λ p. p.1) q)

in_vector : (n : ℕ) (t : WgslType) (r : Option Scalar) → scalar_of t ≡ r → (o : Dimensions) (s : Scalar) → option_map {U = Dimensions × Scalar} (λ s. (Vector n, s)) r ≡ Some (o, s) → within (vec_of n) t ≡ type_with o s
in_vector n t None q o s e = absurd (cc e)
in_vector n t (Some r) q o s e =
    let w = pair_of (Vector n, r) (o, s) e in
    let a : Vector n ≡ o = w.0 in
    let b : r ≡ s = w.1 in
    ap (within (vec_of n)) (scalar_again t r q) ∙ (ap (type_with (Vector n)) b ∙ ap (λ o. type_with o s) a)

in_matrix : (c d : ℕ) (t : WgslType) (r : Option Scalar) → scalar_of t ≡ r → (o : Dimensions) (s : Scalar) → option_map {U = Dimensions × Scalar} (λ s. (Matrix c d, s)) r ≡ Some (o, s) → within (mat_of c d) t ≡ type_with o s
in_matrix c d t None q o s e = absurd (cc e)
in_matrix c d t (Some r) q o s e =
    let w = pair_of (Matrix c d, r) (o, s) e in
    let a : Matrix c d ≡ o = w.0 in
    let b : r ≡ s = w.1 in
    ap (within (mat_of c d)) (scalar_again t r q) ∙ (ap (type_with (Matrix c d)) b ∙ ap (λ o. type_with o s) a)

pub parts_again : (t : WgslType) (o : Dimensions) (s : Scalar) → parts_of t ≡ Some (o, s) → t ≡ type_with o s
parts_again (scalar r) o s e =
    let w = pair_of (Single, r) (o, s) e in
    let a : Single ≡ o = w.0 in
    let b : r ≡ s = w.1 in
    ap scalar b ∙ ap (λ o. type_with o s) a
parts_again (within (vec_of n) t) o s e = in_vector n t (scalar_of t) refl o s e
parts_again (within (mat_of c d) t) o s e = in_matrix c d t (scalar_of t) refl o s e
parts_again t o s e = absurd (cc e)

pub parts_given : (t : WgslType) (o : Dimensions) (s : Scalar) → Some (o, s) ≡ parts_of t → type_with o s ≡ t
parts_given t o s e = sym (parts_again t o s (sym e))

-- a value type that converts to a parameter has parts
pub parts_taken : (t : WgslType) (p : Dimensions) (g : Scalar) (w : ℕ) → IsValueType t → Converts t (type_with p g) w → (o : Dimensions) × (s : Scalar) × (t ≡ type_with o s)
parts_taken t Single g w v h =
    let k = as_scalar t (above_admits (value_converts v h).0 any_scalar tt tt) in
    (Single, k.0, k.1)
parts_taken t (Vector n) g w v h =
    let m = above_to_within (value_converts v h).0 (vec_of n) (scalar g) refl in
    let k = as_scalar m.0 (above_admits m.2 any_scalar tt tt) in
    (Vector n, k.0, m.1 ∙ ap (within (vec_of n)) k.1)
parts_taken t (Matrix c d) g w v h =
    let m = above_to_within (value_converts v h).0 (mat_of c d) (scalar g) refl in
    let k = as_scalar m.0 (above_admits m.2 any_scalar tt tt) in
    (Matrix c d, k.0, m.1 ∙ ap (within (mat_of c d)) k.1)
