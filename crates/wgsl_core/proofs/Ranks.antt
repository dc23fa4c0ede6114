-- Conversion of the types of code.
use Rattle.std.proofs.Common.{◌≡◌, ◌≢◌, ◌↔◌, ◌<◌, ℕ, arith, is_some, Bool, List, Option, Some, None, IsTrue, IfSome, refl, sym, ap, ◌∙◌, subst, Bor}
use Rattle.wgsl_core.proofs.Common.{AddressSpace, AccessMode, ResultFunction, ResultShape, ResultPrecision, ResultStruct, WgslType, struct, within, reference, Members, result_struct, Converts, ConvertsIn, ConvertsTo, Load, load, Node, at_scalar, at_result, type_at, type_at_once, HaveEqualLayers, converts_nodes, load_bare, load_readable, MayRead, converts_same, same_rank, load_converts, load_rank, converts_within, struct_view, Scalar, form_view, layer_of, layers, HaveElements, «Type», Form, struct_type, result_type, StructType}
use Rattle.wgsl_rules.proofs.conversion.Counts.{converts_in_same, converts_in_load, converts_in_within}
use Rattle.wgsl_core.specs.declared.ty.form.Form.TheVariants as forms

-- The node of a type

abbrev IsNodeOf : Option Node → WgslType → Type 0
IsNodeOf o t = (p : Node) → (o ≡ Some p) ↔ (t ≡ type_at p)

pub is_node : (t : WgslType) (q : Node) → t ≡ type_at q → IsNodeOf (Some q) t
is_node t q e p = (λ k. let f : q ≡ p = cc k in subst (λ p. t ≡ type_at p) f e, λ k. ap Some (type_at_once q p (sym e ∙ k)))

result_is_struct : (f : ResultFunction) (s : ResultShape) (p : ResultPrecision) → (name : List ℕ) × (ms : Members) × (result_struct f s p ≡ struct name ms)
unfolding result_struct
result_is_struct f s p = (_, _, refl)

pub no_node : {f : Form} {t : WgslType} → t ≡ form_view f → ((s : Scalar) → f ≡ forms.Scalar s → ⊥) → ((s : Bor StructType) → f ≡ forms.Struct s → ⊥) → IsNodeOf None t
no_node {f} e n m p = (λ k. absurd (cc k), λ k. absurd (at f n m p (sym e ∙ k)))
  where
    at : (f : Form) → ((s : Scalar) → f ≡ forms.Scalar s → ⊥) → ((s : Bor StructType) → f ≡ forms.Struct s → ⊥) → (p : Node) → form_view f ≡ type_at p → ⊥
    at (forms.Scalar s) n m p k = n s refl
    at (forms.Struct s) n m p k = m s refl
    at f n m (at_scalar s) k = absurd (cc k)
    at f n m (at_result g s q) k = let r = result_is_struct g s q in absurd (cc (k ∙ r.2))

pub no_result : (t : WgslType) (s : StructType) → t ≡ struct_type (struct_view s) →
    ((r : ResultStruct) → (None ≡ Some r) ↔ (struct_type (struct_view s) ≡ result_type r)) → IsNodeOf None t
no_result t s e h p = (λ k. absurd (cc k), λ k. absurd (at p k))
  where
    at : (p : Node) → t ≡ type_at p → ⊥
    at (at_scalar x) k = absurd (cc (sym k ∙ e))
    at (at_result f x q) k = absurd (cc ((h record { function = f; shape = x; precision = q }).1 (sym e ∙ k)))

-- The rank

abbrev pub IsRank : Option ℕ → WgslType → WgslType → Type 0
IsRank o t u = (w : ℕ) → (o ≡ Some w) ↔ Converts t u w

pub equal_rank : (t u : WgslType) → t ≡ u → IsRank (Some 0) t u
equal_rank t u e w = (
  λ k. let z : 0 ≡ w = cc k in subst (λ u. Converts t u w) e (subst (λ w. Converts t t w) z (converts_same t)),
  λ k. ap Some (sym (same_rank t w (subst (λ u. Converts t u w) (sym e) k))),
)

pub equal_steps : (t u : WgslType) → t ≡ u → ConvertsIn t u 0 0
equal_steps t u e = subst (λ u. ConvertsIn t u 0 0) e ((converts_in_same t 0 0).1 (refl, refl))

pub loaded_rank : (t u : WgslType) → Load t u → IsRank (Some 0) t u
loaded_rank t u l w = (λ k. let z : 0 ≡ w = cc k in subst (λ w. Converts t u w) z (load_converts l), λ k. ap Some (sym (load_rank l k)))

pub loaded_steps : (t u : WgslType) → Load t u → ConvertsIn t u 0 0
loaded_steps t u l = (converts_in_load t u 0 0 l).1 (refl, refl)

pub no_rank : (t u : WgslType) → ((w : ℕ) → ¬ Converts t u w) → IsRank None t u
no_rank t u n w = (λ k. absurd (cc k), λ k. absurd (n w k))

abbrev HaveNoElements : WgslType → WgslType → Type 0
HaveNoElements t u = (e f : WgslType) → ¬ HaveElements t u e f

pub no_elements : (t u : WgslType) → layer_of t ≡ None → HaveNoElements t u
no_elements t u e x y h = let z : layer_of t ≡ Some (h.0, x) = ap layer_of h.1 in absurd (cc (sym e ∙ z))

unlayered : (t u : WgslType) → HaveNoElements t u → ¬ HaveEqualLayers t u
unlayered (within l t) (within k u) n h = n t u (l, refl, λ i. within (sym h i) u)
unlayered t u n h = h

pub no_walk : (t u : WgslType) → HaveNoElements t u → t ≢ u → ¬ Load t u →
    ((p q : Node) → t ≡ type_at p → u ≡ type_at q → ⊥) → IsRank None t u
no_walk t u e d l n = no_rank t u (λ w k. let m = converts_nodes t u w (unlayered t u e) d l k in n m.0 m.1 m.2 m.3)

pub walked_rank : (t u : WgslType) (p q : Node) (o : Option ℕ) → t ≡ type_at p → u ≡ type_at q → IsRank o (type_at p) (type_at q) → IsRank o t u
walked_rank t u p q o e f h = subst (λ t. IsRank o t u) (sym e) (subst (λ u. IsRank o (type_at p) u) (sym f) h)

abbrev pub Steps : Option ℕ → WgslType → WgslType → ℕ → Type 0
Steps o t u n = IfSome o (λ w. ConvertsIn t u w n)

pub walked_steps : (t u : WgslType) (p q : Node) (o : Option ℕ) (n : ℕ) → t ≡ type_at p → u ≡ type_at q →
    Steps o (type_at p) (type_at q) n → Steps o t u n
walked_steps t u p q o n e f h = subst (λ t. Steps o t u n) (sym e) (subst (λ u. Steps o (type_at p) u n) (sym f) h)

-- Layers

pub elements_convert : (t u e f : WgslType) (w : ℕ) → HaveElements t u e f → Converts t u w ↔ Converts e f w
elements_convert t u e f w k =
    subst (λ t. Converts t u w ↔ Converts e f w) (sym k.1) (subst (λ u. Converts (within k.0 e) u w ↔ Converts e f w) (sym k.2)
    (λ h. ((converts_within k.0 k.0 e f w).0 h).1, λ h. (converts_within k.0 k.0 e f w).1 (refl, h)))

pub elements_convert_in : (t u e f : WgslType) (w n : ℕ) → HaveElements t u e f → ConvertsIn t u w n ↔ ConvertsIn e f w n
elements_convert_in t u e f w n k =
    subst (λ t. ConvertsIn t u w n ↔ ConvertsIn e f w n) (sym k.1) (subst (λ u. ConvertsIn (within k.0 e) u w n ↔ ConvertsIn e f w n) (sym k.2)
    (λ h. ((converts_in_within k.0 k.0 e f w n).0 h).1, λ h. (converts_in_within k.0 k.0 e f w n).1 (refl, h)))

pub same_ranks : (t u e f : WgslType) (o : Option ℕ) → ((w : ℕ) → Converts t u w ↔ Converts e f w) → IsRank o e f → IsRank o t u
same_ranks t u e f o k h w = (λ m. (k w).1 ((h w).0 m), λ m. (h w).1 ((k w).0 m))

pub same_steps : (t u e f : WgslType) (o : Option ℕ) (n : ℕ) → ((w n : ℕ) → ConvertsIn t u w n ↔ ConvertsIn e f w n) → Steps o e f n → Steps o t u n
same_steps t u e f None n k h = h
same_steps t u e f (Some w) n k h = (k w n).1 h

pub elements_fewer : (t u e f : WgslType) → HaveElements t u e f → layers e < layers t
elements_fewer t u e f h = subst (λ t. layers e < layers t) (sym h.1) (omega arith)

-- Loads

pub load_reference : (r : Bool) (s : AddressSpace) (t : WgslType) (m : AccessMode) (a u : WgslType) → a ≡ reference s t m → MayRead m → IsTrue r ↔ (t ≡ u) → IsTrue r ↔ Load a u
load_reference r s t m a u e may h =
    subst (λ a. IsTrue r ↔ Load a u) (sym e)
    (λ k. subst (λ u. Load (reference s t m) u) (h.0 k) (load s t m may), λ l. h.1 (load_readable l).1)

no_load : (t u : WgslType) → HaveNoElements t u → ((s : AddressSpace) (e : WgslType) (m : AccessMode) → t ≡ reference s e m → ⊥) → ¬ Load t u
no_load t u e n l = let k = load_bare (unlayered t u e) l in n k.0 u k.1 k.2

pub no_reference_loads : {f : Form} (t u : WgslType) → HaveNoElements t u → t ≡ form_view f
    → ((s : AddressSpace) (e : Bor «Type») (m : AccessMode) → f ≡ forms.Reference s e m → ⊥) → ¬ Load t u
no_reference_loads {f} t u e p n = no_load t u e (λ s e m q. apart f n s e m (sym p ∙ q))
  where
    apart : (f : Form) → ((s : AddressSpace) (e : Bor «Type») (m : AccessMode) → f ≡ forms.Reference s e m → ⊥) → (s : AddressSpace) (e : WgslType) (m : AccessMode) → form_view f ≡ reference s e m → ⊥
    apart (forms.Reference s e m) n t u v k = n s e m refl
    apart f n s e m k = absurd (cc k)

pub ranked : (o : Option ℕ) (t u : WgslType) → IsRank o t u → IsTrue (is_some o) ↔ ConvertsTo t u
ranked None t u h = (λ k. absurd (cc k), λ k. absurd (cc ((h k.0).1 k.1)))
ranked (Some w) t u h = (λ k. (w, (h w).0 refl), λ k. refl)
