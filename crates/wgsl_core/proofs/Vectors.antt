-- Conversion to a vector of a scalar.
use Rattle.std.proofs.Common.{◌≡◌, ◌↔◌, ℕ, Bool, true, false, IsTrue, Some, None, inl, inr, refl, sym, ap, subst, ◌∙◌, Bor}
use Rattle.wgsl_core.proofs.Common.{AddressSpace, AccessMode, MayRead, Layer, vec_of, WgslType, within, reference, vec, Load, load, Converts, ConvertsTo, along_above, above_to_within, load_readable, converts_within, layer_of, «Type», form_view, Form}
use Rattle.wgsl_core.proofs.Ranks.{no_elements, no_reference_loads}
use Rattle.wgsl_core.specs.declared.ty.form.Form.TheVariants as forms

layered : (t : WgslType) (l : Layer) (e : WgslType) → layer_of t ≡ Some (l, e) → t ≡ within l e
layered (within k f) l e h = let p : (k, f) ≡ (l, e) = cc h in ap (λ (q : Layer × WgslType). within q.0 q.1) p
layered t l e h = absurd (cc h)

false_for : {P : Type 0} (b : Bool) → b ≡ false → ¬ P → IsTrue b ↔ P
false_for b e no_p = (λ h. absurd (cc (sym h ∙ e)), λ p. absurd (no_p p))

-- a type in a layer converts inside it
pub inside_vector : (t : WgslType) (l : Layer) (e : WgslType) (n : ℕ) (u : WgslType) (a b : Bool) → layer_of t ≡ Some (l, e) → IsTrue a ↔ (l ≡ vec_of n) → a ≡ true → IsTrue b ↔ ConvertsTo e u →
    IsTrue b ↔ ConvertsTo t (vec n u)
inside_vector t l e n u a b p la i be =
    subst (λ t. IsTrue b ↔ ConvertsTo t (vec n u)) (sym (layered t l e p)) (
      λ h. let k = be.0 h in (k.0, (converts_within l (vec_of n) e u k.0).1 (sym (la.0 i), k.1)),
      λ k. be.1 (k.0, ((converts_within l (vec_of n) e u k.0).0 k.1).1),
    )

pub outside_vector : (t : WgslType) (l : Layer) (e : WgslType) (n : ℕ) (u : WgslType) (a : Bool) → layer_of t ≡ Some (l, e) → IsTrue a ↔ (l ≡ vec_of n) → a ≡ false →
    IsTrue a ↔ ConvertsTo t (vec n u)
outside_vector t l e n u a p la i =
    false_for a i (subst (λ t. ¬ ConvertsTo t (vec n u)) (sym (layered t l e p))
    (λ k. absurd (cc (sym (la.1 (sym ((converts_within l (vec_of n) e u k.0).0 k.1).0)) ∙ i))))

-- no path leads to a vector from a type without a layer
no_way : (t u : WgslType) (n w : ℕ) → layer_of t ≡ None → Converts t (vec n u) w → Load t (vec n u)
no_way t u n w e (inl p) = let k = above_to_within (along_above p).0 (vec_of n) u refl in let d : None ≡ Some (vec_of n, k.0) = sym e ∙ ap layer_of k.1 in absurd (cc d)
no_way t u n w e (inr l) = l.0

pub loads_vector : (s : AddressSpace) (t : WgslType) (m : AccessMode) (a : WgslType) (n : ℕ) (u : WgslType) (b : Bool) → a ≡ reference s t m → MayRead m →
    IsTrue b ↔ (t ≡ vec n u) → IsTrue b ↔ ConvertsTo a (vec n u)
loads_vector s t m a n u b e may h =
    subst (λ a. IsTrue b ↔ ConvertsTo a (vec n u)) (sym e) (
      λ k. (0, inr (subst (λ u. Load (reference s t m) u) (h.0 k) (load s t m may), refl)),
      λ k. h.1 (load_readable (no_way (reference s t m) u n k.0 refl k.1)).1,
    )

pub unreadable : (s : AddressSpace) (t : WgslType) (m : AccessMode) (a : WgslType) (n : ℕ) (u : WgslType) (b : Bool) → a ≡ reference s t m → b ≡ false → (IsTrue b ↔ MayRead m) →
    IsTrue b ↔ ConvertsTo a (vec n u)
unreadable s t m a n u b e i may =
    false_for b i (subst (λ a. ¬ ConvertsTo a (vec n u)) (sym e)
    (λ k. absurd (cc (sym (may.1 (load_readable (no_way (reference s t m) u n k.0 refl k.1)).0) ∙ i))))

pub loads_nothing : {f : Form} (t : WgslType) (n : ℕ) (u : WgslType) → layer_of t ≡ None → t ≡ form_view f → ((s : AddressSpace) (e : Bor «Type») (m : AccessMode) → f ≡ forms.Reference s e m → ⊥) →
    IsTrue false ↔ ConvertsTo t (vec n u)
loads_nothing t n u e p no_ref =
    (λ h. absurd (cc h), λ k. absurd (no_reference_loads t (vec n u) (no_elements t (vec n u) e) p no_ref (no_way t u n k.0 e k.1)))
