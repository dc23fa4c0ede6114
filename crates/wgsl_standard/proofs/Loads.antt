-- Conversion to a scalar in a layer, by cases of what converts.
use Rattle.std.proofs.Common.{◌≡◌, ◌↔◌, ℕ, Bool, true, false, IsTrue, Some, None, inl, inr, refl, sym, ap, subst, ◌∙◌, Bor}
use Rattle.wgsl_standard.proofs.CommonForms.{AddressSpace, AccessMode, Layer, WgslType, within, reference, Load, load, Converts, ConvertsTo, converts_within, form_view, layer_of}
use Rattle.wgsl_syntax.specs.Address.{MayRead}
use Rattle.wgsl_rules.proofs.conversion.Order.{along_above, above_to_within, load_readable}
use Rattle.wgsl_core.specs.declared.ty.Type.{«Type»}
use Rattle.wgsl_core.specs.declared.ty.form.Form.{Form}
use Rattle.wgsl_core.specs.declared.ty.form.Form.TheVariants as forms
use Rattle.wgsl_core.proofs.Ranks.{no_elements, no_reference_loads}
use Rattle.wgsl_standard.proofs.Layers.{false_for, layered}

-- a type in a layer converts inside it
pub from_layer : (t : WgslType) (l : Layer) (e : WgslType) (k : Layer) (u : WgslType) (a b : Bool) → layer_of t ≡ Some (l, e) → IsTrue a ↔ (l ≡ k) → a ≡ true →
    IsTrue b ↔ ConvertsTo e u → IsTrue b ↔ ConvertsTo t (within k u)
from_layer t l e k u a b p la i be =
    subst (λ t. IsTrue b ↔ ConvertsTo t (within k u)) (sym (layered t l e p)) (
      λ h. let m = be.0 h in (m.0, (converts_within l k e u m.0).1 (sym (la.0 i), m.1)),
      λ m. be.1 (m.0, ((converts_within l k e u m.0).0 m.1).1),
    )

pub from_other_layer : (t : WgslType) (l : Layer) (e : WgslType) (k : Layer) (u : WgslType) (a : Bool) → layer_of t ≡ Some (l, e) → IsTrue a ↔ (l ≡ k) → a ≡ false →
    IsTrue a ↔ ConvertsTo t (within k u)
from_other_layer t l e k u a p la i =
    false_for a i (subst (λ t. ¬ ConvertsTo t (within k u)) (sym (layered t l e p))
    (λ m. absurd (cc (sym (la.1 (sym ((converts_within l k e u m.0).0 m.1).0)) ∙ i))))

-- no path leads to a layer from a type without one
no_way : (t u : WgslType) (l : Layer) (w : ℕ) → layer_of t ≡ None → Converts t (within l u) w → Load t (within l u)
no_way t u l w e (inl p) = let k = above_to_within (along_above p).0 l u refl in let d : None ≡ Some (l, k.0) = sym e ∙ ap layer_of k.1 in absurd (cc d)
no_way t u l w e (inr h) = h.0

pub loads_it : (s : AddressSpace) (t : WgslType) (m : AccessMode) (a : WgslType) (l : Layer) (u : WgslType) (b : Bool) → a ≡ reference s t m → MayRead m →
    IsTrue b ↔ (within l u ≡ t) → IsTrue b ↔ ConvertsTo a (within l u)
loads_it s t m a l u b e may h =
    subst (λ a. IsTrue b ↔ ConvertsTo a (within l u)) (sym e) (
      λ k. (0, inr (subst (λ u. Load (reference s t m) u) (sym (h.0 k)) (load s t m may), refl)),
      λ k. h.1 (sym (load_readable (no_way (reference s t m) u l k.0 refl k.1)).1),
    )

pub unreadable : (s : AddressSpace) (t : WgslType) (m : AccessMode) (a : WgslType) (l : Layer) (u : WgslType) (b : Bool) → a ≡ reference s t m → b ≡ false → (IsTrue b ↔ MayRead m) →
    IsTrue b ↔ ConvertsTo a (within l u)
unreadable s t m a l u b e i may =
    false_for b i (subst (λ a. ¬ ConvertsTo a (within l u)) (sym e)
    (λ k. absurd (cc (sym (may.1 (load_readable (no_way (reference s t m) u l k.0 refl k.1)).0) ∙ i))))

pub loads_nothing : {f : Form} (t : WgslType) (l : Layer) (u : WgslType) → layer_of t ≡ None → t ≡ form_view f → ((s : AddressSpace) (e : Bor «Type») (m : AccessMode) → f ≡ forms.Reference s e m → ⊥) →
    IsTrue false ↔ ConvertsTo t (within l u)
loads_nothing t l u e p no_ref =
    (λ h. absurd (cc h), λ k. absurd (no_reference_loads t (within l u) (no_elements t (within l u) e) p no_ref (no_way t u l k.0 e k.1)))
