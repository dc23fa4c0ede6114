-- Conversion of and to scalars and layers, by cases.
use Rattle.std.proofs.Common.{◌≡◌, ◌↔◌, ℕ, Bool, true, false, IsTrue, Option, Some, None, refl, sym, ap, subst, ◌∙◌, is_some}
use Rattle.wgsl_standard.proofs.CommonForms.{Scalar, Layer, WgslType, scalar, within, Converts, ConvertsTo, converts_from_scalar, converts_from_within, converts_within, layer_of, scalar_of}
use Rattle.wgsl_core.proofs.Scalars.{scalar_is}

pub layered : (t : WgslType) (l : Layer) (e : WgslType) → layer_of t ≡ Some (l, e) → t ≡ within l e
layered (within k f) l e h = let p : (k, f) ≡ (l, e) = cc h in ap (λ (q : Layer × WgslType). within q.0 q.1) p
layered t l e h = absurd (cc h)

pub false_for : {P : Type 0} (b : Bool) → b ≡ false → ¬ P → IsTrue b ↔ P
false_for b e no_p = (λ h. absurd (cc (sym h ∙ e)), λ p. absurd (no_p p))

pub to_scalar : (t u : WgslType) (r : Scalar) (b : Bool) → scalar_of u ≡ Some r → IsTrue b ↔ ConvertsTo t (scalar r) → IsTrue b ↔ ConvertsTo t u
to_scalar t u r b e h = subst (λ u. IsTrue b ↔ ConvertsTo t u) (sym ((scalar_is u r).0 e)) h

-- what has a rank converts
pub by_rank : (t u : WgslType) (r : Option ℕ) → ((w : ℕ) → (r ≡ Some w) ↔ Converts t u w) → IsTrue (is_some r) ↔ ConvertsTo t u
by_rank t u (Some w) h = (λ g. (w, (h w).0 refl), λ k. refl)
by_rank t u None h = (λ g. absurd (cc g), λ k. absurd (cc ((h k.0).1 k.1)))

-- a scalar converts to scalars alone
pub to_no_scalar : (s : Scalar) (u : WgslType) → scalar_of u ≡ None → IsTrue false ↔ ConvertsTo (scalar s) u
to_no_scalar s u e = (λ h. absurd (cc h), λ k. let m = converts_from_scalar s u k.0 k.1 in absurd (cc (sym e ∙ ap scalar_of m.1)))

-- what stands in a layer converts to a type in the same layer alone
pub to_layer : (l : Layer) (t u : WgslType) (k : Layer) (e : WgslType) (a b : Bool) → layer_of u ≡ Some (k, e) → IsTrue a ↔ (k ≡ l) → a ≡ true →
    IsTrue b ↔ ConvertsTo t e → IsTrue b ↔ ConvertsTo (within l t) u
to_layer l t u k e a b p is_l i h =
    subst (λ u. IsTrue b ↔ ConvertsTo (within l t) u) (sym (layered u k e p)) (
      λ g. let m = h.0 g in (m.0, (converts_within l k t e m.0).1 (is_l.0 i, m.1)),
      λ m. h.1 (m.0, ((converts_within l k t e m.0).0 m.1).1),
    )

pub to_other_layer : (l : Layer) (t u : WgslType) (k : Layer) (e : WgslType) (a : Bool) → layer_of u ≡ Some (k, e) → IsTrue a ↔ (k ≡ l) → a ≡ false →
    IsTrue a ↔ ConvertsTo (within l t) u
to_other_layer l t u k e a p is_l i =
    false_for a i (subst (λ u. ¬ ConvertsTo (within l t) u) (sym (layered u k e p))
    (λ m. absurd (cc (sym (is_l.1 ((converts_within l k t e m.0).0 m.1).0) ∙ i))))

pub to_no_layer : (l : Layer) (t u : WgslType) → layer_of u ≡ None → IsTrue false ↔ ConvertsTo (within l t) u
to_no_layer l t u e =
    (λ h. absurd (cc h), λ m. let k = converts_from_within l t u m.0 m.1 in absurd (cc (sym e ∙ ap layer_of k.1)))
