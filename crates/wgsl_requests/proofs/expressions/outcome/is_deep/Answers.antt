use Rattle.wgsl_requests.proofs.Common.{◌≡◌, ◌≢◌, ◌-◌, ℕ, zero, suc, true, false, refl, ap, arith, WgslType, has_layer, is_deeper, sym, subst, ◌∙◌, view}
use Rattle.wgsl_requests.proofs.Common.{most_layers}
use Rattle.wgsl_rules.specs.types.Inner.{inner_of}
use Rattle.wgsl_requests.proofs.expressions.outcome.is_deep.Goals as goal

-- how many layers a type has, one by one
without_layer : (n : ℕ) (t : WgslType) → has_layer t ≡ false → is_deeper n t ≡ false
without_layer zero t e = e
without_layer (suc n) t e = rw e refl

behind_layer : (n : ℕ) (t : WgslType) → n ≢ 0 → has_layer t ≡ true → is_deeper n t ≡ is_deeper (n - 1) (inner_of t)
behind_layer zero t some e = absurd (some refl)
behind_layer (suc n) t some e = let less : n ≡ suc n - 1 = omega arith in rw e (ap (λ m. is_deeper m (inner_of t)) less)

pub loop-inside-preserved : goal.loop-inside-preserved
loop-inside-preserved c =
    let t = view c.loop-inside.inside.now in
    let some : has_layer t ≡ true = sym c.has_layer.ensures ∙ c.loop-inside-test.true in
    subst (λ inner. is_deeper (c.loop-inside.left - 1) inner ≡ is_deeper most_layers (view c.args.ty.now)) (sym c.inner-inside.ensures)
    (sym (behind_layer c.loop-inside.left t c.if-left-eq0.false some) ∙ c.loop-inside.invariant)

pub returns : goal.returns
returns c =
    let t = view c.loop-inside.inside.now in
    let none : has_layer t ≡ false = sym c.has_layer.ensures ∙ c.loop-inside-test.false in
    sym (without_layer c.loop-inside.left t none) ∙ c.loop-inside.invariant
