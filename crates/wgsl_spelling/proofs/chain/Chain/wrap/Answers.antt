use Rattle.std.proofs.Common.{◌≡◌, [], Ok, Err, drop, subst, sym, ap, ◌∙◌, IfOk, Result}
use Rattle.std.proofs.lemmas.List.{drop_all}
use Rattle.wgsl_spelling.proofs.Common.{view, around, wrapped}
use Rattle.wgsl_spelling.specs.Stacks.{with_last}
use Rattle.wgsl_spelling.proofs.TypeTrees.{wrapped_last}
use Rattle.wgsl_spelling.proofs.chain.Chain.wrap.Goals as goal

if_ok : {A B : Type 0} (P Q : A → Type 0) (r : Result A B) → ((x : A) → P x → Q x) → IfOk r P → IfOk r Q
if_ok P Q (Ok x) f p = f x p
if_ok P Q (Err e) f p = p

pub returns-in-Some : goal.returns-in-Some
returns-in-Some c =
    let inside = view c.args.innermost in
    let below = c.args.self.now.layers.below.items in
    let last = c.in-Some.layer in
    let none : drop c.loop-layer.layer-index below ≡ [] =
    subst (λ ls. drop c.loop-layer.layer-index ls ≡ []) c.deref-layer-items.ensures.value (drop_all c.loop-layer.layer-index c.deref-layer-items.result.now c.loop-layer-test.false) in
    let by_below : wrapped inside below ≡ view c.loop-layer.ty = c.loop-layer.invariant ∙ ap (wrapped (view c.loop-layer.ty)) none in
    let all : around last (view c.loop-layer.ty) ≡ wrapped inside (with_last below c.args.self.now.layers.last) =
    ap (around last) (sym by_below) ∙ (sym (wrapped_last inside below last) ∙ ap (λ l. wrapped inside (with_last below l)) (sym c.in-Some.is)) in
    if_ok _ _ c.around-in-Some.result (λ ty is. is ∙ all) c.around-in-Some.ensures
