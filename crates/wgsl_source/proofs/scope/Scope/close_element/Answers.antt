use Rattle.std.proofs.Common.{◌≡◌, [], ◌∷◌, Some}
use Rattle.wgsl_source.proofs.Items.{ok_weaker}
use Rattle.wgsl_source.proofs.WrittenTypes.{one_more_taken, value_put}
use Rattle.wgsl_source.specs.Values.{element}
use Rattle.wgsl_source.specs.WrittenTypes.{IsElementOf, meaning_of}
use Rattle.wgsl_source.proofs.scope.Scope.close_element.Goals as goal

pub returns : goal.returns
returns c =
    let s = c.args.self.now in
    let item = c.in_ok-item.item in
    let taken = item ∷ c.in_ok-pop.field-0 ∷ c.in_ok-at.at ∷ [] in
    let a = c.in_ok-value_of.field-0 in
    let i = c.in_ok-index.index in
    let made = IsElementOf s.text (meaning_of s) in
    value_put made c.put.result c.element.result c.args.items.now.items c.pop-3.new.items.items taken c.put.new.items.items item
    (one_more_taken _ _ _ _ item (one_more_taken _ _ _ _ _ c.in_ok-at.ensures c.in_ok-pop.ensures) c.in_ok-item.ensures)
    (ok_weaker (λ v. element a i ≡ Some v) (made taken) c.element.result (λ v is. (a, i, c.in_ok-value_of.ensures, c.in_ok-index.ensures, is)) c.element.ensures) c.put.ensures
