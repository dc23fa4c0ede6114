use Rattle.std.proofs.Common.{◌≡◌, [], ◌∷◌, Some, subst}
use Rattle.wgsl_source.proofs.Items.{ok_weaker}
use Rattle.wgsl_source.proofs.WrittenTypes.{one_more_taken, value_put}
use Rattle.wgsl_source.specs.Values.{binary}
use Rattle.wgsl_source.specs.WrittenTypes.{IsBinary, meaning_of}
use Rattle.wgsl_source.proofs.scope.Scope.close_binary.Goals as goal

pub returns : goal.returns
returns c =
    let s = c.args.self.now in
    let left = c.in_ok-left.left in
    let taken = left ∷ c.in_ok-operator.operator ∷ c.in_ok-right.right ∷ [] in
    let a = c.in_ok-a.a in
    let b = c.in_ok-b.b in
    let made = IsBinary s.text (meaning_of s) in
    value_put made c.put.result c.binary-value.result c.args.items.now.items c.pop-3.new.items.items taken c.put.new.items.items c.match-value.first
    (one_more_taken _ _ _ _ left (one_more_taken _ _ _ _ _ c.in_ok-right.ensures c.in_ok-operator.ensures) c.in_ok-left.ensures)
    (ok_weaker (λ v. binary c.sign_of.result a b ≡ Some v) (made taken) c.binary-value.result
    (λ v is. (a, b, c.in_ok-a.ensures, c.in_ok-b.ensures, subst (λ sign. binary sign a b ≡ Some v) c.sign_of.ensures is)) c.binary-value.ensures) c.put.ensures
