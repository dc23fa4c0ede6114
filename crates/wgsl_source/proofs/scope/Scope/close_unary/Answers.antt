use Rattle.std.proofs.Common.{◌≡◌, [], ◌∷◌, Some, subst}
use Rattle.wgsl_source.proofs.Items.{ok_weaker}
use Rattle.wgsl_source.proofs.WrittenTypes.{one_more_taken, value_put}
use Rattle.wgsl_source.specs.Values.{unary}
use Rattle.wgsl_source.specs.WrittenTypes.{IsUnary, meaning_of}
use Rattle.wgsl_source.proofs.scope.Scope.close_unary.Goals as goal

pub returns : goal.returns
returns c =
    let s = c.args.self.now in
    let operator = c.in_ok-operator.operator in
    let taken = operator ∷ c.in_ok-operand.operand ∷ [] in
    let a = c.in_ok-value.value in
    let made = IsUnary s.text (meaning_of s) in
    value_put made c.put.result c.unary.result c.args.items.now.items c.pop-2.new.items.items taken c.put.new.items.items operator
    (one_more_taken _ _ _ _ operator c.in_ok-operand.ensures c.in_ok-operator.ensures)
    (ok_weaker (λ v. unary c.sign_of.result a ≡ Some v) (made taken) c.unary.result (λ v is. (a, c.in_ok-value.ensures, subst (λ sign. unary sign a ≡ Some v) c.sign_of.ensures is)) c.unary.ensures)
    c.put.ensures
