use Rattle.std.proofs.Common.{◌≡◌, [], ◌∷◌, Some, subst}
use Rattle.wgsl_source.proofs.Items.{ok_weaker}
use Rattle.wgsl_source.proofs.WrittenTypes.{value_put}
use Rattle.wgsl_source.specs.Values.{member}
use Rattle.wgsl_source.specs.WrittenTypes.{IsMemberOf, meaning_of}
use Rattle.wgsl_source.proofs.scope.Scope.close_member.Goals as goal

pub returns : goal.returns
returns c =
    let s = c.args.self.now in
    let item = c.in_ok-item.item in
    let a = c.in_ok-value.value in
    let made = IsMemberOf s.text (meaning_of s) c.args.letter in
    value_put made c.put.result c.member.result c.args.items.now.items c.pop.new.items.items (item ∷ []) c.put.new.items.items item c.in_ok-item.ensures
    (ok_weaker (λ v. member c.word.result.now a ≡ Some v) (made (item ∷ [])) c.member.result (λ v is. (a, c.in_ok-value.ensures, subst (λ letter. member letter a ≡ Some v) c.word.ensures is))
    c.member.ensures) c.put.ensures
