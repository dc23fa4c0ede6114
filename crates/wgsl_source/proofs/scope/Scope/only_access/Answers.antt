use Rattle.std.proofs.Common.{◌≡◌, ◌⊎◌, ◌∷◌, IfOk, arith, inr, subst, sym, true}
use Rattle.wgsl_source.proofs.Common.{nil_from_length, default_access, may_say, HasAccess, NamesAccess}
use Rattle.wgsl_source.proofs.Items.{both_ok, ok_weaker}
use Rattle.wgsl_source.specs.WrittenTypes.{meaning_of}
use Rattle.wgsl_source.proofs.scope.Scope.only_access.Goals as goal

pub returns-in-empty-clause-said : goal.returns-in-empty-clause-said
returns-in-empty-clause-said c =
    let t = c.args.self.now.text in
    let named = meaning_of c.args.self.now in
    let space = c.args.space in
    let said = c.said_access.ensures in
    subst (λ items. IfOk c.said_access.result (HasAccess t named space (c.args.item ∷ items))) (sym (nil_from_length c.args.more.now (omega (arith, c.in-empty.len_below))))
    (both_ok (NamesAccess t named c.args.item) (λ access. may_say space access ≡ true) c.said_access.result said.named said.may_be_said)

pub returns-in-empty-clause-may_be_said : goal.returns-in-empty-clause-may_be_said
returns-in-empty-clause-may_be_said c =
    let space = c.args.space in
    ok_weaker (λ access. may_say space access ≡ true) (λ access. (access ≡ default_access space) ⊎ (may_say space access ≡ true)) c.said_access.result (λ access may. inr may) c.said_access.ensures.may_be_said
