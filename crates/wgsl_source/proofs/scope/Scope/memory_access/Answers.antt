use Rattle.std.proofs.Common.{arith, subst, sym}
use Rattle.wgsl_source.proofs.Common.{nil_from_length, HasAccess}
use Rattle.wgsl_source.specs.WrittenTypes.{meaning_of}
use Rattle.wgsl_source.proofs.scope.Scope.memory_access.Goals as goal

pub returns-in-empty-clause-said : goal.returns-in-empty-clause-said
returns-in-empty-clause-said c =
    subst (λ items. HasAccess c.args.self.now.text (meaning_of c.args.self.now) c.args.space items c.default_access_mode.result) (sym (nil_from_length c.args.rest.now (omega (arith, c.in-empty.len_below)))) c.default_access_mode.ensures
