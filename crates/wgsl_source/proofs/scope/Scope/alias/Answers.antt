use Rattle.std.proofs.Common.{refl}
use Rattle.wgsl_source.proofs.Meanings.{alias_type}
use Rattle.wgsl_source.specs.WrittenTypes.{environment}
use Rattle.wgsl_source.proofs.scope.Scope.alias.Goals as goal

pub returns-in-Some : goal.returns-in-Some
returns-in-Some c = λ is types meant.
    let s = c.args.self.now in
    record { name = refl; written = alias_type s.text (environment s types) c.args.declaration.now c.in-Some.ty (meant c.in-Some.ty c.in-Some.ensures) is }
