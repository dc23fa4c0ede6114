use Rattle.std.proofs.Common.{refl}
use Rattle.wgsl_source.proofs.Meanings.{unlisted}
use Rattle.wgsl_source.proofs.listed.Listed.list.Goals as goal

pub returns-in_default : goal.returns-in_default
returns-in_default c = λ t env structs meant. unlisted t env structs c.args.declaration.now c.args.self.now c.args.self.now c.in_default.not-Struct refl refl

pub returns-in-Struct : goal.returns-in-Struct
returns-in-Struct c = λ t env structs meant. c.list_struct.ensures t env structs c.in-Struct.is meant
