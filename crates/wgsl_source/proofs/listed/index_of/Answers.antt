use Rattle.std.proofs.Common.{subst}
use Rattle.wgsl_source.specs.internal.Read.{IsMeant, IsReadOfKind}
use Rattle.wgsl_source.proofs.listed.index_of.Goals as goal

pub returns-in-Struct : goal.returns-in-Struct
returns-in-Struct c = λ t env structs d kind meant. subst (λ k. IsReadOfKind t env structs d k) c.in-Struct.is ((subst (λ m. IsMeant t env structs d m) c.in-Type.is meant).struct kind)
