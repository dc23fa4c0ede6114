use Rattle.std.proofs.Common.{inr, refl}
use Rattle.wgsl_source.specs.internal.Read.{KnownStruct}
use Rattle.wgsl_source.proofs.Structs.{keeps_grown}
use Rattle.wgsl_source.proofs.reader.Reader.read_alias.Goals as goal

pub returns-in_err-ty-clause-keeps : goal.returns-in_err-ty-clause-keeps
returns-in_err-ty-clause-keeps c = keeps_grown (KnownStruct c.args.declaration.now) c.args.self.now _ c.type_noted.ensures.grows refl refl

pub returns-clause-keeps : goal.returns-clause-keeps
returns-clause-keeps c = keeps_grown (KnownStruct c.args.declaration.now) c.args.self.now _ c.type_noted.ensures.grows refl refl

pub returns-clause-sort : goal.returns-clause-sort
returns-clause-sort c = λ is. inr (is, c.in_ok-ty.ensures.written)
