use Rattle.wgsl_source.proofs.Common.{SameStructs}
use Rattle.wgsl_source.specs.internal.Read.{AreNamed, AreNothing}
use Rattle.wgsl_source.proofs.reader.Reader.name_all.Given as goal

abbrev pub invariant-loop-index : goal.invariant-loop-index
invariant-loop-index l = SameStructs l.fn.self l.self × AreNothing l.fn.declarations l.self × (AreNamed l.fn.declarations l.fn.self.scope → AreNamed l.fn.declarations l.self.scope)
