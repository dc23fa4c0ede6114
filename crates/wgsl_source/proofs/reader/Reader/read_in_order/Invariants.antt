use Rattle.wgsl_source.proofs.Common.{Keeps, KnownAll, Means}
use Rattle.wgsl_source.proofs.reader.Reader.read_in_order.Given as goal

abbrev pub invariant-loop-circular : goal.invariant-loop-circular
invariant-loop-circular l = Keeps (KnownAll l.fn.declarations) l.fn.self l.self × Means l.fn.declarations l.fn.self l.self

abbrev pub invariant-loop-index : goal.invariant-loop-index
invariant-loop-index l = Keeps (KnownAll l.fn.declarations) l.fn.self l.self × Means l.fn.declarations l.fn.self l.self
