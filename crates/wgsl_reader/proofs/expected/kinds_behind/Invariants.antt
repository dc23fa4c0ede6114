use Rattle.std.proofs.Common.{◌≡◌, map, All}
use Rattle.wgsl_reader.proofs.Common.{MayStand, kind_of}
use Rattle.wgsl_reader.proofs.expected.kinds_behind.Given as goal

abbrev pub invariant-loop-kind : goal.invariant-loop-kind
invariant-loop-kind l = (l.rule ≡ l.fn.rule) × (l.tokens ≡ l.fn.tokens) × (l.tried.items ≡ l.tokens) × All (MayStand l.rule (map kind_of l.tokens)) l.found.items
