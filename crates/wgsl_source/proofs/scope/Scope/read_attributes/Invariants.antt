use Rattle.std.proofs.Common.{List, length}
use Rattle.wgsl_source.proofs.Common.{Event, BehindAttributes}
use Rattle.wgsl_source.proofs.Attributes.{ReadSoFar}
use Rattle.wgsl_source.specs.WrittenTypes.{meaning_of}
use Rattle.wgsl_source.proofs.scope.Scope.read_attributes.Given as goal

abbrev pub invariant-loop-split : goal.invariant-loop-split
invariant-loop-split l = record {
  behind : (rest : List Event) → BehindAttributes l.rest rest → BehindAttributes l.fn.events rest;
  read : ReadSoFar l.self.text (meaning_of l.self) l.fn.events l.rest l.attributes;
}

abbrev pub decreases-loop-split : goal.decreases-loop-split
decreases-loop-split l = length l.rest
