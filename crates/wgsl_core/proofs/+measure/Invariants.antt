use Rattle.wgsl_core.proofs.Layouts.{MeasureSoFar}
use Rattle.wgsl_core.proofs.+measure.Given as goal

abbrev pub invariant-ty::StructType::measure-loop-member :
    goal.invariant-ty::StructType::measure-loop-member
invariant-ty::StructType::measure-loop-member l = MeasureSoFar l.rules l.placing.end l.placing.greatest l.member-items l.member-index
