use Rattle.std.proofs.Common.{◌≡◌, drop}
use Rattle.wgsl_module.specs.Checked.{first_faulty}
use Rattle.wgsl_module.proofs.untyped.first_faulty.Given as goal

-- none of the expressions so far is faulty
abbrev pub invariant-loop-part : goal.invariant-loop-part
invariant-loop-part l = first_faulty (drop l.part-index l.parts) ≡ first_faulty l.parts
