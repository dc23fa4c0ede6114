use Rattle.std.proofs.Common.{◌≡◌, drop}
use Rattle.wgsl_module.specs.Checked.{are_known}
use Rattle.wgsl_module.proofs.untyped.are_known.Given as goal

-- each name so far is known
abbrev pub invariant-loop-known : goal.invariant-loop-known
invariant-loop-known l = are_known (drop l.known-index l.given) ≡ are_known l.given
