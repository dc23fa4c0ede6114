use Rattle.std.proofs.Common.{take, ◌++◌, codes, flat_map}
use Rattle.wgsl_core.proofs.Common.{HasWritten, IsPlainFormatter, spelling, view}
use Rattle.wgsl_core.proofs.signature.ArgumentsDisplay.fmt.Given as goal

abbrev pub invariant-loop-ty : goal.invariant-loop-ty
invariant-loop-ty g l =
    IsPlainFormatter l.initial.f →
    HasWritten g.W.Write.write_str_gives l.initial.f (flat_map (λ t. codes ", " ++ spelling (view t)) (take l.ty-index l.rest)) l.f
