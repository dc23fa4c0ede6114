use Rattle.std.proofs.Common.{take, ◌++◌, codes, flat_map}
use Rattle.wgsl_core.proofs.Common.{HasWritten, IsPlainFormatter, parameter_text, parameter_view}
use Rattle.wgsl_core.proofs.signature.ParametersDisplay.fmt.Given as goal

abbrev pub invariant-loop-parameter : goal.invariant-loop-parameter
invariant-loop-parameter g l =
    IsPlainFormatter l.initial.f →
    HasWritten g.W.Write.write_str_gives l.initial.f (flat_map (λ p. codes ", " ++ parameter_text (parameter_view p)) (take l.parameter-index l.rest)) l.f
