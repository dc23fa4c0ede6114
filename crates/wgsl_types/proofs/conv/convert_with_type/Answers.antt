use Rattle.std.proofs.Common.{◌≡◌, option_map}
use Rattle.std.specs.Prelude.{option_and_then}
use Rattle.wgsl_rules.specs.conversion.Converted.{both_to}
use Rattle.wgsl_types.proofs.Pairs.{of_common}
use Rattle.wgsl_types.proofs.conv.convert_with_type.Goals as goal

pub returns-clause-value : goal.returns-clause-value
returns-clause-value g c =
    of_common c.convert_both_to-both.result
    (λ p t. option_map (λ q. (g.T.Convert.shown q.0, g.T.Convert.shown q.1)) p ≡ option_and_then (both_to g.T.Convert.to g.T.Convert.to c.args.a.now c.args.b.now) t)
    _ _ _ _ c.in_ok-b_type.ensures c.convert_ty.ensures.common c.convert_both_to-both.ensures.value
