use Rattle.std.proofs.Common.{◌≡◌, option_map}
use Rattle.std.specs.Prelude.{option_and_then}
use Rattle.wgsl_rules.specs.conversion.Converted.{both_to}
use Rattle.wgsl_types.proofs.Pairs.{of_first}
use Rattle.wgsl_types.proofs.conv.convert.Goals as goal

pub returns-clause-value : goal.returns-clause-value
returns-clause-value g c =
    of_first c.convert_with_type-both.result
    (λ p t. option_map (λ q. (g.T.Convert.shown q.0, g.T.Convert.shown q.1)) p ≡ option_and_then (both_to g.T.Convert.to g.T.Convert.to c.args.a.now c.args.b.now) t)
    _ _ _ c.in_ok-a_type.ensures c.convert_with_type-both.ensures.value
