use Rattle.std.proofs.Common.{◌≡◌, option_map}
use Rattle.std.specs.Prelude.{option_and_then}
use Rattle.wgsl_rules.specs.conversion.Converted.{both_to}
use Rattle.wgsl_types.proofs.Pairs.{of_first}
use Rattle.wgsl_types.proofs.conv.convert_inner.Goals as goal

pub returns : goal.returns
returns g c =
    of_first c.convert_inner_with_type-both.result
    (λ p t. option_map (λ q. (g.T.Convert.shown q.0, g.U.Convert.shown q.1)) p ≡ option_and_then (both_to g.T.Convert.inner_to g.U.Convert.inner_to c.args.a.now c.args.b.now) t)
    _ _ _ c.in_ok-a_type.ensures c.convert_inner_with_type-both.ensures
