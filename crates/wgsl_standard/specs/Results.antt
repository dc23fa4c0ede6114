-- How the type of a result is seen.
use Rattle.wgsl_rules.specs.types.Types.{WgslType}
use Rattle.wgsl_rules.specs.standard.Overloads.{type_with}
use Rattle.wgsl_core.specs.View.{view}
use Rattle.wgsl_standard.specs.declared.substitution.ResultType.{ResultType}
use Rattle.wgsl_standard.specs.declared.substitution.ResultType.TheVariants.{Value, Built}

abbrev pub result_view : ResultType → WgslType
result_view (Value d s) = type_with d s
result_view (Built t) = view t
