-- How the rules see a candidate whose types aren't built yet.
use Rattle.std.specs.Prelude.{◌≡◌, Option, option_map}
use Rattle.wgsl_syntax.specs.declared.scalar.Scalar.TheVariants.{Bool, U32}
use Rattle.wgsl_syntax.specs.declared.overload.Dimensions.{Dimensions}
use Rattle.wgsl_rules.specs.types.Types.{WgslType, scalar}
use Rattle.wgsl_rules.specs.types.Dimensions.{with_dimensions}
use Rattle.wgsl_rules.specs.types.Kinds.{IsLeaf}
use Rattle.wgsl_rules.specs.conversion.Common.{IsCommon}
use Rattle.wgsl_rules.specs.operators.Answers.{BinaryCandidate}
use Rattle.wgsl_core.specs.View.{view}
use Rattle.wgsl_core.specs.declared.operators.resolve.Element.{Element}
use Rattle.wgsl_core.specs.declared.operators.resolve.Element.TheVariants as elements
use Rattle.wgsl_core.specs.declared.operators.resolve.ResolvedType.{ResolvedType}
use Rattle.wgsl_core.specs.declared.operators.resolve.Resolution.{Resolution}

abbrev pub element_view : Element → WgslType
element_view (elements.Scalar s) = scalar s
element_view (elements.Type t) = view t.now

abbrev pub resolved_view : ResolvedType → WgslType
resolved_view p = with_dimensions p.dimensions (element_view p.element)

abbrev pub resolution_view : Resolution → BinaryCandidate
resolution_view f = record { lhs = resolved_view f.lhs; rhs = resolved_view f.rhs; result = resolved_view f.result }

-- each of its types is a leaf type
abbrev pub IsLeafCandidate : BinaryCandidate → Type 0
IsLeafCandidate c = IsLeaf c.lhs × IsLeaf c.rhs × IsLeaf c.result

-- the candidate of one type, each time with dimensions of its own
abbrev pub in_layers : Dimensions → Dimensions → Dimensions → WgslType → BinaryCandidate
in_layers l m k t = record { lhs = with_dimensions l t; rhs = with_dimensions m t; result = with_dimensions k t }

-- the same for the common type of two types, or None if they have none
abbrev pub IsInLayers : Dimensions → Dimensions → Dimensions → WgslType → WgslType → Option BinaryCandidate → Type 0
IsInLayers l m k a b r = (c : Option WgslType) × IsCommon a b c × (r ≡ option_map (in_layers l m k) c)

-- the comparison of two operands of a type
abbrev pub compared_at : WgslType → Dimensions → BinaryCandidate
compared_at t l = record { lhs = t; rhs = t; result = with_dimensions l (scalar Bool) }

-- the shift of a type by `u32`
abbrev pub shifted_at : WgslType → Dimensions → BinaryCandidate
shifted_at t l = record { lhs = t; rhs = with_dimensions l (scalar U32); result = t }
