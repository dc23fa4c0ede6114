-- The names that attributes and directives take (WGSL, "Attributes", "Built-in Values", "Diagnostics").
use Rattle.std.specs.Prelude.{ℕ, List, [], ◌∷◌, codes}
use Rattle.wgsl_syntax.specs.declared.builtin_value.BuiltinValue.{BuiltinValue}
use Rattle.wgsl_syntax.specs.declared.builtin_value.BuiltinValue.TheVariants.{VertexIndex, InstanceIndex, ClipDistances, Position, FrontFacing, FragDepth, SampleIndex, SampleMask, LocalInvocationId, LocalInvocationIndex, GlobalInvocationId, WorkgroupId, NumWorkgroups, SubgroupInvocationId, SubgroupSize, SubgroupId, NumSubgroups, PrimitiveIndex, ViewIndex}
use Rattle.wgsl_syntax.specs.declared.attribute.DiagnosticSeverity.{DiagnosticSeverity}
use Rattle.wgsl_syntax.specs.declared.attribute.DiagnosticSeverity.TheVariants.{Error, Warning, Info, Off}
use Rattle.wgsl_syntax.specs.declared.attribute.InterpolationType.{InterpolationType}
use Rattle.wgsl_syntax.specs.declared.attribute.InterpolationType.TheVariants.{Perspective, Linear, Flat}
use Rattle.wgsl_syntax.specs.declared.attribute.InterpolationSampling.{InterpolationSampling}
use Rattle.wgsl_syntax.specs.declared.attribute.InterpolationSampling.TheVariants.{Center, Centroid, Sample, First, Either}
use Rattle.wgsl_syntax.specs.declared.attribute.ConservativeDepth.{ConservativeDepth}
use Rattle.wgsl_syntax.specs.declared.attribute.ConservativeDepth.TheVariants.{GreaterEqual, LessEqual, Unchanged}
use Rattle.wgsl_syntax.specs.declared.attribute.AccelerationStructureFlags.{AccelerationStructureFlags}
use Rattle.wgsl_syntax.specs.declared.attribute.AccelerationStructureFlags.TheVariants.{VertexReturn}

abbrev pub builtin_values : List BuiltinValue
builtin_values = VertexIndex ∷ InstanceIndex ∷ ClipDistances ∷ Position ∷ FrontFacing ∷ FragDepth ∷ SampleIndex ∷ SampleMask ∷ LocalInvocationId ∷ LocalInvocationIndex ∷ GlobalInvocationId ∷ WorkgroupId ∷ NumWorkgroups ∷ SubgroupInvocationId ∷ SubgroupSize ∷ SubgroupId ∷ NumSubgroups ∷ PrimitiveIndex ∷ ViewIndex ∷ []

abbrev pub builtin_text : BuiltinValue → List ℕ
builtin_text VertexIndex = codes "vertex_index"
builtin_text InstanceIndex = codes "instance_index"
builtin_text ClipDistances = codes "clip_distances"
builtin_text Position = codes "position"
builtin_text FrontFacing = codes "front_facing"
builtin_text FragDepth = codes "frag_depth"
builtin_text SampleIndex = codes "sample_index"
builtin_text SampleMask = codes "sample_mask"
builtin_text LocalInvocationId = codes "local_invocation_id"
builtin_text LocalInvocationIndex = codes "local_invocation_index"
builtin_text GlobalInvocationId = codes "global_invocation_id"
builtin_text WorkgroupId = codes "workgroup_id"
builtin_text NumWorkgroups = codes "num_workgroups"
builtin_text SubgroupInvocationId = codes "subgroup_invocation_id"
builtin_text SubgroupSize = codes "subgroup_size"
builtin_text SubgroupId = codes "subgroup_id"
builtin_text NumSubgroups = codes "num_subgroups"
builtin_text PrimitiveIndex = codes "primitive_index"
builtin_text ViewIndex = codes "view_index"

abbrev pub severities : List DiagnosticSeverity
severities = Error ∷ Warning ∷ Info ∷ Off ∷ []

abbrev pub severity_text : DiagnosticSeverity → List ℕ
severity_text Error = codes "error"
severity_text Warning = codes "warning"
severity_text Info = codes "info"
severity_text Off = codes "off"

abbrev pub interpolations : List InterpolationType
interpolations = Perspective ∷ Linear ∷ Flat ∷ []

abbrev pub interpolation_text : InterpolationType → List ℕ
interpolation_text Perspective = codes "perspective"
interpolation_text Linear = codes "linear"
interpolation_text Flat = codes "flat"

abbrev pub samplings : List InterpolationSampling
samplings = Center ∷ Centroid ∷ Sample ∷ First ∷ Either ∷ []

abbrev pub sampling_text : InterpolationSampling → List ℕ
sampling_text Center = codes "center"
sampling_text Centroid = codes "centroid"
sampling_text Sample = codes "sample"
sampling_text First = codes "first"
sampling_text Either = codes "either"

abbrev pub depths : List ConservativeDepth
depths = GreaterEqual ∷ LessEqual ∷ Unchanged ∷ []

abbrev pub depth_text : ConservativeDepth → List ℕ
depth_text GreaterEqual = codes "greater_equal"
depth_text LessEqual = codes "less_equal"
depth_text Unchanged = codes "unchanged"

abbrev pub flags : List AccelerationStructureFlags
flags = VertexReturn ∷ []

abbrev pub flag_text : AccelerationStructureFlags → List ℕ
flag_text VertexReturn = codes "vertex_return"
