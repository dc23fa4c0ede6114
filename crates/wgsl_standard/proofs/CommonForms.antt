-- Names of these specifications and of other crates that many proofs cite, passed on from one place. It declares nothing.
pub use Rattle.std.proofs.Output.{has_written_of_eq}
pub use Rattle.wgsl_core.specs.Forms.{form_view, layer_of, scalar_of}
pub use Rattle.wgsl_core.specs.View.{Member, member_view, members_of, view}
pub use Rattle.wgsl_core.specs.declared.ty.StructMemberType.{StructMemberType}
pub use Rattle.wgsl_core.specs.internal.Forms.{layers}
pub use Rattle.wgsl_core.specs.internal.View.{members_view}
pub use Rattle.wgsl_standard.specs.forms.Array.{all_load, referred}
pub use Rattle.wgsl_standard.specs.forms.Concrete.{abstract_results, concrete_of, concrete_result, has_abstract_type, result_among}
unfoldable pub use Rattle.wgsl_standard.specs.forms.Concrete.{abstract_result}
pub use Rattle.wgsl_standard.specs.forms.Expressions.{Expression, part_of, shown_type, value_from}
pub use Rattle.wgsl_standard.specs.forms.Kinds.{are_host_shareable, has_fixed_footprint, have_fixed_footprint, have_no_array}
pub use Rattle.wgsl_standard.specs.forms.Laws.{AddressesInvert, MakesConcrete, PointersCompose, SwizzlesLoad}
pub use Rattle.wgsl_standard.specs.forms.Lists.{all_fit, are_parameters, each_fits, Fits, member_types}
pub use Rattle.wgsl_standard.specs.forms.Load.{is_loadable, loaded, may_read}
pub use Rattle.wgsl_standard.specs.forms.Memory.{behind, formed_from, in_memory, is_memory}
pub use Rattle.wgsl_standard.specs.forms.Refusals.{Refusal, refusal_text}
pub use Rattle.wgsl_standard.specs.forms.Switch.{all_agree, are_constant, are_integers, first_concrete}
pub use Rattle.wgsl_standard.specs.forms.Variable.{may_end, may_end_members}
pub use Rattle.wgsl_standard.specs.forms.Views.{given, referent_of, refusal_view, unbuilt_view, viewed}
pub use Rattle.wgsl_standard.specs.declared.forms.form.Referent.{Referent}
pub use Rattle.wgsl_standard.specs.declared.forms.form.Referent.TheVariants.{Component, Swizzle, Whole}
pub use Rattle.wgsl_standard.specs.forms.internal.Results.{abstract_name, in_f32}
pub use Rattle.wgsl_rules.proofs.conversion.Equations.{converts_from_scalar, converts_from_within, converts_within}
pub use Rattle.wgsl_rules.proofs.conversion.Folds.{folded, IsFoldedFrom, none_stays}
pub use Rattle.wgsl_rules.specs.conversion.Common.{IsCommon, IsLeftCommon}
pub use Rattle.wgsl_rules.specs.conversion.Conversion.{Converts, ConvertsTo, Load, load}
pub use Rattle.wgsl_rules.specs.standard.Answers.{IsStandardAnswer}
pub use Rattle.wgsl_rules.specs.standard.Choice.{IsChosen, Operand}
pub use Rattle.wgsl_rules.specs.standard.Operators.{binary_overloads}
unfoldable pub use Rattle.wgsl_rules.specs.types.ResultStructs.{result_struct}
pub use Rattle.wgsl_rules.specs.types.Spelling.{wgsl_spelling}
pub use Rattle.wgsl_rules.specs.types.Types.{array_of, Layer, mat_of, member, Members, pointer, reference, scalar, struct, vec, vec_of, WgslType, within}
pub use Rattle.wgsl_standard.proofs.StandardAnswers.{an_answer, answer_at, answer_none, answer_once}
pub use Rattle.wgsl_standard.specs.Operands.{given_type, operand_view}
pub use Rattle.wgsl_standard.specs.Texts.{types_given}
pub use Rattle.wgsl_syntax.specs.ResultStruct.{result_name}
pub use Rattle.wgsl_syntax.specs.declared.address.AccessMode.{AccessMode}
pub use Rattle.wgsl_syntax.specs.declared.address.AddressSpace.{AddressSpace}
pub use Rattle.wgsl_syntax.specs.declared.operator.BinaryOperator.{BinaryOperator}
pub use Rattle.wgsl_syntax.specs.declared.result_struct.ResultFunction.{ResultFunction}
pub use Rattle.wgsl_syntax.specs.declared.result_struct.ResultFunction.TheVariants.{Frexp, Modf}
pub use Rattle.wgsl_syntax.specs.declared.result_struct.ResultShape.{ResultShape}
pub use Rattle.wgsl_syntax.specs.declared.scalar.Scalar.{Scalar}
pub use Rattle.wgsl_syntax.specs.declared.scalar.Scalar.TheVariants.{AbstractFloat, AbstractInt, F32}
