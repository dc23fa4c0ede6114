-- Names of these specifications and of other crates that many proofs cite, passed on from one place. It declares nothing.
pub use Rattle.std.proofs.lemmas.List.{drop_all, get_or-map, length-map}
pub use Rattle.std.proofs.lemmas.List.Elements.{All-cons, All-head, All-nil, All-tail}
pub use Rattle.wgsl_calls.specs.Calls.{signature_of}
pub use Rattle.wgsl_calls.specs.Constructors.{AreAll, IsLeastAmong, IsLeastMade, IsMatrixCandidate, IsScalarCandidate, IsScalarMade, MakeColumns, matrix_components, matrix_copy, scalar_conversion, scalar_zero}
pub use Rattle.wgsl_calls.specs.internal.Answers.{Answered, Chooses, IsBuilt, IsMet, MayBeOutOfMemory}
pub use Rattle.wgsl_calls.specs.internal.Constructors.{AllConverted, constructor_view, IsMisfitAt, IsStuckAt}
pub use Rattle.wgsl_core.proofs.Recognition.{view-struct, view-ty}
pub use Rattle.wgsl_core.specs.Answer.{AnswersAs, AnswersBy, IsAnswered, refusal}
pub use Rattle.wgsl_core.specs.View.{member_view, struct_view, view}
pub use Rattle.wgsl_core.specs.declared.error.Error.{Error}
pub use Rattle.wgsl_core.specs.declared.error.Fail.{Fail}
pub use Rattle.wgsl_core.specs.declared.ty.StructType.{out-StructType, StructType}
pub use Rattle.wgsl_core.specs.declared.ty.Type.{«Type»}
pub use Rattle.wgsl_core.specs.internal.View.{members_view}
pub use Rattle.wgsl_rules.proofs.conversion.Commons.{left_common_least, left_common_none, receives_cons, receives_head, receives_nil, receives_tail, value_above, values_head}
pub use Rattle.wgsl_rules.proofs.conversion.Folds.{folded, IsFoldedFrom, none_stays}
pub use Rattle.wgsl_rules.proofs.conversion.Order.{Above, above_converts, above_from_within, above_inside, above_to_within, above_values, value_converts}
pub use Rattle.wgsl_rules.proofs.operators.Families.{fill, fill_all, HasOpen, inner, IsLeastOf, IsPut, least_of, none_of, put_once, puts_taken, Slot, taken_above, taken_puts, whole}
pub use Rattle.wgsl_rules.proofs.operators.FamilyKinds.{above_admits, above_outer, any_scalar, as_scalar}
pub use Rattle.wgsl_rules.proofs.templates.OneAnswer.{mat_template_once, vec_template_once}
pub use Rattle.wgsl_rules.specs.Headline.{Receives}
pub use Rattle.wgsl_rules.specs.calls.ResultTypes.{hit_positions_type}
unfoldable pub use Rattle.wgsl_rules.specs.calls.ResultTypes.{exchange_struct, ray_intersection_struct}
pub use Rattle.wgsl_rules.specs.calls.Rows.{AllAre, BeginAs, Fits, given, IsFromTemplate, IsReturnType, return_type_of}
pub use Rattle.wgsl_rules.specs.constructors.Constructors.{AllFit, IsArrayCall, IsFirstMisfit, IsTypedArray, member_count, scalar_call}
pub use Rattle.wgsl_rules.specs.constructors.Matrices.{component_of, IsMatrixCall, IsMatrixOf, IsTypedMatrix, IsTypedMatrixOf, IsTypedMatrixOfOne, IsUntypedMatrix, IsUntypedMatrixOf, IsUntypedMatrixOfOne}
pub use Rattle.wgsl_rules.specs.constructors.Steps.{IsFirstStuck, Then, ThenCommon}
pub use Rattle.wgsl_rules.specs.constructors.Vectors.{all_components, BringsComponents, IsTypedVector, IsTypedVectorOfOne, IsTypedVectorOfSeveral, IsVectorCall}
pub use Rattle.wgsl_rules.specs.conversion.Common.{IsCommon, IsLeftCommon, of_no_types, of_one_type}
pub use Rattle.wgsl_rules.specs.conversion.Conversion.{ConvertsTo, IsValueType}
pub use Rattle.wgsl_rules.specs.conversion.Converted.{IsConverted, IsConvertedInside}
pub use Rattle.wgsl_rules.specs.errors.Refusals.{builtin, conversion, param_count, param_type, Refusal, signature}
pub use Rattle.wgsl_rules.specs.operators.Choice.{HasRanks, IsNowhereMore, IsSomewhereLess, Takes}
pub use Rattle.wgsl_rules.specs.templates.Templates.{array_template, IsMatTemplate, IsTemplateOf, IsVecTemplate}
pub use Rattle.wgsl_rules.specs.types.Inner.{inner_of}
pub use Rattle.wgsl_rules.specs.types.Kinds.{IsFloatScalar, IsLeaf, IsMatrix, IsScalar, IsScalarOrVector}
pub use Rattle.wgsl_rules.specs.types.ResultStructs.{float_of, shaped}
unfoldable pub use Rattle.wgsl_rules.specs.types.ResultStructs.{result_struct}
pub use Rattle.wgsl_rules.specs.types.Signatures.{of_type, Parameter, Signature}
pub use Rattle.wgsl_rules.specs.types.Types.{array, array_of, Layer, mat, mat_of, member, Members, no_members, scalar, vec, vec_of, WgslType, within}
pub use Rattle.wgsl_syntax.specs.declared.call.ReturnType.{ReturnType}
pub use Rattle.wgsl_syntax.specs.declared.call.Row.{Row}
pub use Rattle.wgsl_syntax.specs.declared.scalar.Scalar.{Scalar}
pub use Rattle.wgsl_syntax.specs.declared.scalar.Scalar.TheVariants.{AbstractFloat, AbstractInt, F16, F32}
