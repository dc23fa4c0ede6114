-- Names of these specifications and of other crates that many proofs cite, passed on from one place. It declares nothing.
pub use Rattle.std.proofs.Output.{has_written_of_eq}
pub use Rattle.std.proofs.lemmas.List.{drop_all, length-map, map-append, map_push}
pub use Rattle.std.specs.Fmt.{HasWritten, IsPlainFormatter}
pub use Rattle.std.specs.Iterator.{DrainsIf, Yields}
pub use Rattle.wgsl_core.specs.Answer.{AnswersBy, refusal}
pub use Rattle.wgsl_core.specs.Converted.{NeedsNoMemory}
unfoldable pub use Rattle.wgsl_core.specs.Converted.{converted, inner_converted}
pub use Rattle.wgsl_core.specs.Forms.{form_view, layer_of, scalar_of}
pub use Rattle.wgsl_core.specs.Instances.{literal_view, parameter_view}
pub use Rattle.wgsl_core.specs.Placing.{IsSoonestEnd, IsSoonestOffset, IsValue}
pub use Rattle.wgsl_core.specs.ResultStruct.{plain, result_type, struct_type}
pub use Rattle.wgsl_core.specs.View.{Member, member_step, member_view, members_of, Struct, struct_step, struct_view, type_step, view}
pub use Rattle.wgsl_core.specs.declared.error.Error.{Error}
pub use Rattle.wgsl_core.specs.declared.literal.LiteralInstance.{LiteralInstance}
pub use Rattle.wgsl_core.specs.declared.ty.StructMemberType.{out-StructMemberType, StructMemberType}
pub use Rattle.wgsl_core.specs.declared.ty.StructType.{out-StructType, StructType}
pub use Rattle.wgsl_core.specs.declared.ty.Type.{fold-roll-Type, out-Type, roll-out-Type, roll-Type, the_lemmas, «Type»}
pub use Rattle.wgsl_core.specs.declared.ty.form.Form.{Form}
pub use Rattle.wgsl_core.specs.internal.Forms.{HaveElements, layers}
pub use Rattle.wgsl_core.specs.internal.Layout.{ArePlaced, HasSomeSize, IsMeasure}
pub use Rattle.wgsl_core.specs.internal.Nodes.{node_view}
pub use Rattle.wgsl_core.specs.internal.View.{members_view}
pub use Rattle.wgsl_rules.proofs.conversion.Equations.{converts_same, converts_within, load_converts, load_rank, same_rank}
pub use Rattle.wgsl_rules.proofs.conversion.Folds.{fold_more, IsFoldedFrom}
pub use Rattle.wgsl_rules.proofs.conversion.Order.{above_to_within, along_above, load_readable}
pub use Rattle.wgsl_rules.proofs.conversion.Walks.{Ancestor, converts_nodes, HaveEqualLayers, load_bare, type_at_once}
pub use Rattle.wgsl_rules.proofs.layout.Steps.{array_size, counted_size, lacks_size, least_is_size, other_align, stride, times, vector_align}
pub use Rattle.wgsl_rules.proofs.operators.Unary.{IsPointer, negated, not_complemented, not_negated, not_opposed, one_reference, opposed}
pub use Rattle.wgsl_rules.specs.conversion.Common.{IsCommon}
pub use Rattle.wgsl_rules.specs.conversion.Conversion.{Converts, ConvertsIn, ConvertsTo, Load, load}
pub use Rattle.wgsl_rules.specs.conversion.Lists.{IsCommonOfGiven, IsCommonOfList}
pub use Rattle.wgsl_rules.specs.errors.Refusals.{binary, message, Refusal}
pub use Rattle.wgsl_rules.specs.internal.Nodes.{at_result, at_scalar, Node, parent_of, rank_from_root, type_at}
pub use Rattle.wgsl_rules.specs.layout.Layout.{HasSizeBy, IsAlignOfThreeBy, IsExactly}
pub use Rattle.wgsl_rules.specs.operators.Answers.{BinaryCandidate, HasCandidate, IsUnaryAnswer}
unfoldable pub use Rattle.wgsl_rules.specs.operators.Answers.{IsChosenCandidate, IsChosenResult}
pub use Rattle.wgsl_rules.specs.operators.UnaryRows.{address_row, complement_row, indirection_row, IsUnaryRow}
pub use Rattle.wgsl_rules.specs.types.Kinds.{IsArray, IsAtomic, IsInteger, IsIntegerOrVector, IsIntegerScalar, IsMatrix, IsScalar, IsStruct, IsVector}
pub use Rattle.wgsl_rules.specs.types.Literals.{abstract_int, bool, i32, i64, Literal, literal_text, u32, u64}
pub use Rattle.wgsl_rules.specs.types.ResultStructs.{exponent_of, float_of, plain_member, result_members, shaped}
unfoldable pub use Rattle.wgsl_rules.specs.types.ResultStructs.{result_struct}
pub use Rattle.wgsl_rules.specs.types.Signatures.{parameter_text, Signature}
pub use Rattle.wgsl_rules.specs.types.Spelling.{spelling}
pub use Rattle.wgsl_rules.specs.types.Types.{array, atomic, Layer, mat, mat_of, member, Members, no_members, pointer, reference, scalar, struct, vec, vec_of, WgslType, within}
pub use Rattle.wgsl_syntax.specs.Address.{MayRead}
pub use Rattle.wgsl_syntax.specs.ResultStruct.{function_text, precision_text, result_name, shape_text}
pub use Rattle.wgsl_syntax.specs.declared.address.AccessMode.{AccessMode}
pub use Rattle.wgsl_syntax.specs.declared.address.AddressSpace.{AddressSpace}
pub use Rattle.wgsl_syntax.specs.declared.operator.BinaryOperator.{BinaryOperator}
pub use Rattle.wgsl_syntax.specs.declared.operator.UnaryOperator.TheVariants.{AddressOf, BitwiseComplement, Indirection, LogicalNegation, Negation}
pub use Rattle.wgsl_syntax.specs.declared.result_struct.ResultFunction.{ResultFunction}
pub use Rattle.wgsl_syntax.specs.declared.result_struct.ResultFunction.TheVariants.{Frexp, Modf}
pub use Rattle.wgsl_syntax.specs.declared.result_struct.ResultPrecision.{ResultPrecision}
pub use Rattle.wgsl_syntax.specs.declared.result_struct.ResultShape.{ResultShape}
pub use Rattle.wgsl_syntax.specs.declared.result_struct.ResultStruct.{ResultStruct}
pub use Rattle.wgsl_syntax.specs.declared.rules.RuleSet.{RuleSet}
pub use Rattle.wgsl_syntax.specs.declared.scalar.Scalar.{Scalar}
pub use Rattle.wgsl_syntax.specs.declared.scalar.Scalar.TheVariants.{Bool, F32, U32}
