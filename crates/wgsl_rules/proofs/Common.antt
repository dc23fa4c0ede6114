-- Names of these specifications and of other crates that many proofs cite, passed on from one place. It declares nothing.
pub use Rattle.std.proofs.lemmas.List.Elements.{All-cons, All-head, All-nil, All-tail}
pub use Rattle.std.proofs.lemmas.Nat.Gcd.{dvd_of_mod-eq-zero, dvd_refl, le_of_dvd, mod-eq-zero_of_dvd}
pub use Rattle.std.proofs.lemmas.Option.{same_Some}
pub use Rattle.std.specs.Int.{next_multiple_of, ◌∣◌}
pub use Rattle.wgsl_rules.specs.Headline.{IsChosenAnswer, IsLeastCandidate, IsLeastCommon, IsLeastCommonAnswer, IsLeastConcrete, IsLeastPlacedSize, Receives}
pub use Rattle.wgsl_rules.specs.Laws.{IsCallName, LeftCommonIsLeast}
pub use Rattle.wgsl_rules.specs.calls.Answers.{IsAnswerOf, IsChosenCall, name_of, NamesMatchTable, RefusedThoughTaken}
unfoldable pub use Rattle.wgsl_rules.specs.calls.Answers.{IsCallAnswer, IsLeastCallAnswer}
pub use Rattle.wgsl_rules.specs.calls.Names.{IsNameAt}
unfoldable pub use Rattle.wgsl_rules.specs.calls.Names.{call_names}
pub use Rattle.wgsl_rules.specs.calls.Rows.{Fits, given, HaveEqualLengths, IsCommonOf, IsReturnType, IsSource, return_type_of, vector_like}
pub use Rattle.wgsl_rules.specs.calls.Shapes.{Is, IsScalarOf, IsScalarOrVectorOf, IsVectorOf}
pub use Rattle.wgsl_rules.specs.calls.Table.{Line, rows_named}
unfoldable pub use Rattle.wgsl_rules.specs.calls.Table.{call_table}
pub use Rattle.wgsl_rules.specs.conversion.Common.{IsCommon, IsCommonWith, IsLeftCommon, of_last_member, of_no_types, of_one_type}
pub use Rattle.wgsl_rules.specs.conversion.Concrete.{concretized, HasFloatMatrices, is_abstract, IsAbstract}
pub use Rattle.wgsl_rules.specs.conversion.Conversion.{base, Converts, ConvertsIn, ConvertsTo, float_to_f32, int_to_i32, IsValueType, Load, load, load_inside, Path, PathOf, result_to_f32}
pub use Rattle.wgsl_rules.specs.conversion.Converted.{IsConverted, IsConvertedInside}
pub use Rattle.wgsl_rules.specs.conversion.Loading.{IsReference, loaded_of}
pub use Rattle.wgsl_rules.specs.errors.Refusals.{builtin, conversion, param_count, param_type, Refusal, signature, unary}
pub use Rattle.wgsl_rules.specs.internal.Nodes.{at_result, at_scalar, Node, parent_of, precision_depth, rank_from_root, scalar_depth, type_at}
pub use Rattle.wgsl_rules.specs.layout.Layout.{AreOffsetsBy, HasAlignmentBy, HasSizeBy, HaveLayoutsBy, IsGiven, IsStructLayoutBy, IsStructSize}
pub use Rattle.wgsl_rules.specs.layout.Placement.{AreLaid, greatest, greatest_align, IsLeastTotal, IsPlacement, MemberLayout}
pub use Rattle.wgsl_rules.specs.operators.Answers.{BinaryCandidate, HasCandidate, IsOperatorAnswer, IsUnaryAnswer}
pub use Rattle.wgsl_rules.specs.operators.Candidates.{each_either, either, insert_bits, IsArithmetic, IsBitwise, IsCandidate, IsComparison, IsLogical, IsMixed, IsOfThree, IsOrAnd, IsShift, IsSum, mix, mixed, Name, of_three, of_two, operator, refract, select}
pub use Rattle.wgsl_rules.specs.operators.Choice.{HasRanks, IsNowhereMore, IsSomewhereLess, Takes}
pub use Rattle.wgsl_rules.specs.templates.Templates.{array_template, IsBitcastTemplate, IsMatTemplate, IsTemplateOf, IsVecTemplate}
pub use Rattle.wgsl_rules.specs.types.Inner.{inner_of}
pub use Rattle.wgsl_rules.specs.types.Kinds.{IsAbstractIntOrVector, IsFloat, IsFloatOrVector, IsFloatScalar, IsFloatVector, IsInteger, IsIntegerOrVector, IsLeaf, IsNumeric, IsNumericOrVector, IsScalar, IsScalarOrVector, IsVector}
pub use Rattle.wgsl_rules.specs.types.ResultStructs.{float_of, plain_member, result_members, shaped}
unfoldable pub use Rattle.wgsl_rules.specs.types.ResultStructs.{result_struct}
pub use Rattle.wgsl_rules.specs.types.Signatures.{of_type, Parameter, Signature}
pub use Rattle.wgsl_rules.specs.types.Types.{array, array_of, atomic, Layer, mat, mat_of, member, Members, no_members, pointer, reference, scalar, struct, vec, vec_of, WgslType, within}
pub use Rattle.wgsl_syntax.specs.Address.{MayRead}
pub use Rattle.wgsl_syntax.specs.declared.address.AccessMode.{AccessMode}
pub use Rattle.wgsl_syntax.specs.declared.address.AccessMode.TheVariants.{Atomic, Read, ReadWrite, Write}
pub use Rattle.wgsl_syntax.specs.declared.address.AddressSpace.{AddressSpace}
pub use Rattle.wgsl_syntax.specs.declared.address.AddressSpace.TheVariants.{Handle, Private}
pub use Rattle.wgsl_syntax.specs.declared.call.Row.{Row}
pub use Rattle.wgsl_syntax.specs.declared.call.Shape.{Shape}
pub use Rattle.wgsl_syntax.specs.declared.call.Source.{Source}
pub use Rattle.wgsl_syntax.specs.declared.operator.BinaryOperator.{BinaryOperator}
pub use Rattle.wgsl_syntax.specs.declared.operator.UnaryOperator.TheVariants.{AddressOf, BitwiseComplement, Indirection, LogicalNegation, Negation}
pub use Rattle.wgsl_syntax.specs.declared.result_struct.ResultFunction.{ResultFunction}
pub use Rattle.wgsl_syntax.specs.declared.result_struct.ResultFunction.TheVariants.{Frexp, Modf}
pub use Rattle.wgsl_syntax.specs.declared.result_struct.ResultPrecision.{ResultPrecision}
pub use Rattle.wgsl_syntax.specs.declared.result_struct.ResultShape.{ResultShape}
pub use Rattle.wgsl_syntax.specs.declared.rules.RuleSet.{RuleSet}
pub use Rattle.wgsl_syntax.specs.declared.rules.RuleSet.TheVariants.{Ported, Standard}
pub use Rattle.wgsl_syntax.specs.declared.scalar.Scalar.{Scalar}
pub use Rattle.wgsl_syntax.specs.declared.scalar.Scalar.TheVariants.{AbstractFloat, AbstractInt, Bool, F16, F32, F64, I32, I64, U32, U64}
pub use native.Mathlib.Decide.{ℕ_discrete}
