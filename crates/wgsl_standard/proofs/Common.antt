-- Names of these specifications and of other crates that many proofs cite, passed on from one place. It declares nothing.
pub use Rattle.std.proofs.Math.Seq.{drop-cons, take-suc}
pub use Rattle.std.proofs.Output.{has_written_append, has_written_of_eq}
pub use Rattle.std.proofs.lemmas.Bool.{and_from, and_parts, both_ways, eqb-false, not-true, or_cases}
pub use Rattle.std.proofs.lemmas.List.{drop-map, drop_all, length-map, length-replicate, map-append, take-map}
pub use Rattle.std.proofs.lemmas.List.Concat.{flat_map-append}
pub use Rattle.std.proofs.lemmas.List.Elements.{All-append, All-cons, All-drop, All-nil, All-push, All-take}
pub use Rattle.std.proofs.lemmas.Option.{get_or_from_slice_get, slice_get-get_or}
pub use Rattle.std.proofs.lemmas.Slice.Eq.{bytes_eq-Decides}
pub use Rattle.std.specs.Fmt.{HasWritten, IsPlainFormatter}
pub use Rattle.std.specs.List.{list_all, list_any, prefix_len}
pub use Rattle.wgsl_core.specs.Equality.{type_eq, type_eq_decides}
pub use Rattle.wgsl_core.specs.View.{view}
pub use Rattle.wgsl_rules.proofs.conversion.Equations.{converts_alone, converts_from_scalar, converts_from_within, converts_inside, converts_scalar, converts_within, scalar_rank, StandsAlone}
pub use Rattle.wgsl_rules.proofs.conversion.Order.{Above, above_antisym, above_chain, above_converts, above_to_within, above_trans, further, here, value_converts}
pub use Rattle.wgsl_rules.proofs.conversion.Steps.{depth}
pub use Rattle.wgsl_rules.specs.calls.Names.{IsNameAt, IsRising}
pub use Rattle.wgsl_rules.specs.conversion.Concrete.{IsAbstract}
pub use Rattle.wgsl_rules.specs.conversion.Conversion.{base, BaseStep, Converts, inside, int_to_float, IsValueType, Step}
pub use Rattle.wgsl_rules.specs.internal.Nodes.{scalar_depth}
pub use Rattle.wgsl_rules.specs.operators.Choice.{HasRanks, IsNowhereMore, IsSomewhereLess}
pub use Rattle.wgsl_rules.specs.standard.Choice.{IsChosen, IsPreferred, NoneTakes, Operand, parameter_for, parameters_for, result_for, TakesOperands, value_of}
unfoldable pub use Rattle.wgsl_rules.specs.standard.ConstructorNames.{constructor_table, template_constructor_table}
unfoldable pub use Rattle.wgsl_rules.specs.standard.Evaluation.{evaluation_table}
pub use Rattle.wgsl_rules.specs.standard.LetterKinds.{is_of_kind}
pub use Rattle.wgsl_rules.specs.standard.Names.{names_of, overloads_named, template_function_table, value_named}
unfoldable pub use Rattle.wgsl_rules.specs.standard.Names.{function_table}
pub use Rattle.wgsl_rules.specs.standard.Overloads.{AreParameters, component_in, count_in, dimensions_in, in_order, IsCandidateOf, IsParameter, IsSubstitution, kinds_of, Names, one_or_vector, patterns_of, type_with}
pub use Rattle.wgsl_rules.specs.standard.Refusal.{IsRefusedAt, SomeTakesFirst, TakesFirst}
pub use Rattle.wgsl_rules.specs.standard.Resources.{letter_of, precision_of}
pub use Rattle.wgsl_rules.specs.standard.Signatures.{after_comma, first_resource, is_scalar_or_vector, overload_lines, pattern_text, patterns_text, signature_lines, signature_text}
pub use Rattle.wgsl_rules.specs.standard.Tables.{AreInOrder, HasOneResult, IsPreferredTo, IsPreferredToAll, IsUnambiguous}
unfoldable pub use Rattle.wgsl_rules.specs.types.ResultStructs.{result_struct}
pub use Rattle.wgsl_rules.specs.types.Types.{array_of, atomic, mat_of, pointer, sampler, scalar, texture, vec_of, WgslType, within}
pub use Rattle.wgsl_standard.specs.Callees.{callee_view, overloads_listed, overloads_of, WgslCallee}
pub use Rattle.wgsl_standard.specs.Explained.{AreNotes, no_overloads, note_view, or_none, refused, taken, with_note}
pub use Rattle.wgsl_standard.specs.Lines.{binary_operators_named, callees_before, line_of_overload, lines_before, NoteStandsAtIndex, StandsAtIndex, unary_operators_named}
pub use Rattle.wgsl_standard.specs.Mismatches.{is_nearer, IsMismatch}
pub use Rattle.wgsl_standard.specs.Operands.{operand_view, operands_view}
pub use Rattle.wgsl_standard.specs.Texts.{callee_text, first_line_of, is_vector, line_of, line_with, lines_listed, name_of, note_line, note_text, texts_listed, types_given}
pub use Rattle.wgsl_standard.specs.declared.binding.Binding.{Binding}
pub use Rattle.wgsl_standard.specs.declared.callee.Callee.{Callee}
pub use Rattle.wgsl_standard.specs.internal.Binding.{bind, bind_all, bind_first, bind_if, bind_pattern, bind_same, bind_value, converts, first_of, first_of_kind, first_pattern, first_target, join, later, may_be, must_be_concrete, or_later, pick, some_takes_first, substitution_of, targets}
pub use Rattle.wgsl_standard.specs.internal.Choices.{choice_view}
pub use Rattle.wgsl_standard.specs.internal.FixedResults.{has_one_result, says_letter}
pub use Rattle.wgsl_standard.specs.internal.Groups.{group_of, resource_group, texture_group, type_group}
pub use Rattle.wgsl_standard.specs.internal.Parts.{parts_of}
pub use Rattle.wgsl_standard.specs.internal.Rows.{evaluation_of, function_of, row_of}
pub use Rattle.wgsl_syntax.specs.Nearest.{nearest_view, offered}
pub use Rattle.wgsl_syntax.specs.declared.operator.BinaryOperator.{BinaryOperator}
pub use Rattle.wgsl_syntax.specs.declared.operator.UnaryOperator.{UnaryOperator}
pub use Rattle.wgsl_syntax.specs.declared.overload.Component.{Component}
pub use Rattle.wgsl_syntax.specs.declared.overload.Count.{Count}
pub use Rattle.wgsl_syntax.specs.declared.overload.Dimensions.{Dimensions}
pub use Rattle.wgsl_syntax.specs.declared.overload.Dimensions.TheVariants.{Matrix, Single, Vector}
pub use Rattle.wgsl_syntax.specs.declared.overload.Kind.{Kind}
pub use Rattle.wgsl_syntax.specs.declared.overload.Overload.{Overload}
pub use Rattle.wgsl_syntax.specs.declared.overload.Pattern.{Pattern}
pub use Rattle.wgsl_syntax.specs.declared.overload.Resource.{Resource}
pub use Rattle.wgsl_syntax.specs.declared.overload.Shape.{Shape}
pub use Rattle.wgsl_syntax.specs.declared.overload.Substitution.{Substitution}
pub use Rattle.wgsl_syntax.specs.declared.scalar.Scalar.{Scalar}
pub use Rattle.wgsl_syntax.specs.declared.scalar.Scalar.TheVariants.{AbstractFloat, AbstractInt, Bool, F16, F32, I32, I64, U32, U64}
pub use native.Mathlib.Decide.{dec_lt, ℕ_discrete}
