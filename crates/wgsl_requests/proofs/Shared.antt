-- Names of these specifications and of other crates that many proofs cite, passed on from one place. It declares nothing.
pub use Rattle.std.proofs.Common.{ap, append_assoc, arith, Bool, codes, decimal, Err, false, filter, Global, inl, inr, is_ok, length, List, map, None, Ok}
pub use Rattle.std.proofs.Common.{Option, refl, replicate, Result, rules, Some, string_bytes, subst, suc, sym, take, true, Vec, zero, ℕ, [], ◌%◌, ◌++◌, ◌+◌}
pub use Rattle.std.proofs.Common.{◌-◌, ◌<◌, ◌^◌, ◌∙◌, ◌∷◌, ◌≡◌, ◌⊎◌}
pub use Rattle.std.proofs.lemmas.Bool.{cases_lt, false_from_ne_true}
pub use Rattle.std.proofs.lemmas.List.{append-nil}
pub use Rattle.std.proofs.lemmas.Result.{on_ok_weaker}
pub use Rattle.std.specs.Bool.{Decides, MatchBool}
pub use Rattle.std.specs.Borrow.{Bor}
pub use Rattle.std.specs.Fmt.{format_spec, styled_decimal, styled_text}
unfoldable pub use Rattle.std.specs.Fmt.{char_count, padded, padded_integral, take_chars}
pub use Rattle.std.specs.List.{flat_map, repeat}
pub use Rattle.std.specs.Prelude.{IfOk, IfSome, if◌then◌else◌, IsTrue, MatchOption, OnOk, option_and_then, option_map, ⊤}
pub use Rattle.std.specs.Str.{bytes_eq, is_utf8}
pub use Rattle.std.specs.declared.alloc.AllocError.{AllocError}
pub use Rattle.wgsl_core.specs.Instances.{parameter_view}
pub use Rattle.wgsl_core.specs.Layout.{IsLayoutOfBy, layouts_of, offsets_of}
pub use Rattle.wgsl_core.specs.View.{member_view, struct_view, view}
pub use Rattle.wgsl_core.specs.declared.error.Fail.{Fail}
pub use Rattle.wgsl_core.specs.declared.layout.StructLayout.{StructLayout}
pub use Rattle.wgsl_core.specs.declared.ty.Type.{the_lemmas, «Type»}
pub use Rattle.wgsl_standard.specs.forms.Lists.{constructed, list_fits}
pub use Rattle.wgsl_standard.specs.forms.Views.{answer_view, taker_view, unbuilt_view}
pub use Rattle.wgsl_requests.specs.Standard.{loaded, template_type, WgslCall, WgslResolution}
pub use Rattle.wgsl_requests.specs.Texts.{column, columns, layout_text, member_line, member_lines, struct_line}
pub use Rattle.wgsl_requests.specs.Requests.{call, ctor, unary, WgslRequest}
pub use Rattle.wgsl_requests.specs.Standard.{AreNotesWith, IsExplanationOf, IsResolutionOf, IsTypeOf, WithTemplate}
pub use Rattle.wgsl_requests.specs.Views.{call_view, layout_view, outcome, placed_line, placed_lines, written_view}
pub use Rattle.wgsl_rules.proofs.conversion.Commons.{left_common_once, receives_cons, receives_head, receives_nil, receives_tail}
pub use Rattle.wgsl_rules.specs.conversion.Conversion.{Converts, ConvertsTo}
pub use Rattle.wgsl_rules.specs.layout.Layout.{AreOffsetsBy, HasAlignmentBy, HasNoSizeBy, HasSizeBy, IsExactly}
pub use Rattle.wgsl_rules.specs.standard.Answers.{is_template, IsCallAnswer, IsNamedAnswer, IsResolution, template_operand}
pub use Rattle.wgsl_rules.specs.standard.Choice.{IsChosen, parameters_for, result_for, types_of, value_of, Operand as WgslOperand}
pub use Rattle.wgsl_rules.specs.types.Signatures.{listed, Parameter, parameter_text, template_text}
pub use Rattle.wgsl_rules.specs.types.Spelling.{spelling, spelling_by, wgsl_spelling}
pub use Rattle.wgsl_rules.specs.types.Types.{Members, WgslType}
pub use Rattle.wgsl_standard.specs.Callees.{a_binary, a_unary, callee_view, overloads_listed, overloads_of, unknown_name, WgslCallee}
pub use Rattle.wgsl_standard.specs.Operands.{given_type, operand_view, operands_view}
pub use Rattle.wgsl_standard.specs.Resolved.{IsCallResolution, IsNamedResolution, resolved_view, with_line}
pub use Rattle.wgsl_standard.specs.Texts.{line_of, note_listed, note_text, texts_listed, types_given}
pub use Rattle.wgsl_standard.specs.declared.operand.Operand.{Operand}
pub use Rattle.wgsl_standard.specs.declared.refusal.Mismatch.{Mismatch}
pub use Rattle.wgsl_syntax.specs.declared.overload.Overload.{Overload}
pub use Rattle.wgsl_syntax.specs.declared.rules.RuleSet.{RuleSet}
