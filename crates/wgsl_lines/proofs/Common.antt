-- Names of these specifications and of other crates that many proofs cite, passed on from one place. It declares nothing.
pub use Rattle.std.proofs.Common.{All, IsOk, length-append, min, nat_le, w8, ◌&&◌}
pub use Rattle.std.proofs.Math.Seq.{take-add, take-append-add, take-append_seam}
pub use Rattle.std.proofs.lemmas.List.{get_or-take, length-take, take-append-drop, take-take, take_all, take_min}
pub use Rattle.std.proofs.lemmas.List.Elements.{All-append, All-head, All-nil, All-tail}
pub use Rattle.std.proofs.lemmas.Result.{err_from_is_err_and}
pub use Rattle.std.proofs.lemmas.Simd.{bitmask_splat, leading_from_mask_l, length-chunk, trailing_mask_l}
pub use Rattle.std.specs.Io.KnownBytes.{Appends, Consumes, IsAtEnd, Keeps}
pub use Rattle.std.specs.List.{AllZip, list_all}
pub use Rattle.std.specs.Simd.Lanes.{chunk}
pub use Rattle.wgsl_lines.specs.Output.{is_readable, lines_of, next_number, printed, printed_from, Prints, PrintsFirst, PrintsLines, PrintsUntil, PrintsUpTo}
pub use Rattle.wgsl_lines.specs.Output.{AnswersLine, Ends, HasPrinted, HasStopped, HasTaken, IsAtStart, IsBetween, number_after, reply_of_kind, StopsAfter}
pub use Rattle.wgsl_lines.specs.declared.run.RunError.{RunError}
pub use Rattle.wgsl_lines.specs.declared.run.RunError.TheVariants.{Memory, Read, Write}
pub use Rattle.wgsl_lines.specs.declared.run.Session.{Session}
pub use Rattle.wgsl_replies.proofs.OneReply.{long_line, one_line_reply}
pub use Rattle.wgsl_replies.specs.Replies.{IsReplyToLine}
pub use Rattle.wgsl_requests.proofs.Shared.{AllocError, ap, append-nil, append_assoc, arith, Bool, Err, false, if◌then◌else◌, is_ok, length, List, None, Ok}
pub use Rattle.wgsl_requests.proofs.Shared.{Option, refl, Result, rules, RuleSet, Some, string_bytes, subst, suc, sym, take, true, zero, ℕ, [], ◌++◌, ◌+◌, ◌-◌}
pub use Rattle.wgsl_requests.proofs.Shared.{◌<◌, ◌∙◌, ◌∷◌, ◌≡◌}
pub use Rattle.wgsl_requests.specs.Replies.{answer, ReplyText, unreadable, WritesReply}
pub use Rattle.wgsl_replies.proofs.Common.{common_steps, drop, drop-drop, nat_eq as eqb, get_or, length-drop, nil_from_length, not, prefix_len, ◌==◌, ◌≢◌, ◌≤◌}
pub use Rattle.std.proofs.Common.{ok_or}
pub use Rattle.wgsl_replies.proofs.OneReply.{one_to_request}
pub use Rattle.wgsl_replies.specs.Replies.{IsReplyTo}
pub use Rattle.wgsl_requests.proofs.Shared.{cases_lt, codes, inl, inr, left_common_once, list_fits, map, Members}
pub use Rattle.wgsl_requests.proofs.Shared.{option_and_then, option_map, Parameter, receives_cons, receives_head, receives_nil, receives_tail}
pub use Rattle.wgsl_requests.proofs.Shared.{types_of, WgslCall, WgslType, ◌^◌, ◌⊎◌}
pub use Rattle.wgsl_rules.proofs.conversion.Commons.{some_common, some_left_common}
pub use Rattle.wgsl_rules.proofs.conversion.Order.{dec_converts}
pub use Rattle.wgsl_rules.proofs.layout.Placing.{Aligned, end_of, laid, least_total, no_earlier, no_less, starts}
pub use Rattle.wgsl_rules.proofs.layout.StructSizes.{all_aligned, never_both}
pub use Rattle.wgsl_rules.proofs.types.Equality.{both, by, same_type}
pub use Rattle.wgsl_rules.specs.Headline.{Receives}
pub use Rattle.wgsl_rules.specs.conversion.Common.{IsCommon, IsLeftCommon}
pub use Rattle.wgsl_rules.specs.conversion.Concrete.{concretized, is_abstract, IsAbstract}
pub use Rattle.wgsl_rules.specs.errors.Refusals.{binary, builtin, conversion, param_count, ptr_handle, Refusal, signature, template_args, unary}
pub use Rattle.wgsl_rules.specs.templates.Templates.{array_template, IsBitcastTemplate, IsMatTemplate, IsTemplateOf, IsVecTemplate}
pub use Rattle.wgsl_rules.specs.types.Inner.{inner_of}
pub use Rattle.wgsl_rules.specs.types.Kinds.{IsAtomic, IsFloat, IsFloatScalar, IsInteger, IsIntegerOrVector, IsNumeric, IsNumericOrVector, IsScalar}
pub use Rattle.wgsl_rules.specs.types.Kinds.{IsScalarOrVector}
pub use Rattle.wgsl_rules.specs.types.ResultStructs.{float_of, result_struct, shaped}
pub use Rattle.wgsl_rules.specs.types.Signatures.{of_type, Signature}
pub use Rattle.wgsl_rules.specs.types.Types.{acceleration_structure, array, atomic, mat, mat_of, member, no_members, pointer, reference, texture, vec, vec_of}
pub use Rattle.wgsl_rules.specs.types.Types.{within}
pub use Rattle.wgsl_syntax.specs.TextureKind.{dimensions, IsArrayed, IsDepth, IsMultisampled, IsSampled}
pub use Rattle.wgsl_syntax.specs.declared.address.AddressSpace.TheVariants.{Function, Handle, Workgroup}
pub use Rattle.wgsl_syntax.specs.declared.call.Shape.{Shape}
pub use Rattle.wgsl_syntax.specs.declared.scalar.Scalar.{Scalar}
pub use Rattle.wgsl_syntax.specs.declared.scalar.Scalar.TheVariants.{AbstractFloat, AbstractInt, F16, F32, F64, I32, I64, U32, U64}
pub use Rattle.wgsl_replies.proofs.Common.{scalar, struct, ◌*◌}
pub use native.Mathlib.Decide.{ℕ_discrete}
