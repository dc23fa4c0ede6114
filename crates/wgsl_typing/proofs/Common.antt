-- Names of these specifications and of other crates that many proofs cite, passed on from one place. It declares nothing.
pub use Rattle.std.proofs.Common.{ap, arith, Bool, Bor, BTreeMap, bytes_eq, cond, drop, false, IfSome, is_some, le-leb, length, length-append, List, nat_cmp}
pub use Rattle.std.proofs.Common.{nat_le, None, Option, option_and_then, refl, reverse, slice_get, Some, subst, suc, sym, take, true, vec_len, ℕ, [], ⊎_elim}
pub use Rattle.std.proofs.Common.{◌++◌, ◌+◌, ◌<◌, ◌∙◌, ◌∷◌, ◌≡◌, ◌≤◌}
pub use Rattle.std.proofs.Math.Logic.{∥∥₁_elim, ∥∥₁_map}
pub use Rattle.std.proofs.lemmas.Grind.{common_steps}
pub use Rattle.std.proofs.lemmas.List.{get_or_append_left, length-reverse, reverse-append}
pub use Rattle.std.proofs.lemmas.Map.Text.{btree_map_updates_str}
pub use Rattle.std.specs.BTreeMap.{get_by}
pub use Rattle.std.specs.Cmp.Lexicographic.{slice_cmp}
pub use Rattle.std.specs.declared.alloc.AllocError.{AllocError}
pub use Rattle.wgsl_core.specs.View.{view}
pub use Rattle.wgsl_standard.specs.forms.Array.{IsInferredArray, typed_array}
pub use Rattle.wgsl_standard.specs.forms.Lists.{constructed, function, list_fits}
pub use Rattle.wgsl_standard.specs.forms.Refusals.{Refusal}
pub use Rattle.wgsl_standard.specs.forms.Views.{answer_view, given, unbuilt_view}
pub use Rattle.wgsl_rules.specs.standard.Choice.{Operand, value_of}
pub use Rattle.wgsl_rules.specs.types.Types.{WgslType}
pub use Rattle.wgsl_standard.specs.Callees.{a_binary, a_unary, callee_view, WgslCallee}
pub use Rattle.wgsl_standard.specs.Resolved.{IsCallResolution, resolved_view}
pub use Rattle.wgsl_standard.specs.declared.resolved.ResolvedCall.{ResolvedCall}
pub use Rattle.wgsl_typing.specs.Declarations.{answer_of, IsHeld, IsHeldFor, type_behind, value_of_variable}
pub use Rattle.wgsl_typing.specs.Indices.{AreNested, Block, Gives, in_block, IsIndex, IsIndexed, names_of, start}
pub use Rattle.wgsl_typing.specs.Outcomes.{HasResult, IsAnswer, IsFound, IsMessage, IsOverloaded, IsType, IsUnary, loaded, operands_of, resolved, shown, stage_of, typed_parts, types_of}
pub use Rattle.wgsl_typing.specs.Scopes.{before, closed, cut, is_here, locals_of, named, scope_view, since, starts_of, with_name}
pub use Rattle.wgsl_typing.specs.Stages.{later}
pub use Rattle.wgsl_typing.specs.declared.ask.Unresolved.{Unresolved}
pub use Rattle.wgsl_typing.specs.declared.known.Outcome.{Outcome}
pub use Rattle.wgsl_typing.specs.declared.known.Part.{Part}
pub use Rattle.wgsl_typing.specs.declared.known.Typed.{Typed}
pub use Rattle.wgsl_typing.specs.declared.scope.Local.{Local}
pub use Rattle.wgsl_typing.specs.declared.stage.Stage.{Stage}
