-- Names of these specifications and of other crates that many proofs cite, passed on from one place. It declares nothing.
pub use Rattle.std.proofs.Common.{cond, drop, FitsSigned, get_or, IsErrAnd, IsUtf8, length-set, ltb, nat_eq, neg_ℤ, negsuc, not, pos, set, ℤ, ◌*◌, ◌==◌, ◌≢◌}
pub use Rattle.std.proofs.Common.{◌&&◌, ◌≤◌}
pub use Rattle.std.proofs.lemmas.Bool.{lt-ltb, ltb-true, not-false}
pub use Rattle.std.proofs.lemmas.Grind.{common_steps}
pub use Rattle.std.proofs.lemmas.List.{drop-drop, length-drop, map-append, nil_from_length}
pub use Rattle.std.proofs.lemmas.List.Folds.{length-prefix_len}
pub use Rattle.std.proofs.lemmas.Slice.Eq.{bytes_eq-Decides}
pub use Rattle.std.proofs.lemmas.Str.Pattern.{ends_text}
pub use Rattle.std.specs.List.{ends_with, prefix_len, take_while}
pub use Rattle.std.specs.Prelude.{slice_index}
pub use Rattle.std.specs.Result.{OkIff, result_ok}
pub use Rattle.std.specs.Str.{all_ascii_digits, IsAscii, IsCharBoundary}
pub use Rattle.wgsl_core.specs.View.{Member, members_of}
pub use Rattle.wgsl_requests.proofs.Shared.{ap, append-nil, append_assoc, arith, Bool, Bor, bytes_eq, codes, Err, Fail, false, false_from_ne_true, filter}
pub use Rattle.wgsl_requests.proofs.Shared.{length, List, map, member_view, Members, None, Ok, Option, option_and_then, option_map, parameter_view, refl}
pub use Rattle.wgsl_requests.proofs.Shared.{Result, rules, Some, subst, suc, sym, take, true, view, WgslType, zero, ℕ, [], ◌++◌, ◌+◌, ◌-◌, ◌<◌, ◌^◌, ◌∙◌, ◌∷◌}
pub use Rattle.wgsl_requests.proofs.Shared.{◌≡◌}
pub use Rattle.wgsl_rules.specs.types.Around.{around}
pub use Rattle.wgsl_rules.specs.types.Types.{scalar, struct}
pub use Rattle.wgsl_replies.specs.words.Types.{in_layer, inside, layers, rays, wrapped}
pub use Rattle.wgsl_replies.specs.words.Names.{number_below, sampler_named}
unfoldable pub use Rattle.wgsl_replies.specs.words.Names.{scalar_named, long, medium, small}
pub use Rattle.wgsl_replies.specs.words.Reader.{a_word, all_behind, all_within, alone, and_then, Gives, last, means, Misses, one, optional, or_else, pair, pure, Reader}
pub use Rattle.wgsl_replies.specs.words.Reader.{has_bytes, is_separator, IsFirstWord, pieces, Reads, times, Words, words_of, ◌<$>◌, ◌>>=◌}
unfoldable pub use Rattle.wgsl_replies.specs.words.Reader.{all}
unfoldable pub use Rattle.wgsl_replies.specs.words.Types.{layer_named, leaf_from, member_at, memory_at, other_from, parameters_at, rays_named, struct_at, texture_from}
unfoldable pub use Rattle.wgsl_replies.specs.words.Types.{type_at, type_from, type_within}
pub use mir.Syntax.{w32, w64, Width}
