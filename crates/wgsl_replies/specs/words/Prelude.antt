-- Names of other crates that many definitions cite, passed on from one place. It declares nothing.
pub use Rattle.std.specs.Str.{all_ascii_digits}
pub use Rattle.std.specs.Str.Parse.{digits_value, starts_with_minus}
pub use Rattle.wgsl_core.specs.View.{Member, members_of}
pub use Rattle.wgsl_requests.specs.Prelude.{Fail, Members, of_literal, of_type, Parameter, parameter_view, scalar, Signature, struct_view, view, WgslType}
pub use Rattle.wgsl_requests.specs.Replies.{Adds, IsAnswer, ReplyText}
pub use Rattle.wgsl_requests.specs.Requests.{binary, call, common, ctor, layout, offsets, rank, size, unary, WgslRequest}
pub use Rattle.wgsl_rules.specs.types.Around.{around}
pub use Rattle.wgsl_rules.specs.types.Signatures.{of_enumerant}
pub use Rattle.wgsl_rules.specs.types.Types.{acceleration_structure, ray_query, sampler, struct, texture}
pub use Rattle.wgsl_syntax.specs.Names.{named, table}
pub use Rattle.wgsl_syntax.specs.TextureName.{parameter_kind, texture_name_text, texture_names, texture_with}
pub use Rattle.wgsl_syntax.specs.declared.address.AccessMode.{AccessMode}
pub use Rattle.wgsl_syntax.specs.declared.address.AddressSpace.{AddressSpace}
pub use Rattle.wgsl_syntax.specs.declared.around.Around.{Around}
pub use Rattle.wgsl_replies.specs.declared.words.wanted.Misfit.{Misfit}
