-- Names of these specifications and of other crates that many proofs cite, passed on from one place. It declares nothing.
pub use Rattle.std.proofs.lemmas.List.{at_drop_all, at_drop_more, map-append, map_more, nil_from_length, take_more}
pub use Rattle.std.proofs.lemmas.List.Elements.{All-append, All-cons, All-head, All-nil, All-push, All-tail, All-weaker}
pub use Rattle.std.proofs.lemmas.Option.{same_Some, slice_get_read}
pub use Rattle.std.specs.Int.{next_multiple_of, ◌∣◌}
pub use Rattle.wgsl_core.specs.Placing.{IsSoonestEnd, IsSoonestOffset, IsValue}
pub use Rattle.wgsl_reader.specs.declared.read.Event.{Event}
pub use Rattle.wgsl_rules.proofs.layout.Placing.{Aligned, end_of, laid_before, next_ge, next_least, no_less, starts}
pub use Rattle.wgsl_rules.proofs.layout.Steps.{array_size, counted_size, one_rounded, rounded_up, times}
pub use Rattle.wgsl_rules.specs.layout.Layout.{HasAlignmentBy, HasSizeBy, HaveAlignmentsBy, HaveLayoutsBy, IsArraySize, IsExactly, IsGiven, IsRoundedUp, IsScalarSize, IsStride, IsStructAlign, IsStructLayoutBy, IsStructSize, IsTimes}
pub use Rattle.wgsl_rules.specs.layout.Placement.{AreLaid, greatest_align, MemberLayout}
pub use Rattle.wgsl_rules.specs.types.Types.{mat, member, Members, no_members, scalar, vec}
pub use Rattle.wgsl_source.specs.Declarations.{attribute_len, BehindAttributes, inner, Site, token_before}
pub use Rattle.wgsl_source.specs.Layout.{HasNoLayout, IsLaidOut, layouts_of, offsets_of}
pub use Rattle.wgsl_source.specs.Measures.{IsMeasure, IsMeasureOf, IsStrideOf, known_count}
pub use Rattle.wgsl_source.specs.Members.{AreSameMembers, EndsRuntimeSized, Grows, IsDraft, IsTypeOf, members_of, without_offset}
pub use Rattle.wgsl_source.specs.Qualifiers.{a_space, AreSaid, both, names_only, nothing, Say, with_name}
pub use Rattle.wgsl_source.specs.Structs.{AreStructsOf, IsKept, IsStructOf, Keeps, SameStructs}
pub use Rattle.wgsl_source.specs.TextStructs.{AreAllTold, AreMembers, IsDeclared}
pub use Rattle.wgsl_source.specs.declared.declaration.Declaration.{Declaration}
pub use Rattle.wgsl_source.specs.declared.measured.Count.{Count}
pub use Rattle.wgsl_source.specs.declared.measured.MeasuredType.{MeasuredType}
pub use Rattle.wgsl_source.specs.declared.measured.TypeKind.{TypeKind}
pub use Rattle.wgsl_source.specs.declared.reader.Reader.{Reader}
pub use Rattle.wgsl_source.specs.declared.parts.End.{End}
pub use Rattle.wgsl_source.specs.declared.scope.Scope.{Scope}
pub use Rattle.wgsl_source.specs.declared.structure.Member.{Member}
pub use Rattle.wgsl_source.specs.declared.structure.Struct.{Struct}
pub use Rattle.wgsl_source.specs.declared.structure.Written.{Written}
pub use Rattle.wgsl_source.specs.declared.text.Text.{Text}
pub use Rattle.wgsl_source.specs.declared.types.Types.{Types}
pub use Rattle.wgsl_source.specs.internal.Items.{HasAccess, item_names, NamesAccess}
pub use Rattle.wgsl_source.specs.internal.Others.{AddsOthers, misread}
pub use Rattle.wgsl_source.specs.internal.Read.{AreAll, AreAllMeant, AreListed, declaration, IsDeclaration, IsDeclaredAt, IsFrom, kept_listed, KnownAll, KnownAt, left_listed, Means, names_of, no_other, none_listed, Nothing}
pub use Rattle.wgsl_spelling.specs.Words.{word}
pub use Rattle.wgsl_syntax.specs.Address.{access_text, default_access, IsSpace, may_say}
pub use Rattle.wgsl_syntax.specs.declared.rules.RuleSet.TheVariants.{Standard}
