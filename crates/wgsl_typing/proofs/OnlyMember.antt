-- The member of a struct with an index, alone.
use Rattle.std.proofs.Common.{◌≡◌, ◌≤◌, ◌<◌, ℕ, zero, suc, List, [], ◌∷◌, Some, length, slice_index_or, refl, ap, ◌∙◌, arith}
use Rattle.wgsl_core.specs.View.{member_view, members_of}
use Rattle.wgsl_core.specs.internal.View.{members_view}
use Rattle.wgsl_core.specs.declared.ty.StructMemberType.{StructMemberType}
use Rattle.wgsl_typing.specs.Members.{only_member}

pub none_only : (members : List StructMemberType) (index : ℕ) → length members ≤ index → members_view [] ≡ only_member (members_view members) (Some index)
none_only [] index past = refl
none_only (m ∷ members) zero past = absurd (omega arith)
none_only (m ∷ members) (suc index) past = none_only members index (omega arith)

pub one_only : (members : List StructMemberType) (index : ℕ) (d made : StructMemberType) → index < length members
    → member_view made ≡ member_view (slice_index_or members index d) → members_view (made ∷ []) ≡ only_member (members_view members) (Some index)
one_only [] index d made there same = absurd (omega arith)
one_only (m ∷ members) zero d made there same = ap (λ v. members_of (v ∷ [])) same
one_only (m ∷ members) (suc index) d made there same = one_only members index d made (omega arith) same
