-- A struct has as many types of members as members.
use Rattle.std.proofs.Common.{◌≡◌, suc, List, [], ◌∷◌, length, refl, ap}
use Rattle.wgsl_standard.proofs.CommonForms.{members_view, StructMemberType, member_types}

pub as_many : (ms : List StructMemberType) → length (member_types (members_view ms)) ≡ length ms
as_many [] = refl
as_many (m ∷ ms) = ap suc (as_many ms)
