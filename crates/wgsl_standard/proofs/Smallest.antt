-- The members of the smallest struct, the last apart.
use Rattle.std.proofs.Common.{◌≡◌, List, [], ◌∷◌, ◌++◌, map, refl, sym, ap, ◌∙◌}
use Rattle.wgsl_standard.proofs.CommonForms.{member, Member, members_of, member_view, members_view, StructMemberType}
use Rattle.wgsl_standard.specs.forms.Layout.{smallest_members, with_one_element}

abbrev smallest : Member → Member
smallest m = record m { ty = with_one_element m.ty }

-- the last member alone changes
last_changes : (ms : List Member) (m : Member) → members_of (ms ++ (smallest m ∷ [])) ≡ smallest_members (members_of (ms ++ (m ∷ [])))
last_changes [] m = refl
last_changes (a ∷ []) m = refl
last_changes (a ∷ b ∷ ms) m = ap (λ rest. member a.name a.ty a.size a.align rest) (last_changes (b ∷ ms) m)

map_push : (xs : List StructMemberType) (x : StructMemberType) → map member_view (xs ++ (x ∷ [])) ≡ map member_view xs ++ (member_view x ∷ [])
map_push [] x = refl
map_push (a ∷ xs) x = ap (λ rest. member_view a ∷ rest) (map_push xs x)

-- copies of all members but the last, and then the last with one element
pub smallest_built : (all rest copies : List StructMemberType) (last new : StructMemberType) → all ≡ rest ++ (last ∷ []) → map member_view copies ≡ map member_view rest → member_view new ≡ smallest (member_view last) → members_view (copies ++ (new ∷ [])) ≡ smallest_members (members_view all)
smallest_built all rest copies last new split same is =
    ap members_of (map_push copies new)
    ∙ (ap (λ ms. members_of (ms ++ (member_view new ∷ []))) same
    ∙ (ap (λ m. members_of (map member_view rest ++ (m ∷ []))) is
    ∙ (last_changes (map member_view rest) (member_view last)
    ∙ (ap (λ ms. smallest_members (members_of ms)) (sym (map_push rest last))
    ∙ ap (λ xs. smallest_members (members_view xs)) (sym split)))))
