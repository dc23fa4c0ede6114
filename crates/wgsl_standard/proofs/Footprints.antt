-- What a struct ends in, by its last member.
use Rattle.std.proofs.Common.{◌≡◌, List, [], ◌∷◌, ◌++◌, Bool, true, false, refl, sym, ap, ◌∙◌, ◌&&◌}
use Rattle.wgsl_standard.proofs.CommonForms.{member_view, members_view, StructMemberType, have_fixed_footprint, has_fixed_footprint, may_end, may_end_members}

and_assoc : (a b c : Bool) → ((a && b) && c) ≡ (a && (b && c))
and_assoc true b c = refl
and_assoc false b c = refl

ends : (atomics : Bool) (rest : List StructMemberType) (last : StructMemberType) →
    (have_fixed_footprint atomics (members_view rest) && may_end atomics (member_view last).ty) ≡ may_end_members atomics (members_view (rest ++ last ∷ []))
ends atomics [] last = refl
ends atomics (m ∷ []) last =
    and_assoc (has_fixed_footprint atomics (member_view m).ty) true (may_end atomics (member_view last).ty)
ends atomics (m ∷ n ∷ rest) last =
    and_assoc (has_fixed_footprint atomics (member_view m).ty) (have_fixed_footprint atomics (members_view (n ∷ rest))) (may_end atomics (member_view last).ty)
    ∙ ap (λ b. has_fixed_footprint atomics (member_view m).ty && b) (ends atomics (n ∷ rest) last)

pub last_ends : (atomics : Bool) (ms rest : List StructMemberType) (last : StructMemberType) (h e : Bool) → ms ≡ rest ++ last ∷ [] →
    h ≡ have_fixed_footprint atomics (members_view rest) → e ≡ may_end atomics (member_view last).ty → (h && e) ≡ may_end_members atomics (members_view ms)
last_ends atomics ms rest last h e p q r =
    ap (λ h. h && e) q ∙ ap (λ e. have_fixed_footprint atomics (members_view rest) && e) r ∙ ends atomics rest last
    ∙ ap (λ ms. may_end_members atomics (members_view ms)) (sym p)
