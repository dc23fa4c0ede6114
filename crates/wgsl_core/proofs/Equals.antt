-- Equality of types, part by part.
use Rattle.std.proofs.Common.{◌≡◌, ◌↔◌, ℕ, suc, List, [], ◌∷◌, length, map, IsTrue, false, refl, sym, ap, ◌∙◌}
use Rattle.wgsl_core.proofs.Common.{length-map, Members, no_members, member, members_view, StructMemberType}

pub never : {P : Type 0} → (P → ⊥) → IsTrue false ↔ P
never refuted = (λ h. absurd (cc h), λ p. absurd (refuted p))

count : Members → ℕ
count no_members = 0
count (member name t size align ms) = suc (count ms)

count_of : (ms : List StructMemberType) → count (members_view ms) ≡ length ms
unfolding count
count_of [] = refl
count_of (m ∷ ms) = ap suc (count_of ms)

pub as_many : (ms ns : List StructMemberType) → members_view ms ≡ members_view ns → length ms ≡ length ns
as_many ms ns e = sym (count_of ms) ∙ (ap count e ∙ count_of ns)

pub same_length : {A B : Type 0} (f : A → B) (xs ys : List A) → map f xs ≡ map f ys → length xs ≡ length ys
same_length f xs ys e = sym (length-map xs f) ∙ (ap length e ∙ length-map ys f)
