-- Equality of types as a test, which is true exactly for equal types.
use Rattle.std.specs.Prelude.{◌≡◌, Bool, true, false}
use Rattle.std.specs.Bool.{Decides}
use Rattle.std.specs.Cmp.{decided, partial_equiv_from_equiv, on_equiv, IsEquivalence, IsPartialEquivalence}
use Rattle.std.specs.Ordering.{on}
use Rattle.std.proofs.Common.{refl, ap}
use mathlib.Core.List.{List-discrete}
use native.Mathlib.Decide.{ℕ_discrete}
use Rattle.wgsl_rules.specs.types.Types.{WgslType}
use Rattle.wgsl_rules.proofs.types.Equality.{both, by, same_type, same_members, same_option}
use Rattle.wgsl_core.specs.View.{Member, Struct, view, member_view, struct_view}

same_struct : (a b : Struct) → Dec (a ≡ b)
same_struct a b =
    by (λ p i. record { name = p.0 i; members = p.1 i }) (λ e. (ap (λ (s : Struct). s.name) e, ap (λ (s : Struct). s.members) e))
    (both (List-discrete ℕ_discrete a.name b.name) (same_members a.members b.members))

same_member : (a b : Member) → Dec (a ≡ b)
same_member a b =
    by (λ p i. record { name = p.0 i; ty = p.1.0 i; size = p.1.1.0 i; align = p.1.1.1 i })
    (λ e. (ap (λ (m : Member). m.name) e, (ap (λ (m : Member). m.ty) e, (ap (λ (m : Member). m.size) e, ap (λ (m : Member). m.align) e))))
    (both (List-discrete ℕ_discrete a.name b.name)
    (both (same_type a.ty b.ty) (both (same_option ℕ_discrete a.size b.size) (same_option ℕ_discrete a.align b.align))))

abbrev pub is_yes : {A : Type 0} → Dec A → Bool
is_yes (yes a) = true
is_yes (no n) = false

pub yes_decides : {A : Type 0} (d : Dec A) → Decides (is_yes d) A
yes_decides (yes a) = (λ _. a, λ _. refl)
yes_decides (no n) = (λ e. absurd (cc e), λ a. absurd (n a))

pub type_eq : WgslType → WgslType → Bool
type_eq a b = is_yes (same_type a b)

pub struct_eq : Struct → Struct → Bool
struct_eq a b = is_yes (same_struct a b)

pub member_eq : Member → Member → Bool
member_eq a b = is_yes (same_member a b)

pub type_eq_decides : (a b : WgslType) → Decides (type_eq a b) (a ≡ b)
unfolding type_eq
type_eq_decides a b = yes_decides (same_type a b)

pub struct_eq_decides : (a b : Struct) → Decides (struct_eq a b) (a ≡ b)
unfolding struct_eq
struct_eq_decides a b = yes_decides (same_struct a b)

pub member_eq_decides : (a b : Member) → Decides (member_eq a b) (a ≡ b)
unfolding member_eq
member_eq_decides a b = yes_decides (same_member a b)

pub type_equivalence : IsEquivalence (on view type_eq)
type_equivalence = on_equiv view (decided type_eq type_eq_decides)

pub type_partial_equivalence : IsPartialEquivalence (on view type_eq)
type_partial_equivalence = partial_equiv_from_equiv type_equivalence

pub struct_equivalence : IsEquivalence (on struct_view struct_eq)
struct_equivalence = on_equiv struct_view (decided struct_eq struct_eq_decides)

pub struct_partial_equivalence : IsPartialEquivalence (on struct_view struct_eq)
struct_partial_equivalence = partial_equiv_from_equiv struct_equivalence

pub member_equivalence : IsEquivalence (on member_view member_eq)
member_equivalence = on_equiv member_view (decided member_eq member_eq_decides)

pub member_partial_equivalence : IsPartialEquivalence (on member_view member_eq)
member_partial_equivalence = partial_equiv_from_equiv member_equivalence
