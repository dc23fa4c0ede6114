-- Declared structs in types: by name, with at most two members that have the facts of all (WGSL, "Fixed-Footprint Types",
-- "Constructible Types", "Host-shareable Types").
use Rattle.std.specs.Prelude.{ℕ, List, [], Bool, true, false, Option, Some, None, cond, ◌≡◌}
use Rattle.wgsl_syntax.specs.declared.scalar.Scalar.TheVariants.{Bool as TheBool, U32}
use Rattle.wgsl_rules.specs.types.Types.{WgslType, Members, no_members, member, scalar, struct, atomic, array}
use Rattle.wgsl_standard.specs.forms.Kinds.{are_host_shareable, has_fixed_footprint, have_fixed_footprint, is_host_shareable}
use Rattle.wgsl_standard.specs.forms.Variable.{ends_in_array, may_end_members}

-- what the rules ask of a struct as a whole
pub record Facts : Type 0 where
  pub is_fixed : Bool
  -- it ends in a runtime-sized array or in none, with atomics, and without
  pub ends_with_atomics : Bool
  pub ends : Bool
  pub is_shareable : Bool
  pub size : Option ℕ
  pub align : Option ℕ

-- a number, or a `bool`
abbrev pub leaf : Bool → WgslType
leaf is_number = scalar (cond is_number U32 TheBool)

abbrev pub the_atomic : WgslType
the_atomic = atomic (scalar U32)

abbrev pub one : WgslType → Option ℕ → Option ℕ → Members → Members
one t size align ms = member [] t size align ms

-- the members that stand for all, by whether the whole is fixed and what it ends in
abbrev pub standing_for : Bool → Bool → Bool → WgslType → Option ℕ → Option ℕ → Members
standing_for true true true t size align = one t size align no_members
standing_for true true false t size align = one t (Some 0) align (one the_atomic size align no_members)
standing_for false true true t size align = one (array None t) None None no_members
standing_for false true false t size align = one t None None (one (array None the_atomic) None None no_members)
standing_for fixed false ends t size align = one (array (Some 1) (array None t)) None None no_members

abbrev pub representative : Facts → Members
representative f = standing_for f.is_fixed f.ends_with_atomics f.ends (leaf f.is_shareable) f.size f.align

-- the facts of members with that size and alignment
abbrev pub facts_of : Option ℕ → Option ℕ → Members → Facts
facts_of size align ms = record {
  is_fixed = have_fixed_footprint true ms;
  ends_with_atomics = may_end_members true ms;
  ends = may_end_members false ms;
  is_shareable = are_host_shareable ms;
  size = size;
  align = align;
}

-- the struct as it stands in types
abbrev pub short : List ℕ → Option ℕ → Option ℕ → Members → WgslType
short name size align ms = struct name (representative (facts_of size align ms))

-- What the rules ask is the same of the short struct and of the whole one.
abbrev pub KeepsFootprint : List ℕ → Option ℕ → Option ℕ → Members → Type 0
KeepsFootprint name size align ms = (atomics : Bool) →
    has_fixed_footprint atomics (short name size align ms) ≡ has_fixed_footprint atomics (struct name ms)

abbrev pub KeepsEnd : List ℕ → Option ℕ → Option ℕ → Members → Type 0
KeepsEnd name size align ms = (atomics : Bool) → ends_in_array atomics (short name size align ms) ≡ ends_in_array atomics (struct name ms)

abbrev pub KeepsShareable : List ℕ → Option ℕ → Option ℕ → Members → Type 0
KeepsShareable name size align ms = is_host_shareable (short name size align ms) ≡ is_host_shareable (struct name ms)

-- A short struct has the facts of the whole one.
abbrev pub KeepsFacts : Type 0
KeepsFacts = (name : List ℕ) (size align : Option ℕ) (ms : Members) →
    KeepsFootprint name size align ms × KeepsEnd name size align ms × KeepsShareable name size align ms
