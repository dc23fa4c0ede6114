-- Laws of members, indexes and addresses.
use Rattle.std.specs.Prelude.{◌≡◌, ◌↔◌, ℕ, List, Bool, false, IsTrue, Ok}
use Rattle.wgsl_standard.specs.forms.Prelude.{AddressSpace, AccessMode, WgslType, pointer, reference, Operand, Whole, Swizzle}
use Rattle.wgsl_standard.specs.forms.Address.{address_answer, indirection_answer}
use Rattle.wgsl_standard.specs.forms.Concrete.{concrete_of, has_abstract_type}
use Rattle.wgsl_standard.specs.forms.Expressions.{Expression, shown_type}
use Rattle.wgsl_standard.specs.forms.Index.{index_answer}
use Rattle.wgsl_standard.specs.forms.Load.{loaded}
use Rattle.wgsl_standard.specs.forms.Member.{is_swizzle, member_answer}

abbrev operand : WgslType → Bool → Operand
operand t c = record { of_type = t; is_constant = c }

-- A pointer and the reference to the same memory have the same parts: `p.x` is `(*p).x`, and `p[i]` is `(*p)[i]`.
abbrev pub PointersCompose : AddressSpace → WgslType → AccessMode → List ℕ → Operand → Type 0
PointersCompose s t a name i = (c : Bool) →
    (member_answer (operand (pointer s t a) c) name ≡ member_answer (operand (reference s t a) c) name)
    × (index_answer (operand (pointer s t a) c) i ≡ index_answer (operand (reference s t a) c) i)

-- `*&x` has the type of `x`, if `x` has an address.
abbrev pub AddressesInvert : WgslType → Type 0
AddressesInvert t = (e : Expression) → address_answer Whole t ≡ Ok e → (d : Expression) × (indirection_answer e.of_type ≡ Ok d) × (d.of_type ≡ t)

-- Of what `x.name` can be, `is_swizzle` tells the swizzles, and one loads as the type that is shown of it: `v.zx` as
-- `vec2<f32>`.
abbrev pub SwizzlesLoad : Operand → List ℕ → Type 0
SwizzlesLoad x name = (e : Expression) → member_answer x name ≡ Ok e →
    (IsTrue (is_swizzle x name) ↔ (e.referent ≡ Swizzle)) × (e.referent ≡ Swizzle → loaded e.of_type ≡ Ok (shown_type e))

-- A type that was made concrete has no abstract type in it; one that has none stays as it is.
abbrev pub MakesConcrete : WgslType → Type 0
MakesConcrete t = (has_abstract_type (concrete_of t) ≡ false) × (has_abstract_type t ≡ false → concrete_of t ≡ t)
