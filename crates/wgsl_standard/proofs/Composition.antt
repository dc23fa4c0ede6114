-- Laws of members, indexes and addresses.
use Rattle.std.proofs.Common.{◌≡◌, ℕ, List, Ok, refl, subst}
use Rattle.wgsl_standard.proofs.CommonForms.{AddressSpace, AccessMode, WgslType, pointer, reference, Operand, Expression, PointersCompose, AddressesInvert}
use Rattle.wgsl_syntax.specs.declared.address.AddressSpace.TheVariants.{Handle}
use Rattle.wgsl_standard.specs.forms.Address.{at_run_time, indirection_answer}

pub compose : (s : AddressSpace) (t : WgslType) (a : AccessMode) (name : List ℕ) (i : Operand) → PointersCompose s t a name i
compose s t a name i c = (refl, refl)

pub invert : (t : WgslType) → AddressesInvert t
invert (reference Handle t a) e h = absurd (cc h)
invert (reference s t a) e h =
    let same : at_run_time (pointer s t a) ≡ e = cc h in
    subst (λ e. (d : Expression) × (indirection_answer e.of_type ≡ Ok d) × (d.of_type ≡ reference s t a)) same (at_run_time (reference s t a), refl, refl)
invert t e h = absurd (cc h)
