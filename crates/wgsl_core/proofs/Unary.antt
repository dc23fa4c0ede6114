-- The answers of the unary operators in code.
use Rattle.std.proofs.Common.{◌≡◌, ◌≢◌, ◌↔◌, Bool, true, false, IsTrue, IsFalse, Result, Ok, Err, IfOk, Box, Global, refl, sym, ap, ◌∙◌, subst, subst₂}
use Rattle.wgsl_core.proofs.Common.{AccessMode, AddressSpace, AddressOf, Indirection, WgslType, pointer, reference, Refusal, IsUnaryAnswer, IsUnaryRow, address_row, indirection_row, one_reference, view, AnswersBy, «Type», Error}
use Rattle.wgsl_syntax.specs.declared.address.AddressSpace.TheVariants.{Handle}
use Rattle.wgsl_core.specs.declared.ty.Type.TheVariants as v
use Rattle.wgsl_core.specs.declared.error.Fail.{Fail}
use Rattle.wgsl_core.specs.declared.error.Fail.TheVariants as fails
use Rattle.wgsl_core.proofs.Views.{view-Ptr, view-Ref}

answers : (P : Result WgslType Refusal → Type 0) (x : Result WgslType Refusal) (r : Result «Type» (Fail Error)) → AnswersBy (λ a. a ≡ x) r → P x → AnswersBy P r
answers P x (Ok t) e p = subst P (sym e) p
answers P x (Err (fails.Error f)) e p = subst P (sym e) p
answers P x (Err (fails.Memory m)) e p = tt

-- the operand's own type if b holds, else the refusal
pub own_or_refused : (P : Result WgslType Refusal → Type 0) {t : WgslType} {e : Refusal} (b : Bool) (r : Result «Type» (Fail Error)) →
    (IsTrue b → AnswersBy (λ a. a ≡ Ok t) r) → (IsFalse b → AnswersBy (λ a. a ≡ Err e) r) → (IsTrue b → P (Ok t)) → (¬ IsTrue b → P (Err e)) → AnswersBy P r
own_or_refused P {t} {e} true r own refused p q = answers P (Ok t) r (own refl) (p refl)
own_or_refused P {t} {e} false r own refused p q = answers P (Err e) r (refused refl) (q (λ h. cc h))

-- the reference of a pointer
pub reference_row : {a t : WgslType} {s : AddressSpace} {m : AccessMode} (u : Box «Type» Global) → a ≡ pointer s t m → view u.value ≡ t →
    IsUnaryRow Indirection a (view (v.Ref s u m))
reference_row {a} {t} {s} {m} u e k =
    subst₂ (λ a b. IsUnaryRow Indirection a b) (sym e) (sym (view-Ref s u m ∙ ap (λ t. reference s t m) k)) (indirection_row s t m)

-- the pointer of a reference
pub pointer_row : {a t : WgslType} {s : AddressSpace} {m : AccessMode} (u : Box «Type» Global) → a ≡ reference s t m → view u.value ≡ t → s ≢ Handle →
    IsUnaryRow AddressOf a (view (v.Ptr s u m))
pointer_row {a} {t} {s} {m} u e k n =
    subst₂ (λ a b. IsUnaryRow AddressOf a b) (sym e) (sym (view-Ptr s u m ∙ ap (λ t. pointer s t m) k)) (address_row s t m n)

pointed_back : {a b : WgslType} → IsUnaryRow AddressOf a b → (t : WgslType) → IsUnaryRow Indirection b t ↔ (t ≡ a)
pointed_back (address_row s u m n) t = (one_reference s u m t, λ f. subst (λ r. IsUnaryRow Indirection (pointer s u m) r) (sym f) (indirection_row s u m))

-- the pointer of a reference refers back to it
pub gives_back : (a : WgslType) (r : Result «Type» (Fail Error)) → AnswersBy (IsUnaryAnswer AddressOf a) r → IfOk r (λ p. (t : WgslType) → IsUnaryRow Indirection (view p) t ↔ (t ≡ a))
gives_back a (Ok p) h = pointed_back h
gives_back a (Err e) h = tt
