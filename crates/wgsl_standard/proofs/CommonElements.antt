-- The common type of the values that a loop has not seen yet.
use Rattle.std.proofs.Common.{◌≡◌, ◌+◌, ◌<◌, ◌≤◌, ℕ, List, ◌∷◌, Option, Some, None, length, drop, get_or, map, refl, sym, subst, ap, ◌∙◌}
use Rattle.std.proofs.lemmas.List.{drop_more, drop_all}
use Rattle.wgsl_standard.proofs.CommonForms.{WgslType, IsCommon, IsLeftCommon, IsFoldedFrom, folded, none_stays, given_type, types_given, referred}
use Rattle.wgsl_standard.specs.declared.operand.Operand.{Operand as CodeOperand}

abbrev values : List CodeOperand → List WgslType
values xs = map referred (types_given xs)

pub one_more : (c t : WgslType) (xs : List CodeOperand) (k : ℕ) (x : CodeOperand) (d r : Option WgslType) → k < length xs → x ≡ get_or xs k x →
    t ≡ referred (given_type x.ty) → IsCommon c t d → IsFoldedFrom d (values (drop (k + 1) xs)) r → IsFoldedFrom (Some c) (values (drop k xs)) r
one_more c t xs k x d r lt is e h f =
    let here : drop k xs ≡ x ∷ drop (k + 1) xs = drop_more xs k x lt ∙ ap (λ y. y ∷ drop (k + 1) xs) (sym is) in
    subst (λ ys. IsFoldedFrom (Some c) (values ys) r) (sym here) (d, subst (λ t. IsCommon c t d) e h, f)

pub none_left : (xs : List CodeOperand) (k : ℕ) → IsFoldedFrom None (values (drop k xs)) None
none_left xs k = none_stays (values (drop k xs))

pub at_end : (c : WgslType) (xs : List CodeOperand) (k : ℕ) → length xs ≤ k → IsFoldedFrom (Some c) (values (drop k xs)) (Some c)
at_end c xs k le = subst (λ ys. IsFoldedFrom (Some c) (values ys) (Some c)) (sym (drop_all k xs le)) refl

pub from_all : (c : WgslType) (xs : List CodeOperand) (r : Option WgslType) → IsFoldedFrom (Some c) (values xs) r → IsLeftCommon (c ∷ values xs) r
from_all c xs r h = (folded (c ∷ values xs) r).1 h
