-- Of what stands in a vector the innermost is the last.
use Rattle.std.proofs.Common.{◌≡◌, ◌∙◌, ℕ, List, [], ◌∷◌, ◌++◌, ap, reverse}
use Rattle.std.proofs.lemmas.List.{reverse-append, reverse-reverse}

pub innermost : {A : Type 0} (old rest : List A) (x : A) → old ≡ rest ++ x ∷ [] → reverse old ≡ x ∷ reverse rest
innermost old rest x is = ap reverse is ∙ reverse-append rest (x ∷ [])

pub turned_twice : (xs : List ℕ) → reverse (reverse xs) ≡ xs
turned_twice xs = reverse-reverse xs
