-- What converts together stays on its lines.
use Rattle.std.proofs.Common.{◌≡◌, ℕ, List, [], ◌∷◌, Option, Some, None, refl, sym, ap, ◌∙◌, subst}
use Rattle.std.specs.Prelude.{IfSome, map, option_and_then, option_map}
use Rattle.wgsl_rules.specs.types.Types.{WgslType}
use Rattle.wgsl_core.specs.View.{view}
use Rattle.wgsl_core.specs.Converted.{converted}
use Rattle.wgsl_rules.specs.conversion.Converted.{all_to}
use Rattle.wgsl_types.specs.Typed.{on_line, typed, typed_to}
use Rattle.wgsl_types.specs.declared.typed.Typed.{Typed}

abbrev line_of : WgslType × ℕ → ℕ
line_of p = p.1

typed_lines : (xs : List Typed) → map line_of (map typed xs) ≡ map (λ (x : Typed). x.line) xs
typed_lines [] = refl
typed_lines (x ∷ xs) = ap (λ (ns : List ℕ). x.line ∷ ns) (typed_lines xs)

all_lines : (t : WgslType) (xs : List Typed) (ys : List (WgslType × ℕ)) → all_to typed_to t xs ≡ Some ys → map line_of ys ≡ map (λ (x : Typed). x.line) xs
all_lines t [] ys h = let e : [] ≡ ys = cc h in subst (λ ys. map line_of ys ≡ []) e refl
all_lines t (x ∷ xs) ys h = at (converted (view x.ty) t) (all_to typed_to t xs) (all_lines t xs) h
  where
    at : (o : Option WgslType) (r : Option (List (WgslType × ℕ))) → ((zs : List (WgslType × ℕ)) → r ≡ Some zs → map line_of zs ≡ map (λ (x : Typed). x.line) xs) →
        option_and_then (λ y. option_map (λ ys. y ∷ ys) r) (on_line x.line o) ≡ Some ys → map line_of ys ≡ x.line ∷ map (λ (x : Typed). x.line) xs
    at None r more h = absurd (cc h)
    at (Some u) None more h = absurd (cc h)
    at (Some u) (Some zs) more h =
        let k : (u, x.line) ∷ zs ≡ ys = cc h in
        subst (λ ys. map line_of ys ≡ x.line ∷ map (λ (x : Typed). x.line) xs) k (ap (λ (ns : List ℕ). x.line ∷ ns) (more zs refl))

pub lines_kept : {V : Type 0} (items : V → List Typed) (r : Option V) (c : Option WgslType) (xs : List Typed) →
    option_map (λ v. map typed (items v)) r ≡ option_and_then (λ t. all_to typed_to t xs) c →
    IfSome r (λ v. map (λ (x : Typed). x.line) (items v) ≡ map (λ (x : Typed). x.line) xs)
lines_kept items None c xs h = tt
lines_kept items (Some v) None xs h = absurd (cc h)
lines_kept items (Some v) (Some t) xs h = sym (typed_lines (items v)) ∙ all_lines t xs (map typed (items v)) (sym h)
