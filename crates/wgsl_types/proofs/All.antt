-- Converting each value of a list.
use Rattle.std.proofs.Common.{◌≡◌, ℕ, ◌+◌, ◌<◌, List, [], ◌∷◌, ◌++◌, length, take, drop, get_or, Option, Some, None, refl, sym, ap, ◌∙◌, add-one, drop-cons}
use Rattle.std.specs.Prelude.{Result, IfOk, IfSome, option_and_then, option_map}
use Rattle.std.proofs.lemmas.Option.{IfSome_then}
use Rattle.std.proofs.lemmas.Result.{IfOk-weaker}
use Rattle.std.proofs.lemmas.List.{take_more, take-append-drop}
use Rattle.wgsl_rules.specs.types.Types.{WgslType}
use Rattle.wgsl_rules.specs.conversion.Converted.{all_to}

module _ {T V : Type 0} (to : T → WgslType → Option V) (t : WgslType) where
  cons_is : (o : Option V) (r : Option (List V)) (ys : List V) → option_and_then (λ y. option_map (λ zs. y ∷ zs) r) o ≡ Some ys → (y : V) × (zs : List V) × (o ≡ Some y) × (r ≡ Some zs) × (y ∷ zs ≡ ys)
  cons_is None r ys h = absurd (cc h)
  cons_is (Some y) None ys h = absurd (cc h)
  cons_is (Some y) (Some zs) ys h = (y, zs, refl, refl, (let e : y ∷ zs ≡ ys = cc in e))

  all_more : (xs : List T) (ys : List V) (x : T) (y : V) → all_to to t xs ≡ Some ys → to x t ≡ Some y → all_to to t (xs ++ x ∷ []) ≡ Some (ys ++ y ∷ [])
  all_more [] ys x y h k = let e : [] ≡ ys = cc in rw k (ap (λ zs. Some (zs ++ y ∷ [])) e)
  all_more (w ∷ xs) ys x y h k =
      let p = cons_is (to w t) (all_to to t xs) ys h in
      rw (p.2, all_more xs p.1 x y p.3 k) (ap (λ zs. Some (zs ++ y ∷ [])) p.4)

  none_at : (xs : List T) (ys : List V) (x : T) (zs : List T) → all_to to t xs ≡ Some ys → to x t ≡ None → None ≡ all_to to t (xs ++ x ∷ zs)
  none_at [] ys x zs h k = rw k refl
  none_at (w ∷ xs) ys x zs h k =
      let p = cons_is (to w t) (all_to to t xs) ys h in
      rw (p.2, ← none_at xs p.1 x zs p.3 k) refl

  pub all_next : (xs : List T) (i : ℕ) (ys : List V) (x : T) (y : V) → i < length xs → x ≡ get_or xs i x → all_to to t (take i xs) ≡ Some ys → to x t ≡ Some y → all_to to t (take (i + 1) xs) ≡ Some (ys ++ y ∷ [])
  all_next xs i ys x y lt e h k = ap (all_to to t) (take_more xs i x lt ∙ ap (λ z. take i xs ++ z ∷ []) (sym e)) ∙ all_more (take i xs) ys x y h k

  pub all_none : (xs : List T) (i : ℕ) (ys : List V) (x : T) → i < length xs → x ≡ get_or xs i x → all_to to t (take i xs) ≡ Some ys → to x t ≡ None → None ≡ all_to to t xs
  all_none xs i ys x lt e h k =
      let d : drop i xs ≡ x ∷ drop (i + 1) xs = rw (add-one, drop-cons xs i x, ← e) refl in
      none_at (take i xs) ys x (drop (i + 1) xs) h k ∙ ap (all_to to t) (ap (λ z. take i xs ++ z) (sym d) ∙ take-append-drop i xs)

-- a consequence of a property of the value in an Ok of a Some
pub IfAnswered_then : {X E : Type 0} (r : Result (Option X) E) {P Q : X → Type 0} → ((x : X) → P x → Q x) → IfOk r (λ o. IfSome o P) → IfOk r (λ o. IfSome o Q)
IfAnswered_then r {P} {Q} f h = IfOk-weaker r (λ o. IfSome o P) (λ o. IfSome o Q) (λ o p. IfSome_then o p f) h
