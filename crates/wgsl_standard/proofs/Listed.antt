-- The parameters of an overload, looked at or written one after another.
use Rattle.wgsl_standard.proofs.Common.{get_or_from_slice_get, slice_get-get_or, drop-cons, Overload, HasWritten, IsPlainFormatter, list_any, flat_map-append, has_written_append, Pattern, Resource, first_resource, patterns_text, after_comma, pattern_text, first_pattern}
use Rattle.std.proofs.Common.{get_or, length, ◌≡◌, ℕ, zero, suc, ◌+◌, ◌<◌, List, [], ◌∷◌, ◌++◌, Option, Some, None, Bool, true, false, ◌||◌, drop, slice_get, refl, ap, sym, subst, ◌∙◌, arith, append_assoc, Bor, min, option_map, flat_map, option_to_list}
use Rattle.std.proofs.lemmas.List.Folds.{list_any-append}
use Rattle.std.specs.declared.fmt.Formatter.{Formatter}
use Rattle.wgsl_syntax.specs.declared.overload.Pattern.TheVariants as patterns
use Rattle.wgsl_standard.specs.internal.Listed.{AreListed}

pub first_at : (ps : List Pattern) → slice_get ps 0 ≡ first_pattern ps
first_at [] = refl
first_at (p ∷ ps) = refl

drop_suc : {X : Type 0} (xs : List X) (i : ℕ) → drop i xs ≡ option_to_list (slice_get xs i) ++ drop (suc i) xs
drop_suc [] zero = refl
drop_suc (x ∷ xs) (suc i) = drop_suc xs i
drop_suc xs i = refl

pub next : (n : ℕ) → suc n ≡ n + 1
next n = omega arith

pub drop_next : {X : Type 0} (xs : List X) (i : ℕ) → drop i xs ≡ option_to_list (slice_get xs i) ++ drop (i + 1) xs
drop_next xs i = drop_suc xs i ∙ ap (λ n. option_to_list (slice_get xs i) ++ drop n xs) (next i)

pub drop_none : {X : Type 0} (xs : List X) (i : ℕ) → slice_get xs i ≡ None → drop i xs ≡ []
drop_none [] zero e = refl
drop_none [] (suc i) e = refl
drop_none (x ∷ xs) zero e = cc
drop_none (x ∷ xs) (suc i) e = drop_none xs i e

pub resource_found : (xs ys : List Pattern) (r : Resource) → first_resource xs ≡ Some r → first_resource (xs ++ ys) ≡ Some r
resource_found [] ys r e = cc
resource_found (patterns.Value s c ∷ xs) ys r e = resource_found xs ys r e
resource_found (patterns.Sampler s ∷ xs) ys r e = resource_found xs ys r e
resource_found (patterns.Texture t ∷ xs) ys r e = resource_found xs ys r e
resource_found (patterns.Resource q ∷ xs) ys r e = e

pub resource_later : (xs ys : List Pattern) → first_resource xs ≡ None → first_resource (xs ++ ys) ≡ first_resource ys
resource_later [] ys e = refl
resource_later (patterns.Value s c ∷ xs) ys e = resource_later xs ys e
resource_later (patterns.Sampler s ∷ xs) ys e = resource_later xs ys e
resource_later (patterns.Texture t ∷ xs) ys e = resource_later xs ys e
resource_later (patterns.Resource q ∷ xs) ys e = cc

-- the element at an index, and those behind it

pub operand_at : {X : Type 0} (xs : List X) (n : ℕ) (x : X) → n < length xs → x ≡ get_or xs n x → drop n xs ≡ x ∷ drop (n + 1) xs
operand_at xs n x h e = drop-cons xs n x h ∙ (ap (λ y. y ∷ drop (suc n) xs) (sym e) ∙ ap (λ m. x ∷ drop m xs) (next n))

pub pattern_there : (ps : List Pattern) (n : ℕ) (p : Pattern) → slice_get ps n ≡ Some p → drop n ps ≡ p ∷ drop (n + 1) ps
pattern_there ps n p e = drop_next ps n ∙ ap (λ o. option_to_list o ++ drop (n + 1) ps) e

pub listed_at : (ps : List Pattern) (qs : List (Bor Pattern)) (i k : ℕ) (d : Bor Pattern) → AreListed ps qs → i < length ps → k ≡ min i 6 → slice_get ps i ≡ Some (get_or qs k d).now
listed_at ps qs i k d l h e = turn (slice_get qs k) refl (l i h ∙ ap (λ k. option_map (λ q. q.now) (slice_get qs k)) (sym e))
  where
    turn : (r : Option (Bor Pattern)) → slice_get qs k ≡ r → slice_get ps i ≡ option_map (λ q. q.now) r → slice_get ps i ≡ Some (get_or qs k d).now
    turn None f g = let w : Some (get_or ps i d.now) ≡ None = sym (slice_get-get_or ps i d.now h) ∙ g in absurd (cc w)
    turn (Some q) f g = g ∙ ap (λ q. Some q.now) (sym (get_or_from_slice_get qs k q d f))

pub stands : (os ls : List Overload) (i : ℕ) (d : Overload) → ls ≡ os → i < length ls → slice_get os i ≡ Some (get_or ls i d)
stands os ls i d e h = subst (λ os. slice_get os i ≡ Some (get_or ls i d)) e (slice_get-get_or ls i d h)

pub any_here : {X : Type 0} (f : X → Bool) (xs : List X) (i : ℕ) (o : Option X) → o ≡ slice_get xs i → list_any f (option_to_list o) ≡ true → list_any f (drop i xs) ≡ true
any_here f xs i o e h =
    ap (list_any f) (drop_next xs i ∙ ap (λ o. option_to_list o ++ drop (i + 1) xs) (sym e)) ∙ list_any-append f (option_to_list o) (drop (i + 1) xs)
    ∙ ap (λ b. b || list_any f (drop (i + 1) xs)) h

pub any_later : {X : Type 0} (f : X → Bool) (xs : List X) (i : ℕ) (o : Option X) → o ≡ slice_get xs i → list_any f (option_to_list o) ≡ false
    → list_any f (drop (i + 1) xs) ≡ list_any f (drop i xs)
any_later f xs i o e h = sym (
    ap (list_any f) (drop_next xs i ∙ ap (λ o. option_to_list o ++ drop (i + 1) xs) (sym e)) ∙ list_any-append f (option_to_list o) (drop (i + 1) xs)
    ∙ ap (λ b. b || list_any f (drop (i + 1) xs)) h)

pub resource_here : (ps : List Pattern) (i : ℕ) (o : Option Pattern) (r : Resource) → o ≡ slice_get ps i → first_resource (option_to_list o) ≡ Some r → first_resource (drop i ps) ≡ Some r
resource_here ps i o r e h = ap first_resource (drop_next ps i ∙ ap (λ o. option_to_list o ++ drop (i + 1) ps) (sym e)) ∙ resource_found (option_to_list o) (drop (i + 1) ps) r h

pub resource_past : (ps : List Pattern) (i : ℕ) (o : Option Pattern) → o ≡ slice_get ps i → first_resource (option_to_list o) ≡ None → first_resource (drop (i + 1) ps) ≡ first_resource (drop i ps)
resource_past ps i o e h = sym (ap first_resource (drop_next ps i ∙ ap (λ o. option_to_list o ++ drop (i + 1) ps) (sym e)) ∙ resource_later (option_to_list o) (drop (i + 1) ps) h)

written_next : (v : Bool) (ps : List Pattern) (i : ℕ) (written whole : List ℕ) → written ++ flat_map (after_comma v) (drop i ps) ≡ whole
    → (written ++ flat_map (after_comma v) (option_to_list (slice_get ps i))) ++ flat_map (after_comma v) (drop (i + 1) ps) ≡ whole
written_next v ps i written whole e =
    append_assoc written _ _ ∙ ap (λ zs. written ++ zs) (sym (flat_map-append (after_comma v) (option_to_list (slice_get ps i)) (drop (i + 1) ps)))
    ∙ ap (λ qs. written ++ flat_map (after_comma v) qs) (sym (drop_next ps i)) ∙ e

-- the parameters before an index are written, and those from it on are left
abbrev pub Written : {W : Type 0} → (W → List ℕ → W → Type 0) → Formatter W → Formatter W → Bool → List Pattern → List ℕ → Type 0
Written took f g v ps whole = (written : List ℕ) × HasWritten took f written g × (written ++ flat_map (after_comma v) ps ≡ whole)

pub one_more_written : {W : Type 0} (took : W → List ℕ → W → Type 0) (f g h : Formatter W) (v : Bool) (ps : List Pattern) (i : ℕ) (o : Option Pattern) (whole : List ℕ) → o ≡ slice_get ps i
    → Written took f g v (drop i ps) whole → (IsPlainFormatter g → HasWritten took g (flat_map (after_comma v) (option_to_list o)) h) → Written took f h v (drop (i + 1) ps) whole
one_more_written took f g h v ps i o whole e w k = (
  w.0 ++ flat_map (after_comma v) (option_to_list (slice_get ps i)),
  has_written_append took f w.0 g _ h w.1 (subst (λ o. HasWritten took g (flat_map (after_comma v) (option_to_list o)) h) e (k w.1.plain)),
  written_next v ps i w.0 whole w.2,
)

pub first_and_others : (v : Bool) (ps : List Pattern) (i : ℕ) (p : Pattern) → slice_get ps i ≡ Some p
    → pattern_text v p ++ flat_map (after_comma v) (drop (i + 1) ps) ≡ patterns_text v (drop i ps)
first_and_others v ps i p e = sym (ap (patterns_text v) (drop_next ps i ∙ ap (λ o. option_to_list o ++ drop (i + 1) ps) e))

pub no_first : (v : Bool) (ps : List Pattern) (i : ℕ) → slice_get ps i ≡ None → patterns_text v (drop i ps) ≡ []
no_first v ps i e = ap (patterns_text v) (drop_none ps i e)
