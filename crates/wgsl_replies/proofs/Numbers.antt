-- What parsing gives is what the digits count, with a sign or without, and with a suffix or without.
use Rattle.wgsl_replies.proofs.Common.{◌≡◌, ◌≢◌, ◌<◌, ◌^◌, ℕ, Bool, true, false, ltb, List, [], ◌∷◌, length, Some, None, Result, Ok, Err, refl, sym, ap, arith}
use Rattle.wgsl_replies.proofs.Common.{rules, slice_index, OkIff, result_ok, all_ascii_digits, ltb-true, lt-ltb, number_below, has_bytes, ◌==◌, ℤ, pos, negsuc}
use Rattle.wgsl_replies.proofs.Common.{neg_ℤ, cond, ◌&&◌, drop, FitsSigned, subst, ◌∙◌, Width, nat_eq, codes, option_map, ends_with}
use Rattle.std.specs.Str.Parse.{ParsesUnsigned, digits_value, IsNumeral, ParsesSigned, signed_digits_value, starts_with_minus, without_leading_plus, without_leading_sign}
use Rattle.std.proofs.lemmas.Str.Parse.{IsNumeralModel, numerals_by_value, parse_plain}
use mir.Val.{hbits}
use Rattle.wgsl_replies.specs.words.Templates.{signed_below, value, within, without_minus, before, number, short_number}
use Rattle.wgsl_rules.specs.types.Literals.{abstract_int}

pub plus_is_none : (limit : ℕ) (word : List ℕ) → slice_index word 0 ≡ 43 → number_below limit word ≡ None
plus_is_none limit [] e = refl
plus_is_none limit (c ∷ cs) e = let is : c ≡ 43 = e in rw is refl

pub digits : IsNumeralModel (λ ds. all_ascii_digits ds ≡ true) (digits_value 10)
digits = numerals_by_value _ (search rules)

pub bytes_if : (word : List ℕ) → 0 < length word → has_bytes word ≡ true
bytes_if [] h = absurd (omega (arith, h))
bytes_if (c ∷ cs) h = refl

pub if_bytes : (word : List ℕ) → has_bytes word ≡ true → 0 < length word
if_bytes [] e = absurd (cc e)
if_bytes (c ∷ cs) e = omega arith

-- what fails one of three tests is none
none_of : {A : Type 0} (x : A) (a b c : Bool) → ¬ ((a ≡ true) × (b ≡ true) × (c ≡ true)) → cond (a && b && c) (Some x) None ≡ None
none_of x true true true not_all = absurd (not_all (refl, refl, refl))
none_of x a b c not_all = refl

none_below : (limit : ℕ) (word : List ℕ) → ¬ ((all_ascii_digits word ≡ true) × (0 < length word) × (digits_value 10 word < limit)) → number_below limit word ≡ None
none_below limit word not_all = none_of _ (has_bytes word) (all_ascii_digits word) (ltb (digits_value 10 word) limit) (λ all. not_all (all.1, if_bytes word all.0, ltb-true _ _ all.2))

below : {E : Type 0} (limit : ℕ) (word : List ℕ) (r : Result ℕ E) → OkIff r ((all_ascii_digits word ≡ true) × (0 < length word) × (digits_value 10 word < limit)) (digits_value 10 word) → result_ok r ≡ number_below limit word
below limit word (Ok x) h = rw (bytes_if word h.0.1, h.0.0, lt-ltb _ _ h.0.2) (ap Some h.1)
below limit word (Err e) h = sym (none_below limit word h)

-- of a word without a plus in front
pub parsed : {E : Type 0} (k : ℕ) (word : List ℕ) (r : Result ℕ E) → ParsesUnsigned k 10 word r → slice_index word 0 ≢ 43 → result_ok r ≡ number_below (2 ^ k) word
parsed k word r h plain = below (2 ^ k) word r (parse_plain digits k word r h plain)

pub plus_is_no_sign : (limit : ℕ) (word : List ℕ) → slice_index word 0 ≡ 43 → signed_below limit word ≡ None
plus_is_no_sign limit [] e = refl
plus_is_no_sign limit (c ∷ cs) e = let is : c ≡ 43 = e in rw is refl

no_plus : (word : List ℕ) → slice_index word 0 ≢ 43 → without_leading_plus word ≡ word
no_plus [] plain = refl
no_plus (c ∷ cs) plain = by (c == 43) refl
  where
    by : (b : Bool) → (c == 43) ≡ b → without_leading_plus (c ∷ cs) ≡ c ∷ cs
    by true e = absurd (plain (grind (arith, e)))
    by false e = rw e refl

module _ (w : Width) (word : List ℕ) (plain : slice_index word 0 ≢ 43) where
  sign_is : without_leading_sign word ≡ without_minus word
  sign_is = ap (λ ds. cond (starts_with_minus word) (drop 1 word) ds) (no_plus word plain)

  value_is : signed_digits_value 10 word ≡ value word
  value_is = ap (λ ds. cond (starts_with_minus word) (neg_ℤ (pos (digits_value 10 ds))) (pos (digits_value 10 ds))) sign_is

  fits_within : (v : ℤ) → FitsSigned w v → within (2 ^ hbits w) v ≡ true
  fits_within (pos n) f = lt-ltb _ _ f.sfits
  fits_within (negsuc n) f = lt-ltb _ _ f.sfits

  within_fits : (v : ℤ) → within (2 ^ hbits w) v ≡ true → FitsSigned w v
  within_fits (pos n) e = record { sfits = ltb-true _ _ e }
  within_fits (negsuc n) e = record { sfits = ltb-true _ _ e }

  none_signed : ¬ (IsNumeral 10 (without_minus word) × FitsSigned w (value word)) → signed_below (2 ^ hbits w) word ≡ None
  none_signed not_all =
      none_of _ (has_bytes (without_minus word)) (all_ascii_digits (without_minus word)) (within (2 ^ hbits w) (value word))
      (λ all. not_all ((if_bytes _ all.0, digits.to _ all.1), within_fits _ all.2))

  pub signed_parsed : {E : Type 0} (r : Result ℤ E) → ParsesSigned w 10 word r → result_ok r ≡ signed_below (2 ^ hbits w) word
  signed_parsed (Ok x) h =
      let n : IsNumeral 10 (without_minus word) = subst (IsNumeral 10) sign_is h.0.0 in
      let f : FitsSigned w (value word) = subst (FitsSigned w) value_is h.0.1 in
      rw (bytes_if _ n.0, digits.from _ n.1, fits_within _ f) (ap Some (h.1 ∙ value_is))
  signed_parsed (Err e) h = sym (none_signed (λ all. h (subst (IsNumeral 10) (sym sign_is) all.0, subst (FitsSigned w) (sym value_is) all.1)))

no_before : (suffix word : List ℕ) → false ≡ ends_with nat_eq word suffix → before suffix word ≡ None
no_before suffix word e = rw (← e) refl

pub no_short_suffix : (word : List ℕ) → false ≡ ends_with nat_eq word (codes "i") → false ≡ ends_with nat_eq word (codes "u") → short_number word ≡ option_map abstract_int (signed_below 9223372036854775808 word)
unfolding short_number
no_short_suffix word e f = rw (no_before (codes "i") word e, no_before (codes "u") word f) refl

pub no_long_suffix : (word : List ℕ) → false ≡ ends_with nat_eq word (codes "li") → false ≡ ends_with nat_eq word (codes "lu") → number word ≡ short_number word
unfolding number
no_long_suffix word e f = rw (no_before (codes "li") word e, no_before (codes "lu") word f) refl
