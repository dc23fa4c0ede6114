-- Decimal numbers as tokens, and the integers that they stand for.
use Rattle.std.proofs.Common.{◌≡◌, ◌<◌, ◌≤◌, ◌^◌, ◌+◌, ◌-◌, ◌*◌, ◌/◌, ◌%◌, ◌++◌, ℕ, zero, suc, Bool, true, false, List, [], ◌∷◌, Ok, Option, Some, None, cond, decimal, drop, get_or, length, take, pos, refl, sym, ap, ◌∙◌, arith, ◌||◌, ◌&&◌, nat_eq, nat_le, nat_lt, le-leb, lt-ltb}
use Rattle.std.specs.Char.{digit_value}
use Rattle.wgsl_spelling.proofs.Common.{list_all, prefix_len, decimal_by_steps, decimal_digit, decimal_nonempty, first_decimal, common_steps, byte_at, is_digit, is_blank, piece_of, tokens_from, Token, appended, behind, ends_with, integer_of, is_wrong, number, Abstract}
use Rattle.wgsl_reader.specs.Numbers.{decimal_len, decimal_suffix, digits_len, exponent_len, fraction_len, is_digit_of, is_hexadecimal, number_len}
use Rattle.wgsl_reader.specs.declared.kind.Kind.TheVariants as k
use Rattle.wgsl_reader.specs.declared.piece.Piece.TheVariants as p
use Rattle.wgsl_spelling.proofs.Trees.{Ends, at_end, comma, greater, less, starts, token}
use Rattle.wgsl_spelling.proofs.TreeTokens.{both, by_piece}

-- digits that are written without needless zeros
record Plain (ds : List ℕ) : Type 0 where
  some : 0 < length ds
  all : list_all is_digit ds ≡ true
  right : is_wrong 10 ds ≡ false

all_append : (ds es : List ℕ) → list_all is_digit ds ≡ true → list_all is_digit es ≡ true → list_all is_digit (ds ++ es) ≡ true
all_append [] es d e = e
all_append (b ∷ bs) es d e = let parts = both (is_digit b) (list_all is_digit bs) d in rw parts.0 (all_append bs es parts.1 e)

digit : (n : ℕ) → n < 10 → is_digit (48 + n) ≡ true
digit n small = grind (arith, common_steps, small)

all_decimal : (n : ℕ) → n < 2 ^ 64 → list_all is_digit (decimal n) ≡ true
all_decimal n fits = decimal_by_steps (λ n ds. list_all is_digit ds ≡ true) (λ n small. rw (digit n small) refl)
    (λ n ds large before. all_append ds ((48 + n % 10) ∷ []) before (rw (digit (n % 10) (omega arith)) refl)) n fits

right_by : (ds : List ℕ) → 48 < get_or ds 0 0 → is_wrong 10 ds ≡ false
right_by [] first = absurd (omega (arith, first))
right_by (b ∷ []) first = refl
right_by (b ∷ c ∷ ds) first = grind (arith, common_steps, first)

plain : (n : ℕ) → n < 2 ^ 64 → Plain (decimal n)
plain zero fits = record { some = decimal_nonempty 0 fits; all = all_decimal 0 fits; right = ap (is_wrong 10) (decimal_digit 0 (omega arith)) }
plain (suc n) fits = record { some = decimal_nonempty (suc n) fits; all = all_decimal (suc n) fits; right = right_by (decimal (suc n)) (first_decimal (suc n) (omega arith) fits) }

-- the token

-- what stands behind belongs to no number
ends_number : {rest : List ℕ} → Ends rest
    → (digits_len false rest ≡ 0) × ((some : Bool) → fraction_len false some rest ≡ 0) × (exponent_len false rest ≡ 0) × (decimal_suffix rest ≡ 0)
ends_number at_end = (refl, λ some. refl, refl, refl)
ends_number (comma rest) = (refl, λ some. refl, refl, refl)
ends_number (less rest) = (refl, λ some. refl, refl, refl)
ends_number (greater rest) = (refl, λ some. refl, refl, refl)

digit_of : (b : ℕ) → is_digit b ≡ true → is_digit_of false b ≡ true
digit_of b e = rw e refl

all_digits : (ds rest : List ℕ) → list_all is_digit ds ≡ true → Ends rest → digits_len false (ds ++ rest) ≡ length ds
all_digits [] rest all ends = (ends_number ends).0
all_digits (b ∷ bs) rest all ends =
    let parts = both (is_digit b) (list_all is_digit bs) all in
    let one_up : 1 + prefix_len (is_digit_of false) (bs ++ rest) ≡ suc (prefix_len (is_digit_of false) (bs ++ rest)) = omega arith in
    rw (digit_of b parts.0) (ap (λ n. length (take n (b ∷ (bs ++ rest)))) one_up ∙ ap suc (all_digits bs rest parts.1 ends))

dropped : (ds rest : List ℕ) → drop (length ds) (ds ++ rest) ≡ rest
dropped [] rest = refl
dropped (b ∷ bs) rest = dropped bs rest

no_zero : (ds rest : List ℕ) → is_wrong 10 ds ≡ false → (nat_le 2 (length ds) && nat_eq (byte_at 0 (ds ++ rest)) 48) ≡ false
no_zero [] rest right = refl
no_zero (b ∷ []) rest right = refl
no_zero (b ∷ c ∷ ds) rest right = ap (λ z. z && nat_eq b 48) (le-leb 2 (suc (suc (length ds))) (omega arith)) ∙ right

by_parts : (bytes : List ℕ) (whole : ℕ) → digits_len false bytes ≡ whole → fraction_len false (nat_le 1 whole) (drop whole bytes) ≡ 0 → exponent_len false (drop (whole + 0) bytes) ≡ 0
    → (nat_le 2 whole && nat_eq (byte_at 0 bytes) 48) ≡ false → decimal_suffix (drop whole bytes) ≡ 0 → decimal_len bytes ≡ whole
by_parts bytes whole w f x z s = rw (w, f, x, z, s) (omega arith)

decimal_length : (ds rest : List ℕ) → Plain ds → Ends rest → decimal_len (ds ++ rest) ≡ length ds
decimal_length ds rest is ends =
    let none = ends_number ends in
    let gone : drop (length ds) (ds ++ rest) ≡ rest = dropped ds rest in
    let gone_too : drop (length ds + 0) (ds ++ rest) ≡ rest = ap (λ n. drop n (ds ++ rest)) (omega arith) ∙ gone in
    by_parts (ds ++ rest) (length ds) (all_digits ds rest is.all ends) (ap (fraction_len false (nat_le 1 (length ds))) gone ∙ none.1 (nat_le 1 (length ds)))
    (ap (exponent_len false) gone_too ∙ none.2) (no_zero ds rest is.right) (ap decimal_suffix gone ∙ none.3)

second_digit : (a b : ℕ) → is_digit b ≡ true → is_hexadecimal a b ≡ false
second_digit a b e = grind (arith, common_steps, e)

not_hexadecimal : (first second : ℕ) (bytes : List ℕ) → is_hexadecimal first second ≡ false → number_len (first ∷ second ∷ bytes) ≡ decimal_len (first ∷ second ∷ bytes)
not_hexadecimal first second bytes e = rw e refl

both_false : (a : Bool) → (a && false) ≡ false
both_false true = refl
both_false false = refl

ends_second : (b : ℕ) {rest : List ℕ} → Ends rest → number_len (b ∷ rest) ≡ decimal_len (b ∷ rest)
ends_second b at_end = refl
ends_second b (comma rest) = not_hexadecimal b 44 rest (both_false (nat_eq b 48))
ends_second b (less rest) = not_hexadecimal b 60 rest (both_false (nat_eq b 48))
ends_second b (greater rest) = not_hexadecimal b 62 rest (both_false (nat_eq b 48))

as_decimal : (ds rest : List ℕ) → Plain ds → Ends rest → number_len (ds ++ rest) ≡ decimal_len (ds ++ rest)
as_decimal [] rest is ends = absurd (let e = is.some in omega (arith, e))
as_decimal (b ∷ []) rest is ends = ends_second b ends
as_decimal (b ∷ c ∷ ds) rest is ends =
    let parts = both (is_digit b) (list_all is_digit (c ∷ ds)) is.all in
    let more = both (is_digit c) (list_all is_digit ds) parts.1 in
    not_hexadecimal b c (ds ++ rest) (second_digit b c more.0)

digit_piece : (b : ℕ) (bytes : List ℕ) → is_blank b ≡ false → is_digit b ≡ true → piece_of (b ∷ bytes) ≡ p.Token k.Number (number_len (b ∷ bytes))
digit_piece b bytes blank e = rw (blank, e) refl

no_blank_digit : (b : ℕ) → is_digit b ≡ true → is_blank b ≡ false
no_blank_digit b e = grind (arith, common_steps, e)

number_is : (ds rest : List ℕ) → Plain ds → Ends rest → piece_of (ds ++ rest) ≡ p.Token k.Number (length ds)
number_is [] rest is ends = absurd (let e = is.some in omega (arith, e))
number_is (b ∷ bs) rest is ends =
    let parts = both (is_digit b) (list_all is_digit bs) is.all in
    digit_piece b (bs ++ rest) (no_blank_digit b parts.0) parts.0
    ∙ ap (p.Token k.Number) (as_decimal (b ∷ bs) rest is ends ∙ decimal_length (b ∷ bs) rest is ends)

pub number_token : (n : ℕ) (rest : List ℕ) (at : ℕ) (more : List Token) → n < 2 ^ 63 → Ends rest → tokens_from 0 (at + length (decimal n)) rest ≡ Ok more
    → tokens_from 0 at (decimal n ++ rest) ≡ Ok (token k.Number at (length (decimal n)) ∷ more)
number_token n rest at more fits ends after =
    let is = plain n (omega (arith, fits)) in
    by_piece k.Number (decimal n) rest at more is.some (number_is (decimal n) rest is ends) after

first_digit : (ds rest : List ℕ) → Plain ds → starts (ds ++ rest) ≡ true
first_digit [] rest is = absurd (let e = is.some in omega (arith, e))
first_digit (b ∷ bs) rest is = ap (λ d. nat_le 65 b || d) (both (is_digit b) (list_all is_digit bs) is.all).0 ∙ or_true (nat_le 65 b)
  where
    or_true : (a : Bool) → (a || true) ≡ true
    or_true true = refl
    or_true false = refl

pub starts_number : (n : ℕ) (rest : List ℕ) → n < 2 ^ 63 → starts (decimal n ++ rest) ≡ true
starts_number n rest fits = first_digit (decimal n) rest (plain n (omega (arith, fits)))

-- the integer

digit_worth : (n : ℕ) → n < 10 → digit_value (48 + n) ≡ n
digit_worth n small = grind (arith, common_steps, small)

one_more : (base : ℕ) (v : Option ℕ) (d : ℕ) → nat_lt (digit_value d) base ≡ true → behind base v (d ∷ []) ≡ appended v base (digit_value d)
one_more base v d e = rw e refl

behind_append : (base : ℕ) (ds : List ℕ) (d m : ℕ) (v : Option ℕ) → nat_lt (digit_value d) base ≡ true → behind base v ds ≡ Some m → behind base v (ds ++ d ∷ []) ≡ appended (Some m) base (digit_value d)
behind_append base [] d m v small e = one_more base v d small ∙ ap (λ v. appended v base (digit_value d)) e
behind_append base (b ∷ bs) d m v small e = by (behind_append base bs d m (appended v base (digit_value b)) small) (nat_lt (digit_value b) base) refl
  where
    by : (behind base (appended v base (digit_value b)) bs ≡ Some m → behind base (appended v base (digit_value b)) (bs ++ d ∷ []) ≡ appended (Some m) base (digit_value d))
        → (c : Bool) → nat_lt (digit_value b) base ≡ c → behind base v (b ∷ (bs ++ d ∷ [])) ≡ appended (Some m) base (digit_value d)
    by inner true t = rw t (inner (let f : behind base v (b ∷ bs) ≡ behind base (appended v base (digit_value b)) bs = rw t refl in sym f ∙ e))
    by inner false t = absurd (let f : behind base v (b ∷ bs) ≡ None = rw t refl in let g = sym f ∙ e in cc g)

pub read_decimal : (n : ℕ) → n < 2 ^ 64 → behind 10 (Some 0) (decimal n) ≡ Some n
read_decimal n fits = decimal_by_steps (λ n ds. n < 2 ^ 64 → behind 10 (Some 0) ds ≡ Some n) first next n fits fits
  where
    first : (n : ℕ) → n < 10 → n < 2 ^ 64 → behind 10 (Some 0) ((48 + n) ∷ []) ≡ Some n
    first n small fits = one_more 10 (Some 0) (48 + n) (ap (λ d. nat_lt d 10) (digit_worth n small) ∙ lt-ltb n 10 small)
        ∙ (ap (appended (Some 0) 10) (digit_worth n small) ∙ ap (λ b. cond b (Some (0 * 10 + n)) None) (lt-ltb (0 * 10 + n) (2 ^ 64) (omega (arith, fits))) ∙ ap Some (omega arith))

    next : (n : ℕ) (ds : List ℕ) → 10 ≤ n → (n / 10 < 2 ^ 64 → behind 10 (Some 0) ds ≡ Some (n / 10)) → n < 2 ^ 64 → behind 10 (Some 0) (ds ++ ((48 + n % 10) ∷ [])) ≡ Some n
    next n ds large before fits =
        let small : n % 10 < 10 = omega arith in
        let whole : n / 10 * 10 + n % 10 ≡ n = omega arith in
        behind_append 10 ds (48 + n % 10) (n / 10) (Some 0) (ap (λ d. nat_lt d 10) (digit_worth (n % 10) small) ∙ lt-ltb (n % 10) 10 small) (before (omega (arith, fits)))
        ∙ (ap (appended (Some (n / 10)) 10) (digit_worth (n % 10) small)
        ∙ (ap (λ m. cond (nat_lt m (2 ^ 64)) (Some m) None) whole ∙ ap (λ b. cond b (Some n) None) (lt-ltb n (2 ^ 64) fits)))

last_digit : (ds : List ℕ) (c : ℕ) → list_all is_digit ds ≡ true → is_digit c ≡ false → ends_with c ds ≡ false
last_digit [] c all other = refl
last_digit (b ∷ bs) c all other = by (nat_eq (get_or (b ∷ bs) (length (b ∷ bs) - 1) 0) c) refl
  where
    at_last : (ds : List ℕ) (b : ℕ) → list_all is_digit (b ∷ ds) ≡ true → is_digit (get_or (b ∷ ds) (length ds) 0) ≡ true
    at_last [] b all = (both (is_digit b) true all).0
    at_last (d ∷ ds) b all = at_last ds d (both (is_digit b) (list_all is_digit (d ∷ ds)) all).1

    by : (e : Bool) → nat_eq (get_or (b ∷ bs) (length (b ∷ bs) - 1) 0) c ≡ e → (nat_le 1 (length (b ∷ bs)) && e) ≡ false
    by false t = both_false (nat_le 1 (length (b ∷ bs)))
    by true t =
        let place : length (b ∷ bs) - 1 ≡ length bs = omega arith in
        let same : get_or (b ∷ bs) (length bs) 0 ≡ c = ap (λ n. get_or (b ∷ bs) n 0) (sym place) ∙ grind (arith, common_steps, t) in
        let no : true ≡ false = sym (at_last bs b all) ∙ (ap is_digit same ∙ other) in
        absurd (cc no)

plain_decimal : (ds : List ℕ) → Plain ds → Rattle.wgsl_constants.specs.Literals.is_hexadecimal ds ≡ false
plain_decimal [] is = refl
plain_decimal (b ∷ []) is = refl
plain_decimal (b ∷ c ∷ ds) is = ap (λ z. z && (nat_eq c 120 || nat_eq c 88)) is.right

pub integer_is : (n : ℕ) → n < 2 ^ 63 → integer_of (decimal n) ≡ Some (Abstract (pos n))
integer_is n fits =
    let is = plain n (omega (arith, fits)) in
    let i : ends_with 105 (decimal n) ≡ false = last_digit (decimal n) 105 is.all refl in
    let u : ends_with 117 (decimal n) ≡ false = last_digit (decimal n) 117 is.all refl in
    let whole : number 10 (decimal n) ≡ Some n = ap (λ w. cond w None (behind 10 (Some 0) (decimal n))) is.right ∙ read_decimal n (omega (arith, fits)) in
    rw (plain_decimal (decimal n) is, i, u, whole, lt-ltb n (2 ^ 63) fits) refl

pub ascii_number : (n : ℕ) → n < 2 ^ 63 → (0 < length (decimal n)) × (list_all is_digit (decimal n) ≡ true)
ascii_number n fits = let is = plain n (omega (arith, fits)) in (is.some, is.all)
