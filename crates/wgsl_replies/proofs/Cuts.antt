-- The first word of a text, what is left behind it, and where the text may be cut: after the separators in front, and after that word.
use Rattle.wgsl_replies.proofs.Common.{◌≡◌, ℕ, ◌+◌, ◌<◌, Bool, true, false, not, List, [], ◌∷◌, length, take, drop, refl, ap, sym, subst, ◌∙◌, arith, filter}
use Rattle.wgsl_replies.proofs.Common.{prefix_len, common_steps, nil_from_length, pieces, has_bytes, is_separator, words_of, zero}
use Rattle.wgsl_replies.proofs.Common.{suc, ◌-◌, ◌≤◌, Some, None, IsUtf8, get_or, Bor, IsCharBoundary, IsAscii, not-false, drop-drop, length-drop, IsFirstWord}
use Rattle.wgsl_requests.specs.Replies.{has_line_feed, is_line_feed}
use Rattle.std.proofs.lemmas.List.Sums.{prefix_len-le-length, prefix_len_passes, prefix_len_stops}
use Rattle.std.proofs.lemmas.Str.{IsCharBoundary-start, IsCharBoundary-after_ascii, IsCharBoundary-before_ascii, IsCharBoundary-from_rest, IsUtf8-nil, IsUtf8-append, IsUtf8-from_ascii}

abbrev pub gap_len : (ℕ → Bool) → List ℕ → ℕ
gap_len cuts bytes = prefix_len cuts bytes

abbrev pub word_len : (ℕ → Bool) → List ℕ → ℕ
word_len cuts bytes = prefix_len (λ byte. not (cuts byte)) bytes

abbrev pub words : (ℕ → Bool) → List ℕ → List (List ℕ)
words cuts bytes = filter has_bytes (pieces cuts bytes)

drop-one : (n b : ℕ) (bs : List ℕ) → drop (1 + n) (b ∷ bs) ≡ drop n bs
drop-one n b bs = grind (arith, common_steps)

take-one : (n b : ℕ) (bs : List ℕ) → take (1 + n) (b ∷ bs) ≡ b ∷ take n bs
take-one n b bs = grind (arith, common_steps)

pub words-cut : (cuts : ℕ → Bool) (b : ℕ) (bs : List ℕ) → cuts b ≡ true → words cuts (b ∷ bs) ≡ words cuts bs
words-cut cuts b bs e = rw e refl

after_cut : (cuts : ℕ → Bool) (b : ℕ) (bs : List ℕ) → cuts b ≡ true
    → drop (gap_len cuts (b ∷ bs)) (b ∷ bs) ≡ drop (gap_len cuts bs) bs
after_cut cuts b bs e = rw e (drop-one (gap_len cuts bs) b bs)

after_no_cut : (cuts : ℕ → Bool) (b : ℕ) (bs : List ℕ) → cuts b ≡ false
    → drop (gap_len cuts (b ∷ bs)) (b ∷ bs) ≡ b ∷ bs
after_no_cut cuts b bs e = rw e refl

-- the pieces of bytes: the bytes before the first separator, and those after it
pub record Splits (cuts : ℕ → Bool) (bytes : List ℕ) : Type 0 where
  pub others : List (List ℕ)
  pub first : pieces cuts bytes ≡ take (word_len cuts bytes) bytes ∷ others
  pub rest : filter has_bytes others ≡ words cuts (drop (word_len cuts bytes) bytes)

pub splits : (cuts : ℕ → Bool) (bytes : List ℕ) → Splits cuts bytes
splits cuts [] = record { others = []; first = refl; rest = refl }
splits cuts (b ∷ bs) = step (cuts b) refl (splits cuts bs)
  where
    step : (v : Bool) → cuts b ≡ v → Splits cuts bs → Splits cuts (b ∷ bs)
    step true e s = record {
      others = pieces cuts bs;
      first = rw e refl;
      rest = rw e (rw e refl);
    }
    step false e s = record {
      others = s.others;
      first = rw (e, s.first) (ap (λ w. w ∷ s.others) (sym (take-one (word_len cuts bs) b bs)));
      rest = rw e (rw (drop-one (word_len cuts bs) b bs) s.rest);
    }

-- bytes that begin with a word
pub words-word : (cuts : ℕ → Bool) (b : ℕ) (bs : List ℕ) → cuts b ≡ false
    → words cuts (b ∷ bs) ≡ take (word_len cuts (b ∷ bs)) (b ∷ bs) ∷ words cuts (drop (word_len cuts (b ∷ bs)) (b ∷ bs))
words-word cuts b bs e =
    let s = splits cuts bs in
    let n = word_len cuts bs in
    rw (e, s.first) (rw (take-one n b bs, drop-one n b bs) (ap (λ ws. (b ∷ take n bs) ∷ ws) s.rest))

-- separators in front change none of its words
pub words-gap : (cuts : ℕ → Bool) (bytes : List ℕ)
    → words cuts (drop (gap_len cuts bytes) bytes) ≡ words cuts bytes
words-gap cuts [] = refl
words-gap cuts (b ∷ bs) = step (cuts b) refl (words-gap cuts bs)
  where
    step : (v : Bool) → cuts b ≡ v → words cuts (drop (gap_len cuts bs) bs) ≡ words cuts bs
        → words cuts (drop (gap_len cuts (b ∷ bs)) (b ∷ bs)) ≡ words cuts (b ∷ bs)
    step true e h = ap (words cuts) (after_cut cuts b bs e) ∙ (h ∙ sym (words-cut cuts b bs e))
    step false e h = ap (words cuts) (after_no_cut cuts b bs e)

-- after the separators in front nothing is left, or a word comes
abbrev pub BeginsWithWord : (ℕ → Bool) → List ℕ → Type 0
BeginsWithWord cuts rest = 0 < length rest
    → words cuts rest ≡ take (word_len cuts rest) rest ∷ words cuts (drop (word_len cuts rest) rest)

pub begins_with_word : (cuts : ℕ → Bool) (bytes : List ℕ) → BeginsWithWord cuts (drop (gap_len cuts bytes) bytes)
begins_with_word cuts [] = λ h. let never : ⊥ = omega arith in absurd never
begins_with_word cuts (b ∷ bs) = step (cuts b) refl (begins_with_word cuts bs)
  where
    step : (v : Bool) → cuts b ≡ v → BeginsWithWord cuts (drop (gap_len cuts bs) bs)
        → BeginsWithWord cuts (drop (gap_len cuts (b ∷ bs)) (b ∷ bs))
    step true e h = rw (after_cut cuts b bs e) h
    step false e h = rw (after_no_cut cuts b bs e) (λ _. words-word cuts b bs e)

-- the same, where `gap` and `len` count the separators in front and the bytes of the word
pub words_of-blank : (bytes : List ℕ) (gap : ℕ) → gap ≡ prefix_len is_separator bytes
    → length (drop gap bytes) ≡ 0 → words_of bytes ≡ []
words_of-blank bytes gap at h =
    let e : gap ≡ gap_len is_separator bytes = at in
    let none : drop (gap_len is_separator bytes) bytes ≡ [] = rw (← e) (nil_from_length _ h) in
    sym (words-gap is_separator bytes) ∙ ap (words is_separator) none

pub words_of-first : (bytes rest : List ℕ) (gap len : ℕ) → gap ≡ prefix_len is_separator bytes
    → rest ≡ drop gap bytes → len ≡ prefix_len (λ byte. not (is_separator byte)) rest
    → 0 < length rest → words_of bytes ≡ take len rest ∷ words_of (drop len rest)
words_of-first bytes rest gap len at is ends h =
    let e : gap ≡ gap_len is_separator bytes = at in
    let same : drop (gap_len is_separator bytes) bytes ≡ rest = rw (← e) (sym is) in
    let begins : BeginsWithWord is_separator rest =
    subst (BeginsWithWord is_separator) same (begins_with_word is_separator bytes) in
    let whole : len ≡ word_len is_separator rest = ends in
    rw whole (sym (words-gap is_separator bytes) ∙ (ap (words is_separator) same ∙ begins h))

-- a separator is no line feed
no_line_feed : (b : ℕ) → is_separator b ≡ true → is_line_feed b ≡ false
no_line_feed b e = grind (arith, common_steps, e)

-- what holds of no bytes, and of one more separator, holds of bytes without a word
of_blank : (P : List ℕ → Type 0) → P [] → ((b : ℕ) (bs : List ℕ) → is_separator b ≡ true → P bs → P (b ∷ bs)) → (bytes : List ℕ) → words_of bytes ≡ [] → P bytes
of_blank P empty more [] none = empty
of_blank P empty more (b ∷ bs) none = step (is_separator b) refl (of_blank P empty more bs)
  where
    step : (v : Bool) → is_separator b ≡ v → (words_of bs ≡ [] → P bs) → P (b ∷ bs)
    step true e rest = more b bs e (rest (sym (words-cut is_separator b bs e) ∙ none))
    step false e rest = let never : ⊥ = cc (sym (words-word is_separator b bs e) ∙ none) in absurd never

-- separators have no line feed
pub blank-no_line_feed : (bytes : List ℕ) → words_of bytes ≡ [] → has_line_feed bytes ≡ false
blank-no_line_feed = of_blank (λ bytes. has_line_feed bytes ≡ false) refl (λ b bs e rest. rw (no_line_feed b e) rest)

-- the separators in front of bytes without a word are all of them
pub blank-gap : (bytes : List ℕ) → words_of bytes ≡ [] → gap_len is_separator bytes ≡ length bytes
blank-gap = of_blank (λ bytes. gap_len is_separator bytes ≡ length bytes) refl (λ b bs e rest. rw e (omega (arith, rest)))

separator_ascii : (b : ℕ) → is_separator b ≡ true → b < 128
separator_ascii b e = grind (arith, common_steps, e)

pub gap_boundary : (text : List ℕ) (gap : ℕ) → IsUtf8 text → gap ≡ prefix_len is_separator text → IsCharBoundary text gap
gap_boundary text zero u e = IsCharBoundary-start text u
gap_boundary text (suc k) u e =
    let whole : suc k ≡ prefix_len is_separator text = e in
    let in_gap : k < prefix_len is_separator text = omega (arith, whole) in
    let in_text : k < length text = omega (arith, in_gap, prefix_len-le-length is_separator text) in
    let one_more : k + 1 ≡ suc k = omega arith in
    subst (IsCharBoundary text) one_more (IsCharBoundary-after_ascii text k u in_text (separator_ascii _ (prefix_len_passes is_separator text k 0 in_gap)))

prefix_boundary : (rest : List ℕ) → IsCharBoundary rest (word_len is_separator rest)
prefix_boundary rest =
    let within : word_len is_separator rest ≤ length rest = prefix_len-le-length (λ byte. not (is_separator byte)) rest in
    (within, λ lt. (IsCharBoundary-before_ascii rest _ lt (separator_ascii _ (not-false _ (prefix_len_stops (λ byte. not (is_separator byte)) rest 0 lt)))).1 lt)

pub word_boundary : (rest : List ℕ) (len : ℕ) → len ≡ prefix_len (λ byte. not (is_separator byte)) rest → IsCharBoundary rest len
word_boundary rest len e = subst (IsCharBoundary rest) (sym e) (prefix_boundary rest)

-- a word that begins where the separators in front end has bytes
pub word_has_bytes : (text rest : List ℕ) (gap len : ℕ) → gap ≡ prefix_len is_separator text → rest ≡ drop gap text
    → len ≡ prefix_len (λ byte. not (is_separator byte)) rest → 0 < length rest → 0 < len
word_has_bytes text rest gap zero e is f more =
    let q : ℕ → Bool = λ byte. not (is_separator byte) in
    let whole : 0 ≡ prefix_len q rest = f in
    let front : is_separator (get_or rest 0 0) ≡ true = not-false _ (subst (λ n. q (get_or rest n 0) ≡ false) (sym whole) (prefix_len_stops q rest 0 (subst (λ n. n < length rest) whole more))) in
    let at : gap ≡ prefix_len is_separator text = e in
    let inside : prefix_len is_separator text < length text = grind (arith, common_steps, at, is, more) in
    let here : get_or rest 0 0 ≡ get_or text gap 0 = rw is (grind (arith, common_steps)) in
    let stops : is_separator (get_or text gap 0) ≡ false = rw at (prefix_len_stops is_separator text 0 inside) in
    absurd (cc (sym front ∙ (ap is_separator here ∙ stops)))
word_has_bytes text rest gap (suc n) e is f more = omega arith

-- the separators in front of a text, what is left after them, and the bytes of the word that it begins with
pub record IsParted (text rest : List ℕ) (gap len : ℕ) : Type 0 where
  pub gap_is : gap ≡ prefix_len is_separator text
  pub rest_is : rest ≡ drop gap text
  pub len_is : len ≡ prefix_len (λ byte. not (is_separator byte)) rest
  pub some : 0 < length rest

-- that word is the first
pub first_word_is : (text rest : List ℕ) (word : Bor (List ℕ)) (gap len : ℕ) → IsParted text rest gap len → word.now ≡ take len rest → IsFirstWord text (Some (word, gap + len))
first_word_is text rest word gap len at is =
    let q : ℕ → Bool = λ byte. not (is_separator byte) in
    let gap_within : gap ≤ length text = omega (arith, at.gap_is, prefix_len-le-length is_separator text) in
    let len_within : len ≤ length rest = omega (arith, at.len_is, prefix_len-le-length q rest) in
    let left : length rest ≡ length text - gap = ap length at.rest_is ∙ length-drop gap text in
    let some : 0 < len = word_has_bytes text rest gap len at.gap_is at.rest_is at.len_is at.some in
    let first : words_of text ≡ take len rest ∷ words_of (drop len rest) = words_of-first text rest gap len at.gap_is at.rest_is at.len_is at.some in
    let after : drop len rest ≡ drop (gap + len) text = ap (drop len) at.rest_is ∙ drop-drop len gap text in
    record {
      words = rw is (first ∙ ap (λ ds. take len rest ∷ words_of ds) after);
      boundary = IsCharBoundary-from_rest text gap len gap_within (subst (λ ds. IsCharBoundary ds len) at.rest_is (word_boundary rest len at.len_is));
      some = omega (arith, some);
      within = omega (arith, gap_within, len_within, left);
    }

pub no_first_word : (text : List ℕ) → words_of text ≡ [] → IsFirstWord text None
no_first_word text none = record { words = none; boundary = tt; some = tt; within = tt }

ascii_one : (b : ℕ) → b < 128 → IsAscii (b ∷ [])
ascii_one b e zero = e
ascii_one b e (suc n) = omega arith

-- separators alone are UTF-8
pub blank_text : (bytes : List ℕ) → words_of bytes ≡ [] → IsUtf8 bytes
blank_text = of_blank IsUtf8 IsUtf8-nil (λ b bs e rest. IsUtf8-append (b ∷ []) bs (IsUtf8-from_ascii (b ∷ []) (ascii_one b (separator_ascii b e))) rest)
