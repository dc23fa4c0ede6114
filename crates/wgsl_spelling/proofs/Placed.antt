-- Where the tokens of a tree stand, and their texts.
use Rattle.std.proofs.Common.{◌≡◌, ◌<◌, ◌+◌, ◌-◌, ◌++◌, ◌||◌, ℕ, suc, Bool, true, false, List, [], ◌∷◌, cond, decimal, drop, length, length-append, take, refl, sym, ap, subst, ◌∙◌, arith, nat_eq, nat_le, nat_lt, slice_index, slice_range, eq-eqb, le-leb, lt-ltb, append_assoc, append-nil}
use Rattle.wgsl_spelling.proofs.Common.{list_all, common_steps, is_digit, is_in_ascii_name, Kind, Token, is_boundary, word}
use Rattle.wgsl_reader.specs.declared.kind.Kind.TheVariants as k
use Rattle.wgsl_spelling.proofs.TreeNumbers.{ascii_number}
use Rattle.wgsl_spelling.proofs.TreeTokens.{both, taken}
use Rattle.wgsl_spelling.proofs.Trees.{Ends, IsGood, IsName, Tree, at_end, comma, digits, greater, less, list, name, parts, past, text, token}

-- the text of a token that stands between others

index_at : (front : List ℕ) (b : ℕ) (rest : List ℕ) → slice_index (front ++ b ∷ rest) (length front) ≡ b
index_at [] b rest = refl
index_at (x ∷ front) b rest = index_at front b rest

longer : (front : List ℕ) (b : ℕ) (rest : List ℕ) → length front < length (front ++ b ∷ rest)
longer front b rest = omega (arith, length-append front (b ∷ rest))

boundary : (front : List ℕ) (b : ℕ) (rest : List ℕ) → nat_lt b 128 ≡ true → is_boundary (length front) (front ++ b ∷ rest) ≡ true
boundary front b rest small = rw (lt-ltb (length front) (length (front ++ b ∷ rest)) (longer front b rest), index_at front b rest, small) refl

boundary_end : (front : List ℕ) (n : ℕ) → n ≡ length front → is_boundary n front ≡ true
boundary_end front n same = by (nat_lt n (length front)) refl
  where
    by : (b : Bool) → nat_lt n (length front) ≡ b → cond b (nat_lt (slice_index front n) 128 || nat_le 192 (slice_index front n)) (nat_eq n (length front)) ≡ true
    by false e = eq-eqb n (length front) same
    by true e = absurd (grind (arith, common_steps, same, e))

boundary_behind : (front : List ℕ) (n : ℕ) {back : List ℕ} → n ≡ length front → Ends back → is_boundary n (front ++ back) ≡ true
boundary_behind front n same at_end = boundary_end (front ++ []) n (same ∙ ap length (sym (append-nil front)))
boundary_behind front n same (comma rest) = subst (λ n. is_boundary n (front ++ 44 ∷ rest) ≡ true) (sym same) (boundary front 44 rest refl)
boundary_behind front n same (less rest) = subst (λ n. is_boundary n (front ++ 60 ∷ rest) ≡ true) (sym same) (boundary front 60 rest refl)
boundary_behind front n same (greater rest) = subst (λ n. is_boundary n (front ++ 62 ∷ rest) ≡ true) (sym same) (boundary front 62 rest refl)

dropped : (front rest : List ℕ) → drop (length front) (front ++ rest) ≡ rest
dropped [] rest = refl
dropped (x ∷ front) rest = dropped front rest

range : (front w back : List ℕ) → slice_range (front ++ (w ++ back)) (length front) (length front + length w) ≡ w
range front w back =
    let size : length front + length w - length front ≡ length w = omega arith in
    ap (λ n. take n (drop (length front) (front ++ (w ++ back)))) size ∙ (ap (take (length w)) (dropped front (w ++ back)) ∙ taken w back)

within_by : (t : Token) (bytes : List ℕ) → is_boundary t.at bytes ≡ true → nat_le t.len (length bytes - t.at) ≡ true → is_boundary (t.at + t.len) bytes ≡ true → word bytes t ≡ slice_range bytes t.at (t.at + t.len)
within_by t bytes a b c = rw (a, b, c) refl

pub word_at : (kind : Kind) (front : List ℕ) (b : ℕ) (bs back : List ℕ) → nat_lt b 128 ≡ true → Ends back → word (front ++ ((b ∷ bs) ++ back)) (token kind (length front) (length (b ∷ bs))) ≡ b ∷ bs
word_at kind front b bs back small ends =
    let w = b ∷ bs in
    let whole = front ++ (w ++ back) in
    let size : length whole ≡ length front + (length w + length back) = length-append front (w ++ back) ∙ ap (λ n. length front + n) (length-append w back) in
    let behind : is_boundary (length front + length w) whole ≡ true =
    ap (is_boundary (length front + length w)) (sym (append_assoc front w back)) ∙ boundary_behind (front ++ w) (length front + length w) (sym (length-append front w)) ends in
    within_by (token kind (length front) (length w)) whole (boundary front b (bs ++ back) small) (le-leb (length w) (length whole - length front) (omega (arith, size))) behind
    ∙ range front w back

ascii : (b : ℕ) → is_in_ascii_name b ≡ true → nat_lt b 128 ≡ true
ascii b e = grind (arith, common_steps, e)

ascii_digit : (b : ℕ) → is_digit b ≡ true → nat_lt b 128 ≡ true
ascii_digit b e = grind (arith, common_steps, e)

word_of_name : (front w back : List ℕ) → IsName w → Ends back → word (front ++ (w ++ back)) (token k.Name (length front) (length w)) ≡ w
word_of_name front [] back is ends = absurd (let e = is.letter in cc e)
word_of_name front (b ∷ bs) back is ends = word_at k.Name front b bs back (ascii b (both (is_in_ascii_name b) (list_all is_in_ascii_name bs) is.all).0) ends

word_of_number : (front ds back : List ℕ) → 0 < length ds → list_all is_digit ds ≡ true → Ends back → word (front ++ (ds ++ back)) (token k.Number (length front) (length ds)) ≡ ds
word_of_number front [] back some all ends = absurd (omega (arith, some))
word_of_number front (b ∷ bs) back some all ends = word_at k.Number front b bs back (ascii_digit b (both (is_digit b) (list_all is_digit bs) all).0) ends

-- the words of a tree in a text
abbrev pub Located : List ℕ → Tree → ℕ → Type 0
Located t (name w) at = word t (token k.Name at (length w)) ≡ w
Located t (digits n) at = word t (token k.Number at (length (decimal n))) ≡ decimal n
Located t (list w a) at = (word t (token k.Name at (length w)) ≡ w) × Located t a (suc (at + length w))
Located t (parts a b) at = Located t a at × Located t b (suc (suc (past a at)))

-- a byte more in front
pushed : (front rest : List ℕ) (c : ℕ) → (front ++ c ∷ rest ≡ (front ++ c ∷ []) ++ rest) × (length (front ++ c ∷ []) ≡ suc (length front))
pushed front rest c = (sym (append_assoc front (c ∷ []) rest), length-append front (c ∷ []) ∙ omega arith)

-- the bytes up to the end of a tree
record Front (t : Tree) (front rest : List ℕ) : Type 0 where
  all : List ℕ
  same : front ++ text t rest ≡ all ++ rest
  size : length all ≡ past t (length front)

-- behind the name and the `<`
inside : (front w rest : List ℕ) → (front ++ (w ++ (60 ∷ rest)) ≡ ((front ++ w) ++ 60 ∷ []) ++ rest) × (length ((front ++ w) ++ 60 ∷ []) ≡ suc (length front + length w))
inside front w rest =
    let p = pushed (front ++ w) rest 60 in
    (sym (append_assoc front w (60 ∷ rest)) ∙ p.0, p.1 ∙ ap suc (length-append front w))

-- behind a parameter and `, `
parted : (front rest : List ℕ) → (front ++ (44 ∷ 32 ∷ rest) ≡ ((front ++ 44 ∷ []) ++ 32 ∷ []) ++ rest) × (length ((front ++ 44 ∷ []) ++ 32 ∷ []) ≡ suc (suc (length front)))
parted front rest =
    let p = pushed front (32 ∷ rest) 44 in
    let q = pushed (front ++ 44 ∷ []) rest 32 in
    (p.0 ∙ q.0, q.1 ∙ ap suc p.1)

front_of : (t : Tree) (front rest : List ℕ) → Front t front rest
front_of (name w) front rest = record { all = front ++ w; same = sym (append_assoc front w rest); size = length-append front w }
front_of (digits n) front rest = record { all = front ++ decimal n; same = sym (append_assoc front (decimal n) rest); size = length-append front (decimal n) }
front_of (list w t) front rest =
    let i = inside front w (text t (62 ∷ rest)) in
    let f = front_of t ((front ++ w) ++ 60 ∷ []) (62 ∷ rest) in
    let p = pushed f.all rest 62 in
    record { all = f.all ++ 62 ∷ []; same = i.0 ∙ (f.same ∙ p.0); size = p.1 ∙ ap suc (f.size ∙ ap (past t) i.1) }
front_of (parts a b) front rest =
    let f = front_of a front (44 ∷ 32 ∷ text b rest) in
    let c = parted f.all (text b rest) in
    let g = front_of b ((f.all ++ 44 ∷ []) ++ 32 ∷ []) rest in
    record { all = g.all; same = f.same ∙ (c.0 ∙ g.same); size = g.size ∙ ap (past b) (c.1 ∙ ap (λ n. suc (suc n)) f.size) }

named_there : (w whole front back : List ℕ) (at : ℕ) → IsName w → Ends back → whole ≡ front ++ (w ++ back) → at ≡ length front → word whole (token k.Name at (length w)) ≡ w
named_there w whole front back at good ends is same =
    ap (λ t. word t (token k.Name at (length w))) is ∙ (ap (λ n. word (front ++ (w ++ back)) (token k.Name n (length w))) same ∙ word_of_name front w back good ends)

pub located : (t : Tree) (whole front back : List ℕ) (at : ℕ) → IsGood t → Ends back → whole ≡ front ++ text t back → at ≡ length front → Located whole t at
located (name w) whole front back at good ends is same = named_there w whole front back at good ends is same
located (digits n) whole front back at good ends is same =
    let d = ascii_number n good in
    ap (λ t. word t (token k.Number at (length (decimal n)))) is
    ∙ (ap (λ m. word (front ++ (decimal n ++ back)) (token k.Number m (length (decimal n)))) same ∙ word_of_number front (decimal n) back d.0 d.1 ends)
located (list w t) whole front back at good ends is same =
    let rest = text t (62 ∷ back) in
    let i = inside front w rest in (
      named_there w whole front (60 ∷ rest) at good.0 (less rest) is same,
      located t whole ((front ++ w) ++ 60 ∷ []) (62 ∷ back) (suc (at + length w)) good.2 (greater back) (is ∙ i.0) (ap (λ n. suc (n + length w)) same ∙ sym i.1),
    )
located (parts a b) whole front back at good ends is same =
    let last = text b back in
    let f = front_of a front (44 ∷ 32 ∷ last) in
    let c = parted f.all last in (
      located a whole front (44 ∷ 32 ∷ last) at good.1 (comma (32 ∷ last)) is same,
      located b whole ((f.all ++ 44 ∷ []) ++ 32 ∷ []) back (suc (suc (past a at))) good.2 ends (is ∙ (f.same ∙ c.0)) (ap (λ n. suc (suc n)) (ap (past a) same ∙ sym f.size) ∙ sym c.1),
    )
