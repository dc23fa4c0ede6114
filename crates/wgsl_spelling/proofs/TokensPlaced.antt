-- Which tokens stand in front of the events of a tree.
use Rattle.std.proofs.Common.{◌≡◌, ◌+◌, ◌-◌, ◌++◌, ℕ, suc, List, [], ◌∷◌, decimal, length, length-append, refl, sym, ap, ◌∙◌, arith, slice_index_or, append_assoc}
use Rattle.wgsl_reader.specs.declared.kind.Kind.TheVariants as k
use Rattle.wgsl_spelling.proofs.Common.{Token, no_token, token_before}
use Rattle.wgsl_spelling.proofs.Listed.{listed}
use Rattle.wgsl_spelling.proofs.TreeEvents.{count}
use Rattle.wgsl_spelling.proofs.Trees.{Tree, digits, list, name, parts, past, token}

-- the names, the numbers and the `<` of a tree that stands behind n tokens
abbrev pub Placed : List Token → Tree → ℕ → ℕ → Type 0
Placed ts (name w) n at = token_before ts (n + 1) ≡ token k.Name at (length w)
Placed ts (digits d) n at = token_before ts (n + 1) ≡ token k.Number at (length (decimal d))
Placed ts (list w t) n at =
    (token_before ts (n + 1) ≡ token k.Name at (length w)) × (token_before ts (n + 1 + 1) ≡ token k.OpenTemplate (at + length w) 1) × Placed ts t (n + 1 + 1) (suc (at + length w))
Placed ts (parts a b) n at = Placed ts a n at × Placed ts b (count a n + 1) (suc (suc (past a at)))

index_at : (before : List Token) (x : Token) (after : List Token) → slice_index_or (before ++ x ∷ after) (length before) no_token ≡ x
index_at [] x after = refl
index_at (y ∷ before) x after = index_at before x after

there : (whole before after : List Token) (x : Token) (n : ℕ) → whole ≡ before ++ x ∷ after → n ≡ length before → token_before whole (n + 1) ≡ x
there whole before after x n is same =
    let place : n + 1 - 1 ≡ n = omega arith in
    ap (λ i. slice_index_or whole i no_token) (place ∙ same) ∙ (ap (λ ts. slice_index_or ts (length before) no_token) is ∙ index_at before x after)

pushed : (before rest : List Token) (x : Token) → (before ++ x ∷ rest ≡ (before ++ x ∷ []) ++ rest) × (length (before ++ x ∷ []) ≡ length before + 1)
pushed before rest x = (sym (append_assoc before (x ∷ []) rest), length-append before (x ∷ []))

record Front (t : Tree) (at : ℕ) (before rest : List Token) : Type 0 where
  all : List Token
  same : before ++ listed t at rest ≡ all ++ rest
  size : length all ≡ count t (length before)

inside : (before rest : List Token) (x y : Token) → (before ++ x ∷ y ∷ rest ≡ ((before ++ x ∷ []) ++ y ∷ []) ++ rest) × (length ((before ++ x ∷ []) ++ y ∷ []) ≡ length before + 1 + 1)
inside before rest x y =
    let p = pushed before (y ∷ rest) x in
    let q = pushed (before ++ x ∷ []) rest y in
    (p.0 ∙ q.0, q.1 ∙ ap (λ n. n + 1) p.1)

front_of : (t : Tree) (at : ℕ) (before rest : List Token) → Front t at before rest
front_of (name w) at before rest = let p = pushed before rest (token k.Name at (length w)) in record { all = before ++ token k.Name at (length w) ∷ []; same = p.0; size = p.1 }
front_of (digits d) at before rest = let p = pushed before rest (token k.Number at (length (decimal d))) in record { all = before ++ token k.Number at (length (decimal d)) ∷ []; same = p.0; size = p.1 }
front_of (list w t) at before rest =
    let from = suc (at + length w) in
    let x = token k.Name at (length w) in
    let y = token k.OpenTemplate (at + length w) 1 in
    let z = token k.CloseTemplate (past t from) 1 in
    let i = inside before (listed t from (z ∷ rest)) x y in
    let f = front_of t from ((before ++ x ∷ []) ++ y ∷ []) (z ∷ rest) in
    let p = pushed f.all rest z in
    record { all = f.all ++ z ∷ []; same = i.0 ∙ (f.same ∙ p.0); size = p.1 ∙ ap (λ n. n + 1) (f.size ∙ ap (count t) i.1) }
front_of (parts a b) at before rest =
    let c = token k.Comma (past a at) 1 in
    let last = listed b (suc (suc (past a at))) rest in
    let f = front_of a at before (c ∷ last) in
    let q = pushed f.all last c in
    let g = front_of b (suc (suc (past a at))) (f.all ++ c ∷ []) rest in
    record { all = g.all; same = f.same ∙ (q.0 ∙ g.same); size = g.size ∙ ap (count b) (q.1 ∙ ap (λ n. n + 1) f.size) }

pub placed : (t : Tree) (whole before rest : List Token) (n at : ℕ) → whole ≡ before ++ listed t at rest → n ≡ length before → Placed whole t n at
placed (name w) whole before rest n at is same = there whole before rest _ n is same
placed (digits d) whole before rest n at is same = there whole before rest _ n is same
placed (list w t) whole before rest n at is same =
    let from = suc (at + length w) in
    let x = token k.Name at (length w) in
    let y = token k.OpenTemplate (at + length w) 1 in
    let others = listed t from (token k.CloseTemplate (past t from) 1 ∷ rest) in
    let p = pushed before (y ∷ others) x in
    let i = inside before others x y in (
      there whole before (y ∷ others) x n is same,
      there whole (before ++ x ∷ []) others y (n + 1) (is ∙ p.0) (ap (λ m. m + 1) same ∙ sym p.1),
      placed t whole ((before ++ x ∷ []) ++ y ∷ []) (token k.CloseTemplate (past t from) 1 ∷ rest) (n + 1 + 1) from (is ∙ i.0) (ap (λ m. m + 1 + 1) same ∙ sym i.1),
    )
placed (parts a b) whole before rest n at is same =
    let c = token k.Comma (past a at) 1 in
    let last = listed b (suc (suc (past a at))) rest in
    let f = front_of a at before (c ∷ last) in
    let q = pushed f.all last c in (
      placed a whole before (c ∷ last) n at is same,
      placed b whole (f.all ++ c ∷ []) rest (count a n + 1) (suc (suc (past a at))) (is ∙ (f.same ∙ q.0)) (ap (λ m. m + 1) (ap (count a) same ∙ sym f.size) ∙ sym q.1),
    )
