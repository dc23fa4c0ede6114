-- A struct has at most one layout: offsets, sizes and alignments of its members, and its own size and alignment.
use Rattle.std.proofs.Common.{◌≡◌, ℕ, ◌+◌, ◌≤◌, zero, suc, List, [], ◌∷◌, get_or, refl, sym, ap, subst, ◌∙◌, arith}
use Rattle.wgsl_rules.proofs.Common.{RuleSet, Members, struct, MemberLayout, AreLaid, IsPlacement, AreOffsetsBy, IsStructLayoutBy}
use Rattle.wgsl_rules.proofs.layout.OneSize.{one_size, one_align, one_layouts}

same_offsets : (ls : List MemberLayout) (xs ys : List ℕ) (d e m n : ℕ) → AreLaid d ls xs m → AreLaid e ls ys n → ((k : ℕ) → get_or xs k 0 ≤ get_or ys k 0)
    → ((k : ℕ) → get_or ys k 0 ≤ get_or xs k 0) → xs ≡ ys
same_offsets [] [] [] d e m n p q up down = refl
same_offsets [] [] (y ∷ ys) d e m n p q up down = absurd q
same_offsets [] (x ∷ xs) ys d e m n p q up down = absurd p
same_offsets (l ∷ ls) [] ys d e m n p q up down = absurd p
same_offsets (l ∷ ls) (x ∷ xs) [] d e m n p q up down = absurd q
same_offsets (l ∷ ls) (x ∷ xs) (y ∷ ys) d e m n p q up down =
    let low : x ≤ y = up zero in
    let high : y ≤ x = down zero in
    let first : x ≡ y = omega arith in
    ap (λ z. z ∷ xs) first
    ∙ ap (λ zs. y ∷ zs) (same_offsets ls xs ys (x + l.size) (y + l.size) m n p.2 q.2 (λ k. up (suc k)) (λ k. down (suc k)))

pub offsets_once : (rules : RuleSet) (ms : Members) (xs ys : List ℕ) → AreOffsetsBy rules ms xs → AreOffsetsBy rules ms ys → xs ≡ ys
offsets_once rules ms xs ys a b =
    let same : b.sized.layouts ≡ a.sized.layouts = one_layouts rules ms b.sized.layouts a.sized.layouts b.sized.known a.sized.known in
    let here : IsPlacement a.sized.layouts ys b.total = subst (λ ls. IsPlacement ls ys b.total) same b.placed in
    let up : (k : ℕ) → get_or xs k 0 ≤ get_or ys k 0 = a.least ys b.total here in
    let down : (k : ℕ) → get_or ys k 0 ≤ get_or xs k 0 = b.least xs a.total (subst (λ ls. IsPlacement ls xs a.total) (sym same) a.placed) in
    same_offsets a.sized.layouts xs ys 0 0 a.total b.total a.placed.0 here.0 up down

-- the same layout
pub record IsSameLayout (ls ks : List MemberLayout) (xs ys : List ℕ) (m n a b : ℕ) : Type 0 where
  pub members : ls ≡ ks
  pub offsets : xs ≡ ys
  pub size : m ≡ n
  pub align : a ≡ b

pub layout_once : (rules : RuleSet) (ms : Members) (ls ks : List MemberLayout) (xs ys : List ℕ) (m n a b : ℕ) → IsStructLayoutBy rules ms ls xs m a → IsStructLayoutBy rules ms ks ys n b
    → IsSameLayout ls ks xs ys m n a b
layout_once rules ms ls ks xs ys m n a b h k = record {
  members = one_layouts rules ms ls ks h.members k.members;
  offsets = offsets_once rules ms xs ys h.placed k.placed;
  size = one_size rules (struct [] ms) m n h.sized k.sized;
  align = one_align rules (struct [] ms) a b h.aligned k.aligned;
}
