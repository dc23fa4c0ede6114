-- The placements in memory that the alignments of a struct's members allow (WGSL, "Structure Member Layout").
use Rattle.std.specs.Prelude.{ℕ, ◌+◌, ◌≤◌, max, List, [], ◌∷◌, map}
use Rattle.std.specs.Int.{◌∣◌}

-- the size and the alignment of a member
pub record MemberLayout : Type 0 where
  pub size : ℕ
  pub align : ℕ

-- Each member's offset is a multiple of its alignment and not below the end of the previous member (for the first, not
-- below `start`); the total is not below the end of the last.
abbrev pub AreLaid : ℕ → List MemberLayout → List ℕ → ℕ → Type 0
AreLaid start [] [] total = start ≤ total
AreLaid start (layout ∷ layouts) (offset ∷ offsets) total = (layout.align ∣ offset) × (start ≤ offset) × AreLaid (offset + layout.size) layouts offsets total
AreLaid start layouts offsets total = ⊥

-- the greatest of the numbers, 0 for an empty list
abbrev pub greatest : List ℕ → ℕ
greatest [] = 0
greatest (n ∷ ns) = max n (greatest ns)

abbrev pub greatest_align : List MemberLayout → ℕ
greatest_align layouts = greatest (map (λ layout. layout.align) layouts)

-- one offset per member, and a total that is a multiple of the greatest alignment
abbrev pub IsPlacement : List MemberLayout → List ℕ → ℕ → Type 0
IsPlacement layouts offsets total = AreLaid 0 layouts offsets total × (greatest_align layouts ∣ total)

-- some placement has this total, and none has a smaller one
abbrev pub IsLeastTotal : List MemberLayout → ℕ → Type 0
IsLeastTotal layouts total = ((offsets : List ℕ) × IsPlacement layouts offsets total) × ((others : List ℕ) (more : ℕ) → IsPlacement layouts others more → total ≤ more)
