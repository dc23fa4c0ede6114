-- Which operands a candidate takes, with what ranks, and how ranks compare (WGSL, "Overload Resolution").
use Rattle.std.specs.Prelude.{ℕ, List, [], ◌∷◌, ◌≤◌, ◌<◌, ◌⊎◌}
use Rattle.wgsl_rules.specs.types.Types.{WgslType}
use Rattle.wgsl_rules.specs.conversion.Conversion.{Converts}

-- Each type of the first list converts to the one at its position in the second, with the rank there in the third.
abbrev pub HasRanks : List WgslType → List WgslType → List ℕ → Type 0
HasRanks [] [] [] = Unit {0}
HasRanks (t ∷ ts) (u ∷ us) (w ∷ ws) = Converts t u w × HasRanks ts us ws
HasRanks ts us ws = ⊥

-- A candidate with parameters us takes operands of the types ts.
abbrev pub Takes : List WgslType → List WgslType → Type 0
Takes us ts = (ws : List ℕ) × HasRanks ts us ws

-- No rank of the first list is above the one at its position in the second.
abbrev pub IsNowhereMore : List ℕ → List ℕ → Type 0
IsNowhereMore [] [] = Unit {0}
IsNowhereMore (v ∷ vs) (w ∷ ws) = v ≤ w × IsNowhereMore vs ws
IsNowhereMore vs ws = ⊥

-- Some rank of the first list is below the one at its position in the second.
abbrev pub IsSomewhereLess : List ℕ → List ℕ → Type 0
IsSomewhereLess (v ∷ vs) (w ∷ ws) = (v < w) ⊎ IsSomewhereLess vs ws
IsSomewhereLess vs ws = ⊥
