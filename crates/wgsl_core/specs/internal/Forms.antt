-- The number of layers of a type, and the elements of two types with the same layer.
use Rattle.std.specs.Prelude.{◌≡◌, ℕ, suc}
use Rattle.wgsl_rules.specs.types.Types.{Layer, WgslType, within}

-- the number of arrays, vectors and matrices around the innermost element
abbrev pub layers : WgslType → ℕ
layers (within l t) = suc (layers t)
layers t = 0

-- both types are the same layer, around `e` and around `f`
abbrev pub HaveElements : (t u e f : WgslType) → Type 0
HaveElements t u e f = (l : Layer) × (t ≡ within l e) × (u ≡ within l f)
