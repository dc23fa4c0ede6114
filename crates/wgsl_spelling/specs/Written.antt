-- The types that a text can spell: those without a struct, whose sides are two to four, and whose counts have 63 bits.
use Rattle.std.specs.Prelude.{ℕ, suc, ◌<◌, ◌≤◌, ◌^◌, Option, Some, None}
use Rattle.wgsl_rules.specs.types.Types.{WgslType, struct, atomic, pointer, reference, binding_array, array, vec, mat}

abbrev pub IsSide : ℕ → Type 0
IsSide n = (2 ≤ n) × (n ≤ 4)

abbrev pub IsCount : Option ℕ → Type 0
IsCount None = Unit {0}
IsCount (Some n) = n < 2 ^ 63

abbrev pub IsWritable : WgslType → Type 0
IsWritable (array n t) = IsCount n × IsWritable t
IsWritable (vec n t) = IsSide n × IsWritable t
IsWritable (mat c r t) = (IsSide c × IsSide r) × IsWritable t
IsWritable (struct name ms) = ⊥
IsWritable (atomic t) = IsWritable t
IsWritable (pointer s t m) = IsWritable t
IsWritable (reference s t m) = IsWritable t
IsWritable (binding_array n t) = IsCount n × IsWritable t
IsWritable t = Unit {0}

-- how many layers a type has
abbrev pub layers : WgslType → ℕ
layers (array n t) = suc (layers t)
layers (vec n t) = suc (layers t)
layers (mat c r t) = suc (layers t)
layers (atomic t) = suc (layers t)
layers (pointer s t m) = suc (layers t)
layers (reference s t m) = suc (layers t)
layers (binding_array n t) = suc (layers t)
layers t = 0
