-- Types on their lines.
use Rattle.std.specs.Prelude.{◌≡◌, ◌∷◌, ◌++◌, [], ℕ, zero, suc, List, Option, Some, option_map}
use Rattle.wgsl_rules.specs.types.Types.{WgslType}
use Rattle.wgsl_core.specs.View.{view}
use Rattle.wgsl_core.specs.Converted.{converted, paired_has_type}
use Rattle.wgsl_types.specs.declared.typed.Typed.{Typed}

-- what was converted stays on its line
abbrev pub on_line : ℕ → Option WgslType → Option (WgslType × ℕ)
on_line line o = option_map (λ t. (t, line)) o

-- a type and its line, without the memory that they lie in
abbrev pub typed : Typed → WgslType × ℕ
typed x = (view x.ty, x.line)

-- a type converted to t, on its line; none if it doesn't convert
abbrev pub typed_to : Typed → WgslType → Option (WgslType × ℕ)
typed_to x t = on_line x.line (converted (view x.ty) t)

-- a value that is converted to a type has that type
pub typed_has_type : (x : Typed) (t : WgslType) (y : Typed) → typed_to x t ≡ Some (typed y) → view y.ty ≡ t
typed_has_type x t y h = paired_has_type x.line y.line x.ty y.ty t h

-- 1, 2, .. up to a number
abbrev pub numbers_to : ℕ → List ℕ
numbers_to zero = []
numbers_to (suc n) = numbers_to n ++ suc n ∷ []
