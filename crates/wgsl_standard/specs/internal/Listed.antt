-- How the parameters of an overload are listed.
use Rattle.std.specs.Prelude.{ℕ, ◌<◌, ◌≡◌, List, length, min, option_map, slice_get}
use Rattle.std.specs.Borrow.{Bor}
use Rattle.wgsl_syntax.specs.declared.overload.Pattern.{Pattern}

-- the first seven parameters; behind them the last stands for all
abbrev pub AreListed : List Pattern → List (Bor Pattern) → Type 0
AreListed ps qs = (i : ℕ) → i < length ps → slice_get ps i ≡ option_map (λ q. q.now) (slice_get qs (min i 6))
