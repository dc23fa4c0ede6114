-- Numbers of events, counted from an index on.
use Rattle.std.proofs.Common.{ℕ, zero, suc, ◌+◌}

-- a number of events behind that many others; none behind them are none
abbrev pub behind : ℕ → ℕ → ℕ
behind at zero = 0
behind at (suc n) = at + suc n
