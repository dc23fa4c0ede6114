use Rattle.std.proofs.Common.{◌≡◌, ◌+◌, ◌≤◌, ◌-◌, drop, length, map}
use Rattle.wgsl_reader.proofs.Common.{declaration_len, rest_len, kind_of}
use Rattle.wgsl_reader.proofs.module.declaration_len.Given as goal

-- the length is what is counted so far, and what the tokens that are left add
abbrev pub invariant-loop-at : goal.invariant-loop-at
invariant-loop-at l = (1 ≤ l.at) × (l.at ≤ length l.tokens) × (l.braces ≤ l.at)
    × (declaration_len (map kind_of l.tokens) ≡ l.at + rest_len l.braces l.in_attributes l.behind (map kind_of (drop l.at l.tokens)))

abbrev pub decreases-loop-at : goal.decreases-loop-at
decreases-loop-at l = length l.tokens - l.at
