use Rattle.std.proofs.Common.{◌≡◌, drop}
use Rattle.wgsl_constants.specs.Literals.{behind, number}
use Rattle.wgsl_constants.proofs.literal.number.Given as goal

-- the digits that are left, behind the number so far, give the whole number
abbrev pub invariant-loop-digit : goal.invariant-loop-digit
invariant-loop-digit l = number l.fn.base l.fn.digits ≡ behind l.fn.base l.value (drop l.digit-index l.fn.digits)
