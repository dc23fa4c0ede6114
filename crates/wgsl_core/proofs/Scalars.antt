-- The scalar of a type.
use Rattle.std.proofs.Common.{◌≡◌, ◌↔◌, Some, ap}
use Rattle.wgsl_core.proofs.Common.{Scalar, WgslType, scalar, scalar_of}

pub scalar_is : (t : WgslType) (s : Scalar) → (scalar_of t ≡ Some s) ↔ (t ≡ scalar s)
scalar_is t s = (to t, λ e. ap scalar_of e)
  where
    to : (t : WgslType) → scalar_of t ≡ Some s → t ≡ scalar s
    to (scalar r) e = ap scalar (cc e)
    to t e = absurd (cc e)
