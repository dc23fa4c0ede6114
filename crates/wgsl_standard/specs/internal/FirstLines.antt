-- The first line of an overload.
use Rattle.std.specs.Prelude.{ℕ, ◌≡◌, Some, false, slice_get}
use Rattle.wgsl_standard.specs.Callees.{callee_view, overloads_of}
use Rattle.wgsl_standard.specs.Explained.{or_none}
use Rattle.wgsl_standard.specs.Lines.{line_of_overload}
use Rattle.wgsl_standard.specs.declared.signature.Signature.{Signature}

-- the signature of a listed overload has the number of its first line as its index
abbrev pub HasFirstLine : Signature → Type 0
HasFirstLine s = (at : ℕ) × (slice_get (or_none (overloads_of s.callee s.has_template)) at ≡ Some s.overload.now)
    × (s.index ≡ line_of_overload (callee_view s.callee) s.has_template at false)
