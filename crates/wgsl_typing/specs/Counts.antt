-- How many elements an array has (WGSL, "Array Types").
use Rattle.std.specs.Prelude.{◌≡◌, ℕ, ◌≤◌, ℤ, pos, negsuc, Bool, true, false, ◌&&◌, Option, Some, None, Result, Ok, cond, nat_le, nat_lt, not}
use Rattle.wgsl_core.specs.View.{view}
use Rattle.wgsl_rules.specs.errors.Refusals.{not_constructible}
use Rattle.wgsl_rules.specs.types.Types.{WgslType, array}
use Rattle.wgsl_constants.specs.Conversions.{number}
use Rattle.wgsl_constants.specs.Literals.{then}
use Rattle.wgsl_constants.specs.declared.constant.Constant.TheVariants as constants
use Rattle.wgsl_constants.specs.declared.integer.Integer.{Integer}
use Rattle.wgsl_standard.specs.forms.Index.{is_index}
use Rattle.wgsl_standard.specs.forms.Questions.{asks}
use Rattle.wgsl_standard.specs.forms.Refusals.{Refusal, error}
use Rattle.wgsl_typing.specs.declared.known.Typed.{Typed}
use Rattle.wgsl_typing.specs.declared.stage.Stage.{Stage}
use Rattle.wgsl_typing.specs.declared.stage.Stage.TheVariants as stages
use Rattle.wgsl_typing.specs.declared.value.Value.{Value}
use Rattle.wgsl_typing.specs.declared.value.Value.TheVariants.{One}
use Rattle.wgsl_typing.specs.declared.list.TheConstants.{OVERRIDE_COUNT}

-- Counts by overrides

-- An array whose elements an override counts: in a type a number from OVERRIDE_COUNT on stands for the count.
abbrev pub is_counted_by_override : WgslType → Bool
is_counted_by_override (array (Some n) t) = nat_le OVERRIDE_COUNT n
is_counted_by_override t = false

-- It isn't constructible, so `array(x, y)` has no such elements.
abbrev pub unless_counted : Result WgslType Refusal → Result WgslType Refusal
unless_counted (Ok (array n t)) = asks (not (is_counted_by_override t)) (error (not_constructible t)) (Ok (array n t))
unless_counted answer = answer

-- What an expression counts

abbrev pub integer_in : Option Value → Option Integer
integer_in (Some (One (constants.Integer n))) = Some n
integer_in value = None

-- A count is positive. An array of OVERRIDE_COUNT elements has more bytes than any may have.
abbrev pub count_of : ℤ → Option ℕ
count_of (pos n) = cond (nat_lt 0 n && nat_lt n OVERRIDE_COUNT) (Some n) None
count_of (negsuc n) = None

abbrev pub const_count : Option Integer → Option ℕ
const_count n = then n (λ n. count_of (number n))

abbrev pub IsOverrideCount : Option ℕ → Type 0
IsOverrideCount None = ⊥
IsOverrideCount (Some n) = OVERRIDE_COUNT ≤ n

-- `4`, an override, or what is known only where the shader runs
abbrev pub IsCountAt : Stage → Option Value → Option ℕ → Type 0
IsCountAt stages.Const value count = count ≡ const_count (integer_in value)
IsCountAt stages.Override value count = IsOverrideCount count
IsCountAt stages.Runtime value count = count ≡ None

abbrev pub IsCountIf : Bool → Typed → Option ℕ → Type 0
IsCountIf true x count = IsCountAt x.stage x.value count
IsCountIf false x count = count ≡ None

-- the count that an expression is: an integer that is known before the shader runs
abbrev pub IsCountOf : Option Typed → Option ℕ → Type 0
IsCountOf None count = count ≡ None
IsCountOf (Some x) count = IsCountIf (is_index (view x.ty)) x count
