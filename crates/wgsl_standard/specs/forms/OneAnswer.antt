-- Each form has exactly one answer. Most answers are functions of the operands, which says so; these are the others.
use Rattle.std.specs.Prelude.{◌≡◌, List, Option, Result}
use Rattle.wgsl_standard.specs.forms.Prelude.{BinaryOperator, WgslType, Operand}
use Rattle.wgsl_standard.specs.forms.Array.{IsInferredArray}
use Rattle.wgsl_standard.specs.forms.Assign.{IsAssigned}
use Rattle.wgsl_standard.specs.forms.Refusals.{Refusal}

abbrev pub HasOneAnswer : (Result WgslType Refusal → Type 0) → Type 0
HasOneAnswer Answers = (r : Result WgslType Refusal) × Answers r × ((s : Result WgslType Refusal) → Answers s → s ≡ r)

-- `x += y` writes one type, or has one refusal
abbrev pub AssignmentsHaveOneAnswer : Type 0
AssignmentsHaveOneAnswer = (o : Option BinaryOperator) (x : WgslType) (y : Operand) → HasOneAnswer (IsAssigned o x y)

-- `array(x, y)` has one type, or one refusal
abbrev pub ArraysHaveOneAnswer : Type 0
ArraysHaveOneAnswer = (xs : List WgslType) → HasOneAnswer (IsInferredArray xs)
