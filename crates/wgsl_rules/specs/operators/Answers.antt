-- What the operators return for their operands (WGSL, "Logical Expressions" to "Indirection Expression", and "Overload
-- Resolution").
use Rattle.std.specs.Prelude.{◌≡◌, [], ◌∷◌, Option, Some, None, Result, Ok, Err}
use Rattle.wgsl_syntax.specs.declared.operator.BinaryOperator.{BinaryOperator}
use Rattle.wgsl_syntax.specs.declared.operator.UnaryOperator.{UnaryOperator}
use Rattle.wgsl_rules.specs.types.Types.{WgslType}
use Rattle.wgsl_rules.specs.conversion.Conversion.{IsValueType}
use Rattle.wgsl_rules.specs.operators.Candidates.{operator}
use Rattle.wgsl_rules.specs.Headline.{IsLeastCandidate, IsChosenAnswer}
use Rattle.wgsl_rules.specs.operators.Rows.{IsRow}
use Rattle.wgsl_rules.specs.operators.UnaryRows.{IsUnaryRow, unary_refusal}
use Rattle.wgsl_rules.specs.errors.Refusals.{Refusal, binary}

-- a candidate of a binary operator: its operand types and its result type
pub record BinaryCandidate : Type 0 where
  pub lhs : WgslType
  pub rhs : WgslType
  pub result : WgslType

-- the candidate of the row that applies to two operands, or None
abbrev pub HasCandidate : BinaryOperator → WgslType → WgslType → Option BinaryCandidate → Type 0
HasCandidate o a b (Some c) = IsRow o a b c.lhs c.rhs c.result
HasCandidate o a b None = (l r t : WgslType) → ¬ IsRow o a b l r t

-- A binary operator returns the result of the row that applies; else the refusal names it and both operands.
abbrev pub IsOperatorAnswer : BinaryOperator → WgslType → WgslType → Result WgslType Refusal → Type 0
IsOperatorAnswer o a b (Ok t) = (l : WgslType) × (r : WgslType) × IsRow o a b l r t
IsOperatorAnswer o a b (Err e) = (e ≡ binary o a b) × HasCandidate o a b None

-- For value types this is the result of the least candidate; the operator refuses exactly if none takes the operands.
unfoldable pub IsChosenResult : BinaryOperator → WgslType → WgslType → Result WgslType Refusal → Type 0
IsChosenResult o a b (Ok t) = IsValueType a → IsValueType b → IsChosenAnswer (operator o) (a ∷ b ∷ []) (Some t)
IsChosenResult o a b (Err e) = IsValueType a → IsValueType b →
    (e ≡ binary o a b) × IsChosenAnswer (operator o) (a ∷ b ∷ []) None

-- the whole candidate of the row that applies, or the refusal
abbrev pub IsCandidateAnswer : BinaryOperator → WgslType → WgslType → Result BinaryCandidate Refusal → Type 0
IsCandidateAnswer o a b (Ok c) = HasCandidate o a b (Some c)
IsCandidateAnswer o a b (Err e) = (e ≡ binary o a b) × HasCandidate o a b None

-- For value types this is the least candidate.
unfoldable pub IsChosenCandidate : BinaryOperator → WgslType → WgslType → Result BinaryCandidate Refusal → Type 0
IsChosenCandidate o a b (Ok c) = IsValueType a → IsValueType b →
    IsLeastCandidate (operator o) (a ∷ b ∷ []) (c.lhs ∷ c.rhs ∷ []) c.result
IsChosenCandidate o a b (Err e) = IsValueType a → IsValueType b →
    (e ≡ binary o a b) × IsChosenAnswer (operator o) (a ∷ b ∷ []) None

-- A unary operator returns the result of the row that applies, else its refusal.
abbrev pub IsUnaryAnswer : UnaryOperator → WgslType → Result WgslType Refusal → Type 0
IsUnaryAnswer o a (Ok t) = IsUnaryRow o a t
IsUnaryAnswer o a (Err e) = (e ≡ unary_refusal o a) × ((t : WgslType) → ¬ IsUnaryRow o a t)
