-- What is known of an expression, as the forms and the overloads see it.
use Rattle.std.specs.Prelude.{Bool, Option, Some, None}
use Rattle.wgsl_core.specs.View.{view}
use Rattle.wgsl_rules.specs.standard.Choice.{Operand}
use Rattle.wgsl_typing.specs.Stages.{is_const}
use Rattle.wgsl_typing.specs.declared.known.Outcome.{Outcome}
use Rattle.wgsl_typing.specs.declared.known.Outcome.TheVariants as outcomes
use Rattle.wgsl_typing.specs.declared.known.Typed.{Typed}

-- an operand of that type, which is a const-expression or not
abbrev pub operand_where : (Typed → Bool) → Typed → Operand
operand_where is_constant x = record { of_type = view x.ty; is_constant = is_constant x }

abbrev pub operand : Typed → Operand
operand x = operand_where (λ x. is_const x.stage) x

abbrev pub typed_in : Outcome → Option Typed
typed_in (outcomes.Typed x) = Some x
typed_in other = None
