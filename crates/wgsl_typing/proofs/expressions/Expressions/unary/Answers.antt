use Rattle.std.proofs.Common.{[], ◌∷◌, IfOk, None, subst, sym, Result}
use Rattle.wgsl_typing.proofs.Common.{AllocError, Outcome, Typed, a_unary, IsOverloaded, IsUnary, loaded}
use Rattle.wgsl_syntax.specs.declared.operator.UnaryOperator.{UnaryOperator}
use Rattle.wgsl_typing.proofs.expressions.Expressions.unary.Goals as goal

-- what the overloads make of an operator is what it makes
abbrev Makes : Result Outcome AllocError → Typed → UnaryOperator → Type 0
Makes r x u = IfOk r (IsOverloaded (a_unary u) None (loaded x ∷ []) x.stage) → IfOk r (IsUnary u x)

pub returns-in-LogicalNegation-clause-answer : goal.returns-in-LogicalNegation-clause-answer
returns-in-LogicalNegation-clause-answer c =
    subst (Makes c.unary_overloaded.result c.args.x.now) (sym c.in-LogicalNegation.is) (λ h. h) c.unary_overloaded.ensures.answer

pub returns-in-Negation-clause-answer : goal.returns-in-Negation-clause-answer
returns-in-Negation-clause-answer c =
    subst (Makes c.unary_overloaded-in-Negation.result c.args.x.now) (sym c.in-Negation.is) (λ h. h) c.unary_overloaded-in-Negation.ensures.answer

pub returns-in-BitwiseComplement-clause-answer : goal.returns-in-BitwiseComplement-clause-answer
returns-in-BitwiseComplement-clause-answer c =
    subst (Makes c.unary_overloaded-in-BitwiseComplement.result c.args.x.now) (sym c.in-BitwiseComplement.is) (λ h. h) c.unary_overloaded-in-BitwiseComplement.ensures.answer
