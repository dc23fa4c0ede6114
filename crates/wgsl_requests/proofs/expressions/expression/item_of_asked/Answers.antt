use Rattle.wgsl_requests.proofs.Common.{◌≡◌, ◌<◌, [], None, Ok, Some, ap, length, refl, subst, sym, arith, common_steps, nil_from_length}
use Rattle.wgsl_requests.specs.expressions.Typing.{LineIs}
use Rattle.wgsl_requests.proofs.Steps.{fails, line_with}
use Rattle.wgsl_requests.proofs.expressions.expression.item_of_asked.Goals as goal

pub returns-then-is_empty : goal.returns-then-is_empty
returns-then-is_empty c =
    let none : c.args.tokens.items ≡ [] = nil_from_length _ (grind (arith, common_steps, c.is_empty.ensures, c.if-is_empty.true)) in
    subst (λ tokens. LineIs c.args.line.now (Ok tokens) (Some None)) (sym none) refl

pub returns-in_err-item_of_some : goal.returns-in_err-item_of_some
returns-in_err-item_of_some c =
    let some : 0 < length c.args.tokens.items = grind (arith, common_steps, c.is_empty.ensures, c.if-is_empty.false) in
    fails _ _ _ _ _ (λ is. line_with _ _ None (λ none. absurd (omega (arith, ap length none, some))) is)
    c.from_residual.ensures.1 c.in_err-item_of_some.ensures

pub returns : goal.returns
returns c =
    let some : 0 < length c.args.tokens.items = grind (arith, common_steps, c.is_empty.ensures, c.if-is_empty.false) in
    line_with _ _ (Some _) (λ none. absurd (omega (arith, ap length none, some))) c.in_ok-item_of_some.ensures
