use Rattle.std.proofs.Common.{◌≤◌, ◌∙◌, ap, arith, length, subst, sym}
use Rattle.wgsl_standard.proofs.Common.{length-map, length-replicate, in_order, bind_first, bind_if, operand_view, operands_view}
use Rattle.wgsl_standard.proofs.Lengths.{same_first, then_same_first}
use Rattle.wgsl_standard.proofs.fitting.bind_each.Goals as goal

pub returns-in-Times-default : goal.returns-in-Times-default
returns-in-Times-default c =
    let few = subst (λ q. length c.args.operands.now ≤ length (in_order q)) c.in-Times-default.is-0 c.requires in
    c.bind_same.ensures ∙ same_first c.args.concrete c.args.binding.now c.in-Times-default.a c.in-Times-default.field-0-0 (operands_view c.args.operands.now)
    (omega (arith, few, length-map c.args.operands.now operand_view, length-replicate c.in-Times-default.field-0-0 c.in-Times-default.a))
    ∙ ap (λ q. bind_first c.args.concrete c.args.binding.now (in_order q) (operands_view c.args.operands.now)) (sym c.in-Times-default.is-0)

pub returns-then-bind-4 : goal.returns-then-bind-4
returns-then-bind-4 c =
    let few = subst (λ q. length c.args.operands.now ≤ length (in_order q)) c.in-AndTimes-len1-up.is-0 c.requires in
    let first = ap (λ y. bind_if y c.bind-in-AndTimes-len1-up.new.binding) (sym c.if-bind-4.true) ∙ c.bind-in-AndTimes-len1-up.ensures in
    then_same_first c.args.concrete c.args.binding.now c.bind-in-AndTimes-len1-up.new.binding c.in-AndTimes-len1-up.a c.in-AndTimes-len1-up.b c.in-AndTimes-len1-up.field-1-0 c.args.operands.now c.x-item-in-AndTimes-1.result _
    (omega (arith, c.in-AndTimes-len1-up.len_at_least)) (omega (arith, few, length-replicate c.in-AndTimes-len1-up.field-1-0 c.in-AndTimes-len1-up.b))
    first c.x-item-in-AndTimes-1.is c.bind_same-then-bind-4.ensures
    ∙ ap (λ q. bind_first c.args.concrete c.args.binding.now (in_order q) (operands_view c.args.operands.now)) (sym c.in-AndTimes-len1-up.is-0)
