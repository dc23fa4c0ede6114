use Rattle.std.proofs.Common.{◌≡◌, ◌∙◌, true, ap, subst, sym}
use Rattle.wgsl_module.specs.Noted.{DoesIf}
use Rattle.wgsl_module.specs.States.{State, state}
use Rattle.wgsl_module.proofs.Source.{context_kept}
use Rattle.wgsl_module.proofs.checker.Checker.step.Goals as goal
use Rattle.wgsl_typing.specs.Names.{Context}
use Rattle.wgsl_typing.specs.Stacks.{stack}
use Rattle.wgsl_typing.specs.Steps.{StepIf, is_of_expressions}

pub returns-then-branch : goal.returns-then-branch
returns-then-branch c =
    let s = state c.args.self.now in
    let r = stack c.step.new.self in
    let yes : is_of_expressions c.args.word c.args.event.mark ≡ true = sym c.in_ok-step.ensures.answer ∙ c.if-branch.true in
    let did = subst (λ b. StepIf b c.args.event.mark c.args.event.at s.stack r) c.in_ok-step.ensures.answer c.in_ok-step.ensures.step in
    let kept = context_kept c.args.word c.args.event.mark c.args.event.at s.stack r did in
    let behind : Context → State = λ k. record s { stack = record r { context = k } } in record {
      event = subst (λ b. DoesIf b c.args.word c.args.event.mark c.args.event.at s (behind r.context)) (sym yes)
          (subst (λ b. StepIf b c.args.event.mark c.args.event.at s.stack r) yes did, ap behind kept);
      source = ap (λ k. (k.text, k.tokens, s.declarations)) kept;
    }
