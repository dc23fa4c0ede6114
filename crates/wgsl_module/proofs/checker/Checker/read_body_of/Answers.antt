use Rattle.std.proofs.Common.{subst, sym}
use Rattle.wgsl_module.specs.Runs.{EndsBody}
use Rattle.wgsl_module.specs.States.{state}
use Rattle.wgsl_module.proofs.checker.Checker.read_body_of.Goals as goal

pub returns-clause-run : goal.returns-clause-run
returns-clause-run c = (
  state c.begin_body.new.self,
  state c.steps.new.self,
  c.in_ok-begin_body.ensures.body,
  c.in_ok-steps.ensures.events,
  subst (EndsBody (state c.steps.new.self)) (sym c.keep_doing.ensures) c.in_ok-end_body.ensures,
)
