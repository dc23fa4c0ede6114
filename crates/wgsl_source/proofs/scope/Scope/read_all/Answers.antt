use Rattle.std.proofs.Common.{refl, subst, sym}
use Rattle.wgsl_source.proofs.Common.{at_drop_all}
use Rattle.wgsl_source.proofs.Members.{grows_further, grows_same}
use Rattle.wgsl_source.proofs.WrittenTypes.{all_steps}
use Rattle.wgsl_source.specs.WrittenTypes.{Steps, environment}
use Rattle.wgsl_source.proofs.scope.Scope.read_all.Goals as goal

pub loop-event-preserved : goal.loop-event-preserved
loop-event-preserved c =
    let l = c.loop-event in
    let s = c.args.self.now in
    record {
      grows = grows_further c.args.types.now l.types c.step.new.types l.invariant.grows c.step.ensures.grows;
      steps = λ later g new rest. l.invariant.steps later (grows_further l.types c.step.new.types later c.step.ensures.grows g) new
          (all_steps s.text s c.step.new.types later c.args.events.now l.event-index _ l.items.items c.step.new.items.items new c.loop-event-test.true g c.in_ok-step.ensures.step rest);
    }

pub returns-clause-steps : goal.returns-clause-steps
returns-clause-steps c =
    let l = c.loop-event in
    let s = c.args.self.now in
    l.invariant.steps l.types (grows_same l.types) l.items.items
    (subst (λ es. Steps s.text (environment s l.types) es l.items.items l.items.items) (sym (at_drop_all (λ es. es) c.args.events.now l.event-index c.loop-event-test.false)) refl)
