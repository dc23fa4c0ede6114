use Rattle.std.proofs.Common.{IfOk, ap, subst, ◌∙◌}
use Rattle.wgsl_source.proofs.Common.{AreSaid, names_only, item_names}
use Rattle.wgsl_source.proofs.Items.{all_names}
use Rattle.wgsl_source.specs.WrittenTypes.{environment, meaning_of}
use Rattle.wgsl_source.proofs.scope.Scope.read_qualifiers.Goals as goal

pub returns-clause-qualified : goal.returns-clause-qualified
returns-clause-qualified c =
    let s = c.args.self.now in
    let t = s.text in
    let read =
    all_names t (environment s c.read_all.new.types) c.inner.result.now c.new-items.result.items c.read_all.new.items.items c.new-items.ensures.items c.in_ok-read_all.ensures.steps in
    subst (λ names. IfOk c.qualifiers.result (λ q. AreSaid t (meaning_of s) names q.0 q.1)) (ap item_names c.deref.ensures.value ∙ (read ∙ ap (names_only t) c.inner.ensures)) c.qualifiers.ensures.said
