use Rattle.std.proofs.Common.{sym, ◌∙◌}
use Rattle.wgsl_source.proofs.WrittenTypes.{value_made}
use Rattle.wgsl_source.proofs.scope.Scope.value_noted.Goals as goal

pub returns : goal.returns
returns c =
    let s = c.args.self.now in
    value_made s.text s c.read_all.new.types c.args.events.now c.new-items.result.items c.read_all.new.items.items c.in_ok-item.item c.in_ok-value_of.field-0
    c.new-items.ensures.items (sym c.deref.ensures.value ∙ c.in_ok-item.ensures) c.in_ok-read_all.ensures.steps c.in_ok-value_of.ensures
