use Rattle.std.proofs.Common.{sym, ◌∙◌}
use Rattle.wgsl_source.proofs.WrittenTypes.{noted}
use Rattle.wgsl_source.proofs.scope.Scope.type_noted.Goals as goal

pub returns-clause-written : goal.returns-clause-written
returns-clause-written c =
    let s = c.args.self.now in
    noted s.text s c.read_all.new.types c.type_of.new.types c.args.events.now c.new-items.result.items c.read_all.new.items.items c.in_ok-item.item c.type_of.result
    c.new-items.ensures.items (sym c.deref.ensures.value ∙ c.in_ok-item.ensures) c.type_of.ensures.grows c.in_ok-read_all.ensures.steps c.type_of.ensures.said
