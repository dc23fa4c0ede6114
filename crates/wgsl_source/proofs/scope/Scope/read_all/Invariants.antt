use Rattle.std.proofs.Common.{List, drop}
use Rattle.wgsl_source.proofs.Common.{Grows, Types}
use Rattle.wgsl_source.specs.WrittenTypes.{Steps, environment}
use Rattle.wgsl_source.specs.declared.item.Item.{Item}
use Rattle.wgsl_source.proofs.scope.Scope.read_all.Given as goal

abbrev pub invariant-loop-event : goal.invariant-loop-event
invariant-loop-event l = record {
  grows : Grows l.fn.types l.types;
  steps : (later : Types) → Grows l.types later → (new : List Item) → Steps l.self.text (environment l.self later) (drop l.event-index l.fn.events) l.items.items new
      → Steps l.self.text (environment l.self later) l.fn.events l.fn.items.items new;
}
