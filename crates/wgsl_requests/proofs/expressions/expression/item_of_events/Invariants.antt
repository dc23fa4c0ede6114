use Rattle.wgsl_requests.proofs.Common.{◌≤◌, ◌-◌, Option, Some, [], drop, length, items_view, scope_view, source_view}
use Rattle.wgsl_requests.specs.expressions.Stack.{Item}
use Rattle.wgsl_requests.specs.expressions.Typing.{Comes}
use Rattle.wgsl_requests.proofs.expressions.expression.item_of_events.Given as goal

-- what comes of all that is noted is what comes of the names and items so far by what is left
abbrev pub invariant-loop-index : goal.invariant-loop-index
invariant-loop-index l = (l.opened ≤ l.index) × (l.index ≤ length l.events)
    × ((r : Option Item) → Comes (source_view l.source) l.opened l.index (Some (scope_view l.scope, items_view l.items.items)) (drop l.index l.events) r
    → Comes (source_view l.source) 0 0 (Some (scope_view l.initial.scope, [])) l.events r)

abbrev pub decreases-loop-index : goal.decreases-loop-index
decreases-loop-index l = length l.events - l.index
