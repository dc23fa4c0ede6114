use Rattle.std.proofs.Common.{◌≡◌, ◌≢◌, [], Some, length, slice_get}
use Rattle.wgsl_module.specs.Order.{leads_from}
use Rattle.wgsl_module.specs.declared.walk.State.TheVariants.{Unseen}
use Rattle.wgsl_module.proofs.Walked.{Kept, work}
use Rattle.wgsl_module.proofs.checker.Checker.walk.Given as goal

-- those that are done are in order, among them all in front of the root
abbrev pub invariant-loop-root : goal.invariant-loop-root
invariant-loop-root l = Kept (leads_from l.self l.link) l.from l.root l.order × (l.order.stack.items ≡ []) × (length l.order.states.items ≡ length l.self.declarations.items)

-- so are they while more are followed
abbrev pub invariant-loop-index : goal.invariant-loop-index
invariant-loop-index l = Kept (leads_from l.self l.link) l.from l.root l.order × (slice_get l.order.states.items l.root ≢ Some Unseen)
    × (length l.order.states.items ≡ length l.self.declarations.items)

abbrev pub decreases-loop-index : goal.decreases-loop-index
decreases-loop-index l = work (leads_from l.self l.link) l.order
