use Rattle.std.proofs.Common.{◌≡◌, ◌++◌, ◌+◌, length}
use Rattle.wgsl_typing.specs.Stacks.{stack}
use Rattle.wgsl_typing.specs.Taken.{below_list, in_list}
use Rattle.wgsl_typing.proofs.expressions.Expressions.take_list.Given as goal

-- the items that are taken and those that are left are those of the list, what stands below it stays, and there are as many turns as items
abbrev pub invariant-loop : goal.invariant-loop
invariant-loop l = (l.list.items ++ in_list (stack l.self).items ≡ in_list (stack l.fn.self).items)
    × (below_list (stack l.self).items ≡ below_list (stack l.fn.self).items)
    × ((stack l.self).parts ≡ (stack l.fn.self).parts)
    × ((stack l.self).context ≡ (stack l.fn.self).context)
    × (length l.self.items.items + l.counter ≡ l.end)
