use Rattle.wgsl_requests.proofs.Common.{◌≡◌, ◌≤◌, length, map, reverse, take, find, declared_view, scope_view}
use Rattle.wgsl_requests.proofs.expressions.scope.Scope.find.Given as goal

-- the name isn't behind those that are left
abbrev pub invariant-loop-left : goal.invariant-loop-left
invariant-loop-left l = (l.left ≤ length (l.self).declared.items) × (find l.name (scope_view l.self) ≡ find l.name (map declared_view (reverse (take l.left (l.self).declared.items))))

abbrev pub decreases-loop-left : goal.decreases-loop-left
decreases-loop-left l = l.left
