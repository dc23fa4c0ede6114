use Rattle.std.proofs.Common.{◌≡◌, ◌↔◌, drop}
use Rattle.wgsl_core.specs.internal.View.{members_view}
use Rattle.wgsl_core.proofs.ty.eq.+same.Given as goal

abbrev pub invariant-same_members-loop-i : goal.invariant-same_members-loop-i
invariant-same_members-loop-i l =
    (members_view (drop l.i l.a.items) ≡ members_view (drop l.i l.b.items)) ↔ (members_view l.a.items ≡ members_view l.b.items)
