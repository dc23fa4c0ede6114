use Rattle.std.proofs.Common.{◌≡◌, map}
use Rattle.wgsl_core.proofs.Common.{view, member_view, plain}
use Rattle.wgsl_core.proofs.ty.build.named_members.Given as goal

abbrev pub invariant-loop-name : goal.invariant-loop-name
invariant-loop-name l = map member_view l.members.items ≡ map (λ m. plain m.0.now (view m.1)) l.yielded
