use Rattle.wgsl_replies.proofs.Common.{◌≡◌, ◌≤◌, length, take, view, wrapped}
use Rattle.wgsl_replies.proofs.words.read.wrap.Given as goal

-- the layers that are left around the type so far are all of them around the innermost
abbrev pub invariant-loop-left : goal.invariant-loop-left
invariant-loop-left l = (l.left ≤ length l.layers) × (wrapped l.layers (view l.fn.innermost) ≡ wrapped (take l.left l.layers) (view l.ty))

abbrev pub decreases-loop-left : goal.decreases-loop-left
decreases-loop-left l = l.left
