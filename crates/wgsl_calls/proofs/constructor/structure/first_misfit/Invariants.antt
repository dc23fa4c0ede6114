use Rattle.std.proofs.Common.{◌≡◌, length, map, Option}
use Rattle.wgsl_calls.proofs.Common.{WgslType, view, members_view, IsMisfitAt}
use Rattle.wgsl_calls.proofs.constructor.structure.first_misfit.Given as goal

abbrev pub invariant-loop-member : goal.invariant-loop-member
invariant-loop-member l =
    length l.members ≡ length l.args →
    (length l.member-iterator.a.rest.now ≡ length l.member-iterator.b.rest.now)
    × ((r : Option (WgslType × WgslType)) →
    IsMisfitAt (members_view l.member-iterator.a.rest.now) (map view l.member-iterator.b.rest.now) r → IsMisfitAt (members_view l.members) (map view l.args) r)
