use Rattle.std.proofs.Common.{ap}
use Rattle.wgsl_core.specs.declared.layout.placing.Placing.{Placing}
use Rattle.wgsl_core.proofs.Layouts.{place_starts, next_placed, place_there, place_goes_on, place_ends}
use Rattle.wgsl_core.proofs.ty.StructType.placed_members.Goals as goal

pub loop-member-init : goal.loop-member-init
loop-member-init c =
    let items = c.deref-member-items.result.now in
    let at = place_starts c.args.self.now items c.in_ok-members.members.items c.deref-member-items.ensures.value c.requires c.in_ok-members.ensures.items in
    (0, ap (λ (p : Placing). p.end) c.start-placing.ensures, at)

pub unwrap-offset-requires : goal.unwrap-offset-requires
unwrap-offset-requires c =
    let l = c.loop-member in
    let m = c.measure-measure in
    let next = next_placed c.deref-member-items.result.now l.members.items l.invariant.0 l.member-index c.member-item.result m.result c.unwrap-size.result c.unwrap-align.result
    c.loop-member-test.true c.member-item.is l.invariant.2 m.ensures.size c.unwrap-size.ensures m.ensures.align c.unwrap-align.ensures in
    place_there c.place.result l.placing.end l.invariant.1 next c.place.ensures.offset

pub loop-member-preserved : goal.loop-member-preserved
loop-member-preserved c =
    let l = c.loop-member in
    let m = c.measure-measure in
    let next = next_placed c.deref-member-items.result.now l.members.items l.invariant.0 l.member-index c.member-item.result m.result c.unwrap-size.result c.unwrap-align.result
    c.loop-member-test.true c.member-item.is l.invariant.2 m.ensures.size c.unwrap-size.ensures m.ensures.align c.unwrap-align.ensures in
    place_goes_on c.place.result l.placing.end c.place.new.self.end c.unwrap-offset.result l.invariant.1 next c.place.ensures.offset c.place.ensures.end c.unwrap-offset.ensures c.in_ok-push.ensures.items

pub returns : goal.returns
returns c =
    let l = c.loop-member in
    place_ends c.args.self.now c.deref-member-items.result.now l.members.items l.invariant.0 l.member-index c.deref-member-items.ensures.value c.requires c.loop-member-test.false l.invariant.2
