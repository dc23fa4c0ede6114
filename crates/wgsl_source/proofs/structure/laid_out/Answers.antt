use Rattle.std.proofs.Common.{Some, List, refl, subst, sym, take, take_all}
use Rattle.wgsl_core.specs.declared.layout.placing.Placing.{Placing}
use Rattle.wgsl_source.proofs.Common.{Member, Written, AreSameMembers, members_of, HasNoLayout}
use Rattle.wgsl_source.proofs.Members.{one_more_same}
use Rattle.wgsl_source.proofs.Placed.{ArePlaced, all_placed_out, none_placed, one_placed}
use Rattle.wgsl_source.proofs.Refused.{no_offset, no_size, at_fault}
use Rattle.wgsl_source.proofs.structure.laid_out.Goals as goal

pub loop-next-init : goal.loop-next-init
loop-next-init c =
    let empty = subst (λ (ms : List Member). ArePlaced ms (Some 0) 0) (sym c.in_ok-members.ensures.items) none_placed in
    record {
      placed = subst (λ (p : Placing). ArePlaced c.in_ok-members.members.items p.end p.greatest) (sym c.start-placing.ensures) empty;
      same = subst (λ (ms : List Member). AreSameMembers ms (members_of (take 0 c.args.written.now))) (sym c.in_ok-members.ensures.items) refl;
    }

pub loop-next-preserved : goal.loop-next-preserved
loop-next-preserved c =
    let l = c.loop-next in
    let offset = c.in-Some.offset in
    rw (c.place.ensures.greatest, c.in_ok-push.ensures.items)
    (record {
      placed = one_placed l.members.items _ l.placing.end c.place.new.self.end l.placing.greatest l.invariant.placed ((c.in-Some.ensures.offset offset).0 refl) c.place.ensures.end;
      same = one_more_same l.members.items c.args.written.now l.next-index _ _ c.loop-next-test.true refl l.invariant.same;
    })

pub returns-in-Some-size : goal.returns-in-Some-size
returns-in-Some-size c =
    let l = c.loop-next in
    let size = c.in-Some-size.size in
    record {
      layout = all_placed_out l.members.items l.placing.end l.placing.greatest size l.invariant.placed ((c.in-Some-size.ensures size).0 refl);
      same_members = subst (λ (ws : List Written). AreSameMembers l.members.items (members_of ws)) (take_all l.next-index c.args.written.now c.loop-next-test.false) l.invariant.same;
      refused = tt;
    }

pub returns-in_default-clause-refused : goal.returns-in_default-clause-refused
returns-in_default-clause-refused c =
    let l = c.loop-next in
    at_fault c.at.result (HasNoLayout (members_of c.args.written.now))
    (no_offset l.members.items c.args.written.now l.next-index _ l.placing.end l.placing.greatest c.loop-next-test.true l.invariant.placed l.invariant.same c.in_default.ensures.offset)

pub returns-clause-refused : goal.returns-clause-refused
returns-clause-refused c =
    let l = c.loop-next in
    let same = subst (λ (ws : List Written). AreSameMembers l.members.items (members_of ws)) (take_all l.next-index c.args.written.now c.loop-next-test.false) l.invariant.same in
    at_fault c.at-in-None.result (HasNoLayout (members_of c.args.written.now))
    (no_size l.members.items c.args.written.now l.placing.end l.placing.greatest l.invariant.placed same c.in-None.ensures)
