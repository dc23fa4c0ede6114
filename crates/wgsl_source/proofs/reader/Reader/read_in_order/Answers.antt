use Rattle.std.proofs.Common.{length, refl, subst, sym}
use Rattle.wgsl_source.proofs.Common.{slice_get_read, Reader, Keeps, IsDeclaration, KnownAll, Means}
use Rattle.wgsl_source.proofs.Declarations.{all_at}
use Rattle.wgsl_source.proofs.Meanings.{means_further}
use Rattle.wgsl_source.proofs.Structs.{keeps_further, keeps_if, keeps_named}
use Rattle.wgsl_source.proofs.reader.Reader.read_in_order.Goals as goal
use Rattle.wgsl_source.proofs.reader.Reader.read_in_order.Goals.{in-Some+in_ok-read_unread, in_default}

pub loop-circular-preserved : goal.loop-circular-preserved
loop-circular-preserved c =
    let l = c.loop-circular in
    let old = c.args.self.now in
    let ds = c.args.declarations.now in
    let new = c.refuse.new.self in
    (keeps_further (KnownAll ds) old l.self new l.invariant.0 (keeps_named (KnownAll ds) l.self new c.refuse.ensures.same c.refuse.ensures.names), means_further ds old l.self new l.invariant.1 (c.refuse.ensures.means ds))

pub loop-index-preserved : goal.loop-index-preserved
loop-index-preserved c =
    let l = c.loop-index in
    let old = c.args.self.now in
    let ds = c.args.declarations.now in
    let known = KnownAll ds in
    elim c.match-get.branch [
      | in-Some+in_ok-read_unread w ↦
          let new = w.read_unread.new.self in
          let d = w.in-Some.declaration.now in
          let at = slice_get_read ds (length ds) _ d refl w.in-Some.ensures.lookup.3.0 w.in-Some.ensures.lookup.1 in
          let read = keeps_if known _ l.self new (λ whole all. all_at (IsDeclaration l.self.scope.text whole) ds _ d at all) w.in_ok-read_unread.ensures.keeps in
          subst (λ (r : Reader). Keeps known old r × Means ds old r) (sym w.self-is)
          (keeps_further known old l.self new l.invariant.0 read, means_further ds old l.self new l.invariant.1 (w.in_ok-read_unread.ensures.means ds at))
      | in_default w ↦ subst (λ (r : Reader). Keeps known old r × Means ds old r) (sym w.self-is) l.invariant
    ]
