use Rattle.std.proofs.Common.{◌≢◌, [], refl, subst, ◌∙◌, take_all}
use Rattle.std.proofs.lemmas.Option.{slice_get-get_or}
use Rattle.wgsl_source.proofs.Common.{AddsOthers, KnownAll, Nothing}
use Rattle.wgsl_source.proofs.Kept.{no_others, one_of_all}
use Rattle.wgsl_source.proofs.Meanings.{still_meant_at}
use Rattle.wgsl_source.proofs.Members.{grows_further}
use Rattle.wgsl_source.proofs.Structs.{keeps_further, keeps_if, keeps_same}
use Rattle.wgsl_source.proofs.reader.Reader.read_others.Goals as goal

pub loop-index-init : goal.loop-index-init
loop-index-init c =
    let old = c.args.self.now in
    record {
      keeps = keeps_same (KnownAll c.args.declarations.now) old old (refl, refl, refl) refl;
      scope = refl;
      others = λ meant later g. no_others old.scope later (old.faults.items ≢ []) c.args.others.now;
    }

pub loop-index-preserved : goal.loop-index-preserved
loop-index-preserved c =
    let l = c.loop-index in
    let old = c.args.self.now in
    let ds = c.args.declarations.now in
    let known = KnownAll ds in
    let new = c.read_other.new.self in
    let read = c.in_ok-read_other.ensures in
    record {
      keeps = keeps_further known old l.self new l.invariant.keeps (keeps_if known Nothing l.self new (λ whole all. tt) read.keeps);
      scope = read.scope ∙ l.invariant.scope;
      others = λ meant later g.
          let now = grows_further l.self.types new.types later read.keeps.grows g in
          let at = slice_get-get_or ds l.index _ c.loop-index-test.true in
          one_of_all old.scope later l.self.scope (l.self.faults.items ≢ []) (new.faults.items ≢ []) ds l.index _ _ c.args.others.now l.others c.read_other.new.others c.loop-index-test.true
          l.invariant.scope read.still (l.invariant.others meant later now)
          (read.others later g (still_meant_at ds old l.self.scope later l.index _ meant l.invariant.scope (grows_further old.types l.self.types later l.invariant.keeps.grows now) at)) refl;
    }

pub returns-clause-others : goal.returns-clause-others
returns-clause-others c =
    let l = c.loop-index in
    λ meant later g. subst (λ es. AddsOthers c.args.self.now.scope later (l.self.faults.items ≢ []) es c.args.others.now l.others)
    (take_all l.index c.args.declarations.now c.loop-index-test.false) (l.invariant.others meant later g)
