use Rattle.std.proofs.Common.{refl}
use Rattle.wgsl_source.proofs.Declarations.{all_are_declared, one_more_declared, still_member}
use Rattle.wgsl_source.proofs.Members.{grows_further, grows_same, none_left, one_more_read}
use Rattle.wgsl_source.proofs.WrittenTypes.{stays_same}
use Rattle.wgsl_source.specs.WrittenTypes.{environment}
use Rattle.wgsl_source.proofs.scope.Scope.read_members.Goals as goal

pub loop-split-preserved : goal.loop-split-preserved
loop-split-preserved c =
    let l = c.loop-split in
    let s = c.args.self.now in
    let front = c.in-Some.split.front.now in
    let rest = c.in-Some.split.rest.now in
    let now = c.add.new.self.members.items in
    let w = c.in_ok-read_member.field-0 in
    let cut = c.in-Some.ensures.exact in
    record {
      grows = grows_further c.args.types.now l.types c.read_member.new.types l.invariant.grows c.read_member.ensures.grows;
      declared = λ later g more h empty. one_more_declared s.text (environment s later) c.args.events.now l.rest.now l.draft.members.items
          (λ ms are. l.invariant.declared later (grows_further l.types c.read_member.new.types later c.read_member.ensures.grows g) ms are empty) front rest now w cut.0 cut.1 cut.2
          (still_member s.text s s c.read_member.new.types later front w.member (stays_same s s refl) g c.in_ok-read_member.ensures.declared) c.in_ok-add.ensures.added more h;
      draft =
          λ draft. one_more_read l.types c.read_member.new.types l.draft c.add.new.self c.in_ok-read_member.field-0 c.read_member.ensures.grows (l.invariant.draft draft)
          c.in_ok-read_member.ensures.measured c.in_ok-add.ensures.added (c.in_ok-add.ensures.runtime_sized (none_left l.draft.runtime_sized c.in_default-runtime_sized.not-Some));
    }

pub returns-clause-declared : goal.returns-clause-declared
returns-clause-declared c =
    let l = c.loop-split in
    let s = c.args.self.now in
    λ empty. all_are_declared s.text (environment s l.types) c.args.events.now l.rest.now l.draft.members.items (λ ms are. l.invariant.declared l.types (grows_same l.types) ms are empty)
    c.in_default.ensures.exact
