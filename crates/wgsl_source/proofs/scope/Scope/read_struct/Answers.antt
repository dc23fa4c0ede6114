use Rattle.std.proofs.Common.{◌↔◌, IfOk, IsSome, IsTrue, Bool, refl, sym, subst, ◌∙◌}
use Rattle.wgsl_source.proofs.Common.{AreMembers, AreSameMembers, EndsRuntimeSized, members_of}
use Rattle.wgsl_source.proofs.Declarations.{placed_declared}
use Rattle.wgsl_source.proofs.Members.{all_read, none_read}
use Rattle.wgsl_source.specs.WrittenTypes.{environment}
use Rattle.wgsl_source.proofs.scope.Scope.read_struct.Goals as goal
use Rattle.wgsl_source.proofs.scope.Scope.read_struct.Goals.{in-Ok, in-Err}

pub returns-clause-measured : goal.returns-clause-measured
returns-clause-measured c =
    let old = c.args.types.now.elements.items in
    let new = c.read_members.new.types.elements.items in
    let members = c.in_ok-members.field-0.members.items in
    let start = none_read old c.new-draft.result c.new-draft.ensures.members c.new-draft.ensures.runtime_sized in
    elim c.match-read_members.branch [
      | in-Ok w ↦
          let same = subst (λ r. IfOk r (λ l. AreSameMembers l.members.items (members_of w.deref.result.now))) (sym w.layout-is ∙ c.in_ok-members.was) w.laid_out-layout.ensures.same_members in
          (all_read new c.read_members.new.draft w.deref.result.now members (w.in-Ok.ensures.draft start) w.deref.ensures.value same).0
      | in-Err w ↦ absurd (let no = sym w.layout-is ∙ c.in_ok-members.was in cc)
    ]

pub returns-clause-runtime_sized : goal.returns-clause-runtime_sized
returns-clause-runtime_sized c =
    let old = c.args.types.now.elements.items in
    let new = c.read_members.new.types.elements.items in
    let draft = c.read_members.new.draft in
    let members = c.in_ok-members.field-0.members.items in
    let start = none_read old c.new-draft.result c.new-draft.ensures.members c.new-draft.ensures.runtime_sized in
    let ends : IsSome draft.runtime_sized ↔ EndsRuntimeSized members = elim c.match-read_members.branch [
      | in-Ok w ↦
          let same = subst (λ r. IfOk r (λ l. AreSameMembers l.members.items (members_of w.deref.result.now))) (sym w.layout-is ∙ c.in_ok-members.was) w.laid_out-layout.ensures.same_members in
          (all_read new draft w.deref.result.now members (w.in-Ok.ensures.draft start) w.deref.ensures.value same).1
      | in-Err w ↦ absurd (let no = sym w.layout-is ∙ c.in_ok-members.was in cc)
    ] in
    subst (λ (b : Bool). IsTrue b ↔ EndsRuntimeSized members) (sym c.is_some-is_runtime_sized.ensures) ends

pub returns-clause-declared : goal.returns-clause-declared
returns-clause-declared c =
    let s = c.args.self.now in
    let env = environment s c.read_members.new.types in
    let rest = c.args.declaration.now.rest.now in
    let members = c.in_ok-members.field-0.members.items in
    elim c.match-read_members.branch [
      | in-Ok w ↦
          let same = subst (λ r. IfOk r (λ l. AreSameMembers l.members.items (members_of w.deref.result.now))) (sym w.layout-is ∙ c.in_ok-members.was) w.laid_out-layout.ensures.same_members in
          let read = subst (λ ws. AreMembers s.text env rest (members_of ws)) (sym w.deref.ensures.value) (w.in-Ok.ensures.declared c.new-draft.ensures.members) in
          record { name = refl; place = refl; members = placed_declared s.text env members (members_of w.deref.result.now) rest same read }
      | in-Err w ↦ absurd (let no = sym w.layout-is ∙ c.in_ok-members.was in cc)
    ]
