use Rattle.std.proofs.Common.{[], sym, subst, append-nil}
use Rattle.wgsl_source.specs.internal.Read.{Adds, no_other}
use Rattle.wgsl_source.specs.declared.declaration.Declarations.{Declarations}
use Rattle.wgsl_source.proofs.Sites.{more_misread}
use Rattle.wgsl_source.proofs.declaration.Declarations.read_misread.Goals as goal
use Rattle.wgsl_source.proofs.declaration.Declarations.read_misread.Goals.{in-Some-misread_declaration+in_ok-push-2, in_default-misread_declaration}

pub loop-misread-init : goal.loop-misread-init
loop-misread-init c = record { added = []; kept = sym (append-nil c.args.self.now.declarations.items); are = no_other }

pub loop-misread-preserved : goal.loop-misread-preserved
loop-misread-preserved c =
    let t = c.args.text in
    let old = c.args.self.now.declarations.items in
    let l = c.loop-misread in
    elim c.match-misread_declaration.branch [
      | in-Some-misread_declaration+in_ok-push-2 w ↦
          subst (λ (ds : Declarations). Adds t [] old ds.declarations.items) (sym w.self-is)
          (more_misread t old l.self.declarations.items _ _ l.invariant w.in_ok-push-2.ensures.items w.in-Some-misread_declaration.ensures)
      | in_default-misread_declaration w ↦ subst (λ (ds : Declarations). Adds t [] old ds.declarations.items) (sym w.self-is) l.invariant
    ]
