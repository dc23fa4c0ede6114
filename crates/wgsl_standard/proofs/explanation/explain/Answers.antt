use Rattle.std.proofs.Common.{◌≡◌, ◌∙◌, ap, sym, subst, IfOk, map, option_map, true}
use Rattle.wgsl_standard.proofs.Common.{view, note_view, line_with, note_line, note_text, types_given}
use Rattle.wgsl_standard.proofs.explanation.explain.Goals as goal

pub returns-in_ok-all-in-Some-clause-texts : goal.returns-in_ok-all-in-Some-clause-texts
returns-in_ok-all-in-Some-clause-texts c =
    subst (λ t. IfOk c.notes.result (λ v. map note_text v.items ≡ map (note_line c.args.callee (option_map (λ t. view t.now) t) (types_given c.args.operands.now)) (map note_view v.items)))
    (sym c.in-Some.is)
    (subst (λ ts. IfOk c.notes.result (λ v. map note_text v.items ≡ map (line_with c.args.callee true ts) (map note_view v.items)))
    (ap types_given c.deref.ensures.value ∙ c.in_ok-all-in-Some.ensures.given) c.notes.ensures.texts)
