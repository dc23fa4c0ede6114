use Rattle.std.proofs.Common.{◌∙◌, ap, arith, length, sym}
use Rattle.wgsl_standard.proofs.Common.{prefix_len, length-map, note_view, taken, NoteStandsAtIndex, is_nearer, operands_view, line_with, note_text, types_given}
use Rattle.std.proofs.lemmas.List.Sums.{prefix_len-le-length}
use Rattle.wgsl_standard.proofs.Noted.{all_inserted, note_put, texts_inserted}
use Rattle.wgsl_standard.proofs.explanation.put_note.Goals as goal

pub insert-requires : goal.insert-requires
insert-requires c = grind (arith, prefix_len-le-length)

pub returns-in_ok-insert-clause-note : goal.returns-in_ok-insert-clause-note
returns-in_ok-insert-clause-note c = λ os d.
    let given = length c.args.operands.now in
    note_put (operands_view c.args.operands.now) os c.args.signature.overload.now c.in-Some.mismatch given c.args.notes.now.items c.insert.new.self.items c.nearer-index.result c.note_of.result
    (sym (length-map c.args.operands.now _)) (c.nearer-index.ensures ∙ ap (prefix_len (λ n. is_nearer given n.mismatch c.in-Some.mismatch)) c.deref.ensures.value)
    c.in_ok-insert.ensures.items c.note_of.ensures.note c.in-Some.ensures d

pub returns-in_ok-insert-clause-text : goal.returns-in_ok-insert-clause-text
returns-in_ok-insert-clause-text c =
    texts_inserted note_view note_text (line_with c.args.signature.callee c.args.signature.has_template (types_given c.args.operands.now)) c.args.notes.now.items c.insert.new.self.items
    c.nearer-index.result c.note_of.result c.in_ok-insert.ensures.items c.note_of.ensures.text

pub returns-in_ok-insert-clause-index : goal.returns-in_ok-insert-clause-index
returns-in_ok-insert-clause-index c = λ s h.
    all_inserted NoteStandsAtIndex c.args.notes.now.items c.insert.new.self.items c.nearer-index.result c.note_of.result c.in_ok-insert.ensures.items h (c.note_of.ensures.index s)

pub returns-in_default-clause-note : goal.returns-in_default-clause-note
returns-in_default-clause-note c = λ os d. taken c.in_default.ensures d
