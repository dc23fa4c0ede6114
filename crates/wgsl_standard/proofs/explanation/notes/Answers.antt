use Rattle.std.proofs.Common.{◌≡◌, ◌∙◌, ◌-◌, ◌<◌, ◌≤◌, [], ap, arith, length, map, refl, subst, sym, take, All, take_all}
use Rattle.wgsl_standard.proofs.Common.{drop_all, All-nil, callee_view, note_view, AreNotes, no_overloads, NoteStandsAtIndex, lines_before, operands_view, line_with, note_text, types_given}
use Rattle.wgsl_standard.proofs.CountedLines.{first_line, from_last, lines_without}
use Rattle.wgsl_standard.proofs.explanation.notes.Goals as goal

pub loop-index-init : goal.loop-index-init
loop-index-init c =
    let os = c.listed_overloads-listed.result.now in
    let all : length os ≤ length os = omega arith in
    record {
      notes = subst (λ rest. AreNotes (operands_view c.args.operands.now) rest (map note_view c.new-notes.result.items)) (sym (drop_all (length os) os all))
          (subst (λ items. AreNotes (operands_view c.args.operands.now) [] (map note_view items)) (sym c.new-notes.ensures.items) no_overloads);
      texts = subst (λ items. map note_text items ≡ map (line_with c.args.callee c.args.has_template (types_given c.args.operands.now)) (map note_view items)) (sym c.new-notes.ensures.items) refl;
      indices = subst (All NoteStandsAtIndex) (sym c.new-notes.ensures.items) (All-nil NoteStandsAtIndex);
      lines = c.lines_before-line.ensures.lines ∙ ap (λ os. length (lines_before (callee_view c.args.callee) c.args.has_template os)) (sym (take_all (length os) os all));
    }

pub loop-index-preserved : goal.loop-index-preserved
loop-index-preserved c =
    let os = c.listed_overloads-listed.result.now in
    let some : 0 < c.loop-index.index = omega arith in
    let within : c.loop-index.index ≤ length os = omega arith in
    let here : c.loop-index.index - 1 < length os = omega arith in
    let counted = lines_without (callee_view c.args.callee) c.args.has_template os c.loop-index.index _ c.loop-index.line c.lines_of-line.result some within c.loop-index.invariant.lines c.lines_of-line.ensures.lines in
    let lines : c.loop-index.line - c.lines_of-line.result ≡ length (lines_before (callee_view c.args.callee) c.args.has_template (take (c.loop-index.index - 1) os)) = omega (arith, counted) in
    record {
      notes = subst (λ rest. AreNotes (operands_view c.args.operands.now) rest (map note_view c.put_note.new.notes.items)) (sym (from_last os c.loop-index.index _ some within))
          (c.in_ok-put_note.ensures.note _ c.loop-index.invariant.notes);
      texts = c.in_ok-put_note.ensures.text c.loop-index.invariant.texts;
      indices = c.in_ok-put_note.ensures.index
          (first_line c.args.callee c.args.has_template os (c.loop-index.index - 1) _ (c.loop-index.line - c.lines_of-line.result) c.listed_overloads-listed.ensures.list here lines)
          c.loop-index.invariant.indices;
      lines = lines;
    }

pub overflow_sub-line : goal.overflow_sub-line
overflow_sub-line c =
    let os = c.listed_overloads-listed.result.now in
    let some : 0 < c.loop-index.index = omega arith in
    let within : c.loop-index.index ≤ length os = omega arith in
    omega (arith, lines_without (callee_view c.args.callee) c.args.has_template os c.loop-index.index _ c.loop-index.line c.lines_of-line.result some within c.loop-index.invariant.lines c.lines_of-line.ensures.lines)
