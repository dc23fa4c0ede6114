use Rattle.std.proofs.Common.{◌≡◌, drop, length, map, take, All}
use Rattle.wgsl_standard.proofs.Common.{callee_view, operands_view, note_view, AreNotes, NoteStandsAtIndex, lines_before, line_with, note_text, types_given}
use Rattle.wgsl_standard.proofs.explanation.notes.Given as goal

abbrev pub invariant-loop-index : goal.invariant-loop-index
invariant-loop-index l = record {
  notes : AreNotes (operands_view l.operands) (drop l.index l.listed) (map note_view l.notes.items);
  texts : map note_text l.notes.items ≡ map (line_with l.callee l.has_template (types_given l.operands)) (map note_view l.notes.items);
  indices : All NoteStandsAtIndex l.notes.items;
  lines : l.line ≡ length (lines_before (callee_view l.callee) l.has_template (take l.index l.listed));
}
