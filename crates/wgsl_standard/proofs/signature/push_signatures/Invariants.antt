use Rattle.std.proofs.Common.{◌≡◌, ◌+◌, ◌*◌, ◌≤◌, ◌++◌, length, map, take, All}
use Rattle.wgsl_standard.proofs.Common.{signature_lines, callee_view, StandsAtIndex, lines_before, callee_text, line_of}
use Rattle.wgsl_standard.proofs.signature.push_signatures.Given as goal

abbrev pub invariant-loop-overload : goal.invariant-loop-overload
invariant-loop-overload l = record {
  texts : map line_of l.signatures.items ≡ map line_of l.fn.signatures.items ++ signature_lines (callee_text l.callee) l.has_template (take l.overload-index l.listed);
  indices : All StandsAtIndex l.fn.signatures.items → All StandsAtIndex l.signatures.items;
  lines : l.line ≡ length (lines_before (callee_view l.callee) l.has_template (take l.overload-index l.listed));
  few : l.line ≤ 2048 + 2 * l.overload-index;
}
