use Rattle.std.proofs.Common.{◌≡◌, ◌∙◌, ◌+◌, ◌++◌, ◌<◌, ℕ, List, Bool, ap, append_assoc, arith, get_or, length, map, sym, take}
use Rattle.wgsl_standard.proofs.Common.{Overload, overload_lines, signature_lines, callee_view, callee_text, line_of}
use Rattle.wgsl_standard.proofs.CountedLines.{first_line, lines_next, lines_then, one_more}
use Rattle.wgsl_standard.proofs.signature.push_signatures.Goals as goal

texts_more : (n : List ℕ) (t : Bool) (os : List Overload) (i : ℕ) (d : Overload) (first old new : List (List ℕ)) → i < length os
    → old ≡ first ++ signature_lines n t (take i os) → new ≡ old ++ overload_lines n t (get_or os i d) → new ≡ first ++ signature_lines n t (take (i + 1) os)
texts_more n t os i d first old new h e f =
    f ∙ (ap (λ ls. ls ++ overload_lines n t (get_or os i d)) e ∙ (append_assoc first (signature_lines n t (take i os)) (overload_lines n t (get_or os i d))
    ∙ ap (λ ls. first ++ ls) (sym (lines_then n t (take i os) (get_or os i d)) ∙ ap (signature_lines n t) (sym (one_more os i d h)))))

pub loop-overload-preserved : goal.loop-overload-preserved
loop-overload-preserved c = record {
  texts = texts_more (callee_text c.args.callee) c.args.has_template c.listed_overloads-listed.result.now c.loop-overload.overload-index _ (map line_of c.args.signatures.now.items) _ _
      c.loop-overload-test.true c.loop-overload.invariant.texts c.in_ok-push_signature.ensures.texts;
  indices = λ h. c.in_ok-push_signature.ensures.indices
      (first_line c.args.callee c.args.has_template c.listed_overloads-listed.result.now c.loop-overload.overload-index _ c.loop-overload.line c.listed_overloads-listed.ensures.list
      c.loop-overload-test.true c.loop-overload.invariant.lines)
      (c.loop-overload.invariant.indices h);
  lines = lines_next (callee_view c.args.callee) c.args.has_template c.listed_overloads-listed.result.now c.loop-overload.overload-index _ c.loop-overload.line _
      c.loop-overload-test.true c.loop-overload.invariant.lines c.lines_of-line.ensures.lines;
  few = omega arith;
}
