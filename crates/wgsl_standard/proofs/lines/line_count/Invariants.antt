use Rattle.std.proofs.Common.{◌≡◌, ◌*◌, ◌≤◌, ℕ, Bool, List, length, take}
use Rattle.wgsl_rules.specs.standard.Signatures.{signature_lines}
use Rattle.wgsl_standard.proofs.lines.line_count.Given as goal

abbrev pub invariant-loop-overload : goal.invariant-loop-overload
invariant-loop-overload l = record {
  counted : (name : List ℕ) (t : Bool) → length (signature_lines name t (take l.overload-index l.overloads)) ≡ l.count;
  few : l.count ≤ 2 * l.overload-index;
}
