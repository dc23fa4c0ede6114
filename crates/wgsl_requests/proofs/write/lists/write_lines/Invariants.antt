use Rattle.std.proofs.Common.{◌≡◌, ◌++◌, ℕ, List, Some, codes, flat_map, map, string_bytes, take}
use Rattle.wgsl_requests.proofs.write.lists.write_lines.Given as goal

abbrev pub invariant-loop-value : goal.invariant-loop-value
invariant-loop-value g l =
    (shown : g.row.T.Denot → List ℕ) → ((x : g.row.T.Denot) → g.T.Display.output x ≡ Some (shown x))
    → string_bytes l.text ≡ string_bytes l.initial.text ++ flat_map (λ line. codes "\n" ++ line) (map shown (take l.value-index l.rest))
