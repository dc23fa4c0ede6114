use Rattle.std.proofs.Common.{◌≡◌, ◌++◌, codes, decimal, flat_map, string_bytes, take}
use Rattle.wgsl_requests.proofs.write.layout.write_spaced.Given as goal

abbrev pub invariant-loop-number : goal.invariant-loop-number
invariant-loop-number l =
    string_bytes l.text ≡ string_bytes l.initial.text ++ flat_map (λ n. codes " " ++ decimal n) (take l.number-index l.rest)
