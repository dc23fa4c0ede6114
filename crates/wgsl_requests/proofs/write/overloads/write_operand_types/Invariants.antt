use Rattle.wgsl_requests.proofs.Shared.{◌≡◌, ◌++◌, codes, flat_map, string_bytes, take, wgsl_spelling, value_of, given_type}
use Rattle.wgsl_requests.proofs.write.overloads.write_operand_types.Given as goal

abbrev pub invariant-loop-operand : goal.invariant-loop-operand
invariant-loop-operand l =
    string_bytes l.text ≡ string_bytes l.initial.text
    ++ flat_map (λ x. codes ", " ++ wgsl_spelling (value_of (given_type x.ty))) (take l.operand-index l.rest)
