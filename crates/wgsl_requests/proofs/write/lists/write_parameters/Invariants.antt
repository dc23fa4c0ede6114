use Rattle.wgsl_requests.proofs.Shared.{◌≡◌, ◌++◌, codes, flat_map, string_bytes, take, parameter_text, parameter_view}
use Rattle.wgsl_requests.proofs.write.lists.write_parameters.Given as goal

abbrev pub invariant-loop-parameter : goal.invariant-loop-parameter
invariant-loop-parameter l =
    string_bytes l.text ≡ string_bytes l.initial.text
    ++ flat_map (λ x. codes ", " ++ parameter_text (parameter_view x)) (take l.parameter-index l.rest)
