use Rattle.wgsl_requests.proofs.Shared.{◌≡◌, ◌++◌, codes, flat_map, string_bytes, take, spelling_by, view}
use Rattle.wgsl_requests.proofs.write.lists.write_types.Given as goal

abbrev pub invariant-loop-ty : goal.invariant-loop-ty
invariant-loop-ty l =
    string_bytes l.text ≡ string_bytes l.initial.text
    ++ flat_map (λ x. codes ", " ++ spelling_by l.rules (view x)) (take l.ty-index l.rest)
