use Rattle.std.proofs.Common.{◌≡◌, drop, map, fold}
use Rattle.wgsl_standard.proofs.Common.{nearest_view, offered, names_of, function_of}
use Rattle.wgsl_standard.proofs.meant.among_functions.Given as goal

abbrev pub invariant-loop-name : goal.invariant-loop-name
invariant-loop-name l = (l.nearest.word.now ≡ l.initial.nearest.word.now) ×
    (fold (offered l.initial.nearest.word.now) (nearest_view l.nearest) (names_of (map function_of (drop l.name-index l.rows)))
    ≡ fold (offered l.initial.nearest.word.now) (nearest_view l.initial.nearest) (names_of (map function_of l.rows)))
