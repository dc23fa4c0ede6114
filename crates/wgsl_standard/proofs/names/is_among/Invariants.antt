use Rattle.std.proofs.Common.{◌≡◌, bytes_eq, drop, map}
use Rattle.std.specs.List.{list_any}
use Rattle.wgsl_standard.proofs.names.is_among.Given as goal

abbrev pub invariant-loop-other : goal.invariant-loop-other
invariant-loop-other l = list_any (bytes_eq l.name) (map (λ other. other.now) (drop l.other-index l.others)) ≡ list_any (bytes_eq l.name) (map (λ other. other.now) l.others)
