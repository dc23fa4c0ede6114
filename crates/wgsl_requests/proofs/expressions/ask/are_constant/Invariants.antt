use Rattle.wgsl_requests.proofs.Common.{◌≡◌, drop, map, is_constant, typed_view}
use Rattle.std.specs.List.{list_all}
use Rattle.wgsl_requests.proofs.expressions.ask.are_constant.Given as goal

-- all are const-expressions if those that are left are
abbrev pub invariant-loop-part : goal.invariant-loop-part
invariant-loop-part l = list_all is_constant (map typed_view l.parts) ≡ list_all is_constant (map typed_view (drop l.part-index l.parts))
