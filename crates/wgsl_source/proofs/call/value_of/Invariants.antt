use Rattle.std.proofs.Common.{◌≡◌, drop, length, nat_eq}
use Rattle.wgsl_constants.specs.declared.call.Arguments.TheVariants.{Zero}
use Rattle.wgsl_source.specs.Calls.{with_items}
use Rattle.wgsl_source.proofs.call.value_of.Given as goal

abbrev pub invariant-loop-item : goal.invariant-loop-item
invariant-loop-item l = record {
  only : l.is_only ≡ nat_eq (length l.fn.arguments) 1;
  given : with_items l.callee l.is_only l.fn.arguments Zero ≡ with_items l.callee l.is_only (drop l.item-index l.fn.arguments) l.given;
}
