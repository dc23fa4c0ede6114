use Rattle.std.proofs.Common.{◌≡◌, ◌++◌, drop, map}
use Rattle.wgsl_typing.specs.Elements.{value_in}
use Rattle.wgsl_typing.proofs.elements.values_of.Given as goal

-- the values so far, and those of the parts that are left
abbrev pub invariant-loop-part : goal.invariant-loop-part
invariant-loop-part l = l.values.items ++ map value_in (drop l.part-index l.parts) ≡ map value_in l.parts
