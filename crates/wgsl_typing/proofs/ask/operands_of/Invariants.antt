use Rattle.std.proofs.Common.{◌≡◌, ◌++◌, drop, map}
use Rattle.wgsl_typing.proofs.Common.{given, shown, typed_parts}
use Rattle.wgsl_typing.proofs.ask.operands_of.Given as goal

-- the operands so far, and those of the parts that are left
abbrev pub invariant-loop-part : goal.invariant-loop-part
invariant-loop-part l = map given l.operands.items ++ map shown (typed_parts (drop l.part-index l.parts)) ≡ map shown (typed_parts l.parts)
