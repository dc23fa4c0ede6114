use Rattle.wgsl_module.proofs.Written.{Found}
use Rattle.wgsl_module.proofs.declaration.declarations.Given as goal

-- the declarations that are found, and those that are left
abbrev pub invariant-loop-index : goal.invariant-loop-index
invariant-loop-index l = Found l.events l.found.items l.from l.body l.index
