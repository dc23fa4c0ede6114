use Rattle.std.proofs.Common.{◌≡◌, drop, false}
use Rattle.wgsl_module.specs.Named.{named_in}
use Rattle.wgsl_module.specs.Order.{naming_of}
use Rattle.wgsl_module.proofs.checker.Checker.first_named.Given as goal

-- the events so far name nothing
abbrev pub invariant-loop-k : goal.invariant-loop-k
invariant-loop-k l = named_in (naming_of l.self) l.declaration.named false (drop l.at l.declaration.events.now)
    ≡ named_in (naming_of l.self) l.declaration.named l.are_words (drop l.k l.declaration.events.now)
