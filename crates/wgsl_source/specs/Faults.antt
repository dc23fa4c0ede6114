-- Why reading stops.
use Rattle.std.specs.Prelude.{Result, Ok, Err}
use Rattle.wgsl_source.specs.declared.fault.Stop.{Stop}
use Rattle.wgsl_source.specs.declared.fault.Stop.TheVariants.{Fault}

abbrev pub AtFault : Stop → Type 0 → Type 0
AtFault (Fault fault) P = P
AtFault stop P = Unit {0}

-- what is known if reading stops at a fault, and not for lack of memory
abbrev pub OnFault : {A : Type 0} → Result A Stop → Type 0 → Type 0
OnFault (Ok a) P = Unit {0}
OnFault (Err stop) P = AtFault stop P
