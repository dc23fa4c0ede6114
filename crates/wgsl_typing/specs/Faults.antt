-- What is told of a text: faults, the last at the end.
use Rattle.std.specs.Prelude.{◌≡◌, ℕ, ◌-◌, List, [], ◌∷◌, ◌++◌, Bool, true, false}
use Rattle.wgsl_typing.specs.declared.fault.Fault.{Fault}
use Rattle.wgsl_typing.specs.declared.fault.Place.{Place}
use Rattle.wgsl_typing.specs.declared.fault.Rule.{Rule}

-- the last of this many tokens
abbrev pub last_of : ℕ → Place
last_of count = record { from = count - 1; to = count }

-- from the first token of one place to the last of another
abbrev pub up_to : Place → Place → Place
up_to a b = record { from = a.from; to = b.to }

-- one fault more, of that rule at that place
abbrev pub IsTold : Rule → Place → List Fault → List Fault → Type 0
IsTold rule place old new = (f : Fault) × (f.rule ≡ rule) × (f.place ≡ place) × (new ≡ old ++ (f ∷ []))

-- one more exactly if something is wrong
abbrev pub IsToldIf : Bool → Rule → Place → List Fault → List Fault → Type 0
IsToldIf true rule place old new = IsTold rule place old new
IsToldIf false rule place old new = new ≡ old
