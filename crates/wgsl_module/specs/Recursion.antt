-- That no function of a module calls itself, not through others either (WGSL, "Function Calls").
use Rattle.std.specs.Prelude.{ℕ, List, [], false, length, map}
use Rattle.wgsl_module.specs.Called.{called_by}
use Rattle.wgsl_module.specs.Declarations.{Written, written_in}
use Rattle.wgsl_module.specs.Order.{HasEach, IsBehind}
use Rattle.wgsl_reader.specs.Modules.{ReadsModule}
use Rattle.wgsl_reader.specs.Reading.{kind_of}
use Rattle.wgsl_reader.specs.declared.read.Event.{Event}
use Rattle.wgsl_reader.specs.declared.token.Token.{Token}

-- an order of declarations, in which each stands once, behind those that its body calls, but for one of these, which leads back to it
abbrev pub HasCallOrder : List ℕ → List ℕ → List Token → List Written → Type 0
HasCallOrder cycles text tokens ds = (order : List ℕ) × HasEach 0 (length ds) order × IsBehind (called_by text tokens ds) cycles order

-- Each function stands behind all that it calls, in an order of the declarations that the grammar reads.
abbrev pub HasNoRecursion : List ℕ → List Token → Type 0
HasNoRecursion text tokens = (events : List Event) × ReadsModule (map kind_of tokens) events [] × HasCallOrder [] text tokens (written_in false events)
