-- The type that a reference loads as (WGSL, "Load Rule").
use Rattle.wgsl_rules.specs.types.Types.{WgslType, reference}

abbrev pub IsReference : WgslType → Type 0
IsReference (reference s t m) = Unit {0}
IsReference t = ⊥

-- the type that is left once all references around it are loaded
abbrev pub loaded_of : WgslType → WgslType
loaded_of (reference s t m) = loaded_of t
loaded_of t = t
