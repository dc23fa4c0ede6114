-- References to what is formed from a type in memory, and what they load as.
use Rattle.std.specs.Prelude.{Option, Some, None, Result}
use Rattle.wgsl_standard.specs.forms.Prelude.{AddressSpace, AccessMode, WgslType, MemoryView, Reference, Referent}
use Rattle.wgsl_standard.specs.forms.Load.{loaded, stored_loaded}
use Rattle.wgsl_standard.specs.forms.Refusals.{Refusal}

-- the reference in that address space, with that access mode
abbrev pub reference_to : Option (AddressSpace × AccessMode) → Referent → Option MemoryView
reference_to None r = None
reference_to (Some m) r = Some (Reference r m.0 m.1)

-- what the type loads as in memory
abbrev pub loaded_in : Option (AddressSpace × AccessMode) → WgslType → Result WgslType Refusal
loaded_in None t = loaded t
loaded_in (Some m) t = stored_loaded m.1 t
