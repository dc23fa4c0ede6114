-- Memory: references and pointers, and what is formed from them (WGSL, "Memory Views").
use Rattle.std.specs.Prelude.{Option, Some, None, Bool, is_some}
use Rattle.wgsl_standard.specs.forms.Prelude.{AddressSpace, AccessMode, WgslType, pointer, reference}

-- the type behind a reference or a pointer: `f32` behind `ref<function, f32, read_write>`
abbrev pub behind : WgslType → WgslType
behind (reference s t a) = t
behind (pointer s t a) = t
behind t = t

-- the address space and the access mode of a reference or a pointer
abbrev pub memory_of : WgslType → Option (AddressSpace × AccessMode)
memory_of (reference s t a) = Some (s, a)
memory_of (pointer s t a) = Some (s, a)
memory_of t = None

abbrev pub is_memory : WgslType → Bool
is_memory t = is_some (memory_of t)

-- the reference to the type in memory; without memory the type itself
abbrev pub in_memory : Option (AddressSpace × AccessMode) → WgslType → WgslType
in_memory None t = t
in_memory (Some m) t = reference m.0 t m.1

-- What is formed from a type, with the type of a part: in memory a reference to the part, in the same space with the same
-- access. From `ref<storage, S, read>` and from `ptr<storage, S, read>` its part `f32` is `ref<storage, f32, read>`.
abbrev pub formed_from : WgslType → WgslType → WgslType
formed_from t part = in_memory (memory_of t) part
