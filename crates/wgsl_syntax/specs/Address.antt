-- Address spaces and access modes: their names, and how memory may be accessed (WGSL, "Address Spaces" and
-- "Memory Access Mode").
use Rattle.std.specs.Prelude.{◌≡◌, ◌⊎◌, ℕ, List, [], ◌∷◌, Bool, true, false, codes}
use Rattle.wgsl_syntax.specs.declared.address.AddressSpace.{AddressSpace}
use Rattle.wgsl_syntax.specs.declared.address.AddressSpace.TheVariants.{Function, Private, Workgroup, Uniform, Storage, Handle, PushConstant}
use Rattle.wgsl_syntax.specs.declared.rules.RuleSet.{RuleSet}
use Rattle.wgsl_syntax.specs.declared.rules.RuleSet.TheVariants.{Standard}
use Rattle.wgsl_syntax.specs.declared.address.AccessMode.{AccessMode}
use Rattle.wgsl_syntax.specs.declared.address.AccessMode.TheVariants.{Read, Write, ReadWrite, Atomic}

abbrev pub spaces : List AddressSpace
spaces = Function ∷ Private ∷ Workgroup ∷ Uniform ∷ Storage ∷ Handle ∷ PushConstant ∷ []

abbrev pub space_text : AddressSpace → List ℕ
space_text Function = codes "function"
space_text Private = codes "private"
space_text Workgroup = codes "workgroup"
space_text Uniform = codes "uniform"
space_text Storage = codes "storage"
space_text Handle = codes "handle"
space_text PushConstant = codes "push_constant"

-- the name by these rules: WGSL calls `immediate` what naga calls `push_constant`
abbrev pub space_text_by : RuleSet → AddressSpace → List ℕ
space_text_by Standard PushConstant = codes "immediate"
space_text_by rules s = space_text s

-- the word is the name by these rules, or naga's
abbrev pub IsSpace : RuleSet → List ℕ → AddressSpace → Type 0
IsSpace rules word s = (word ≡ space_text_by rules s) ⊎ (word ≡ space_text s)

abbrev pub access_modes : List AccessMode
access_modes = Read ∷ Write ∷ ReadWrite ∷ Atomic ∷ []

abbrev pub access_text : AccessMode → List ℕ
access_text Read = codes "read"
access_text Write = codes "write"
access_text ReadWrite = codes "read_write"
access_text Atomic = codes "atomic"

-- the access mode of a variable that names none
abbrev pub default_access : AddressSpace → AccessMode
default_access Function = ReadWrite
default_access Private = ReadWrite
default_access Workgroup = ReadWrite
default_access _ = Read

-- An access mode may be said for `storage` alone: `var<storage, read_write> v: f32;`, `ptr<storage, f32, read>`. Elsewhere
-- not even the one that would be there anyway: `var<uniform, read> v: f32;`, `ptr<function, f32, read_write>`.
abbrev pub may_say : AddressSpace → AccessMode → Bool
may_say Storage Read = true
may_say Storage ReadWrite = true
may_say s a = false

abbrev pub MayRead : AccessMode → Type 0
MayRead access = (access ≡ Read) ⊎ (access ≡ ReadWrite)

abbrev pub MayWrite : AccessMode → Type 0
MayWrite access = (access ≡ Write) ⊎ (access ≡ ReadWrite)
