-- What the parameters of a template list are that are no types: enumerants and counts (WGSL, "Template Lists", "Predeclared Enumerants").
use Rattle.std.specs.Prelude.{ℕ, List, [], ◌∷◌, Option, Some, None, option_map}
use Rattle.wgsl_syntax.specs.declared.address.AccessMode.{AccessMode}
use Rattle.wgsl_syntax.specs.declared.address.AccessMode.TheVariants as accesses
use Rattle.wgsl_syntax.specs.declared.address.AddressSpace.{AddressSpace}
use Rattle.wgsl_syntax.specs.declared.address.AddressSpace.TheVariants as spaces
use Rattle.wgsl_syntax.specs.declared.texel.TexelFormat.{TexelFormat}
use Rattle.wgsl_syntax.specs.declared.texel.TexelFormat.TheVariants.{R64Uint}
use Rattle.wgsl_constants.specs.Literals.{then}
use Rattle.wgsl_typing.specs.Known.{typed_in}
use Rattle.wgsl_typing.specs.declared.known.Part.{Part}
use Rattle.wgsl_spelling.specs.Names.{access_named, format_named, space_named}
use Rattle.wgsl_typing.specs.Counts.{IsCountOf}
use Rattle.wgsl_typing.specs.Names.{Context, meaning_at, word_in}
use Rattle.wgsl_typing.specs.Stacks.{IsOperand}
use Rattle.wgsl_typing.specs.declared.item.Item.{Item}
use Rattle.wgsl_typing.specs.declared.item.Item.TheVariants as items
use Rattle.wgsl_typing.specs.declared.name.Meaning.{Meaning}
use Rattle.wgsl_typing.specs.declared.name.Meaning.TheVariants as meanings

-- Enumerants: names that neither the module nor the function declares

abbrev pub if_undeclared : Meaning → List ℕ → Option (List ℕ)
if_undeclared meanings.Undeclared name = Some name
if_undeclared other name = None

abbrev pub enumerant : Context → Item → Option (List ℕ)
enumerant c (items.Name count) = if_undeclared (meaning_at c count) (word_in c count)
enumerant c other = None

-- what the first item of a list is
abbrev pub of_first : {A : Type 0} → (Item → Option A) → List Item → Option A
of_first f [] = None
of_first f (i ∷ rest) = f i

abbrev pub unless_handle : AddressSpace → Option AddressSpace
unless_handle spaces.Handle = None
unless_handle s = Some s

-- `workgroup`; the space of textures and samplers has no name
abbrev pub space_called : List ℕ → Option AddressSpace
space_called name = then (space_named name) unless_handle

abbrev pub space_of : Context → Item → Option AddressSpace
space_of c i = then (enumerant c i) space_called

abbrev pub unless_atomic : AccessMode → Option AccessMode
unless_atomic accesses.Atomic = None
unless_atomic a = Some a

-- `read_write`; naga's `atomic` is none of WGSL's
abbrev pub access_called : List ℕ → Option AccessMode
access_called name = then (access_named name) unless_atomic

abbrev pub access_of : Context → Item → Option AccessMode
access_of c i = then (enumerant c i) access_called

abbrev pub unless_r64 : TexelFormat → Option TexelFormat
unless_r64 R64Uint = None
unless_r64 f = Some f

-- `rgba8unorm`; naga's `r64uint` is none of WGSL's
abbrev pub format_called : List ℕ → Option TexelFormat
format_called name = then (format_named name) unless_r64

abbrev pub format_of : Context → Item → Option TexelFormat
format_of c i = then (enumerant c i) format_called

-- the access mode at the end of a list, where one may stand
abbrev pub access_listed : Context → List Item → Option (Option AccessMode)
access_listed c [] = Some None
access_listed c (a ∷ []) = option_map Some (access_of c a)
access_listed c items = None

-- `<private>`, `<storage, read_write>` of a variable
abbrev pub space_listed : Context → List Item → Option (AddressSpace × Option AccessMode)
space_listed c [] = None
space_listed c (s ∷ rest) = then (space_of c s) (λ space. option_map (λ access. (space, access)) (access_listed c rest))

-- Counts

-- how many elements the second parameter of `array<f32, 4>` says
abbrev pub IsCount : Context → Item → Option ℕ → Type 0
IsCount c i count = (x : Part) × IsOperand c (i ∷ []) x × IsCountOf (typed_in x.outcome) count
