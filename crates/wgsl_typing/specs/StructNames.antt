-- Structs by name (WGSL, "Structure Types").
use Rattle.std.specs.Prelude.{ℕ, List, Option, Some, None, ◌≡◌, ◌<◌, IfSome, cond, length, slice_get, option_and_then, bytes_eq}
use Rattle.std.specs.BTreeMap.{BTreeMap, get_by}
use Rattle.std.specs.Borrow.{Bor}
use Rattle.std.specs.Cmp.Lexicographic.{slice_cmp}
use Rattle.std.specs.Ordering.{nat_cmp}
use Rattle.wgsl_rules.specs.types.Types.{WgslType, struct}
use Rattle.wgsl_typing.specs.declared.structs.Declared.{Declared}
use Rattle.wgsl_typing.specs.declared.structs.Structs.{Structs}

-- the index of a name
abbrev pub index_of : List ℕ → BTreeMap (Bor (List ℕ)) ℕ → Option ℕ
index_of name index = get_by (λ key. slice_cmp nat_cmp name key.now) index

-- the struct that was declared with the name
abbrev pub struct_named : List ℕ → Structs → Option Declared
struct_named name structs = option_and_then (slice_get structs.declared.items) (index_of name structs.names)

-- the declaration of a struct
abbrev pub struct_of : WgslType → Structs → Option Declared
struct_of (struct name ms) structs = struct_named name structs
struct_of t structs = None

-- each name has the index of a struct
abbrev pub AreNamed : Structs → Type 0
AreNamed structs = (name : List ℕ) → IfSome (index_of name structs.names) (λ index. index < length structs.declared.items)

-- a struct more, which its name stands for from now on
abbrev pub IsDeclaredAs : List ℕ → Declared → Structs → Structs → Type 0
IsDeclaredAs name declared old new = (other : List ℕ) →
    struct_named other new ≡ cond (bytes_eq name other) (Some declared) (struct_named other old)
