-- The structs that `frexp` and `modf` return.
use Rattle.std.specs.Prelude.{ℕ, List, None}
use Rattle.wgsl_syntax.specs.declared.result_struct.ResultStruct.{ResultStruct}
use Rattle.wgsl_rules.specs.types.Types.{WgslType, struct}
use Rattle.wgsl_rules.specs.types.ResultStructs.{result_struct}
use Rattle.wgsl_core.specs.View.{Member, Struct}

abbrev pub struct_type : Struct → WgslType
struct_type s = struct s.name s.members

abbrev pub result_type : ResultStruct → WgslType
result_type r = result_struct r.function r.shape r.precision

-- a member without attributes
abbrev pub plain : List ℕ → WgslType → Member
plain name t = record { name = name; ty = t; size = None; align = None }
