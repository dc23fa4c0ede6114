-- How scalar types are written, and which of them are integers, floats and numbers (WGSL, "Scalar Types").
use Rattle.std.specs.Prelude.{ℕ, List, [], ◌∷◌, codes}
use Rattle.wgsl_syntax.specs.declared.scalar.Scalar.{Scalar}
use Rattle.wgsl_syntax.specs.declared.scalar.Scalar.TheVariants.{Bool, AbstractInt, AbstractFloat, I32, U32, F32, F16, I64, U64, F64}

abbrev pub scalars : List Scalar
scalars = Bool ∷ AbstractInt ∷ AbstractFloat ∷ I32 ∷ U32 ∷ F32 ∷ F16 ∷ I64 ∷ U64 ∷ F64 ∷ []

abbrev pub scalar_text : Scalar → List ℕ
scalar_text Bool = codes "bool"
scalar_text AbstractInt = codes "AbstractInt"
scalar_text AbstractFloat = codes "AbstractFloat"
scalar_text I32 = codes "i32"
scalar_text U32 = codes "u32"
scalar_text F32 = codes "f32"
scalar_text F16 = codes "f16"
scalar_text I64 = codes "i64"
scalar_text U64 = codes "u64"
scalar_text F64 = codes "f64"

-- `AbstractInt`, `i32`, `u32` and naga's `i64` and `u64`
abbrev pub IsInteger : Scalar → Type 0
IsInteger AbstractInt = Unit {0}
IsInteger I32 = Unit {0}
IsInteger U32 = Unit {0}
IsInteger I64 = Unit {0}
IsInteger U64 = Unit {0}
IsInteger s = ⊥

-- `AbstractFloat`, `f32`, `f16` and naga's `f64`
abbrev pub IsFloat : Scalar → Type 0
IsFloat AbstractFloat = Unit {0}
IsFloat F32 = Unit {0}
IsFloat F16 = Unit {0}
IsFloat F64 = Unit {0}
IsFloat s = ⊥

-- an integer or a float
abbrev pub IsNumeric : Scalar → Type 0
IsNumeric Bool = ⊥
IsNumeric s = Unit {0}
