-- The kinds of letters for scalars.
use Rattle.std.specs.Prelude.{Bool, true, false}
use Rattle.wgsl_syntax.specs.declared.scalar.Scalar.{Scalar}
use Rattle.wgsl_syntax.specs.declared.scalar.Scalar.TheVariants.{Bool as BoolScalar, AbstractInt, AbstractFloat, I32, U32, F32, F16, I64, U64, F64}
use Rattle.wgsl_syntax.specs.declared.overload.Kind.{Kind}
use Rattle.wgsl_syntax.specs.declared.overload.Kind.TheVariants.{AnyScalar, Number, SignedNumber, Integer, SignedInteger, Float, ConcreteScalar, ConcreteNumber, ConcreteInteger, ConcreteFloat, Number32, ShortFloat}

-- the scalars of a kind: WGSL's, and naga's scalars of 64 bits
abbrev pub is_of_kind : Kind → Scalar → Bool
is_of_kind AnyScalar s = true
is_of_kind Number BoolScalar = false
is_of_kind Number s = true
is_of_kind SignedNumber BoolScalar = false
is_of_kind SignedNumber U32 = false
is_of_kind SignedNumber U64 = false
is_of_kind SignedNumber s = true
is_of_kind Integer AbstractInt = true
is_of_kind Integer I32 = true
is_of_kind Integer U32 = true
is_of_kind Integer I64 = true
is_of_kind Integer U64 = true
is_of_kind Integer s = false
is_of_kind SignedInteger AbstractInt = true
is_of_kind SignedInteger I32 = true
is_of_kind SignedInteger I64 = true
is_of_kind SignedInteger s = false
is_of_kind Float AbstractFloat = true
is_of_kind Float F32 = true
is_of_kind Float F16 = true
is_of_kind Float F64 = true
is_of_kind Float s = false
is_of_kind ConcreteScalar AbstractInt = false
is_of_kind ConcreteScalar AbstractFloat = false
is_of_kind ConcreteScalar s = true
is_of_kind ConcreteNumber BoolScalar = false
is_of_kind ConcreteNumber AbstractInt = false
is_of_kind ConcreteNumber AbstractFloat = false
is_of_kind ConcreteNumber s = true
is_of_kind ConcreteInteger I32 = true
is_of_kind ConcreteInteger U32 = true
is_of_kind ConcreteInteger I64 = true
is_of_kind ConcreteInteger U64 = true
is_of_kind ConcreteInteger s = false
is_of_kind ConcreteFloat F32 = true
is_of_kind ConcreteFloat F16 = true
is_of_kind ConcreteFloat F64 = true
is_of_kind ConcreteFloat s = false
is_of_kind Number32 I32 = true
is_of_kind Number32 U32 = true
is_of_kind Number32 F32 = true
is_of_kind Number32 s = false
is_of_kind ShortFloat AbstractFloat = true
is_of_kind ShortFloat F32 = true
is_of_kind ShortFloat F16 = true
is_of_kind ShortFloat s = false
