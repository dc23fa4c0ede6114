-- Literals, their scalar types, and how they are written (WGSL, "Literals").
use Rattle.std.specs.Prelude.{ℕ, ℤ, Bool, true, false, List, ◌++◌, codes, decimal}
use Rattle.std.specs.Fmt.{signed_decimal}
use Rattle.wgsl_syntax.specs.declared.scalar.Scalar.{Scalar}
use Rattle.wgsl_syntax.specs.declared.scalar.Scalar.TheVariants as scalars

pub data Literal : Type 0 where
  bool : Bool → Literal
  abstract_int : ℤ → Literal
  i32 : ℤ → Literal
  u32 : ℕ → Literal
  i64 : ℤ → Literal
  u64 : ℕ → Literal

abbrev pub literal_scalar : Literal → Scalar
literal_scalar (bool b) = scalars.Bool
literal_scalar (abstract_int n) = scalars.AbstractInt
literal_scalar (i32 n) = scalars.I32
literal_scalar (u32 n) = scalars.U32
literal_scalar (i64 n) = scalars.I64
literal_scalar (u64 n) = scalars.U64

abbrev pub literal_text : Literal → List ℕ
literal_text (bool true) = codes "true"
literal_text (bool false) = codes "false"
literal_text (abstract_int n) = signed_decimal n
literal_text (i32 n) = signed_decimal n ++ codes "i"
literal_text (u32 n) = decimal n ++ codes "u"
literal_text (i64 n) = signed_decimal n ++ codes "li"
literal_text (u64 n) = decimal n ++ codes "lu"
