-- What the unary operators take, and what they return (WGSL, "Logical Expressions" to "Bit Expressions", "Address-Of
-- Expression" and "Indirection Expression").
use Rattle.std.specs.Prelude.{◌≢◌, ℕ}
use Rattle.wgsl_syntax.specs.declared.scalar.Scalar.{Scalar}
use Rattle.wgsl_syntax.specs.declared.scalar.Scalar.TheVariants.{Bool}
use Rattle.wgsl_syntax.specs.declared.address.AddressSpace.{AddressSpace}
use Rattle.wgsl_syntax.specs.declared.address.AddressSpace.TheVariants.{Handle}
use Rattle.wgsl_syntax.specs.declared.address.AccessMode.{AccessMode}
use Rattle.wgsl_syntax.specs.declared.operator.UnaryOperator.{UnaryOperator}
use Rattle.wgsl_syntax.specs.declared.operator.UnaryOperator.TheVariants.{LogicalNegation, Negation, BitwiseComplement, AddressOf, Indirection}
use Rattle.wgsl_rules.specs.types.Types.{WgslType, scalar, vec, pointer, reference}
use Rattle.wgsl_rules.specs.types.Kinds.{IsIntegerOrVector}
use Rattle.wgsl_rules.specs.errors.Refusals.{Refusal, unary, ptr_handle}

-- an operator, its operand, and the result
pub data IsUnaryRow : UnaryOperator → WgslType → WgslType → Type 0 where
  -- `!` of a `bool`
  -- !bool : bool
  not_row : IsUnaryRow LogicalNegation (scalar Bool) (scalar Bool)
  -- of a vector of any type
  -- !vec3<bool> : vec3<bool>
  not_vector_row : (n : ℕ) (t : WgslType) → IsUnaryRow LogicalNegation (vec n t) (vec n t)
  -- `-` of any scalar
  -- -f32 : f32
  negation_row : (s : Scalar) → IsUnaryRow Negation (scalar s) (scalar s)
  -- `~` of an integer or a vector of integers
  -- ~vec2<u32> : vec2<u32>
  complement_row : (t : WgslType) → IsIntegerOrVector t → IsUnaryRow BitwiseComplement t t
  -- `&` of a reference that isn't in the handle space: the pointer
  -- &ref<function, f32, read_write> : ptr<function, f32, read_write>
  address_row : (s : AddressSpace) (t : WgslType) (m : AccessMode) → s ≢ Handle →
      IsUnaryRow AddressOf (reference s t m) (pointer s t m)
  -- `*` of a pointer: the reference
  -- *ptr<function, f32, read_write> : ref<function, f32, read_write>
  indirection_row : (s : AddressSpace) (t : WgslType) (m : AccessMode) → IsUnaryRow Indirection (pointer s t m) (reference s t m)

-- Why no row applies: there are no pointers to the handle space; any other refusal names the operator and the operand.
abbrev pub unary_refusal : UnaryOperator → WgslType → Refusal
unary_refusal AddressOf (reference Handle t m) = ptr_handle
unary_refusal o t = unary o t
