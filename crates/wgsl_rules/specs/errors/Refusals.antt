-- Why an expression has no type or no value, and the message that says so (WGSL, "Errors").
use Rattle.std.specs.Prelude.{ℕ, List, ◌++◌, codes, decimal}
use Rattle.wgsl_syntax.specs.Operator.{binary_text, unary_text}
use Rattle.wgsl_syntax.specs.declared.operator.BinaryOperator.{BinaryOperator}
use Rattle.wgsl_syntax.specs.declared.operator.UnaryOperator.{UnaryOperator}
use Rattle.wgsl_syntax.specs.declared.rules.RuleSet.{RuleSet}
use Rattle.wgsl_syntax.specs.declared.rules.RuleSet.TheVariants.{Ported}
use Rattle.wgsl_rules.specs.types.Types.{WgslType}
use Rattle.wgsl_rules.specs.types.Kinds.{IsLeaf}
use Rattle.wgsl_rules.specs.types.Literals.{Literal, literal_text}
use Rattle.wgsl_rules.specs.types.Signatures.{Signature, signature_text}
use Rattle.wgsl_rules.specs.types.Spelling.{spelling_by}

pub data Refusal : Type 0 where
  todo : List ℕ → Refusal
  not_scalar : WgslType → Refusal
  not_constructible : WgslType → Refusal
  sampled_type : WgslType → Refusal
  unknown_type : List ℕ → Refusal
  unexpected_template : List ℕ → Refusal
  missing_template : List ℕ → Refusal
  write_ref_type : WgslType → WgslType → Refusal
  not_write : Refusal
  not_read : Refusal
  not_read_write : Refusal
  ptr_handle : Refusal
  ptr_vec_comp : Refusal
  conversion : WgslType → WgslType → Refusal
  conv_overflow : Literal → WgslType → Refusal
  component : WgslType → List ℕ → Refusal
  not_indexable : WgslType → Refusal
  out_of_bounds : ℕ → WgslType → ℕ → Refusal
  unary : UnaryOperator → WgslType → Refusal
  binary : BinaryOperator → WgslType → WgslType → Refusal
  compwise_binary : WgslType → WgslType → Refusal
  add_overflow : Refusal
  sub_overflow : Refusal
  mul_overflow : Refusal
  div_by_zero : Refusal
  rem_zero_div : Refusal
  shl_overflow : ℕ → Literal → Refusal
  shr_overflow : ℕ → Literal → Refusal
  signature : Signature → Refusal
  builtin : List ℕ → Refusal
  template_args : List ℕ → Refusal
  param_count : List ℕ → ℕ → ℕ → Refusal
  param_type : WgslType → WgslType → Refusal

-- the message, by the names of these rules
abbrev pub message_by : RuleSet → Refusal → List ℕ
message_by rules (todo v) = codes "not implemented: `" ++ v ++ codes "`"
message_by rules (not_scalar t) = codes "expected a scalar type, got `" ++ spelling_by rules t ++ codes "`"
message_by rules (not_constructible t) = codes "`" ++ spelling_by rules t ++ codes "` is not constructible"
message_by rules (sampled_type t) = codes "invalid sampled type, expected `i32`, `u32` or `f32`, got `" ++ spelling_by rules t ++ codes "`"
message_by rules (unknown_type s) = codes "unknown type `" ++ s ++ codes "`"
message_by rules (unexpected_template s) = codes "type `" ++ s ++ codes "` does not take any template arguments"
message_by rules (missing_template s) = codes "missing template arguments for type `" ++ s ++ codes "`"
message_by rules (write_ref_type n t) = codes "cannot write a `" ++ spelling_by rules n ++ codes "` to a reference to `" ++ spelling_by rules t ++ codes "`"
message_by rules not_write = codes "attempt to write to a read-only reference"
message_by rules not_read = codes "attempt to read a write-only reference"
message_by rules not_read_write = codes "reference is not read-write"
message_by rules ptr_handle = codes "cannot create a pointer in `handle` address space"
message_by rules ptr_vec_comp = codes "cannot create a pointer to a vector component"
message_by rules (conversion a b) = codes "cannot convert from `" ++ spelling_by rules a ++ codes "` to `" ++ spelling_by rules b ++ codes "`"
message_by rules (conv_overflow l t) = codes "overflow while converting `" ++ literal_text l ++ codes "` to `" ++ spelling_by rules t ++ codes "`"
message_by rules (component t s) = codes "`" ++ spelling_by rules t ++ codes "` has no component `" ++ s ++ codes "`"
message_by rules (not_indexable t) = codes "`" ++ spelling_by rules t ++ codes "` cannot be indexed"
message_by rules (out_of_bounds i t n) =
    codes "index `" ++ decimal i ++ codes "` is out-of-bounds for `" ++ spelling_by rules t ++ codes "` of `" ++ decimal n ++ codes "` components"
message_by rules (unary o t) = codes "cannot use unary operator `" ++ unary_text o ++ codes "` on type `" ++ spelling_by rules t ++ codes "`"
message_by rules (binary o a b) =
    codes "cannot use binary operator `" ++ binary_text o ++ codes "` with operands `" ++ spelling_by rules a ++ codes "` and `" ++ spelling_by rules b ++ codes "`"
message_by rules (compwise_binary a b) =
    codes "cannot apply component-wise binary operation on operands `" ++ spelling_by rules a ++ codes "` and `" ++ spelling_by rules b ++ codes "`"
message_by rules add_overflow = codes "attempt to add with overflow"
message_by rules sub_overflow = codes "attempt to subtract with overflow"
message_by rules mul_overflow = codes "attempt to multiply with overflow"
message_by rules div_by_zero = codes "attempt to divide by zero"
message_by rules rem_zero_div = codes "attempt to calculate the remainder with a divisor of zero"
message_by rules (shl_overflow n l) = codes "attempt to shift left by `" ++ decimal n ++ codes "`, which would overflow `" ++ literal_text l ++ codes "`"
message_by rules (shr_overflow n l) = codes "attempt to shift right by `" ++ decimal n ++ codes "`, which would overflow `" ++ literal_text l ++ codes "`"
message_by rules (signature c) = codes "invalid function call signature: `" ++ signature_text c ++ codes "`"
message_by rules (builtin s) = s
message_by rules (template_args s) = codes "invalid template arguments to `" ++ s ++ codes "`"
message_by rules (param_count s e n) =
    codes "incorrect number of arguments to `" ++ s ++ codes "`, expected `" ++ decimal e ++ codes "`, got `" ++ decimal n ++ codes "`"
message_by rules (param_type e t) = codes "invalid parameter type, expected `" ++ spelling_by rules e ++ codes "`, got `" ++ spelling_by rules t ++ codes "`"

-- by naga's, as the ported rules say it
abbrev pub message : Refusal → List ℕ
message r = message_by Ported r

-- A refusal that needs no memory: the types that it names are leaf types, and its texts are static.
abbrev pub IsLeafRefusal : Refusal → Type 0
IsLeafRefusal (todo v) = ⊥
IsLeafRefusal (not_scalar t) = IsLeaf t
IsLeafRefusal (not_constructible t) = IsLeaf t
IsLeafRefusal (sampled_type t) = IsLeaf t
IsLeafRefusal (unknown_type s) = ⊥
IsLeafRefusal (unexpected_template s) = ⊥
IsLeafRefusal (write_ref_type n t) = IsLeaf n × IsLeaf t
IsLeafRefusal (conversion a b) = IsLeaf a × IsLeaf b
IsLeafRefusal (conv_overflow l t) = IsLeaf t
IsLeafRefusal (component t s) = ⊥
IsLeafRefusal (not_indexable t) = IsLeaf t
IsLeafRefusal (out_of_bounds i t n) = IsLeaf t
IsLeafRefusal (unary o t) = IsLeaf t
IsLeafRefusal (binary o a b) = IsLeaf a × IsLeaf b
IsLeafRefusal (compwise_binary a b) = IsLeaf a × IsLeaf b
IsLeafRefusal (signature c) = ⊥
IsLeafRefusal (param_count s e n) = ⊥
IsLeafRefusal (param_type e t) = IsLeaf e × IsLeaf t
IsLeafRefusal r = Unit {0}
