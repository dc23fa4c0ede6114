-- The answers of calls that can refuse or be out of memory.
use Rattle.std.specs.Prelude.{◌≡◌, ℕ, List, Result, Ok, Err, codes, string_bytes}
use Rattle.wgsl_syntax.specs.declared.operator.BinaryOperator.{BinaryOperator}
use Rattle.wgsl_rules.specs.types.Types.{WgslType}
use Rattle.wgsl_rules.specs.types.Kinds.{IsScalar}
use Rattle.wgsl_rules.specs.operators.Answers.{IsOperatorAnswer, IsChosenResult}
use Rattle.wgsl_rules.specs.errors.Refusals.{Refusal, message, todo, not_scalar, not_constructible, sampled_type, unknown_type, unexpected_template, missing_template, write_ref_type, not_write, not_read, not_read_write, ptr_handle, ptr_vec_comp, conversion, conv_overflow, component, not_indexable, out_of_bounds, unary, binary, compwise_binary, add_overflow, sub_overflow, mul_overflow, div_by_zero, rem_zero_div, shl_overflow, shr_overflow, signature, builtin, template_args, param_count, param_type}
use Rattle.wgsl_core.specs.View.{view}
use Rattle.wgsl_core.specs.Instances.{literal_view, signature_view}
use Rattle.wgsl_core.specs.declared.ty.Type.{«Type»}
use Rattle.wgsl_core.specs.declared.error.Error.{Error}
use Rattle.wgsl_core.specs.declared.error.Error.TheVariants as errors
use Rattle.wgsl_core.specs.declared.error.Fail.{Fail}
use Rattle.wgsl_core.specs.declared.error.Fail.TheVariants as fails

-- the refusal that an error stands for
abbrev pub refusal : Error → Refusal
refusal (errors.Todo v) = todo (string_bytes v)
refusal (errors.NotScalar t) = not_scalar (view t)
refusal (errors.NotConstructible t) = not_constructible (view t)
refusal (errors.SampledType t) = sampled_type (view t)
refusal (errors.UnknownType s) = unknown_type (string_bytes s)
refusal (errors.UnexpectedTemplate s) = unexpected_template (string_bytes s)
refusal (errors.MissingTemplate s) = missing_template s.now
refusal (errors.WriteRefType n t) = write_ref_type (view n) (view t)
refusal errors.NotWrite = not_write
refusal errors.NotRead = not_read
refusal errors.NotReadWrite = not_read_write
refusal errors.PtrHandle = ptr_handle
refusal errors.PtrVecComp = ptr_vec_comp
refusal (errors.Conversion a b) = conversion (view a) (view b)
refusal (errors.ConvOverflow l t) = conv_overflow (literal_view l) (view t)
refusal (errors.Component t s) = component (view t) (string_bytes s)
refusal (errors.NotIndexable t) = not_indexable (view t)
refusal (errors.OutOfBounds i t n) = out_of_bounds i (view t) n
refusal (errors.Unary o t) = unary o (view t)
refusal (errors.Binary o a b) = binary o (view a) (view b)
refusal (errors.CompwiseBinary a b) = compwise_binary (view a) (view b)
refusal errors.AddOverflow = add_overflow
refusal errors.SubOverflow = sub_overflow
refusal errors.MulOverflow = mul_overflow
refusal errors.DivByZero = div_by_zero
refusal errors.RemZeroDiv = rem_zero_div
refusal (errors.ShlOverflow n l) = shl_overflow n (literal_view l)
refusal (errors.ShrOverflow n l) = shr_overflow n (literal_view l)
refusal (errors.Signature c) = signature (signature_view c)
refusal (errors.Builtin s) = builtin s.now
refusal (errors.TemplateArgs s) = template_args s.now
refusal (errors.ParamCount s e n) = param_count (string_bytes s) e n
refusal (errors.ParamType e t) = param_type (view e) (view t)

abbrev pub fail_text : Fail Error → List ℕ
fail_text (fails.Error e) = message (refusal e)
fail_text (fails.Memory e) = codes "out of memory"

-- P holds of the value as `seen` shows it, or of the refusal. Out of memory satisfies any P.
abbrev pub AnswersAs : {A B : Type 0} → (A → B) → (Result B Refusal → Type 0) → Result A (Fail Error) → Type 0
AnswersAs seen P (Ok a) = P (Ok (seen a))
AnswersAs seen P (Err (fails.Error e)) = P (Err (refusal e))
AnswersAs seen P (Err (fails.Memory e)) = Unit {0}

-- the same for types
abbrev pub AnswersBy : (Result WgslType Refusal → Type 0) → Result «Type» (Fail Error) → Type 0
AnswersBy P r = AnswersAs view P r

-- The value or the refusal is that of the answer. Out of memory stands for any answer.
abbrev pub Gives : {A : Type 0} → Result A Refusal → Result A (Fail Error) → Type 0
Gives answer (Ok a) = answer ≡ Ok a
Gives answer (Err (fails.Error e)) = answer ≡ Err (refusal e)
Gives answer (Err (fails.Memory e)) = Unit {0}

-- the call isn't out of memory
abbrev pub IsAnswered : {A E : Type 0} → Result A (Fail E) → Type 0
IsAnswered (Ok a) = Unit {0}
IsAnswered (Err (fails.Error e)) = Unit {0}
IsAnswered (Err (fails.Memory e)) = ⊥

-- The type of a binary expression: by the operator's row, and for value types by overload resolution. Operators on
-- scalars are never out of memory.
pub record IsTypeOfBinary (o : BinaryOperator) (a b : WgslType) (result : Result «Type» (Fail Error)) : Type 0 where
  pub row : AnswersBy (IsOperatorAnswer o a b) result
  pub least : AnswersBy (IsChosenResult o a b) result
  pub never_out_of_memory_on_scalars : IsScalar a → IsScalar b → IsAnswered result
