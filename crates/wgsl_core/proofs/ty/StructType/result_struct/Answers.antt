use Rattle.std.proofs.Common.{◌∙◌, sym, ap, refl, arith}
use Rattle.wgsl_core.specs.internal.ResultStruct.{function_at}
use Rattle.wgsl_core.proofs.Recognition.{not_two, without_shape, without_function, found, another}
use Rattle.wgsl_core.proofs.ty.StructType.result_struct.Goals as goal

pub returns-in_default : goal.returns-in_default
returns-in_default c = not_two _ _ c.as_slice.ensures.value (λ e. omega arith)

pub returns-in_default-2 : goal.returns-in_default-2
returns-in_default-2 c = not_two _ _ c.as_slice.ensures.value (λ e. omega arith)

pub returns-in_err-shape : goal.returns-in_err-shape
returns-in_err-shape c =
    rw c.from_residual.ensures
    (without_shape _ c.as_slice.result.now c.first-item.result c.second-item.result (c.as_slice.ensures.value, omega arith, c.first-item.is, c.second-item.is)
    (sym c.shaped_float.ensures ∙ c.in_err-shape.was))

pub returns-in_err-function : goal.returns-in_err-function
returns-in_err-function c =
    rw c.from_residual-in_err-function.ensures
    (without_function _ c.as_slice.result.now c.first-item.result c.second-item.result (c.as_slice.ensures.value, omega arith, c.first-item.is, c.second-item.is)
    (ap function_at (sym c.as_str.ensures.value) ∙ (sym c.function_named.ensures ∙ c.in_err-function.was)))

pub returns-then-is_result : goal.returns-then-is_result
returns-then-is_result c =
    found _ c.as_slice.result.now c.first-item.result c.second-item.result c.as_str-2.result.now (c.as_slice.ensures.value, omega arith, c.first-item.is, c.second-item.is) _
    c.as_str-2.ensures.value (c.if-is_result.ensures.0 refl)

pub returns-else-is_result : goal.returns-else-is_result
returns-else-is_result c =
    another _ c.as_slice.result.now c.first-item.result c.second-item.result c.as_str-2.result.now (c.as_slice.ensures.value, omega arith, c.first-item.is, c.second-item.is)
    record { function = c.in_ok-function.function; shape = c.in_ok-shape.shape; precision = c.in_ok-shape.precision }
    (sym c.shaped_float.ensures ∙ c.in_ok-shape.was) (ap function_at (sym c.as_str.ensures.value) ∙ (sym c.function_named.ensures ∙ c.in_ok-function.was))
    c.as_str-2.ensures.value (λ h. absurd (cc (c.if-is_result.ensures.1 h)))
