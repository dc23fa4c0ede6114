-- The load of a reference (WGSL, "Load Rule").
use Rattle.std.specs.Prelude.{Result, Ok, Err, Bool, true, false, ◌||◌, cond}
use Rattle.wgsl_standard.specs.forms.Prelude.{AccessMode, Read, ReadWrite, WgslType, reference, not_read, not_constructible, Operand}
use Rattle.wgsl_standard.specs.forms.Expressions.{is_const_expression}
use Rattle.wgsl_standard.specs.forms.Kinds.{is_constructible, is_handle}
use Rattle.wgsl_standard.specs.forms.Refusals.{Refusal, error}

-- what memory may hold to be loaded
abbrev pub is_loadable : WgslType → Bool
is_loadable t = is_constructible t || is_handle t

abbrev pub may_read : AccessMode → Bool
may_read Read = true
may_read ReadWrite = true
may_read a = false

-- what memory with that access mode loads as, where it holds that type
abbrev pub stored_loaded : AccessMode → WgslType → Result WgslType Refusal
stored_loaded a t = cond (may_read a) (cond (is_loadable t) (Ok t) (Err (error (not_constructible t)))) (Err (error not_read))

abbrev pub loaded : WgslType → Result WgslType Refusal
-- `ref<function, f32, read_write>` : f32. `ref<function, i32, write>` is refused, and so is
-- `ref<workgroup, atomic<i32>, read_write>`
loaded (reference s t a) = stored_loaded a t
-- what is no reference stays: `i32`, `ptr<function, i32, read_write>`
loaded t = Ok t

abbrev loaded_operand : Operand → Result WgslType Refusal → Result Operand Refusal
loaded_operand x (Ok t) = Ok (record { of_type = t; is_constant = is_const_expression x })
loaded_operand x (Err r) = Err r

-- the operand, loaded; a value stays a const-expression if it is one
abbrev pub load_answer : Operand → Result Operand Refusal
load_answer x = loaded_operand x (loaded x.of_type)
