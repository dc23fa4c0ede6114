-- The operators `&` and `*` (WGSL, "Address-Of Expression" and "Indirection Expression").
use Rattle.std.specs.Prelude.{Result, Ok, Err, Bool, true, false, cond}
use Rattle.wgsl_standard.specs.forms.Prelude.{Handle, WgslType, pointer, reference, unary, ptr_handle, ptr_vec_comp, Referent, Whole}
use Rattle.wgsl_syntax.specs.declared.operator.UnaryOperator.TheVariants.{AddressOf, Indirection}
use Rattle.wgsl_standard.specs.forms.Expressions.{Expression}
use Rattle.wgsl_standard.specs.forms.Refusals.{Refusal, error}

-- an expression that is no const-expression
abbrev pub at_run_time : WgslType → Expression
at_run_time t = record { of_type = t; is_constant = false; referent = Whole }

-- no pointers point to components of a vector
abbrev pub has_address : Referent → Bool
has_address Whole = true
has_address r = false

-- what `&x` is, where x may be a reference to components of a vector
abbrev pub address_answer : Referent → WgslType → Result Expression Refusal
-- no pointers point to textures and samplers
address_answer r (reference Handle t a) = Err (error ptr_handle)
-- `&x` of `ref<function, i32, read_write>` : ptr<function, i32, read_write>; `&v.x` and `&v.xy` are refused
address_answer r (reference s t a) = cond (has_address r) (Ok (at_run_time (pointer s t a))) (Err (error ptr_vec_comp))
-- `&1` is refused
address_answer r t = Err (error (unary AddressOf t))

-- what `*x` is
abbrev pub indirection_answer : WgslType → Result Expression Refusal
-- `*p` of `ptr<function, i32, read_write>` : ref<function, i32, read_write>
indirection_answer (pointer s t a) = Ok (at_run_time (reference s t a))
-- `*1` is refused
indirection_answer t = Err (error (unary Indirection t))
