-- Conditions, and the values that functions return (WGSL, "Control Flow" and "Return Statement").
use Rattle.std.specs.Prelude.{Bool, true, false, Result, Ok}
use Rattle.wgsl_syntax.specs.declared.scalar.Scalar.TheVariants as scalars
use Rattle.wgsl_standard.specs.forms.Prelude.{WgslType, scalar, not_constructible}
use Rattle.wgsl_standard.specs.forms.Convert.{converts}
use Rattle.wgsl_standard.specs.forms.Declare.{is_const_type}
use Rattle.wgsl_standard.specs.forms.Load.{loaded}
use Rattle.wgsl_standard.specs.forms.Questions.{asks, after}
use Rattle.wgsl_standard.specs.forms.Refusals.{Refusal, error, not_condition, not_returned}

abbrev pub is_bool : WgslType → Bool
is_bool (scalar scalars.Bool) = true
is_bool t = false

abbrev pub condition_loaded : WgslType → Result WgslType Refusal
condition_loaded v = asks (is_bool v) (not_condition v) (Ok v)

-- The condition of `if`, `while`, `for`, `break if` and `const_assert`: a `bool`. `if 1u { }` is refused
abbrev pub condition : WgslType → Result WgslType Refusal
condition x = after (loaded x) condition_loaded

abbrev pub returned_loaded : WgslType → WgslType → Result WgslType Refusal
returned_loaded t v = asks (converts v t) (not_returned t v) (Ok t)

-- `return 1;` in a function that returns `f32` : f32. `return 1i;` is refused
abbrev pub returned : WgslType → WgslType → Result WgslType Refusal
returned t x = asks (is_const_type t) (error (not_constructible t)) (after (loaded x) (returned_loaded t))
