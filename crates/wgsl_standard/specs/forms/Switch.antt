-- `switch` (WGSL, "Switch Statement").
use Rattle.std.specs.Prelude.{List, [], ◌∷◌, Bool, true, false, ◌&&◌, Option, Some, None, Result, Ok}
use Rattle.wgsl_standard.specs.forms.Prelude.{Scalar, I32, U32, WgslType, scalar, conversion, Operand}
use Rattle.wgsl_standard.specs.forms.Expressions.{is_const_expression}
use Rattle.wgsl_standard.specs.forms.Index.{is_index}
use Rattle.wgsl_standard.specs.forms.Lists.{Fits}
use Rattle.wgsl_standard.specs.forms.Load.{loaded}
use Rattle.wgsl_standard.specs.forms.Questions.{asks, after}
use Rattle.wgsl_standard.specs.forms.Refusals.{Refusal, error, not_const, not_integer}

-- `switch f`, where `f` is a variable of `f32`, is refused
abbrev pub integer_loaded : WgslType → Fits
integer_loaded v = asks (is_index v) (not_integer v) (Ok tt)

abbrev pub is_integer_value : WgslType → Fits
is_integer_value x = after (loaded x) integer_loaded

-- the selector and the cases are integers
abbrev pub are_integers : List Operand → Fits
are_integers (x ∷ xs) = after (is_integer_value x.of_type) (λ u. are_integers xs)
are_integers [] = Ok tt

-- the cases are const-expressions
abbrev pub are_constant : List Operand → Bool
are_constant (x ∷ xs) = is_const_expression x && are_constant xs
are_constant [] = true

-- which of `i32` and `u32` a value has, if it isn't abstract
abbrev pub concrete_integer : Result WgslType Refusal → Option Scalar
concrete_integer (Ok (scalar I32)) = Some I32
concrete_integer (Ok (scalar U32)) = Some U32
concrete_integer r = None

abbrev or_else : Option Scalar → Option Scalar → Option Scalar
or_else (Some s) r = Some s
or_else None r = r

-- that of the first value that has one
abbrev pub first_concrete : List Operand → Option Scalar
first_concrete (x ∷ xs) = or_else (concrete_integer (loaded x.of_type)) (first_concrete xs)
first_concrete [] = None

abbrev pub other_integer : Scalar → Scalar
other_integer I32 = U32
other_integer s = I32

-- a value is abstract, or has that type
abbrev pub agrees : Scalar → Option Scalar → Bool
agrees I32 (Some U32) = false
agrees U32 (Some I32) = false
agrees s r = true

abbrev pub all_agree : Scalar → List Operand → Bool
all_agree s (x ∷ xs) = agrees s (concrete_integer (loaded x.of_type)) && all_agree s xs
all_agree s [] = true

-- the type of a `switch` over these values
abbrev pub switched : Option Scalar → List Operand → Result Scalar Refusal
-- `switch 1 { case 2 {} }` : i32
switched None xs = Ok I32
-- `switch u { case 2 {} }` : u32. `switch u { case 2i {} }` is refused
switched (Some s) xs = asks (all_agree s xs) (error (conversion (scalar (other_integer s)) (scalar s))) (Ok s)

-- The type of a `switch`: of its selector and its cases.
abbrev pub switch_type : Operand → List Operand → Result Scalar Refusal
switch_type x ys =
    after (are_integers (x ∷ ys)) (λ u. asks (are_constant ys) not_const (switched (first_concrete (x ∷ ys)) (x ∷ ys)))
