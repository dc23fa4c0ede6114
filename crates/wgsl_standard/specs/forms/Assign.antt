-- Assignments, increments and decrements (WGSL, "Assignment Statement" and "Increment and Decrement Statements").
use Rattle.std.specs.Prelude.{◌≡◌, Bool, true, false, [], ◌∷◌, Option, Some, None, Result, Ok, Err}
use Rattle.wgsl_standard.specs.forms.Prelude.{result_unwrap_or, I32, U32, AccessMode, Write, ReadWrite, BinaryOperator, WgslType, scalar, reference, not_constructible}
use Rattle.wgsl_standard.specs.forms.Prelude.{not_write, not_read_write, write_ref_type, binary, IsStandardAnswer, Operand, value_of, binary_overloads, type_eq}
use Rattle.wgsl_syntax.specs.declared.operator.BinaryOperator.TheVariants as operators
use Rattle.wgsl_syntax.specs.declared.operator.AssignmentOperator.{AssignmentOperator}
use Rattle.wgsl_syntax.specs.declared.operator.AssignmentOperator.TheVariants as assignments
use Rattle.wgsl_standard.specs.forms.Concrete.{has_abstract_type}
use Rattle.wgsl_standard.specs.forms.Convert.{converts}
use Rattle.wgsl_standard.specs.forms.Kinds.{is_constructible}
use Rattle.wgsl_standard.specs.forms.Load.{loaded}
use Rattle.wgsl_standard.specs.forms.Questions.{asks, after}
use Rattle.wgsl_standard.specs.forms.Refusals.{Refusal, error, not_reference, not_integer}

abbrev pub may_write : AccessMode → Bool
may_write Write = true
may_write ReadWrite = true
may_write a = false

-- T, if a value of type V may be written to a reference to T
abbrev pub written : WgslType → WgslType → Result WgslType Refusal
written t v = asks (converts v t) (error (write_ref_type v t)) (Ok t)

-- what a reference to T, with that access, and Y make
abbrev pub assigned_to : WgslType → AccessMode → WgslType → Result WgslType Refusal
assigned_to t a y =
    asks (may_write a) (error not_write) (asks (is_constructible t) (error (not_constructible t)) (after (loaded y) (written t)))

-- The type to which X = Y writes.
-- `v = 1;`, where `v` is a variable of `f32` : f32. `v = 1i;` is refused
abbrev pub assigned : WgslType → WgslType → Result WgslType Refusal
assigned (reference s t a) y = assigned_to t a y
-- a value, a `let`, a parameter or a pointer is no reference
assigned x y = Err (not_reference x)

-- the operator of a compound assignment
abbrev pub operator_of : AssignmentOperator → Option BinaryOperator
operator_of assignments.Equal = None
operator_of assignments.PlusEqual = Some operators.Addition
operator_of assignments.MinusEqual = Some operators.Subtraction
operator_of assignments.TimesEqual = Some operators.Multiplication
operator_of assignments.DivisionEqual = Some operators.Division
operator_of assignments.ModuloEqual = Some operators.Remainder
operator_of assignments.AndEqual = Some operators.BitwiseAnd
operator_of assignments.OrEqual = Some operators.BitwiseOr
operator_of assignments.XorEqual = Some operators.BitwiseXor
operator_of assignments.ShiftRightAssign = Some operators.ShiftRight
operator_of assignments.ShiftLeftAssign = Some operators.ShiftLeft

-- an operand as operators take it: what can be read is loaded
abbrev pub operator_operand : Operand → Operand
operator_operand x = record { of_type = value_of x.of_type; is_constant = x.is_constant }

-- a value that is read from memory, which is no const-expression unless its type is abstract
abbrev pub stored_operand : WgslType → Operand
stored_operand t = record { of_type = t; is_constant = has_abstract_type t }

-- T, if the operator takes a value of type T and Y, and its result is T
-- `v += 1;`, where `v` is a variable of `f32` : f32. `v += 1i;` is refused, and so is `f *= vec2f();`
abbrev pub compound : BinaryOperator → WgslType → WgslType → Option (Option WgslType) → Result WgslType Refusal
compound o t y (Some (Some r)) = asks (type_eq r t) (error (write_ref_type r t)) (Ok t)
compound o t y r = Err (error (binary o t (result_unwrap_or (loaded y) y)))

-- the same, by the overload for both operands
abbrev pub IsCompound : BinaryOperator → WgslType → Operand → Result WgslType Refusal → Type 0
IsCompound o t y r = (found : Option (Option WgslType))
    × IsStandardAnswer (binary_overloads o) (operator_operand (stored_operand t) ∷ operator_operand y ∷ []) found
    × (r ≡ compound o t y.of_type found)

-- what a reference to T, with that access, and Y make
abbrev pub IsCompoundTo : BinaryOperator → WgslType → AccessMode → Operand → Result WgslType Refusal → Type 0
IsCompoundTo o t ReadWrite y r = IsCompound o t y r
IsCompoundTo o t a y r = r ≡ Err (error not_read_write)

-- The type to which X OP= Y writes.
abbrev pub IsAssignedBy : BinaryOperator → WgslType → Operand → Result WgslType Refusal → Type 0
IsAssignedBy o (reference s t a) y r = IsCompoundTo o t a y r
IsAssignedBy o x y r = r ≡ Err (not_reference x)

-- the same for each assignment operator
abbrev pub IsAssigned : Option BinaryOperator → WgslType → Operand → Result WgslType Refusal → Type 0
IsAssigned (Some o) x y r = IsAssignedBy o x y r
IsAssigned None x y r = r ≡ assigned x y.of_type

-- `i++;`, where `i` is a variable of `i32` or `u32`
abbrev pub is_counter : WgslType → Bool
is_counter (scalar I32) = true
is_counter (scalar U32) = true
is_counter t = false

-- what a reference to T, with that access, counts
abbrev pub incremented_in : WgslType → AccessMode → Result WgslType Refusal
incremented_in t ReadWrite = asks (is_counter t) (not_integer t) (Ok t)
incremented_in t a = Err (error not_read_write)

-- The type of what X++ and X-- count.
abbrev pub incremented : WgslType → Result WgslType Refusal
incremented (reference s t a) = incremented_in t a
incremented x = Err (not_reference x)
