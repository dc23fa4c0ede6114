-- Declarations without memory, and the phony assignment (WGSL, "Value Declarations" and "Phony Assignment").
use Rattle.std.specs.Prelude.{Bool, true, false, not, ◌&&◌, ◌||◌, Option, Some, None, Result, Ok}
use Rattle.wgsl_syntax.specs.declared.scalar.Scalar.TheVariants as scalars
use Rattle.wgsl_standard.specs.forms.Prelude.{WgslType, scalar, pointer, not_constructible, not_scalar, Operand, Let, Const, Override}
use Rattle.wgsl_standard.specs.forms.Concrete.{concrete_of, has_abstract_type}
use Rattle.wgsl_standard.specs.forms.Convert.{converted}
use Rattle.wgsl_standard.specs.forms.Expressions.{is_const_expression}
use Rattle.wgsl_standard.specs.forms.Kinds.{is_constructible, is_handle}
use Rattle.wgsl_standard.specs.forms.Load.{loaded}
use Rattle.wgsl_standard.specs.forms.Questions.{asks, after}
use Rattle.wgsl_standard.specs.forms.Refusals.{Refusal, error, not_const}
use Rattle.wgsl_standard.specs.declared.forms.declare.Declaration.{Declaration}

-- what `let` can name: `f32`, `ptr<function, i32, read_write>`, `sampler`
abbrev pub may_be_let : WgslType → Bool
may_be_let (pointer s t a) = true
may_be_let t = is_constructible t || is_handle t

-- the types that may be written behind the colon of a `let` or of a parameter: those that `let` can name, if they are concrete
abbrev pub is_let_type : WgslType → Bool
is_let_type t = may_be_let t && not (has_abstract_type t)

-- what stands behind the colon of a `const`: a concrete type whose values can be made
abbrev pub is_const_type : WgslType → Bool
is_const_type t = is_constructible t && not (has_abstract_type t)

-- what an `override` can be
abbrev pub is_override_type : WgslType → Bool
is_override_type (scalar scalars.Bool) = true
is_override_type (scalar scalars.I32) = true
is_override_type (scalar scalars.U32) = true
is_override_type (scalar scalars.F32) = true
is_override_type (scalar scalars.F16) = true
is_override_type t = false

-- The value that `let` names without a type, and that `_ =` takes: loaded, and made concrete.
-- `let x = 1;` : i32. `let p = &v;` : ptr<function, i32, read_write>. `let x = a;`, where `a` is atomic, is refused.
abbrev pub taken_loaded : WgslType → Result WgslType Refusal
taken_loaded v = asks (may_be_let v) (error (not_constructible v)) (Ok (concrete_of v))

abbrev pub taken : WgslType → Result WgslType Refusal
taken x = after (loaded x) taken_loaded

-- `let x: f16 = 1;` : f16. `let x: array<i32> = a;` is refused, and so is `let x: f32 = 1i;`
abbrev pub named_by_let : WgslType → WgslType → Result WgslType Refusal
named_by_let x t = asks (is_let_type t) (error (not_constructible t)) (after (loaded x) (λ v. converted v t))

-- `const x = 1;` : AbstractInt. `const x: f32 = 1;` : f32
abbrev pub named_by_const : WgslType → Option WgslType → Result WgslType Refusal
named_by_const x None = asks (is_constructible x) (error (not_constructible x)) (Ok x)
named_by_const x (Some t) = asks (is_const_type t) (error (not_constructible t)) (converted x t)

-- `override x: f32;` : f32. `override x: vec3<f32>;` is refused
abbrev pub overridden : WgslType → Result WgslType Refusal
overridden t = asks (is_override_type t) (error (not_scalar t)) (Ok t)

-- `override x = 1;` : i32. `override x: f32 = 1;` : f32
abbrev pub named_by_override : WgslType → Option WgslType → Result WgslType Refusal
named_by_override x None = overridden (concrete_of x)
named_by_override x (Some t) = asks (is_override_type t) (error (not_scalar t)) (converted x t)

-- The type of what a declaration names, by its value and by the type behind the colon, if there is one.
-- `const x = i;`, where `i` is a variable, is refused.
abbrev pub declared : Declaration → Operand → Option WgslType → Result WgslType Refusal
declared Let x None = taken x.of_type
declared Let x (Some t) = named_by_let x.of_type t
declared Const x t = asks (is_const_expression x) not_const (named_by_const x.of_type t)
declared Override x t = asks (is_const_expression x) not_const (named_by_override x.of_type t)
