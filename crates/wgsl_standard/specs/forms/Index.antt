-- Indexes into vectors, matrices and arrays (WGSL, "Vector Access", "Matrix Access" and "Array Access").
use Rattle.std.specs.Prelude.{Option, Some, None, Result, Ok, Err, Bool, true, false, ◌&&◌, ◌||◌, cond}
use Rattle.wgsl_standard.specs.forms.Prelude.{AbstractInt, I32, U32, WgslType, scalar, array, vec, mat, binding_array, not_indexable, Operand, Referent, Whole}
use Rattle.wgsl_standard.specs.forms.Prelude.{Component}
use Rattle.wgsl_standard.specs.forms.Memory.{behind, formed_from, is_memory}
use Rattle.wgsl_standard.specs.forms.Concrete.{concrete_of}
use Rattle.wgsl_standard.specs.forms.Expressions.{Expression, is_const_expression, referent_in}
use Rattle.wgsl_standard.specs.forms.Load.{loaded}
use Rattle.wgsl_standard.specs.forms.Refusals.{Refusal, error, not_integer}

abbrev pub element_of : WgslType → Option WgslType
-- vec3<f32> : f32
element_of (vec n e) = Some e
-- mat2x3<f32> : vec3<f32>
element_of (mat c r e) = Some (vec r e)
-- array<f32, 4> and array<f32> : f32
element_of (array n e) = Some e
element_of (binding_array n e) = Some e
element_of t = None

abbrev pub is_vector : WgslType → Bool
is_vector (vec n e) = true
is_vector t = false

-- what a reference to an element refers to
abbrev pub element_referent : WgslType → Referent
element_referent t = cond (is_vector t) Component Whole

-- `i32`, `u32`, or an integer literal
abbrev pub is_index : WgslType → Bool
is_index (scalar AbstractInt) = true
is_index (scalar I32) = true
is_index (scalar U32) = true
is_index t = false

-- the type that is indexed: that of a value is made concrete first, unless the index is a const-expression
abbrev pub indexed_type : Operand → Operand → WgslType
indexed_type x i = cond (is_memory x.of_type || is_const_expression i) (behind x.of_type) (concrete_of (behind x.of_type))

-- the element in an operand
abbrev pub element_in : Operand → Operand → WgslType → Expression
element_in x i e = record {
  of_type = formed_from x.of_type e;
  is_constant = is_const_expression x && is_const_expression i;
  referent = referent_in x.of_type (element_referent (behind x.of_type));
}

abbrev pub indexed_by : Operand → Operand → WgslType → Result WgslType Refusal → Result Expression Refusal
indexed_by x i e (Ok t) = cond (is_index t) (Ok (element_in x i e)) (Err (not_integer t))
indexed_by x i e (Err r) = Err r

abbrev pub expression_of_element : Operand → Operand → Option WgslType → Result Expression Refusal
-- `m[i]` : vec3<f32>, and of `ptr<private, mat2x3<f32>, read_write>` it is `ref<private, vec3<f32>, read_write>`. `v[1.0]` is
-- refused
expression_of_element x i (Some e) = indexed_by x i e (loaded i.of_type)
-- `f32` cannot be indexed
expression_of_element x i None = Err (error (not_indexable (behind x.of_type)))

-- what `x[i]` is
abbrev pub index_answer : Operand → Operand → Result Expression Refusal
index_answer x i = expression_of_element x i (element_of (indexed_type x i))
