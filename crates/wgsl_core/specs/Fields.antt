-- The fields of a refusal, and the message with them in their places.
use Rattle.std.specs.Prelude.{ℕ, List, [], ◌++◌, decimal}
use Rattle.wgsl_syntax.specs.Operator.{binary_text, unary_text}
use Rattle.wgsl_syntax.specs.declared.operator.BinaryOperator.{BinaryOperator}
use Rattle.wgsl_syntax.specs.declared.operator.UnaryOperator.{UnaryOperator}
use Rattle.wgsl_rules.specs.errors.Refusals.{Refusal, todo, not_scalar, not_constructible, sampled_type, unknown_type, unexpected_template, missing_template, write_ref_type, not_write, not_read, not_read_write, ptr_handle, ptr_vec_comp, conversion, conv_overflow, component, not_indexable, out_of_bounds, unary, binary, compwise_binary, add_overflow, sub_overflow, mul_overflow, div_by_zero, rem_zero_div, shl_overflow, shr_overflow, signature, builtin, template_args, param_count, param_type}
use Rattle.wgsl_rules.specs.types.Literals.{Literal, literal_text}
use Rattle.wgsl_rules.specs.types.Signatures.{Signature, signature_text}
use Rattle.wgsl_rules.specs.types.Spelling.{spelling}
use Rattle.wgsl_rules.specs.types.Types.{WgslType}
use Rattle.wgsl_core.specs.Instances.{literal_view, signature_view}
use Rattle.wgsl_core.specs.View.{view}
use Rattle.wgsl_core.specs.declared.error.fields.Field.{Field as FieldOfCode}
use Rattle.wgsl_core.specs.declared.error.fields.Field.TheVariants as fields
use Rattle.wgsl_core.specs.declared.error.fields.Fields.{Fields as FieldsOfCode}
use Rattle.wgsl_core.specs.declared.error.fields.Texts.{Texts}
use Rattle.wgsl_core.specs.declared.error.fields.Texts.TheVariants as texts

pub data Field : Type 0 where
  no_field : Field
  text_field : List ℕ → Field
  type_field : WgslType → Field
  literal_field : Literal → Field
  number_field : ℕ → Field
  unary_field : UnaryOperator → Field
  binary_field : BinaryOperator → Field
  call_field : Signature → Field

abbrev pub field_text : Field → List ℕ
field_text no_field = []
field_text (text_field s) = s
field_text (type_field t) = spelling t
field_text (literal_field l) = literal_text l
field_text (number_field n) = decimal n
field_text (unary_field o) = unary_text o
field_text (binary_field o) = binary_text o
field_text (call_field c) = signature_text c

abbrev pub Fields : Type 0
Fields = ℕ × Field × Field × Field

-- three at most, behind a number that tells the refusal from the others with such fields
abbrev pub fields_of : Refusal → Fields
fields_of (todo s) = (0, text_field s, no_field, no_field)
fields_of (not_scalar t) = (0, type_field t, no_field, no_field)
fields_of (not_constructible t) = (1, type_field t, no_field, no_field)
fields_of (sampled_type t) = (2, type_field t, no_field, no_field)
fields_of (unknown_type s) = (1, text_field s, no_field, no_field)
fields_of (unexpected_template s) = (2, text_field s, no_field, no_field)
fields_of (missing_template s) = (3, text_field s, no_field, no_field)
fields_of (write_ref_type n t) = (0, type_field n, type_field t, no_field)
fields_of not_write = (0, no_field, no_field, no_field)
fields_of not_read = (1, no_field, no_field, no_field)
fields_of not_read_write = (2, no_field, no_field, no_field)
fields_of ptr_handle = (3, no_field, no_field, no_field)
fields_of ptr_vec_comp = (4, no_field, no_field, no_field)
fields_of (conversion a b) = (1, type_field a, type_field b, no_field)
fields_of (conv_overflow l t) = (0, literal_field l, type_field t, no_field)
fields_of (component t s) = (0, type_field t, text_field s, no_field)
fields_of (not_indexable t) = (3, type_field t, no_field, no_field)
fields_of (out_of_bounds i t n) = (0, number_field i, type_field t, number_field n)
fields_of (unary o t) = (0, unary_field o, type_field t, no_field)
fields_of (binary o a b) = (0, binary_field o, type_field a, type_field b)
fields_of (compwise_binary a b) = (2, type_field a, type_field b, no_field)
fields_of add_overflow = (5, no_field, no_field, no_field)
fields_of sub_overflow = (6, no_field, no_field, no_field)
fields_of mul_overflow = (7, no_field, no_field, no_field)
fields_of div_by_zero = (8, no_field, no_field, no_field)
fields_of rem_zero_div = (9, no_field, no_field, no_field)
fields_of (shl_overflow n l) = (0, number_field n, literal_field l, no_field)
fields_of (shr_overflow n l) = (1, number_field n, literal_field l, no_field)
fields_of (signature c) = (0, call_field c, no_field, no_field)
fields_of (builtin s) = (4, text_field s, no_field, no_field)
fields_of (template_args s) = (5, text_field s, no_field, no_field)
fields_of (param_count s e n) = (0, text_field s, number_field e, number_field n)
fields_of (param_type e t) = (3, type_field e, type_field t, no_field)

abbrev pub field_view : FieldOfCode → Field
field_view fields.Absent = no_field
field_view (fields.Text s) = text_field s.now
field_view (fields.Type t) = type_field (view t.now)
field_view (fields.Literal l) = literal_field (literal_view l)
field_view (fields.Number n) = number_field n
field_view (fields.Unary o) = unary_field o
field_view (fields.Binary o) = binary_field o
field_view (fields.Call c) = call_field (signature_view c.now)

abbrev pub fields_view : FieldsOfCode → Fields
fields_view x = (x.0, field_view x.1, field_view x.2, field_view x.3)

-- the texts with the fields between them
abbrev pub message_with : Texts → Fields → List ℕ
message_with (texts.Whole t) f = t.now
message_with (texts.One t u) f = t.now ++ field_text f.1 ++ u.now
message_with (texts.Two t u v) f = t.now ++ field_text f.1 ++ u.now ++ field_text f.2 ++ v.now
message_with (texts.Three t u v w) f = t.now ++ field_text f.1 ++ u.now ++ field_text f.2 ++ v.now ++ field_text f.3 ++ w.now
