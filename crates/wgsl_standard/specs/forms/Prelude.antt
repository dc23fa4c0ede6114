-- Names of other crates that many definitions cite, passed on from one place. It declares nothing.
pub use Rattle.std.specs.List.{list_all, list_any}
pub use Rattle.std.specs.Result.{result_unwrap_or}
pub use Rattle.wgsl_core.specs.Equality.{is_yes, type_eq, yes_decides}
pub use Rattle.wgsl_core.specs.View.{member_view, struct_view, view}
pub use Rattle.wgsl_core.specs.internal.View.{members_view}
pub use Rattle.wgsl_standard.specs.declared.forms.declare.Declaration.TheVariants.{Const, Let, Override}
pub use Rattle.wgsl_standard.specs.declared.forms.form.MemoryView.{MemoryView}
pub use Rattle.wgsl_standard.specs.declared.forms.form.MemoryView.TheVariants.{Pointer, Reference}
pub use Rattle.wgsl_standard.specs.declared.forms.form.Referent.{Referent}
pub use Rattle.wgsl_standard.specs.declared.forms.form.Referent.TheVariants.{Component, Swizzle, Whole}
pub use Rattle.wgsl_rules.specs.conversion.Common.{IsCommon, IsLeftCommon}
pub use Rattle.wgsl_rules.specs.conversion.Conversion.{ConvertsTo}
pub use Rattle.wgsl_rules.specs.errors.Refusals.{binary, builtin, component, conversion, message_by, not_constructible, not_indexable, not_read, not_read_write}
pub use Rattle.wgsl_rules.specs.errors.Refusals.{not_scalar, not_write, param_count, param_type, ptr_handle, ptr_vec_comp, Refusal, unary, write_ref_type}
pub use Rattle.wgsl_rules.specs.standard.Answers.{IsStandardAnswer}
pub use Rattle.wgsl_rules.specs.standard.Choice.{Operand, value_of}
pub use Rattle.wgsl_rules.specs.standard.Operators.{binary_overloads}
pub use Rattle.wgsl_rules.specs.standard.Overloads.{component_in, dimensions_in, result_of, type_with}
pub use Rattle.wgsl_rules.specs.types.Spelling.{wgsl_spelling}
pub use Rattle.wgsl_rules.specs.types.Types.{array, array_of, atomic, binding_array, Layer, mat, mat_of, member, Members, no_members, pointer, reference}
pub use Rattle.wgsl_rules.specs.types.Types.{sampler, scalar, struct, texture, vec, WgslType, within}
pub use Rattle.wgsl_standard.specs.Operands.{given_type, operand_view}
pub use Rattle.wgsl_standard.specs.Texts.{types_given}
pub use Rattle.wgsl_syntax.specs.declared.address.AccessMode.{AccessMode}
pub use Rattle.wgsl_syntax.specs.declared.address.AccessMode.TheVariants.{Read, ReadWrite, Write}
pub use Rattle.wgsl_syntax.specs.declared.address.AddressSpace.{AddressSpace}
pub use Rattle.wgsl_syntax.specs.declared.address.AddressSpace.TheVariants.{Function, Handle, Private, PushConstant, Storage, Uniform, Workgroup}
pub use Rattle.wgsl_syntax.specs.declared.operator.BinaryOperator.{BinaryOperator}
pub use Rattle.wgsl_syntax.specs.declared.result_struct.ResultFunction.{ResultFunction}
pub use Rattle.wgsl_syntax.specs.declared.result_struct.ResultShape.{ResultShape}
pub use Rattle.wgsl_syntax.specs.declared.scalar.Scalar.{Scalar}
pub use Rattle.wgsl_syntax.specs.declared.scalar.Scalar.TheVariants.{AbstractFloat, AbstractInt, F32, I32, U32}
