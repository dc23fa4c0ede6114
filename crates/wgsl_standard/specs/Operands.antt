-- How operands are seen: by their types once loaded.
use Rattle.std.specs.Prelude.{List, map}
use Rattle.wgsl_rules.specs.types.Types.{WgslType}
use Rattle.wgsl_rules.specs.standard.Choice.{Operand, value_of}
use Rattle.wgsl_rules.specs.standard.Overloads.{type_with}
use Rattle.wgsl_core.specs.View.{view}
use Rattle.wgsl_standard.specs.declared.operand.Operand.{Operand as CodeOperand}
use Rattle.wgsl_standard.specs.declared.operand.OperandType.{OperandType}
use Rattle.wgsl_standard.specs.declared.operand.OperandType.TheVariants.{Value, Any}

-- the type of an operand as it is given: a reference is not loaded
abbrev pub given_type : OperandType → WgslType
given_type (Value d s) = type_with d s
given_type (Any t) = view t.now

abbrev pub operand_view : CodeOperand → Operand
operand_view x = record { of_type = value_of (given_type x.ty); is_constant = x.is_constant }

abbrev pub operands_view : List CodeOperand → List Operand
operands_view xs = map operand_view xs
