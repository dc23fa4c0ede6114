-- Operators among tokens.
use Rattle.std.specs.Prelude.{Option, Some, None}
use Rattle.wgsl_reader.specs.declared.kind.Kind.{Kind}
use Rattle.wgsl_reader.specs.declared.kind.Kind.TheVariants as k
use Rattle.wgsl_syntax.specs.declared.operator.BinaryOperator.{BinaryOperator}
use Rattle.wgsl_syntax.specs.declared.operator.BinaryOperator.TheVariants as b
use Rattle.wgsl_syntax.specs.declared.operator.UnaryOperator.{UnaryOperator}
use Rattle.wgsl_syntax.specs.declared.operator.UnaryOperator.TheVariants as u

abbrev pub unary_of : Kind → Option UnaryOperator
unary_of k.Bang = Some u.LogicalNegation
unary_of k.Minus = Some u.Negation
unary_of k.Tilde = Some u.BitwiseComplement
unary_of k.And = Some u.AddressOf
unary_of k.Star = Some u.Indirection
unary_of other = None

abbrev pub binary_of : Kind → Option BinaryOperator
binary_of k.OrOr = Some b.ShortCircuitOr
binary_of k.AndAnd = Some b.ShortCircuitAnd
binary_of k.Plus = Some b.Addition
binary_of k.Minus = Some b.Subtraction
binary_of k.Star = Some b.Multiplication
binary_of k.Slash = Some b.Division
binary_of k.Percent = Some b.Remainder
binary_of k.EqualEqual = Some b.Equality
binary_of k.NotEqual = Some b.Inequality
binary_of k.Less = Some b.LessThan
binary_of k.LessEqual = Some b.LessThanEqual
binary_of k.Greater = Some b.GreaterThan
binary_of k.GreaterEqual = Some b.GreaterThanEqual
binary_of k.Or = Some b.BitwiseOr
binary_of k.And = Some b.BitwiseAnd
binary_of k.Xor = Some b.BitwiseXor
binary_of k.ShiftLeft = Some b.ShiftLeft
binary_of k.ShiftRight = Some b.ShiftRight
binary_of other = None
