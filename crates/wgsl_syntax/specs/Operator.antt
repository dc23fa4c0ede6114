-- How operators are written (WGSL, "Expressions" and "Assignment Statement").
use Rattle.std.specs.Prelude.{ℕ, List, [], ◌∷◌, codes}
use Rattle.wgsl_syntax.specs.declared.operator.UnaryOperator.{UnaryOperator}
use Rattle.wgsl_syntax.specs.declared.operator.UnaryOperator.TheVariants.{LogicalNegation, Negation, BitwiseComplement, AddressOf, Indirection}
use Rattle.wgsl_syntax.specs.declared.operator.BinaryOperator.{BinaryOperator}
use Rattle.wgsl_syntax.specs.declared.operator.BinaryOperator.TheVariants.{ShortCircuitOr, ShortCircuitAnd, Addition, Subtraction, Multiplication, Division, Remainder, Equality, Inequality, LessThan, LessThanEqual, GreaterThan, GreaterThanEqual, BitwiseOr, BitwiseAnd, BitwiseXor, ShiftLeft, ShiftRight}
use Rattle.wgsl_syntax.specs.declared.operator.AssignmentOperator.{AssignmentOperator}
use Rattle.wgsl_syntax.specs.declared.operator.AssignmentOperator.TheVariants.{Equal, PlusEqual, MinusEqual, TimesEqual, DivisionEqual, ModuloEqual, AndEqual, OrEqual, XorEqual, ShiftRightAssign, ShiftLeftAssign}

abbrev pub unary_operators : List UnaryOperator
unary_operators = LogicalNegation ∷ Negation ∷ BitwiseComplement ∷ AddressOf ∷ Indirection ∷ []

abbrev pub unary_text : UnaryOperator → List ℕ
unary_text LogicalNegation = codes "!"
unary_text Negation = codes "-"
unary_text BitwiseComplement = codes "~"
unary_text AddressOf = codes "&"
unary_text Indirection = codes "*"

abbrev pub binary_operators : List BinaryOperator
binary_operators = ShortCircuitOr ∷ ShortCircuitAnd ∷ Addition ∷ Subtraction ∷ Multiplication ∷ Division ∷ Remainder ∷ Equality ∷ Inequality ∷ LessThan ∷ LessThanEqual ∷ GreaterThan ∷ GreaterThanEqual ∷ BitwiseOr ∷ BitwiseAnd ∷ BitwiseXor ∷ ShiftLeft ∷ ShiftRight ∷ []

abbrev pub binary_text : BinaryOperator → List ℕ
binary_text ShortCircuitOr = codes "||"
binary_text ShortCircuitAnd = codes "&&"
binary_text Addition = codes "+"
binary_text Subtraction = codes "-"
binary_text Multiplication = codes "*"
binary_text Division = codes "/"
binary_text Remainder = codes "%"
binary_text Equality = codes "=="
binary_text Inequality = codes "!="
binary_text LessThan = codes "<"
binary_text LessThanEqual = codes "<="
binary_text GreaterThan = codes ">"
binary_text GreaterThanEqual = codes ">="
binary_text BitwiseOr = codes "|"
binary_text BitwiseAnd = codes "&"
binary_text BitwiseXor = codes "^"
binary_text ShiftLeft = codes "<<"
binary_text ShiftRight = codes ">>"

abbrev pub assignment_operators : List AssignmentOperator
assignment_operators = Equal ∷ PlusEqual ∷ MinusEqual ∷ TimesEqual ∷ DivisionEqual ∷ ModuloEqual ∷ AndEqual ∷ OrEqual ∷ XorEqual ∷ ShiftRightAssign ∷ ShiftLeftAssign ∷ []

abbrev pub assignment_text : AssignmentOperator → List ℕ
assignment_text Equal = codes "="
assignment_text PlusEqual = codes "+="
assignment_text MinusEqual = codes "-="
assignment_text TimesEqual = codes "*="
assignment_text DivisionEqual = codes "/="
assignment_text ModuloEqual = codes "%="
assignment_text AndEqual = codes "&="
assignment_text OrEqual = codes "|="
assignment_text XorEqual = codes "^="
assignment_text ShiftRightAssign = codes ">>="
assignment_text ShiftLeftAssign = codes "<<="
