-- The names that candidates have, and which built-in functions have which candidates (WGSL, "Built-in Functions").
use Rattle.wgsl_syntax.specs.declared.operator.BinaryOperator.{BinaryOperator}
use Rattle.wgsl_rules.specs.types.Types.{WgslType}
use Rattle.wgsl_rules.specs.types.Kinds.{IsNumericOrVector, IsFloatOrVector, IsFloatVector}

-- the name of a candidate: a binary operator or a built-in function
pub data Name : Type 0 where
  operator : BinaryOperator → Name
  min max atan2 step pow cross reflect distance dot clamp fma smoothstep face_forward mix refract select insert_bits : Name

-- the functions with candidates (t, t) that return t
abbrev pub IsOfTwo : Name → Type 0
IsOfTwo min = Unit {0}
IsOfTwo max = Unit {0}
IsOfTwo atan2 = Unit {0}
IsOfTwo step = Unit {0}
IsOfTwo pow = Unit {0}
IsOfTwo cross = Unit {0}
IsOfTwo reflect = Unit {0}
IsOfTwo n = ⊥

-- the functions with candidates (t, t, t) that return t
abbrev pub IsOfThree : Name → Type 0
IsOfThree clamp = Unit {0}
IsOfThree fma = Unit {0}
IsOfThree smoothstep = Unit {0}
IsOfThree face_forward = Unit {0}
IsOfThree mix = Unit {0}
IsOfThree n = ⊥

-- the types t of these candidates
abbrev pub IsFor : Name → WgslType → Type 0
IsFor min t = IsNumericOrVector t
IsFor max t = IsNumericOrVector t
IsFor clamp t = IsNumericOrVector t
IsFor atan2 t = IsFloatOrVector t
IsFor step t = IsFloatOrVector t
IsFor fma t = IsFloatOrVector t
IsFor smoothstep t = IsFloatOrVector t
IsFor mix t = IsFloatOrVector t
IsFor cross t = IsFloatVector t
IsFor reflect t = IsFloatVector t
IsFor face_forward t = IsFloatVector t
IsFor pow t = Unit {0}
IsFor n t = ⊥

-- the functions of two vectors and a scalar
abbrev pub IsMixed : Name → Type 0
IsMixed mix = Unit {0}
IsMixed refract = Unit {0}
IsMixed n = ⊥
