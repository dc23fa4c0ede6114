-- Which calls of built-in functions can be const-expressions, which shaders may have them, and what else is asked of them: a word in
-- the line of each name says it.
use Rattle.std.specs.Prelude.{ℕ, List, map, Option, Some, None, Bool, true, false}
use Rattle.wgsl_syntax.specs.declared.overload.Evaluation.{Evaluation}
use Rattle.wgsl_syntax.specs.declared.overload.Evaluation.TheVariants as evaluations
use Rattle.wgsl_syntax.specs.declared.overload.Stages.{Stages}
use Rattle.wgsl_syntax.specs.declared.overload.Stages.TheVariants as in_shaders
use Rattle.wgsl_syntax.specs.declared.tables.names.TheConstants.{FUNCTIONS}
use Rattle.wgsl_rules.specs.standard.Names.{value_named}

unfoldable pub evaluation_table : List (List ℕ × Evaluation)
evaluation_table = map (λ row. (row.0.now, row.1)) FUNCTIONS.now

-- a function with a template alone, as `bitcast`, has no such line: its calls can be const-expressions
abbrev pub can_be_constant : Option Evaluation → Bool
can_be_constant None = true
can_be_constant (Some evaluations.Constant) = true
can_be_constant evaluation = false

-- `max(1u, 2u)` can be one, and `subgroupAdd(1u)`, `dpdx(1.5)` and `textureLoad(t, 0, 0)` can't
abbrev pub is_const_function : List ℕ → Bool
is_const_function name = can_be_constant (value_named name evaluation_table)

-- the shaders that may call it
abbrev pub stages : Option Evaluation → Stages
stages (Some evaluations.Fragment) = in_shaders.Fragment
stages (Some evaluations.Compute) = in_shaders.Compute
stages (Some evaluations.Atomic) = in_shaders.AllButVertex
stages (Some evaluations.Subgroup) = in_shaders.AllButVertex
stages evaluation = in_shaders.All

-- `dpdx` in fragment shaders, `workgroupBarrier` in compute shaders, `atomicAdd` and `subgroupAdd` in both
abbrev pub stages_of : List ℕ → Stages
stages_of name = stages (value_named name evaluation_table)

abbrev pub is_atomic : Option Evaluation → Bool
is_atomic (Some evaluations.Atomic) = true
is_atomic evaluation = false

-- `atomicAdd(&a, 1);` is allowed, and `max(1, 2);` isn't
abbrev pub may_be_dropped : List ℕ → Bool
may_be_dropped name = is_atomic (value_named name evaluation_table)

abbrev pub is_of_subgroup : Option Evaluation → Bool
is_of_subgroup (Some evaluations.Subgroup) = true
is_of_subgroup evaluation = false

-- `subgroupAdd(x)` behind `enable subgroups;`
abbrev pub needs_subgroups : List ℕ → Bool
needs_subgroups name = is_of_subgroup (value_named name evaluation_table)
