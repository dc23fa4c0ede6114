-- When the value of an expression is known (WGSL, "Early Evaluation Expressions").
use Rattle.std.specs.Prelude.{List, [], ◌∷◌, Bool, true, false}
use Rattle.wgsl_typing.specs.declared.stage.Stage.{Stage}
use Rattle.wgsl_typing.specs.declared.stage.Stage.TheVariants.{Const, Override, Runtime}

-- the later of two: what is made of parts is known when the last of them is
abbrev pub later : Stage → Stage → Stage
later Const s = s
later Override Runtime = Runtime
later Override s = Override
later Runtime s = Runtime

abbrev pub latest : List Stage → Stage
latest [] = Const
latest (s ∷ stages) = later s (latest stages)

abbrev pub is_const : Stage → Bool
is_const Const = true
is_const s = false

-- known before the shader runs
abbrev pub is_early : Stage → Bool
is_early Runtime = false
is_early s = true
