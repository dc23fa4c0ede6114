-- How the rules see the constructors of the code, and the arguments at which they stop.
use Rattle.std.specs.Prelude.{◌≡◌, List, Option, Some, None, Result, Ok, Err}
use Rattle.wgsl_rules.specs.types.Types.{WgslType, Members}
use Rattle.wgsl_rules.specs.Headline.{Receives}
use Rattle.wgsl_rules.specs.errors.Refusals.{Refusal, conversion}
use Rattle.wgsl_rules.specs.constructors.Steps.{IsFirstStuck}
use Rattle.wgsl_rules.specs.constructors.Constructors.{Constructor as RuleConstructor, makes_array, makes_scalar, makes_vector, makes_matrix, AllFit, IsFirstMisfit}
use Rattle.wgsl_calls.specs.declared.constructor.Constructor.{Constructor}
use Rattle.wgsl_calls.specs.declared.constructor.Constructor.TheVariants as kinds

abbrev pub constructor_view : Constructor → RuleConstructor
constructor_view kinds.Array = makes_array
constructor_view (kinds.Scalar s) = makes_scalar s
constructor_view (kinds.Vec n) = makes_vector n
constructor_view (kinds.Mat c r) = makes_matrix c r

-- the first argument that doesn't convert to a type, or None if all convert
abbrev pub IsStuckAt : WgslType → List WgslType → Option WgslType → Type 0
IsStuckAt t ts (Some a) = IsFirstStuck t ts a
IsStuckAt t ts None = Receives t ts

-- all convert to a type, or the refusal of the first that doesn't
abbrev pub AllConverted : WgslType → List WgslType → Result (Unit {0}) Refusal → Type 0
AllConverted t ts (Ok u) = Receives t ts
AllConverted t ts (Err e) = (a : WgslType) × IsFirstStuck t ts a × (e ≡ conversion a t)

-- the type of the first member to which its argument doesn't convert, and that argument; None if all convert
abbrev pub IsMisfitAt : Members → List WgslType → Option (WgslType × WgslType) → Type 0
IsMisfitAt ms ts (Some p) = IsFirstMisfit ms ts p.0 p.1
IsMisfitAt ms ts None = AllFit ms ts
