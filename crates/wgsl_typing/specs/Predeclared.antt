-- Types that WGSL predeclares (WGSL, "Predeclared Types", "Predeclared Type-Generators and Aliases").
use Rattle.std.specs.Prelude.{ℕ, List, Bool, true, false, ◌&&◌, ◌||◌, Option, Some, None, cond, not}
use Rattle.wgsl_rules.specs.types.Around.{around}
use Rattle.wgsl_rules.specs.types.Types.{WgslType}
use Rattle.wgsl_syntax.specs.declared.around.Around.{Around}
use Rattle.wgsl_syntax.specs.declared.scalar.Scalar.{Scalar}
use Rattle.wgsl_syntax.specs.declared.scalar.Scalar.TheVariants as scalars
use Rattle.wgsl_syntax.specs.declared.texture_name.TextureName.TheVariants as textures
use Rattle.wgsl_constants.specs.Literals.{then}
use Rattle.wgsl_constants.specs.Values.{map_value}
use Rattle.wgsl_spelling.specs.Chains.{leaf_type, plain}
use Rattle.wgsl_spelling.specs.Predeclared.{is_half, is_naga_only, predeclared}
use Rattle.wgsl_spelling.specs.declared.chain.Leaf.{Leaf}
use Rattle.wgsl_spelling.specs.declared.predeclared.LayerName.TheVariants as layers
use Rattle.wgsl_spelling.specs.declared.predeclared.PredeclaredType.{PredeclaredType}
use Rattle.wgsl_spelling.specs.declared.predeclared.PredeclaredType.TheVariants as p

abbrev pub is_abstract : Scalar → Bool
is_abstract scalars.AbstractInt = true
is_abstract scalars.AbstractFloat = true
is_abstract s = false

-- what no text can name, or WGSL doesn't have: `AbstractInt`, `ref`, `texture_1d_array`
abbrev pub is_unnamed : PredeclaredType → Bool
is_unnamed (p.Scalar s) = is_abstract s
is_unnamed (p.Layer layers.Reference) = true
is_unnamed (p.Texture textures.Sampled1DArray) = true
is_unnamed (p.Texture textures.Multisampled2DArray) = true
is_unnamed (p.Texture textures.Storage1DArray) = true
is_unnamed named = false

abbrev pub if_of_wgsl : PredeclaredType → Option PredeclaredType
if_of_wgsl named = cond (is_unnamed named || is_naga_only named) None (Some named)

-- what a name of a type or of a type-generator stands for
abbrev pub type_called : List ℕ → Option PredeclaredType
type_called name = then (predeclared name) if_of_wgsl

abbrev pub around_if_any : Option Around → WgslType → WgslType
around_if_any None t = t
around_if_any (Some layer) t = around layer t

abbrev pub type_of_leaf : Leaf × Option Around → Option WgslType
type_of_leaf found = map_value (around_if_any found.1) (leaf_type found.0)

-- `f32`, `vec3f`, `sampler`
abbrev pub type_without_list : PredeclaredType → Option WgslType
type_without_list named = then (plain named) type_of_leaf

-- `f16` and its vectors and matrices are there where it is enabled.
abbrev pub type_alone : Bool → PredeclaredType → Option WgslType
type_alone f16 named = cond (is_half named && not f16) None (type_without_list named)

-- the predeclared type that a name is without a template list
abbrev pub type_predeclared : Bool → List ℕ → Option WgslType
type_predeclared f16 name = then (type_called name) (type_alone f16)
