-- A type in parts: a leaf, and what stands around it. No type contains two others.
use Rattle.std.specs.Prelude.{ℕ, List, [], ◌∷◌, ◌++◌, Option, Some, None, cond, nat_lt, length}
use Rattle.wgsl_syntax.specs.TextureName.{texture_with}
use Rattle.wgsl_syntax.specs.declared.around.Around.{Around}
use Rattle.wgsl_syntax.specs.declared.around.Around.TheVariants.{Vec, Mat}
use Rattle.wgsl_syntax.specs.declared.texture_name.TextureParameters.TheVariants as parameters
use Rattle.wgsl_rules.specs.types.Around.{around}
use Rattle.wgsl_rules.specs.types.Types.{WgslType, scalar, texture, sampler, ray_query, acceleration_structure}
use Rattle.wgsl_constants.specs.Literals.{then}
use Rattle.wgsl_constants.specs.Values.{map_value}
use Rattle.wgsl_spelling.specs.Predeclared.{predeclared}
use Rattle.wgsl_spelling.specs.Words.{word}
use Rattle.wgsl_spelling.specs.declared.chain.Leaf.{Leaf}
use Rattle.wgsl_spelling.specs.declared.chain.Leaf.TheVariants as leaf
use Rattle.wgsl_spelling.specs.declared.item.Item.{Item}
use Rattle.wgsl_spelling.specs.declared.item.Value.{Value}
use Rattle.wgsl_spelling.specs.declared.item.Value.TheVariants as v
use Rattle.wgsl_spelling.specs.declared.predeclared.PredeclaredType.{PredeclaredType}
use Rattle.wgsl_spelling.specs.declared.predeclared.PredeclaredType.TheVariants as p
use Rattle.wgsl_reader.specs.declared.token.Token.{Token}

-- the leaf, or None if no type is read yet; and what stands around it, the innermost first
pub record Chain : Type 0 where
  pub leaf : Option Leaf
  pub layers : List Around

abbrev pub begun : Leaf → Chain → Option Leaf → Option Chain
begun l c None = Some (record { leaf = Some l; layers = c.layers })
begun l c (Some other) = None

-- a chain that begins with the leaf, if none has begun
abbrev pub begin : Leaf → Chain → Option Chain
begin l c = begun l c c.leaf

-- a layer more, of at most 255
abbrev pub push : Around → Chain → Option Chain
push layer c = cond (nat_lt (length c.layers) 255) (Some (record { leaf = c.leaf; layers = c.layers ++ layer ∷ [] })) None

abbrev pub push_if_any : Option Around → Chain → Option Chain
push_if_any None c = Some c
push_if_any (Some layer) c = push layer c

-- the leaf that a name without a template list stands for, and what stands around it
abbrev pub plain : PredeclaredType → Option (Leaf × Option Around)
plain (p.Scalar s) = Some (leaf.Scalar s, None)
plain (p.Vec n s) = Some (leaf.Scalar s, Some (Vec n))
plain (p.Mat c r s) = Some (leaf.Scalar s, Some (Mat c r))
plain (p.Sampler s) = Some (leaf.Sampler s, None)
plain (p.Texture name) = map_value (λ x. (leaf.Texture x, None)) (texture_with name parameters.None)
plain p.RayQuery = Some (leaf.RayQuery None, None)
plain p.AccelerationStructure = Some (leaf.AccelerationStructure None, None)
plain (p.Layer l) = None

abbrev pub with_plain : Chain → Leaf × Option Around → Option Chain
with_plain c found = then (begin found.0 c) (push_if_any found.1)

abbrev pub with_name : Chain → PredeclaredType → Option Chain
with_name c named = then (plain named) (with_plain c)

-- a name that isn't predeclared is a leaf
abbrev pub with_word : Token → Chain → Option PredeclaredType → Option Chain
with_word token c None = begin (leaf.Named token) c
with_word token c (Some named) = with_name c named

abbrev pub with_value : List ℕ → Token → Chain → Value → Option Chain
with_value text token c v.Type = Some c
with_value text token c v.Name = with_word token c (predeclared (word text token))
with_value text token c other = None

-- the chain with the type of an item
abbrev pub with_type : List ℕ → Item → Chain → Option Chain
with_type text i c = with_value text i.token c i.value

-- a name that isn't predeclared is no type by itself
abbrev pub leaf_type : Leaf → Option WgslType
leaf_type (leaf.Scalar s) = Some (scalar s)
leaf_type (leaf.Sampler s) = Some (sampler s)
leaf_type (leaf.Texture x) = Some (texture x)
leaf_type (leaf.RayQuery f) = Some (ray_query f)
leaf_type (leaf.AccelerationStructure f) = Some (acceleration_structure f)
leaf_type (leaf.Named token) = None

-- a type inside layers, the first innermost
abbrev pub wrapped : WgslType → List Around → WgslType
wrapped t [] = t
wrapped t (layer ∷ layers) = wrapped (around layer t) layers

-- the type of a chain
abbrev pub type_of : Chain → Option WgslType
type_of c = map_value (λ t. wrapped t c.layers) (then c.leaf leaf_type)

abbrev pub leaf_name : Option Leaf → Option Token
leaf_name (Some (leaf.Named token)) = Some token
leaf_name other = None

-- the name at its leaf, if that isn't predeclared
abbrev pub name_of : Chain → Option Token
name_of c = leaf_name c.leaf
