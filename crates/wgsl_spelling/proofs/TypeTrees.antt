-- The trees of types, and what their events say.
use Rattle.std.proofs.Common.{◌≡◌, ◌+◌, ◌++◌, ℕ, List, [], ◌∷◌, Option, Some, None, codes, decimal, length, length-append, refl, ap, ◌∙◌, arith}
use Rattle.wgsl_spelling.proofs.Common.{access_text, space_text_by, flag_text, scalar_text, texel_text_by, sampled_text, sampler_text, texture_name, name_of, parameters_of, Around, Array, Vec, Mat, BindingArray, Atomic, Ptr, Ref, AccelerationStructureFlags, RuleSet, TextureParameters, around, map_value, then, Chain, leaf_type, type_of, words, wrapped, IsWritable, layers, Leaf}
use Rattle.wgsl_syntax.specs.declared.scalar.Scalar.TheVariants as scalars
use Rattle.wgsl_syntax.specs.declared.texture_name.TextureParameters.TheVariants as parameters
use Rattle.wgsl_rules.specs.types.Types.{WgslType, scalar, struct, atomic, pointer, reference, texture, sampler, binding_array, ray_query, acceleration_structure, array, vec, mat}
use Rattle.wgsl_spelling.specs.declared.chain.Leaf.TheVariants as leaf
use Rattle.wgsl_spelling.proofs.NamesGood.{access_good, flag_good, good, mat_good, sampled_good, sampler_good, scalar_good, side, space_good, texel_good, texture_good, vec_good}
use Rattle.wgsl_spelling.proofs.Trees.{IsGood, IsName, IsPart, IsType, Tree, digits, list, list_is, name, name_is, of_number, of_type, one, parts, three, two}

abbrev pub flagged_tree : List ℕ → Option AccelerationStructureFlags → Tree
flagged_tree w None = name w
flagged_tree w (Some f) = list w (name (flag_text f))

abbrev pub counted : Tree → Option ℕ → Tree
counted t None = t
counted t (Some n) = parts t (digits n)

abbrev pub texture_tree : RuleSet → List ℕ → TextureParameters → Tree
texture_tree rules w parameters.None = name w
texture_tree rules w (parameters.Sampled s) = list w (name (sampled_text s))
texture_tree rules w (parameters.Storage f m) = list w (parts (name (texel_text_by rules f)) (name (access_text m)))

abbrev pub tree : RuleSet → WgslType → Tree
tree rules (scalar s) = name (scalar_text s)
tree rules (array n t) = list (codes "array") (counted (tree rules t) n)
tree rules (vec n t) = list (codes "vec" ++ decimal n) (tree rules t)
tree rules (mat c r t) = list (codes "mat" ++ (decimal c ++ (codes "x" ++ decimal r))) (tree rules t)
tree rules (struct w ms) = name w
tree rules (atomic t) = list (codes "atomic") (tree rules t)
tree rules (pointer s t m) = list (codes "ptr") (parts (name (space_text_by rules s)) (parts (tree rules t) (name (access_text m))))
tree rules (reference s t m) = list (codes "ref") (parts (name (space_text_by rules s)) (parts (tree rules t) (name (access_text m))))
tree rules (texture x) = texture_tree rules (texture_name x) (parameters_of x)
tree rules (sampler s) = name (sampler_text s)
tree rules (binding_array n t) = list (codes "binding_array") (counted (tree rules t) n)
tree rules (ray_query f) = flagged_tree (codes "ray_query") f
tree rules (acceleration_structure f) = flagged_tree (codes "acceleration_structure") f

-- they are types

texture_tree_type : (rules : RuleSet) (w : List ℕ) (x : TextureParameters) → IsType (texture_tree rules w x)
texture_tree_type rules w parameters.None = name_is
texture_tree_type rules w (parameters.Sampled s) = list_is
texture_tree_type rules w (parameters.Storage f m) = list_is

pub tree_type : (rules : RuleSet) (t : WgslType) → IsType (tree rules t)
tree_type rules (scalar s) = name_is
tree_type rules (struct w ms) = name_is
tree_type rules (texture x) = texture_tree_type rules (texture_name x) (parameters_of x)
tree_type rules (sampler s) = name_is
tree_type rules (ray_query None) = name_is
tree_type rules (ray_query (Some f)) = list_is
tree_type rules (acceleration_structure None) = name_is
tree_type rules (acceleration_structure (Some f)) = list_is
tree_type rules (array n t) = list_is
tree_type rules (vec n t) = list_is
tree_type rules (mat c r t) = list_is
tree_type rules (atomic t) = list_is
tree_type rules (pointer s t m) = list_is
tree_type rules (reference s t m) = list_is
tree_type rules (binding_array n t) = list_is

pub tree_part : (rules : RuleSet) (t : WgslType) → IsPart (tree rules t)
tree_part rules t = of_type (tree_type rules t)

-- they are good

a_name : {w : List ℕ} → IsPart (name w)
a_name = of_type name_is

texture_tree_good : (rules : RuleSet) (w : List ℕ) → IsName w → (x : TextureParameters) → IsGood (texture_tree rules w x)
texture_tree_good rules w good parameters.None = good
texture_tree_good rules w good (parameters.Sampled s) = (good, one a_name, sampled_good s)
texture_tree_good rules w good (parameters.Storage f m) = (good, two a_name a_name, (a_name, texel_good rules f, access_good m))

pub tree_good : (rules : RuleSet) (t : WgslType) → IsWritable t → IsGood (tree rules t)
unfolding words
tree_good rules (scalar s) is = scalar_good s
tree_good rules (array None t) is = (good refl refl refl refl, one (tree_part rules t), tree_good rules t is.1)
tree_good rules (array (Some n) t) is = (good refl refl refl refl, two (tree_part rules t) of_number, (tree_part rules t, tree_good rules t is.1, is.0))
tree_good rules (vec n t) is = (vec_good (side n is.0), one (tree_part rules t), tree_good rules t is.1)
tree_good rules (mat c r t) is = (mat_good (side c is.0.0) (side r is.0.1), one (tree_part rules t), tree_good rules t is.1)
tree_good rules (struct w ms) is = absurd is
tree_good rules (atomic t) is = (good refl refl refl refl, one (tree_part rules t), tree_good rules t is)
tree_good rules (pointer s t m) is = (good refl refl refl refl, three a_name (tree_part rules t) a_name, (a_name, space_good rules s, (tree_part rules t, tree_good rules t is, access_good m)))
tree_good rules (reference s t m) is = (good refl refl refl refl, three a_name (tree_part rules t) a_name, (a_name, space_good rules s, (tree_part rules t, tree_good rules t is, access_good m)))
tree_good rules (texture x) is = texture_tree_good rules (texture_name x) (texture_good (name_of x)) (parameters_of x)
tree_good rules (sampler s) is = sampler_good s
tree_good rules (binding_array None t) is = (good refl refl refl refl, one (tree_part rules t), tree_good rules t is.1)
tree_good rules (binding_array (Some n) t) is = (good refl refl refl refl, two (tree_part rules t) of_number, (tree_part rules t, tree_good rules t is.1, is.0))
tree_good rules (ray_query None) is = good refl refl refl refl
tree_good rules (ray_query (Some f)) is = (good refl refl refl refl, one a_name, flag_good f)
tree_good rules (acceleration_structure None) is = good refl refl refl refl
tree_good rules (acceleration_structure (Some f)) is = (good refl refl refl refl, one a_name, flag_good f)

-- the chain of a type

abbrev pub around_of : Around → Chain → Chain
around_of layer c = record { leaf = c.leaf; layers = c.layers ++ layer ∷ [] }

abbrev pub of_leaf : Leaf → Chain
of_leaf l = record { leaf = Some l; layers = [] }

abbrev pub chain : WgslType → Chain
chain (scalar s) = of_leaf (leaf.Scalar s)
chain (array n t) = around_of (Array n) (chain t)
chain (vec n t) = around_of (Vec n) (chain t)
chain (mat c r t) = around_of (Mat c r) (chain t)
chain (struct w ms) = of_leaf (leaf.Scalar scalars.Bool)
chain (atomic t) = around_of Atomic (chain t)
chain (pointer s t m) = around_of (Ptr s m) (chain t)
chain (reference s t m) = around_of (Ref s m) (chain t)
chain (texture x) = of_leaf (leaf.Texture x)
chain (sampler s) = of_leaf (leaf.Sampler s)
chain (binding_array n t) = around_of (BindingArray n) (chain t)
chain (ray_query f) = of_leaf (leaf.RayQuery f)
chain (acceleration_structure f) = of_leaf (leaf.AccelerationStructure f)

pub layers_of : (t : WgslType) → length (chain t).layers ≡ layers t
layers_of (scalar s) = refl
layers_of (array n t) = length-append (chain t).layers _ ∙ (ap (λ n. n + 1) (layers_of t) ∙ omega arith)
layers_of (vec n t) = length-append (chain t).layers _ ∙ (ap (λ n. n + 1) (layers_of t) ∙ omega arith)
layers_of (mat c r t) = length-append (chain t).layers _ ∙ (ap (λ n. n + 1) (layers_of t) ∙ omega arith)
layers_of (struct w ms) = refl
layers_of (atomic t) = length-append (chain t).layers _ ∙ (ap (λ n. n + 1) (layers_of t) ∙ omega arith)
layers_of (pointer s t m) = length-append (chain t).layers _ ∙ (ap (λ n. n + 1) (layers_of t) ∙ omega arith)
layers_of (reference s t m) = length-append (chain t).layers _ ∙ (ap (λ n. n + 1) (layers_of t) ∙ omega arith)
layers_of (texture x) = refl
layers_of (sampler s) = refl
layers_of (binding_array n t) = length-append (chain t).layers _ ∙ (ap (λ n. n + 1) (layers_of t) ∙ omega arith)
layers_of (ray_query f) = refl
layers_of (acceleration_structure f) = refl

pub wrapped_last : (t : WgslType) (ls : List Around) (layer : Around) → wrapped t (ls ++ layer ∷ []) ≡ around layer (wrapped t ls)
wrapped_last t [] layer = refl
wrapped_last t (l ∷ ls) layer = wrapped_last (around l t) ls layer

around_type : (layer : Around) (c : Chain) (t : WgslType) → type_of c ≡ Some t → type_of (around_of layer c) ≡ Some (around layer t)
around_type layer c t is = by (then c.leaf leaf_type) c.layers is
  where
    by : (o : Option WgslType) (ls : List Around) → map_value (λ u. wrapped u ls) o ≡ Some t → map_value (λ u. wrapped u (ls ++ layer ∷ [])) o ≡ Some (around layer t)
    by None ls e = cc
    by (Some u) ls e = ap Some (wrapped_last u ls layer) ∙ ap (map_value (around layer)) e

pub chain_type : (t : WgslType) → IsWritable t → type_of (chain t) ≡ Some t
chain_type (scalar s) is = refl
chain_type (array n t) is = around_type (Array n) (chain t) t (chain_type t is.1)
chain_type (vec n t) is = around_type (Vec n) (chain t) t (chain_type t is.1)
chain_type (mat c r t) is = around_type (Mat c r) (chain t) t (chain_type t is.1)
chain_type (struct w ms) is = absurd is
chain_type (atomic t) is = around_type Atomic (chain t) t (chain_type t is)
chain_type (pointer s t m) is = around_type (Ptr s m) (chain t) t (chain_type t is)
chain_type (reference s t m) is = around_type (Ref s m) (chain t) t (chain_type t is)
chain_type (texture x) is = refl
chain_type (sampler s) is = refl
chain_type (binding_array n t) is = around_type (BindingArray n) (chain t) t (chain_type t is.1)
chain_type (ray_query f) is = refl
chain_type (acceleration_structure f) is = refl
