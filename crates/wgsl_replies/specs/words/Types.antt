-- Types in words, and the layers around them.
use Rattle.std.specs.Prelude.{ℕ, zero, suc, List, [], ◌∷◌, Option, Some, None, codes, if◌then◌else◌, length, bytes_eq, ◌≡◌, Result, Ok, Err}
use Rattle.wgsl_replies.specs.words.Prelude.{named, parameter_kind, texture_with, AccessMode, AddressSpace, Around, around, WgslType, scalar, struct, texture, sampler}
use Rattle.wgsl_replies.specs.words.Prelude.{ray_query, acceleration_structure, Member, members_of, Fail, Misfit}
use Rattle.wgsl_syntax.specs.declared.around.Around.TheVariants.{Array, Vec, Mat, BindingArray, Atomic, Ptr, Ref}
use Rattle.wgsl_syntax.specs.declared.texture.TextureType.{TextureType}
use Rattle.wgsl_syntax.specs.declared.texture_name.TextureParameterKind.{TextureParameterKind}
use Rattle.wgsl_syntax.specs.declared.texture_name.TextureParameterKind.TheVariants as kinds
use Rattle.wgsl_syntax.specs.declared.texture_name.TextureParameters.{TextureParameters}
use Rattle.wgsl_syntax.specs.declared.texture_name.TextureParameters.TheVariants as parameters
use Rattle.wgsl_replies.specs.words.Names.{access_named, flag_named, sampled_named, sampler_named, scalar_named, space_named, texel_named, texture_named, attribute, count, long, small}
use Rattle.wgsl_replies.specs.words.Reader.{Reader, ◌>>=◌, ◌<$>◌, a_word, pure, means, one, optional, or_else, times, Misses, Words}

-- two words
abbrev both : {A B C : Type 0} → (A → B → C) → Reader A → Reader B → Reader C
both f r s = do
  x ← r
  y ← s
  pure (f x y)

-- `function read_write`
unfoldable pub memory_at : Reader (AddressSpace × AccessMode)
memory_at = both (λ space access. (space, access)) (one space_named) (one access_named)

-- What stands behind the name of a layer.
abbrev pub layers : List (Reader Around × List ℕ)
layers =
    -- `vec 3`
    (Vec <$> one small, codes "vec")
    -- `mat 4 3`: the columns, and the rows
    ∷ (both Mat (one small) (one small), codes "mat")
    -- `array 4`, `array *`
    ∷ (Array <$> one count, codes "array")
    -- `binding_array 4`
    ∷ (BindingArray <$> one count, codes "binding_array")
    -- `atomic`
    ∷ (pure Atomic, codes "atomic")
    -- `ptr function read_write`
    ∷ ((λ m. Ptr m.0 m.1) <$> memory_at, codes "ptr")
    -- `ref handle read`
    ∷ ((λ m. Ref m.0 m.1) <$> memory_at, codes "ref")
    ∷ []

unfoldable pub layer_named : List ℕ → Option (Reader Around)
layer_named word = named layers word

-- the parameters of a texture: its sampled type, or its texel format and its access mode
unfoldable pub parameters_at : TextureParameterKind → Reader TextureParameters
parameters_at kinds.None = pure parameters.None
parameters_at kinds.Sampled = parameters.Sampled <$> one sampled_named
parameters_at kinds.Storage = both parameters.Storage (one texel_named) (one access_named)

-- `texture_2d f32`, `texture_storage_2d rgba8unorm write`
unfoldable pub texture_from : List ℕ → Reader TextureType
texture_from word = do
  name ← means (texture_named word)
  parameters ← parameters_at (parameter_kind name)
  means (texture_with name parameters)

-- What stands behind the name of a type for rays.
abbrev pub rays : List (Reader WgslType × List ℕ)
rays =
    -- `ray_query -`
    (ray_query <$> one flag_named, codes "ray_query")
    -- `acceleration_structure vertex_return`
    ∷ (acceleration_structure <$> one flag_named, codes "acceleration_structure")
    ∷ []

unfoldable pub rays_named : List ℕ → Option (Reader WgslType)
rays_named word = named rays word

-- a type for rays, a sampler or a texture, which begins with this word
unfoldable pub leaf_from : List ℕ → Reader WgslType
leaf_from word = or_else (rays_named word) (λ r. r)
    (or_else (sampler_named word) (λ s. pure (sampler s)) (texture <$> texture_from word))

-- a type inside this layer
abbrev pub in_layer : Around → Reader WgslType → Reader WgslType
in_layer layer type = around layer <$> type

-- How types are read, where inner types are read so.
module _ (type : Reader WgslType) where
  -- the name, the attributes size and align, and the type: `color 16 - vec 3 f32`
  unfoldable pub member_at : Reader Member
  member_at = do
    name ← a_word
    size ← one attribute
    align ← one attribute
    ty ← type
    pure (record { name = name; ty = ty; size = size; align = align })

  -- behind `struct` the name, the number of the members, and the members: `Light 2 color 16 - vec 3 f32 power - 8 f32`
  unfoldable pub struct_at : Reader WgslType
  struct_at = do
    name ← a_word
    n ← one long
    ms ← times n member_at
    pure (struct name (members_of ms))

  -- what stands behind this word of a layer, and the type inside; or a leaf
  abbrev pub inside : List ℕ → Option Around → Reader WgslType
  inside word (Some layer) = in_layer layer type
  inside word None = leaf_from word

  unfoldable pub other_from : List ℕ → Reader WgslType
  other_from word = optional (layer_named word) >>= inside word

  -- a type that begins with this word: `f32`, `struct ..`, `vec 3 f32`, `sampler`
  unfoldable pub type_from : List ℕ → Reader WgslType
  type_from word = or_else (scalar_named word) (λ s. pure (scalar s))
      (if bytes_eq word (codes "struct") then struct_at else other_from word)

-- A type has fewer types around it than it has words, which bounds the recursion.
unfoldable pub type_within : ℕ → Reader WgslType
type_within zero = λ words. None
type_within (suc n) = a_word >>= type_from (type_within n)

unfoldable pub type_at : Reader WgslType
type_at words = type_within (length words) words

-- the layers around a type, the last innermost
abbrev pub wrapped : List Around → WgslType → WgslType
wrapped [] t = t
wrapped (layer ∷ layers) t = around layer (wrapped layers t)

-- A layer is read that begins with the word, or none since there is none, or no room for it.
abbrev pub ReadsNext : List ℕ → Words → Words → Result (Option Around) (Fail Misfit) → Type 0
ReadsNext word before after (Ok (Some layer)) = optional (layer_named word) before ≡ Some (Some layer, after)
ReadsNext word before after (Ok None) = after ≡ before
ReadsNext word before after (Err e) = Misses e (optional (layer_named word) before)
