-- How overloads are written: as WGSL writes them, in one line each (WGSL, "Overload Resolution").
use Rattle.std.specs.Prelude.{ℕ, List, [], ◌∷◌, ◌++◌, Option, Some, None, Bool, true, false, codes, decimal, cond}
use Rattle.std.specs.List.{flat_map, list_any}
use Rattle.wgsl_syntax.specs.Scalar.{scalar_text}
use Rattle.wgsl_syntax.specs.Texture.{sampler_text, texture_text}
use Rattle.wgsl_syntax.specs.ResultStruct.{function_text, shape_text}
use Rattle.wgsl_syntax.specs.declared.overload.Kind.{Kind}
use Rattle.wgsl_syntax.specs.declared.overload.Kind.TheVariants as kinds
use Rattle.wgsl_syntax.specs.declared.overload.Component.{Component}
use Rattle.wgsl_syntax.specs.declared.overload.Component.TheVariants.{T, U, V, W, The}
use Rattle.wgsl_syntax.specs.declared.overload.Count.{Count}
use Rattle.wgsl_syntax.specs.declared.overload.Count.TheVariants.{N, M, K, Exactly}
use Rattle.wgsl_syntax.specs.declared.overload.Shape.{Shape}
use Rattle.wgsl_syntax.specs.declared.overload.Shape.TheVariants as shapes
use Rattle.wgsl_syntax.specs.declared.overload.Usage.{Usage}
use Rattle.wgsl_syntax.specs.declared.overload.Usage.TheVariants.{Reads, Writes, Asks}
use Rattle.wgsl_syntax.specs.declared.overload.Resource.{Resource}
use Rattle.wgsl_syntax.specs.declared.overload.Resource.TheVariants as resources
use Rattle.wgsl_syntax.specs.declared.overload.Pattern.{Pattern}
use Rattle.wgsl_syntax.specs.declared.overload.Pattern.TheVariants as patterns
use Rattle.wgsl_syntax.specs.declared.overload.Returns.{Returns}
use Rattle.wgsl_syntax.specs.declared.overload.Returns.TheVariants.{NoValue, Gives, GivesStruct, GivesExchange, GivesPointee}
use Rattle.wgsl_syntax.specs.declared.overload.Overload.{Overload}
use Rattle.wgsl_syntax.specs.declared.overload.Overload.TheVariants.{Plain, WithT, WithTAndU, WithThree, WithFour}
use Rattle.wgsl_rules.specs.standard.Overloads.{patterns_of, result_of}

-- the types of parameters and results

-- `T`, `f32`
abbrev pub component_text : Component → List ℕ
component_text T = codes "T"
component_text U = codes "U"
component_text V = codes "V"
component_text W = codes "W"
component_text (The s) = scalar_text s

-- `N`, `3`
abbrev pub count_text : Count → List ℕ
count_text N = codes "N"
count_text M = codes "M"
count_text K = codes "K"
count_text (Exactly n) = decimal n

-- `vecN<T>`, `vec3<f32>`
abbrev pub vector_text : Count → Component → List ℕ
vector_text n e = codes "vec" ++ count_text n ++ codes "<" ++ component_text e ++ codes ">"

-- `T`, `vecN<T>`, `matNxM<T>`; what is a scalar or a vector is written as the one or as the other
abbrev pub value_text : Bool → Shape → Component → List ℕ
value_text of_vectors shapes.One e = component_text e
value_text of_vectors (shapes.Vector n) e = vector_text n e
value_text of_vectors (shapes.Matrix c r) e = codes "mat" ++ count_text c ++ codes "x" ++ count_text r ++ codes "<" ++ component_text e ++ codes ">"
value_text false shapes.OneOrVector e = component_text e
value_text true shapes.OneOrVector e = vector_text N e

abbrev pub resource_text : Resource → List ℕ
resource_text resources.Texture1D = codes "texture_1d<T>"
resource_text resources.Texture2D = codes "texture_2d<T>"
resource_text resources.Texture2DArray = codes "texture_2d_array<T>"
resource_text resources.Texture3D = codes "texture_3d<T>"
resource_text resources.TextureCube = codes "texture_cube<T>"
resource_text resources.TextureCubeArray = codes "texture_cube_array<T>"
resource_text resources.TextureMultisampled2D = codes "texture_multisampled_2d<T>"
resource_text (resources.TextureStorage1D u) = codes "texture_storage_1d<F, A>"
resource_text (resources.TextureStorage2D u) = codes "texture_storage_2d<F, A>"
resource_text (resources.TextureStorage2DArray u) = codes "texture_storage_2d_array<F, A>"
resource_text (resources.TextureStorage3D u) = codes "texture_storage_3d<F, A>"
resource_text resources.AtomicPointer = codes "ptr<S, atomic<T>, read_write>"
resource_text resources.WorkgroupAtomicPointer = codes "ptr<workgroup, atomic<T>, read_write>"
resource_text resources.WorkgroupPointer = codes "ptr<workgroup, E, read_write>"
resource_text resources.ArrayPointer = codes "ptr<storage, array<E>, A>"

abbrev pub pattern_text : Bool → Pattern → List ℕ
pattern_text of_vectors (patterns.Value s e) = value_text of_vectors s e
pattern_text of_vectors (patterns.Sampler s) = sampler_text s
pattern_text of_vectors (patterns.Texture t) = texture_text t
pattern_text of_vectors (patterns.Resource r) = resource_text r

-- `, T`
abbrev pub after_comma : Bool → Pattern → List ℕ
after_comma of_vectors p = codes ", " ++ pattern_text of_vectors p

-- `vecN<T>, T, T`
abbrev pub patterns_text : Bool → List Pattern → List ℕ
patterns_text of_vectors [] = []
patterns_text of_vectors (p ∷ ps) = pattern_text of_vectors p ++ flat_map (after_comma of_vectors) ps

-- the first parameter of an overload with a template: `<T>`
abbrev pub template_text : Bool → Bool → List Pattern → List ℕ
template_text true of_vectors (p ∷ ps) = codes "<" ++ pattern_text of_vectors p ++ codes ">"
template_text has_template of_vectors ps = []

-- the other parameters
abbrev pub after_template : Bool → List Pattern → List Pattern
after_template true (p ∷ ps) = ps
after_template has_template ps = ps

-- `(vecN<T>, T)`; with a template `<T>(U)`
abbrev pub parameters_text : Bool → Bool → List Pattern → List ℕ
parameters_text has_template of_vectors ps =
    template_text has_template of_vectors ps ++ codes "(" ++ patterns_text of_vectors (after_template has_template ps) ++ codes ")"

-- `-> T`, `-> __frexp_result_vec2_T`
abbrev pub result_text : Bool → Returns → List ℕ
result_text of_vectors NoValue = []
result_text of_vectors (Gives p) = codes " -> " ++ pattern_text of_vectors p
result_text of_vectors (GivesStruct f s) = codes " -> " ++ function_text f ++ shape_text s ++ codes "T"
result_text of_vectors GivesExchange = codes " -> __atomic_compare_exchange_result<T>"
result_text of_vectors GivesPointee = codes " -> E"

-- what the letters stand for

abbrev pub kind_text : Kind → List ℕ
kind_text kinds.AnyScalar = codes "scalar"
kind_text kinds.Number = codes "number"
kind_text kinds.SignedNumber = codes "signed number"
kind_text kinds.Integer = codes "integer"
kind_text kinds.SignedInteger = codes "signed integer"
kind_text kinds.Float = codes "float"
kind_text kinds.ConcreteScalar = codes "concrete scalar"
kind_text kinds.ConcreteNumber = codes "concrete number"
kind_text kinds.ConcreteInteger = codes "concrete integer"
kind_text kinds.ConcreteFloat = codes "concrete float"
kind_text kinds.Number32 = codes "i32 or u32 or f32"
kind_text kinds.ShortFloat = codes "AbstractFloat or f32 or f16"

-- the set of textures or pointers that a parameter asks for, if there is one
abbrev pub first_resource : List Pattern → Option Resource
first_resource [] = None
first_resource (patterns.Resource r ∷ ps) = Some r
first_resource (p ∷ ps) = first_resource ps

abbrev pub is_storage : Option Resource → Bool
is_storage (Some (resources.TextureStorage1D u)) = true
is_storage (Some (resources.TextureStorage2D u)) = true
is_storage (Some (resources.TextureStorage2DArray u)) = true
is_storage (Some (resources.TextureStorage3D u)) = true
is_storage r = false

-- of a storage texture, T is what the texels of its format F have
abbrev pub t_text : Bool → Kind → List ℕ
t_text true k = codes ", T: channel type of F"
t_text false k = codes ", T: " ++ kind_text k

-- `, T: number, U: concrete integer`
abbrev pub scalars_text : Bool → Overload → List ℕ
scalars_text storage (Plain p a) = []
scalars_text storage (WithT p a t) = t_text storage t
scalars_text storage (WithTAndU p a t u) = t_text storage t ++ codes ", U: " ++ kind_text u
scalars_text storage (WithThree p a t u v) = t_text storage t ++ codes ", U: " ++ kind_text u ++ codes ", V: " ++ kind_text v
scalars_text storage (WithFour p a t u v w) = t_text storage t ++ codes ", U: " ++ kind_text u ++ codes ", V: " ++ kind_text v ++ codes ", W: " ++ kind_text w

abbrev pub usage_text : Usage → List ℕ
usage_text Reads = codes ", A: read or read_write"
usage_text Writes = codes ", A: write or read_write"
usage_text Asks = codes ", A: read or write or read_write"

-- what the letters A, E and S stand for
abbrev pub others_text : Option Resource → List ℕ
others_text (Some (resources.TextureStorage1D u)) = usage_text u
others_text (Some (resources.TextureStorage2D u)) = usage_text u
others_text (Some (resources.TextureStorage2DArray u)) = usage_text u
others_text (Some (resources.TextureStorage3D u)) = usage_text u
others_text (Some resources.AtomicPointer) = codes ", S: workgroup or storage"
others_text (Some resources.WorkgroupPointer) = codes ", E: concrete constructible type"
others_text (Some resources.ArrayPointer) = codes ", E: type, A: read or read_write"
others_text r = []

abbrev pub letters_text : Option Resource → Overload → List ℕ
letters_text r o = scalars_text (is_storage r) o ++ others_text r

-- the whole line

-- `clamp(vecN<T>, vecN<T>, vecN<T>) -> vecN<T>, T: number`
abbrev pub signature_text : List ℕ → Bool → Bool → Overload → List ℕ
signature_text name has_template of_vectors o =
    name ++ parameters_text has_template of_vectors (patterns_of o) ++ result_text of_vectors (result_of o) ++ letters_text (first_resource (patterns_of o)) o

abbrev pub is_scalar_or_vector : Pattern → Bool
is_scalar_or_vector (patterns.Value shapes.OneOrVector e) = true
is_scalar_or_vector p = false

-- an overload that takes scalars or vectors has two lines, for scalars and for vectors
abbrev pub overload_lines : List ℕ → Bool → Overload → List (List ℕ)
overload_lines name has_template o = signature_text name has_template false o
    ∷ cond (list_any is_scalar_or_vector (patterns_of o)) (signature_text name has_template true o ∷ []) []

-- the lines of the overloads of a name, without a template or with one
abbrev pub signature_lines : List ℕ → Bool → List Overload → List (List ℕ)
signature_lines name has_template os = flat_map (overload_lines name has_template) os
