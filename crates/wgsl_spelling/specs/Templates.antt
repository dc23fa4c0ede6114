-- What a name with a template list stands for.
use Rattle.std.specs.Prelude.{ℕ, List, [], ◌∷◌, Bool, false, Option, Some, None, codes, cond}
use denote.Enum.Bare.{sameb}
use Rattle.wgsl_reader.specs.contracts.kind.Kind.{the_type as kind_type}
use Rattle.wgsl_reader.specs.declared.kind.Kind.TheVariants as k
use Rattle.wgsl_syntax.specs.Address.{default_access}
use Rattle.wgsl_syntax.specs.Names.{named}
use Rattle.wgsl_syntax.specs.TextureName.{texture_with}
use Rattle.wgsl_syntax.specs.declared.address.AccessMode.{AccessMode}
use Rattle.wgsl_syntax.specs.declared.address.AddressSpace.{AddressSpace}
use Rattle.wgsl_syntax.specs.declared.around.Around.TheVariants.{Array, Vec, Mat, BindingArray, Atomic, Ptr, Ref}
use Rattle.wgsl_syntax.specs.declared.attribute.AccelerationStructureFlags.{AccelerationStructureFlags}
use Rattle.wgsl_syntax.specs.declared.texture.TextureType.{TextureType}
use Rattle.wgsl_syntax.specs.declared.texture_name.TextureName.{TextureName}
use Rattle.wgsl_syntax.specs.declared.texture_name.TextureParameters.TheVariants as parameters
use Rattle.wgsl_constants.specs.Literals.{then}
use Rattle.wgsl_constants.specs.Values.{map_value}
use Rattle.wgsl_constants.specs.declared.call.Function.{Function}
use Rattle.wgsl_constants.specs.declared.call.Function.TheVariants as function
use Rattle.wgsl_spelling.specs.Names.{access_named, flag_named, format_named, sampled_named, space_named}
use Rattle.wgsl_spelling.specs.Predeclared.{predeclared}
use Rattle.wgsl_spelling.specs.Values.{count}
use Rattle.wgsl_spelling.specs.Words.{word}
use Rattle.wgsl_spelling.specs.declared.chain.Leaf.TheVariants as leaf
use Rattle.wgsl_spelling.specs.declared.item.Item.{Item}
use Rattle.wgsl_spelling.specs.declared.item.Value.{Value}
use Rattle.wgsl_spelling.specs.declared.item.Value.TheVariants as v
use Rattle.wgsl_spelling.specs.declared.list.TemplateList.{TemplateList}
use Rattle.wgsl_spelling.specs.declared.list.Parameters.{Parameters}
use Rattle.wgsl_spelling.specs.declared.list.Parameters.TheVariants.{One, Two, Three}
use Rattle.wgsl_spelling.specs.declared.list.Listed.{Listed}
use Rattle.wgsl_spelling.specs.declared.list.Listed.TheVariants as listed
use Rattle.wgsl_spelling.specs.declared.predeclared.LayerName.{LayerName}
use Rattle.wgsl_spelling.specs.declared.predeclared.LayerName.TheVariants as layer
use Rattle.wgsl_spelling.specs.declared.predeclared.PredeclaredType.{PredeclaredType}
use Rattle.wgsl_spelling.specs.declared.predeclared.PredeclaredType.TheVariants as p

-- The innermost list: one, two or three parameters behind the last `<`, and the name in front of it

abbrev pub opens : Value → Bool
opens (v.Sign kind) = sameb kind_type kind k.OpenTemplate
opens other = false

abbrev pub is_open : Item → Bool
is_open i = opens i.value

abbrev pub list_behind : Parameters → List Item → Option (TemplateList × List Item)
list_behind parameters [] = None
list_behind parameters (name ∷ items) = Some (record { name = name.token; parameters = parameters }, items)

abbrev pub third_list : Item → Item → Item → List Item → Option (TemplateList × List Item)
third_list x y z [] = None
third_list x y z (i ∷ items) = cond (is_open i) (list_behind (Three z y x) items) None

abbrev pub second_list : Item → Item → List Item → Option (TemplateList × List Item)
second_list x y [] = None
second_list x y (z ∷ items) = cond (is_open z) (list_behind (Two y x) items) (third_list x y z items)

abbrev pub first_list : Item → List Item → Option (TemplateList × List Item)
first_list x [] = None
first_list x (y ∷ items) = cond (is_open y) (list_behind (One x) items) (second_list x y items)

abbrev pub last_list : List Item → Option (TemplateList × List Item)
last_list [] = None
last_list (x ∷ items) = first_list x items

-- What it stands for

-- the name that an item is, or nothing
abbrev pub name_in : List ℕ → Item → Value → List ℕ
name_in text i v.Name = word text i.token
name_in text i other = []

abbrev pub name : List ℕ → Item → List ℕ
name text i = name_in text i i.value

-- the address space, the type and the access mode: `function, f32`, `storage, f32, read_write`
abbrev pub memory : List ℕ → Parameters → Option (AddressSpace × Item × AccessMode)
memory text (One x) = None
memory text (Two s of) = map_value (λ s. (s, of, default_access s)) (space_named (name text s))
memory text (Three s of m) = then (space_named (name text s)) (λ s. map_value (λ m. (s, of, m)) (access_named (name text m)))

abbrev pub layered : List ℕ → LayerName → Parameters → Option Listed
layered text (layer.Vec n) (One of) = Some (listed.Around (Vec n) of)
layered text (layer.Mat c r) (One of) = Some (listed.Around (Mat c r) of)
layered text layer.Atomic (One of) = Some (listed.Around Atomic of)
layered text layer.Array (One of) = Some (listed.Around (Array None) of)
layered text layer.Array (Two of n) = map_value (λ n. listed.Around (Array (Some n)) of) (count n)
layered text layer.BindingArray (One of) = Some (listed.Around (BindingArray None) of)
layered text layer.BindingArray (Two of n) = map_value (λ n. listed.Around (BindingArray (Some n)) of) (count n)
layered text layer.Pointer parameters = map_value (λ found. listed.Around (Ptr found.0 found.2) found.1) (memory text parameters)
layered text layer.Reference parameters = map_value (λ found. listed.Around (Ref found.0 found.2) found.1) (memory text parameters)
layered text l parameters = None

-- `texture_2d<f32>`, `texture_storage_2d<rgba8unorm, write>`
abbrev pub texture : List ℕ → TextureName → Parameters → Option TextureType
texture text n (One s) = then (sampled_named (name text s)) (λ s. texture_with n (parameters.Sampled s))
texture text n (Two f m) =
    then (format_named (name text f)) (λ f. then (access_named (name text m)) (λ m. texture_with n (parameters.Storage f m)))
texture text n (Three x y z) = None

abbrev pub flag : List ℕ → Parameters → Option AccelerationStructureFlags
flag text (One f) = flag_named (name text f)
flag text other = None

-- the function of `bitcast` with its list: `bitcast<u32>`
abbrev pub bitcast_named : List ℕ → Option Function
bitcast_named name = named ((function.BitcastU32, codes "u32") ∷ (function.BitcastI32, codes "i32") ∷ []) name

abbrev pub bitcast : List ℕ → Parameters → Option Function
bitcast text (One to) = bitcast_named (name text to)
bitcast text other = None

abbrev pub listed_by : List ℕ → PredeclaredType → Parameters → Option Listed
listed_by text (p.Layer l) parameters = layered text l parameters
listed_by text (p.Texture n) parameters = map_value (λ x. listed.Leaf (leaf.Texture x)) (texture text n parameters)
listed_by text p.RayQuery parameters = map_value (λ f. listed.Leaf (leaf.RayQuery (Some f))) (flag text parameters)
listed_by text p.AccelerationStructure parameters = map_value (λ f. listed.Leaf (leaf.AccelerationStructure (Some f))) (flag text parameters)
listed_by text other parameters = None

abbrev pub listed_in : List ℕ → TemplateList → Option Listed
listed_in text l = then (predeclared (word text l.name)) (λ named. listed_by text named l.parameters)
