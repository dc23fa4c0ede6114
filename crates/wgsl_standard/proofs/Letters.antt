-- What textures and pointers say of the letter T: a concrete scalar, once. They convert to themselves alone.
use Rattle.std.proofs.Common.{◌≡◌, ◌∙◌, ℕ, Option, Some, None, Bool, true, false, cond, refl, sym, subst, true≢false, IsTrue}
use Rattle.wgsl_syntax.specs.Texel.{channel_type}
use Rattle.wgsl_syntax.specs.TextureKind.{sampled_scalar}
use Rattle.wgsl_standard.proofs.Common.{Scalar, AbstractInt, AbstractFloat, Resource, WgslType, array_of, scalar, within, atomic, pointer, texture, result_struct, IsValueType, BaseStep, Step, base, inside, int_to_float, Converts, IsAbstract, Above, here, further, value_converts, StandsAlone, converts_alone, Names, may_be, says_letter, resource_group, texture_group, type_group}
use Rattle.wgsl_syntax.specs.declared.address.AddressSpace.{AddressSpace}
use Rattle.wgsl_syntax.specs.declared.address.AddressSpace.TheVariants.{Workgroup, Storage}
use Rattle.wgsl_syntax.specs.declared.address.AccessMode.{AccessMode}
use Rattle.wgsl_syntax.specs.declared.address.AccessMode.TheVariants.{Read, ReadWrite}
use Rattle.wgsl_syntax.specs.declared.texel.TexelFormat.{TexelFormat}
use Rattle.wgsl_syntax.specs.declared.texture.SampledType.{SampledType}
use Rattle.wgsl_syntax.specs.declared.texture.SampledType.TheVariants as sampled
use Rattle.wgsl_syntax.specs.declared.texture.TextureType.{TextureType}
use Rattle.wgsl_syntax.specs.declared.texture.TextureType.TheVariants as textures
use Rattle.wgsl_syntax.specs.declared.overload.Resource.TheVariants.{Texture1D, Texture2D, Texture2DArray, Texture3D, TextureCube, TextureCubeArray, TextureMultisampled2D, TextureStorage1D, TextureStorage2D, TextureStorage2DArray, TextureStorage3D, AtomicPointer, WorkgroupAtomicPointer, WorkgroupPointer, ArrayPointer}
use Rattle.wgsl_rules.specs.standard.Resources.{suits, texture_letter, is_constructible, atomic_letter, constructible_letter, array_letter, pointer_letter, letter_of}

-- Types with P may say that the letter T stands for a concrete scalar; they may also say nothing, unless they must say something.
-- Types outside the set say neither.
abbrev pub Says : Type 0 → Bool → Option (Option Scalar) → Type 0
Says P must None = Unit {0}
Says P must (Some None) = P × (must ≡ false)
Says P must (Some (Some s)) = P × IsTrue (may_be true s)

sampled_concrete : (s : SampledType) → IsTrue (may_be true (sampled_scalar s))
sampled_concrete sampled.I32 = refl
sampled_concrete s = refl

channels_say : (P : Type 0) → P → (y : Bool) (f : TexelFormat) → Says P true (cond y (Some (Some (sampled_scalar (channel_type f)))) None)
channels_say P p true f = (p, sampled_concrete (channel_type f))
channels_say P p false f = tt

-- a texture of a set is of its group
texture_says : (r : Resource) (x : TextureType) → Says (texture_group x ≡ resource_group r) (says_letter r) (texture_letter r x)
texture_says Texture1D (textures.Sampled1D s) = (refl, sampled_concrete s)
texture_says Texture2D (textures.Sampled2D s) = (refl, sampled_concrete s)
texture_says Texture2DArray (textures.Sampled2DArray s) = (refl, sampled_concrete s)
texture_says Texture3D (textures.Sampled3D s) = (refl, sampled_concrete s)
texture_says TextureCube (textures.SampledCube s) = (refl, sampled_concrete s)
texture_says TextureCubeArray (textures.SampledCubeArray s) = (refl, sampled_concrete s)
texture_says TextureMultisampled2D (textures.Multisampled2D s) = (refl, sampled_concrete s)
texture_says (TextureStorage1D u) (textures.Storage1D f m) = channels_say _ refl (suits u m) f
texture_says (TextureStorage2D u) (textures.Storage2D f m) = channels_say _ refl (suits u m) f
texture_says (TextureStorage2DArray u) (textures.Storage2DArray f m) = channels_say _ refl (suits u m) f
texture_says (TextureStorage3D u) (textures.Storage3D f m) = channels_say _ refl (suits u m) f
texture_says r x = tt

atomic_says : (a : AddressSpace) (t : WgslType) (m : AccessMode) → Says (type_group (pointer a t m) ≡ 23) true (atomic_letter t m)
atomic_says a (atomic (scalar AbstractInt)) ReadWrite = tt
atomic_says a (atomic (scalar AbstractFloat)) ReadWrite = tt
atomic_says a (atomic (scalar s)) ReadWrite = (refl, refl)
atomic_says a t m = tt

constructible_says : (a : AddressSpace) (t : WgslType) (m : AccessMode) → Says (type_group (pointer a t m) ≡ 24) false (constructible_letter t m)
constructible_says a (atomic t) ReadWrite = tt
constructible_says a t ReadWrite = if_constructible (type_group (pointer a t ReadWrite) ≡ 24) refl (is_constructible t)
  where
    if_constructible : (P : Type 0) → P → (y : Bool) → Says P false (cond y (Some None) None)
    if_constructible P p true = (p, refl)
    if_constructible P p false = tt
constructible_says a t m = tt

array_says : (a : AddressSpace) (t : WgslType) (m : AccessMode) → Says (type_group (pointer a t m) ≡ 24) false (array_letter t m)
array_says a (within (array_of None) t) Read = (refl, refl)
array_says a (within (array_of None) t) ReadWrite = (refl, refl)
array_says a t m = tt

-- a pointer of a set is of its group
pointer_says : (r : Resource) (a : AddressSpace) (t : WgslType) (m : AccessMode) → Says (type_group (pointer a t m) ≡ resource_group r) (says_letter r) (pointer_letter r a t m)
pointer_says AtomicPointer Workgroup t m = atomic_says Workgroup t m
pointer_says AtomicPointer Storage t m = atomic_says Storage t m
pointer_says WorkgroupAtomicPointer Workgroup t m = atomic_says Workgroup t m
pointer_says WorkgroupPointer Workgroup t m = constructible_says Workgroup t m
pointer_says ArrayPointer Storage t m = array_says Storage t m
pointer_says r a t m = tt

pub letter_says : (r : Resource) (u : WgslType) → Says (type_group u ≡ resource_group r) (says_letter r) (letter_of r u)
letter_says r (texture x) = texture_says r x
letter_says r (pointer a t m) = pointer_says r a t m
letter_says r u = tt

pub group_said : (P : Type 0) (y : Bool) (l : Option (Option Scalar)) (s : Scalar) → Says P y l → Names l s → P
group_said P y None s d n = absurd n
group_said P y (Some None) s d n = d.0
group_said P y l s d n = d.0

-- T is the same for two substitutions that it fits, if it says what T is
pub letter_once : (P : Type 0) (y : Bool) (l : Option (Option Scalar)) → IsTrue y → (a b : Scalar) → Says P y l → Names l a → Names l b → a ≡ b
letter_once P y None i a b d h k = absurd h
letter_once P y (Some None) i a b d h k = absurd (true≢false (sym i ∙ d.1))
letter_once P y (Some (Some s)) i a b d h k = sym h ∙ k

-- no value but itself converts to a texture, a sampler or a pointer

base_not_alone : {t u : WgslType} {w : ℕ} → BaseStep t u w → StandsAlone u → ⊥
unfolding result_struct
base_not_alone int_to_float h = h
base_not_alone b h = h

step_not_alone : {t u : WgslType} {w : ℕ} → Step t u w → StandsAlone u → ⊥
step_not_alone (base b) h = base_not_alone b h
step_not_alone (inside l s) h = h

above_alone : {t u : WgslType} → Above t u → StandsAlone u → t ≡ u
above_alone here h = refl
above_alone (further a s) h = absurd (step_not_alone s h)

pub only_itself : (t u : WgslType) (w : ℕ) → IsValueType t → StandsAlone u → Converts t u w → t ≡ u
only_itself t u w v a h = above_alone (value_converts v h).0 a

pub to_itself : (t u : WgslType) → StandsAlone u → t ≡ u → Converts t u 0
to_itself t u a e = subst (λ t. Converts t u 0) (sym e) ((converts_alone u u 0 a).1 (refl, refl))

-- each type of a set is a texture or a pointer

pub member_alone : (r : Resource) (u : WgslType) (s : Scalar) → Names (letter_of r u) s → StandsAlone u
member_alone r (texture x) s h = tt
member_alone r (pointer a t m) s h = tt
member_alone r u s h = absurd h

pub member_concrete : (r : Resource) (u : WgslType) (s : Scalar) → Names (letter_of r u) s → ¬ IsAbstract u
member_concrete r (texture x) s h = λ a. true≢false (sym a)
member_concrete r (pointer b t m) s h = λ a. true≢false (sym a)
member_concrete r u s h = absurd h

pub member_value : (r : Resource) (u : WgslType) (s : Scalar) → Names (letter_of r u) s → IsValueType u
member_value r (texture x) s h = tt
member_value r (pointer b t m) s h = tt
member_value r u s h = absurd h
