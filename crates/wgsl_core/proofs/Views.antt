-- How the rules see each variant of a type, and that they see no other variant so.
use Rattle.std.proofs.Common.{◌≡◌, ℕ, List, Option, Box, Global, sym, ap, subst, ◌∙◌, rules, string_bytes}
use Rattle.wgsl_core.proofs.Common.{AccessMode, AddressSpace, IsStruct, IsArray, IsVector, IsMatrix, IsAtomic, IsPointer, Member, Struct, view, type_step, member_step, struct_step, members_view, «Type», the_lemmas, out-Type, roll-Type, roll-out-Type, fold-roll-Type, StructType, out-StructType, StructMemberType}
use Rattle.wgsl_syntax.specs.declared.attribute.AccelerationStructureFlags.{AccelerationStructureFlags}
use Rattle.wgsl_syntax.specs.declared.texture.SamplerType.{SamplerType}
use Rattle.wgsl_syntax.specs.declared.texture.TextureType.{TextureType}
use Rattle.wgsl_rules.specs.types.Types.{WgslType, struct, atomic, pointer, reference, texture, sampler, binding_array, ray_query, acceleration_structure, Members, array, vec, mat}
use Rattle.wgsl_rules.specs.conversion.Loading.{IsReference}
use Rattle.wgsl_core.specs.declared.ty.Type.TheOpen.{Type-F}
use Rattle.wgsl_core.specs.declared.ty.Type.TheVariants as v

abbrev Level : Type 0
Level = Type-F «Type» StructMemberType StructType

pub view-Struct : (s : Box StructType Global) → view (v.Struct s) ≡ struct (string_bytes (out-StructType s.value).name) (members_view ((out-StructType s.value).members).items)
view-Struct s = search (rules, the_lemmas)

pub view-Array : (t : Box «Type» Global) (n : Option ℕ) → view (v.Array t n) ≡ array n (view t.value)
view-Array t n = search (rules, the_lemmas)

pub view-Vec : (n : ℕ) (t : Box «Type» Global) → view (v.Vec n t) ≡ vec n (view t.value)
view-Vec n t = search (rules, the_lemmas)

pub view-Mat : (c : ℕ) (r : ℕ) (t : Box «Type» Global) → view (v.Mat c r t) ≡ mat c r (view t.value)
view-Mat c r t = search (rules, the_lemmas)

pub view-Atomic : (t : Box «Type» Global) → view (v.Atomic t) ≡ atomic (view t.value)
view-Atomic t = search (rules, the_lemmas)

pub view-Ptr : (p : AddressSpace) (t : Box «Type» Global) (m : AccessMode) → view (v.Ptr p t m) ≡ pointer p (view t.value) m
view-Ptr p t m = search (rules, the_lemmas)

pub view-Ref : (p : AddressSpace) (t : Box «Type» Global) (m : AccessMode) → view (v.Ref p t m) ≡ reference p (view t.value) m
view-Ref p t m = search (rules, the_lemmas)

pub view-Texture : (t : TextureType) → view (v.Texture t) ≡ texture t
view-Texture t = search (rules, the_lemmas)

pub view-Sampler : (s : SamplerType) → view (v.Sampler s) ≡ sampler s
view-Sampler s = search (rules, the_lemmas)

pub view-BindingArray : (t : Box «Type» Global) (n : Option ℕ) → view (v.BindingArray t n) ≡ binding_array n (view t.value)
view-BindingArray t n = search (rules, the_lemmas)

pub view-RayQuery : (f : Option AccelerationStructureFlags) → view (v.RayQuery f) ≡ ray_query f
view-RayQuery f = search (rules, the_lemmas)

pub view-AccelerationStructure : (f : Option AccelerationStructureFlags) → view (v.AccelerationStructure f) ≡ acceleration_structure f
view-AccelerationStructure f = search (rules, the_lemmas)

-- kinds of types that the rules do not name
abbrev IsTexture : WgslType → Type 0
IsTexture (texture t) = Unit {0}
IsTexture t = ⊥

abbrev IsSampler : WgslType → Type 0
IsSampler (sampler s) = Unit {0}
IsSampler t = ⊥

abbrev IsBindingArray : WgslType → Type 0
IsBindingArray (binding_array n t) = Unit {0}
IsBindingArray t = ⊥

abbrev IsRayQuery : WgslType → Type 0
IsRayQuery (ray_query f) = Unit {0}
IsRayQuery t = ⊥

abbrev IsAccelerationStructure : WgslType → Type 0
IsAccelerationStructure (acceleration_structure f) = Unit {0}
IsAccelerationStructure t = ⊥

not_struct_at : (level : Level) → ((s : Box StructType Global) → roll-Type level ≡ v.Struct s → ⊥) → (name : List ℕ) (ms : Members) → view (roll-Type level) ≡ struct name ms → ⊥
not_struct_at (Type-F.Struct s) h _ _ e = h s (v.rolls-Struct s)
not_struct_at level h name ms e = subst IsStruct (sym e ∙ fold-roll-Type WgslType Member Struct type_step member_step struct_step level) tt

pub not_struct : (b : «Type») → ((s : Box StructType Global) → b ≡ v.Struct s → ⊥) → (name : List ℕ) (ms : Members) → view b ≡ struct name ms → ⊥
not_struct b h name ms e =
    let k = roll-out-Type b in
    not_struct_at (out-Type b) (λ x_s k'. h x_s (sym k ∙ k')) name ms (ap view k ∙ e)

not_array_at : (level : Level) → ((t : Box «Type» Global) (n : Option ℕ) → roll-Type level ≡ v.Array t n → ⊥) → (m : Option ℕ) (u : WgslType) → view (roll-Type level) ≡ array m u → ⊥
not_array_at (Type-F.Array t n) h _ _ e = h t n (v.rolls-Array t n)
not_array_at level h m u e = subst IsArray (sym e ∙ fold-roll-Type WgslType Member Struct type_step member_step struct_step level) tt

pub not_array : (b : «Type») → ((t : Box «Type» Global) (n : Option ℕ) → b ≡ v.Array t n → ⊥) → (m : Option ℕ) (u : WgslType) → view b ≡ array m u → ⊥
not_array b h m u e =
    let k = roll-out-Type b in
    not_array_at (out-Type b) (λ x_t x_n k'. h x_t x_n (sym k ∙ k')) m u (ap view k ∙ e)

not_vec_at : (level : Level) → ((n : ℕ) (t : Box «Type» Global) → roll-Type level ≡ v.Vec n t → ⊥) → (m : ℕ) (u : WgslType) → view (roll-Type level) ≡ vec m u → ⊥
not_vec_at (Type-F.Vec n t) h _ _ e = h n t (v.rolls-Vec n t)
not_vec_at level h m u e = subst IsVector (sym e ∙ fold-roll-Type WgslType Member Struct type_step member_step struct_step level) tt

pub not_vec : (b : «Type») → ((n : ℕ) (t : Box «Type» Global) → b ≡ v.Vec n t → ⊥) → (m : ℕ) (u : WgslType) → view b ≡ vec m u → ⊥
not_vec b h m u e =
    let k = roll-out-Type b in
    not_vec_at (out-Type b) (λ x_n x_t k'. h x_n x_t (sym k ∙ k')) m u (ap view k ∙ e)

not_mat_at : (level : Level) → ((c : ℕ) (r : ℕ) (t : Box «Type» Global) → roll-Type level ≡ v.Mat c r t → ⊥) → (d : ℕ) (s : ℕ) (u : WgslType) → view (roll-Type level) ≡ mat d s u → ⊥
not_mat_at (Type-F.Mat c r t) h _ _ _ e = h c r t (v.rolls-Mat c r t)
not_mat_at level h d s u e = subst IsMatrix (sym e ∙ fold-roll-Type WgslType Member Struct type_step member_step struct_step level) tt

pub not_mat : (b : «Type») → ((c : ℕ) (r : ℕ) (t : Box «Type» Global) → b ≡ v.Mat c r t → ⊥) → (d : ℕ) (s : ℕ) (u : WgslType) → view b ≡ mat d s u → ⊥
not_mat b h d s u e =
    let k = roll-out-Type b in
    not_mat_at (out-Type b) (λ x_c x_r x_t k'. h x_c x_r x_t (sym k ∙ k')) d s u (ap view k ∙ e)

not_atomic_at : (level : Level) → ((t : Box «Type» Global) → roll-Type level ≡ v.Atomic t → ⊥) → (u : WgslType) → view (roll-Type level) ≡ atomic u → ⊥
not_atomic_at (Type-F.Atomic t) h _ e = h t (v.rolls-Atomic t)
not_atomic_at level h u e = subst IsAtomic (sym e ∙ fold-roll-Type WgslType Member Struct type_step member_step struct_step level) tt

pub not_atomic : (b : «Type») → ((t : Box «Type» Global) → b ≡ v.Atomic t → ⊥) → (u : WgslType) → view b ≡ atomic u → ⊥
not_atomic b h u e =
    let k = roll-out-Type b in
    not_atomic_at (out-Type b) (λ x_t k'. h x_t (sym k ∙ k')) u (ap view k ∙ e)

not_pointer_at : (level : Level) → ((p : AddressSpace) (t : Box «Type» Global) (m : AccessMode) → roll-Type level ≡ v.Ptr p t m → ⊥) → (q : AddressSpace) (u : WgslType) (n : AccessMode) → view (roll-Type level) ≡ pointer q u n → ⊥
not_pointer_at (Type-F.Ptr p t m) h _ _ _ e = h p t m (v.rolls-Ptr p t m)
not_pointer_at level h q u n e = subst IsPointer (sym e ∙ fold-roll-Type WgslType Member Struct type_step member_step struct_step level) tt

pub not_pointer : (b : «Type») → ((p : AddressSpace) (t : Box «Type» Global) (m : AccessMode) → b ≡ v.Ptr p t m → ⊥) → (q : AddressSpace) (u : WgslType) (n : AccessMode) → view b ≡ pointer q u n → ⊥
not_pointer b h q u n e =
    let k = roll-out-Type b in
    not_pointer_at (out-Type b) (λ x_p x_t x_m k'. h x_p x_t x_m (sym k ∙ k')) q u n (ap view k ∙ e)

not_reference_at : (level : Level) → ((p : AddressSpace) (t : Box «Type» Global) (m : AccessMode) → roll-Type level ≡ v.Ref p t m → ⊥) → (q : AddressSpace) (u : WgslType) (n : AccessMode) → view (roll-Type level) ≡ reference q u n → ⊥
not_reference_at (Type-F.Ref p t m) h _ _ _ e = h p t m (v.rolls-Ref p t m)
not_reference_at level h q u n e = subst IsReference (sym e ∙ fold-roll-Type WgslType Member Struct type_step member_step struct_step level) tt

pub not_reference : (b : «Type») → ((p : AddressSpace) (t : Box «Type» Global) (m : AccessMode) → b ≡ v.Ref p t m → ⊥) → (q : AddressSpace) (u : WgslType) (n : AccessMode) → view b ≡ reference q u n → ⊥
not_reference b h q u n e =
    let k = roll-out-Type b in
    not_reference_at (out-Type b) (λ x_p x_t x_m k'. h x_p x_t x_m (sym k ∙ k')) q u n (ap view k ∙ e)

not_texture_at : (level : Level) → ((t : TextureType) → roll-Type level ≡ v.Texture t → ⊥) → (u : TextureType) → view (roll-Type level) ≡ texture u → ⊥
not_texture_at (Type-F.Texture t) h _ e = h t (v.rolls-Texture t)
not_texture_at level h u e = subst IsTexture (sym e ∙ fold-roll-Type WgslType Member Struct type_step member_step struct_step level) tt

pub not_texture : (b : «Type») → ((t : TextureType) → b ≡ v.Texture t → ⊥) → (u : TextureType) → view b ≡ texture u → ⊥
not_texture b h u e =
    let k = roll-out-Type b in
    not_texture_at (out-Type b) (λ x_t k'. h x_t (sym k ∙ k')) u (ap view k ∙ e)

not_sampler_at : (level : Level) → ((s : SamplerType) → roll-Type level ≡ v.Sampler s → ⊥) → (u : SamplerType) → view (roll-Type level) ≡ sampler u → ⊥
not_sampler_at (Type-F.Sampler s) h _ e = h s (v.rolls-Sampler s)
not_sampler_at level h u e = subst IsSampler (sym e ∙ fold-roll-Type WgslType Member Struct type_step member_step struct_step level) tt

pub not_sampler : (b : «Type») → ((s : SamplerType) → b ≡ v.Sampler s → ⊥) → (u : SamplerType) → view b ≡ sampler u → ⊥
not_sampler b h u e =
    let k = roll-out-Type b in
    not_sampler_at (out-Type b) (λ x_s k'. h x_s (sym k ∙ k')) u (ap view k ∙ e)

not_binding_array_at : (level : Level) → ((t : Box «Type» Global) (n : Option ℕ) → roll-Type level ≡ v.BindingArray t n → ⊥) → (m : Option ℕ) (u : WgslType) → view (roll-Type level) ≡ binding_array m u → ⊥
not_binding_array_at (Type-F.BindingArray t n) h _ _ e = h t n (v.rolls-BindingArray t n)
not_binding_array_at level h m u e = subst IsBindingArray (sym e ∙ fold-roll-Type WgslType Member Struct type_step member_step struct_step level) tt

pub not_binding_array : (b : «Type») → ((t : Box «Type» Global) (n : Option ℕ) → b ≡ v.BindingArray t n → ⊥) → (m : Option ℕ) (u : WgslType) → view b ≡ binding_array m u → ⊥
not_binding_array b h m u e =
    let k = roll-out-Type b in
    not_binding_array_at (out-Type b) (λ x_t x_n k'. h x_t x_n (sym k ∙ k')) m u (ap view k ∙ e)

not_ray_query_at : (level : Level) → ((f : Option AccelerationStructureFlags) → roll-Type level ≡ v.RayQuery f → ⊥) → (g : Option AccelerationStructureFlags) → view (roll-Type level) ≡ ray_query g → ⊥
not_ray_query_at (Type-F.RayQuery f) h _ e = h f (v.rolls-RayQuery f)
not_ray_query_at level h g e = subst IsRayQuery (sym e ∙ fold-roll-Type WgslType Member Struct type_step member_step struct_step level) tt

pub not_ray_query : (b : «Type») → ((f : Option AccelerationStructureFlags) → b ≡ v.RayQuery f → ⊥) → (g : Option AccelerationStructureFlags) → view b ≡ ray_query g → ⊥
not_ray_query b h g e =
    let k = roll-out-Type b in
    not_ray_query_at (out-Type b) (λ x_f k'. h x_f (sym k ∙ k')) g (ap view k ∙ e)

not_acceleration_structure_at : (level : Level) → ((f : Option AccelerationStructureFlags) → roll-Type level ≡ v.AccelerationStructure f → ⊥) → (g : Option AccelerationStructureFlags) → view (roll-Type level) ≡ acceleration_structure g → ⊥
not_acceleration_structure_at (Type-F.AccelerationStructure f) h _ e = h f (v.rolls-AccelerationStructure f)
not_acceleration_structure_at level h g e = subst IsAccelerationStructure (sym e ∙ fold-roll-Type WgslType Member Struct type_step member_step struct_step level) tt

pub not_acceleration_structure : (b : «Type») → ((f : Option AccelerationStructureFlags) → b ≡ v.AccelerationStructure f → ⊥) → (g : Option AccelerationStructureFlags) → view b ≡ acceleration_structure g → ⊥
not_acceleration_structure b h g e =
    let k = roll-out-Type b in
    not_acceleration_structure_at (out-Type b) (λ x_f k'. h x_f (sym k ∙ k')) g (ap view k ∙ e)
