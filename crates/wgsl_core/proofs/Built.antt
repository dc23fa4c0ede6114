-- The structs that are built for a call.
use Rattle.std.proofs.Common.{◌≡◌, ℕ, List, [], ◌∷◌, ◌++◌, Result, Ok, Err, IfOk, codes, sym, ap, ap₂, ◌∙◌, append_assoc, rules}
use Rattle.std.specs.declared.alloc.AllocError.{AllocError}
use Rattle.wgsl_core.proofs.Common.{Bool, U32, F32, Frexp, Modf, ResultStruct, result_name, function_text, shape_text, precision_text, WgslType, scalar, struct, no_members, vec, mat, shaped, float_of, exponent_of, plain_member, result_members, result_struct, Member, view, members_of, plain, result_type, «Type», the_lemmas}
use Rattle.wgsl_rules.specs.calls.ResultTypes.{exchange_struct, ray_intersection_struct}
use Rattle.wgsl_core.specs.declared.ty.Type.TheVariants as v

pub same_view : (r : Result «Type» AllocError) (t u : WgslType) → t ≡ u → IfOk r (λ x. view x ≡ t) → IfOk r (λ x. view x ≡ u)
same_view (Ok x) t u e h = h ∙ e
same_view (Err m) t u e h = h

pub bool_is : view v.Bool ≡ scalar Bool
bool_is = search (rules, the_lemmas)

pub u32_is : view v.U32 ≡ scalar U32
u32_is = search (rules, the_lemmas)

pub f32_is : view v.F32 ≡ scalar F32
f32_is = search (rules, the_lemmas)

abbrev two : List ℕ → List ℕ → WgslType → List ℕ → WgslType → WgslType
two name first a second b = struct name (plain_member first a (plain_member second b no_members))

name_is : (n : List ℕ) (r : ResultStruct) → n ≡ result_name r → n ≡ function_text r.function ++ (shape_text r.shape ++ precision_text r.precision)
name_is n r e = e ∙ append_assoc (function_text r.function) (shape_text r.shape) (precision_text r.precision)

pub frexp_is : (n : List ℕ) (r : ResultStruct) (a b : WgslType) → r.function ≡ Frexp → n ≡ result_name r → a ≡ shaped r.shape (scalar (float_of r.precision)) →
    b ≡ shaped r.shape (scalar (exponent_of r.precision)) → two n (codes "fract") a (codes "exp") b ≡ result_type r
unfolding result_struct
frexp_is n r a b f e ea eb =
    (λ i. two (name_is n r e i) (codes "fract") (ea i) (codes "exp") (eb i))
    ∙ ap (λ g. struct (function_text r.function ++ (shape_text r.shape ++ precision_text r.precision)) (result_members g r.shape r.precision)) (sym f)

pub modf_is : (n : List ℕ) (r : ResultStruct) (a b : WgslType) → r.function ≡ Modf → n ≡ result_name r → a ≡ shaped r.shape (scalar (float_of r.precision)) →
    b ≡ shaped r.shape (scalar (float_of r.precision)) → two n (codes "fract") a (codes "whole") b ≡ result_type r
unfolding result_struct
modf_is n r a b f e ea eb =
    (λ i. two (name_is n r e i) (codes "fract") (ea i) (codes "whole") (eb i))
    ∙ ap (λ g. struct (function_text r.function ++ (shape_text r.shape ++ precision_text r.precision)) (result_members g r.shape r.precision)) (sym f)

pub exchange_is : (a b t : WgslType) → a ≡ t → b ≡ scalar Bool → two (codes "__atomic_compare_exchange_result") (codes "old_value") a (codes "exchanged") b ≡ exchange_struct t
unfolding exchange_struct
exchange_is a b t e f = ap₂ (λ a b. two (codes "__atomic_compare_exchange_result") (codes "old_value") a (codes "exchanged") b) e f

-- with one more member
pub grown : (xs ys zs : List Member) (m : Member) → ys ≡ xs ++ m ∷ [] → xs ≡ zs → ys ≡ zs ++ m ∷ []
grown xs ys zs m e f = e ∙ ap (λ l. l ++ m ∷ []) f

pub intersection_is : (a b c d e f g h i j k : WgslType) → a ≡ scalar U32 → b ≡ scalar F32 → c ≡ scalar U32 → d ≡ scalar U32 → e ≡ scalar U32 → f ≡ scalar U32 → g ≡ scalar U32 →
    h ≡ vec 2 (scalar F32) → i ≡ scalar Bool → j ≡ mat 4 3 (scalar F32) → k ≡ mat 4 3 (scalar F32) →
    struct (codes "RayIntersection") (members_of
    (plain (codes "kind") a ∷ plain (codes "t") b ∷ plain (codes "instance_custom_data") c ∷ plain (codes "instance_index") d ∷ plain (codes "sbt_record_offset") e
    ∷ plain (codes "geometry_index") f ∷ plain (codes "primitive_index") g ∷ plain (codes "barycentrics") h ∷ plain (codes "front_face") i ∷ plain (codes "object_to_world") j
    ∷ plain (codes "world_to_object") k ∷ [])) ≡ ray_intersection_struct
unfolding ray_intersection_struct
intersection_is a b c d e f g h i j k pa pb pc pd pe pf pg ph pi pj pk =
    λ x. struct (codes "RayIntersection")
    (plain_member (codes "kind") (pa x) (plain_member (codes "t") (pb x) (plain_member (codes "instance_custom_data") (pc x) (plain_member (codes "instance_index") (pd x)
    (plain_member (codes "sbt_record_offset") (pe x) (plain_member (codes "geometry_index") (pf x) (plain_member (codes "primitive_index") (pg x)
    (plain_member (codes "barycentrics") (ph x) (plain_member (codes "front_face") (pi x) (plain_member (codes "object_to_world") (pj x)
    (plain_member (codes "world_to_object") (pk x) no_members)))))))))))
