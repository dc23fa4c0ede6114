use Rattle.std.proofs.Common.{◌∙◌, sym, ap, arith}
use Rattle.wgsl_core.specs.View.{view}
use Rattle.wgsl_core.proofs.Equals.{never, as_many}
use Rattle.wgsl_core.proofs.Views.{not_struct, not_array, not_vec, not_mat, not_atomic, not_pointer, not_reference, not_texture, not_sampler, not_binding_array, not_ray_query, not_acceleration_structure, view-Struct, view-Array, view-Vec, view-Mat, view-Atomic, view-Ptr, view-Ref, view-Texture, view-Sampler, view-BindingArray, view-RayQuery, view-AccelerationStructure}
use Rattle.wgsl_core.proofs.ty.eq.+same.Goals as goal

pub same-returns-in_default-b : goal.same-returns-in_default-b
same-returns-in_default-b t c =
    never (λ e. not_struct _ c.in_default-b.not-Struct _ _ (sym e ∙ (ap view c.in-Struct.is ∙ view-Struct _)))

pub same-returns-in_default-b-2 : goal.same-returns-in_default-b-2
same-returns-in_default-b-2 t c =
    never (λ e. not_array _ c.in_default-b-2.not-Array _ _ (sym e ∙ (ap view c.in-Array.is ∙ view-Array _ _)))

pub same-returns-in_default-b-3 : goal.same-returns-in_default-b-3
same-returns-in_default-b-3 t c =
    never (λ e. not_vec _ c.in_default-b-3.not-Vec _ _ (sym e ∙ (ap view c.in-Vec.is ∙ view-Vec _ _)))

pub same-returns-in_default-b-4 : goal.same-returns-in_default-b-4
same-returns-in_default-b-4 t c =
    never (λ e. not_mat _ c.in_default-b-4.not-Mat _ _ _ (sym e ∙ (ap view c.in-Mat.is ∙ view-Mat _ _ _)))

pub same-returns-in_default-b-5 : goal.same-returns-in_default-b-5
same-returns-in_default-b-5 t c =
    never (λ e. not_atomic _ c.in_default-b-5.not-Atomic _ (sym e ∙ (ap view c.in-Atomic.is ∙ view-Atomic _)))

pub same-returns-in_default-b-6 : goal.same-returns-in_default-b-6
same-returns-in_default-b-6 t c =
    never (λ e. not_pointer _ c.in_default-b-6.not-Ptr _ _ _ (sym e ∙ (ap view c.in-Ptr.is ∙ view-Ptr _ _ _)))

pub same-returns-in_default-b-7 : goal.same-returns-in_default-b-7
same-returns-in_default-b-7 t c =
    never (λ e. not_reference _ c.in_default-b-7.not-Ref _ _ _ (sym e ∙ (ap view c.in-Ref.is ∙ view-Ref _ _ _)))

pub same-returns-in_default-b-8 : goal.same-returns-in_default-b-8
same-returns-in_default-b-8 t c =
    never (λ e. not_texture _ c.in_default-b-8.not-Texture _ (sym e ∙ (ap view c.in-Texture.is ∙ view-Texture _)))

pub same-returns-in_default-b-9 : goal.same-returns-in_default-b-9
same-returns-in_default-b-9 t c =
    never (λ e. not_sampler _ c.in_default-b-9.not-Sampler _ (sym e ∙ (ap view c.in-Sampler.is ∙ view-Sampler _)))

pub same-returns-in_default-b-10 : goal.same-returns-in_default-b-10
same-returns-in_default-b-10 t c =
    never (λ e. not_binding_array _ c.in_default-b-10.not-BindingArray _ _ (sym e ∙ (ap view c.in-BindingArray.is ∙ view-BindingArray _ _)))

pub same-returns-in_default-b-11 : goal.same-returns-in_default-b-11
same-returns-in_default-b-11 t c =
    never (λ e. not_ray_query _ c.in_default-b-11.not-RayQuery _ (sym e ∙ (ap view c.in-RayQuery.is ∙ view-RayQuery _)))

pub same-returns-in_default-b-12 : goal.same-returns-in_default-b-12
same-returns-in_default-b-12 t c =
    never (λ e. not_acceleration_structure _ c.in_default-b-12.not-AccelerationStructure _ (sym e ∙ (ap view c.in-AccelerationStructure.is ∙ view-AccelerationStructure _)))

pub same_members-returns-then-len : goal.same_members-returns-then-len
same_members-returns-then-len t c = never (λ e. c.if-len.true (omega (arith, as_many _ _ e)))
