-- The type of a form, and the scalar and the layer of a type.
use Rattle.std.specs.Prelude.{Option, Some, None}
use Rattle.wgsl_syntax.specs.declared.scalar.Scalar.{Scalar}
use Rattle.wgsl_rules.specs.types.Types.{Layer, WgslType, scalar, within, struct, atomic, pointer, reference, texture, sampler, binding_array, ray_query, acceleration_structure, array, vec, mat}
use Rattle.wgsl_core.specs.View.{view, struct_view}
use Rattle.wgsl_core.specs.declared.ty.form.Form.{Form}
use Rattle.wgsl_core.specs.declared.ty.form.Form.TheVariants as forms

abbrev pub scalar_of : WgslType → Option Scalar
scalar_of (scalar s) = Some s
scalar_of t = None

abbrev pub layer_of : WgslType → Option (Layer × WgslType)
layer_of (within l t) = Some (l, t)
layer_of t = None

-- the type that a form stands for
abbrev pub form_view : Form → WgslType
form_view (forms.Scalar s) = scalar s
form_view (forms.Array n t) = array n (view t.now)
form_view (forms.Vector n t) = vec n (view t.now)
form_view (forms.Matrix c r t) = mat c r (view t.now)
form_view (forms.Struct s) = struct (struct_view s.now).name (struct_view s.now).members
form_view (forms.Atomic t) = atomic (view t.now)
form_view (forms.Pointer s t m) = pointer s (view t.now) m
form_view (forms.Reference s t m) = reference s (view t.now) m
form_view (forms.Texture x) = texture x
form_view (forms.Sampler s) = sampler s
form_view (forms.BindingArray n t) = binding_array n (view t.now)
form_view (forms.RayQuery f) = ray_query f
form_view (forms.AccelerationStructure f) = acceleration_structure f
