-- How the rules see the templates: as the type built from each, or as the type inside.
use Rattle.wgsl_syntax.specs.declared.texture.TextureType.{TextureType}
use Rattle.wgsl_rules.specs.types.Types.{WgslType, pointer, binding_array, array}
use Rattle.wgsl_core.specs.View.{view}
use Rattle.wgsl_calls.specs.declared.template.array.ArrayTemplate.{ArrayTemplate}
use Rattle.wgsl_calls.specs.declared.template.array.BindingArrayTemplate.{BindingArrayTemplate}
use Rattle.wgsl_calls.specs.declared.template.vec.VecTemplate.{VecTemplate}
use Rattle.wgsl_calls.specs.declared.template.mat.MatTemplate.{MatTemplate}
use Rattle.wgsl_calls.specs.declared.template.ptr.PtrTemplate.{PtrTemplate}
use Rattle.wgsl_calls.specs.declared.template.bitcast.BitcastTemplate.{BitcastTemplate}
use Rattle.wgsl_calls.specs.declared.template.atomic.AtomicTemplate.{AtomicTemplate}
use Rattle.wgsl_calls.specs.declared.template.texture.TextureTemplate.{TextureTemplate}

abbrev pub array_view : ArrayTemplate → WgslType
array_view t = array t.n (view t.ty)

abbrev pub binding_array_view : BindingArrayTemplate → WgslType
binding_array_view t = binding_array t.n (view t.ty)

-- the type of a vector's components
abbrev pub vec_view : VecTemplate → WgslType
vec_view t = view t.ty

-- the type of a matrix's components
abbrev pub mat_view : MatTemplate → WgslType
mat_view t = view t.ty

abbrev pub ptr_view : PtrTemplate → WgslType
ptr_view t = pointer t.space (view t.ty) t.access

-- the type of the result
abbrev pub bitcast_view : BitcastTemplate → WgslType
bitcast_view t = view t.ty

-- the type inside an atomic
abbrev pub atomic_view : AtomicTemplate → WgslType
atomic_view t = view t.ty

abbrev pub texture_view : TextureTemplate → TextureType
texture_view t = t.ty
