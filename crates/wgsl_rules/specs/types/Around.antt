-- Types by what stands around one other type.
use Rattle.wgsl_syntax.specs.declared.around.Around.{Around}
use Rattle.wgsl_syntax.specs.declared.around.Around.TheVariants.{Array, Vec, Mat, BindingArray, Atomic, Ptr, Ref}
use Rattle.wgsl_rules.specs.types.Types.{WgslType, array, vec, mat, atomic, pointer, reference, binding_array}

-- the type with that around another type
abbrev pub around : Around → WgslType → WgslType
around (Array n) t = array n t
around (Vec n) t = vec n t
around (Mat c r) t = mat c r t
around (BindingArray n) t = binding_array n t
around Atomic t = atomic t
around (Ptr space access) t = pointer space t access
around (Ref space access) t = reference space t access
