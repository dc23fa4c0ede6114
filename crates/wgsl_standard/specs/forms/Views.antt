-- How the rules see operands, types that aren't built, and refusals.
use Rattle.std.specs.Prelude.{Option, Some, None, Result, Ok, Err}
use Rattle.wgsl_standard.specs.forms.Prelude.{Layer, WgslType, within, pointer, reference, not_scalar, not_constructible, write_ref_type, not_write, not_read}
use Rattle.wgsl_standard.specs.forms.Prelude.{not_read_write, ptr_handle, ptr_vec_comp, conversion, component, not_indexable, unary, binary, builtin, param_count}
use Rattle.wgsl_standard.specs.forms.Prelude.{param_type, Operand, type_with, view, given_type, Referent, Whole, MemoryView, Reference, Pointer}
use Rattle.wgsl_standard.specs.declared.operand.Operand.{Operand as CodeOperand}
use Rattle.wgsl_standard.specs.forms.Concrete.{concrete_of}
use Rattle.wgsl_standard.specs.forms.Expressions.{Expression}
use Rattle.wgsl_standard.specs.forms.Lists.{Taker, condition, function, returned}
use Rattle.wgsl_standard.specs.forms.Refusals.{Refusal, error, not_reference, not_integer, not_const, not_in_space, initialized, access_mode, not_condition, not_returned}
use Rattle.wgsl_standard.specs.declared.forms.form.Element.{Element}
use Rattle.wgsl_standard.specs.declared.forms.form.Element.TheVariants as elements
use Rattle.wgsl_standard.specs.declared.forms.form.UnbuiltType.{UnbuiltType}
use Rattle.wgsl_standard.specs.declared.forms.form.FormType.{FormType}
use Rattle.wgsl_standard.specs.declared.forms.form.Form.{Form}
use Rattle.wgsl_standard.specs.declared.forms.lists.Taker.{Taker as CodeTaker}
use Rattle.wgsl_standard.specs.declared.forms.lists.Taker.TheVariants as takers
use Rattle.wgsl_standard.specs.declared.forms.refusal.Refusal.{Refusal as CodeRefusal}
use Rattle.wgsl_standard.specs.declared.forms.refusal.Refusal.TheVariants as refusals

-- an operand with its type as it is given: a reference is not loaded
abbrev pub given : CodeOperand → Operand
given x = record { of_type = given_type x.ty; is_constant = x.is_constant }

abbrev pub element_view : Element → WgslType
element_view (elements.Value d s) = type_with d s
element_view (elements.Any t) = view t.now
element_view (elements.Concrete t) = concrete_of (view t.now)

-- the type with the layer around it, if there is one
abbrev pub layered : Option Layer → WgslType → WgslType
layered None t = t
layered (Some l) t = within l t

abbrev pub unbuilt_view : UnbuiltType → WgslType
unbuilt_view u = layered u.layer (element_view u.element)

-- the reference or the pointer to the type, if there is one
abbrev pub viewed : Option MemoryView → WgslType → WgslType
viewed None t = t
viewed (Some (Reference r s a)) t = reference s t a
viewed (Some (Pointer s a)) t = pointer s t a

abbrev pub form_type_view : FormType → WgslType
form_type_view f = viewed f.memory (unbuilt_view f.of)

abbrev pub referent_of : Option MemoryView → Referent
referent_of (Some (Reference r s a)) = r
referent_of m = Whole

abbrev pub form_view : Form → Expression
form_view f = record { of_type = form_type_view f.ty; is_constant = f.is_constant; referent = referent_of f.ty.memory }

abbrev pub refusal_view : CodeRefusal → Refusal
refusal_view (refusals.Component t name) = error (component (unbuilt_view t) name.now)
refusal_view (refusals.NotIndexable t) = error (not_indexable (unbuilt_view t))
refusal_view (refusals.NotInteger t) = not_integer (unbuilt_view t)
refusal_view refusals.NotConst = not_const
refusal_view refusals.NotRead = error not_read
refusal_view refusals.NotWrite = error not_write
refusal_view refusals.NotReadWrite = error not_read_write
refusal_view (refusals.NotConstructible t) = error (not_constructible (unbuilt_view t))
refusal_view (refusals.NotScalar t) = error (not_scalar (unbuilt_view t))
refusal_view (refusals.NotReference t) = not_reference (unbuilt_view t)
refusal_view (refusals.NotInSpace s t) = not_in_space s (unbuilt_view t)
refusal_view (refusals.Initialized s) = initialized s
refusal_view (refusals.AccessMode s a) = access_mode s a
refusal_view (refusals.NotCondition t) = not_condition (unbuilt_view t)
refusal_view (refusals.NotReturned u t) = not_returned (unbuilt_view u) (unbuilt_view t)
refusal_view (refusals.Conversion a b) = error (conversion (unbuilt_view a) (unbuilt_view b))
refusal_view (refusals.WriteRefType a b) = error (write_ref_type (unbuilt_view a) (unbuilt_view b))
refusal_view (refusals.Unary o t) = error (unary o (unbuilt_view t))
refusal_view (refusals.Binary o a b) = error (binary o (unbuilt_view a) (unbuilt_view b))
refusal_view (refusals.ParamCount name expected n) = error (param_count name.now expected n)
refusal_view (refusals.ParamType expected t) = error (param_type (unbuilt_view expected) (unbuilt_view t))
refusal_view (refusals.Builtin text) = error (builtin text.now)
refusal_view refusals.PtrHandle = error ptr_handle
refusal_view refusals.PtrVecComp = error ptr_vec_comp

abbrev pub taker_view : CodeTaker → Taker
taker_view (takers.Function name) = function name.now
taker_view takers.Condition = condition
taker_view takers.Return = returned

-- an answer of a call: the value as `seen` shows it, or the refusal
abbrev pub answer_view : {A B : Type 0} → (A → B) → Result A CodeRefusal → Result B Refusal
answer_view seen (Ok a) = Ok (seen a)
answer_view seen (Err e) = Err (refusal_view e)
