-- The result structs of abstract floats are recognised.
use Rattle.std.proofs.Common.{◌≡◌, List, [], ◌∷◌, Option, Some, None, Bool, true, false, cond, ◌⊎◌, inl, inr, ◌↔◌, refl, sym, ◌∙◌, ap, subst, option_and_then, Decides}
use Rattle.wgsl_standard.proofs.CommonForms.{ResultFunction, Frexp, Modf, ResultShape, WgslType, result_struct, abstract_results, result_among, abstract_result, abstract_name}
use Rattle.wgsl_syntax.specs.declared.result_struct.ResultShape.TheVariants as shape
use Rattle.wgsl_syntax.specs.declared.result_struct.ResultPrecision.{ResultPrecision}
use Rattle.wgsl_syntax.specs.declared.result_struct.ResultPrecision.TheVariants as precision
use Rattle.wgsl_syntax.specs.declared.result_struct.ResultStruct.{ResultStruct}
use Rattle.wgsl_core.specs.Equality.{type_eq, type_eq_decides}
use Rattle.wgsl_core.specs.ResultStruct.{result_type}

abbrev Name : Type 0
Name = ResultFunction × ResultShape

abbrev pub struct_of : Name → WgslType
struct_of p = result_struct p.0 p.1 precision.Abstract

among_step : (b : Bool) (r : Name) (o : Option Name) (t : WgslType) (p : Name) → Decides b (t ≡ struct_of r) → (o ≡ Some p → t ≡ struct_of p) → cond b (Some r) o ≡ Some p → t ≡ struct_of p
among_step true r o t p d h e = let q : r ≡ p = cc e in subst (λ r. t ≡ struct_of r) q (d.0 refl)
among_step false r o t p d h e = h e

-- the type is the one that is found among them
pub among_is : (rs : List Name) (t : WgslType) (p : Name) → result_among rs t ≡ Some p → t ≡ struct_of p
among_is [] t p e = absurd (cc e)
among_is (r ∷ rs) t p e = among_step (type_eq t (struct_of r)) r (result_among rs t) t p (type_eq_decides t (struct_of r)) (among_is rs t p) e

abbrev Listed : Name → List Name → Type 0
Listed p [] = ⊥
Listed p (r ∷ rs) = (p ≡ r) ⊎ Listed p rs

found_here : (b : Bool) (r : Name) (o : Option Name) (t : WgslType) → Decides b (t ≡ struct_of r) → t ≡ struct_of r → (q : Name) × (cond b (Some r) o ≡ Some q)
found_here true r o t d h = (r, refl)
found_here false r o t d h = absurd (cc (d.1 h))

found_there : (b : Bool) (r : Name) (o : Option Name) → (q : Name) × (o ≡ Some q) → (q : Name) × (cond b (Some r) o ≡ Some q)
found_there true r o h = (r, refl)
found_there false r o h = h

-- one that is listed is found
found : (rs : List Name) (t : WgslType) (p : Name) → Listed p rs → t ≡ struct_of p → (q : Name) × (result_among rs t ≡ Some q)
found [] t p l h = absurd l
found (r ∷ rs) t p (inl e) h = found_here (type_eq t (struct_of r)) r (result_among rs t) t (type_eq_decides t (struct_of r)) (h ∙ ap struct_of e)
found (r ∷ rs) t p (inr l) h = found_there (type_eq t (struct_of r)) r (result_among rs t) (found rs t p l h)

all_listed : (f : ResultFunction) (s : ResultShape) → Listed (f, s) abstract_results
all_listed Frexp shape.Scalar = inl refl
all_listed Frexp shape.Vec2 = inr (inl refl)
all_listed Frexp shape.Vec3 = inr (inr (inl refl))
all_listed Frexp shape.Vec4 = inr (inr (inr (inl refl)))
all_listed Modf shape.Scalar = inr (inr (inr (inr (inl refl))))
all_listed Modf shape.Vec2 = inr (inr (inr (inr (inr (inl refl)))))
all_listed Modf shape.Vec3 = inr (inr (inr (inr (inr (inr (inl refl))))))
all_listed Modf shape.Vec4 = inr (inr (inr (inr (inr (inr (inr (inl refl)))))))

none_named : (t : WgslType) (f : ResultFunction) (s : ResultShape) (p : ResultPrecision) → t ≡ result_struct f s p → abstract_result t ≡ None → abstract_name (record { function = f; shape = s; precision = p }) ≡ None
unfolding abstract_result
none_named t f s precision.Abstract h e =
    let q = found abstract_results t (f, s) (all_listed f s) h in
    let n : Some q.0 ≡ None = sym q.1 ∙ e in
    absurd (cc n)
none_named t f s precision.F32 h e = refl
none_named t f s precision.F16 h e = refl

abbrev Recognises : WgslType → Option ResultStruct → Type 0
Recognises t r = (x : ResultStruct) → (r ≡ Some x) ↔ (t ≡ result_type x)

by_result : (t : WgslType) (r : Option ResultStruct) → Recognises t r → abstract_result t ≡ None → option_and_then abstract_name r ≡ None
by_result t None h e = refl
by_result t (Some x) h e = none_named t x.function x.shape x.precision ((h x).0 refl) e

by_name : (t : WgslType) (r : Option ResultStruct) → Recognises t r → (o : Option Name) → abstract_result t ≡ o → option_and_then abstract_name r ≡ o
unfolding abstract_result
by_name t r h None e = by_result t r h e
by_name t r h (Some p) e =
    ap (option_and_then abstract_name) ((h (record { function = p.0; shape = p.1; precision = precision.Abstract })).1 (among_is abstract_results t p e))

-- The struct is that of an abstract float as its name, members and attributes say.
pub recognised : (t : WgslType) (r : Option ResultStruct) → Recognises t r → option_and_then abstract_name r ≡ abstract_result t
recognised t r h = by_name t r h (abstract_result t) refl
