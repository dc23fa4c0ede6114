-- When out of memory may stand for an answer.
use Rattle.std.specs.declared.alloc.AllocError.{AllocError}
use Rattle.std.proofs.Common.{◌≡◌, List, [], ◌∷◌, Option, Some, None, Result, Ok, Err, inr, refl, sym, subst, Bool, true, false, cond, IsErrAnd}
use Rattle.wgsl_calls.proofs.Common.{Scalar, F32, Layer, array_of, vec_of, mat_of, WgslType, scalar, within, IsLeaf, result_struct, exchange_struct, ray_intersection_struct, Parameter, Signature, Refusal, signature, Row, ReturnType, Fits, IsFromTemplate, given, «Type», Error, Fail, IsScalarMade, Answered, Chooses, IsBuilt as IsBuiltType, IsMet, MayBeOutOfMemory}
use Rattle.wgsl_syntax.specs.declared.result_struct.ResultStruct.{ResultStruct}
use Rattle.wgsl_core.specs.ResultStruct.{result_type}
use Rattle.wgsl_rules.specs.conversion.Concrete.{is_abstract, concretized}
use Rattle.wgsl_rules.specs.constructors.Constructors.{IsBuilt, IsConstructorAnswer, constructor_of, makes_scalar, scalar_call}
use Rattle.wgsl_core.specs.declared.error.Fail.TheVariants as fails

abbrev Answer : Type 0
Answer = Result (Option WgslType) Refusal

-- a result that meets an answer of P satisfies P
pub by_answer : (P : Answer → Type 0) (p : Option (List Parameter)) (a : Answer) (r : Result (Option «Type») (Fail Error)) → P a → IsMet a r → Answered P p r
by_answer P p a (Ok t) k e = subst P e k
by_answer P p a (Err (fails.Error x)) k e = subst P e k
by_answer P p a (Err (fails.Memory m)) k e = λ n. (a, k, e)

-- out of memory stands for an answer of P that it may stand for
pub by_memory : (P : Answer → Type 0) (p : Option (List Parameter)) (e : AllocError) (r : Result (Option «Type») (Fail Error)) → (a : Answer) × P a × MayBeOutOfMemory a → IsErrAnd r (λ f. f ≡ fails.Memory e) → Answered P p r
by_memory P p e (Ok x) found h = absurd h
by_memory P p e (Err f) found h = subst (λ (f : Fail Error). Answered P p (Err f)) (sym h) (λ n. found)

-- what wasn't built, since memory ran out, is no leaf type
pub unbuilt : (P : Answer → Type 0) (c : Signature) (t : Option WgslType) (built : Option (Result «Type» AllocError)) (x : Result «Type» AllocError) (e : AllocError) →
    IsBuiltType t built → built ≡ Some x → x ≡ Err e → P (given c t) → (a : Answer) × P a × MayBeOutOfMemory a
unbuilt P c None None x e h is was k = absurd (cc is)
unbuilt P c None (Some y) x e h is was k = absurd h
unbuilt P c (Some t) None x e h is was k = absurd h
unbuilt P c (Some t) (Some (Ok u)) x e h is was k = absurd (cc (is, was))
unbuilt P c (Some t) (Some (Err f)) x e h is was k = (Ok (Some t), k, h)

pub by_other : (P Q : Answer → Type 0) (p : Option (List Parameter)) (r : Result (Option «Type») (Fail Error)) → ((a : Answer) → P a → Q a) → Answered P p r → Answered Q p r
by_other P Q p (Ok t) f k = f _ k
by_other P Q p (Err (fails.Error x)) f k = f _ k
by_other P Q p (Err (fails.Memory m)) f k = λ n. let j = k n in (j.0, f j.0 j.1, j.2)

pub later_row : (row : Row) (rows : List Row) (c : Signature) (o : Option ReturnType) → ¬ Fits row c → Chooses rows c o → Chooses (row ∷ rows) c o
later_row row rows c None f k = inr (f, k)
later_row row rows c (Some o) f k = λ a h. inr (f, k a h)

pub no_row : (c : Signature) → Chooses [] c None
no_row c = refl

-- `bitcast` without a template is refused
pub no_template : (c : Signature) (p : Option (List Parameter)) (r : Result (Option «Type») (Fail Error)) → p ≡ None → IsMet (Err (signature c)) r → Answered (IsFromTemplate c p) p r
no_template c p r e k = subst (λ p. Answered (IsFromTemplate c p) p r) (sym e) (by_answer (IsFromTemplate c None) None (Err (signature c)) r refl k)

matrix_before : (b : Bool) (l : Layer) (t u : WgslType) → IsLeaf (cond b (within l t) (within l u)) → ⊥
matrix_before true l t u h = h
matrix_before false l t u h = h

-- a type whose concrete type is a leaf type is one
pub leaf_before : (t : WgslType) → IsLeaf (concretized t) → IsLeaf t
leaf_before (scalar s) h = tt
leaf_before (within (mat_of c r) t) h = matrix_before (is_abstract t) (mat_of c r) (scalar F32) t h
leaf_before (within (vec_of n) t) h = h
leaf_before (within (array_of n) t) h = h
leaf_before t h = h

-- the structs that calls return are no leaf types
pub no_leaf_result : (r : ResultStruct) → IsLeaf (result_type r) → ⊥
unfolding result_struct
no_leaf_result r h = h

pub no_leaf_exchange : (t : WgslType) → IsLeaf (exchange_struct t) → ⊥
unfolding exchange_struct
no_leaf_exchange t h = h

pub no_leaf_intersection : IsLeaf ray_intersection_struct → ⊥
unfolding ray_intersection_struct
no_leaf_intersection h = h

-- a scalar's constructor takes the call
pub scalar_made : (s : Scalar) (c : Signature) → Some (makes_scalar s) ≡ constructor_of c.name → IsScalarMade c →
    (t : WgslType) × (Ok t ≡ scalar_call s c.template c.arguments (signature c))
unfolding IsConstructorAnswer
scalar_made s c e h = (h.2, subst (λ k. IsBuilt k c (Ok h.2)) (sym e) h.3)
