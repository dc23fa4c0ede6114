-- A call of a built-in function has at most one answer, with a template or without.
use Rattle.std.proofs.Common.{◌≡◌, List, [], ◌∷◌, Option, None, Some, Result, Ok, Err, inl, inr, refl, sym, ap, subst, ◌∙◌, option_map, option_and_then}
use Rattle.wgsl_rules.proofs.Common.{ResultFunction, WgslType, vec, inner_of, concretized, result_struct, Parameter, Signature, Refusal, Source, Row, call_table, rows_named, IsAnswerOf, IsCallAnswer}
use Rattle.wgsl_rules.specs.calls.ResultTypes.{IsResultOf}
use Rattle.wgsl_syntax.specs.declared.call.ReturnType.{ReturnType}
use Rattle.wgsl_syntax.specs.declared.call.Source.TheVariants.{Common, InnerOfCommon, CommonOfThree, CommonOfInner}
use Rattle.wgsl_syntax.specs.declared.call.ReturnType.TheVariants.{Of, Concrete, AsLong, InVector, Transposed, TextureSize, ResultOf, ExchangeResult, RayIntersection, HitPositions, NoValue, ByTemplate}
use Rattle.wgsl_rules.specs.calls.Rows.{return_type_of, first, second, third, IsCommonOf, IsSource, vector_like, IsResultFor, given, IsFromTemplate, IsReturnType}
use Rattle.wgsl_rules.proofs.conversion.Commons.{common_once}
use Rattle.wgsl_rules.proofs.templates.OneAnswer.{bitcast_template_once}
use Rattle.wgsl_rules.proofs.calls.Fractions.{one_fraction}

abbrev Answer : Type 0
Answer = Result (Option WgslType) Refusal

common_of_once : (t u c d : Option WgslType) → IsCommonOf t u c → IsCommonOf t u d → c ≡ d
common_of_once (Some t) (Some u) c d p q = common_once t u c d p q
common_of_once _ _ c d p q = p ∙ sym q

then_once : (t u v c d x y : Option WgslType) → IsCommonOf t u c → IsCommonOf t u d → IsCommonOf c v x → IsCommonOf d v y → x ≡ y
then_once t u v c d x y p q h k =
    common_of_once d v x y (subst (λ e. IsCommonOf e v x) (common_of_once t u c d p q) h) k

source_once : (p : Source) (ts : List WgslType) (c d : Option WgslType) → IsSource p ts c → IsSource p ts d → c ≡ d
source_once Common ts c d p q = common_of_once (first ts) (second ts) c d p q
source_once InnerOfCommon ts c d p q = p.2 ∙ (ap (option_map inner_of) (common_of_once (first ts) (second ts) p.0 q.0 p.1 q.1) ∙ sym q.2)
source_once CommonOfThree ts c d p q = then_once (first ts) (second ts) (third ts) p.0 q.0 c d p.1 q.1 p.2 q.2
source_once CommonOfInner ts c d p q = then_once (option_map inner_of (first ts)) (option_map inner_of (second ts)) (third ts) p.0 q.0 c d p.1 q.1 p.2 q.2
source_once _ ts c d p q = p ∙ sym q

result_once : (f : ResultFunction) (t : WgslType) (c d : Option WgslType) → IsResultOf f t c → IsResultOf f t d → c ≡ d
result_once f t None None p q = refl
result_once f t None (Some v) p q = absurd (p q.0 q.1 q.2)
result_once f t (Some u) None p q = absurd (q p.0 p.1 p.2)
result_once f t (Some u) (Some v) p q =
    let e = one_fraction p.0 q.0 p.1 q.1 (sym p.2 ∙ q.2) in
    ap Some (p.3 ∙ ((λ i. result_struct f (e.0 i) (e.1 i)) ∙ sym q.3))

result_for_once : (f : ResultFunction) (t c d : Option WgslType) → IsResultFor f t c → IsResultFor f t d → c ≡ d
result_for_once f None c d p q = p ∙ sym q
result_for_once f (Some t) c d p q = result_once f t c d p q

from_template_once : (c : Signature) (template : Option (List Parameter)) (a b : Answer) → IsFromTemplate c template a → IsFromTemplate c template b → a ≡ b
from_template_once c (Some ps) (Ok (Some t)) (Ok (Some u)) p q =
    let e : Ok t ≡ Ok u = bitcast_template_once ps (Ok t) (Ok u) p q in
    let same : t ≡ u = cc e in
    ap (λ t. Ok (Some t)) same
from_template_once c (Some ps) (Ok (Some t)) (Ok None) p q = absurd q
from_template_once c (Some ps) (Ok (Some t)) (Err e) p q = absurd (cc (bitcast_template_once ps (Ok t) (Err e) p q))
from_template_once c (Some ps) (Ok None) b p q = absurd p
from_template_once c (Some ps) (Err d) (Ok (Some u)) p q = absurd (cc (bitcast_template_once ps (Err d) (Ok u) p q))
from_template_once c (Some ps) (Err d) (Ok None) p q = absurd q
from_template_once c (Some ps) (Err d) (Err e) p q =
    let f : Err d ≡ Err e = bitcast_template_once ps (Err d) (Err e) p q in
    let same : d ≡ e = cc f in
    ap Err same
from_template_once c None a b p q = p ∙ sym q

return_type_once : (o : ReturnType) (c : Signature) (a b : Answer) → IsReturnType o c a → IsReturnType o c b → a ≡ b
return_type_once (Of x) c a b p q = p.2 ∙ (ap (given c) (source_once x c.arguments p.0 q.0 p.1 q.1) ∙ sym q.2)
return_type_once (Concrete x) c a b p q = p.2 ∙ (ap (λ t. given c (option_map concretized t)) (source_once x c.arguments p.0 q.0 p.1 q.1) ∙ sym q.2)
return_type_once (AsLong x) c a b p q =
    p.2 ∙ (ap (λ t. given c (option_and_then (λ f. option_and_then (vector_like f) t) (first c.arguments))) (source_once x c.arguments p.0 q.0 p.1 q.1) ∙ sym q.2)
return_type_once (InVector k x) c a b p q = p.2 ∙ (ap (λ t. given c (option_map (vec k) t)) (source_once x c.arguments p.0 q.0 p.1 q.1) ∙ sym q.2)
return_type_once Transposed c a b p q = p ∙ sym q
return_type_once TextureSize c a b p q = p ∙ sym q
return_type_once (ResultOf f) c a b p q = p.2 ∙ (ap (given c) (result_for_once f (first c.arguments) p.0 q.0 p.1 q.1) ∙ sym q.2)
return_type_once ExchangeResult c a b p q = p ∙ sym q
return_type_once RayIntersection c a b p q = p ∙ sym q
return_type_once HitPositions c a b p q = p ∙ sym q
return_type_once NoValue c a b p q = p ∙ sym q
return_type_once ByTemplate c a b p q = from_template_once c c.template a b p q

answer_once : (rs : List Row) (c : Signature) (a b : Answer) → IsAnswerOf rs c a → IsAnswerOf rs c b → a ≡ b
answer_once [] c a b p q = p ∙ sym q
answer_once (r ∷ rs) c a b (inl p) (inl q) = return_type_once (return_type_of r) c a b p.1 q.1
answer_once (r ∷ rs) c a b (inl p) (inr q) = absurd (q.0 p.0)
answer_once (r ∷ rs) c a b (inr p) (inl q) = absurd (p.0 q.0)
answer_once (r ∷ rs) c a b (inr p) (inr q) = answer_once rs c a b p.1 q.1

pub call_answer_once : (c : Signature) (a b : Answer) → IsCallAnswer c a → IsCallAnswer c b → a ≡ b
unfolding IsCallAnswer
call_answer_once c a b p q = answer_once (rows_named c.name call_table) c a b p q
