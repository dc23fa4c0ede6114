-- A call by its name: its answer, that this is the least candidate's, and when it is never out of memory.
use Rattle.std.proofs.Common.{◌≡◌, List, Option, Some, None, Result, Ok, Err, subst, option_map}
use Rattle.wgsl_calls.proofs.Common.{WgslType, Parameter, Signature, Refusal, signature, Row, ReturnType, IsReturnType, view, refusal, AnswersAs, IsAnswered, «Type», Error, Fail, Chooses, MayBeOutOfMemory, IsMet, Answered}
use Rattle.wgsl_calls.specs.Returned.{Returns}
use Rattle.wgsl_rules.specs.calls.Table.{call_table, rows_named}
use Rattle.wgsl_rules.specs.calls.Answers.{IsAnswerOf, IsCallAnswer, IsLeastCallAnswer, IsLeafAnswer, IsLeafCall}
use Rattle.wgsl_rules.proofs.calls.OneAnswer.{call_answer_once}
use Rattle.wgsl_rules.proofs.calls.ChosenCalls.{call_is_least}
use Rattle.wgsl_core.specs.declared.error.Fail.TheVariants as fails
use Rattle.wgsl_calls.proofs.OutOfMemory.{by_answer, by_other}

pub by_name : (c : Signature) (rows : List Row) (p : Option (List Parameter)) (r : Result (Option «Type») (Fail Error)) → rows ≡ rows_named c.name call_table → Answered (IsAnswerOf rows c) p r →
    Answered (IsCallAnswer c) p r
unfolding IsCallAnswer
by_name c rows p r e k = by_other (IsAnswerOf rows c) (IsCallAnswer c) p r (λ a h. subst (λ rows. IsAnswerOf rows c a) e h) k

-- the answer by the rows of a name
pub by_chosen : (c : Signature) (rows : List Row) (o : ReturnType) (p : Option (List Parameter)) (r : Result (Option «Type») (Fail Error)) → rows ≡ rows_named c.name call_table →
    Chooses rows c (Some o) → Answered (IsReturnType o c) p r → Answered (IsCallAnswer c) p r
by_chosen c rows o p r e h k = by_name c rows p r e (by_other (IsReturnType o c) (IsAnswerOf rows c) p r h k)

pub by_none : (c : Signature) (rows : List Row) (p : Option (List Parameter)) (r : Result (Option «Type») (Fail Error)) → rows ≡ rows_named c.name call_table →
    Chooses rows c None → IsMet (Err (signature c)) r → Answered (IsCallAnswer c) p r
by_none c rows p r e h k = by_name c rows p r e (by_answer (IsAnswerOf rows c) p (Err (signature c)) r h k)

-- what isn't built is an answer too
pub unbuilt_answered : (c : Signature) (rows : List Row) (o : ReturnType) (a b : Result (Option WgslType) Refusal) → rows ≡ rows_named c.name call_table → Chooses rows c (Some o) → IsReturnType o c a → b ≡ a → IsCallAnswer c b
unfolding IsCallAnswer
unbuilt_answered c rows o a b e h k is = rw is (subst (λ rows. IsAnswerOf rows c a) e (h a k))

pub refused : (c : Signature) (rows : List Row) → rows ≡ rows_named c.name call_table → Chooses rows c None → IsCallAnswer c (Err (signature c))
unfolding IsCallAnswer
refused c rows e h = subst (λ rows. IsAnswerOf rows c (Err (signature c))) e h

-- a call that refuses its template, or is out of memory
pub not_returned : (c : Signature) (p : Option (List Parameter)) (f : Fail Error) → Answered (IsCallAnswer c) p (Err f) → Returns (IsCallAnswer c) c (Err f)
not_returned c p (fails.Error e) k = k
not_returned c p (fails.Memory m) k = tt

pub row_answered : (c : Signature) (r : Result (Option «Type») (Fail Error)) → Answered (IsCallAnswer c) c.template r → AnswersAs (option_map view) (IsCallAnswer c) r
row_answered c (Ok t) k = k
row_answered c (Err (fails.Error e)) k = k
row_answered c (Err (fails.Memory m)) k = tt

pub least_answered : (c : Signature) (r : Result (Option «Type») (Fail Error)) → Answered (IsCallAnswer c) c.template r → AnswersAs (option_map view) (IsLeastCallAnswer c) r
least_answered c (Ok t) k = call_is_least c (Ok (option_map view t)) k
least_answered c (Err (fails.Error e)) k = call_is_least c (Err (refusal e)) k
least_answered c (Err (fails.Memory m)) k = tt

never_wanted : (a : Result (Option WgslType) Refusal) → MayBeOutOfMemory a → IsLeafAnswer a → ⊥
never_wanted (Err e) k f = f
never_wanted (Ok None) k f = k
never_wanted (Ok (Some t)) k f = k f

pub leaf_answered : (c : Signature) (r : Result (Option «Type») (Fail Error)) → Answered (IsCallAnswer c) c.template r → IsLeafCall c → IsAnswered r
unfolding IsLeafCall
leaf_answered c (Ok t) k f = tt
leaf_answered c (Err (fails.Error e)) k f = tt
leaf_answered c (Err (fails.Memory m)) k f =
    let j = k f.0 in
    never_wanted j.0 j.2 (subst IsLeafAnswer (call_answer_once c f.1 j.0 f.2 j.1) f.3)
