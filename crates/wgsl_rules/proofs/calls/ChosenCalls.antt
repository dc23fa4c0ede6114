-- The functions with candidates: for value types, their rows in the table return the least candidate's result, and
-- refuse a call that candidates take only if it is one of `RefusedThoughTaken`.
use Rattle.std.proofs.Common.{◌≡◌, List, [], ◌∷◌, All, refl, sym, subst}
use Rattle.wgsl_rules.proofs.Common.{WgslType, IsValueType, IsCallName, Signature, Row, call_table, rows_named, IsAnswerOf, IsCallAnswer, name_of, IsChosenCall, IsLeastCallAnswer}
use Rattle.wgsl_rules.specs.operators.Candidates.{Name, operator, min, max, atan2, step, pow, cross, reflect, distance, dot, clamp, fma, smoothstep, face_forward, mix, refract, select, insert_bits}
use Rattle.wgsl_syntax.specs.declared.call.ScalarKind.TheVariants.{Number, Float}
use Rattle.wgsl_syntax.specs.declared.call.Shape.TheVariants.{Any, VectorOf, ScalarOrVectorOf}
use Rattle.wgsl_syntax.specs.declared.call.Source.TheVariants.{Common, InnerOfCommon}
use Rattle.wgsl_rules.proofs.calls.Answered.{Answer, its}
use Rattle.wgsl_rules.proofs.calls.ShapedKinds.{of_numbers, of_any, of_number_vectors, of_floats, of_float_vectors}
use Rattle.wgsl_rules.proofs.calls.ChosenFamilies.{pairs, commons, inners, triples, pair_row, triple_row}
use Rattle.wgsl_rules.proofs.calls.ChosenMixes.{refract_answer, mix_answer, mixed_row, mix_row}
use Rattle.wgsl_rules.proofs.calls.ChosenSelects.{select_answer, by_one, by_each}
use Rattle.wgsl_rules.proofs.calls.ChosenInserts.{insert_answer, insert_row}

-- The rows of the functions
abbrev rows_of : Name → List Row
rows_of min = pair_row (ScalarOrVectorOf Number) Common ∷ []
rows_of max = pair_row (ScalarOrVectorOf Number) Common ∷ []
rows_of atan2 = pair_row (ScalarOrVectorOf Float) Common ∷ []
rows_of step = pair_row (ScalarOrVectorOf Float) Common ∷ []
rows_of pow = pair_row Any Common ∷ []
rows_of cross = pair_row (VectorOf Float) Common ∷ []
rows_of reflect = pair_row (VectorOf Float) Common ∷ []
rows_of distance = pair_row (ScalarOrVectorOf Float) InnerOfCommon ∷ []
rows_of dot = pair_row (VectorOf Number) InnerOfCommon ∷ []
rows_of clamp = triple_row (ScalarOrVectorOf Number) ∷ []
rows_of fma = triple_row (ScalarOrVectorOf Float) ∷ []
rows_of smoothstep = triple_row (ScalarOrVectorOf Float) ∷ []
rows_of face_forward = triple_row (VectorOf Float) ∷ []
rows_of mix = mixed_row ∷ mix_row ∷ []
rows_of refract = mixed_row ∷ []
rows_of select = by_one ∷ by_each ∷ []
rows_of insert_bits = insert_row ∷ []
rows_of (operator o) = []

-- as the table has them
in_table : (n : Name) → IsCallName n → rows_named (name_of n) call_table ≡ rows_of n
unfolding call_table
in_table (operator o) h = absurd h
in_table _ h = refl

chosen : (n : Name) → IsCallName n → (ts : List WgslType) → All IsValueType ts → (a : Answer) → IsAnswerOf (rows_of n) (its n ts) a → IsChosenCall n (its n ts) a
chosen min h ts v a = pairs min _ _ _ _ Common commons (of_numbers min (λ a ts r. r)) ts v refl a
chosen max h ts v a = pairs max _ _ _ _ Common commons (of_numbers max (λ a ts r. r)) ts v refl a
chosen atan2 h ts v a = pairs atan2 _ _ _ _ Common commons (of_floats atan2 (λ a ts r. r, λ a ts r. r)) ts v refl a
chosen step h ts v a = pairs step _ _ _ _ Common commons (of_floats step (λ a ts r. r, λ a ts r. r)) ts v refl a
chosen pow h ts v a = pairs pow _ _ _ _ Common commons (of_any pow (λ a ts r. r)) ts v refl a
chosen cross h ts v a = pairs cross _ _ _ _ Common commons (of_float_vectors cross (λ a ts r. r, λ a ts r. r)) ts v refl a
chosen reflect h ts v a = pairs reflect _ _ _ _ Common commons (of_float_vectors reflect (λ a ts r. r, λ a ts r. r)) ts v refl a
chosen distance h ts v a = pairs distance _ _ _ _ InnerOfCommon inners (of_floats distance (λ a ts r. r, λ a ts r. r)) ts v refl a
chosen dot h ts v a = pairs dot _ _ _ _ InnerOfCommon inners (of_number_vectors dot (λ a ts r. r)) ts v refl a
chosen clamp h ts v a = triples clamp tt _ (of_numbers clamp (λ a ts r. r)) ts v refl a
chosen fma h ts v a = triples fma tt _ (of_floats fma (λ a ts r. r, λ a ts r. r)) ts v refl a
chosen smoothstep h ts v a = triples smoothstep tt _ (of_floats smoothstep (λ a ts r. r, λ a ts r. r)) ts v refl a
chosen face_forward h ts v a = triples face_forward tt _ (of_float_vectors face_forward (λ a ts r. r, λ a ts r. r)) ts v refl a
chosen mix h ts v a = mix_answer ts v a
chosen refract h ts v a = refract_answer ts v a
chosen select h ts v a = select_answer ts v a
chosen insert_bits h ts v a = insert_answer ts v a
chosen (operator o) h ts v a = absurd h

-- A call returns the result of the least candidate, or is refused as `RefusedThoughTaken` says.
pub call_is_least : (c : Signature) (a : Answer) → IsCallAnswer c a → IsLeastCallAnswer c a
unfolding IsCallAnswer IsLeastCallAnswer
call_is_least c a k n h e f v =
    let d : c ≡ its n c.arguments = λ i. record { name = e i; template = f i; arguments = c.arguments } in
    let q = subst (λ c. IsAnswerOf (rows_named c.name call_table) c a) d k in
    let r = subst (λ rs. IsAnswerOf rs (its n c.arguments) a) (in_table n h) q in
    subst (λ c. IsChosenCall n c a) (sym d) (chosen n h c.arguments v a r)
