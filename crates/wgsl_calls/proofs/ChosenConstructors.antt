-- What a constructor makes of value types is the result of its least candidate.
use Rattle.std.proofs.Common.{ℕ, List, Option, Some, None, Result, Ok, Err, All, sym, subst}
use Rattle.wgsl_calls.proofs.Common.{WgslType, Parameter, Signature, IsValueType, Refusal, signature, IsVecTemplate, IsMatTemplate, Then, IsTypedVector, IsVectorCall, IsTypedMatrix, IsMatrixCall, view, AnswersBy, «Type», Error, Fail}
use Rattle.wgsl_rules.specs.constructors.Constructors.{Constructor, makes_array, makes_scalar, makes_vector, makes_matrix, constructor_of, IsBuilt, IsConstructorAnswer}
use Rattle.wgsl_calls.specs.Constructors.{IsVectorCandidate, IsMatrixCandidate, IsCandidateOf, IsLeastMade, IsLeastConstructorAnswer}
use Rattle.wgsl_calls.proofs.AnswersAs.{answers}
use Rattle.wgsl_calls.proofs.ChosenAmong.{none_made}
use Rattle.wgsl_calls.proofs.ChosenArrays.{array_call}
use Rattle.wgsl_calls.proofs.ChosenScalars.{scalar_made}
use Rattle.wgsl_calls.proofs.ChosenVectors.{untyped_vector}
use Rattle.wgsl_calls.proofs.ChosenTypedVectors.{typed_vector, refused_vector_template}
use Rattle.wgsl_calls.proofs.ChosenMatrices.{untyped_matrix}
use Rattle.wgsl_calls.proofs.ChosenTypedMatrices.{typed_matrix, refused_matrix_template}

vector_call : (name : List ℕ) (n : ℕ) (template : Option (List Parameter)) (ts : List WgslType) (r : Result WgslType Refusal) → All IsValueType ts →
    IsVectorCall name n template ts r → IsLeastMade (IsVectorCandidate n template) ts r
vector_call name n None ts r vs h = untyped_vector name n ts r vs h
vector_call name n (Some ps) ts r vs h = by_template h.0 h.1 h.2
  where
    by_template : (q : Result WgslType Refusal) → IsVecTemplate ps q → Then q (IsTypedVector name n ts) r → IsLeastMade (IsVectorCandidate n (Some ps)) ts r
    by_template (Ok t) k m = typed_vector name n ps t ts r k vs m
    by_template (Err e) k m = subst (λ r. IsLeastMade (IsVectorCandidate n (Some ps)) ts r) (sym m) (refused_vector_template n ps ts e k)

matrix_call : (name : List ℕ) (c n : ℕ) (template : Option (List Parameter)) (ts : List WgslType) (r : Result WgslType Refusal) → All IsValueType ts →
    IsMatrixCall name c n template ts r → IsLeastMade (IsMatrixCandidate c n template) ts r
matrix_call name c n None ts r vs h = untyped_matrix name c n ts r vs h
matrix_call name c n (Some ps) ts r vs h = by_template h.0 h.1 h.2
  where
    by_template : (q : Result WgslType Refusal) → IsMatTemplate ps q → Then q (IsTypedMatrix name c n ts) r → IsLeastMade (IsMatrixCandidate c n (Some ps)) ts r
    by_template (Ok t) k m = typed_matrix name c n ps t ts r k vs m
    by_template (Err e) k m = subst (λ r. IsLeastMade (IsMatrixCandidate c n (Some ps)) ts r) (sym m) (refused_matrix_template c n ps ts e k)

built_least : (c : Option Constructor) (call : Signature) (r : Result WgslType Refusal) → All IsValueType call.arguments → IsBuilt c call r →
    IsLeastMade (IsCandidateOf c call.template) call.arguments r
built_least (Some makes_array) call r vs h = array_call call.template call.arguments r vs h
built_least (Some (makes_scalar s)) call r vs h =
    subst (λ r. IsLeastMade (IsCandidateOf (Some (makes_scalar s)) call.template) call.arguments r) (sym h)
    (scalar_made s call.template call.arguments (signature call) vs)
built_least (Some (makes_vector n)) call r vs h = vector_call call.name n call.template call.arguments r vs h
built_least (Some (makes_matrix c n)) call r vs h = matrix_call call.name c n call.template call.arguments r vs h
built_least None call r vs h =
    subst (λ r. IsLeastMade (IsCandidateOf None call.template) call.arguments r) (sym h)
    (none_made (IsCandidateOf None call.template) call.arguments (signature call) (λ us t q k. q))

pub constructor_is_least : (call : Signature) (r : Result WgslType Refusal) → IsConstructorAnswer call r → IsLeastConstructorAnswer call r
unfolding IsConstructorAnswer IsLeastConstructorAnswer
constructor_is_least call r h vs = built_least (constructor_of call.name) call r vs h

-- the same of the result in memory
pub least_returned : (call : Signature) (r : Result «Type» (Fail Error)) → AnswersBy (IsConstructorAnswer call) r → AnswersBy (IsLeastConstructorAnswer call) r
least_returned call r h = answers view (IsConstructorAnswer call) (IsLeastConstructorAnswer call) r (constructor_is_least call) h
