-- What is asked of overloads and of forms, by what operands are shown as.
use Rattle.std.proofs.Common.{◌≡◌, List, [], ◌∷◌, Option, Result, Ok, Err, IfOk, Some, None, map, refl, ap, subst, ◌∙◌, sym}
use Rattle.wgsl_typing.proofs.Common.{AllocError, Operand, value_of, WgslType, WgslCallee, IsCallResolution, ResolvedCall, IsInferredArray, Refusal, given, Part, Typed, IsAnswer, IsMessage, loaded, operands_of, resolved, shown, typed_parts, types_of, Unresolved}
use Rattle.wgsl_standard.specs.Operands.{given_type, operands_view}
use Rattle.wgsl_standard.specs.Texts.{types_given}
use Rattle.wgsl_standard.specs.declared.operand.Operand.{Operand as CodeOperand}

abbrev loaded_operand : Operand → Operand
loaded_operand x = record { of_type = value_of x.of_type; is_constant = x.is_constant }

given_views : (xs : List CodeOperand) → map loaded_operand (map given xs) ≡ operands_view xs
given_views [] = refl
given_views (x ∷ xs) = ap (λ rest. loaded_operand (given x) ∷ rest) (given_views xs)

shown_views : (xs : List Typed) → map loaded_operand (map shown xs) ≡ map loaded xs
shown_views [] = refl
shown_views (x ∷ xs) = ap (λ rest. loaded x ∷ rest) (shown_views xs)

pub views_of : (xs : List CodeOperand) (ys : List Typed) → map given xs ≡ map shown ys → operands_view xs ≡ map loaded ys
views_of xs ys same = sym (given_views xs) ∙ (ap (map loaded_operand) same ∙ shown_views ys)

given_types : (xs : List CodeOperand) → map (λ x. x.of_type) (map given xs) ≡ types_given xs
given_types [] = refl
given_types (x ∷ xs) = ap (λ rest. given_type x.ty ∷ rest) (given_types xs)

shown_types : (xs : List Typed) → map (λ x. x.of_type) (map shown xs) ≡ map (λ x. (shown x).of_type) xs
shown_types [] = refl
shown_types (x ∷ xs) = ap (λ rest. (shown x).of_type ∷ rest) (shown_types xs)

pub types_shown : (xs : List CodeOperand) (ys : List Typed) → map given xs ≡ map shown ys → types_given xs ≡ map (λ x. (shown x).of_type) ys
types_shown xs ys same = sym (given_types xs) ∙ (ap (map (λ x. x.of_type)) same ∙ shown_types ys)

-- the answer of a form that takes types, by the parts that were shown
pub by_parts : {A : Type 0} (ps : List Part) (Answer : List WgslType → A) {xs ys : List CodeOperand} {a : A} → map given xs ≡ map shown (typed_parts ps) → ys ≡ xs
    → a ≡ Answer (types_given ys) → a ≡ Answer (types_of ps)
by_parts ps Answer {xs} {ys} same there e = e ∙ (ap (λ zs. Answer (types_given zs)) there ∙ ap Answer (types_shown xs (typed_parts ps) same))

-- what a call resolves to, by the parts that were shown
pub resolved_by_parts : (callee : WgslCallee) (template : Option WgslType) (ps : List Part) (r : Result (Result ResolvedCall Unresolved) AllocError) {xs ys : List CodeOperand}
    → map given xs ≡ map shown (typed_parts ps) → ys ≡ xs
    → IfOk r (λ found. IsCallResolution callee template (operands_view ys) (resolved found))
    → IfOk r (λ found. IsCallResolution callee template (operands_of ps) (resolved found))
resolved_by_parts callee template ps r {xs} {ys} same there done =
    let P : List Operand → Type 0 = λ zs. IfOk r (λ found. IsCallResolution callee template zs (resolved found)) in
    subst P (ap operands_view there ∙ views_of xs (typed_parts ps) same) done

-- what is inferred, by the parts that were shown
pub inferred_by_parts : (ps : List Part) (answer : Result WgslType Refusal) {xs ys : List CodeOperand} → map given xs ≡ map shown (typed_parts ps) → ys ≡ xs
    → IsInferredArray (types_given ys) answer → IsInferredArray (types_of ps) answer
inferred_by_parts ps answer {xs} {ys} same there is =
    let P : List WgslType → Type 0 = λ ts. IsInferredArray ts answer in subst P (ap types_given there ∙ types_shown xs (typed_parts ps) same) is

-- what is answered, by the answer of the form

pub none_told : {A : Type 0} (E : Type 0) {a : A} {r : Result A Refusal} → Ok a ≡ r → IsMessage {A = A} {E = E} r None
none_told {A} E e = let P : Result A Refusal → Type 0 = λ r. IsMessage {A = A} {E = E} r None in subst P e refl

pub one_told : {A E : Type 0} (message : E) {refusal : Refusal} {r : Result A Refusal} → Err refusal ≡ r → IsMessage {A = A} {E = E} r (Some message)
one_told {A} {E} message {refusal} e =
    let P : Result A Refusal → Type 0 = λ r. IsMessage {A = A} {E = E} r (Some message) in
    let some : P (Err refusal) = search in
    subst P e some

pub answered_ok : {A B : Type 0} (E : Type 0) (Is : A → B → Type 0) (a : A) {b : B} {r : Result B Refusal} → Ok b ≡ r → Is a b → IsAnswer {A = A} {B = B} {E = E} Is r (Ok a)
answered_ok {A} {B} E Is a e is = let P : Result B Refusal → Type 0 = λ r. IsAnswer {A = A} {B = B} {E = E} Is r (Ok a) in subst P e is

pub answered_err : {A B E : Type 0} (Is : A → B → Type 0) (message : E) {refusal : Refusal} {r : Result B Refusal} → Err refusal ≡ r → IsAnswer {A = A} {B = B} {E = E} Is r (Err message)
answered_err {A} {B} {E} Is message e = let P : Result B Refusal → Type 0 = λ r. IsAnswer {A = A} {B = B} {E = E} Is r (Err message) in subst P e tt
