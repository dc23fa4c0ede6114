-- Calls as WGSL's own overloads take them, what is noted on them, and the overloads of a name.
use Rattle.wgsl_requests.proofs.Shared.{◌≡◌, List, [], ◌∷◌, Option, Some, None, Result, Ok, Err, map, refl, sym, ap, subst, ◌∙◌, IfOk, MatchOption, option_map}
use Rattle.wgsl_requests.proofs.Shared.{AllocError, Bor, WgslType, Parameter, WgslOperand, view, «Type», operand_view, operands_view, Fail, Operand, loaded}
use Rattle.wgsl_requests.proofs.Shared.{template_type, WithTemplate, written_view, ℕ, Bool, true, false, Vec, Global, MatchBool, Overload, is_template}
use Rattle.wgsl_requests.proofs.Shared.{types_of, callee_view, given_type, note_listed, note_text, types_given, Mismatch, AreNotesWith, filter, flat_map, ⊤}
use Rattle.wgsl_requests.proofs.Shared.{bytes_eq, false_from_ne_true, append-nil, texts_listed, ◌++◌, WgslCallee}
use Rattle.wgsl_standard.specs.Answered.{Answers, IsRefused}
use Rattle.wgsl_standard.specs.declared.answer.NoOverload.{NoOverload}
use Rattle.wgsl_standard.specs.Explained.{IsExplained, IsExplainedWith, note_view}
use Rattle.wgsl_standard.specs.declared.callee.Callee.{Callee}
use Rattle.wgsl_standard.specs.declared.explanation.Note.{Note}
use Rattle.std.proofs.lemmas.Slice.Eq.{bytes_eq-Decides}
use Rattle.wgsl_syntax.specs.Names.{Reads}

-- operands as they are written, and loaded
pub same_operands : (xs : List Operand) → operands_view xs ≡ loaded (map written_view xs)
same_operands [] = refl
same_operands (x ∷ xs) = ap (λ ys. operand_view x ∷ ys) (same_operands xs)

abbrev pub shown : Option (Bor «Type») → Option WgslType
shown t = option_map (λ t. view t.now) t

-- None is answered as anything that was made is
resolved : {A B : Type 0} (seen : A → B) (P : Option B → Type 0) (made : Result A (Fail NoOverload)) (r : Result (Option A) AllocError) →
    IfOk r (λ found. MatchOption found (IsRefused made) (λ x. made ≡ Ok x)) → Answers seen P made → IfOk r (λ found. P (option_map seen found))
resolved seen P made (Ok None) is h = subst (Answers seen P) is.1 h
resolved seen P made (Ok (Some x)) is h = subst (Answers seen P) is h
resolved seen P made (Err e) is h = tt

-- an answer with this template
with_template : {A : Type 0} (P : Option WgslType → List WgslOperand → Option A → Type 0) (template : Option (List Parameter)) (found : Option (Option (Bor «Type»))) (t : Option (Bor «Type»)) (xs : List Operand) (r : Option A) →
    option_map (option_map (λ t. view t.now)) found ≡ template_type template → found ≡ Some t → P (shown t) (operands_view xs) r → WithTemplate (λ t r. P t (loaded (map written_view xs)) r) template r
with_template P template found t xs r seen is p =
    subst (λ t. MatchOption t (r ≡ None) (λ t. P t (loaded (map written_view xs)) r)) (sym (ap (option_map (option_map (λ t. view t.now))) is) ∙ seen)
    (subst (λ ys. P (shown t) ys r) (same_operands xs) p)

-- the answer of a call with this template
pub answered : {A B : Type 0} (seen : A → B) (P : Option WgslType → List WgslOperand → Option B → Type 0) (template : Option (List Parameter)) (found : Option (Option (Bor «Type»))) (t : Option (Bor «Type»)) (xs : List Operand) (made : Result A (Fail NoOverload)) (r : Result (Option A) AllocError) →
    option_map (option_map (λ t. view t.now)) found ≡ template_type template → found ≡ Some t → Answers seen (P (shown t) (operands_view xs)) made → IfOk r (λ x. MatchOption x (IsRefused made) (λ x. made ≡ Ok x)) →
    IfOk r (λ x. WithTemplate (λ t r. P t (loaded (map written_view xs)) r) template (option_map seen x))
answered {A} seen P template found t xs made r is some h same = each r (resolved seen (P (shown t) (operands_view xs)) made r same h)
  where
    each : (r : Result (Option A) AllocError) → IfOk r (λ x. P (shown t) (operands_view xs) (option_map seen x)) → IfOk r (λ x. WithTemplate (λ t r. P t (loaded (map written_view xs)) r) template (option_map seen x))
    each (Ok x) p = with_template P template found t xs _ is some p
    each (Err e) p = tt

notes_with : (callee : Callee) (t : Option WgslType) (xs : List WgslOperand) (ns : List (Overload × Mismatch)) → IsExplained callee t xs ns → AreNotesWith (callee_view callee) t xs ns
notes_with callee None xs ns h = h
notes_with callee (Some t) xs ns h = by_template (is_template t) h
  where
    by_template : (is : Bool) → IsExplainedWith callee t xs is ns → MatchBool is (IsExplainedWith callee t xs true ns) (ns ≡ [])
    by_template true h = h
    by_template false h = h

pub same_types : (xs : List Operand) → types_given xs ≡ types_of (map written_view xs)
same_types [] = refl
same_types (x ∷ xs) = ap (λ ts. given_type x.ty ∷ ts) (same_types xs)

-- the lines on a call with this template
abbrev Explained : Callee → List Operand → List (List ℕ) → Option WgslType → Type 0
Explained callee xs lines t = (ns : List (Overload × Mismatch))
    × AreNotesWith (callee_view callee) t (loaded (map written_view xs)) ns × (lines ≡ map (note_listed (callee_view callee) t (types_of (map written_view xs))) ns)

pub explained : (callee : Callee) (template : Option (List Parameter)) (found : Option (Option (Bor «Type»))) (t : Option (Bor «Type»)) (xs : List Operand) (lines : List (List ℕ)) (ns : List (Overload × Mismatch)) →
    option_map (option_map (λ t. view t.now)) found ≡ template_type template → found ≡ Some t → IsExplained callee (shown t) (operands_view xs) ns → lines ≡ map (note_listed (callee_view callee) (shown t) (types_given xs)) ns →
    MatchOption (template_type template) (lines ≡ []) (Explained callee xs lines)
explained callee template found t xs lines ns seen is notes texts =
    subst (λ t. MatchOption t (lines ≡ []) (Explained callee xs lines)) (sym (ap (option_map (option_map (λ t. view t.now))) is) ∙ seen) (
      ns,
      notes_with callee (shown t) (loaded (map written_view xs)) ns (subst (λ ys. IsExplained callee (shown t) ys ns) (same_operands xs) notes),
      subst (λ ts. lines ≡ map (note_listed (callee_view callee) (shown t) ts) ns) (same_types xs) texts,
    )

-- what `explain` returns
pub all_explained : (callee : Callee) (template : Option (List Parameter)) (found : Option (Option (Bor «Type»))) (t : Option (Bor «Type»)) (xs : List Operand) (r : Result (Vec Note Global) AllocError) →
    option_map (option_map (λ t. view t.now)) found ≡ template_type template → found ≡ Some t → IfOk r (λ v. IsExplained callee (shown t) (operands_view xs) (map note_view v.items)) →
    IfOk r (λ v. map note_text v.items ≡ map (note_listed (callee_view callee) (shown t) (types_given xs)) (map note_view v.items)) →
    IfOk r (λ v. MatchOption (template_type template) (map note_text v.items ≡ []) (Explained callee xs (map note_text v.items)))
all_explained callee template found t xs (Ok v) seen is notes texts = explained callee template found t xs _ _ seen is notes texts
all_explained callee template found t xs (Err e) seen is notes texts = tt

-- where no value has the text, none of a list is left
none_left : {A : Type 0} (text : A → List ℕ) (name : List ℕ) → ((x : A) → ¬ name ≡ text x) → (xs : List A) → filter (λ x. bytes_eq name (text x)) xs ≡ []
none_left text name none [] = refl
none_left text name none (x ∷ xs) = rw (false_from_ne_true (bytes_eq name (text x)) (λ e. none x ((bytes_eq-Decides name (text x)).0 e))) (none_left text name none xs)

-- what is read of a name adds the lines of the one operator that has it; where nothing is read, none has it
module _ {A : Type 0} (text : A → List ℕ) (all : List A) (callee : A → WgslCallee)
    (one : (o : A) → map callee (filter (λ x. bytes_eq (text o) (text x)) all) ≡ callee o ∷ []) (name : List ℕ) (r : Result A ⊤) (reads : Reads text name r) where
  abbrev named : List ℕ → List (List ℕ)
  named name = flat_map texts_listed (map callee (filter (λ x. bytes_eq name (text x)) all))

  pub adds : (o : A) → r ≡ Ok o → (made : Result (Unit {0}) AllocError) (old new : List (List ℕ)) → IfOk made (λ u. new ≡ old ++ texts_listed (callee o)) → IfOk made (λ u. new ≡ old ++ named name)
  adds o is made old new h =
      let same : texts_listed (callee o) ≡ named name = sym (ap named ((reads o).0 is) ∙ ap (flat_map texts_listed) (one o) ∙ append-nil (texts_listed (callee o))) in
      subst (λ lines. IfOk made (λ u. new ≡ old ++ lines)) same h

  pub adds_none : (e : ⊤) → r ≡ Err e → (old : List (List ℕ)) → old ≡ old ++ named name
  adds_none e is old =
      let no_value = λ (x : A) (same : name ≡ text x). let k : Err e ≡ Ok x = sym is ∙ (reads x).1 same in absurd (cc k) in
      sym (append-nil old) ∙ ap (λ os. old ++ flat_map texts_listed (map callee os)) (sym (none_left text name no_value all))
