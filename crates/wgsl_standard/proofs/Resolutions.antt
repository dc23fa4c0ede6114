-- What a choice resolves to, by the line of its overload.
use Rattle.std.proofs.Common.{◌≡◌, ◌∙◌, ◌+◌, ◌&&◌, ◌||◌, ℕ, Bool, true, false, List, [], ◌∷◌, Option, Some, None, ap, cond, get_or, length, refl, subst, sym, take, IsTrue, is_some, slice_get}
use Rattle.wgsl_standard.proofs.Common.{list_any, get_or_from_slice_get, Substitution, Overload, Pattern, WgslType, Operand, IsChosen, IsPreferred, parameter_for, parameters_for, result_for, component_in, one_or_vector, patterns_of, type_with, AreParameters, is_scalar_or_vector, signature_text, WgslCallee, overloads_listed, or_none, is_vector, name_of}
use Rattle.wgsl_syntax.specs.declared.overload.Pattern.TheVariants as patterns
use Rattle.wgsl_syntax.specs.declared.overload.Shape.TheVariants as shapes
use Rattle.wgsl_standard.specs.Lines.{are_vectors, is_of_vectors, line_of_candidate, line_of_overload, lines_before, lines_named}
use Rattle.wgsl_standard.specs.Resolved.{IndexNamesLine, IsNamedResolution, with_line}
use Rattle.wgsl_standard.proofs.NumberedLines.{text_there}

-- Parameters that may be scalars or vectors are vectors exactly if their letter stands for a number of components.

is_scalar : (i : Substitution) (p : Pattern) (t : WgslType) → i.width ≡ None → (is_scalar_or_vector p && is_vector (parameter_for i p t)) ≡ false
is_scalar i (patterns.Value shapes.OneOrVector e) t h = ap (λ w. is_vector (type_with (one_or_vector w) (component_in i e))) h
is_scalar i p t h = refl

is_one : (i : Substitution) (n : ℕ) (p : Pattern) (t : WgslType) → i.width ≡ Some n → (is_scalar_or_vector p && is_vector (parameter_for i p t)) ≡ is_scalar_or_vector p
is_one i n (patterns.Value shapes.OneOrVector e) t h = ap (λ w. is_vector (type_with (one_or_vector w) (component_in i e))) h
is_one i n p t h = refl

none_are : (i : Substitution) (ps : List Pattern) (xs : List Operand) → i.width ≡ None → are_vectors ps (parameters_for i ps xs) ≡ false
none_are i (p ∷ ps) (x ∷ xs) h = ap (λ b. b || are_vectors ps (parameters_for i ps xs)) (is_scalar i p x.of_type h) ∙ none_are i ps xs h
none_are i ps xs h = refl

all_are : (i j : Substitution) (n : ℕ) (ps : List Pattern) (xs : List Operand) → i.width ≡ Some n → AreParameters j ps (parameters_for i ps xs)
    → are_vectors ps (parameters_for i ps xs) ≡ list_any is_scalar_or_vector ps
all_are i j n [] xs h k = refl
all_are i j n (p ∷ ps) [] h k = absurd k
all_are i j n (p ∷ ps) (x ∷ xs) h k =
    ap (λ b. b || are_vectors ps (parameters_for i ps xs)) (is_one i n p x.of_type h) ∙ ap (λ b. is_scalar_or_vector p || b) (all_are i j n ps xs h k.1)

by_width : (i j : Substitution) (ps : List Pattern) (xs : List Operand) → AreParameters j ps (parameters_for i ps xs)
    → (list_any is_scalar_or_vector ps && is_some i.width) ≡ are_vectors ps (parameters_for i ps xs)
by_width i j ps xs k = turn i.width refl
  where
    never : (b : Bool) → (b && false) ≡ false
    never true = refl
    never false = refl

    same : (b : Bool) → (b && true) ≡ b
    same true = refl
    same false = refl

    turn : (w : Option ℕ) → i.width ≡ w → (list_any is_scalar_or_vector ps && is_some w) ≡ are_vectors ps (parameters_for i ps xs)
    turn None e = never (list_any is_scalar_or_vector ps) ∙ sym (none_are i ps xs e)
    turn (Some n) e = same (list_any is_scalar_or_vector ps) ∙ sym (all_are i j n ps xs e k)

abbrev Resolution : Type 0
Resolution = ℕ × List WgslType × Option WgslType

-- what the choice resolves to, if the lines of the overloads in front are that many
abbrev pub resolved_to : ℕ → Substitution → List Operand → Overload → Resolution
resolved_to line i xs o =
    (cond (list_any is_scalar_or_vector (patterns_of o) && is_some i.width) (line + 1) line, parameters_for i (patterns_of o) xs, result_for i o xs)

resolves_listed : (c : WgslCallee) (t : Bool) (xs : List Operand) (p : ℕ × Substitution) (d : Overload) (line : ℕ) (r : Resolution) → IsChosen (or_none (overloads_listed c t)) xs (Some p)
    → line ≡ length (lines_before c t (take p.0 (or_none (overloads_listed c t)))) → r ≡ resolved_to line p.1 xs (get_or (or_none (overloads_listed c t)) p.0 d) → IsNamedResolution c t xs (Some r)
resolves_listed c t xs p d line r chosen e f =
    let os = or_none (overloads_listed c t) in
    let o = chosen.0 in
    let us = parameters_for p.1 (patterns_of o) xs in
    let candidate = chosen.2.candidate in
    let own : Some candidate.overload ≡ Some o = sym candidate.here ∙ chosen.1 in
    let same : candidate.overload ≡ o = cc own in
    let parameters : AreParameters candidate.candidate.substitution (patterns_of o) us = subst (λ o. AreParameters candidate.candidate.substitution (patterns_of o) us) same candidate.candidate.parameters in
    let vectors : (list_any is_scalar_or_vector (patterns_of o) && is_some p.1.width) ≡ is_of_vectors (slice_get os p.0) us =
    by_width p.1 candidate.candidate.substitution (patterns_of o) xs parameters ∙ ap (λ o. is_of_vectors o us) (sym chosen.1) in
    let index : cond (list_any is_scalar_or_vector (patterns_of o) && is_some p.1.width) (line + 1) line ≡ line_of_candidate c t p.0 us =
    ap (λ b. cond b (line + 1) line) vectors ∙ ap (λ n. cond (is_of_vectors (slice_get os p.0) us) (n + 1) n) e in (
      Some (p.0, us, result_for p.1 o xs),
      chosen.2,
      ap Some (f ∙ ap (resolved_to line p.1 xs) (get_or_from_slice_get os p.0 o d chosen.1) ∙ λ i. (index i, us, result_for p.1 o xs)),
    )

pub resolves : (c : WgslCallee) (t : Bool) (os : List Overload) (xs : List Operand) (p : ℕ × Substitution) (d : Overload) (line : ℕ) (r : Resolution)
    → os ≡ or_none (overloads_listed c t) → IsChosen os xs (Some p) → line ≡ length (lines_before c t (take p.0 os)) → r ≡ resolved_to line p.1 xs (get_or os p.0 d) → IsNamedResolution c t xs (Some r)
resolves c t os xs p d line r e =
    subst (λ os. IsChosen os xs (Some p) → line ≡ length (lines_before c t (take p.0 os)) → r ≡ resolved_to line p.1 xs (get_or os p.0 d) → IsNamedResolution c t xs (Some r)) (sym e)
    (resolves_listed c t xs p d line r)

pub resolves_to_none : (c : WgslCallee) (t : Bool) (os : List Overload) (xs : List Operand) → os ≡ or_none (overloads_listed c t) → IsChosen os xs None → IsNamedResolution c t xs None
resolves_to_none c t os xs e none = (None, subst (λ os. IsChosen os xs None) e none, refl)

-- the line at the index of a resolution

some_are : (ps : List Pattern) (us : List WgslType) → IsTrue (are_vectors ps us) → IsTrue (list_any is_scalar_or_vector ps)
some_are [] us h = h
some_are (p ∷ ps) [] h = absurd (cc h)
some_are (p ∷ ps) (u ∷ us) h = turn (is_scalar_or_vector p) (some_are ps us) h
  where
    turn : (b : Bool) → (IsTrue (are_vectors ps us) → IsTrue (list_any is_scalar_or_vector ps)) → IsTrue ((b && is_vector u) || are_vectors ps us) → IsTrue (b || list_any is_scalar_or_vector ps)
    turn true later h = refl
    turn false later h = later h

pub names_line : IndexNamesLine
names_line c t xs r (None, none, e) = absurd (cc e)
names_line c t xs r (Some d, preferred, e) =
    let candidate = preferred.candidate in
    let same : with_line c t d ≡ r = sym (cc e) in
    let text = text_there c t d.0 candidate.overload (are_vectors (patterns_of candidate.overload) d.1) candidate.here (some_are (patterns_of candidate.overload) d.1) in
    subst (λ r. (at : ℕ) × (o : Overload) × (slice_get (or_none (overloads_listed c t)) at ≡ Some o) × IsPreferred (or_none (overloads_listed c t)) xs at r.1 r.2
    × (slice_get (lines_named (name_of c)) r.0 ≡ Some (signature_text (name_of c) t (are_vectors (patterns_of o) r.1) o))) same (
      d.0,
      candidate.overload,
      candidate.here,
      preferred,
      ap (λ v. slice_get (lines_named (name_of c)) (line_of_overload c t d.0 v)) (ap (λ o. is_of_vectors o d.1) candidate.here) ∙ text,
    )
