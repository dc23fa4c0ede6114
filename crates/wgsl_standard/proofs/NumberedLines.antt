-- The line at the number of an overload is its text.
use Rattle.std.proofs.Common.{◌≡◌, ◌∙◌, ◌+◌, ◌++◌, ℕ, zero, suc, Bool, true, false, List, [], ◌∷◌, Some, append_assoc, ap, arith, cond, length, refl, sym, take, IsTrue, slice_get, flat_map, append-nil}
use Rattle.wgsl_standard.proofs.Common.{list_any, BinaryOperator, UnaryOperator, Overload, patterns_of, is_scalar_or_vector, overload_lines, signature_lines, signature_text, or_none, callee_text, first_line_of, lines_listed, name_of, texts_listed}
use Rattle.wgsl_syntax.specs.Operator.{binary_text, unary_text}
use Rattle.wgsl_syntax.specs.declared.operator.BinaryOperator.TheVariants as b
use Rattle.wgsl_syntax.specs.declared.operator.UnaryOperator.TheVariants as u
use Rattle.wgsl_standard.specs.Callees.{WgslCallee, a_binary, a_constructor, a_function, a_unary, callee_view, overloads_listed}
use Rattle.wgsl_standard.specs.Lines.{StandsAtIndex, binary_operators_named, callees_before, line_of_overload, lines_before, lines_named, unary_operators_named}
use Rattle.wgsl_standard.specs.declared.signature.Signature.{Signature}
use Rattle.wgsl_standard.specs.internal.FirstLines.{HasFirstLine}
use Rattle.wgsl_standard.proofs.NamesApart.{constructor_apart, function_apart, template_apart, template_function_apart, IsNew, IsNoOperator}

pub one_unary : (o : UnaryOperator) → unary_operators_named (unary_text o) ≡ a_unary o ∷ []
one_unary u.LogicalNegation = refl
one_unary o = refl

pub one_binary : (o : BinaryOperator) → binary_operators_named (binary_text o) ≡ a_binary o ∷ []
one_binary b.ShortCircuitOr = refl
one_binary o = refl

-- a list has a part behind another one
abbrev Has : {A : Type 0} → List A → List A → List A → Type 0
Has {A} all before part = (rest : List A) × (all ≡ (before ++ part) ++ rest)

regroup : {A : Type 0} (a b c d : List A) → a ++ ((b ++ c) ++ d) ≡ ((a ++ b) ++ c) ++ d
regroup a b c d = simp append_assoc

regroup_all : {A : Type 0} (a b c d e : List A) → (a ++ ((b ++ c) ++ d)) ++ e ≡ ((a ++ b) ++ c) ++ (d ++ e)
regroup_all a b c d e = simp append_assoc

-- the callee stands among all that have its name

texts_of_one : (cs : List WgslCallee) (c : WgslCallee) → cs ≡ c ∷ [] → flat_map texts_listed cs ≡ texts_listed c
texts_of_one cs c e = ap (flat_map texts_listed) e ∙ append-nil (texts_listed c)

named_unary : (o : UnaryOperator) → Has (lines_named (unary_text o)) [] (texts_listed (a_unary o))
named_unary o =
    let name = unary_text o in
    let binary = flat_map texts_listed (binary_operators_named name) in
    let function = texts_listed (a_function name) in
    let constructor = texts_listed (a_constructor name) in
    (binary ++ (function ++ constructor), ap (λ ls. ((ls ++ binary) ++ function) ++ constructor) (texts_of_one _ (a_unary o) (one_unary o)) ∙ simp append_assoc)

named_binary : (o : BinaryOperator) → Has (lines_named (binary_text o)) (flat_map texts_listed (unary_operators_named (binary_text o))) (texts_listed (a_binary o))
named_binary o =
    let name = binary_text o in
    let unary = flat_map texts_listed (unary_operators_named name) in
    let function = texts_listed (a_function name) in
    let constructor = texts_listed (a_constructor name) in
    (function ++ constructor, ap (λ ls. ((unary ++ ls) ++ function) ++ constructor) (texts_of_one _ (a_binary o) (one_binary o)) ∙ append_assoc (unary ++ texts_listed (a_binary o)) function constructor)

no_operators : (name : List ℕ) → IsNoOperator name → lines_named name ≡ texts_listed (a_function name) ++ texts_listed (a_constructor name)
no_operators name h =
    let function = texts_listed (a_function name) in
    let constructor = texts_listed (a_constructor name) in
    ap (λ cs. ((flat_map texts_listed cs ++ flat_map texts_listed (binary_operators_named name)) ++ function) ++ constructor) h.unary
    ∙ ap (λ cs. (flat_map texts_listed cs ++ function) ++ constructor) h.binary

named_function : (name : List ℕ) → IsNoOperator name → Has (lines_named name) [] (texts_listed (a_function name))
named_function name h = (texts_listed (a_constructor name), no_operators name h)

no_function : (name : List ℕ) → IsNew name → texts_listed (a_function name) ≡ []
no_function name h =
    ap (λ os. signature_lines name false os ++ lines_listed (a_function name) true) h.function ∙ ap (signature_lines name true) h.template_function

named_constructor : (name : List ℕ) → IsNew name → Has (lines_named name) [] (texts_listed (a_constructor name))
named_constructor name h =
    ([], no_operators name h.operator ∙ (ap (λ ls. ls ++ texts_listed (a_constructor name)) (no_function name h) ∙ sym (append-nil (texts_listed (a_constructor name)))))

named : (c : WgslCallee) (t : Bool) (at : ℕ) (o : Overload) → slice_get (or_none (overloads_listed c t)) at ≡ Some o
    → Has (lines_named (name_of c)) (flat_map texts_listed (callees_before c)) (texts_listed c)
named (a_unary op) t at o e = named_unary op
named (a_binary op) t at o e = named_binary op
named (a_function name) false at o e = named_function name (function_apart name at o e)
named (a_function name) true at o e = named_function name (template_function_apart name at o e)
named (a_constructor name) false at o e = named_constructor name (constructor_apart name at o e)
named (a_constructor name) true at o e = named_constructor name (template_apart name at o e)

-- its overloads with a template stand behind the others
templated : (c : WgslCallee) (t : Bool) → Has (texts_listed c) (cond t (lines_listed c false) []) (lines_listed c t)
templated c false = (lines_listed c true, refl)
templated c true = ([], sym (append-nil (texts_listed c)))

-- an overload stands behind those before it
listed : (n : List ℕ) (t : Bool) (os : List Overload) (at : ℕ) (o : Overload) → slice_get os at ≡ Some o
    → Has (signature_lines n t os) (signature_lines n t (take at os)) (overload_lines n t o)
listed n t [] at o e = absurd (cc e)
listed n t (x ∷ os) zero o e = let same : x ≡ o = cc e in (signature_lines n t os, ap (λ o. overload_lines n t o ++ signature_lines n t os) same)
listed n t (x ∷ os) (suc at) o e =
    let behind = listed n t os at o e in
    (behind.0, ap (λ ls. overload_lines n t x ++ ls) behind.1 ∙ regroup (overload_lines n t x) (signature_lines n t (take at os)) (overload_lines n t o) behind.0)

-- the part of a part
within : {A : Type 0} (all before part front inner : List A) → Has all before part → Has part front inner → Has all (before ++ front) inner
within all before part front inner h k =
    (k.0 ++ h.0, h.1 ∙ (ap (λ ls. (before ++ ls) ++ h.0) k.1 ∙ regroup_all before front inner k.0 h.0))

lines_there : (c : WgslCallee) (t : Bool) (at : ℕ) (o : Overload) → slice_get (or_none (overloads_listed c t)) at ≡ Some o
    → Has (lines_named (name_of c)) (lines_before c t (take at (or_none (overloads_listed c t)))) (overload_lines (name_of c) t o)
lines_there c t at o e =
    let all = lines_named (name_of c) in
    let others = flat_map texts_listed (callees_before c) in
    let plain = cond t (lines_listed c false) [] in
    let os = or_none (overloads_listed c t) in
    let own = within all others (texts_listed c) plain (lines_listed c t) (named c t at o e) (templated c t) in
    within all (others ++ plain) (lines_listed c t) (signature_lines (name_of c) t (take at os)) (overload_lines (name_of c) t o) own (listed (name_of c) t os at o e)

-- the lines of an overload, by their numbers

at_first : {A : Type 0} (xs : List A) (y : A) (ys zs : List A) → slice_get ((xs ++ (y ∷ ys)) ++ zs) (length xs) ≡ Some y
at_first [] y ys zs = refl
at_first (x ∷ xs) y ys zs = at_first xs y ys zs

at_next : {A : Type 0} (xs : List A) (y z : A) (zs : List A) → slice_get ((xs ++ (y ∷ z ∷ [])) ++ zs) (suc (length xs)) ≡ Some z
at_next [] y z zs = refl
at_next (x ∷ xs) y z zs = at_next xs y z zs

at_second : {A : Type 0} (xs : List A) (y z : A) (zs : List A) → slice_get ((xs ++ (y ∷ z ∷ [])) ++ zs) (length xs + 1) ≡ Some z
at_second xs y z zs = let next : length xs + 1 ≡ suc (length xs) = omega arith in ap (slice_get ((xs ++ (y ∷ z ∷ [])) ++ zs)) next ∙ at_next xs y z zs

pub text_there : (c : WgslCallee) (t : Bool) (at : ℕ) (o : Overload) (v : Bool) → slice_get (or_none (overloads_listed c t)) at ≡ Some o
    → (IsTrue v → IsTrue (list_any is_scalar_or_vector (patterns_of o))) → slice_get (lines_named (name_of c)) (line_of_overload c t at v) ≡ Some (signature_text (name_of c) t v o)
text_there c t at o false e h =
    let before = lines_before c t (take at (or_none (overloads_listed c t))) in
    let there = lines_there c t at o e in
    ap (λ ls. slice_get ls (length before)) there.1 ∙ at_first before (signature_text (name_of c) t false o) _ there.0
text_there c t at o true e h =
    let before = lines_before c t (take at (or_none (overloads_listed c t))) in
    let there = lines_there c t at o e in
    let first = signature_text (name_of c) t false o in
    let second = signature_text (name_of c) t true o in
    ap (λ ls. slice_get ls (length before + 1)) there.1 ∙ ap (λ b. slice_get ((before ++ (first ∷ cond b (second ∷ []) [])) ++ there.0) (length before + 1)) (h refl)
    ∙ at_second before first second there.0

-- the lines of the overload of a signature

pub first_stands : (s : Signature) → HasFirstLine s → slice_get (lines_named (callee_text s.callee)) s.index ≡ Some (first_line_of s)
first_stands s h =
    ap (slice_get (lines_named (callee_text s.callee))) h.2 ∙ text_there (callee_view s.callee) s.has_template h.0 s.overload.now false h.1 (λ e. absurd (cc e))

pub scalars_stand : (s : Signature) → s.of_vectors ≡ false → HasFirstLine s → StandsAtIndex s
scalars_stand s e h = first_stands s h ∙ ap (λ v. Some (signature_text (callee_text s.callee) s.has_template v s.overload.now)) (sym e)

pub vectors_stand : (s : Signature) → list_any is_scalar_or_vector (patterns_of s.overload.now) ≡ true → HasFirstLine s → StandsAtIndex (record s { index = s.index + 1; of_vectors = true })
vectors_stand s e h =
    ap (λ n. slice_get (lines_named (callee_text s.callee)) (n + 1)) h.2 ∙ text_there (callee_view s.callee) s.has_template h.0 s.overload.now true h.1 (λ t. e)
