-- A request has at most one answer, by WGSL's own overloads exactly one, and what was read of a line one reply, if every request has an
-- answer.
use Rattle.wgsl_requests.proofs.Shared.{◌≡◌, ◌∙◌, Bool, true, false, refl, subst, sym, Decides, ◌⊎◌, inl, inr, ◌+◌, ◌<◌, ℕ, zero, suc, List, [], ◌∷◌, Option}
use Rattle.wgsl_requests.proofs.Shared.{Some, None, length, map, take, ap, arith, cases_lt, MatchBool, IsTrue, MatchOption, option_map, Overload, WgslType}
use Rattle.wgsl_requests.proofs.Shared.{is_template, template_operand, IsCallAnswer, IsNamedAnswer, IsResolution, IsChosen, WgslOperand as Operand}
use Rattle.wgsl_requests.proofs.Shared.{parameters_for, result_for, types_of, WgslCallee, overloads_listed, IsCallResolution, IsNamedResolution, with_line}
use Rattle.wgsl_requests.proofs.Shared.{note_listed, Mismatch, WgslCall, WgslResolution, loaded, template_type, AreNotesWith, IsExplanationOf, IsResolutionOf}
use Rattle.wgsl_requests.proofs.Shared.{IsTypeOf, RuleSet, Members, Converts, HasSizeBy, HasAlignmentBy, IsExactly, left_common_once, WgslRequest, is_utf8}
use native.Mathlib.Decide.{ℕ_discrete}
use Rattle.wgsl_syntax.specs.declared.overload.Substitution.{Substitution}
use Rattle.wgsl_rules.specs.standard.Overloads.{patterns_of}
use Rattle.wgsl_rules.specs.standard.Refusal.{IsRefusedAt, SomeTakesFirst}
use Rattle.wgsl_rules.specs.standard.Tables.{IsUnambiguous}
use Rattle.wgsl_standard.specs.Explained.{AreNotes, no_overloads, or_none, refused, taken, with_note}
use Rattle.wgsl_standard.specs.Mismatches.{IsMismatch}
use Rattle.wgsl_standard.specs.declared.refusal.Mismatch.TheVariants.{Count, Argument}
use Rattle.wgsl_standard.specs.internal.Binding.{some_takes_first}
use Rattle.wgsl_standard.proofs.Choices.{found}
use Rattle.wgsl_standard.proofs.FirstParameters.{some_takes_first_is}
use Rattle.wgsl_standard.proofs.NamedTables.{IfTable, listed_table}
use Rattle.wgsl_standard.proofs.OneChoice.{chosen_once}
use Rattle.wgsl_standard.proofs.StandardAnswers.{an_answer, answer_once as standard_once}
use Rattle.wgsl_rules.proofs.calls.OneAnswer.{call_answer_once}
use Rattle.wgsl_rules.proofs.constructors.OneAnswer.{constructor_answer_once}
use Rattle.wgsl_rules.proofs.layout.OneLayout.{layout_once, offsets_once}
use Rattle.wgsl_rules.proofs.layout.StructSizes.{never_both}
use Rattle.wgsl_rules.proofs.operators.OneAnswer.{operator_answer_once, unary_answer_once}
use Rattle.wgsl_requests.specs.Answers.{Answers, WgslAnswer, WgslLayout, IsReceivedCommon, AreOffsetsOf, IsLayoutOf, a_number, a_size, a_common_type, a_type, a_value, some_offsets, a_layout, a_type_of, a_resolution_of, some_lines, a_form_type, a_fit, rank_is, common_is, unary_is, binary_is, size_is, offsets_are, layout_is, ctor_is, call_is, type_of_is, resolution_of_is, explanation_of_is, unknown_is, overloads_of_are, form_is, fit_is}
use Rattle.wgsl_requests.specs.Requests.{WgslForm, IsFormType, assignment_of, array_of}
use Rattle.wgsl_standard.specs.forms.Assign.{operator_of}
use Rattle.wgsl_standard.proofs.OnlyAnswers.{arrays, assignments}
use Rattle.std.proofs.lemmas.Str.{IsUtf8-from_is_utf8, is_utf8-from_IsUtf8}
use Rattle.wgsl_requests.specs.Replies.{IsAnswer, IsLineOfText, IsReplyOf, OfLine, ReplyText, answer, unreadable}
use Rattle.wgsl_requests.specs.Texts.{answer_text, text_kind}
use Rattle.wgsl_requests.specs.declared.reply.TextKind.{TextKind}

-- what holds of at most one value, and of one if something else is known
pub record HasOne {A : Type 0} (If : Type 0) (R : A → Type 0) : Type 0 where
  pub once : (q r : A) → R q → R r → q ≡ r
  pub some : If → (r : A) × R r

-- what R is given by
pub known : {A If : Type 0} (x : A) → HasOne If (λ r. r ≡ x)
known x = record { once = λ q r f g. f ∙ sym g; some = λ given. (x, refl) }

-- what follows from what P holds of
pub behind : {A B If : Type 0} {P : A → Type 0} {Q : A → B → Type 0} → HasOne If P → ((x : A) → HasOne If (Q x)) → HasOne If (λ r. (x : A) × P x × Q x r)
behind {Q = Q} p q = record {
  once = λ r s f g. (q g.0).once r s (subst (λ x. Q x r) (p.once f.0 g.0 f.1 g.1) f.2) g.2;
  some = λ given. let x = p.some given in let r = (q x.0).some given in (r.0, (x.0, x.1, r.1));
}

pub decided : {P : Type 0} (b : Bool) → Decides b P → Dec P
decided true d = yes (d.0 refl)
decided false d = no (λ h. absurd (cc (d.1 h)))

-- with any template

with_template : {A : Type 0} (none : A) (P : Option WgslType → A → Type 0) → ((t : Option WgslType) → HasOne (Unit {0}) (P t)) → (o : Option (Option WgslType))
    → HasOne (Unit {0}) (λ r. MatchOption o (r ≡ none) (λ t. P t r))
with_template none P one None = known none
with_template none P one (Some t) = one t

-- what is asked of a template, or refused if it is none
asked_of : {A : Type 0} {Named All : Option A → Type 0} (b : Bool) → HasOne (Unit {0}) Named → ((r : Option A) → (IsTrue b → Named r) → ((¬ IsTrue b) → r ≡ None) → All r)
    → ((r : Option A) → All r → IsTrue b → Named r) → ((r : Option A) → All r → (¬ IsTrue b) → r ≡ None) → HasOne (Unit {0}) All
asked_of true one all by_name without = record {
  once = λ r s f g. one.once r s (by_name r f refl) (by_name s g refl);
  some = λ _. let r = one.some tt in (r.0, all r.0 (λ is. r.1) (λ none. absurd (none refl)));
}
asked_of false one all by_name without = record {
  once = λ r s f g. without r f (λ e. cc e) ∙ sym (without s g (λ e. cc e));
  some = λ _. (None, all None (λ e. absurd (cc e)) (λ none. refl));
}

-- the type of a call

named : (os : Option (List Overload)) → IfTable os → (xs : List Operand) → HasOne (Unit {0}) (IsNamedAnswer os xs)
named (Some os) u xs = record { once = standard_once os xs; some = λ _. an_answer os xs u.unambiguous }
named None u xs = known None

one_call : (c : WgslCallee) (t : Option WgslType) (xs : List Operand) → HasOne (Unit {0}) (IsCallAnswer (overloads_listed c false) (overloads_listed c true) t xs)
one_call c None xs = named (overloads_listed c false) (listed_table c false) xs
one_call c (Some t) xs =
    asked_of (is_template t) (named (overloads_listed c true) (listed_table c true) (template_operand t ∷ xs)) (λ r n f. record { named = n; refused = f }) (λ r h. h.named) (λ r h. h.refused)

pub one_type : (c : WgslCall) → HasOne (Unit {0}) (IsTypeOf c)
one_type c = with_template None (λ t r. IsCallAnswer (overloads_listed c.callee false) (overloads_listed c.callee true) t (loaded c.operands) r)
    (λ t. one_call c.callee t (loaded c.operands)) (template_type c.template)

-- what a call resolves to

chosen_both : (os : List Overload) (xs : List Operand) (r s : Option WgslResolution) → IsResolution os xs r → IsResolution os xs s → r ≡ s
chosen_both os xs (Some c) (Some d) f g =
    let same = chosen_once os xs c.0 d.0 c.1 d.1 c.2 d.2 f g in
    λ i. Some (same.0 i, same.1 i, same.2 i)
chosen_both os xs (Some c) None f g = absurd (g c.0 c.1 c.2 f.ranks f.candidate f.takes)
chosen_both os xs None (Some d) f g = absurd (f d.0 d.1 d.2 g.ranks g.candidate g.takes)
chosen_both os xs None None f g = refl

a_choice : (os : List Overload) (xs : List Operand) (p : Option (ℕ × Substitution)) → IsChosen os xs p → (r : Option WgslResolution) × IsResolution os xs r
a_choice os xs None h = (None, h)
a_choice os xs (Some p) h = (Some (p.0, parameters_for p.1 (patterns_of h.0) xs, result_for p.1 h.0 xs), h.2)

any_unambiguous : (os : Option (List Overload)) → IfTable os → IsUnambiguous (or_none os)
any_unambiguous None u = record { in_order = tt }
any_unambiguous (Some os) u = u.unambiguous

one_named : (c : WgslCallee) (has_template : Bool) (xs : List Operand) → HasOne (Unit {0}) (IsNamedResolution c has_template xs)
one_named c has_template xs =
    let os = or_none (overloads_listed c has_template) in
    let one : HasOne (Unit {0}) (IsResolution os xs) = record {
      once = chosen_both os xs;
      some = λ _. a_choice os xs _ (found os xs (any_unambiguous (overloads_listed c has_template) (listed_table c has_template)));
    } in
    behind one (λ r. known (option_map (with_line c has_template) r))

one_resolved : (c : WgslCallee) (t : Option WgslType) (xs : List Operand) → HasOne (Unit {0}) (IsCallResolution c t xs)
one_resolved c None xs = one_named c false xs
one_resolved c (Some t) xs = asked_of (is_template t) (one_named c true (template_operand t ∷ xs)) (λ r n f. record { named = n; refused = f }) (λ r h. h.named) (λ r h. h.refused)

pub one_resolution : (c : WgslCall) → HasOne (Unit {0}) (IsResolutionOf c)
one_resolution c = with_template None (λ t r. IsCallResolution c.callee t (loaded c.operands) r) (λ t. one_resolved c.callee t (loaded c.operands)) (template_type c.template)

-- why overloads don't take the operands

dec_takes : (os : List Overload) (xs : List Operand) → Dec (SomeTakesFirst os xs)
dec_takes os xs = decided (some_takes_first os xs) (some_takes_first_is os xs)

-- the operands up to each of the first n are taken, or those up to one of them are the first that aren't
abbrev Searched : List Overload → List Operand → ℕ → Type 0
Searched os xs n = ((m : ℕ) → m < n → SomeTakesFirst os (take (m + 1) xs))
    ⊎ ((k : ℕ) × (k < n) × (¬ SomeTakesFirst os (take (k + 1) xs)) × ((m : ℕ) → m < k → SomeTakesFirst os (take (m + 1) xs)))

search_first : (os : List Overload) (xs : List Operand) (n : ℕ) → Searched os xs n
search_first os xs zero = inl (λ m lt. absurd (omega (arith, lt)))
search_first os xs (suc n) = elim (search_first os xs n) [
  | inr k ↦ inr (k.0, omega (arith, k.1), k.2, k.3)
  | inl all ↦ elim (dec_takes os (take (n + 1) xs)) [
    | no stuck ↦ inr (n, omega arith, stuck, all)
    | yes here ↦ inl (λ m lt. elim (ℕ_discrete m n) [ yes e ↦ subst (λ m. SomeTakesFirst os (take (m + 1) xs)) (sym e) here | no other ↦ all m (omega (arith, lt, other)) ])
  ]
]

a_refusal : (os : List Overload) (xs : List Operand) → (r : Option ℕ) × IsRefusedAt os xs r
a_refusal os xs = elim (search_first os xs (length xs)) [ inl all ↦ (None, all) | inr k ↦ (Some k.0, (k.1, k.2, k.3)) ]

a_mismatch : (o : Overload) (xs : List Operand) → (m : Option Mismatch) × IsMismatch o xs m
a_mismatch o xs = elim (ℕ_discrete (length (patterns_of o)) (length xs)) [
  | no other ↦ (Some (Count (length (patterns_of o))), (refl, other))
  | yes e ↦ let r = a_refusal (o ∷ []) xs in of_refusal e r.0 r.1
]
  where
    of_refusal : length (patterns_of o) ≡ length xs → (r : Option ℕ) → IsRefusedAt (o ∷ []) xs r → (m : Option Mismatch) × IsMismatch o xs m
    of_refusal e None h = (None, (e, h))
    of_refusal e (Some n) h = (Some (Argument n), (e, h))

refused_once : (os : List Overload) (xs : List Operand) (n m : ℕ) → IsRefusedAt os xs (Some n) → IsRefusedAt os xs (Some m) → n ≡ m
refused_once os xs n m f g = elim (cases_lt n m) [
  | inl less ↦ absurd (f.1 (g.2 n less))
  | inr le ↦ elim (cases_lt m n) [ inl less ↦ absurd (g.1 (f.2 m less)) | inr ge ↦ omega (arith, le, ge) ]
]

mismatch_once : (o : Overload) (xs : List Operand) (m n : Option Mismatch) → IsMismatch o xs m → IsMismatch o xs n → m ≡ n
mismatch_once o xs (Some (Count a)) (Some (Count b)) f g = ap (λ n. Some (Count n)) (sym f.0 ∙ g.0)
mismatch_once o xs (Some (Count a)) (Some (Argument b)) f g = absurd (f.1 (sym f.0 ∙ g.0))
mismatch_once o xs (Some (Count a)) None f g = absurd (f.1 (sym f.0 ∙ g.0))
mismatch_once o xs (Some (Argument a)) (Some (Count b)) f g = absurd (g.1 (sym g.0 ∙ f.0))
mismatch_once o xs (Some (Argument a)) (Some (Argument b)) f g = ap (λ n. Some (Argument n)) (refused_once (o ∷ []) xs a b f.1 g.1)
mismatch_once o xs (Some (Argument a)) None f g = absurd (f.1.1 (g.1 a f.1.0))
mismatch_once o xs None (Some (Count b)) f g = absurd (g.1 (sym g.0 ∙ f.0))
mismatch_once o xs None (Some (Argument b)) f g = absurd (g.1.1 (f.1 b g.1.0))
mismatch_once o xs None None f g = refl

notes_once : {xs : List Operand} {os : List Overload} {ns ms : List (Overload × Mismatch)} → AreNotes xs os ns → AreNotes xs os ms → ns ≡ ms
notes_once no_overloads no_overloads = refl
notes_once (taken a d) (taken b e) = notes_once d e
notes_once {xs} (taken {o} a d) (refused m b e) = let k : None ≡ Some m = mismatch_once o xs None (Some m) a b in absurd (cc k)
notes_once {xs} (refused {o} m a d) (taken b e) = let k : None ≡ Some m = mismatch_once o xs None (Some m) b a in absurd (cc k)
notes_once {xs} (refused {o} {ns = ns} m a d) (refused k b e) =
    let both : Some m ≡ Some k = mismatch_once o xs (Some m) (Some k) a b in
    let same : m ≡ k = cc both in
    ap (λ m. with_note (length xs) (o, m) ns) same ∙ ap (with_note (length xs) (o, k)) (notes_once d e)

some_notes : (os : List Overload) (xs : List Operand) → (ns : List (Overload × Mismatch)) × AreNotes xs os ns
some_notes [] xs = ([], no_overloads)
some_notes (o ∷ os) xs = let m = a_mismatch o xs in let ns = some_notes os xs in one_more m.0 m.1 ns.0 ns.1
  where
    one_more : (m : Option Mismatch) → IsMismatch o xs m → (ns : List (Overload × Mismatch)) → AreNotes xs os ns → (ns : List (Overload × Mismatch)) × AreNotes xs (o ∷ os) ns
    one_more None h ns d = (ns, taken h d)
    one_more (Some m) h ns d = (with_note (length xs) (o, m) ns, refused m h d)

notes : (os : List Overload) (xs : List Operand) → HasOne (Unit {0}) (AreNotes xs os)
notes os xs = record { once = λ ns ms f g. notes_once f g; some = λ _. some_notes os xs }

notes_with : (callee : WgslCallee) (t : Option WgslType) (xs : List Operand) → HasOne (Unit {0}) (AreNotesWith callee t xs)
notes_with callee None xs = notes (or_none (overloads_listed callee false)) xs
notes_with callee (Some t) xs = if_template (is_template t)
  where
    if_template : (b : Bool) → HasOne (Unit {0}) (λ ns. MatchBool b (AreNotes (template_operand t ∷ xs) (or_none (overloads_listed callee true)) ns) (ns ≡ []))
    if_template true = notes (or_none (overloads_listed callee true)) (template_operand t ∷ xs)
    if_template false = known []

pub one_explanation : (c : WgslCall) → HasOne (Unit {0}) (IsExplanationOf c)
one_explanation c = with_template {A = List (List ℕ)} []
    (λ t lines. (ns : List (Overload × Mismatch)) × AreNotesWith c.callee t (loaded c.operands) ns × (lines ≡ map (note_listed c.callee t (types_of c.operands)) ns))
    (λ t. behind (notes_with c.callee t (loaded c.operands)) (λ ns. known _)) (template_type c.template)

-- at most one number is exactly that
one_number : (P : ℕ → Type 0) (v w : Option ℕ) → IsExactly v P → IsExactly w P → v ≡ w
one_number P (Some n) w f g = sym ((g n).1 ((f n).0 refl))
one_number P None None f g = refl
one_number P None (Some n) f g = (f n).1 ((g n).0 refl)

one_received : (ts : List WgslType) (c d : Option WgslType) → IsReceivedCommon ts c → IsReceivedCommon ts d → c ≡ d
one_received ts (Some t) (Some u) f g = left_common_once ts (Some t) (Some u) f.0 g.0
one_received ts (Some t) None f g = absurd (g t f.0 f.1)
one_received ts None (Some u) f g = absurd (f u g.0 g.1)
one_received ts None None f g = refl

one_offsets : (rules : RuleSet) (ms : Members) (o p : Option (List ℕ)) → AreOffsetsOf rules ms o → AreOffsetsOf rules ms p → o ≡ p
one_offsets rules ms (Some xs) (Some ys) f g = ap Some (offsets_once rules ms xs ys f g)
one_offsets rules ms (Some xs) None f g = absurd (never_both rules ms f.total f.sized g)
one_offsets rules ms None (Some ys) f g = absurd (never_both rules ms g.total g.sized f)
one_offsets rules ms None None f g = refl

one_layout : (rules : RuleSet) (ms : Members) (k l : Option WgslLayout) → IsLayoutOf rules ms k → IsLayoutOf rules ms l → k ≡ l
one_layout rules ms (Some k) (Some l) f g =
    let same = layout_once rules ms k.layouts l.layouts k.offsets l.offsets k.size l.size k.align l.align f g in
    λ i. Some (record { layouts = same.members i; offsets = same.offsets i; size = same.size i; align = same.align i })
one_layout rules ms (Some k) None f g = absurd (never_both rules ms k.size f.sized g)
one_layout rules ms None (Some l) f g = absurd (never_both rules ms l.size g.sized f)
one_layout rules ms None None f g = refl

only : {A : Type 0} {R : A → Type 0} → (r : A) × R r × ((s : A) → R s → s ≡ r) → HasOne (Unit {0}) R
only one = record { once = λ q r f g. one.2 q f ∙ sym (one.2 r g); some = λ _. (one.0, one.1) }

pub one_form_type : (f : WgslForm) → HasOne (Unit {0}) (IsFormType f)
one_form_type (assignment_of o x y) = only (assignments (operator_of o) x.of_type y)
one_form_type (array_of xs) = only (arrays (types_of xs))
one_form_type form = known _

-- whatever the request
same_answer : {request : WgslRequest} {a b : WgslAnswer} → Answers request a → Answers request b → a ≡ b
same_answer (rank_is {t} {u} v f) (rank_is w g) = ap a_number (one_number (Converts t u) v w f g)
same_answer (common_is {rules} {ts} c f) (common_is d g) = ap (a_common_type rules) (one_received ts c d f g)
same_answer (unary_is {o} {t} r f) (unary_is s g) = ap a_type (unary_answer_once o t r s f g)
same_answer (binary_is {o} {t} {u} r f) (binary_is s g) = ap a_type (operator_answer_once o t u r s f g)
same_answer (size_is {rules} {t} s a f g) (size_is r b h k) = λ i. a_size (one_number (HasSizeBy rules t) s r f h i) (one_number (HasAlignmentBy rules t) a b g k i)
same_answer (offsets_are {rules} {ms} o f) (offsets_are p g) = ap some_offsets (one_offsets rules ms o p f g)
same_answer (layout_is {rules} {name} {ms} k f) (layout_is l g) = ap (a_layout name ms) (one_layout rules ms k l f g)
same_answer (ctor_is {c} r f) (ctor_is s g) = ap a_type (constructor_answer_once c r s f g)
same_answer (call_is {c} r f) (call_is s g) = ap a_value (call_answer_once c r s f g)
same_answer (type_of_is {c} r f) (type_of_is s g) = ap (a_type_of c) ((one_type c).once r s f g)
same_answer (resolution_of_is {c} r f) (resolution_of_is s g) = ap (a_resolution_of c) ((one_resolution c).once r s f g)
same_answer (explanation_of_is {c} r is f) (explanation_of_is s has g) = ap some_lines ((one_explanation c).once r s f g)
same_answer (explanation_of_is {c} r is f) (unknown_is name has) = absurd (cc (is, has))
same_answer (unknown_is {c} name is) (explanation_of_is s has g) = absurd (cc (is, has))
same_answer (unknown_is {c} name is) (unknown_is other has) = refl
same_answer (overloads_of_are r f) (overloads_of_are s g) = ap some_lines (f ∙ sym g)
same_answer (form_is {f} r h) (form_is s k) = ap a_form_type ((one_form_type f).once r s h k)
same_answer (fit_is r f) (fit_is s g) = ap a_fit (f ∙ sym g)

pub answer_once : (request : WgslRequest) (a b : WgslAnswer) → Answers request a → Answers request b → a ≡ b
answer_once request a b h k = same_answer h k

-- at most one text, of one kind, answers a request
pub one_text : (request : WgslRequest) (k l : TextKind) (a b : List ℕ) → IsAnswer request k a → IsAnswer request l b → (k ≡ l) × (a ≡ b)
one_text request k l a b f g =
    let same = answer_once request f.0 g.0 f.1 g.1 in
    (f.2 ∙ (ap text_kind same ∙ sym g.2), f.3 ∙ (ap answer_text same ∙ sym g.3))

abbrev pub EachAnswered : Type 0
EachAnswered = (request : WgslRequest) → (a : WgslAnswer) × Answers request a

pub one_answer : (request : WgslRequest) → HasOne EachAnswered (Answers request)
one_answer request = record { once = answer_once request; some = λ answered. answered request }

pub one_reply_of : (request : Option WgslRequest) → HasOne EachAnswered (IsReplyOf request)
one_reply_of None = known unreadable
one_reply_of (Some request) = record {
  once = λ a b f g.
      let same = one_text request f.0 g.0 f.1 g.1 f.2 g.2 in f.3 ∙ (ap (λ kind. answer kind f.1) same.0 ∙ (ap (λ text. answer g.0 text) same.1 ∙ sym g.3));
  some = λ answered.
      let a = answered request in (answer (text_kind a.0) (answer_text a.0), (text_kind a.0, answer_text a.0, (a.0, a.1, refl, refl), refl));
}

dec_line : (line : List ℕ) → Dec (IsLineOfText line)
dec_line line = elim (cases_lt 4096 (length line)) [
  | inl long ↦ no (λ is. absurd (omega (arith, long, is.short)))
  | inr short ↦ elim (decided (is_utf8 line) (IsUtf8-from_is_utf8 line, is_utf8-from_IsUtf8 line)) [
    | no other ↦ no (λ is. other is.is_text)
    | yes text ↦ yes (record { short = omega (arith, short); is_text = text })
  ]
]

pub one_of_line : {Holds : ReplyText → Type 0} → HasOne EachAnswered Holds → (bytes : List ℕ) → HasOne EachAnswered (OfLine Holds bytes)
one_of_line {Holds = Holds} one bytes = record {
  once = once;
  some = λ answered. elim (dec_line bytes) [
    | no other ↦ (unreadable, inr (other, refl))
    | yes is ↦ let r = one.some answered in (r.0, inl (is, r.1))
  ];
}
  where
    once : (a b : ReplyText) → OfLine Holds bytes a → OfLine Holds bytes b → a ≡ b
    once a b (inl f) (inl g) = one.once a b f.1 g.1
    once a b (inl f) (inr g) = absurd (g.0 f.0)
    once a b (inr f) (inl g) = absurd (f.0 g.0)
    once a b (inr f) (inr g) = f.1 ∙ sym g.1
