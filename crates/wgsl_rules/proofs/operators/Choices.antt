-- Overload resolution for a name: there is a least candidate if any candidate takes the operands, and never two.
use Rattle.std.proofs.Common.{◌≡◌, ℕ, ◌⊎◌, List, [], ◌∷◌, Some, None, All, refl, sym, ◌∙◌, ap, subst, inl, inr, arith}
use Rattle.wgsl_rules.proofs.Common.{Scalar, Bool, vec_of, WgslType, scalar, within, vec, mat, IsValueType, IsLeftCommon, BinaryOperator, IsInteger, HasRanks, Takes, IsNowhereMore, IsSomewhereLess, IsLeastCandidate, IsChosenAnswer}
use Rattle.wgsl_syntax.specs.declared.operator.BinaryOperator.TheVariants.{ShortCircuitOr, ShortCircuitAnd, Addition, Subtraction, Multiplication, Division, Remainder, Equality, Inequality, LessThan, LessThanEqual, GreaterThan, GreaterThanEqual, BitwiseOr, BitwiseAnd, BitwiseXor, ShiftLeft, ShiftRight}
use Rattle.wgsl_rules.specs.operators.Candidates.{Name, operator, min, max, atan2, step, pow, cross, reflect, clamp, fma, smoothstep, face_forward, mix, refract, IsArithmetic, IsSum, IsComparison, IsLogical, IsBitwise, IsOrAnd, IsShift, IsOfTwo, IsOfThree, IsFor, IsMixed, IsCandidate, scalars, vectors, scalar_vector, vector_scalar, matrices, scalar_matrix, matrix_scalar, vector_matrix, matrix_vector, matrix_matrix, compared, compared_vectors, logical, bits, bits_vectors, bools_vectors, shifted, shifted_vectors, of_two, of_three, distances, products, either, each_either, mixed, inserted}
use Rattle.wgsl_rules.proofs.operators.Families.{Slot, fill_all, HasOpen, IsPut, IsLeastOf, least_of, none_of, least_of_taken, taken_above, settle}
use Rattle.wgsl_rules.proofs.operators.FamilyKinds.{Kind, Admits, IsLeastAdmitted, least_admitted, Outer, plain, layer, outer, outers, ranked_outers}
use Rattle.wgsl_rules.proofs.operators.Forms.{Form, arithmetic, sums, matrix_products, comparisons, shifts, admits_number, admits_float_or_vector, admitted_for, two, three, mixed_form, or_else, form_of}

pub record Belongs (n : Name) (us : List WgslType) (r : WgslType) : Type 0 where
  pub form : Form n
  pub at : WgslType
  pub known : form_of n (outers us) ≡ Some form
  pub operands : us ≡ fill_all form.slots at
  pub result : r ≡ form.gives at
  pub admitted : Admits form.kind at

pub arithmetic_form : (o : BinaryOperator) (h : IsArithmetic o) (os : List Outer) (f : Form (operator o)) → arithmetic o h os ≡ Some f → form_of (operator o) os ≡ Some f
arithmetic_form Addition h os f e = ap (λ a. or_else a (sums Addition tt os)) e
arithmetic_form Subtraction h os f e = ap (λ a. or_else a (sums Subtraction tt os)) e
arithmetic_form Multiplication h os f e = ap (λ a. or_else a (matrix_products os)) e
arithmetic_form Division h os f e = e
arithmetic_form Remainder h os f e = e
arithmetic_form o h os f e = absurd h

pub comparison_form : (o : BinaryOperator) (h : IsComparison o) (os : List Outer) (f : Form (operator o)) → comparisons o h os ≡ Some f → form_of (operator o) os ≡ Some f
comparison_form Equality h os f e = e
comparison_form Inequality h os f e = e
comparison_form LessThan h os f e = e
comparison_form LessThanEqual h os f e = e
comparison_form GreaterThan h os f e = e
comparison_form GreaterThanEqual h os f e = e
comparison_form o h os f e = absurd h

pub shift_form : (o : BinaryOperator) (h : IsShift o) (os : List Outer) (f : Form (operator o)) → shifts o h os ≡ Some f → form_of (operator o) os ≡ Some f
shift_form ShiftLeft h os f e = e
shift_form ShiftRight h os f e = e
shift_form o h os f e = absurd h

pub two_form : (n : Name) (h : IsOfTwo n) (os : List Outer) → form_of n os ≡ Some (two n h)
two_form min h os = refl
two_form max h os = refl
two_form atan2 h os = refl
two_form step h os = refl
two_form pow h os = refl
two_form cross h os = refl
two_form reflect h os = refl
two_form n h os = absurd h

three_form : (n : Name) (h : IsOfThree n) (t : WgslType) → IsFor n t → form_of n (outer t ∷ outer t ∷ outer t ∷ []) ≡ Some (three n h)
three_form clamp h t k = refl
three_form fma h t k = refl
three_form smoothstep h t k = refl
three_form face_forward h t k = refl
three_form mix h (scalar s) k = refl
three_form mix h (within (vec_of n) t) k = refl
three_form mix h t k = absurd k
three_form n h t k = absurd h

pub mixed_known : (n : Name) (h : IsMixed n) (k m : ℕ) → form_of n (layer (vec_of k) ∷ layer (vec_of m) ∷ plain ∷ []) ≡ Some (mixed_form n h k)
mixed_known mix h k m = refl
mixed_known refract h k m = refl
mixed_known n h k m = absurd h

pub belongs : {n : Name} {us : List WgslType} {r : WgslType} → IsCandidate n us r → Belongs n us r
belongs (scalars o h s) = record { form = _; at = scalar s; known = arithmetic_form o h (plain ∷ plain ∷ []) _ refl; operands = refl; result = refl; admitted = tt }
belongs (vectors o h n e) = record { form = _; at = e; known = arithmetic_form o h (layer (vec_of n) ∷ layer (vec_of n) ∷ []) _ refl; operands = refl; result = refl; admitted = tt }
belongs (scalar_vector o h s n) = record { form = _; at = scalar s; known = arithmetic_form o h (plain ∷ layer (vec_of n) ∷ []) _ refl; operands = refl; result = refl; admitted = tt }
belongs (vector_scalar o h s n) = record { form = _; at = scalar s; known = arithmetic_form o h (layer (vec_of n) ∷ plain ∷ []) _ refl; operands = refl; result = refl; admitted = tt }
belongs (matrices o h c r e) = sums_belong o h c r e
  where
    sums_belong : (o : BinaryOperator) → IsSum o → (c r : ℕ) (e : WgslType) → Belongs (operator o) (mat c r e ∷ mat c r e ∷ []) (mat c r e)
    sums_belong Addition h c r e = record { form = _; at = e; known = refl; operands = refl; result = refl; admitted = tt }
    sums_belong Subtraction h c r e = record { form = _; at = e; known = refl; operands = refl; result = refl; admitted = tt }
    sums_belong o h c r e = absurd h
belongs (scalar_matrix s c r) = record { form = _; at = scalar s; known = refl; operands = refl; result = refl; admitted = tt }
belongs (matrix_scalar s c r) = record { form = _; at = scalar s; known = refl; operands = refl; result = refl; admitted = tt }
belongs (vector_matrix c r e) = record { form = _; at = e; known = refl; operands = refl; result = refl; admitted = tt }
belongs (matrix_vector c r e) = record { form = _; at = e; known = refl; operands = refl; result = refl; admitted = tt }
belongs (matrix_matrix k c r e) = record { form = _; at = e; known = refl; operands = refl; result = refl; admitted = tt }
belongs (compared o h s) = record { form = _; at = scalar s; known = comparison_form o h (plain ∷ plain ∷ []) _ refl; operands = refl; result = refl; admitted = tt }
belongs (compared_vectors o h n e) = record { form = _; at = e; known = comparison_form o h (layer (vec_of n) ∷ layer (vec_of n) ∷ []) _ refl; operands = refl; result = refl; admitted = tt }
belongs (logical o h) = logical_belongs o h
  where
    logical_belongs : (o : BinaryOperator) → IsLogical o → Belongs (operator o) (scalar Bool ∷ scalar Bool ∷ []) (scalar Bool)
    logical_belongs ShortCircuitOr h = record { form = _; at = scalar Bool; known = refl; operands = refl; result = refl; admitted = tt }
    logical_belongs ShortCircuitAnd h = record { form = _; at = scalar Bool; known = refl; operands = refl; result = refl; admitted = tt }
    logical_belongs o h = absurd h
belongs (bits o h i k) = bits_belong o h i k
  where
    bits_belong : (o : BinaryOperator) → IsBitwise o → (i : Scalar) → IsInteger i → Belongs (operator o) (scalar i ∷ scalar i ∷ []) (scalar i)
    bits_belong BitwiseOr h i k = record { form = _; at = scalar i; known = refl; operands = refl; result = refl; admitted = k }
    bits_belong BitwiseAnd h i k = record { form = _; at = scalar i; known = refl; operands = refl; result = refl; admitted = k }
    bits_belong BitwiseXor h i k = record { form = _; at = scalar i; known = refl; operands = refl; result = refl; admitted = k }
    bits_belong o h i k = absurd h
belongs (bits_vectors o h n i k) = bits_vectors_belong o h n i k
  where
    bits_vectors_belong : (o : BinaryOperator) → IsBitwise o → (n : ℕ) (i : Scalar) → IsInteger i → Belongs (operator o) (vec n (scalar i) ∷ vec n (scalar i) ∷ []) (vec n (scalar i))
    bits_vectors_belong BitwiseOr h n i k = record { form = _; at = scalar i; known = refl; operands = refl; result = refl; admitted = inl k }
    bits_vectors_belong BitwiseAnd h n i k = record { form = _; at = scalar i; known = refl; operands = refl; result = refl; admitted = inl k }
    bits_vectors_belong BitwiseXor h n i k = record { form = _; at = scalar i; known = refl; operands = refl; result = refl; admitted = k }
    bits_vectors_belong o h n i k = absurd h
belongs (bools_vectors o h n) = bools_belong o h n
  where
    bools_belong : (o : BinaryOperator) → IsOrAnd o → (n : ℕ) → Belongs (operator o) (vec n (scalar Bool) ∷ vec n (scalar Bool) ∷ []) (vec n (scalar Bool))
    bools_belong BitwiseOr h n = record { form = _; at = scalar Bool; known = refl; operands = refl; result = refl; admitted = inr tt }
    bools_belong BitwiseAnd h n = record { form = _; at = scalar Bool; known = refl; operands = refl; result = refl; admitted = inr tt }
    bools_belong o h n = absurd h
belongs (shifted o h i k) = record { form = _; at = scalar i; known = shift_form o h (plain ∷ plain ∷ []) _ refl; operands = refl; result = refl; admitted = k }
belongs (shifted_vectors o h n i k) = record { form = _; at = scalar i; known = shift_form o h (layer (vec_of n) ∷ layer (vec_of n) ∷ []) _ refl; operands = refl; result = refl; admitted = k }
belongs (of_two n h t k) = record { form = two n h; at = t; known = two_form n h (outer t ∷ outer t ∷ []); operands = refl; result = refl; admitted = admitted_for n t k }
belongs (of_three n h t k) = record { form = three n h; at = t; known = three_form n h t k; operands = refl; result = refl; admitted = admitted_for n t k }
belongs (distances t k) = record { form = _; at = t; known = refl; operands = refl; result = refl; admitted = admits_float_or_vector t k }
belongs (products n s k) = record { form = _; at = vec n (scalar s); known = refl; operands = refl; result = refl; admitted = k }
belongs (either t k) = record { form = _; at = t; known = refl; operands = refl; result = refl; admitted = k }
belongs (each_either n m e) = record { form = _; at = vec n e; known = refl; operands = refl; result = refl; admitted = tt }
belongs (mixed n h k s f) = record { form = mixed_form n h k; at = scalar s; known = mixed_known n h k k; operands = refl; result = refl; admitted = f }
belongs (inserted t k) = record { form = _; at = t; known = refl; operands = refl; result = refl; admitted = admits_number t k }

-- The member of a family at the least type that its kind admits: it takes the operands, and other members that are
-- admitted and take them have higher ranks.
record IsLeastIn (k : Kind) (ss : List Slot) (ts : List WgslType) (b : WgslType) : Type 0 where
  ranks : List ℕ
  takes : HasRanks ts (fill_all ss b) ranks
  least : (c : WgslType) (ws : List ℕ) → Admits k c → HasRanks ts (fill_all ss c) ws → (c ≡ b) ⊎ IsNowhereMore ranks ws × IsSomewhereLess ranks ws

choice_of : (n : Name) (ts : List WgslType) (f : Form n) (b : WgslType) → All IsValueType ts → form_of n (outers ts) ≡ Some f → Admits f.kind b →
    IsLeastIn f.kind f.slots ts b → IsLeastCandidate n ts (fill_all f.slots b) (f.gives b)
choice_of n ts f b va e h k = record {
  candidate = f.sound b h;
  ranks = k.ranks;
  takes = k.takes;
  least = λ vs s ws q r. against vs s ws (belongs q) r;
}
  where
    family : (g : Form n) → f ≡ g → (c : WgslType) (vs : List WgslType) (s : WgslType) (ws : List ℕ) → vs ≡ fill_all g.slots c → s ≡ g.gives c → Admits g.kind c → HasRanks ts vs ws →
        (vs ≡ fill_all f.slots b) × (s ≡ f.gives b) ⊎ IsNowhereMore k.ranks ws × IsSomewhereLess k.ranks ws
    family g p c vs s ws ev es m r =
        let ev' : vs ≡ fill_all f.slots c = ev ∙ ap (λ (g : Form n). fill_all g.slots c) (sym p) in
        let es' : s ≡ f.gives c = es ∙ ap (λ (g : Form n). g.gives c) (sym p) in
        elim (k.least c ws (subst (λ (g : Form n). Admits g.kind c) (sym p) m) (subst (λ vs. HasRanks ts vs ws) ev' r)) [
          | inl q ↦ inl (ev' ∙ ap (λ c. fill_all f.slots c) q, es' ∙ ap (λ c. f.gives c) q)
          | inr q ↦ inr q
        ]

    against : (vs : List WgslType) (s : WgslType) (ws : List ℕ) → Belongs n vs s → HasRanks ts vs ws →
        (vs ≡ fill_all f.slots b) × (s ≡ f.gives b) ⊎ IsNowhereMore k.ranks ws × IsSomewhereLess k.ranks ws
    against vs s ws q r =
        let d : Some f ≡ Some q.form = sym e ∙ ap (λ os. form_of n os) (ranked_outers ts vs ws va r) ∙ q.known in
        family q.form (cc d) q.at vs s ws q.operands q.result q.admitted r

unraised : (k : Kind) (ss : List Slot) (ts : List WgslType) (b : WgslType) → IsLeastOf ss ts b → IsLeastIn k ss ts b
unraised k ss ts b m = record { ranks = m.ranks; takes = m.takes; least = λ c ws a r. (m.least c ws r).1 }

-- from the least type that takes the operands to the least of them that is admitted
raised : (k : Kind) (ss : List Slot) (ts : List WgslType) (b d : WgslType) → HasOpen ss → All IsValueType ts → IsLeastOf ss ts b → IsLeastAdmitted k b d → IsLeastIn k ss ts d
raised k ss ts b d o va m a =
    let t = taken_above ss ts b d va (m.ranks, m.takes) a.above in
    record {
      ranks = t.0;
      takes = t.1;
      least = λ c ws h r. settle ss ts d c t.0 ws o va (a.least c (m.least c ws r).0 h) t.1 r;
    }

pub some_choice : (n : Name) (ts us : List WgslType) (r : WgslType) → All IsValueType ts → IsCandidate n us r → Takes us ts →
    (vs : List WgslType) × (s : WgslType) × IsLeastCandidate n ts vs s
some_choice n ts us r va q h =
    let m = belongs q in
    let e = ap (λ os. form_of n os) (ranked_outers ts us h.0 va h.1) ∙ m.known in
    let h' : Takes (fill_all m.form.slots m.at) ts = (h.0, subst (λ us. HasRanks ts us h.0) m.operands h.1) in
    let k = least_of_taken m.form.slots ts m.at m.form.opens va h' in
    let a = least_admitted m.form.kind k.0 m.at (k.1.least m.at h'.0 h'.1).0 m.admitted in
    (fill_all m.form.slots a.0, m.form.gives a.0, choice_of n ts m.form a.0 va e a.1.admitted (raised m.form.kind m.form.slots ts k.0 a.0 m.form.opens va k.1 a.1))

pub contrary : (vs ws : List ℕ) → IsNowhereMore vs ws → IsSomewhereLess ws vs → ⊥
contrary [] [] h k = k
contrary (v ∷ vs) (w ∷ ws) h (inl k) = omega (arith, h.0, k)
contrary (v ∷ vs) (w ∷ ws) h (inr k) = contrary vs ws h.1 k
contrary _ _ h k = h

pub choice_once : (n : Name) (ts us vs : List WgslType) (r s : WgslType) → IsLeastCandidate n ts us r → IsLeastCandidate n ts vs s → (us ≡ vs) × (r ≡ s)
choice_once n ts us vs r s a b =
    elim (b.least us r a.ranks a.candidate a.takes) [
      | inl e ↦ e
      | inr p ↦ elim (a.least vs s b.ranks b.candidate b.takes) [
        | inl e ↦ (sym e.0, sym e.1)
        | inr q ↦ absurd (contrary a.ranks b.ranks q.0 p.1)
      ]
    ]

-- The answer: the result of the least candidate, or None if no candidate takes the operands.

pub chosen_answer : {n : Name} {ts us : List WgslType} {t : WgslType} → IsLeastCandidate n ts us t → IsChosenAnswer n ts (Some t)
chosen_answer {n} {ts} {us} {t} h = record {
  some = λ s. (λ e. (us, subst (λ s. IsLeastCandidate n ts us s) (cc e) h), λ k. ap Some (choice_once n ts us k.0 t s h k.1).1);
  none = (λ e. absurd (cc e), λ f. absurd (f us t h.candidate (h.ranks, h.takes)));
}

pub refused_answer : {n : Name} {ts : List WgslType} → ((us : List WgslType) (t : WgslType) → IsCandidate n us t → ¬ Takes us ts) → IsChosenAnswer n ts None
refused_answer {n} {ts} f = record {
  some = λ t. (λ e. absurd (cc e), λ k. absurd (f k.0 t k.1.candidate (k.1.ranks, k.1.takes)));
  none = (λ e. f, λ f. refl);
}

-- A family's row, at the common type of what the operands put, is the least candidate. Without a common type no candidate
-- takes the operands.

pub row_choice : (n : Name) (ts es : List WgslType) (f : Form n) (b : WgslType) → All IsValueType ts → All IsValueType es → form_of n (outers ts) ≡ Some f →
    IsPut f.slots ts es → IsLeftCommon es (Some b) → Admits f.kind b → IsLeastCandidate n ts (fill_all f.slots b) (f.gives b)
row_choice n ts es f b va ve e p h a = choice_of n ts f b va e a (unraised f.kind f.slots ts b (least_of f.slots ts es b f.opens va ve p h))

pub of_row : (n : Name) (ts us : List WgslType) (r : WgslType) (f : Form n) → All IsValueType ts → form_of n (outers ts) ≡ Some f → Belongs n us r → Takes us ts →
    (c : WgslType) × Takes (fill_all f.slots c) ts × Admits f.kind c
of_row n ts us r f va e m h =
    let d : Some m.form ≡ Some f = sym (ap (λ os. form_of n os) (ranked_outers ts us h.0 va h.1) ∙ m.known) ∙ e in
    let q : m.form ≡ f = cc d in (
      m.at,
      (h.0, subst (λ us. HasRanks ts us h.0) (m.operands ∙ ap (λ (g : Form n). fill_all g.slots m.at) q) h.1),
      subst (λ (g : Form n). Admits g.kind m.at) q m.admitted,
    )

pub row_no_common : (n : Name) (ts es : List WgslType) (f : Form n) → All IsValueType ts → All IsValueType es → form_of n (outers ts) ≡ Some f →
    IsPut f.slots ts es → IsLeftCommon es None → (us : List WgslType) (r : WgslType) → IsCandidate n us r → ¬ Takes us ts
row_no_common n ts es f va ve e p h us r q t =
    let k = of_row n ts us r f va e (belongs q) t in
    none_of f.slots ts es k.0 f.opens va ve p h k.1
