-- What passes the test of tables is a table.
use Rattle.std.proofs.Common.{◌≡◌, ℕ, ◌<◌, ◌≤◌, ◌==◌, ◌&&◌, ◌||◌, List, [], ◌∷◌, map, Option, Some, None, Bool, true, false, not, refl, sym, ◌∙◌, subst, inl, inr, ap, arith, le_refl, true≢false, IsTrue, leb-true, ltb-true}
use Rattle.wgsl_standard.proofs.Common.{list_all, and_from, and_parts, both_ways, eqb-false, not-true, or_cases, Scalar, Bool as BoolScalar, IsNowhereMore, IsSomewhereLess, scalar_depth, depth, Component, Count, Shape, Pattern, Overload, Dimensions, Single, Substitution, Operand, parameter_for, parameters_for, letter_of, IsPreferredTo, IsPreferredToAll, AreInOrder, IsUnambiguous, converts, must_be_concrete, group_of, type_group, has_one_result}
use Rattle.wgsl_syntax.specs.Scalar.{scalars}
use Rattle.wgsl_syntax.specs.declared.overload.Component.TheVariants.{T, U, V, W, The}
use Rattle.wgsl_syntax.specs.declared.overload.Count.TheVariants.{Exactly}
use Rattle.wgsl_syntax.specs.declared.overload.Shape.TheVariants as shapes
use Rattle.wgsl_syntax.specs.declared.overload.Pattern.TheVariants as patterns
use Rattle.wgsl_rules.specs.standard.Overloads.{count_in, one_or_vector, dimensions_in, component_in, patterns_of, type_with, IsSubstitution}
use Rattle.wgsl_standard.specs.internal.Ambiguity.{may_stand, all_taken, never, no_deeper, less_deep, counts_apart, shapes_apart, patterns_apart, are_apart, place_no_deeper, all_no_deeper, place_less_deep, some_less_deep, as_known, is_preferred_where, is_preferred_anywhere, differ_at, unless_they_differ, is_preferred_to, is_unambiguous}
use Rattle.wgsl_standard.proofs.Scalars.{Member, find, has}
use Rattle.wgsl_standard.proofs.Boxes.{width_matrix, same_operand, Fit, AllFit}
use Rattle.wgsl_standard.proofs.Letters.{group_said, letter_says}
use Rattle.wgsl_standard.proofs.Parts.{parts_again}
use Rattle.wgsl_standard.proofs.Ranks.{depth_type_with, ranks_below, ranks_less}
use Rattle.wgsl_standard.proofs.Choices.{taken}
use Rattle.wgsl_standard.proofs.FixedResults.{one_result_is}

unless : (a b : Bool) → IsTrue (not a || b) → IsTrue a → IsTrue b
unless true b h k = h
unless false b h k = absurd (true≢false (sym k))

each : (f : Scalar → Bool) (ss : List Scalar) (g : Scalar) → IsTrue (list_all f ss) → Member g ss → IsTrue (f g)
each f [] g h m = absurd m
each f (s ∷ ss) g h (inl e) = subst (λ s. IsTrue (f s)) (sym e) (and_parts (f s) (list_all f ss) h).0
each f (s ∷ ss) g h (inr m) = each f ss g (and_parts (f s) (list_all f ss) h).1 m

in_scalars : (g : Scalar) → Member g scalars
in_scalars g = find g scalars (test g)
  where
    test : (g : Scalar) → IsTrue (has g scalars)
    test BoolScalar = refl
    test g = refl

itself : (s : Scalar) → IsTrue (converts s s && converts s s)
itself BoolScalar = refl
itself s = refl

stands : (o : Overload) (i : Substitution) → IsSubstitution o i → (a : Component) → IsTrue (may_stand o a (component_in i a))
stands o i h T = h.t
stands o i h U = h.u
stands o i h V = h.v
stands o i h W = h.w
stands o i h (The s) = itself s

taken_at : (f : Scalar → Scalar → Bool) (o : Overload) (a : Component) (p : Overload) (b : Component) → IsTrue (all_taken f o a p b) → (g h s : Scalar) →
    IsTrue (may_stand o a g) → IsTrue (may_stand p b h) → IsTrue (converts s g) → IsTrue (converts s h) → IsTrue (f g h)
taken_at f o a p b t g h s j k m n =
    let at_g = unless (may_stand o a g) (list_all (λ h. not (may_stand p b h) || (list_all (λ s. not (converts s g && converts s h)) scalars || f g h)) scalars)
    (each (λ g. not (may_stand o a g) || list_all (λ h. not (may_stand p b h) || (list_all (λ s. not (converts s g && converts s h)) scalars || f g h)) scalars) scalars g t (in_scalars g)) j in
    let at_h = unless (may_stand p b h) (list_all (λ s. not (converts s g && converts s h)) scalars || f g h)
    (each (λ h. not (may_stand p b h) || (list_all (λ s. not (converts s g && converts s h)) scalars || f g h)) scalars h at_g (in_scalars h)) k in
    elim (or_cases (list_all (λ s. not (converts s g && converts s h)) scalars) (f g h) at_h) [
      | inl q ↦ absurd (both_ways (converts s g && converts s h) (not-true (converts s g && converts s h) (each (λ s. not (converts s g && converts s h)) scalars s q (in_scalars s))) (and_from (converts s g) (converts s h) m n))
      | inr q ↦ q
    ]

numbers_apart : (m n : ℕ) → IsTrue (not (m == n)) → m ≡ n → ⊥
numbers_apart m n h = eqb-false m n (not-true (m == n) h)

counts_differ : (i j : Substitution) (m n : Count) → IsTrue (counts_apart m n) → count_in i m ≡ count_in j n → ⊥
counts_differ i j (Exactly m) (Exactly n) h e = numbers_apart m n h e
counts_differ i j m n h e = true≢false (sym h)

shapes_differ : (i j : Substitution) (a b : Shape) → IsTrue (shapes_apart a b) → dimensions_in i a ≡ dimensions_in j b → ⊥
shapes_differ i j shapes.One (shapes.Vector n) h e = cc
shapes_differ i j (shapes.Vector n) (shapes.Vector m) h e = counts_differ i j n m h (cc e)
shapes_differ i j (shapes.Matrix c r) (shapes.Matrix d q) h e = elim (or_cases (counts_apart c d) (counts_apart r q) h) [
  | inl k ↦ counts_differ i j c d k (cc e)
  | inr k ↦ counts_differ i j r q k (cc e)
]
shapes_differ i j (shapes.Matrix c r) shapes.OneOrVector h e = width_matrix j.width (count_in i c) (count_in i r) (sym e)
shapes_differ i j shapes.OneOrVector (shapes.Matrix c r) h e = width_matrix i.width (count_in j c) (count_in j r) e
shapes_differ i j a b h e = cc

abbrev is_vector : Option ℕ → Bool
is_vector None = false
is_vector (Some n) = true

abbrev IsKnown : Shape → Type 0
IsKnown shapes.OneOrVector = ⊥
IsKnown s = Unit {0}

unchanged : (i : Substitution) (s : Shape) (w : Bool) → IsKnown s → dimensions_in i (as_known w s) ≡ dimensions_in i s
unchanged i shapes.OneOrVector w h = absurd h
unchanged i s true h = refl
unchanged i s w h = refl

-- where it is known whether it is a scalar or a vector, another substitution has the same shape there
known : (i : Substitution) (s : Shape) → (k : Substitution) × (dimensions_in k (as_known (is_vector i.width) s) ≡ dimensions_in i s)
known i shapes.OneOrVector = turn i.width
  where
    turn : (w : Option ℕ) → (k : Substitution) × (dimensions_in k (as_known (is_vector w) shapes.OneOrVector) ≡ one_or_vector w)
    turn None = (i, refl)
    turn (Some n) = (record i { n = n }, refl)
known i s = (i, unchanged i s (is_vector i.width) tt)

-- an operand that fits a parameter is of its group

value_of_group : (o : Dimensions) (s : Scalar) → type_group (type_with o s) ≡ 0
value_of_group Single s = refl
value_of_group o s = refl

fit_group : (c : Bool) (i : Substitution) (p : Pattern) (x : Operand) → Fit c i p x → type_group x.of_type ≡ group_of p
fit_group c i (patterns.Value s e) x f = ap type_group (parts_again x.of_type (dimensions_in i s) f.scalar f.parts) ∙ value_of_group (dimensions_in i s) f.scalar
fit_group c i (patterns.Resource r) x f = group_said _ _ (letter_of r x.of_type) i.t (letter_says r x.of_type) f
fit_group c i p x f = ap type_group f

places_differ : (c : Bool) (o p : Overload) (i j : Substitution) → IsSubstitution o i → IsSubstitution p j → (a b : Pattern) (x : Operand) →
    IsTrue (patterns_apart (is_vector i.width) (is_vector j.width) o p a b) → Fit c i a x → Fit c j b x → ⊥
places_differ c o p i j m n (patterns.Value s e) (patterns.Value r g) x h f k =
    elim (or_cases (shapes_apart (as_known (is_vector i.width) s) (as_known (is_vector j.width) r)) (all_taken never o e p g) h) [
      | inl q ↦
          let d = known i s in
          let z = known j r in
          shapes_differ d.0 z.0 (as_known (is_vector i.width) s) (as_known (is_vector j.width) r) q (d.1 ∙ ((same_operand c i j s e r g x.of_type f k).0 ∙ sym z.1))
      | inr q ↦ true≢false (sym (taken_at never o e p g q (component_in i e) (component_in j g) f.scalar
          (stands o i m e) (stands p j n g) f.receives.0 (same_operand c i j s e r g x.of_type f k).1))
    ]
places_differ c o p i j m n a b x h f k = numbers_apart (group_of a) (group_of b) h (sym (fit_group c i a x f) ∙ fit_group c j b x k)

difference : (c : Bool) (i j : Substitution) (a b : Pattern) (x : Operand) → IsTrue (differ_at a b) → Fit c i a x → Fit c j b x → ⊥
difference c i j (patterns.Value s e) (patterns.Value r g) x h f k = shapes_differ i j s r h (same_operand c i j s e r g x.of_type f k).0
difference c i j a b x h f k = numbers_apart (group_of a) (group_of b) h (sym (fit_group c i a x f) ∙ fit_group c j b x k)

-- no operands fit lists of parameters that are apart, if none fits parameters that are
none_fits : (apart : Pattern → Pattern → Bool) (c : Bool) (i j : Substitution) → ((a b : Pattern) (x : Operand) → IsTrue (apart a b) → Fit c i a x → Fit c j b x → ⊥) →
    (ps qs : List Pattern) (xs : List Operand) → IsTrue (are_apart apart ps qs) → AllFit c i ps xs → AllFit c j qs xs → ⊥
none_fits apart c i j n [] [] xs h f g = true≢false (sym h)
none_fits apart c i j n (a ∷ ps) (b ∷ qs) (x ∷ xs) h f g = elim (or_cases (apart a b) (are_apart apart ps qs) h) [
  | inl k ↦ n a b x k f.0 g.0
  | inr k ↦ none_fits apart c i j n ps qs xs k f.1 g.1
]
none_fits apart c i j n [] qs [] h f g = g
none_fits apart c i j n (a ∷ ps) [] (x ∷ xs) h f g = g
none_fits apart c i j n ps qs xs h f g = f

-- the test for what is known of two substitutions
preferred_at : (w v : Bool) (o p : Overload) → IsTrue (is_preferred_anywhere o p) → IsTrue (is_preferred_where w v o p)
preferred_at w v o p h =
    let k = and_parts (is_preferred_where true true o p && is_preferred_where true false o p) (is_preferred_where false true o p && is_preferred_where false false o p) h in
    choose w v (and_parts (is_preferred_where true true o p) (is_preferred_where true false o p) k.0) (and_parts (is_preferred_where false true o p) (is_preferred_where false false o p) k.1)
  where
    choose : (w v : Bool) → IsTrue (is_preferred_where true true o p) × IsTrue (is_preferred_where true false o p) → IsTrue (is_preferred_where false true o p) × IsTrue (is_preferred_where false false o p) →
        IsTrue (is_preferred_where w v o p)
    choose true true a b = a.0
    choose true false a b = a.1
    choose false true a b = b.0
    choose false false a b = b.1

place_deeper : (c : Bool) (o p : Overload) (i j : Substitution) → IsSubstitution o i → IsSubstitution p j → (a b : Pattern) (x : Operand) → IsTrue (place_no_deeper o a p b) →
    Fit c i a x → Fit c j b x → depth (parameter_for i a x.of_type) ≤ depth (parameter_for j b x.of_type)
place_deeper c o p i j m n (patterns.Value s e) (patterns.Value r g) x h f k =
    let d = leb-true (scalar_depth (component_in i e)) (scalar_depth (component_in j g))
    (taken_at no_deeper o e p g h (component_in i e) (component_in j g) f.scalar (stands o i m e) (stands p j n g) f.receives.0 (same_operand c i j s e r g x.of_type f k).1) in
    omega (arith, d, depth_type_with (dimensions_in i s) (component_in i e), depth_type_with (dimensions_in j r) (component_in j g))
place_deeper c o p i j m n (patterns.Sampler s) (patterns.Sampler r) x h f k = omega arith
place_deeper c o p i j m n (patterns.Texture s) (patterns.Texture r) x h f k = omega arith
place_deeper c o p i j m n (patterns.Resource s) (patterns.Resource r) x h f k = le_refl (depth x.of_type)
place_deeper c o p i j m n a b x h f k = absurd (true≢false (sym h))

none_deeper : (c : Bool) (o p : Overload) (i j : Substitution) → IsSubstitution o i → IsSubstitution p j → (ps qs : List Pattern) (xs : List Operand) → IsTrue (all_no_deeper o ps p qs) →
    AllFit c i ps xs → AllFit c j qs xs → IsNowhereMore (map depth (parameters_for i ps xs)) (map depth (parameters_for j qs xs))
none_deeper c o p i j m n [] [] xs h f g = tt
none_deeper c o p i j m n (a ∷ ps) (b ∷ qs) (x ∷ xs) h f g =
    let k = and_parts (place_no_deeper o a p b) (all_no_deeper o ps p qs) h in
    (place_deeper c o p i j m n a b x k.0 f.0 g.0, none_deeper c o p i j m n ps qs xs k.1 f.1 g.1)
none_deeper c o p i j m n [] qs [] h f g = absurd g
none_deeper c o p i j m n (a ∷ ps) [] (x ∷ xs) h f g = absurd g
none_deeper c o p i j m n ps qs xs h f g = absurd f

place_less : (c : Bool) (o p : Overload) (i j : Substitution) → IsSubstitution o i → IsSubstitution p j → (a b : Pattern) (x : Operand) → IsTrue (place_less_deep o a p b) →
    Fit c i a x → Fit c j b x → depth (parameter_for i a x.of_type) < depth (parameter_for j b x.of_type)
place_less c o p i j m n (patterns.Value s e) (patterns.Value r g) x h f k =
    let d = ltb-true (scalar_depth (component_in i e)) (scalar_depth (component_in j g))
    (taken_at less_deep o e p g h (component_in i e) (component_in j g) f.scalar (stands o i m e) (stands p j n g) f.receives.0 (same_operand c i j s e r g x.of_type f k).1) in
    omega (arith, d, depth_type_with (dimensions_in i s) (component_in i e), depth_type_with (dimensions_in j r) (component_in j g))
place_less c o p i j m n a b x h f k = absurd (true≢false (sym h))

some_less : (c : Bool) (o p : Overload) (i j : Substitution) → IsSubstitution o i → IsSubstitution p j → (ps qs : List Pattern) (xs : List Operand) → IsTrue (some_less_deep o ps p qs) →
    AllFit c i ps xs → AllFit c j qs xs → IsSomewhereLess (map depth (parameters_for i ps xs)) (map depth (parameters_for j qs xs))
some_less c o p i j m n (a ∷ ps) (b ∷ qs) (x ∷ xs) h f g =
    elim (or_cases (place_less_deep o a p b) (some_less_deep o ps p qs) h) [
      | inl k ↦ inl (place_less c o p i j m n a b x k f.0 g.0)
      | inr k ↦ inr (some_less c o p i j m n ps qs xs k f.1 g.1)
    ]
some_less c o p i j m n (a ∷ ps) (b ∷ qs) xs h f g = absurd f
some_less c o p i j m n ps qs xs h f g = absurd (true≢false (sym h))

unless_different : (o p : Overload) (y : Bool) → (IsTrue y → ⊥) → IsTrue (unless_they_differ y o p) → IsTrue (is_preferred_anywhere o p)
unless_different o p true n h = absurd (n refl)
unless_different o p false n h = h

pub preferred_is : (o p : Overload) → IsTrue (is_preferred_to o p) → IsPreferredTo o p
preferred_is o p h xs us vs r s ranks ws q k n m =
    let c = must_be_concrete xs in
    let f = taken o xs us r ranks q k in
    let g = taken p xs vs s ws n m in
    let t = unless_different o p (are_apart differ_at (patterns_of o) (patterns_of p))
    (λ d. none_fits differ_at c f.substitution g.substitution (difference c f.substitution g.substitution) (patterns_of o) (patterns_of p) xs d f.fits g.fits) h in
    let w = is_vector f.substitution.width in
    let v = is_vector g.substitution.width in
    elim (or_cases (are_apart (patterns_apart w v o p) (patterns_of o) (patterns_of p))
    (all_no_deeper o (patterns_of o) p (patterns_of p) && some_less_deep o (patterns_of o) p (patterns_of p)) (preferred_at w v o p t)) [
      | inl t ↦ absurd (none_fits (patterns_apart w v o p) c f.substitution g.substitution (places_differ c o p f.substitution g.substitution f.admitted g.admitted)
          (patterns_of o) (patterns_of p) xs t f.fits g.fits)
      | inr t ↦
          let b = and_parts (all_no_deeper o (patterns_of o) p (patterns_of p)) (some_less_deep o (patterns_of o) p (patterns_of p)) t in
          let below = none_deeper (must_be_concrete xs) o p f.substitution g.substitution f.admitted g.admitted (patterns_of o) (patterns_of p) xs b.0 f.fits g.fits in
          let less = some_less (must_be_concrete xs) o p f.substitution g.substitution f.admitted g.admitted (patterns_of o) (patterns_of p) xs b.1 f.fits g.fits in (
            ranks_below us vs xs ranks ws k.values k.converts m.converts
                (subst (λ us. IsNowhereMore (map depth us) (map depth vs)) (sym f.parameters)
                (subst (λ vs. IsNowhereMore (map depth (parameters_for f.substitution (patterns_of o) xs)) (map depth vs)) (sym g.parameters) below)),
            ranks_less us vs xs ranks ws k.values k.converts m.converts
                (subst (λ us. IsSomewhereLess (map depth us) (map depth vs)) (sym f.parameters)
                (subst (λ vs. IsSomewhereLess (map depth (parameters_for f.substitution (patterns_of o) xs)) (map depth vs)) (sym g.parameters) less)),
          )
    ]

preferred_to_all : (o : Overload) (ps : List Overload) → IsTrue (list_all (is_preferred_to o) ps) → IsPreferredToAll o ps
preferred_to_all o [] h = tt
preferred_to_all o (p ∷ ps) h = let k = and_parts (is_preferred_to o p) (list_all (is_preferred_to o) ps) h in (preferred_is o p k.0, preferred_to_all o ps k.1)

in_order_is : (os : List Overload) → IsTrue (is_unambiguous os) → AreInOrder os
in_order_is [] h = tt
in_order_is (o ∷ os) h =
    let k = and_parts (has_one_result o) (list_all (is_preferred_to o) os && is_unambiguous os) h in
    let m = and_parts (list_all (is_preferred_to o) os) (is_unambiguous os) k.1 in
    (one_result_is o k.0, preferred_to_all o os m.0, in_order_is os m.1)

pub unambiguous_is : (os : List Overload) → IsTrue (is_unambiguous os) → IsUnambiguous os
unambiguous_is os h = record { in_order = in_order_is os h }
