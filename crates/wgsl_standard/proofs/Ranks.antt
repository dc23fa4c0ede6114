-- Ranks of operands at the parameters of a substitution: an operand fits exactly if it converts, and ranks compare as depths do.
use Rattle.std.proofs.Common.{◌≡◌, ℕ, ◌+◌, ◌⊎◌, List, [], ◌∷◌, map, Some, Bool, true, false, cond, refl, sym, ◌∙◌, ap, subst, inl, inr, arith, true≢false, IsTrue}
use Rattle.wgsl_standard.proofs.Common.{Scalar, AbstractInt, AbstractFloat, WgslType, vec_of, mat_of, scalar, within, texture, sampler, Converts, IsValueType, IsAbstract, HasRanks, IsNowhereMore, IsSomewhereLess, scalar_depth, depth, value_converts, converts_from_scalar, converts_from_within, converts_within, converts_inside, Pattern, Dimensions, Single, Vector, Matrix, Substitution, type_with, dimensions_in, component_in, Names, IsParameter, AreParameters, letter_of, parts_of, may_be, must_be_concrete}
use Rattle.wgsl_syntax.specs.declared.overload.Pattern.TheVariants as patterns
use Rattle.wgsl_rules.specs.standard.Choice.{Operand, types_of, AreValues, AreConstant, AreConcrete, parameter_for, parameters_for}
use Rattle.wgsl_standard.proofs.Letters.{only_itself, to_itself, member_alone, member_concrete, member_value}
use Rattle.wgsl_standard.proofs.Parts.{parts_once, parts_again, parts_taken}
use Rattle.wgsl_standard.proofs.Scalars.{Reaches, reaches_rank, rank_reaches, reaches_depth}
use Rattle.wgsl_standard.proofs.Boxes.{Fit, AllFit}

-- what a conversion between flat types is
record IsFlat (o p : Dimensions) (s g : Scalar) (w : ℕ) : Type 0 where
  dimensions : p ≡ o
  reaches : Reaches s g
  deep : scalar_depth g ≡ scalar_depth s + w

flat_inside : (o p : Dimensions) (s g : Scalar) (w : ℕ) → p ≡ o → Converts (scalar s) (scalar g) w → IsFlat o p s g w
flat_inside o p s g w e h = record { dimensions = e; reaches = rank_reaches s g w h; deep = reaches_depth s g w h }

flat : (o p : Dimensions) (s g : Scalar) (w : ℕ) → Converts (type_with o s) (type_with p g) w → IsFlat o p s g w
flat Single Single s g w h = flat_inside Single Single s g w refl h
flat Single (Vector n) s g w h = let k = converts_from_scalar s (within (vec_of n) (scalar g)) w h in absurd (cc (k.1))
flat Single (Matrix c r) s g w h = let k = converts_from_scalar s (within (mat_of c r) (scalar g)) w h in absurd (cc (k.1))
flat (Vector n) Single s g w h = let k = converts_from_within (vec_of n) (scalar s) (scalar g) w h in absurd (cc (k.1))
flat (Matrix c r) Single s g w h = let k = converts_from_within (mat_of c r) (scalar s) (scalar g) w h in absurd (cc (k.1))
flat (Vector n) (Vector m) s g w h =
    let k = (converts_within (vec_of n) (vec_of m) (scalar s) (scalar g) w).0 h in
    flat_inside (Vector n) (Vector m) s g w (cc (k.0)) k.1
flat (Vector n) (Matrix c r) s g w h =
    let k = (converts_within (vec_of n) (mat_of c r) (scalar s) (scalar g) w).0 h in absurd (cc (k.0))
flat (Matrix c r) (Vector n) s g w h =
    let k = (converts_within (mat_of c r) (vec_of n) (scalar s) (scalar g) w).0 h in absurd (cc (k.0))
flat (Matrix c r) (Matrix d q) s g w h =
    let k = (converts_within (mat_of c r) (mat_of d q) (scalar s) (scalar g) w).0 h in
    flat_inside (Matrix c r) (Matrix d q) s g w (cc (k.0)) k.1

type_with_converts : (o : Dimensions) (s g : Scalar) (w : ℕ) → Converts (scalar s) (scalar g) w → Converts (type_with o s) (type_with o g) w
type_with_converts Single s g w h = h
type_with_converts (Vector n) s g w h = converts_inside (vec_of n) (scalar s) (scalar g) w h
type_with_converts (Matrix c r) s g w h = converts_inside (mat_of c r) (scalar s) (scalar g) w h

pub depth_type_with : (o : Dimensions) (s : Scalar) → depth (type_with o s) ≡ scalar_depth s
depth_type_with Single s = refl
depth_type_with o s = refl

-- a type may be taken where parameters must be concrete, if it is concrete

may_concrete : (s : Scalar) → IsTrue (may_be true s) → ¬ IsAbstract (scalar s)
may_concrete AbstractInt h = λ a. cc
may_concrete s h = λ a. cc

concrete_may : (s : Scalar) → (¬ IsAbstract (scalar s)) → IsTrue (may_be true s)
concrete_may AbstractInt h = absurd (h refl)
concrete_may AbstractFloat h = absurd (h refl)
concrete_may s h = refl

type_with_concrete : (o : Dimensions) (s : Scalar) → IsTrue (may_be true s) → ¬ IsAbstract (type_with o s)
type_with_concrete Single s h = may_concrete s h
type_with_concrete o s h = may_concrete s h

concrete_type_with : (o : Dimensions) (s : Scalar) → (¬ IsAbstract (type_with o s)) → IsTrue (may_be true s)
concrete_type_with Single s h = concrete_may s h
concrete_type_with o s h = concrete_may s h

-- the parameters are concrete, or need not be
abbrev pub AreTakable : Bool → List WgslType → Type 0
AreTakable true us = AreConcrete us
AreTakable false us = Unit {0}

takable_head : (c : Bool) (u : WgslType) (us : List WgslType) (o : Dimensions) (s : Scalar) → u ≡ type_with o s → AreTakable c (u ∷ us) → IsTrue (may_be c s)
takable_head true u us o s e h = concrete_type_with o s (λ a. h.0 (subst IsAbstract (sym e) a))
takable_head false u us o s e h = refl

takable_tail : (c : Bool) (u : WgslType) (us : List WgslType) → AreTakable c (u ∷ us) → AreTakable c us
takable_tail true u us h = h.1
takable_tail false u us h = tt

takable_cons : (c : Bool) (o : Dimensions) (s : Scalar) (us : List WgslType) → IsTrue (may_be c s) → AreTakable c us → AreTakable c (type_with o s ∷ us)
takable_cons true o s us h k = (type_with_concrete o s h, k)
takable_cons false o s us h k = tt

concrete_cons : (c : Bool) (u : WgslType) (us : List WgslType) → (¬ IsAbstract u) → AreTakable c us → AreTakable c (u ∷ us)
concrete_cons true u us h k = (h, k)
concrete_cons false u us h k = tt

-- an operand fits a parameter exactly if it converts to it

converts_value : (c : Bool) (o : Dimensions) (e : Scalar) (t : WgslType) (w : ℕ) → IsValueType t → Converts t (type_with o e) w →
    (s : Scalar) × (parts_of t ≡ Some (o, s)) × Reaches s e
converts_value c o e t w v h =
    let k = parts_taken t o e w v h in
    let q = subst (λ t. Converts t (type_with o e) w) k.2 h in
    let f = flat k.0 o k.1 e w q in
    (k.1, ap parts_of k.2 ∙ (parts_once k.0 k.1 ∙ ap (λ d. Some (d, k.1)) (sym f.dimensions)), f.reaches)

converts_fits : (c : Bool) (i : Substitution) (p : Pattern) (u : WgslType) (us : List WgslType) (x : Operand) (w : ℕ) → IsValueType x.of_type → IsParameter i p u →
    Converts x.of_type u w → AreTakable c (u ∷ us) → Fit c i p x
converts_fits c i (patterns.Value s e) u us x w v m h k =
    let q = converts_value c (dimensions_in i s) (component_in i e) x.of_type w v (subst (λ u. Converts x.of_type u w) m h) in
    record { scalar = q.0; parts = q.1; receives = (q.2, takable_head c u us (dimensions_in i s) (component_in i e) m k) }
converts_fits c i (patterns.Sampler s) u us x w v m h k = only_itself x.of_type (sampler s) w v tt (subst (λ u. Converts x.of_type u w) m h)
converts_fits c i (patterns.Texture t) u us x w v m h k = only_itself x.of_type (texture t) w v tt (subst (λ u. Converts x.of_type u w) m h)
converts_fits c i (patterns.Resource r) u us x w v m h k =
    let e = only_itself x.of_type u w v (member_alone r u i.t m) h in
    subst (λ t. Names (letter_of r t) i.t) (sym e) m

pub ranks_fit : (c : Bool) (i : Substitution) (ps : List Pattern) (us : List WgslType) (xs : List Operand) (ws : List ℕ) → AreParameters i ps us → AreValues xs →
    HasRanks (types_of xs) us ws → AreTakable c us → AllFit c i ps xs
ranks_fit c i [] [] [] ws m v h k = tt
ranks_fit c i (p ∷ ps) (u ∷ us) (x ∷ xs) (w ∷ ws) m v h k =
    (converts_fits c i p u us x w v.0 m.0 h.0 k, ranks_fit c i ps us xs ws m.1 v.1 h.1 (takable_tail c u us k))
ranks_fit c i [] [] xs ws m v h k = absurd h
ranks_fit c i (p ∷ ps) (u ∷ us) xs ws m v h k = absurd h
ranks_fit c i ps us xs ws m v h k = absurd m

-- the parameters are then those for the operands

parameter_is : (i : Substitution) (p : Pattern) (u : WgslType) (x : Operand) (w : ℕ) → IsValueType x.of_type → IsParameter i p u → Converts x.of_type u w → u ≡ parameter_for i p x.of_type
parameter_is i (patterns.Resource r) u x w v m h = sym (only_itself x.of_type u w v (member_alone r u i.t m) h)
parameter_is i p u x w v m h = m

pub parameters_are : (i : Substitution) (ps : List Pattern) (us : List WgslType) (xs : List Operand) (ws : List ℕ) → AreParameters i ps us → AreValues xs →
    HasRanks (types_of xs) us ws → us ≡ parameters_for i ps xs
parameters_are i [] [] xs ws m v h = refl
parameters_are i (p ∷ ps) (u ∷ us) (x ∷ xs) (w ∷ ws) m v h =
    let a = parameter_is i p u x w v.0 m.0 h.0 in
    let b = parameters_are i ps us xs ws m.1 v.1 h.1 in
    cc (a, b)
parameters_are i (p ∷ ps) (u ∷ us) xs ws m v h = absurd h
parameters_are i ps us xs ws m v h = absurd m

-- what fits converts

fit_parameter : (c : Bool) (i : Substitution) (p : Pattern) (x : Operand) → Fit c i p x → IsParameter i p (parameter_for i p x.of_type)
fit_parameter c i (patterns.Resource r) x f = f
fit_parameter c i p x f = refl

fit_converts : (c : Bool) (i : Substitution) (p : Pattern) (x : Operand) → Fit c i p x → (w : ℕ) × Converts x.of_type (parameter_for i p x.of_type) w
fit_converts c i (patterns.Value s e) x f =
    let r = reaches_rank f.scalar (component_in i e) f.receives.0 in
    let m = type_with_converts (dimensions_in i s) f.scalar (component_in i e) r.0 r.1 in
    let q = parts_again x.of_type (dimensions_in i s) f.scalar f.parts in
    (r.0, subst (λ t. Converts t (type_with (dimensions_in i s) (component_in i e)) r.0) (sym q) m)
fit_converts c i (patterns.Sampler s) x f = (0, to_itself x.of_type (sampler s) tt f)
fit_converts c i (patterns.Texture t) x f = (0, to_itself x.of_type (texture t) tt f)
fit_converts c i (patterns.Resource r) x f = (0, to_itself x.of_type x.of_type (member_alone r x.of_type i.t f) refl)

fit_takable : (c : Bool) (i : Substitution) (p : Pattern) (x : Operand) (us : List WgslType) → Fit c i p x → AreTakable c us → AreTakable c (parameter_for i p x.of_type ∷ us)
fit_takable c i (patterns.Value s e) x us f k = takable_cons c (dimensions_in i s) (component_in i e) us f.receives.1 k
fit_takable c i (patterns.Sampler s) x us f k = concrete_cons c (sampler s) us (λ a. true≢false (sym a)) k
fit_takable c i (patterns.Texture t) x us f k = concrete_cons c (texture t) us (λ a. true≢false (sym a)) k
fit_takable c i (patterns.Resource r) x us f k = concrete_cons c x.of_type us (member_concrete r x.of_type i.t f) k

-- the parameters for operands that fit
pub record ForOperands (c : Bool) (i : Substitution) (ps : List Pattern) (xs : List Operand) : Type 0 where
  pub parameters : AreParameters i ps (parameters_for i ps xs)
  pub ranks : List ℕ
  pub converts : HasRanks (types_of xs) (parameters_for i ps xs) ranks
  pub takable : AreTakable c (parameters_for i ps xs)

no_operands : (c : Bool) (i : Substitution) → ForOperands c i [] []
no_operands true i = record { parameters = tt; ranks = []; converts = tt; takable = tt }
no_operands false i = record { parameters = tt; ranks = []; converts = tt; takable = tt }

pub fit_ranks : (c : Bool) (i : Substitution) (ps : List Pattern) (xs : List Operand) → AllFit c i ps xs → ForOperands c i ps xs
fit_ranks c i [] [] h = no_operands c i
fit_ranks c i (p ∷ ps) (x ∷ xs) h =
    let k = fit_ranks c i ps xs h.1 in
    let r = fit_converts c i p x h.0 in
    record {
      parameters = (fit_parameter c i p x h.0, k.parameters);
      ranks = r.0 ∷ k.ranks;
      converts = (r.1, k.converts);
      takable = fit_takable c i p x (parameters_for i ps xs) h.0 k.takable;
    }
fit_ranks c i ps xs h = absurd h

is_value : (o : Dimensions) (s : Scalar) → IsValueType (type_with o s)
is_value Single s = tt
is_value o s = tt

fit_value : (c : Bool) (i : Substitution) (p : Pattern) (x : Operand) → Fit c i p x → IsValueType x.of_type
fit_value c i (patterns.Value s e) x f = subst IsValueType (sym (parts_again x.of_type (dimensions_in i s) f.scalar f.parts)) (is_value (dimensions_in i s) f.scalar)
fit_value c i (patterns.Sampler s) x f = subst IsValueType (sym f) tt
fit_value c i (patterns.Texture t) x f = subst IsValueType (sym f) tt
fit_value c i (patterns.Resource r) x f = member_value r x.of_type i.t f

pub fit_values : (c : Bool) (i : Substitution) (ps : List Pattern) (xs : List Operand) → AllFit c i ps xs → AreValues xs
fit_values c i [] [] h = tt
fit_values c i (p ∷ ps) (x ∷ xs) h = (fit_value c i p x h.0, fit_values c i ps xs h.1)
fit_values c i ps xs h = absurd h

-- parameters must be concrete exactly if an operand isn't a const-expression

all_constant : (xs : List Operand) → AreConstant xs → must_be_concrete xs ≡ false
all_constant [] h = refl
all_constant (x ∷ xs) h = rw h.0 (all_constant xs h.1)

constants : (xs : List Operand) → must_be_concrete xs ≡ false → AreConstant xs
constants [] h = tt
constants (x ∷ xs) h = turn x.is_constant refl h (constants xs)
  where
    turn : (y : Bool) → x.is_constant ≡ y → cond y (must_be_concrete xs) true ≡ false → (must_be_concrete xs ≡ false → AreConstant xs) → AreConstant (x ∷ xs)
    turn true e h f = (e, f h)
    turn false e h f = absurd (true≢false h)

pub constant_takable : (xs : List Operand) (us : List WgslType) → (AreConstant xs ⊎ AreConcrete us) → AreTakable (must_be_concrete xs) us
constant_takable xs us (inl h) = subst (λ c. AreTakable c us) (sym (all_constant xs h)) tt
constant_takable xs us (inr h) = either_way (must_be_concrete xs)
  where
    either_way : (c : Bool) → AreTakable c us
    either_way true = h
    either_way false = tt

pub takable_constant : (xs : List Operand) (us : List WgslType) → AreTakable (must_be_concrete xs) us → AreConstant xs ⊎ AreConcrete us
takable_constant xs us h = turn (must_be_concrete xs) refl h
  where
    turn : (c : Bool) → must_be_concrete xs ≡ c → AreTakable c us → AreConstant xs ⊎ AreConcrete us
    turn true e h = inr h
    turn false e h = inl (constants xs e)

-- ranks compare as depths do, since each is the depth of the parameter less that of the operand

pub ranks_below : (us vs : List WgslType) (xs : List Operand) (ms ws : List ℕ) → AreValues xs → HasRanks (types_of xs) us ms → HasRanks (types_of xs) vs ws →
    IsNowhereMore (map depth us) (map depth vs) → IsNowhereMore ms ws
ranks_below [] [] [] [] [] d h k m = tt
ranks_below (u ∷ us) (v ∷ vs) (x ∷ xs) (n ∷ ms) (w ∷ ws) d h k m =
    (omega (arith, (value_converts d.0 h.0).1, (value_converts d.0 k.0).1, m.0), ranks_below us vs xs ms ws d.1 h.1 k.1 m.1)
ranks_below [] vs [] [] ws d h k m = absurd k
ranks_below (u ∷ us) vs (x ∷ xs) (n ∷ ms) ws d h k m = absurd k
ranks_below us vs xs ms ws d h k m = absurd h

pub ranks_less : (us vs : List WgslType) (xs : List Operand) (ms ws : List ℕ) → AreValues xs → HasRanks (types_of xs) us ms → HasRanks (types_of xs) vs ws →
    IsSomewhereLess (map depth us) (map depth vs) → IsSomewhereLess ms ws
ranks_less (u ∷ us) (v ∷ vs) (x ∷ xs) (n ∷ ms) (w ∷ ws) d h k (inl m) =
    inl (omega (arith, (value_converts d.0 h.0).1, (value_converts d.0 k.0).1, m))
ranks_less (u ∷ us) (v ∷ vs) (x ∷ xs) (n ∷ ms) (w ∷ ws) d h k (inr m) = inr (ranks_less us vs xs ms ws d.1 h.1 k.1 m)
ranks_less (u ∷ us) (v ∷ vs) (x ∷ xs) (n ∷ ms) [] d h k m = absurd k
ranks_less (u ∷ us) (v ∷ vs) xs ms ws d h k m = absurd h
ranks_less us vs xs ms ws d h k m = absurd m
