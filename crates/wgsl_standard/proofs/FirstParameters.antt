-- The test `takes_first` says whether the first parameters of an overload take operands.
use Rattle.std.proofs.Common.{◌≡◌, ℕ, ◌+◌, ◌<◌, arith, zero, suc, ◌↔◌, List, [], ◌∷◌, map, length, take, Option, Some, None, Bool, true, false, cond, refl, sym, ◌∙◌, subst, true≢false, IsTrue, option_and_then, slice_get}
use Rattle.wgsl_standard.proofs.Common.{Pattern, Overload, Operand, parameters_for, Substitution, Binding, patterns_of, TakesFirst, SomeTakesFirst, IsRefusedAt, take-map, length-map}
use Rattle.wgsl_standard.specs.internal.Binding.{must_be_concrete, bind, bind_all, bind_first, free, settle, is_substitution, takes_first, some_takes_first}
use Rattle.wgsl_standard.proofs.Ranks.{ranks_fit, fit_ranks, fit_values, constant_takable, takable_constant}
use Rattle.wgsl_standard.proofs.Lengths.{and_then_same}
use Rattle.wgsl_standard.proofs.LeastSubstitutions.{LeastOr, least_among}

first_all : (c : Bool) (b : Binding) (ps : List Pattern) (xs : List Operand) → bind_first c b ps xs ≡ bind_all c b (take (length xs) ps) xs
first_all c b [] [] = refl
first_all c b (p ∷ ps) (x ∷ xs) = and_then_same (λ b. bind_first c b ps xs) (λ b. bind_all c b (take (length xs) ps) xs) (λ b. first_all c b ps xs) (bind c b p x)
first_all c b ps xs = refl

takes_first_so : (o : Overload) (xs : List Operand) (r : Option Substitution) → LeastOr (must_be_concrete xs) o (take (length xs) (patterns_of o)) xs r → IsTrue (is_substitution r) ↔ TakesFirst o xs
takes_first_so o xs None n = (
  λ h. absurd (true≢false (sym h)),
  λ h. absurd (n h.substitution h.admitted (ranks_fit (must_be_concrete xs) h.substitution (take (length xs) (patterns_of o)) h.types xs h.ranks h.parameters h.takes.values h.takes.converts
      (constant_takable xs h.types h.takes.constant))),
)
takes_first_so o xs (Some i) l = (
  λ h. let k = fit_ranks (must_be_concrete xs) i (take (length xs) (patterns_of o)) xs l.fits in
      record {
        substitution = i;
        admitted = l.admitted;
        types = parameters_for i (take (length xs) (patterns_of o)) xs;
        parameters = k.parameters;
        ranks = k.ranks;
        takes = record {
          values = fit_values (must_be_concrete xs) i (take (length xs) (patterns_of o)) xs l.fits;
          converts = k.converts;
          constant = takable_constant xs (parameters_for i (take (length xs) (patterns_of o)) xs) k.takable;
        };
      },
  λ h. refl,
)

pub takes_first_is : (o : Overload) (xs : List Operand) → IsTrue (takes_first o xs) ↔ TakesFirst o xs
takes_first_is o xs = subst (λ r. IsTrue (is_substitution (option_and_then (settle (must_be_concrete xs) o) r)) ↔ TakesFirst o xs)
    (sym (first_all (must_be_concrete xs) free (patterns_of o) xs))
    (takes_first_so o xs (option_and_then (settle (must_be_concrete xs) o) (bind_all (must_be_concrete xs) free (take (length xs) (patterns_of o)) xs))
    (least_among (must_be_concrete xs) o (take (length xs) (patterns_of o)) xs))

some_step : (o : Overload) (os : List Overload) (xs : List Operand) → (IsTrue (some_takes_first os xs) ↔ SomeTakesFirst os xs) → IsTrue (some_takes_first (o ∷ os) xs) ↔ SomeTakesFirst (o ∷ os) xs
some_step o os xs f = turn (takes_first o xs) refl
  where
    at_last : (y : Bool) → takes_first o xs ≡ y → (k : ℕ) (p : Overload) → slice_get (o ∷ os) k ≡ Some p → TakesFirst p xs → IsTrue (cond y true (some_takes_first os xs))
    at_last true e k p q b = refl
    at_last false e zero p q b = let w : o ≡ p = cc q in absurd (true≢false (sym ((takes_first_is o xs).1 (subst (λ p. TakesFirst p xs) (sym w) b)) ∙ e))
    at_last false e (suc k) p q b = f.1 (k, p, q, b)

    turn : (y : Bool) → takes_first o xs ≡ y → IsTrue (cond y true (some_takes_first os xs)) ↔ SomeTakesFirst (o ∷ os) xs
    turn true e = (λ h. (0, o, refl, (takes_first_is o xs).0 e), λ h. refl)
    turn false e = (λ h. let k = f.0 h in (suc k.0, k.1, k.2, k.3), λ h. at_last false e h.0 h.1 h.2 h.3)

pub some_takes_first_is : (os : List Overload) (xs : List Operand) → IsTrue (some_takes_first os xs) ↔ SomeTakesFirst os xs
some_takes_first_is [] xs = (λ h. absurd (true≢false (sym h)), λ h. let e = h.2 in absurd (cc e))
some_takes_first_is (o ∷ os) xs = some_step o os xs (some_takes_first_is os xs)

-- the operand that is refused, among operands that are seen by a function

pub refused_seen : {A : Type 0} (os : List Overload) (f : A → Operand) (xs : List A) (n : ℕ) → n < length xs → (¬ SomeTakesFirst os (map f (take (n + 1) xs))) →
    ((m : ℕ) → m < n → SomeTakesFirst os (map f (take (m + 1) xs))) → IsRefusedAt os (map f xs) (Some n)
refused_seen os f xs n l a b = (
  omega (arith, length-map xs f, l),
  λ k. a (subst (SomeTakesFirst os) (take-map f (n + 1) xs) k),
  λ m h. subst (SomeTakesFirst os) (sym (take-map f (m + 1) xs)) (b m h),
)

pub none_refused_seen : {A : Type 0} (os : List Overload) (f : A → Operand) (xs : List A) → ((m : ℕ) → m < length xs → SomeTakesFirst os (map f (take (m + 1) xs))) →
    IsRefusedAt os (map f xs) None
none_refused_seen os f xs b = λ m h. subst (SomeTakesFirst os) (sym (take-map f (m + 1) xs)) (b m (omega (arith, length-map xs f, h)))
