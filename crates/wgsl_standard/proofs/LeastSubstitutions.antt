-- The substitution that is found: it takes the operands, and no other that takes them has a lower scalar anywhere.
use Rattle.std.proofs.Common.{◌≡◌, ℕ, ◌<◌, ◌⊎◌, List, [], ◌∷◌, Option, Some, None, Bool, true, false, cond, refl, sym, ◌∙◌, subst, inl, inr, true≢false, IsTrue, option_map, option_and_then}
use Rattle.wgsl_standard.proofs.Common.{Scalar, Bool as BoolScalar, scalar_depth, Kind, Component, Pattern, Overload, Operand, Substitution, Binding, component_in, patterns_of, kinds_of, IsSubstitution, is_of_kind}
use Rattle.wgsl_syntax.specs.declared.overload.Component.TheVariants.{T, U, V, W, The}
use Rattle.wgsl_syntax.specs.declared.overload.Pattern.TheVariants as patterns
use Rattle.wgsl_standard.specs.internal.Binding.{may_be, bind_all, free, targets, is_bound, first_of_kind, pick, or_zero, or_none, substitution_at, settle, substitution_of}
use Rattle.wgsl_standard.proofs.Scalars.{Member, IsPicked, find, has, picked}
use Rattle.wgsl_standard.proofs.Boxes.{Meets, Same, Agrees, Boxes, AllFit, all_boxes}
use Rattle.wgsl_standard.proofs.BoundLetters.{Binds, BindsFor, BindsAll, binding_binds}

-- a letter of which nothing is required

abbrev IsSome : Kind → List Scalar → Option Scalar → Type 0
IsSome k ss (Some s) = IsTrue (is_of_kind k s)
IsSome k ss None = (g : Scalar) → IsTrue (is_of_kind k g) → Member g ss → ⊥

some_step : (k : Kind) (s : Scalar) (ss : List Scalar) → IsSome k ss (first_of_kind false k ss) → IsSome k (s ∷ ss) (first_of_kind false k (s ∷ ss))
some_step k s ss f = turn (is_of_kind k s) refl
  where
    rest : (x : Option Scalar) → IsSome k ss x → (¬ IsTrue (is_of_kind k s)) → IsSome k (s ∷ ss) x
    rest (Some x) f n = f
    rest None f n = λ g h m. elim m [
      | inl e ↦ n (subst (λ g. IsTrue (is_of_kind k g)) e h)
      | inr m ↦ f g h m
    ]

    turn : (x : Bool) → is_of_kind k s ≡ x → IsSome k (s ∷ ss) (cond x (cond (may_be false s) (Some s) (first_of_kind false k ss)) (first_of_kind false k ss))
    turn true e = e
    turn false e = rest (first_of_kind false k ss) f (λ h. true≢false (sym h ∙ e))

some_found : (k : Kind) (ss : List Scalar) → IsSome k ss (first_of_kind false k ss)
some_found k [] = λ g h m. m
some_found k (s ∷ ss) = some_step k s ss (some_found k ss)

each_listed : (g : Scalar) → Member g (targets None)
each_listed g = find g (targets None) (test g)
  where
    test : (g : Scalar) → IsTrue (has g (targets None))
    test BoolScalar = refl
    test g = refl

-- what a letter stands for in the end
record IsLetter (c : Bool) (k : Kind) (l : Option Scalar) (s : Scalar) : Type 0 where
  kind : IsTrue (is_of_kind k s)
  meets : Meets c l s
  least : IsTrue (is_bound l) → (g : Scalar) → IsTrue (is_of_kind k g) → Meets c l g → (g ≡ s) ⊎ (scalar_depth s < scalar_depth g)

abbrev LetterOr : Bool → Kind → Option Scalar → Option Scalar → Type 0
LetterOr c k l (Some s) = IsLetter c k l s
LetterOr c k l None = (g : Scalar) → IsTrue (is_of_kind k g) → Meets c l g → ⊥

letter : (c : Bool) (k : Kind) (l : Option Scalar) → LetterOr c k l (pick c k l)
letter c k None = turn (first_of_kind false k (targets None)) (some_found k (targets None))
  where
    turn : (x : Option Scalar) → IsSome k (targets None) x → LetterOr c k None x
    turn (Some s) f = record { kind = f; meets = tt; least = λ b. absurd (true≢false (sym b)) }
    turn None f = λ g h m. f g h (each_listed g)
letter c k (Some a) = turn (pick c k (Some a)) (picked c k a)
  where
    turn : (x : Option Scalar) → IsPicked c k a x → LetterOr c k (Some a) x
    turn (Some s) f = record { kind = f.kind; meets = (f.taken, f.may); least = λ b g h m. f.least g h m.1 m.0 }
    turn None f = λ g h m. f g h m.1 m.0

-- no lower, and where it isn't the same lower
abbrev pub IsNear : Substitution → Substitution → Component → Type 0
IsNear i j p = (component_in j p ≡ component_in i p) ⊎ (scalar_depth (component_in i p) < scalar_depth (component_in j p))

abbrev pub IsNearFor : Substitution → Substitution → Pattern → Type 0
IsNearFor i j (patterns.Value s e) = IsNear i j e
IsNearFor i j p = Unit {0}

abbrev pub AllNear : Substitution → Substitution → List Pattern → Type 0
AllNear i j [] = Unit {0}
AllNear i j (p ∷ ps) = IsNearFor i j p × AllNear i j ps

-- the substitution that is found, or none that takes the operands
pub record IsLeastSubstitution (c : Bool) (o : Overload) (ps : List Pattern) (xs : List Operand) (i : Substitution) : Type 0 where
  pub admitted : IsSubstitution o i
  pub fits : AllFit c i ps xs
  pub least : (j : Substitution) → IsSubstitution o j → AllFit c j ps xs → AllNear i j ps

abbrev pub LeastOr : Bool → Overload → List Pattern → List Operand → Option Substitution → Type 0
LeastOr c o ps xs (Some i) = IsLeastSubstitution c o ps xs i
LeastOr c o ps xs None = (j : Substitution) → IsSubstitution o j → AllFit c j ps xs → ⊥

free_agrees : (c : Bool) (i : Substitution) → Agrees c free i
free_agrees c i = record { t = tt; u = tt; v = tt; w = tt; width = tt; n = tt; m = tt; k = tt }

same_or_zero : (l : Option ℕ) → Same l (or_zero l)
same_or_zero None = tt
same_or_zero (Some n) = refl

same_or_none : (l : Option (Option ℕ)) → Same l (or_none l)
same_or_none None = tt
same_or_none (Some n) = refl

-- what the letters of a binding stand for
record AreLetters (c : Bool) (o : Overload) (b : Binding) (t u v w : Scalar) : Type 0 where
  for_t : IsLetter c (kinds_of o).0 b.t t
  for_u : IsLetter c (kinds_of o).1 b.u u
  for_v : IsLetter c (kinds_of o).2 b.v v
  for_w : IsLetter c (kinds_of o).3 b.w w

near : (c : Bool) (o : Overload) (b : Binding) (t u v w : Scalar) → AreLetters c o b t u v w → (j : Substitution) → IsSubstitution o j → Agrees c b j →
    (p : Component) → Binds b p → IsNear (substitution_at b t u v w) j p
near c o b t u v w f j a q T h = f.for_t.least h j.t a.t q.t
near c o b t u v w f j a q U h = f.for_u.least h j.u a.u q.u
near c o b t u v w f j a q V h = f.for_v.least h j.v a.v q.v
near c o b t u v w f j a q W h = f.for_w.least h j.w a.w q.w
near c o b t u v w f j a q (The s) h = inl refl

near_for : (c : Bool) (o : Overload) (b : Binding) (t u v w : Scalar) → AreLetters c o b t u v w → (j : Substitution) → IsSubstitution o j → Agrees c b j →
    (p : Pattern) → BindsFor p b → IsNearFor (substitution_at b t u v w) j p
near_for c o b t u v w f j a q (patterns.Value s e) h = near c o b t u v w f j a q e h
near_for c o b t u v w f j a q p h = tt

all_near : (c : Bool) (o : Overload) (b : Binding) (t u v w : Scalar) → AreLetters c o b t u v w → (j : Substitution) → IsSubstitution o j → Agrees c b j →
    (ps : List Pattern) → BindsAll ps b → AllNear (substitution_at b t u v w) j ps
all_near c o b t u v w f j a q [] h = tt
all_near c o b t u v w f j a q (p ∷ ps) h = (near_for c o b t u v w f j a q p h.0, all_near c o b t u v w f j a q ps h.1)

abbrev IsBox : Bool → Binding → List Pattern → List Operand → Type 0
IsBox c b ps xs = (i : Substitution) → (Agrees c free i × AllFit c i ps xs → Agrees c b i) × (Agrees c b i → Agrees c free i × AllFit c i ps xs)

settled : (c : Bool) (o : Overload) (ps : List Pattern) (xs : List Operand) (b : Binding) → IsBox c b ps xs → BindsAll ps b → LeastOr c o ps xs (settle c o b)
settled c o ps xs b f h = at_t (pick c (kinds_of o).0 b.t) (letter c (kinds_of o).0 b.t)
  where
    at_all : (t u v w : Scalar) → AreLetters c o b t u v w → IsLeastSubstitution c o ps xs (substitution_at b t u v w)
    at_all t u v w k = record {
      admitted = record { t = k.for_t.kind; u = k.for_u.kind; v = k.for_v.kind; w = k.for_w.kind };
      fits = ((f (substitution_at b t u v w)).1 (record {
        t = k.for_t.meets;
        u = k.for_u.meets;
        v = k.for_v.meets;
        w = k.for_w.meets;
        width = same_or_none b.width;
        n = same_or_zero b.n;
        m = same_or_zero b.m;
        k = same_or_zero b.k;
      })).1;
      least = λ j a q. all_near c o b t u v w k j a ((f j).0 (free_agrees c j, q)) ps h;
    }

    at_w : (t u v : Scalar) → IsLetter c (kinds_of o).0 b.t t → IsLetter c (kinds_of o).1 b.u u → IsLetter c (kinds_of o).2 b.v v → (x : Option Scalar) → LetterOr c (kinds_of o).3 b.w x →
        LeastOr c o ps xs (option_map (substitution_at b t u v) x)
    at_w t u v k m n None g = λ j a q. g j.w a.w ((f j).0 (free_agrees c j, q)).w
    at_w t u v k m n (Some w) g = at_all t u v w (record { for_t = k; for_u = m; for_v = n; for_w = g })

    at_v : (t u : Scalar) → IsLetter c (kinds_of o).0 b.t t → IsLetter c (kinds_of o).1 b.u u → (x : Option Scalar) → LetterOr c (kinds_of o).2 b.v x →
        LeastOr c o ps xs (option_and_then (λ v. option_map (substitution_at b t u v) (pick c (kinds_of o).3 b.w)) x)
    at_v t u k m None g = λ j a q. g j.v a.v ((f j).0 (free_agrees c j, q)).v
    at_v t u k m (Some v) g = at_w t u v k m g (pick c (kinds_of o).3 b.w) (letter c (kinds_of o).3 b.w)

    at_u : (t : Scalar) → IsLetter c (kinds_of o).0 b.t t → (x : Option Scalar) → LetterOr c (kinds_of o).1 b.u x →
        LeastOr c o ps xs (option_and_then (λ u. option_and_then (λ v. option_map (substitution_at b t u v) (pick c (kinds_of o).3 b.w)) (pick c (kinds_of o).2 b.v)) x)
    at_u t k None g = λ j a q. g j.u a.u ((f j).0 (free_agrees c j, q)).u
    at_u t k (Some u) g = at_v t u k g (pick c (kinds_of o).2 b.v) (letter c (kinds_of o).2 b.v)

    at_t : (x : Option Scalar) → LetterOr c (kinds_of o).0 b.t x →
        LeastOr c o ps xs (option_and_then (λ t. option_and_then (λ u. option_and_then (λ v. option_map (substitution_at b t u v) (pick c (kinds_of o).3 b.w)) (pick c (kinds_of o).2 b.v)) (pick c (kinds_of o).1 b.u)) x)
    at_t None g = λ j a q. g j.t a.t ((f j).0 (free_agrees c j, q)).t
    at_t (Some t) g = at_u t g (pick c (kinds_of o).1 b.u) (letter c (kinds_of o).1 b.u)

pub least_among : (c : Bool) (o : Overload) (ps : List Pattern) (xs : List Operand) → LeastOr c o ps xs (option_and_then (settle c o) (bind_all c free ps xs))
least_among c o ps xs = turn (bind_all c free ps xs) refl (all_boxes c free ps xs)
  where
    turn : (r : Option Binding) → bind_all c free ps xs ≡ r → Boxes c (λ i. Agrees c free i × AllFit c i ps xs) r →
        LeastOr c o ps xs (option_and_then (settle c o) r)
    turn None e f = λ j a q. f j (free_agrees c j, q)
    turn (Some b) e f = settled c o ps xs b (λ i. ((f i).0, (f i).1)) (binding_binds c free b ps xs e)

pub least_substitution : (c : Bool) (o : Overload) (xs : List Operand) → LeastOr c o (patterns_of o) xs (substitution_of c o xs)
least_substitution c o xs = least_among c o (patterns_of o) xs
