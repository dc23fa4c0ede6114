-- Conversion of scalars, and the least of a kind.
use Rattle.std.proofs.Common.{◌≡◌, ℕ, ◌+◌, ◌<◌, ◌⊎◌, ◌↔◌, List, [], ◌∷◌, Option, Some, None, Bool, true, false, cond, refl, sym, ◌∙◌, ap, subst, inl, inr, arith, true≢false, IsTrue, is_some, ◌&&◌}
use Rattle.wgsl_standard.proofs.Common.{list_any, and_parts, or_cases, Scalar, Bool as BoolScalar, AbstractInt, AbstractFloat, I32, U32, F32, F16, I64, U64, scalar, Converts, scalar_depth, Above, above_antisym, above_trans, above_chain, above_converts, value_converts, scalar_rank, converts_scalar, Kind, is_of_kind, converts, may_be, join, targets, first_of_kind, first_target, pick}

-- as in the table of ranks
pub by_rank : (a b : Scalar) → converts a b ≡ is_some (scalar_rank a b)
by_rank BoolScalar BoolScalar = refl
by_rank a BoolScalar = refl
by_rank a b = refl

-- a rank tells whether a scalar converts
pub ranked : (a b : Scalar) (r : Option ℕ) → ((w : ℕ) → (r ≡ Some w) ↔ Converts (scalar a) (scalar b) w) → is_some r ≡ converts a b
ranked a b r h = same r (scalar_rank a b) (λ w. (λ e. (converts_scalar a b w).0 ((h w).0 e), λ e. (h w).1 ((converts_scalar a b w).1 e))) ∙ sym (by_rank a b)
  where
    same : (r s : Option ℕ) → ((w : ℕ) → (r ≡ Some w) ↔ (s ≡ Some w)) → is_some r ≡ is_some s
    same None None h = refl
    same (Some v) (Some w) h = refl
    same None (Some w) h = absurd (cc ((h w).1 refl))
    same (Some v) None h = absurd (cc ((h v).0 refl))

-- a scalar itself comes first
pub itself : (c : Bool) (k : Kind) (a : Scalar) → IsTrue (is_of_kind k a) → IsTrue (may_be c a) → pick c k (Some a) ≡ Some a
itself c k a i m = at a (λ ss. rw (i, m) refl)
  where
    at : (a : Scalar) → ((ss : List Scalar) → first_of_kind c k (a ∷ ss) ≡ Some a) → pick c k (Some a) ≡ Some a
    at AbstractInt h = h (I32 ∷ U32 ∷ AbstractFloat ∷ F32 ∷ F16 ∷ I64 ∷ U64 ∷ [])
    at AbstractFloat h = h (F32 ∷ F16 ∷ [])
    at s h = h []

-- of all scalars to which the scalar converts, the first is picked
pub first_of_all : (c : Bool) (k : Kind) (a : Scalar) → first_target c k a (targets None) ≡ pick c k (Some a)
first_of_all c k AbstractInt = refl
first_of_all c k a = refl

abbrev pub Reaches : Scalar → Scalar → Type 0
Reaches a b = IsTrue (converts a b)

some_of : (r : Option ℕ) → IsTrue (is_some r) → (w : ℕ) × (r ≡ Some w)
some_of None h = absurd (true≢false (sym h))
some_of (Some w) h = (w, refl)

pub reaches_rank : (a b : Scalar) → Reaches a b → (w : ℕ) × Converts (scalar a) (scalar b) w
reaches_rank a b h = let k = some_of (scalar_rank a b) (sym (by_rank a b) ∙ h) in (k.0, (converts_scalar a b k.0).1 k.1)

pub rank_reaches : (a b : Scalar) (w : ℕ) → Converts (scalar a) (scalar b) w → Reaches a b
rank_reaches a b w h = by_rank a b ∙ ap is_some ((converts_scalar a b w).0 h)

pub reaches_above : (a b : Scalar) → Reaches a b → Above (scalar a) (scalar b)
reaches_above a b h = (value_converts {t = scalar a} tt (reaches_rank a b h).1).0

pub above_reaches : (a b : Scalar) → Above (scalar a) (scalar b) → Reaches a b
above_reaches a b h = let k = above_converts h in rank_reaches a b k.0 k.1

pub reaches_depth : (a b : Scalar) (w : ℕ) → Converts (scalar a) (scalar b) w → scalar_depth b ≡ scalar_depth a + w
reaches_depth a b w h = (value_converts {t = scalar a} tt h).1

pub reaches_trans : (a b c : Scalar) → Reaches a b → Reaches b c → Reaches a c
reaches_trans a b c h k = above_reaches a c (above_trans (reaches_above a b h) (reaches_above b c k))

-- the scalars to which both convert are those to which the join does
abbrev pub JoinsTo : Scalar → Scalar → Option Scalar → Type 0
JoinsTo a b (Some j) = (g : Scalar) → (Reaches a g × Reaches b g) ↔ Reaches j g
JoinsTo a b None = (g : Scalar) → Reaches a g → Reaches b g → ⊥

pub joins : (a b : Scalar) → JoinsTo a b (join a b)
joins a b = first (converts a b) refl
  where
    second : (x : Bool) → converts b a ≡ x → converts a b ≡ false → JoinsTo a b (cond x (Some a) None)
    second true e n = λ g. (λ h. h.0, λ h. (h, reaches_trans b a g e h))
    second false e n = λ g h k. elim (above_chain (reaches_above a g h) (reaches_above b g k)) [
      | inl p ↦ true≢false (sym (above_reaches a b p) ∙ n)
      | inr p ↦ true≢false (sym (above_reaches b a p) ∙ e)
    ]

    first : (x : Bool) → converts a b ≡ x → JoinsTo a b (cond x (Some b) (cond (converts b a) (Some a) None))
    first true e = λ g. (λ h. h.1, λ h. (reaches_trans a b g e h, h))
    first false e = second (converts b a) refl e

-- The first of the targets that is of a kind and may be taken is the least.
pub record IsLeastScalar (c : Bool) (k : Kind) (ok : Scalar → Type 0) (s : Scalar) : Type 0 where
  pub kind : IsTrue (is_of_kind k s)
  pub may : IsTrue (may_be c s)
  pub taken : ok s
  pub least : (g : Scalar) → IsTrue (is_of_kind k g) → IsTrue (may_be c g) → ok g → (g ≡ s) ⊎ (scalar_depth s < scalar_depth g)

-- the targets are those to which a scalar converts, by rising depth

abbrev pub Member : Scalar → List Scalar → Type 0
Member g [] = ⊥
Member g (s ∷ ss) = (g ≡ s) ⊎ Member g ss

-- A member is found by a test: a scalar is the one to which it converts and that converts to it.

abbrev pub has : Scalar → List Scalar → Bool
has g ss = list_any (λ s. converts s g && converts g s) ss

pub find : (g : Scalar) (ss : List Scalar) → IsTrue (has g ss) → Member g ss
find g [] h = absurd (true≢false (sym h))
find g (s ∷ ss) h = elim (or_cases (converts s g && converts g s) (has g ss) h) [
  | inl k ↦ let both = and_parts (converts s g) (converts g s) k in
      let same = above_antisym (reaches_above g s both.1) (reaches_above s g both.0) in inl (cc same)
  | inr k ↦ inr (find g ss k)
]

target_test : (a g : Scalar) → converts a g ≡ has g (targets (Some a))
target_test BoolScalar BoolScalar = refl
target_test a BoolScalar = refl
target_test a g = refl

pub target_member : (a g : Scalar) → Reaches a g → Member g (targets (Some a))
target_member a g h = find g (targets (Some a)) (sym (target_test a g) ∙ h)

abbrev AllReach : Scalar → List Scalar → Type 0
AllReach a [] = Unit {0}
AllReach a (s ∷ ss) = Reaches a s × AllReach a ss

all_reach : (a : Scalar) → AllReach a (targets (Some a))
all_reach AbstractInt = (refl, (refl, (refl, (refl, (refl, (refl, (refl, (refl, tt))))))))
all_reach AbstractFloat = (refl, (refl, (refl, tt)))
all_reach a = (refl, tt)

member_reaches : (a g : Scalar) (ss : List Scalar) → AllReach a ss → Member g ss → Reaches a g
member_reaches a g [] h m = absurd m
member_reaches a g (s ∷ ss) h (inl e) = subst (Reaches a) (sym e) h.0
member_reaches a g (s ∷ ss) h (inr m) = member_reaches a g ss h.1 m

abbrev Rising : List Scalar → Type 0
Rising [] = Unit {0}
Rising (s ∷ []) = Unit {0}
Rising (s ∷ g ∷ ss) = (scalar_depth s < scalar_depth g) × Rising (g ∷ ss)

rising : (a : Scalar) → Rising (targets (Some a))
rising AbstractInt = (omega arith, (omega arith, (omega arith, (omega arith, (omega arith, (omega arith, (omega arith, tt)))))))
rising AbstractFloat = (omega arith, (omega arith, tt))
rising a = tt

rising_tail : (s : Scalar) (ss : List Scalar) → Rising (s ∷ ss) → Rising ss
rising_tail s [] r = tt
rising_tail s (g ∷ gs) r = r.1

deeper : (s g : Scalar) (ss : List Scalar) → Rising (s ∷ ss) → Member g ss → scalar_depth s < scalar_depth g
deeper s g [] r m = absurd m
deeper s g (x ∷ xs) r (inl e) = subst (λ g. scalar_depth s < scalar_depth g) (sym e) r.0
deeper s g (x ∷ xs) r (inr m) = let d = deeper x g xs r.1 m in omega (arith, d, r.0)

-- the first of a list
abbrev IsFirst : Bool → Kind → List Scalar → Option Scalar → Type 0
IsFirst c k ss (Some s) = IsLeastScalar c k (λ g. Member g ss) s
IsFirst c k ss None = (g : Scalar) → IsTrue (is_of_kind k g) → IsTrue (may_be c g) → Member g ss → ⊥

first_step : (c : Bool) (k : Kind) (s : Scalar) (ss : List Scalar) → Rising (s ∷ ss) → IsFirst c k ss (first_of_kind c k ss) → IsFirst c k (s ∷ ss) (first_of_kind c k (s ∷ ss))
first_step c k s ss r found = by_kind (is_of_kind k s) refl
  where
    rest : ¬ (IsTrue (is_of_kind k s) × IsTrue (may_be c s)) → (x : Option Scalar) → IsFirst c k ss x → IsFirst c k (s ∷ ss) x
    rest n (Some x) f = record {
      kind = f.kind;
      may = f.may;
      taken = inr f.taken;
      least = λ g h m i. elim i [
        | inl e ↦ absurd (n (subst (λ g. IsTrue (is_of_kind k g)) e h, subst (λ g. IsTrue (may_be c g)) e m))
        | inr i ↦ f.least g h m i
      ];
    }
    rest n None f = λ g h m i. elim i [
      | inl e ↦ n (subst (λ g. IsTrue (is_of_kind k g)) e h, subst (λ g. IsTrue (may_be c g)) e m)
      | inr i ↦ f g h m i
    ]

    by_may : (y : Bool) → may_be c s ≡ y → IsTrue (is_of_kind k s) → IsFirst c k (s ∷ ss) (cond y (Some s) (first_of_kind c k ss))
    by_may true e h = record {
      kind = h;
      may = e;
      taken = inl refl;
      least = λ g q m i. elim i [
        | inl e ↦ inl e
        | inr i ↦ inr (deeper s g ss r i)
      ];
    }
    by_may false e h = rest (λ p. true≢false (sym p.1 ∙ e)) (first_of_kind c k ss) found

    by_kind : (x : Bool) → is_of_kind k s ≡ x → IsFirst c k (s ∷ ss) (cond x (cond (may_be c s) (Some s) (first_of_kind c k ss)) (first_of_kind c k ss))
    by_kind true e = by_may (may_be c s) refl e
    by_kind false e = rest (λ p. true≢false (sym p.0 ∙ e)) (first_of_kind c k ss) found

first_found : (c : Bool) (k : Kind) (ss : List Scalar) → Rising ss → IsFirst c k ss (first_of_kind c k ss)
first_found c k [] r = λ g h m i. i
first_found c k (s ∷ ss) r = first_step c k s ss r (first_found c k ss (rising_tail s ss r))

-- what a letter stands for, where an operand requires something of it
abbrev pub IsPicked : Bool → Kind → Scalar → Option Scalar → Type 0
IsPicked c k a (Some s) = IsLeastScalar c k (Reaches a) s
IsPicked c k a None = (g : Scalar) → IsTrue (is_of_kind k g) → IsTrue (may_be c g) → Reaches a g → ⊥

pub picked : (c : Bool) (k : Kind) (a : Scalar) → IsPicked c k a (pick c k (Some a))
picked c k a = turn (first_of_kind c k (targets (Some a))) (first_found c k (targets (Some a)) (rising a))
  where
    turn : (x : Option Scalar) → IsFirst c k (targets (Some a)) x → IsPicked c k a x
    turn (Some s) f = record {
      kind = f.kind;
      may = f.may;
      taken = member_reaches a s (targets (Some a)) (all_reach a) f.taken;
      least = λ g h m i. f.least g h m (target_member a g i);
    }
    turn None f = λ g h m i. f g h m (target_member a g i)

-- a concrete scalar converts to itself alone

alone : (a g : Scalar) → Member g (a ∷ []) → a ≡ g
alone a g (inl e) = sym e
alone a g (inr n) = absurd n

pub concrete_reaches : (a g : Scalar) → IsTrue (may_be true a) → Reaches a g → a ≡ g
concrete_reaches AbstractInt g m h = absurd (true≢false (sym m))
concrete_reaches AbstractFloat g m h = absurd (true≢false (sym m))
concrete_reaches a g m h = alone a g (target_member a g h)

pub reaches_itself : (a : Scalar) → Reaches a a
reaches_itself BoolScalar = refl
reaches_itself a = refl

pub may_either : (c : Bool) (s : Scalar) → IsTrue (may_be true s) → IsTrue (may_be c s)
may_either true s m = m
may_either false s m = refl
