-- A family of candidates: each operand type is built from one type c. The least candidate of a family is at the least
-- common type of what the operands put for c.
use Rattle.std.proofs.Common.{◌≡◌, ◌≢◌, ℕ, ◌<◌, ◌≤◌, ◌⊎◌, List, [], ◌∷◌, Option, Some, None, All, refl, sym, ◌∙◌, subst, inl, inr, arith, le_refl}
use Rattle.wgsl_rules.proofs.Common.{All-nil, All-cons, ℕ_discrete, Layer, WgslType, within, IsValueType, ConvertsTo, IsLeftCommon, Receives, HasRanks, Takes, IsNowhereMore, IsSomewhereLess}
use Rattle.wgsl_rules.proofs.conversion.Steps.{depth}
use Rattle.wgsl_rules.proofs.conversion.Order.{Above, above_depth, above_level, above_converts, above_trans, above_values, above_inside, above_to_within, value_converts}
use Rattle.wgsl_rules.proofs.conversion.Commons.{value_above, receives_nil, receives_cons, receives_head, receives_tail, values_head, values_tail, some_left_common, left_common_least, left_common_none}

-- an operand type: c itself, a layer of c, or a type of its own
pub data Slot : Type 0 where
  whole : Slot
  inner : Layer → Slot
  fixed : WgslType → Slot

abbrev pub fill : Slot → WgslType → WgslType
fill whole c = c
fill (inner l) c = within l c
fill (fixed t) c = t

abbrev pub fill_all : List Slot → WgslType → List WgslType
fill_all [] c = []
fill_all (s ∷ ss) c = fill s c ∷ fill_all ss c

-- the operands ts put the types es for c
abbrev pub IsPut : List Slot → List WgslType → List WgslType → Type 0
IsPut [] [] es = es ≡ []
IsPut (whole ∷ ss) (t ∷ ts) es = (rest : List WgslType) × (es ≡ t ∷ rest) × IsPut ss ts rest
IsPut (inner l ∷ ss) (t ∷ ts) es = (e : WgslType) × (rest : List WgslType) × (t ≡ within l e) × (es ≡ e ∷ rest) × IsPut ss ts rest
IsPut (fixed u ∷ ss) (t ∷ ts) es = ConvertsTo t u × IsPut ss ts es
IsPut ss ts es = ⊥

-- some slot depends on c
abbrev pub HasOpen : List Slot → Type 0
HasOpen [] = ⊥
HasOpen (fixed t ∷ ss) = HasOpen ss
HasOpen (s ∷ ss) = Unit {0}

-- a member of the family takes ts exactly if the types that they put convert to c

pub record Puts (ss : List Slot) (ts : List WgslType) (c : WgslType) : Type 0 where
  pub types : List WgslType
  pub put : IsPut ss ts types
  pub values : All IsValueType types
  pub received : Receives c types

pub taken_puts : (ss : List Slot) (c : WgslType) (ts : List WgslType) (ws : List ℕ) → All IsValueType ts → HasRanks ts (fill_all ss c) ws → Puts ss ts c
taken_puts [] c [] ws vs h = record { types = []; put = refl; values = All-nil IsValueType; received = receives_nil c }
taken_puts [] c (t ∷ ts) ws vs h = absurd h
taken_puts (s ∷ ss) c [] ws vs h = absurd h
taken_puts (s ∷ ss) c (t ∷ ts) [] vs h = absurd h
taken_puts (whole ∷ ss) c (t ∷ ts) (w ∷ ws) vs h =
    let k = taken_puts ss c ts ws (values_tail t ts vs) h.1 in
    record {
      types = t ∷ k.types;
      put = (k.types, refl, k.put);
      values = All-cons IsValueType t k.types (values_head t ts vs) k.values;
      received = receives_cons c t k.types (w, h.0) k.received;
    }
taken_puts (inner l ∷ ss) c (t ∷ ts) (w ∷ ws) vs h =
    let k = taken_puts ss c ts ws (values_tail t ts vs) h.1 in
    let v = values_head t ts vs in
    let m = above_to_within (value_converts v h.0).0 l c refl in
    record {
      types = m.0 ∷ k.types;
      put = (m.0, k.types, m.1, refl, k.put);
      values = All-cons IsValueType m.0 k.types (subst IsValueType m.1 v) k.values;
      received = receives_cons c m.0 k.types (above_converts m.2) k.received;
    }
taken_puts (fixed u ∷ ss) c (t ∷ ts) (w ∷ ws) vs h =
    let k = taken_puts ss c ts ws (values_tail t ts vs) h.1 in
    record { types = k.types; put = ((w, h.0), k.put); values = k.values; received = k.received }

pub puts_taken : (ss : List Slot) (c : WgslType) (ts es : List WgslType) → IsPut ss ts es → All IsValueType es → Receives c es → Takes (fill_all ss c) ts
puts_taken [] c [] es p vs g = ([], tt)
puts_taken [] c (t ∷ ts) es p vs g = absurd p
puts_taken (whole ∷ ss) c [] es p vs g = absurd p
puts_taken (inner l ∷ ss) c [] es p vs g = absurd p
puts_taken (fixed u ∷ ss) c [] es p vs g = absurd p
puts_taken (whole ∷ ss) c (t ∷ ts) es p vs g =
    let g' = subst (λ es. Receives c es) p.1 g in
    let k = puts_taken ss c ts p.0 p.2 (values_tail t p.0 (subst (λ es. All IsValueType es) p.1 vs)) (receives_tail c t p.0 g') in
    let m = receives_head c t p.0 g' in
    (m.0 ∷ k.0, (m.1, k.1))
puts_taken (inner l ∷ ss) c (t ∷ ts) es p vs g =
    let g' = subst (λ es. Receives c es) p.3 g in
    let vs' = subst (λ es. All IsValueType es) p.3 vs in
    let k = puts_taken ss c ts p.1 p.4 (values_tail p.0 p.1 vs') (receives_tail c p.0 p.1 g') in
    let a = value_above (values_head p.0 p.1 vs') (receives_head c p.0 p.1 g') in
    let m : ConvertsTo t (within l c) = subst (λ t. ConvertsTo t (within l c)) (sym p.2) (above_converts (above_inside l a)) in
    (m.0 ∷ k.0, (m.1, k.1))
puts_taken (fixed u ∷ ss) c (t ∷ ts) es p vs g =
    let k = puts_taken ss c ts es p.1 vs g in
    (p.0.0 ∷ k.0, (p.0.1, k.1))

-- a c closer to the root has lower ranks

fill_depth : (s : Slot) (b c : WgslType) → depth b ≤ depth c → depth (fill s b) ≤ depth (fill s c)
fill_depth (fixed t) b c h = le_refl (depth t)
fill_depth _ b c h = h

pub nowhere_more : (ss : List Slot) (b c : WgslType) (ts : List WgslType) (vs ws : List ℕ) → All IsValueType ts → depth b ≤ depth c →
    HasRanks ts (fill_all ss b) vs → HasRanks ts (fill_all ss c) ws → IsNowhereMore vs ws
nowhere_more [] b c [] [] [] va d h k = tt
nowhere_more [] b c [] [] (w ∷ ws) va d h k = absurd k
nowhere_more [] b c [] (v ∷ vs) ws va d h k = absurd h
nowhere_more [] b c (t ∷ ts) vs ws va d h k = absurd h
nowhere_more (s ∷ ss) b c [] vs ws va d h k = absurd h
nowhere_more (s ∷ ss) b c (t ∷ ts) [] ws va d h k = absurd h
nowhere_more (s ∷ ss) b c (t ∷ ts) (v ∷ vs) [] va d h k = absurd k
nowhere_more (s ∷ ss) b c (t ∷ ts) (v ∷ vs) (w ∷ ws) va d h k =
    let vt = values_head t ts va in (
      omega (arith, (value_converts vt h.0).1, (value_converts vt k.0).1, fill_depth s b c d),
      nowhere_more ss b c ts vs ws (values_tail t ts va) d h.1 k.1,
    )

pub somewhere_less : (ss : List Slot) (b c : WgslType) (ts : List WgslType) (vs ws : List ℕ) → All IsValueType ts → HasOpen ss → depth b < depth c →
    HasRanks ts (fill_all ss b) vs → HasRanks ts (fill_all ss c) ws → IsSomewhereLess vs ws
somewhere_less [] b c ts vs ws va o d h k = absurd o
somewhere_less (s ∷ ss) b c [] vs ws va o d h k = absurd h
somewhere_less (s ∷ ss) b c (t ∷ ts) [] ws va o d h k = absurd h
somewhere_less (s ∷ ss) b c (t ∷ ts) (v ∷ vs) [] va o d h k = absurd k
somewhere_less (fixed u ∷ ss) b c (t ∷ ts) (v ∷ vs) (w ∷ ws) va o d h k =
    inr (somewhere_less ss b c ts vs ws (values_tail t ts va) o d h.1 k.1)
somewhere_less (whole ∷ ss) b c (t ∷ ts) (v ∷ vs) (w ∷ ws) va o d h k =
    let vt = values_head t ts va in
    inl (omega (arith, (value_converts vt h.0).1, (value_converts vt k.0).1, d))
somewhere_less (inner l ∷ ss) b c (t ∷ ts) (v ∷ vs) (w ∷ ws) va o d h k =
    let vt = values_head t ts va in
    inl (omega (arith, (value_converts vt h.0).1, (value_converts vt k.0).1, d))

-- what is put doesn't depend on c
pub put_once : (ss : List Slot) (ts es fs : List WgslType) → IsPut ss ts es → IsPut ss ts fs → es ≡ fs
put_once [] [] es fs p q = p ∙ sym q
put_once [] (t ∷ ts) es fs p q = absurd p
put_once (whole ∷ ss) [] es fs p q = absurd p
put_once (inner l ∷ ss) [] es fs p q = absurd p
put_once (fixed u ∷ ss) [] es fs p q = absurd p
put_once (whole ∷ ss) (t ∷ ts) es fs p q = let r = put_once ss ts p.0 q.0 p.2 q.2 in cc (p.1, q.1, r)
put_once (inner l ∷ ss) (t ∷ ts) es fs p q =
    let r = put_once ss ts p.1 q.1 p.4 q.4 in
    let e : within l p.0 ≡ within l q.0 = sym p.2 ∙ q.2 in
    cc (p.3, q.3, r, e)
put_once (fixed u ∷ ss) (t ∷ ts) es fs p q = put_once ss ts es fs p.1 q.1

put_some : (ss : List Slot) (ts es : List WgslType) → HasOpen ss → IsPut ss ts es → es ≢ []
put_some [] ts es o p = absurd o
put_some (whole ∷ ss) (t ∷ ts) es o p = λ q. cc (p.1, q)
put_some (inner l ∷ ss) (t ∷ ts) es o p = λ q. cc (p.3, q)
put_some (fixed u ∷ ss) (t ∷ ts) es o p = put_some ss ts es o p.1
put_some _ _ es o p = absurd p

-- The member of a family at the least common type: it takes the operands, and others that take them have higher ranks.
pub record IsLeastOf (ss : List Slot) (ts : List WgslType) (b : WgslType) : Type 0 where
  pub ranks : List ℕ
  pub takes : HasRanks ts (fill_all ss b) ranks
  pub least : (c : WgslType) (ws : List ℕ) → HasRanks ts (fill_all ss c) ws →
      Above b c × ((c ≡ b) ⊎ IsNowhereMore ranks ws × IsSomewhereLess ranks ws)

received_value : (es : List WgslType) (b : WgslType) → es ≢ [] → All IsValueType es → Receives b es → IsValueType b
received_value [] b n vs g = absurd (n refl)
received_value (e ∷ es) b n vs g =
    let v = values_head e es vs in (above_values (value_above v (receives_head b e es g))).0 v

pub settle : (ss : List Slot) (ts : List WgslType) (b c : WgslType) (vs ws : List ℕ) → HasOpen ss → All IsValueType ts → Above b c →
    HasRanks ts (fill_all ss b) vs → HasRanks ts (fill_all ss c) ws → (c ≡ b) ⊎ IsNowhereMore vs ws × IsSomewhereLess vs ws
settle ss ts b c vs ws o vt a m r =
    elim (ℕ_discrete (depth b) (depth c)) [
      | yes e ↦ inl (sym (above_level a (omega (arith, e))))
      | no n ↦
          let d : depth b < depth c = omega (arith, n, above_depth a) in
          inr (nowhere_more ss b c ts vs ws vt (above_depth a) m r, somewhere_less ss b c ts vs ws vt o d m r)
    ]

pub least_of : (ss : List Slot) (ts es : List WgslType) (b : WgslType) → HasOpen ss → All IsValueType ts → All IsValueType es → IsPut ss ts es →
    IsLeftCommon es (Some b) → IsLeastOf ss ts b
least_of ss ts es b o vt ve p h =
    let k = left_common_least es b ve h in
    let m = puts_taken ss b ts es p ve k.0 in
    let v = received_value es b (put_some ss ts es o p) ve k.0 in
    record {
      ranks = m.0;
      takes = m.1;
      least = λ c ws r.
          let q = taken_puts ss c ts ws vt r in
          let g = subst (λ es. Receives c es) (put_once ss ts q.types es q.put p) q.received in
          let a = value_above v (k.1 c g) in
          (a, settle ss ts b c m.0 ws o vt a m.1 r);
    }

pub none_of : (ss : List Slot) (ts es : List WgslType) (c : WgslType) → HasOpen ss → All IsValueType ts → All IsValueType es → IsPut ss ts es →
    IsLeftCommon es None → ¬ Takes (fill_all ss c) ts
none_of ss ts es c o vt ve p h r =
    let q = taken_puts ss c ts r.0 vt r.1 in
    let g = subst (λ es. Receives c es) (put_once ss ts q.types es q.put p) q.received in
    refused es (put_some ss ts es o p) ve h g
  where
    refused : (es : List WgslType) → es ≢ [] → All IsValueType es → IsLeftCommon es None → Receives c es → ⊥
    refused [] n ve h g = n refl
    refused (e ∷ es) n ve h g = left_common_none e es ve h c g

-- if a member takes the operands, there is a least one
pub least_of_taken : (ss : List Slot) (ts : List WgslType) (c : WgslType) → HasOpen ss → All IsValueType ts → Takes (fill_all ss c) ts →
    (b : WgslType) × IsLeastOf ss ts b
least_of_taken ss ts c o vt r =
    let q = taken_puts ss c ts r.0 vt r.1 in
    let k = some_left_common q.types in
    go k.0 q.types k.1 q.put q.values
  where
    go : (k : Option WgslType) (es : List WgslType) → IsLeftCommon es k → IsPut ss ts es → All IsValueType es → (b : WgslType) × IsLeastOf ss ts b
    go None es h p ve = absurd (none_of ss ts es c o vt ve p h r)
    go (Some b) es h p ve = (b, least_of ss ts es b o vt ve p h)

-- if a member takes the operands, so does each at a type to which its own converts
pub taken_above : (ss : List Slot) (ts : List WgslType) (b d : WgslType) → All IsValueType ts → Takes (fill_all ss b) ts → Above b d → Takes (fill_all ss d) ts
taken_above ss ts b d vt r a =
    let q = taken_puts ss b ts r.0 vt r.1 in
    puts_taken ss d ts q.types q.put q.values (received_above q.types b d q.values q.received a)
  where
    received_above : (es : List WgslType) (b d : WgslType) → All IsValueType es → Receives b es → Above b d → Receives d es
    received_above [] b d vs g a = receives_nil d
    received_above (e ∷ es) b d vs g a =
        receives_cons d e es (above_converts (above_trans (value_above (values_head e es vs) (receives_head b e es g)) a))
        (received_above es b d (values_tail e es vs) (receives_tail b e es g) a)
