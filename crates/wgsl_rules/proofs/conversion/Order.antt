-- Paths lead from parents to children: the types above a type are a chain, and weights are differences of ranks from
-- the root.
use Rattle.std.proofs.Common.{◌≡◌, ◌≢◌, ℕ, zero, suc, ◌+◌, ◌<◌, ◌≤◌, ◌-◌, ◌⊎◌, ◌↔◌, List, [], ◌∷◌, ◌++◌, length, refl, sym, ◌∙◌, ap, subst, inl, inr, arith, le_refl}
use Rattle.wgsl_rules.proofs.Common.{AddressSpace, AccessMode, Read, ReadWrite, Layer, WgslType, within, reference, MayRead}
use Rattle.wgsl_rules.specs.conversion.Conversion.{Step, inside, IsValueType, Leg, IsPath, path_weight, Load, load, load_inside, Path, Converts, ConvertsTo}
use Rattle.wgsl_rules.proofs.types.Equality.{same_type, same_layer}
use Rattle.wgsl_rules.proofs.conversion.Steps.{depth, height, step_height, target, step_depth, step_positive, step_parent, step_target, step_family, step_values, step_to_within, step_from_within, IsChild, child}

pub data Above : WgslType → WgslType → Type 0 where
  here : {t : WgslType} → Above t t
  further : {t u v : WgslType} {w : ℕ} → Above t u → Step u v w → Above t v

pub above_depth : {t u : WgslType} → Above t u → depth t ≤ depth u
above_depth here = omega arith
above_depth (further a s) = omega (arith, above_depth a, step_depth s)

-- if t is above u and u is no deeper, they are equal
pub above_level : {t u : WgslType} → Above t u → depth u ≤ depth t → t ≡ u
above_level here h = refl
above_level (further a s) h = absurd (omega (arith, above_depth a, step_depth s, step_positive s, h))

pub above_trans : {t u v : WgslType} → Above t u → Above u v → Above t v
above_trans a here = a
above_trans a (further b s) = further (above_trans a b) s

pub above_antisym : {t u : WgslType} → Above t u → Above u t → t ≡ u
above_antisym a b = above_level a (above_depth b)

-- of two types above a third, one is above the other
pub above_chain : {a b c : WgslType} → Above a c → Above b c → Above a b ⊎ Above b a
above_chain here q = inr q
above_chain (further p s) q = past_step p s q (above_chain p)
  where
    past_step : {a b u c : WgslType} {w : ℕ} → Above a u → Step u c w → Above b c → (Above b u → Above a b ⊎ Above b a) → Above a b ⊎ Above b a
    past_step p s here go = inl (further p s)
    past_step {b = b} p s (further q r) go = go (subst (λ t. Above b t) (sym (step_parent r) ∙ step_parent s) q)

-- the rank from the root determines the target
above_family : {t u : WgslType} → Above t u → (d : ℕ) → target t d ≡ target u d
above_family here d = refl
above_family (further a s) d = above_family a d ∙ step_family s d

pub above_target : {t u : WgslType} → Above t u → (t ≡ u) ⊎ (u ≡ target t (depth u))
above_target here = inl refl
above_target (further {v = v} a s) = inr (step_target s ∙ sym (above_family a (depth v)))

pub above_same_depth : {t u v : WgslType} → Above t u → Above t v → depth u ≡ depth v → u ≡ v
above_same_depth {t} {u} {v} a b e =
    elim (above_target a) [
      | inl p ↦ sym p ∙ above_level b (omega (arith, e, ap depth p))
      | inr p ↦ elim (above_target b) [
        | inl q ↦ sym (sym q ∙ above_level a (omega (arith, e, ap depth q)))
        | inr q ↦ p ∙ ap (λ d. target t d) e ∙ sym q
      ]
    ]

-- Paths

above_step : {t u v : WgslType} {w : ℕ} → Step t u w → Above u v → Above t v
above_step s here = further here s
above_step s (further a r) = further (above_step s a) r

pub path_above : (t u : WgslType) (legs : List Leg) → IsPath t legs u → Above t u × (depth u ≡ depth t + path_weight legs)
path_above t u [] p = (subst (λ u. Above t u) p here, omega (arith, ap depth p))
path_above t u (leg ∷ legs) p =
    let k = path_above leg.to u legs p.2 in
    let s : Step t leg.to leg.weight = subst (λ t. Step t leg.to leg.weight) p.0 p.1 in
    (above_step s k.0, omega (arith, k.1, step_depth s))

path_more : (t u v : WgslType) (w : ℕ) (legs : List Leg) → IsPath t legs u → Step u v w →
    IsPath t (legs ++ record { from = u; to = v; weight = w } ∷ []) v
path_more t u v w [] p s = (sym p, s, refl)
path_more t u v w (leg ∷ legs) p s = (p.0, p.1, path_more leg.to u v w legs p.2 s)

above_path : {t u : WgslType} → Above t u → (legs : List Leg) × IsPath t legs u
above_path here = ([], refl)
above_path {t} (further {u = u} {v = v} {w = w} a s) =
    let k = above_path a in
    (k.0 ++ record { from = u; to = v; weight = w } ∷ [], path_more t u v w k.0 k.1 s)

pub along_above : {t u : WgslType} {w : ℕ} → Path t u w → Above t u × (depth u ≡ depth t + w)
along_above {t} {u} {w} a = let k = path_above t u a.legs a.leads in (k.0, omega (arith, k.1, a.weighs))

pub above_along : {t u : WgslType} {w : ℕ} → Above t u → depth u ≡ depth t + w → Path t u w
above_along {t} {u} {w} a e =
    let k = above_path a in
    record { legs = k.0; leads = k.1; weighs = omega (arith, (path_above t u k.0 k.1).1, e) }

pub path_height : (t u : WgslType) (legs : List Leg) → IsPath t legs u → height u ≡ height t + length legs
path_height t u [] p = omega (arith, ap height p)
path_height t u (leg ∷ legs) p =
    let s : Step t leg.to leg.weight = subst (λ t. Step t leg.to leg.weight) p.0 p.1 in
    omega (arith, path_height leg.to u legs p.2, step_height s)

-- Whether one type is above another

not_above : {t u : WgslType} → Above t u → t ≢ u → ¬ IsChild u → ⊥
not_above here a b = a refl
not_above (further {u = u} {w = w} p s) a b = b (u, w, s)

above_parent : {t u v : WgslType} {w : ℕ} → Above t v → t ≢ v → Step u v w → Above t u
above_parent here a r = absurd (a refl)
above_parent {t} (further p s) a r = subst (λ u. Above t u) (sym (step_parent s) ∙ step_parent r) p

-- with a bound on the rank from the root, which ends the walk to the parents
dec_above_within : (n : ℕ) (t u : WgslType) → depth u ≤ n → Dec (Above t u)
dec_above_within zero t u h =
    elim (same_type t u) [
      | yes e ↦ yes (subst (λ u. Above t u) e here)
      | no a ↦ no (λ p. not_above p a (λ c. (omega (arith, step_depth c.2, step_positive c.2, h))))
    ]
dec_above_within (suc n) t u h =
    elim (same_type t u) [
      | yes e ↦ yes (subst (λ u. Above t u) e here)
      | no a ↦ elim (child u) [
        | no b ↦ no (λ p. not_above p a b)
        | yes c ↦ elim (dec_above_within n t c.0 (omega (arith, step_depth c.2, step_positive c.2, h))) [
          | yes p ↦ yes (further p c.2)
          | no b ↦ no (λ p. b (above_parent p a c.2))
        ]
      ]
    ]

pub dec_above : (t u : WgslType) → Dec (Above t u)
dec_above t u = dec_above_within (depth u) t u (le_refl _)

-- Layers

pub above_to_within : {t v : WgslType} → Above t v → (l : Layer) (u : WgslType) → v ≡ within l u → (s : WgslType) × (t ≡ within l s) × Above s u
above_to_within here l u e = (u, e, here)
above_to_within (further a s) l u e =
    let k = step_to_within s l u e in
    let m = above_to_within a l k.0 k.1 in
    (m.0, m.1, further m.2 k.2)

pub above_from_within : {t v : WgslType} → Above t v → (l : Layer) (u : WgslType) → t ≡ within l u → (s : WgslType) × (v ≡ within l s) × Above u s
above_from_within here l u e = (u, e, here)
above_from_within (further a s) l u e =
    let k = above_from_within a l u e in
    let m = step_from_within s l k.0 k.1 in
    (m.0, m.1, further k.2 m.2)

pub above_inside : {t u : WgslType} (l : Layer) → Above t u → Above (within l t) (within l u)
above_inside l here = here
above_inside l (further a s) = further (above_inside l a) (inside l s)

pub above_values : {t u : WgslType} → Above t u → IsValueType t ↔ IsValueType u
above_values here = (λ h. h, λ h. h)
above_values (further a s) = (λ h. (step_values s).1, λ h. (above_values a).1 (step_values s).0)

-- Loads

abbrev size : WgslType → ℕ
size (within l t) = suc (size t)
size (reference s t m) = suc (size t)
size t = 0

load_size : {t u : WgslType} → Load t u → size u < size t
load_size (load s t m h) = omega arith
load_size (load_inside l a) = omega (arith, load_size a)

pub load_no_value : {t u : WgslType} → Load t u → IsValueType t → ⊥
load_no_value (load s t m h) v = v
load_no_value (load_inside l a) v = load_no_value a v

-- only the type itself is above a type that loads
above_load : {t u v : WgslType} → Above t u → Load u v → t ≡ u
above_load here l = refl
above_load (further a s) l = absurd (load_no_value l (step_values s).1)

-- and a type that loads is above only itself
pub load_above : {t u v : WgslType} → Load t v → Above t u → t ≡ u
load_above l here = refl
load_above l (further a s) = absurd (load_no_value l ((above_values a).1 (step_values s).0))

dec_readable : (m : AccessMode) → Dec (MayRead m)
dec_readable Read = yes (inl refl)
dec_readable ReadWrite = yes (inr refl)
dec_readable _ = no (λ h. elim h [ inl e ↦ absurd (cc e) | inr e ↦ absurd (cc e) ])

pub load_readable : {s : AddressSpace} {t u : WgslType} {m : AccessMode} → Load (reference s t m) u → MayRead m × (t ≡ u)
load_readable (load s t m h) = (h, refl)

pub load_within : {l k : Layer} {t u : WgslType} → Load (within l t) (within k u) → (l ≡ k) × Load t u
load_within (load_inside l a) = (refl, a)

abbrev LoadsBy : WgslType → WgslType → Type 0
LoadsBy (reference s t m) u = Unit {0}
LoadsBy (within l t) (within k u) = Unit {0}
LoadsBy t u = ⊥

load_ends : {t u : WgslType} → Load t u → LoadsBy t u
load_ends (load s t m h) = tt
load_ends (load_inside l a) = tt

pub dec_load : (t u : WgslType) → Dec (Load t u)
dec_load (reference s t m) u =
    elim (dec_readable m) [
      | no n ↦ no (λ h. n (load_readable h).0)
      | yes r ↦ elim (same_type t u) [
        | no n ↦ no (λ h. n (load_readable h).1)
        | yes e ↦ yes (subst (λ u. Load (reference s t m) u) e (load s t m r))
      ]
    ]
dec_load (within l t) (within k u) =
    elim (same_layer l k) [
      | no n ↦ no (λ h. n (load_within h).0)
      | yes e ↦ elim (dec_load t u) [
        | no n ↦ no (λ h. n (load_within h).1)
        | yes h ↦ yes (subst (λ k. Load (within l t) (within k u)) e (load_inside l h))
      ]
    ]
dec_load t u = no (λ h. load_ends h)

-- Conversion

pub along_load : {t u : WgslType} {w : ℕ} → Path t u w → Load t u → w ≡ 0
along_load a l =
    let k = along_above a in
    let e = load_above l k.0 in
    omega (arith, k.1, ap depth e)

-- a type converts to another with at most one rank
pub converts_once : {t u : WgslType} {v w : ℕ} → Converts t u v → Converts t u w → v ≡ w
converts_once (inl a) (inl b) = omega (arith, (along_above a).1, (along_above b).1)
converts_once (inl a) (inr l) = along_load a l.0 ∙ sym l.1
converts_once (inr l) (inl b) = l.1 ∙ sym (along_load b l.0)
converts_once (inr l) (inr k) = l.1 ∙ sym k.1

pub dec_converts : (t u : WgslType) → Dec (ConvertsTo t u)
dec_converts t u =
    elim (dec_above t u) [
      | yes a ↦ let m : depth u ≡ depth t + (depth u - depth t) = omega (arith, above_depth a) in yes (depth u - depth t, inl (above_along a m))
      | no a ↦ elim (dec_load t u) [
        | yes l ↦ yes (0, inr (l, refl))
        | no b ↦ no (λ h. neither h.1 a b)
      ]
    ]
  where
    neither : {w : ℕ} → Converts t u w → ¬ Above t u → ¬ Load t u → ⊥
    neither (inl a) n m = n (along_above a).0
    neither (inr l) n m = m l.0

pub value_converts : {t u : WgslType} {w : ℕ} → IsValueType t → Converts t u w → Above t u × (depth u ≡ depth t + w)
value_converts v (inl a) = along_above a
value_converts v (inr l) = absurd (load_no_value l.0 v)

pub above_converts : {t u : WgslType} → Above t u → ConvertsTo t u
above_converts {t} {u} a =
    let m : depth u ≡ depth t + (depth u - depth t) = omega (arith, above_depth a) in
    (depth u - depth t, inl (above_along a m))

pub converts_antisym : {t u : WgslType} → ConvertsTo t u → ConvertsTo u t → t ≡ u
converts_antisym {t} {u} p q = go p.1 q.1
  where
    go : {v w : ℕ} → Converts t u v → Converts u t w → t ≡ u
    go (inl a) (inl b) = above_antisym (along_above a).0 (along_above b).0
    go (inl a) (inr l) = above_load (along_above a).0 l.0
    go (inr l) (inl b) = sym (above_load (along_above b).0 l.0)
    go (inr l) (inr k) = absurd (omega (arith, load_size l.0, load_size k.0))
