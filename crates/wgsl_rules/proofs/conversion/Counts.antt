-- Conversions with the number of their steps.
use Rattle.std.proofs.Common.{◌≡◌, ℕ, ◌+◌, ◌↔◌, length, refl, sym, ◌∙◌, ap, subst, inl, inr, arith}
use Rattle.wgsl_rules.proofs.Common.{Layer, WgslType, within, Path, PathOf, Load, load_inside, Converts, ConvertsIn}
use Rattle.wgsl_rules.proofs.conversion.Steps.{depth, height}
use Rattle.wgsl_rules.proofs.conversion.Order.{Above, here, above_from_within, above_inside, along_above, above_along, path_height, load_above, load_within, converts_once}

pub counted_above : {t u : WgslType} {w n : ℕ} → PathOf t u w n → Above t u × (depth u ≡ depth t + w) × (height u ≡ height t + n)
counted_above {t} {u} a =
    let k = along_above a.path in
    (k.0, k.1, omega (arith, path_height t u a.path.legs a.path.leads, a.steps))

pub above_counted : {t u : WgslType} {w n : ℕ} → Above t u → depth u ≡ depth t + w → height u ≡ height t + n → PathOf t u w n
above_counted {t} {u} {w} a d h =
    let k : Path t u w = above_along a d in
    record { path = k; steps = omega (arith, path_height t u k.legs k.leads, h) }

pub converts_counted : (t u : WgslType) (w : ℕ) → Converts t u w ↔ (n : ℕ) × ConvertsIn t u w n
converts_counted t u w = (to, back)
  where
    to : Converts t u w → (n : ℕ) × ConvertsIn t u w n
    to (inl a) = (length a.legs, inl (record { path = a; steps = refl }))
    to (inr h) = (0, inr (h.0, h.1, refl))

    back : ((n : ℕ) × ConvertsIn t u w n) → Converts t u w
    back (n, inl a) = inl a.path
    back (n, inr h) = inr (h.0, h.1)

pub counted_converts : {t u : WgslType} {w n : ℕ} → ConvertsIn t u w n → Converts t u w
counted_converts {t} {u} {w} {n} h = (converts_counted t u w).1 (n, h)

-- the rank and the number of steps of a conversion are unique
pub converts_in_once : {t u : WgslType} {v w n m : ℕ} → ConvertsIn t u v n → ConvertsIn t u w m → (v ≡ w) × (n ≡ m)
converts_in_once {t} {u} {v} {w} {n} {m} h k = (converts_once (counted_converts h) (counted_converts k), steps h k)
  where
    -- a path between the ends of a load has no step
    still : {x l : ℕ} → PathOf t u x l → Load t u → l ≡ 0
    still a d = let k = counted_above a in omega (arith, k.2, ap height (load_above d k.0))

    steps : ConvertsIn t u v n → ConvertsIn t u w m → n ≡ m
    steps (inl a) (inl b) = omega (arith, (counted_above a).2, (counted_above b).2)
    steps (inl a) (inr k) = still a k.0 ∙ sym k.2
    steps (inr h) (inl b) = h.2 ∙ sym (still b h.0)
    steps (inr h) (inr k) = h.2 ∙ sym k.2

none_of : {t u : WgslType} {v n : ℕ} → ConvertsIn t u 0 0 → ConvertsIn t u v n ↔ (v ≡ 0) × (n ≡ 0)
none_of {t} {u} {v} {n} k = (
  λ h. converts_in_once h k,
  λ e. subst (λ v. ConvertsIn t u v n) (sym e.0) (subst (λ n. ConvertsIn t u 0 n) (sym e.1) k),
)

pub converts_in_same : (t : WgslType) (w n : ℕ) → ConvertsIn t t w n ↔ (w ≡ 0) × (n ≡ 0)
converts_in_same t w n = none_of (inl (above_counted here (omega arith) (omega arith)))

pub converts_in_load : (t u : WgslType) (w n : ℕ) → Load t u → ConvertsIn t u w n ↔ (w ≡ 0) × (n ≡ 0)
converts_in_load t u w n l = none_of (inr (l, refl, refl))

pub converts_in_within : (l k : Layer) (t u : WgslType) (w n : ℕ) → ConvertsIn (within l t) (within k u) w n ↔ (k ≡ l) × ConvertsIn t u w n
converts_in_within l k t u w n = (to, λ h. subst (λ k. ConvertsIn (within l t) (within k u) w n) (sym h.0) (inwards h.1))
  where
    to : ConvertsIn (within l t) (within k u) w n → (k ≡ l) × ConvertsIn t u w n
    to (inl a) =
        let c = counted_above a in
        let m = above_from_within c.0 l t refl in
        let e : u ≡ m.0 = cc (m.1) in
        (cc (m.1), inl (above_counted (subst (λ u. Above t u) (sym e) m.2) c.1 c.2))
    to (inr h) = let m = load_within h.0 in (sym m.0, inr (m.1, h.1, h.2))

    inwards : ConvertsIn t u w n → ConvertsIn (within l t) (within l u) w n
    inwards (inl a) = let c = counted_above a in inl (above_counted (above_inside l c.0) c.1 c.2)
    inwards (inr h) = inr (load_inside l h.0, h.1, h.2)
