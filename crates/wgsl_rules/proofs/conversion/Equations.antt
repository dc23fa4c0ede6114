-- Conversion for each kind of type, as the functions that decide it need it.
use Rattle.std.proofs.Common.{◌≡◌, ◌≢◌, ℕ, ◌+◌, ◌⊎◌, ◌↔◌, Option, Some, None, refl, sym, ◌∙◌, ap, subst, inl, inr, arith}
use Rattle.wgsl_rules.proofs.Common.{Scalar, Bool, AbstractInt, AbstractFloat, I32, U32, F32, F16, I64, U64, F64, AddressSpace, AccessMode, ResultFunction, ResultShape, ResultPrecision, Layer, WgslType, scalar, within, reference, struct, result_struct, MayRead, scalar_depth}
use Rattle.wgsl_syntax.specs.declared.result_struct.ResultPrecision.TheVariants as precision
use Rattle.wgsl_rules.specs.conversion.Conversion.{BaseStep, int_to_float, int_to_i32, int_to_u32, int_to_i64, int_to_u64, float_to_f32, float_to_f16, result_to_f32, result_to_f16, Step, base, inside, Load, load, load_inside, Converts}
use Rattle.wgsl_rules.proofs.conversion.Steps.{depth, parent, scalar_at, step_parent}
use Rattle.wgsl_rules.proofs.conversion.Order.{Above, here, further, above_inside, above_from_within, above_along, along_above, value_converts, above_target, converts_once, dec_converts}

-- the rank as a function

pub rank : WgslType → WgslType → Option ℕ
rank t u = elim (dec_converts t u) [ yes h ↦ Some h.0 | no n ↦ None ]

pub rank_converts : (t u : WgslType) (w : ℕ) → rank t u ≡ Some w ↔ Converts t u w
unfolding rank
rank_converts t u w =
    elim (dec_converts t u) as (λ d. (elim d [ yes h ↦ Some h.0 | no n ↦ None ]) ≡ Some w ↔ Converts t u w) [
      | yes h ↦ (λ e. let p : h.0 ≡ w = cc e in subst (λ w. Converts t u w) p h.1, λ c. ap Some (converts_once h.1 c))
      | no n ↦ (λ e. absurd (cc e), λ c. absurd (n (w, c)))
    ]

-- conversion to the type itself, and by a load

pub converts_same : (t : WgslType) → Converts t t 0
converts_same t = inl (above_along here (omega arith))

pub same_rank : (t : WgslType) (w : ℕ) → Converts t t w → w ≡ 0
same_rank t w h = converts_once h (converts_same t)

pub load_converts : {t u : WgslType} → Load t u → Converts t u 0
load_converts l = inr (l, refl)

pub load_rank : {t u : WgslType} {w : ℕ} → Load t u → Converts t u w → w ≡ 0
load_rank l h = converts_once h (load_converts l)

-- conversion inside layers

load_from_within : {l : Layer} {t v : WgslType} → Load (within l t) v → (u : WgslType) × (v ≡ within l u) × Load t u
load_from_within (load_inside {u = u} l h) = (u, refl, h)

pub converts_from_within : (l : Layer) (t v : WgslType) (w : ℕ) → Converts (within l t) v w → (u : WgslType) × (v ≡ within l u) × Converts t u w
converts_from_within l t v w (inl a) =
    let k = along_above a in
    let m = above_from_within k.0 l t refl in
    (m.0, m.1, inl (above_along m.2 (sym (ap depth m.1) ∙ k.1)))
converts_from_within l t v w (inr h) = let m = load_from_within h.0 in (m.0, m.1, inr (m.2, h.1))

pub converts_inside : (l : Layer) (t u : WgslType) (w : ℕ) → Converts t u w → Converts (within l t) (within l u) w
converts_inside l t u w (inl a) = let k = along_above a in inl (above_along (above_inside l k.0) k.1)
converts_inside l t u w (inr h) = inr (load_inside l h.0, h.1)

pub converts_within : (l k : Layer) (t u : WgslType) (w : ℕ) → Converts (within l t) (within k u) w ↔ (k ≡ l) × Converts t u w
converts_within l k t u w = (
  λ h. let m = converts_from_within l t (within k u) w h in
      let e : u ≡ m.0 = cc (m.1) in (cc (m.1), subst (λ u. Converts t u w) (sym e) m.2),
  λ h. subst (λ k. Converts (within l t) (within k u) w) (sym h.0) (converts_inside l t u w h.1),
)

-- roots: types to which only equal types convert, except by a load

abbrev IsRoot : WgslType → Type 0
IsRoot (scalar s) = ⊥
IsRoot (within l t) = ⊥
IsRoot (struct n ms) = ⊥
IsRoot t = Unit {0}

result_no_root : (m : ResultFunction) (s : ResultShape) → ¬ IsRoot (result_struct m s precision.Abstract)
unfolding result_struct
result_no_root m s h = h

base_no_root : {t u : WgslType} {w : ℕ} → BaseStep t u w → ¬ IsRoot t
base_no_root (result_to_f32 m s) h = result_no_root m s h
base_no_root (result_to_f16 m s) h = result_no_root m s h
base_no_root _ h = h

step_no_root : {t u : WgslType} {w : ℕ} → Step t u w → ¬ IsRoot t
step_no_root (base b) h = base_no_root b h
step_no_root (inside l s) h = h

above_root : {t u : WgslType} → Above t u → IsRoot t → t ≡ u
above_root here h = refl
above_root (further a s) h = absurd (step_no_root s (subst IsRoot (above_root a h) h))

pub converts_reference : (s : AddressSpace) (t : WgslType) (m : AccessMode) (u : WgslType) (w : ℕ) →
    Converts (reference s t m) u w ↔ (w ≡ 0) × ((reference s t m ≡ u) ⊎ MayRead m × (t ≡ u))
converts_reference s t m u w = (to, back)
  where
    loaded : {u : WgslType} → Load (reference s t m) u → MayRead m × (t ≡ u)
    loaded (load s t m h) = (h, refl)

    to : Converts (reference s t m) u w → (w ≡ 0) × ((reference s t m ≡ u) ⊎ MayRead m × (t ≡ u))
    to (inl a) = let k = along_above a in let e = above_root k.0 tt in (omega (arith, k.1, ap depth e), inl e)
    to (inr h) = (h.1, inr (loaded h.0))

    back : (w ≡ 0) × ((reference s t m ≡ u) ⊎ MayRead m × (t ≡ u)) → Converts (reference s t m) u w
    back h = elim h.1 [
      | inl e ↦ subst (λ w. Converts (reference s t m) u w) (sym h.0) (subst (λ u. Converts (reference s t m) u 0) e (converts_same (reference s t m)))
      | inr r ↦ inr (subst (λ u. Load (reference s t m) u) r.1 (load s t m r.0), h.0)
    ]

-- the types without base step, layer or reference: pointers, atomics, textures and the like
abbrev pub StandsAlone : WgslType → Type 0
StandsAlone (scalar s) = ⊥
StandsAlone (within l t) = ⊥
StandsAlone (struct n ms) = ⊥
StandsAlone (reference s t m) = ⊥
StandsAlone t = Unit {0}

alone_is_root : (t : WgslType) → StandsAlone t → IsRoot t
alone_is_root (scalar s) h = h
alone_is_root (within l t) h = h
alone_is_root (struct n ms) h = h
alone_is_root t h = tt

load_not_alone : {t u : WgslType} → Load t u → ¬ StandsAlone t
load_not_alone (load s t m h) k = k
load_not_alone (load_inside l h) k = k

pub converts_alone : (t u : WgslType) (w : ℕ) → StandsAlone t → Converts t u w ↔ (w ≡ 0) × (t ≡ u)
converts_alone t u w r = (to, λ h. subst (λ w. Converts t u w) (sym h.0) (subst (λ u. Converts t u 0) h.1 (converts_same t)))
  where
    to : Converts t u w → (w ≡ 0) × (t ≡ u)
    to (inl a) = let k = along_above a in let e = above_root k.0 (alone_is_root t r) in (omega (arith, k.1, ap depth e), e)
    to (inr h) = absurd (load_not_alone h.0 r)

-- scalars

-- the ranks of scalars as a table
abbrev pub scalar_rank : Scalar → Scalar → Option ℕ
scalar_rank AbstractInt Bool = None
scalar_rank AbstractInt F64 = None
scalar_rank AbstractInt s = Some (scalar_depth s)
scalar_rank AbstractFloat AbstractFloat = Some 0
scalar_rank AbstractFloat F32 = Some 1
scalar_rank AbstractFloat F16 = Some 2
scalar_rank Bool Bool = Some 0
scalar_rank I32 I32 = Some 0
scalar_rank U32 U32 = Some 0
scalar_rank F32 F32 = Some 0
scalar_rank F16 F16 = Some 0
scalar_rank I64 I64 = Some 0
scalar_rank U64 U64 = Some 0
scalar_rank F64 F64 = Some 0
scalar_rank a b = None

abbrev pub IsPlainScalar : WgslType → Type 0
IsPlainScalar (scalar s) = Unit {0}
IsPlainScalar t = ⊥

result_plain : (m : ResultFunction) (s : ResultShape) (p q : ResultPrecision) → IsPlainScalar (result_struct m s p) → IsPlainScalar (result_struct m s q)
unfolding result_struct
result_plain m s p q h = absurd h

base_plain : {t u : WgslType} {w : ℕ} → BaseStep t u w → IsPlainScalar t → IsPlainScalar u
base_plain (result_to_f32 m s) h = result_plain m s _ _ h
base_plain (result_to_f16 m s) h = result_plain m s _ _ h
base_plain _ h = tt

step_plain : {t u : WgslType} {w : ℕ} → Step t u w → IsPlainScalar t → IsPlainScalar u
step_plain (base b) h = base_plain b h
step_plain (inside l s) h = absurd h

-- scalars convert to scalars
pub above_plain : {t u : WgslType} → Above t u → IsPlainScalar t → IsPlainScalar u
above_plain here h = h
above_plain (further a s) h = step_plain s (above_plain a h)

int_float : Step (scalar AbstractInt) (scalar AbstractFloat) (scalar_depth AbstractFloat)
int_float = base int_to_float

-- each rank in the table is right
table_above : (a b : Scalar) (w : ℕ) → scalar_rank a b ≡ Some w → Above (scalar a) (scalar b) × (depth (scalar b) ≡ depth (scalar a) + w)
table_above AbstractInt AbstractInt w e = let p : 0 ≡ w = cc e in (here, omega arith)
table_above AbstractInt I32 w e = let p : scalar_depth I32 ≡ w = cc e in (further here (base int_to_i32), omega arith)
table_above AbstractInt U32 w e = let p : scalar_depth U32 ≡ w = cc e in (further here (base int_to_u32), omega arith)
table_above AbstractInt AbstractFloat w e = let p : scalar_depth AbstractFloat ≡ w = cc e in (further here int_float, omega arith)
table_above AbstractInt F32 w e = let p : scalar_depth F32 ≡ w = cc e in (further (further here int_float) (base float_to_f32), omega arith)
table_above AbstractInt F16 w e = let p : scalar_depth F16 ≡ w = cc e in (further (further here int_float) (base float_to_f16), omega arith)
table_above AbstractInt I64 w e = let p : scalar_depth I64 ≡ w = cc e in (further here (base int_to_i64), omega arith)
table_above AbstractInt U64 w e = let p : scalar_depth U64 ≡ w = cc e in (further here (base int_to_u64), omega arith)
table_above AbstractFloat AbstractFloat w e = let p : 0 ≡ w = cc e in (here, omega arith)
table_above AbstractFloat F32 w e = let p : 1 ≡ w = cc e in (further here (base float_to_f32), omega arith)
table_above AbstractFloat F16 w e = let p : 2 ≡ w = cc e in (further here (base float_to_f16), omega arith)
table_above Bool Bool w e = let p : 0 ≡ w = cc e in (here, omega arith)
table_above I32 I32 w e = let p : 0 ≡ w = cc e in (here, omega arith)
table_above U32 U32 w e = let p : 0 ≡ w = cc e in (here, omega arith)
table_above F32 F32 w e = let p : 0 ≡ w = cc e in (here, omega arith)
table_above F16 F16 w e = let p : 0 ≡ w = cc e in (here, omega arith)
table_above I64 I64 w e = let p : 0 ≡ w = cc e in (here, omega arith)
table_above U64 U64 w e = let p : 0 ≡ w = cc e in (here, omega arith)
table_above F64 F64 w e = let p : 0 ≡ w = cc e in (here, omega arith)
table_above a b w e = absurd (cc e)

above_or : {t u : WgslType} → Above t u → (t ≡ u) ⊎ Above t (parent u)
above_or here = inl refl
above_or {t} (further a s) = inr (subst (λ u. Above t u) (sym (step_parent s)) a)

-- a scalar to which no step leads
alone : (a b : Scalar) → scalar_at (depth (scalar b)) ≢ b → Above (scalar a) (scalar b) → a ≡ b
alone a b n h = elim (above_target h) [ inl e ↦ cc e | inr e ↦ absurd (n (cc e)) ]

known : (a b c : Scalar) (v : ℕ) → a ≡ b → scalar_rank b c ≡ Some v → (v : ℕ) × (scalar_rank a c ≡ Some v)
known a b c v p e = (v, subst (λ a. scalar_rank a c ≡ Some v) (sym p) e)

from_int : (a b : Scalar) (v w : ℕ) → parent (scalar b) ≡ scalar AbstractInt → scalar_rank b b ≡ Some v → scalar_rank AbstractInt b ≡ Some w →
    Above (scalar a) (scalar b) → (v : ℕ) × (scalar_rank a b ≡ Some v)
from_int a b v w p e f h = elim (above_or h) [
  | inl q ↦ known a b b v (cc q) e
  | inr k ↦ known a AbstractInt b w (alone a AbstractInt (λ q. cc q) (subst (λ t. Above (scalar a) t) p k)) f
]

from_float : (a b : Scalar) (v w x : ℕ) → parent (scalar b) ≡ scalar AbstractFloat → scalar_rank b b ≡ Some v → scalar_rank AbstractFloat b ≡ Some w →
    scalar_rank AbstractInt b ≡ Some x → Above (scalar a) (scalar b) → (v : ℕ) × (scalar_rank a b ≡ Some v)
from_float a b v w x p e f g h = elim (above_or h) [
  | inl q ↦ known a b b v (cc q) e
  | inr k ↦ elim (above_or (subst (λ t. Above (scalar a) t) p k)) [
    | inl q ↦ known a AbstractFloat b w (cc q) f
    | inr m ↦ known a AbstractInt b x (alone a AbstractInt (λ q. cc q) m) g
  ]
]

above_table : (a b : Scalar) → Above (scalar a) (scalar b) → (v : ℕ) × (scalar_rank a b ≡ Some v)
above_table a Bool h = known a Bool Bool 0 (alone a Bool (λ q. cc q) h) refl
above_table a AbstractInt h = known a AbstractInt AbstractInt 0 (alone a AbstractInt (λ q. cc q) h) refl
above_table a AbstractFloat h = from_int a AbstractFloat 0 (scalar_depth AbstractFloat) refl refl refl h
above_table a I32 h = from_int a I32 0 (scalar_depth I32) refl refl refl h
above_table a U32 h = from_int a U32 0 (scalar_depth U32) refl refl refl h
above_table a F32 h = from_float a F32 0 1 (scalar_depth F32) refl refl refl refl h
above_table a F16 h = from_float a F16 0 2 (scalar_depth F16) refl refl refl refl h
above_table a I64 h = from_int a I64 0 (scalar_depth I64) refl refl refl h
above_table a U64 h = from_int a U64 0 (scalar_depth U64) refl refl refl h
above_table a F64 h = known a F64 F64 0 (alone a F64 (λ q. cc q) h) refl

pub converts_scalar : (a b : Scalar) (w : ℕ) → Converts (scalar a) (scalar b) w ↔ scalar_rank a b ≡ Some w
converts_scalar a b w = (
  λ h. let k = value_converts {t = scalar a} tt h in
      let v = above_table a b k.0 in
      let m = table_above a b v.0 v.1 in
      let e : v.0 ≡ w = omega (arith, k.1, m.1) in
      v.1 ∙ ap Some e,
  λ e. let m = table_above a b w e in inl (above_along m.0 m.1),
)

plain_as_scalar : (t : WgslType) → IsPlainScalar t → (s : Scalar) × (t ≡ scalar s)
plain_as_scalar (scalar s) h = (s, refl)
plain_as_scalar t h = absurd h

pub converts_from_scalar : (a : Scalar) (u : WgslType) (w : ℕ) → Converts (scalar a) u w → (b : Scalar) × (u ≡ scalar b)
converts_from_scalar a u w h = plain_as_scalar u (above_plain (value_converts {t = scalar a} tt h).0 tt)
