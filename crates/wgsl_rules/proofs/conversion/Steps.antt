-- Each type has at most one parent, from which a step leads to it. A step raises the rank from the root by its weight.
use Rattle.std.proofs.Common.{◌≡◌, ◌≢◌, ℕ, ◌+◌, ◌<◌, ◌≤◌, List, ◌++◌, ap₂, cond, eqb, get_or, refl, sym, ◌∙◌, ap, subst, arith}
use Rattle.wgsl_rules.proofs.Common.{Scalar, Bool, AbstractInt, AbstractFloat, I32, U32, F32, F16, I64, U64, ResultFunction, Frexp, Modf, ResultShape, ResultPrecision, float_of, shaped, result_members, result_struct, precision_depth, scalar_depth}
use Rattle.wgsl_syntax.specs.declared.result_struct.ResultShape.TheVariants as shape
use Rattle.wgsl_syntax.specs.declared.result_struct.ResultPrecision.TheVariants as precision
use Rattle.wgsl_rules.specs.types.Types.{Layer, vec_of, WgslType, scalar, within, reference, struct, Members, no_members, member}
use Rattle.wgsl_syntax.specs.ResultStruct.{function_text, shape_text, precision_text}
use Rattle.wgsl_rules.specs.conversion.Conversion.{BaseStep, int_to_float, int_to_i32, int_to_u32, int_to_i64, int_to_u64, float_to_f32, float_to_f16, result_to_f32, result_to_f16, Step, base, inside, IsValueType}
use Rattle.wgsl_rules.proofs.types.Equality.{same_type}

-- Ranks from the root

-- the innermost scalar
abbrev pub core : WgslType → Scalar
core (scalar s) = s
core (within l t) = core t
core t = Bool

abbrev pub float_depth : Scalar → ℕ
float_depth F32 = precision_depth precision.F32
float_depth F16 = precision_depth precision.F16
float_depth s = 0

-- the type of the first member
abbrev pub first : Members → WgslType
first (member f t size align ms) = t
first no_members = scalar Bool

-- meaningless for a struct that isn't a result struct
abbrev pub depth : WgslType → ℕ
depth (scalar s) = scalar_depth s
depth (within l t) = depth t
depth (struct n ms) = float_depth (core (first ms))
depth t = 0

core-shaped : (s : ResultShape) (t : WgslType) → core (shaped s t) ≡ core t
core-shaped shape.Scalar t = refl
core-shaped _ t = refl

first-result : (m : ResultFunction) (s : ResultShape) (p : ResultPrecision) → first (result_members m s p) ≡ shaped s (scalar (float_of p))
first-result Frexp s p = refl
first-result Modf s p = refl

core-result : (m : ResultFunction) (s : ResultShape) (p : ResultPrecision) → core (first (result_members m s p)) ≡ float_of p
core-result m s p = ap core (first-result m s p) ∙ core-shaped s (scalar (float_of p))

pub depth-result_struct : (m : ResultFunction) (s : ResultShape) (p : ResultPrecision) → depth (result_struct m s p) ≡ float_depth (float_of p)
unfolding result_struct
depth-result_struct m s p = ap float_depth (core-result m s p)

base_depth : {t u : WgslType} {w : ℕ} → BaseStep t u w → depth u ≡ depth t + w
base_depth (result_to_f32 m s) = omega (arith, depth-result_struct m s precision.Abstract, depth-result_struct m s precision.F32)
base_depth (result_to_f16 m s) = omega (arith, depth-result_struct m s precision.Abstract, depth-result_struct m s precision.F16)
base_depth _ = refl

pub step_depth : {t u : WgslType} {w : ℕ} → Step t u w → depth u ≡ depth t + w
step_depth (base b) = base_depth b
step_depth (inside l s) = step_depth s

base_positive : {t u : WgslType} {w : ℕ} → BaseStep t u w → 0 < w
base_positive int_to_float = omega arith
base_positive _ = omega arith

pub step_positive : {t u : WgslType} {w : ℕ} → Step t u w → 0 < w
step_positive (base b) = base_positive b
step_positive (inside l s) = step_positive s

scalar_depth_small : (s : Scalar) → scalar_depth s ≤ 9
scalar_depth_small I32 = omega arith
scalar_depth_small s = omega arith

float_depth_small : (s : Scalar) → float_depth s ≤ 9
float_depth_small F32 = omega arith
float_depth_small _ = omega arith

pub depth_small : (t : WgslType) → depth t ≤ 9
depth_small (scalar s) = scalar_depth_small s
depth_small (within l t) = depth_small t
depth_small (struct n ms) = float_depth_small (core (first ms))
depth_small t = omega arith

-- How many steps lead to a type from its root

abbrev pub scalar_height : Scalar → ℕ
scalar_height I32 = 1
scalar_height U32 = 1
scalar_height I64 = 1
scalar_height U64 = 1
scalar_height AbstractFloat = 1
scalar_height F32 = 2
scalar_height F16 = 2
scalar_height s = 0

abbrev pub float_height : Scalar → ℕ
float_height F32 = 1
float_height F16 = 1
float_height s = 0

abbrev pub height : WgslType → ℕ
height (scalar s) = scalar_height s
height (within l t) = height t
height (struct n ms) = float_height (core (first ms))
height t = 0

height-result_struct : (m : ResultFunction) (s : ResultShape) (p : ResultPrecision) → height (result_struct m s p) ≡ float_height (float_of p)
unfolding result_struct
height-result_struct m s p = ap float_height (core-result m s p)

base_height : {t u : WgslType} {w : ℕ} → BaseStep t u w → height u ≡ height t + 1
base_height (result_to_f32 m s) = omega (arith, height-result_struct m s precision.Abstract, height-result_struct m s precision.F32)
base_height (result_to_f16 m s) = omega (arith, height-result_struct m s precision.Abstract, height-result_struct m s precision.F16)
base_height _ = refl

pub step_height : {t u : WgslType} {w : ℕ} → Step t u w → height u ≡ height t + 1
step_height (base b) = base_height b
step_height (inside l s) = step_height s

scalar_height_small : (s : Scalar) → scalar_height s ≤ 2
scalar_height_small I32 = omega arith
scalar_height_small _ = omega arith

float_height_small : (s : Scalar) → float_height s ≤ 2
float_height_small F32 = omega arith
float_height_small _ = omega arith

pub height_small : (t : WgslType) → height t ≤ 2
height_small (scalar s) = scalar_height_small s
height_small (within l t) = height_small t
height_small (struct n ms) = float_height_small (core (first ms))
height_small t = omega arith

-- Parents; `parent` is meaningless for a type that has none.

abbrev pub parent_scalar : Scalar → Scalar
parent_scalar F32 = AbstractFloat
parent_scalar F16 = AbstractFloat
parent_scalar s = AbstractInt

-- the function and the shape of a result struct
abbrev pub function_in : List ℕ → ResultFunction
function_in n = cond (eqb (get_or n 2 0) 102) Frexp Modf

abbrev pub shape_in : WgslType → ResultShape
shape_in (within (vec_of n) t) = cond (eqb n 2) shape.Vec2 (cond (eqb n 3) shape.Vec3 shape.Vec4)
shape_in t = shape.Scalar

abbrev pub function_of : WgslType → ResultFunction
function_of (struct n ms) = function_in n
function_of t = Frexp

abbrev pub shape_of : WgslType → ResultShape
shape_of (struct n ms) = shape_in (first ms)
shape_of t = shape.Scalar

abbrev pub variant_of : WgslType → ResultPrecision → WgslType
variant_of t p = result_struct (function_of t) (shape_of t) p

abbrev pub parent : WgslType → WgslType
parent (scalar s) = scalar (parent_scalar s)
parent (within l t) = within l (parent t)
parent t = variant_of t precision.Abstract

function_in-text : (m : ResultFunction) (x : List ℕ) → function_in (function_text m ++ x) ≡ m
function_in-text Frexp x = refl
function_in-text Modf x = refl

shape_in-shaped : (s : ResultShape) (x : Scalar) → shape_in (shaped s (scalar x)) ≡ s
shape_in-shaped shape.Scalar x = refl
shape_in-shaped _ x = refl

pub function_of-result_struct : (m : ResultFunction) (s : ResultShape) (p : ResultPrecision) → function_of (result_struct m s p) ≡ m
unfolding result_struct
function_of-result_struct m s p = function_in-text m (shape_text s ++ precision_text p)

pub shape_of-result_struct : (m : ResultFunction) (s : ResultShape) (p : ResultPrecision) → shape_of (result_struct m s p) ≡ s
unfolding result_struct
shape_of-result_struct m s p = ap shape_in (first-result m s p) ∙ shape_in-shaped s (float_of p)

variant_of-result_struct : (m : ResultFunction) (s : ResultShape) (p q : ResultPrecision) → variant_of (result_struct m s p) q ≡ result_struct m s q
variant_of-result_struct m s p q = ap₂ (λ m s. result_struct m s q) (function_of-result_struct m s p) (shape_of-result_struct m s p)

parent-result_struct : (m : ResultFunction) (s : ResultShape) (p : ResultPrecision) → parent (result_struct m s p) ≡ result_struct m s precision.Abstract
unfolding result_struct
parent-result_struct m s p = variant_of-result_struct m s p precision.Abstract

base_parent : {t u : WgslType} {w : ℕ} → BaseStep t u w → parent u ≡ t
base_parent (result_to_f32 m s) = parent-result_struct m s precision.F32
base_parent (result_to_f16 m s) = parent-result_struct m s precision.F16
base_parent _ = refl

pub step_parent : {t u : WgslType} {w : ℕ} → Step t u w → parent u ≡ t
step_parent (base b) = base_parent b
step_parent (inside l s) = ap (λ t. within l t) (step_parent s)

-- The target of a conversion, by the target's rank from the root

abbrev pub scalar_at : ℕ → Scalar
scalar_at d =
    cond (eqb d (scalar_depth I32)) I32 (cond (eqb d (scalar_depth U32)) U32 (cond (eqb d (scalar_depth AbstractFloat)) AbstractFloat
    (cond (eqb d (scalar_depth F32)) F32 (cond (eqb d (scalar_depth I64)) I64 (cond (eqb d (scalar_depth U64)) U64 F16)))))

abbrev pub precision_at : ℕ → ResultPrecision
precision_at d = cond (eqb d (precision_depth precision.F32)) precision.F32 precision.F16

abbrev pub target : WgslType → ℕ → WgslType
target (scalar s) d = scalar (scalar_at d)
target (within l t) d = within l (target t d)
target t d = variant_of t (precision_at d)

target-result_struct : (m : ResultFunction) (s : ResultShape) (p : ResultPrecision) (d : ℕ) → target (result_struct m s p) d ≡ result_struct m s (precision_at d)
unfolding result_struct
target-result_struct m s p d = variant_of-result_struct m s p (precision_at d)

result_target : (m : ResultFunction) (s : ResultShape) (p q : ResultPrecision) (d : ℕ) → depth (result_struct m s q) ≡ d → precision_at d ≡ q → result_struct m s q ≡ target (result_struct m s p) (depth (result_struct m s q))
result_target m s p q d e f = sym (target-result_struct m s p (depth (result_struct m s q)) ∙ ap (λ d. result_struct m s (precision_at d)) e ∙ ap (λ p. result_struct m s p) f)

base_target : {t u : WgslType} {w : ℕ} → BaseStep t u w → u ≡ target t (depth u)
base_target (result_to_f32 m s) = result_target m s precision.Abstract precision.F32 1 (depth-result_struct m s precision.F32) refl
base_target (result_to_f16 m s) = result_target m s precision.Abstract precision.F16 2 (depth-result_struct m s precision.F16) refl
base_target _ = refl

pub step_target : {t u : WgslType} {w : ℕ} → Step t u w → u ≡ target t (depth u)
step_target (base b) = base_target b
step_target (inside l s) = ap (λ t. within l t) (step_target s)

base_family : {t u : WgslType} {w : ℕ} → BaseStep t u w → (d : ℕ) → target t d ≡ target u d
base_family (result_to_f32 m s) d = target-result_struct m s precision.Abstract d ∙ sym (target-result_struct m s precision.F32 d)
base_family (result_to_f16 m s) d = target-result_struct m s precision.Abstract d ∙ sym (target-result_struct m s precision.F16 d)
base_family _ d = refl

pub step_family : {t u : WgslType} {w : ℕ} → Step t u w → (d : ℕ) → target t d ≡ target u d
step_family (base b) d = base_family b d
step_family (inside l s) d = ap (λ t. within l t) (step_family s d)

-- The ends of a step

abbrev pub IsLeaf : WgslType → Type 0
IsLeaf (within l t) = ⊥
IsLeaf (reference s t m) = ⊥
IsLeaf t = Unit {0}

pub result_leaf : (m : ResultFunction) (s : ResultShape) (p : ResultPrecision) → IsLeaf (result_struct m s p)
unfolding result_struct
result_leaf m s p = tt

base_leaves : {t u : WgslType} {w : ℕ} → BaseStep t u w → IsLeaf t × IsLeaf u
base_leaves (result_to_f32 m s) = (result_leaf m s precision.Abstract, result_leaf m s precision.F32)
base_leaves (result_to_f16 m s) = (result_leaf m s precision.Abstract, result_leaf m s precision.F16)
base_leaves _ = (tt, tt)

leaf_value : (t : WgslType) → IsLeaf t → IsValueType t
leaf_value (within l t) h = absurd h
leaf_value (reference s t m) h = absurd h
leaf_value t h = tt

pub step_values : {t u : WgslType} {w : ℕ} → Step t u w → IsValueType t × IsValueType u
step_values (base {t = t} {u = u} b) = (leaf_value t (base_leaves b).0, leaf_value u (base_leaves b).1)
step_values (inside l s) = step_values s

-- a step to or from a layer is a step inside it
pub step_to_within : {t v : WgslType} {w : ℕ} → Step t v w → (l : Layer) (u : WgslType) → v ≡ within l u → (s : WgslType) × (t ≡ within l s) × Step s u w
step_to_within (base {u = v} b) l u e = absurd (subst IsLeaf e (base_leaves b).1)
step_to_within (inside {t = t} {u = v} {w = w} k s) l u e =
    let el : k ≡ l = cc e in
    let eu : v ≡ u = cc e in
    (t, ap (λ k. within k t) el, subst (λ u. Step t u w) eu s)

pub step_from_within : {t v : WgslType} {w : ℕ} → Step t v w → (l : Layer) (u : WgslType) → t ≡ within l u → (s : WgslType) × (v ≡ within l s) × Step u s w
step_from_within (base {t = t} b) l u e = absurd (subst IsLeaf e (base_leaves b).0)
step_from_within (inside {t = t} {u = v} {w = w} k s) l u e =
    let el : k ≡ l = cc e in
    let eu : t ≡ u = cc e in
    (v, ap (λ k. within k v) el, subst (λ u. Step u v w) eu s)

-- Whether a step leads to a type

base_refuted : {t u : WgslType} {w : ℕ} → BaseStep t u w →
    u ≢ scalar AbstractFloat → u ≢ scalar I32 → u ≢ scalar U32 → u ≢ scalar I64 → u ≢ scalar U64 → u ≢ scalar F32 → u ≢ scalar F16 →
    u ≢ variant_of u precision.F32 → u ≢ variant_of u precision.F16 → ⊥
base_refuted int_to_float a b c i j d e f g = a refl
base_refuted int_to_i32 a b c i j d e f g = b refl
base_refuted int_to_u32 a b c i j d e f g = c refl
base_refuted int_to_i64 a b c i j d e f g = i refl
base_refuted int_to_u64 a b c i j d e f g = j refl
base_refuted float_to_f32 a b c i j d e f g = d refl
base_refuted float_to_f16 a b c i j d e f g = e refl
base_refuted (result_to_f32 m s) a b c i j d e f g = f (sym (variant_of-result_struct m s precision.F32 precision.F32))
base_refuted (result_to_f16 m s) a b c i j d e f g = g (sym (variant_of-result_struct m s precision.F16 precision.F16))

abbrev IsBaseChild : WgslType → Type 0
IsBaseChild u = (t : WgslType) × (w : ℕ) × BaseStep t u w

or_else : {u x : WgslType} → Dec (u ≡ x) → (u ≡ x → IsBaseChild u) → (u ≢ x → Dec (IsBaseChild u)) → Dec (IsBaseChild u)
or_else (yes e) child other = yes (child e)
or_else (no n) child other = other n

base_child : (u : WgslType) → Dec (IsBaseChild u)
base_child u =
    or_else (same_type u (scalar AbstractFloat)) (λ e. rw e (_, 5, int_to_float)) (λ a.
    or_else (same_type u (scalar I32)) (λ e. rw e (_, 3, int_to_i32)) (λ b.
    or_else (same_type u (scalar U32)) (λ e. rw e (_, 4, int_to_u32)) (λ c.
    or_else (same_type u (scalar I64)) (λ e. rw e (_, 8, int_to_i64)) (λ i.
    or_else (same_type u (scalar U64)) (λ e. rw e (_, 9, int_to_u64)) (λ j.
    or_else (same_type u (scalar F32)) (λ e. rw e (_, 1, float_to_f32)) (λ d.
    or_else (same_type u (scalar F16)) (λ e. rw e (_, 2, float_to_f16)) (λ e.
    or_else (same_type u (variant_of u precision.F32)) (λ q. subst IsBaseChild (sym q) (_, 1, result_to_f32 (function_of u) (shape_of u))) (λ f.
    or_else (same_type u (variant_of u precision.F16)) (λ q. subst IsBaseChild (sym q) (_, 2, result_to_f16 (function_of u) (shape_of u))) (λ g.
    no (λ h. base_refuted h.2 a b c i j d e f g))))))))))

abbrev pub IsChild : WgslType → Type 0
IsChild u = (t : WgslType) × (w : ℕ) × Step t u w

leaf_child : (u : WgslType) → ((l : Layer) (s : WgslType) → u ≢ within l s) → Dec (IsChild u)
leaf_child u n =
    elim (base_child u) [
      | yes h ↦ yes (h.0, h.1, base h.2)
      | no a ↦ no (λ h. no_leaf_step h.2 n (λ b. a (h.0, h.1, b)))
    ]
  where
    no_leaf_step : {t u : WgslType} {w : ℕ} → Step t u w → ((l : Layer) (s : WgslType) → u ≢ within l s) → (BaseStep t u w → ⊥) → ⊥
    no_leaf_step (base b) n a = a b
    no_leaf_step (inside {u = u} l s) n a = n l u refl

pub child : (u : WgslType) → Dec (IsChild u)
child (within l u) =
    elim (child u) [
      | yes h ↦ yes (within l h.0, h.1, inside l h.2)
      | no a ↦ no (λ h. let k = step_to_within h.2 l u refl in a (k.0, h.1, k.2))
    ]
child u = leaf_child u (λ l s q. cc q)
