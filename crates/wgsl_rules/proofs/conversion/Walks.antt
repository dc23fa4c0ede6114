-- A conversion between nodes is a walk from the target to its parents, until it meets the source.
use Rattle.std.proofs.Common.{◌≡◌, ◌≢◌, ℕ, ◌+◌, ◌-◌, ◌<◌, ◌≤◌, ◌↔◌, Some, None, cond, eqb, refl, sym, ◌∙◌, ap, subst, inl, inr, arith}
use Rattle.wgsl_rules.proofs.Common.{Scalar, AbstractInt, AbstractFloat, I32, U32, F32, F16, I64, U64, AddressSpace, AccessMode, ResultFunction, ResultShape, ResultPrecision, WgslType, scalar, within, reference, float_of, result_struct, MayRead, Node, at_scalar, at_result, type_at, parent_of, rank_from_root}
use Rattle.wgsl_syntax.specs.declared.result_struct.ResultPrecision.TheVariants as precision
use Rattle.wgsl_rules.specs.conversion.Conversion.{BaseStep, int_to_float, int_to_i32, int_to_u32, int_to_i64, int_to_u64, float_to_f32, float_to_f16, result_to_f32, result_to_f16, Step, base, inside, Path, PathOf, Load, load, load_inside, Converts, ConvertsIn}
use Rattle.wgsl_rules.proofs.conversion.Steps.{float_depth, depth, depth-result_struct, height, height_small, step_height, function_of, function_of-result_struct, shape_of, shape_of-result_struct, precision_at, IsLeaf, result_leaf}
use Rattle.wgsl_rules.proofs.conversion.Order.{Above, here, further, above_to_within, along_above}
use Rattle.wgsl_rules.proofs.conversion.Counts.{counted_above, above_counted}

-- Nodes

abbrev precision_in : ℕ → ResultPrecision
precision_in d = cond (eqb d 0) precision.Abstract (precision_at d)

precision_in-depth : (p : ResultPrecision) → precision_in (float_depth (float_of p)) ≡ p
precision_in-depth precision.Abstract = refl
precision_in-depth _ = refl

scalar_no_result : (r : Scalar) (f : ResultFunction) (s : ResultShape) (p : ResultPrecision) → scalar r ≡ result_struct f s p → ⊥
unfolding result_struct
scalar_no_result r f s p e = cc e

-- different nodes have different types
pub type_at_once : (p q : Node) → type_at p ≡ type_at q → p ≡ q
type_at_once (at_scalar s) (at_scalar r) e = let k : s ≡ r = cc e in ap at_scalar k
type_at_once (at_scalar r) (at_result f s p) e = absurd (scalar_no_result r f s p e)
type_at_once (at_result f s p) (at_scalar r) e = absurd (scalar_no_result r f s p (sym e))
type_at_once (at_result f s p) (at_result g r q) e =
    let ef : f ≡ g = sym (function_of-result_struct f s p) ∙ ap function_of e ∙ function_of-result_struct g r q in
    let es : s ≡ r = sym (shape_of-result_struct f s p) ∙ ap shape_of e ∙ shape_of-result_struct g r q in
    let ed : float_depth (float_of p) ≡ float_depth (float_of q) = sym (depth-result_struct f s p) ∙ ap depth e ∙ depth-result_struct g r q in
    let ep : p ≡ q = sym (precision_in-depth p) ∙ ap precision_in ed ∙ precision_in-depth q in
    cc (ef, es, ep)

pub depth-type_at : (p : Node) → depth (type_at p) ≡ rank_from_root p
depth-type_at (at_result f s precision.Abstract) = depth-result_struct f s precision.Abstract
depth-type_at (at_result f s precision.F32) = depth-result_struct f s precision.F32
depth-type_at (at_result f s precision.F16) = depth-result_struct f s precision.F16
depth-type_at _ = refl

node_leaf : (p : Node) → IsLeaf (type_at p)
node_leaf (at_scalar s) = tt
node_leaf (at_result f s p) = result_leaf f s p

-- Steps lead from a parent to a child

-- the nodes that a step is between
record Between (t u : WgslType) (w : ℕ) : Type 0 where
  from : Node
  to : Node
  begins : t ≡ type_at from
  ends : u ≡ type_at to
  parent : parent_of to ≡ Some from
  weighs : rank_from_root to ≡ rank_from_root from + w

base_between : {t u : WgslType} {w : ℕ} → BaseStep t u w → Between t u w
base_between int_to_float = record { from = at_scalar AbstractInt; to = at_scalar AbstractFloat; begins = refl; ends = refl; parent = refl; weighs = refl }
base_between int_to_i32 = record { from = at_scalar AbstractInt; to = at_scalar I32; begins = refl; ends = refl; parent = refl; weighs = refl }
base_between int_to_u32 = record { from = at_scalar AbstractInt; to = at_scalar U32; begins = refl; ends = refl; parent = refl; weighs = refl }
base_between int_to_i64 = record { from = at_scalar AbstractInt; to = at_scalar I64; begins = refl; ends = refl; parent = refl; weighs = refl }
base_between int_to_u64 = record { from = at_scalar AbstractInt; to = at_scalar U64; begins = refl; ends = refl; parent = refl; weighs = refl }
base_between float_to_f32 = record { from = at_scalar AbstractFloat; to = at_scalar F32; begins = refl; ends = refl; parent = refl; weighs = refl }
base_between float_to_f16 = record { from = at_scalar AbstractFloat; to = at_scalar F16; begins = refl; ends = refl; parent = refl; weighs = refl }
base_between (result_to_f32 f s) = record { from = at_result f s precision.Abstract; to = at_result f s precision.F32; begins = refl; ends = refl; parent = refl; weighs = refl }
base_between (result_to_f16 f s) = record { from = at_result f s precision.Abstract; to = at_result f s precision.F16; begins = refl; ends = refl; parent = refl; weighs = refl }

below : (p above q : Node) → above ≡ q → rank_from_root above < rank_from_root p → rank_from_root q < rank_from_root p
below p above q e lower = subst (λ q. rank_from_root q < rank_from_root p) e lower

pub parent_below : (p q : Node) → parent_of p ≡ Some q → rank_from_root q < rank_from_root p
parent_below (at_scalar I32) q e = below (at_scalar I32) (at_scalar AbstractInt) q (cc e) (omega arith)
parent_below (at_scalar U32) q e = below (at_scalar U32) (at_scalar AbstractInt) q (cc e) (omega arith)
parent_below (at_scalar I64) q e = below (at_scalar I64) (at_scalar AbstractInt) q (cc e) (omega arith)
parent_below (at_scalar U64) q e = below (at_scalar U64) (at_scalar AbstractInt) q (cc e) (omega arith)
parent_below (at_scalar AbstractFloat) q e = below (at_scalar AbstractFloat) (at_scalar AbstractInt) q (cc e) (omega arith)
parent_below (at_scalar F32) q e = below (at_scalar F32) (at_scalar AbstractFloat) q (cc e) (omega arith)
parent_below (at_scalar F16) q e = below (at_scalar F16) (at_scalar AbstractFloat) q (cc e) (omega arith)
parent_below (at_result f s precision.F32) q e = below (at_result f s precision.F32) (at_result f s precision.Abstract) q (cc e) (omega arith)
parent_below (at_result f s precision.F16) q e = below (at_result f s precision.F16) (at_result f s precision.Abstract) q (cc e) (omega arith)
parent_below _ q e = absurd (cc e)

abbrev ParentStep : Node → Node → Type 0
ParentStep p q = Step (type_at q) (type_at p) (rank_from_root p - rank_from_root q)

pub parent_step : (p q : Node) → parent_of p ≡ Some q → Step (type_at q) (type_at p) (rank_from_root p - rank_from_root q)
parent_step (at_scalar I32) q e = let k : at_scalar AbstractInt ≡ q = cc e in subst (λ q. ParentStep (at_scalar I32) q) k (base int_to_i32)
parent_step (at_scalar U32) q e = let k : at_scalar AbstractInt ≡ q = cc e in subst (λ q. ParentStep (at_scalar U32) q) k (base int_to_u32)
parent_step (at_scalar I64) q e = let k : at_scalar AbstractInt ≡ q = cc e in subst (λ q. ParentStep (at_scalar I64) q) k (base int_to_i64)
parent_step (at_scalar U64) q e = let k : at_scalar AbstractInt ≡ q = cc e in subst (λ q. ParentStep (at_scalar U64) q) k (base int_to_u64)
parent_step (at_scalar AbstractFloat) q e = let k : at_scalar AbstractInt ≡ q = cc e in subst (λ q. ParentStep (at_scalar AbstractFloat) q) k (base int_to_float)
parent_step (at_scalar F32) q e = let k : at_scalar AbstractFloat ≡ q = cc e in subst (λ q. ParentStep (at_scalar F32) q) k (base float_to_f32)
parent_step (at_scalar F16) q e = let k : at_scalar AbstractFloat ≡ q = cc e in subst (λ q. ParentStep (at_scalar F16) q) k (base float_to_f16)
parent_step (at_result f s precision.F32) q e = let k : at_result f s precision.Abstract ≡ q = cc e in subst (λ q. ParentStep (at_result f s precision.F32) q) k (base (result_to_f32 f s))
parent_step (at_result f s precision.F16) q e = let k : at_result f s precision.Abstract ≡ q = cc e in subst (λ q. ParentStep (at_result f s precision.F16) q) k (base (result_to_f16 f s))
parent_step _ q e = absurd (cc e)

-- a step to a node starts at its parent
pub step_to_node : {t u : WgslType} {w : ℕ} → Step t u w → (p : Node) → u ≡ type_at p →
    (q : Node) × (t ≡ type_at q) × (parent_of p ≡ Some q) × (rank_from_root p ≡ rank_from_root q + w)
step_to_node {t} {u} {w} (base b) p e =
    let k = base_between b in
    let m : p ≡ k.to = type_at_once p k.to (sym e ∙ k.ends) in
    (k.from, k.begins, ap parent_of m ∙ k.parent, ap rank_from_root m ∙ k.weighs)
step_to_node (inside l s) p e = absurd (subst IsLeaf (sym e) (node_leaf p))

-- Ancestors

-- the first node is n parents above the second
pub data Ancestor : Node → Node → ℕ → Type 0 where
  itself : {p : Node} → Ancestor p p 0
  past : {p q r : Node} {n : ℕ} → Ancestor p q n → parent_of r ≡ Some q → Ancestor p r (n + 1)

-- the parent of the first node is one further away
pub ancestor_up : {o p q : Node} {n : ℕ} → parent_of p ≡ Some o → Ancestor p q n → Ancestor o q (n + 1)
ancestor_up e itself = past itself e
ancestor_up e (past a f) = past (ancestor_up e a) f

pub ancestor_above : {p q : Node} {n : ℕ} → Ancestor p q n → Above (type_at p) (type_at q)
ancestor_above itself = here
ancestor_above (past {q = q} {r = r} a e) = further (ancestor_above a) (parent_step r q e)

ancestor_height : {p q : Node} {n : ℕ} → Ancestor p q n → height (type_at q) ≡ height (type_at p) + n
ancestor_height itself = omega arith
ancestor_height (past {q = q} {r = r} a e) = omega (arith, ancestor_height a, step_height (parent_step r q e))

pub ancestor_depth : {p q : Node} {n : ℕ} → Ancestor p q n → rank_from_root p ≤ rank_from_root q
ancestor_depth itself = omega arith
ancestor_depth (past {q = q} {r = r} a e) = omega (arith, ancestor_depth a, parent_below r q e)

pub ancestor_short : {p q : Node} {n : ℕ} → Ancestor p q n → n ≤ 2
ancestor_short {p} {q} a = omega (arith, ancestor_height a, height_small (type_at q))

-- a type above a node is a node
pub above_node : {t u : WgslType} → Above t u → (q : Node) → u ≡ type_at q → (p : Node) × (n : ℕ) × (t ≡ type_at p) × Ancestor p q n
above_node here q e = (q, 0, e, itself)
above_node (further a s) q e =
    let k = step_to_node s q e in
    let m = above_node a k.0 k.1 in
    (m.0, m.1 + 1, m.2, past m.3 k.2)

pub above_ancestor : (p q : Node) → Above (type_at p) (type_at q) → (n : ℕ) × Ancestor p q n
above_ancestor p q a =
    let k = above_node a q refl in
    (k.1, subst (λ p. Ancestor p q k.1) (sym (type_at_once p k.0 k.2)) k.3)

-- The walk, one parent at a time

pub ancestor_parent : {p q r : Node} {n : ℕ} → p ≢ q → parent_of q ≡ Some r → Ancestor p q n → (m : ℕ) × (n ≡ m + 1) × Ancestor p r m
ancestor_parent d e itself = absurd (d refl)
ancestor_parent {p} d e (past {q = q} {n = n} a f) = (n, refl, let k : Some q ≡ _ = sym f ∙ e in subst (λ q. Ancestor p q n) (cc k) a)

pub ancestor_root : {p q : Node} {n : ℕ} → p ≢ q → parent_of q ≡ None → ¬ Ancestor p q n
ancestor_root d e itself = d refl
ancestor_root d e (past {q = q} a f) = let k : None ≡ Some q = sym e ∙ f in cc k

-- Conversion between nodes

load_to_leaf : {t u : WgslType} → Load t u → IsLeaf t → ⊥
load_to_leaf (load s t m h) k = k
load_to_leaf (load_inside l h) k = k

pub ancestor_path : {p q : Node} {n : ℕ} → Ancestor p q n → PathOf (type_at p) (type_at q) (rank_from_root q - rank_from_root p) n
ancestor_path {p} {q} a = above_counted (ancestor_above a) (omega (arith, depth-type_at p, depth-type_at q, ancestor_depth a)) (ancestor_height a)

pub converts_ancestor : (p q : Node) (w : ℕ) → Converts (type_at p) (type_at q) w ↔ ((n : ℕ) × Ancestor p q n) × (w ≡ rank_from_root q - rank_from_root p)
converts_ancestor p q w = (to, back)
  where
    to : Converts (type_at p) (type_at q) w → ((n : ℕ) × Ancestor p q n) × (w ≡ rank_from_root q - rank_from_root p)
    to (inl a) =
        let k = along_above a in
        (above_ancestor p q k.0, omega (arith, k.1, depth-type_at p, depth-type_at q))
    to (inr h) = absurd (load_to_leaf h.0 (node_leaf p))

    back : ((n : ℕ) × Ancestor p q n) × (w ≡ rank_from_root q - rank_from_root p) → Converts (type_at p) (type_at q) w
    back h = inl (subst (λ w. Path (type_at p) (type_at q) w) (sym h.1) (ancestor_path h.0.1).path)

pub converts_in_ancestor : (p q : Node) (w n : ℕ) → ConvertsIn (type_at p) (type_at q) w n ↔ Ancestor p q n × (w ≡ rank_from_root q - rank_from_root p)
converts_in_ancestor p q w n = (to, back)
  where
    to : ConvertsIn (type_at p) (type_at q) w n → Ancestor p q n × (w ≡ rank_from_root q - rank_from_root p)
    to (inl a) =
        let k = (converts_ancestor p q w).0 (inl a.path) in
        let m : k.0.0 ≡ n = omega (arith, (counted_above a).2, ancestor_height k.0.1) in
        (subst (λ n. Ancestor p q n) m k.0.1, k.1)
    to (inr h) = absurd (load_to_leaf h.0 (node_leaf p))

    back : Ancestor p q n × (w ≡ rank_from_root q - rank_from_root p) → ConvertsIn (type_at p) (type_at q) w n
    back h = inl (subst (λ w. PathOf (type_at p) (type_at q) w n) (sym h.1) (ancestor_path h.0))

-- Once equal layers are removed

abbrev pub HaveEqualLayers : WgslType → WgslType → Type 0
HaveEqualLayers (within l t) (within k u) = l ≡ k
HaveEqualLayers t u = ⊥

abbrev ArePlaces : WgslType → WgslType → Type 0
ArePlaces t u = (p : Node) × (q : Node) × (t ≡ type_at p) × (u ≡ type_at q)

above_nodes : {t u : WgslType} → Above t u → ¬ HaveEqualLayers t u → t ≢ u → ArePlaces t u
above_nodes here n d = absurd (d refl)
above_nodes (further a (base b)) n d =
    let k = base_between b in
    let m = above_node (further a (base b)) k.to k.ends in
    (m.0, k.to, m.2, k.ends)
above_nodes {t} (further a (inside {u = u} l s)) n d =
    let k = above_to_within (further a (inside l s)) l u refl in
    absurd (n (subst (λ t. HaveEqualLayers t (within l u)) (sym k.1) refl))

pub converts_nodes : (t u : WgslType) (w : ℕ) → ¬ HaveEqualLayers t u → t ≢ u → ¬ Load t u → Converts t u w →
    (p : Node) × (q : Node) × (t ≡ type_at p) × (u ≡ type_at q)
converts_nodes t u w n d m (inl a) = above_nodes (along_above a).0 n d
converts_nodes t u w n d m (inr h) = absurd (m h.0)

-- without equal layers, a load is a load of a reference
pub load_bare : {t u : WgslType} → ¬ HaveEqualLayers t u → Load t u → (s : AddressSpace) × (m : AccessMode) × (t ≡ reference s u m) × MayRead m
load_bare n (load s t m h) = (s, m, refl, h)
load_bare n (load_inside l h) = absurd (n refl)
