-- Structs of two members, recognised as those that `frexp` and `modf` return.
use Rattle.std.proofs.Common.{◌≡◌, ◌↔◌, ℕ, suc, List, [], ◌∷◌, length, get_or, Option, Some, None, refl, sym, ap, ◌∙◌, subst, append_assoc, arith, codes, string_bytes, rules}
use Rattle.wgsl_core.proofs.Common.{ResultFunction, Frexp, Modf, ResultShape, ResultPrecision, ResultStruct, result_name, function_text, shape_text, precision_text, WgslType, scalar, struct, vec, Members, no_members, member, shaped, float_of, result_struct, result_members, Node, at_scalar, at_result, type_at_once, Member, view, struct_view, member_view, members_view, scalar_of, struct_type, result_type, plain, the_lemmas, StructType, out-StructType, StructMemberType, out-StructMemberType}
use Rattle.wgsl_syntax.specs.declared.result_struct.ResultShape.TheVariants as shape
use Rattle.wgsl_syntax.specs.declared.result_struct.ResultPrecision.TheVariants as precision
use Rattle.wgsl_core.specs.internal.ResultStruct.{second_member, IsResult, shape_in, function_at}

-- Structs of two members

abbrev two_members : Member → Member → Members
two_members a b = member a.name a.ty a.size a.align (member b.name b.ty b.size b.align no_members)

abbrev first_member : ResultStruct → Member
first_member r = plain (codes "fract") (shaped r.shape (scalar (float_of r.precision)))

result_is : (r : ResultStruct) → result_type r ≡ struct (result_name r) (two_members (first_member r) (second_member r.function r.shape r.precision))
unfolding result_struct
result_is r = ap (λ n. struct n (result_members r.function r.shape r.precision)) (sym (append_assoc (function_text r.function) (shape_text r.shape) (precision_text r.precision)))
    ∙ ap (struct (result_name r)) (of_members r.function r.shape r.precision)
  where
    of_members : (f : ResultFunction) (s : ResultShape) (p : ResultPrecision) →
        result_members f s p ≡ two_members (plain (codes "fract") (shaped s (scalar (float_of p)))) (second_member f s p)
    of_members Frexp s p = refl
    of_members Modf s p = refl

abbrev name_of : WgslType → List ℕ
name_of (struct n ms) = n
name_of t = []

abbrev members_in : WgslType → Members
members_in (struct n ms) = ms
members_in t = no_members

abbrev count : Members → ℕ
count no_members = 0
count (member n t s a ms) = suc (count ms)

abbrev head : Member → Members → Member
head m no_members = m
head m (member n t s a ms) = record { name = n; ty = t; size = s; align = a }

abbrev tail : Members → Members
tail no_members = no_members
tail (member n t s a ms) = ms

-- a struct of two members is a result struct exactly if its name and its members are
pub whole : (name : List ℕ) (a b : Member) (r : ResultStruct) → IsResult name a b r ↔ (struct name (two_members a b) ≡ result_type r)
whole name a b r = (to, from)
  where
    to : IsResult name a b r → struct name (two_members a b) ≡ result_type r
    to h = (λ i. struct (h.0 i) (two_members (h.1 i) (h.2 i))) ∙ sym (result_is r)

    from : struct name (two_members a b) ≡ result_type r → IsResult name a b r
    from e =
        let k : struct name (two_members a b) ≡ struct (result_name r) (two_members (first_member r) (second_member r.function r.shape r.precision)) = e ∙ result_is r in
        (ap name_of k, ap (λ t. head a (members_in t)) k, ap (λ t. head a (tail (members_in t))) k)

-- The result struct by its members

shape_told : (s : ResultShape) (p : ResultPrecision) → shape_in (shaped s (scalar (float_of p))) ≡ Some (s, p)
shape_told shape.Scalar precision.Abstract = refl
shape_told shape.Scalar precision.F32 = refl
shape_told shape.Scalar precision.F16 = refl
shape_told shape.Vec2 precision.Abstract = refl
shape_told shape.Vec2 precision.F32 = refl
shape_told shape.Vec2 precision.F16 = refl
shape_told shape.Vec3 precision.Abstract = refl
shape_told shape.Vec3 precision.F32 = refl
shape_told shape.Vec3 precision.F16 = refl
shape_told shape.Vec4 precision.Abstract = refl
shape_told shape.Vec4 precision.F32 = refl
shape_told shape.Vec4 precision.F16 = refl

function_told : (f : ResultFunction) (s : ResultShape) (p : ResultPrecision) → function_at (second_member f s p).name ≡ Some f
function_told Frexp s p = refl
function_told Modf s p = refl

abbrev function_in : Node → ResultFunction
function_in (at_result f s p) = f
function_in (at_scalar s) = Frexp

abbrev shape_at_node : Node → ResultShape
shape_at_node (at_result f s p) = s
shape_at_node (at_scalar s) = shape.Scalar

abbrev precision_in : Node → ResultPrecision
precision_in (at_result f s p) = p
precision_in (at_scalar s) = precision.Abstract

-- a type is at most one result struct
one_result : (q r : ResultStruct) → result_type q ≡ result_type r → q ≡ r
one_result q r e =
    let k = type_at_once (at_result q.function q.shape q.precision) (at_result r.function r.shape r.precision) e in
    λ i. record { function = function_in (k i); shape = shape_at_node (k i); precision = precision_in (k i) }

-- Structs in code

pub view-struct : (s : StructType) → struct_type (struct_view s) ≡ struct (string_bytes (out-StructType s).name) (members_view ((out-StructType s).members).items)
view-struct s = search (rules, the_lemmas)

count_of : (ms : List StructMemberType) → count (members_view ms) ≡ length ms
count_of [] = refl
count_of (m ∷ ms) = ap suc (count_of ms)

abbrev Told : Option ResultStruct → WgslType → Type 0
Told o t = (r : ResultStruct) → (o ≡ Some r) ↔ (t ≡ result_type r)

refuted : (t : WgslType) → ((r : ResultStruct) → t ≡ result_type r → ⊥) → Told None t
refuted t h r = (λ e. absurd (cc e), λ e. absurd (h r e))

pub not_two : (s : StructType) (xs : List StructMemberType) → xs ≡ ((out-StructType s).members).items → (length xs ≡ 2 → ⊥) → Told None (struct_type (struct_view s))
not_two s xs e h = refuted _ (λ r k.
    let c : count (members_in (struct_type (struct_view s))) ≡ 2 = ap (λ t. count (members_in t)) (k ∙ result_is r) in
    let d : count (members_in (struct_type (struct_view s))) ≡ length xs =
    ap (λ t. count (members_in t)) (view-struct s) ∙ (count_of _ ∙ ap length (sym e)) in
    h (sym d ∙ c))

two : (xs : List StructMemberType) (x y : StructMemberType) → length xs ≡ 2 → x ≡ get_or xs 0 x → y ≡ get_or xs 1 y → xs ≡ x ∷ y ∷ []
two [] x y h p q = absurd (omega arith)
two (z ∷ []) x y h p q = absurd (omega arith)
two (z ∷ w ∷ []) x y h p q = cc (p, q)
two (z ∷ w ∷ v ∷ vs) x y h p q = absurd (omega arith)

abbrev Items : StructType → List StructMemberType → StructMemberType → StructMemberType → Type 0
Items s xs x y = (xs ≡ ((out-StructType s).members).items) × (length xs ≡ 2) × (x ≡ get_or xs 0 x) × (y ≡ get_or xs 1 y)

parts : (s : StructType) (xs : List StructMemberType) (x y : StructMemberType) → Items s xs x y → (r : ResultStruct) →
    IsResult (string_bytes (out-StructType s).name) (member_view x) (member_view y) r ↔ (struct_type (struct_view s) ≡ result_type r)
parts s xs x y h r =
    let seen : struct_type (struct_view s) ≡ struct (string_bytes (out-StructType s).name) (two_members (member_view x) (member_view y)) =
    view-struct s ∙ ap (λ ms. struct (string_bytes (out-StructType s).name) (members_view ms)) (sym h.0 ∙ two xs x y h.1 h.2 h.3) in
    let w = whole (string_bytes (out-StructType s).name) (member_view x) (member_view y) r in
    (λ k. seen ∙ w.0 k, λ e. w.1 (sym seen ∙ e))

pub view-ty : (m : StructMemberType) → (member_view m).ty ≡ view (out-StructMemberType m).ty
view-ty m = search (rules, the_lemmas)

view-name : (m : StructMemberType) → (member_view m).name ≡ string_bytes (out-StructMemberType m).name
view-name m = search (rules, the_lemmas)

shape_seen : (a b : Member) (name : List ℕ) (r : ResultStruct) → IsResult name a b r → shape_in a.ty ≡ Some (r.shape, r.precision)
shape_seen a b name r h = ap (λ (m : Member). shape_in m.ty) h.1 ∙ shape_told r.shape r.precision

function_seen : (a b : Member) (name : List ℕ) (r : ResultStruct) → IsResult name a b r → function_at b.name ≡ Some r.function
function_seen a b name r h = ap (λ (m : Member). function_at m.name) h.2 ∙ function_told r.function r.shape r.precision

pub without_shape : (s : StructType) (xs : List StructMemberType) (x y : StructMemberType) → Items s xs x y →
    shape_in (view (out-StructMemberType x).ty) ≡ None → Told None (struct_type (struct_view s))
without_shape s xs x y h none = refuted _ (λ r e.
    let k = shape_seen (member_view x) (member_view y) _ r ((parts s xs x y h r).1 e) in
    let m : Some (r.shape, r.precision) ≡ None = sym k ∙ (ap shape_in (view-ty x) ∙ none) in
    absurd (cc m))

pub without_function : (s : StructType) (xs : List StructMemberType) (x y : StructMemberType) → Items s xs x y →
    function_at (string_bytes (out-StructMemberType y).name) ≡ None → Told None (struct_type (struct_view s))
without_function s xs x y h none = refuted _ (λ r e.
    let k = function_seen (member_view x) (member_view y) _ r ((parts s xs x y h r).1 e) in
    let m : Some r.function ≡ None = sym k ∙ (ap function_at (view-name y) ∙ none) in
    absurd (cc m))

pub found : (s : StructType) (xs : List StructMemberType) (x y : StructMemberType) (name : List ℕ) → Items s xs x y → (q : ResultStruct) →
    name ≡ string_bytes (out-StructType s).name → IsResult name (member_view x) (member_view y) q → Told (Some q) (struct_type (struct_view s))
found s xs x y name h q e k r =
    let is = (parts s xs x y h q).0 (subst (λ n. IsResult n (member_view x) (member_view y) q) e k) in
    (λ e. let f : q ≡ r = cc e in subst (λ r. struct_type (struct_view s) ≡ result_type r) f is, λ e. ap Some (one_result q r (sym is ∙ e)))

pub another : (s : StructType) (xs : List StructMemberType) (x y : StructMemberType) (name : List ℕ) → Items s xs x y → (q : ResultStruct) →
    shape_in (view (out-StructMemberType x).ty) ≡ Some (q.shape, q.precision) → function_at (string_bytes (out-StructMemberType y).name) ≡ Some q.function →
    name ≡ string_bytes (out-StructType s).name → ¬ IsResult name (member_view x) (member_view y) q → Told None (struct_type (struct_view s))
another s xs x y name h q shape function is other = refuted _ (λ r e.
    let k = (parts s xs x y h r).1 e in
    let m : Some (r.shape, r.precision) ≡ Some (q.shape, q.precision) = sym (shape_seen (member_view x) (member_view y) _ r k) ∙ (ap shape_in (view-ty x) ∙ shape) in
    let n : Some r.function ≡ Some q.function = sym (function_seen (member_view x) (member_view y) _ r k) ∙ (ap function_at (view-name y) ∙ function) in
    let f : r.function ≡ q.function = cc n in
    let d : (r.shape, r.precision) ≡ (q.shape, q.precision) = cc m in
    let g : r.shape ≡ q.shape = ap (λ (z : ResultShape × ResultPrecision). z.0) d in
    let p : r.precision ≡ q.precision = ap (λ (z : ResultShape × ResultPrecision). z.1) d in
    let z : r ≡ q = λ i. record { function = f i; shape = g i; precision = p i } in
    other (subst (λ n. IsResult n (member_view x) (member_view y) q) (sym is)
    (subst (λ r. IsResult (string_bytes (out-StructType s).name) (member_view x) (member_view y) r) z k)))
