-- Which letters a binding binds: each letter for a scalar that the parameters have.
use Rattle.std.proofs.Common.{◌≡◌, ℕ, ◌==◌, List, [], ◌∷◌, Option, Some, None, Bool, true, false, cond, refl, subst, IsTrue, option_map, option_and_then}
use Rattle.wgsl_standard.proofs.Common.{Scalar, Component, Count, Shape, Pattern, texture, sampler, letter_of, type_eq, Dimensions, Single, Vector, Matrix, Operand, Binding, parts_of}
use Rattle.wgsl_syntax.specs.declared.overload.Component.TheVariants.{T, U, V, W, The}
use Rattle.wgsl_syntax.specs.declared.overload.Count.TheVariants.{N, M, K, Exactly}
use Rattle.wgsl_syntax.specs.declared.overload.Shape.TheVariants as shapes
use Rattle.wgsl_syntax.specs.declared.overload.Pattern.TheVariants as patterns
use Rattle.wgsl_standard.specs.internal.Binding.{converts, may_be, join_to, with_t, with_u, with_v, with_w, bind_component, same_count, bind_count, same_width, with_width, bind_shape, bind_parts, bind_letter, bind, bind_all, is_bound}

abbrev pub Binds : Binding → Component → Type 0
Binds b T = IsTrue (is_bound b.t)
Binds b U = IsTrue (is_bound b.u)
Binds b V = IsTrue (is_bound b.v)
Binds b W = IsTrue (is_bound b.w)
Binds b (The g) = Unit {0}

-- what holds of the binding, if there is one
abbrev Kept : (Binding → Type 0) → Option Binding → Type 0
Kept Q None = Unit {0}
Kept Q (Some b) = Q b

always : (r : Option Binding) → Kept (λ b. Unit {0}) r
always None = tt
always (Some b) = tt

kept_chain : (P Q : Binding → Type 0) (f : Binding → Option Binding) → ((b : Binding) → P b → Kept Q (f b)) → (r : Option Binding) → Kept P r → Kept Q (option_and_then f r)
kept_chain P Q f k None h = tt
kept_chain P Q f k (Some b) h = k b h

kept_map : {A : Type 0} (Q : Binding → Type 0) (f : A → Binding) → ((x : A) → Q (f x)) → (r : Option A) → Kept Q (option_map f r)
kept_map Q f k None = tt
kept_map Q f k (Some x) = k x

kept_if : (Q : Binding → Type 0) (b : Binding) → Q b → (y : Bool) → Kept Q (cond y (Some b) None)
kept_if Q b h true = h
kept_if Q b h false = tt

kept_twice : (Q : Binding → Type 0) (b : Binding) → Q b → (x y : Bool) → Kept Q (cond x (cond y (Some b) None) None)
kept_twice Q b h true y = kept_if Q b h y
kept_twice Q b h false y = tt

-- a change of the other letters
same_binds : (b d : Binding) → b.t ≡ d.t → b.u ≡ d.u → b.v ≡ d.v → b.w ≡ d.w → (q : Component) → Binds b q → Binds d q
same_binds b d e f g k T h = subst (λ l. IsTrue (is_bound l)) e h
same_binds b d e f g k U h = subst (λ l. IsTrue (is_bound l)) f h
same_binds b d e f g k V h = subst (λ l. IsTrue (is_bound l)) g h
same_binds b d e f g k W h = subst (λ l. IsTrue (is_bound l)) k h
same_binds b d e f g k (The s) h = tt

count_keeps : (q : Component) (b : Binding) → Binds b q → (p : Count) (n : ℕ) → Kept (λ b. Binds b q) (bind_count b p n)
count_keeps q b h N n = kept_map (λ b. Binds b q) (λ x. record b { n = Some x }) (λ x. same_binds b (record b { n = Some x }) refl refl refl refl q h) (same_count b.n n)
count_keeps q b h M n = kept_map (λ b. Binds b q) (λ x. record b { m = Some x }) (λ x. same_binds b (record b { m = Some x }) refl refl refl refl q h) (same_count b.m n)
count_keeps q b h K n = kept_map (λ b. Binds b q) (λ x. record b { k = Some x }) (λ x. same_binds b (record b { k = Some x }) refl refl refl refl q h) (same_count b.k n)
count_keeps q b h (Exactly m) n = kept_if (λ b. Binds b q) b h (m == n)

shape_keeps : (q : Component) (b : Binding) → Binds b q → (p : Shape) (o : Dimensions) → Kept (λ b. Binds b q) (bind_shape b p o)
shape_keeps q b h shapes.One Single = h
shape_keeps q b h (shapes.Vector n) (Vector k) = count_keeps q b h n k
shape_keeps q b h (shapes.Matrix c r) (Matrix k l) = kept_chain (λ b. Binds b q) (λ b. Binds b q) (λ b. bind_count b r l) (λ b h. count_keeps q b h r l) (bind_count b c k) (count_keeps q b h c k)
shape_keeps q b h shapes.OneOrVector Single = kept_map (λ b. Binds b q) (with_width b) (λ x. same_binds b (with_width b x) refl refl refl refl q h) (same_width b.width None)
shape_keeps q b h shapes.OneOrVector (Vector k) = kept_map (λ b. Binds b q) (with_width b) (λ x. same_binds b (with_width b x) refl refl refl refl q h) (same_width b.width (Some k))
shape_keeps q b h p o = tt

with_t_binds : (b : Binding) (s : Scalar) (q : Component) → Binds b q → Binds (with_t b s) q
with_t_binds b s T h = refl
with_t_binds b s q h = h

with_u_binds : (b : Binding) (s : Scalar) (q : Component) → Binds b q → Binds (with_u b s) q
with_u_binds b s U h = refl
with_u_binds b s q h = h

with_v_binds : (b : Binding) (s : Scalar) (q : Component) → Binds b q → Binds (with_v b s) q
with_v_binds b s V h = refl
with_v_binds b s q h = h

with_w_binds : (b : Binding) (s : Scalar) (q : Component) → Binds b q → Binds (with_w b s) q
with_w_binds b s W h = refl
with_w_binds b s q h = h

component_keeps : (c : Bool) (q : Component) (b : Binding) → Binds b q → (p : Component) (s : Scalar) → Kept (λ b. Binds b q) (bind_component c b p s)
component_keeps c q b h T s = kept_map (λ b. Binds b q) (with_t b) (λ x. with_t_binds b x q h) (join_to b.t s)
component_keeps c q b h U s = kept_map (λ b. Binds b q) (with_u b) (λ x. with_u_binds b x q h) (join_to b.u s)
component_keeps c q b h V s = kept_map (λ b. Binds b q) (with_v b) (λ x. with_v_binds b x q h) (join_to b.v s)
component_keeps c q b h W s = kept_map (λ b. Binds b q) (with_w b) (λ x. with_w_binds b x q h) (join_to b.w s)
component_keeps c q b h (The g) s = kept_twice (λ b. Binds b q) b h (converts s g) (may_be c g)

component_binds : (c : Bool) (b : Binding) (p : Component) (s : Scalar) → Kept (λ b. Binds b p) (bind_component c b p s)
component_binds c b T s = kept_map (λ b. Binds b T) (with_t b) (λ x. refl) (join_to b.t s)
component_binds c b U s = kept_map (λ b. Binds b U) (with_u b) (λ x. refl) (join_to b.u s)
component_binds c b V s = kept_map (λ b. Binds b V) (with_v b) (λ x. refl) (join_to b.v s)
component_binds c b W s = kept_map (λ b. Binds b W) (with_w b) (λ x. refl) (join_to b.w s)
component_binds c b (The g) s = kept_twice (λ b. Binds b (The g)) b tt (converts s g) (may_be c g)

parts_keep : (c : Bool) (q : Component) (b : Binding) → Binds b q → (s : Shape) (e : Component) (d : Dimensions × Scalar) → Kept (λ b. Binds b q) (bind_parts c b s e d)
parts_keep c q b h s e d =
    kept_chain (λ b. Binds b q) (λ b. Binds b q) (λ b. bind_component c b e d.1) (λ b h. component_keeps c q b h e d.1)
    (bind_shape b s d.0) (shape_keeps q b h s d.0)

parts_bind : (c : Bool) (b : Binding) (s : Shape) (e : Component) (d : Dimensions × Scalar) → Kept (λ b. Binds b e) (bind_parts c b s e d)
parts_bind c b s e d =
    kept_chain (λ b. Unit {0}) (λ b. Binds b e) (λ b. bind_component c b e d.1) (λ b h. component_binds c b e d.1)
    (bind_shape b s d.0) (always (bind_shape b s d.0))

-- a property of each binding that is made for the parts, if there are any
if_parts : (Q : Binding → Type 0) (f : Dimensions × Scalar → Option Binding) → ((d : Dimensions × Scalar) → Kept Q (f d)) → (r : Option (Dimensions × Scalar)) → Kept Q (option_and_then f r)
if_parts Q f h None = tt
if_parts Q f h (Some d) = h d

letter_keeps : (c : Bool) (q : Component) (b : Binding) → Binds b q → (l : Option (Option Scalar)) → Kept (λ b. Binds b q) (bind_letter c b l)
letter_keeps c q b h None = tt
letter_keeps c q b h (Some None) = h
letter_keeps c q b h (Some (Some s)) = component_keeps c q b h T s

bind_keeps : (c : Bool) (q : Component) (b : Binding) → Binds b q → (p : Pattern) (x : Operand) → Kept (λ b. Binds b q) (bind c b p x)
bind_keeps c q b h (patterns.Value s e) x = if_parts (λ b. Binds b q) (bind_parts c b s e) (parts_keep c q b h s e) (parts_of x.of_type)
bind_keeps c q b h (patterns.Sampler s) x = kept_if (λ b. Binds b q) b h (type_eq x.of_type (sampler s))
bind_keeps c q b h (patterns.Texture t) x = kept_if (λ b. Binds b q) b h (type_eq x.of_type (texture t))
bind_keeps c q b h (patterns.Resource r) x = letter_keeps c q b h (letter_of r x.of_type)

-- a parameter that is a value binds the letter of its components
abbrev pub BindsFor : Pattern → Binding → Type 0
BindsFor (patterns.Value s e) b = Binds b e
BindsFor p b = Unit {0}

bind_binds : (c : Bool) (b : Binding) (p : Pattern) (x : Operand) → Kept (BindsFor p) (bind c b p x)
bind_binds c b (patterns.Value s e) x = if_parts (λ b. Binds b e) (bind_parts c b s e) (parts_bind c b s e) (parts_of x.of_type)
bind_binds c b p x = always (bind c b p x)

all_keeps : (c : Bool) (q : Component) (b : Binding) → Binds b q → (ps : List Pattern) (xs : List Operand) → Kept (λ b. Binds b q) (bind_all c b ps xs)
all_keeps c q b h [] [] = h
all_keeps c q b h (p ∷ ps) (x ∷ xs) = kept_chain (λ b. Binds b q) (λ b. Binds b q) (λ b. bind_all c b ps xs) (λ b h. all_keeps c q b h ps xs) (bind c b p x) (bind_keeps c q b h p x)
all_keeps c q b h ps xs = tt

all_keep_for : (c : Bool) (p : Pattern) (b : Binding) → BindsFor p b → (ps : List Pattern) (xs : List Operand) → Kept (BindsFor p) (bind_all c b ps xs)
all_keep_for c (patterns.Value s e) b h ps xs = all_keeps c e b h ps xs
all_keep_for c p b h ps xs = always (bind_all c b ps xs)

abbrev pub BindsAll : List Pattern → Binding → Type 0
BindsAll [] b = Unit {0}
BindsAll (p ∷ ps) b = BindsFor p b × BindsAll ps b

both : (P Q : Binding → Type 0) (r : Option Binding) → Kept P r → Kept Q r → Kept (λ b. P b × Q b) r
both P Q None h k = tt
both P Q (Some b) h k = (h, k)

all_binds : (c : Bool) (b : Binding) (ps : List Pattern) (xs : List Operand) → Kept (BindsAll ps) (bind_all c b ps xs)
all_binds c b [] [] = tt
all_binds c b (p ∷ ps) (x ∷ xs) =
    kept_chain (BindsFor p) (BindsAll (p ∷ ps)) (λ b. bind_all c b ps xs)
    (λ b h. both (BindsFor p) (BindsAll ps) (bind_all c b ps xs) (all_keep_for c p b h ps xs) (all_binds c b ps xs))
    (bind c b p x) (bind_binds c b p x)
all_binds c b ps xs = tt

pub binding_binds : (c : Bool) (b f : Binding) (ps : List Pattern) (xs : List Operand) → bind_all c b ps xs ≡ Some f → BindsAll ps f
binding_binds c b f ps xs e = turn (bind_all c b ps xs) e (all_binds c b ps xs)
  where
    turn : (r : Option Binding) → r ≡ Some f → Kept (BindsAll ps) r → BindsAll ps f
    turn None e h = absurd (cc e)
    turn (Some b) e h = let q : b ≡ f = cc e in subst (BindsAll ps) q h
