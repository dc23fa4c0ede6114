-- The substitutions of an overload that take operands are those that agree with a binding: a condition on each letter alone.
use Rattle.std.proofs.Common.{◌≡◌, ℕ, ◌↔◌, ◌==◌, List, [], ◌∷◌, Option, Some, None, Bool, true, false, cond, refl, sym, ◌∙◌, ap, subst, true≢false, IsTrue, option_map, option_and_then, eq-eqb, eqb-true, Decides}
use Rattle.wgsl_standard.proofs.Common.{Scalar, Component, Count, Shape, Pattern, WgslType, texture, sampler, letter_of, type_eq, type_eq_decides, Dimensions, Single, Vector, Matrix, Operand, Substitution, Binding, count_in, one_or_vector, dimensions_in, component_in, Names, parts_of}
use Rattle.wgsl_syntax.specs.declared.overload.Component.TheVariants.{T, U, V, W, The}
use Rattle.wgsl_syntax.specs.declared.overload.Count.TheVariants.{N, M, K, Exactly}
use Rattle.wgsl_syntax.specs.declared.overload.Shape.TheVariants as shapes
use Rattle.wgsl_syntax.specs.declared.overload.Pattern.TheVariants as patterns
use Rattle.wgsl_standard.specs.internal.Binding.{converts, may_be, join, join_to, with_t, with_u, with_v, with_w, bind_component, same_count, bind_count, same_width, with_width, bind_shape, bind_parts, bind_letter, bind_if, bind, bind_all}
use Rattle.wgsl_standard.proofs.Parts.{pair_of}
use Rattle.wgsl_standard.proofs.Scalars.{Reaches, JoinsTo, joins, concrete_reaches, reaches_itself, may_either}
use Rattle.wgsl_standard.proofs.Letters.{Says, letter_says}

abbrev pub Meets : Bool → Option Scalar → Scalar → Type 0
Meets c None g = Unit {0}
Meets c (Some a) g = Reaches a g × IsTrue (may_be c g)

abbrev pub Same : {A : Type 0} → Option A → A → Type 0
Same None x = Unit {0}
Same (Some y) x = y ≡ x

-- what a binding says of the letters
pub record Agrees (c : Bool) (b : Binding) (i : Substitution) : Type 0 where
  pub t : Meets c b.t i.t
  pub u : Meets c b.u i.u
  pub v : Meets c b.v i.v
  pub w : Meets c b.w i.w
  pub width : Same b.width i.width
  pub n : Same b.n i.n
  pub m : Same b.m i.m
  pub k : Same b.k i.k

-- exactly the substitutions with P agree with the binding; without a binding no substitution has P
abbrev pub Boxes : Bool → (Substitution → Type 0) → Option Binding → Type 0
Boxes c P None = (i : Substitution) → P i → ⊥
Boxes c P (Some b) = (i : Substitution) → P i ↔ Agrees c b i

same_box : (c : Bool) (P Q : Substitution → Type 0) → ((i : Substitution) → P i ↔ Q i) → (r : Option Binding) → Boxes c P r → Boxes c Q r
same_box c P Q e None h = λ i q. h i ((e i).1 q)
same_box c P Q e (Some b) h = λ i. (λ q. (h i).0 ((e i).1 q), λ a. (e i).0 ((h i).1 a))

-- one requirement after another
chain : (c : Bool) (P Q : Substitution → Type 0) (f : Binding → Option Binding) → ((b : Binding) → Boxes c (λ i. Agrees c b i × Q i) (f b)) →
    (r : Option Binding) → Boxes c P r → Boxes c (λ i. P i × Q i) (option_and_then f r)
chain c P Q f k None h = λ i q. h i q.0
chain c P Q f k (Some b) h = same_box c (λ i. Agrees c b i × Q i) (λ i. P i × Q i) (λ i. (λ q. ((h i).1 q.0, q.1), λ q. ((h i).0 q.0, q.1))) (f b) (k b)

-- what one letter requires, if there is anything that it can stand for
boxed : {A : Type 0} (c : Bool) (P : Substitution → Type 0) (Q : Option A → Type 0) (put : A → Binding) → (Q None → Boxes c P None) → ((x : A) → Q (Some x) → Boxes c P (Some (put x))) →
    (r : Option A) → Q r → Boxes c P (option_map put r)
boxed c P Q put none some None q = none q
boxed c P Q put none some (Some x) q = some x q

-- a letter for scalars

abbrev LetterBox : Bool → Option Scalar → Scalar → Option Scalar → Type 0
LetterBox c l s None = (g : Scalar) → Meets c l g → Reaches s g → ⊥
LetterBox c l s (Some r) = (g : Scalar) → (Meets c l g × Reaches s g × IsTrue (may_be c g)) ↔ Meets c (Some r) g

letter_box : (c : Bool) (l : Option Scalar) (s : Scalar) → LetterBox c l s (join_to l s)
letter_box c None s = λ g. (λ h. (h.1, h.2), λ h. (tt, h.0, h.1))
letter_box c (Some a) s = turn (join a s) (joins a s)
  where
    turn : (r : Option Scalar) → JoinsTo a s r → LetterBox c (Some a) s r
    turn None f = λ g m k. f g m.0 k
    turn (Some j) f = λ g. (λ h. ((f g).0 (h.0.0, h.1), h.2), λ h. let q = (f g).1 h.0 in ((q.0, h.1), q.1, h.1))

-- the operand's scalar converts to the component, which may be abstract or need not
abbrev pub Receives : Bool → Substitution → Component → Scalar → Type 0
Receives c i p s = Reaches s (component_in i p) × IsTrue (may_be c (component_in i p))

component_boxes : (c : Bool) (b : Binding) (p : Component) (s : Scalar) → Boxes c (λ i. Agrees c b i × Receives c i p s) (bind_component c b p s)
component_boxes c b T s =
    boxed c (λ i. Agrees c b i × Receives c i T s) (LetterBox c b.t s) (with_t b) (λ f i h. f i.t h.0.t h.1.0)
    (λ r f i. (λ h. assumption ((f i.t).0 (h.0.t, h.1.0, h.1.1)), λ h. assumption ((f i.t).1 h.t))) (join_to b.t s) (letter_box c b.t s)
component_boxes c b U s =
    boxed c (λ i. Agrees c b i × Receives c i U s) (LetterBox c b.u s) (with_u b) (λ f i h. f i.u h.0.u h.1.0)
    (λ r f i. (λ h. assumption ((f i.u).0 (h.0.u, h.1.0, h.1.1)), λ h. assumption ((f i.u).1 h.u))) (join_to b.u s) (letter_box c b.u s)
component_boxes c b V s =
    boxed c (λ i. Agrees c b i × Receives c i V s) (LetterBox c b.v s) (with_v b) (λ f i h. f i.v h.0.v h.1.0)
    (λ r f i. (λ h. assumption ((f i.v).0 (h.0.v, h.1.0, h.1.1)), λ h. assumption ((f i.v).1 h.v))) (join_to b.v s) (letter_box c b.v s)
component_boxes c b W s =
    boxed c (λ i. Agrees c b i × Receives c i W s) (LetterBox c b.w s) (with_w b) (λ f i h. f i.w h.0.w h.1.0)
    (λ r f i. (λ h. assumption ((f i.w).0 (h.0.w, h.1.0, h.1.1)), λ h. assumption ((f i.w).1 h.w))) (join_to b.w s) (letter_box c b.w s)
component_boxes c b (The g) s = by_converts (converts s g) refl
  where
    by_may : (y : Bool) → may_be c g ≡ y → Reaches s g → Boxes c (λ i. Agrees c b i × Receives c i (The g) s) (cond y (Some b) None)
    by_may true e h = λ i. (λ k. k.0, λ k. (k, (h, e)))
    by_may false e h = λ i k. true≢false (sym k.1.1 ∙ e)

    by_converts : (x : Bool) → converts s g ≡ x → Boxes c (λ i. Agrees c b i × Receives c i (The g) s) (cond x (cond (may_be c g) (Some b) None) None)
    by_converts true e = by_may (may_be c g) refl e
    by_converts false e = λ i k. true≢false (sym k.1.0 ∙ e)

-- a letter for numbers

abbrev pub SameBox : {A : Type 0} → Option A → A → Option A → Type 0
SameBox {A} l n None = (x : A) → Same l x → x ≡ n → ⊥
SameBox {A} l n (Some r) = (x : A) → (Same l x × (x ≡ n)) ↔ (r ≡ x)

count_box : (l : Option ℕ) (n : ℕ) → SameBox l n (same_count l n)
count_box None n = λ x. (λ h. sym h.1, λ h. (tt, sym h))
count_box (Some m) n = turn (m == n) refl
  where
    turn : (y : Bool) → (m == n) ≡ y → SameBox (Some m) n (cond y (Some m) None)
    turn true e = λ x. (λ h. h.0, λ h. (h, sym h ∙ eqb-true m n e))
    turn false e = λ x h k. true≢false (sym (eq-eqb m n (h ∙ k)) ∙ e)

count_boxes : (c : Bool) (b : Binding) (p : Count) (n : ℕ) → Boxes c (λ i. Agrees c b i × (count_in i p ≡ n)) (bind_count b p n)
count_boxes c b N n =
    boxed c (λ i. Agrees c b i × (i.n ≡ n)) (SameBox b.n n) (λ x. record b { n = Some x }) (λ f i h. f i.n h.0.n h.1)
    (λ r f i. (λ h. assumption ((f i.n).0 (h.0.n, h.1)), λ h. assumption ((f i.n).1 h.n))) (same_count b.n n) (count_box b.n n)
count_boxes c b M n =
    boxed c (λ i. Agrees c b i × (i.m ≡ n)) (SameBox b.m n) (λ x. record b { m = Some x }) (λ f i h. f i.m h.0.m h.1)
    (λ r f i. (λ h. assumption ((f i.m).0 (h.0.m, h.1)), λ h. assumption ((f i.m).1 h.m))) (same_count b.m n) (count_box b.m n)
count_boxes c b K n =
    boxed c (λ i. Agrees c b i × (i.k ≡ n)) (SameBox b.k n) (λ x. record b { k = Some x }) (λ f i h. f i.k h.0.k h.1)
    (λ r f i. (λ h. assumption ((f i.k).0 (h.0.k, h.1)), λ h. assumption ((f i.k).1 h.k))) (same_count b.k n) (count_box b.k n)
count_boxes c b (Exactly m) n = turn (m == n) refl
  where
    turn : (y : Bool) → (m == n) ≡ y → Boxes c (λ i. Agrees c b i × (m ≡ n)) (cond y (Some b) None)
    turn true e = λ i. (λ h. h.0, λ h. (h, eqb-true m n e))
    turn false e = λ i h. true≢false (sym (eq-eqb m n h.1) ∙ e)

-- a scalar or a vector

width_box : (l : Option (Option ℕ)) (w : Option ℕ) → SameBox l w (same_width l w)
width_box None w = λ x. (λ h. sym h.1, λ h. (tt, sym h))
width_box (Some None) None = λ x. (λ h. h.0, λ h. (h, sym h))
width_box (Some (Some m)) (Some n) = turn (m == n) refl
  where
    turn : (y : Bool) → (m == n) ≡ y → SameBox (Some (Some m)) (Some n) (cond y (Some (Some m)) None)
    turn true e = λ x. (λ h. h.0, λ h. (h, sym h ∙ ap Some (eqb-true m n e)))
    turn false e = λ x h k. let q : Some m ≡ Some n = h ∙ k in true≢false (sym (eq-eqb m n (cc q)) ∙ e)
width_box (Some None) (Some n) = λ x h k. let q : None ≡ Some n = h ∙ k in cc q
width_box (Some (Some m)) None = λ x h k. let q : Some m ≡ None = h ∙ k in cc q

width_boxes : (c : Bool) (b : Binding) (w : Option ℕ) → Boxes c (λ i. Agrees c b i × (i.width ≡ w)) (option_map (with_width b) (same_width b.width w))
width_boxes c b w =
    boxed c (λ i. Agrees c b i × (i.width ≡ w)) (SameBox b.width w) (with_width b) (λ f i h. f i.width h.0.width h.1)
    (λ r f i. (λ h. assumption ((f i.width).0 (h.0.width, h.1)), λ h. assumption ((f i.width).1 h.width))) (same_width b.width w) (width_box b.width w)

width_single : (w : Option ℕ) → (w ≡ None) ↔ (one_or_vector w ≡ Single)
width_single None = (λ h. refl, λ h. refl)
width_single (Some n) = (λ h. absurd (cc h), λ h. absurd (cc h))

width_vector : (w : Option ℕ) (k : ℕ) → (w ≡ Some k) ↔ (one_or_vector w ≡ Vector k)
width_vector None k = (λ h. absurd (cc h), λ h. absurd (cc h))
width_vector (Some n) k = (λ h. cc h, λ h. cc h)

pub width_matrix : (w : Option ℕ) (k l : ℕ) → one_or_vector w ≡ Matrix k l → ⊥
width_matrix None k l h = cc h
width_matrix (Some n) k l h = cc h

shape_boxes : (c : Bool) (b : Binding) (p : Shape) (o : Dimensions) → Boxes c (λ i. Agrees c b i × (dimensions_in i p ≡ o)) (bind_shape b p o)
shape_boxes c b shapes.One Single = λ i. (λ h. h.0, λ h. (h, refl))
shape_boxes c b (shapes.Vector n) (Vector k) =
    same_box c (λ i. Agrees c b i × (count_in i n ≡ k)) (λ i. Agrees c b i × (Vector (count_in i n) ≡ Vector k)) (λ i. (λ h. (h.0, ap Vector h.1), λ h. (h.0, cc (h.1)))) (bind_count b n k) (count_boxes c b n k)
shape_boxes c b (shapes.Matrix m n) (Matrix k l) =
    same_box c (λ i. (Agrees c b i × (count_in i m ≡ k)) × (count_in i n ≡ l)) (λ i. Agrees c b i × (Matrix (count_in i m) (count_in i n) ≡ Matrix k l))
    (λ i. (λ h. (h.0.0, cc (h.0.1, h.1)), λ h. ((h.0, cc (h.1)), cc (h.1))))
    (bind_shape b (shapes.Matrix m n) (Matrix k l))
    (chain c (λ i. Agrees c b i × (count_in i m ≡ k)) (λ i. count_in i n ≡ l) (λ b. bind_count b n l) (λ b. count_boxes c b n l) (bind_count b m k) (count_boxes c b m k))
shape_boxes c b shapes.OneOrVector Single =
    same_box c (λ i. Agrees c b i × (i.width ≡ None)) (λ i. Agrees c b i × (one_or_vector i.width ≡ Single)) (λ i. (λ h. (h.0, (width_single i.width).0 h.1), λ h. (h.0, (width_single i.width).1 h.1))) (option_map (with_width b) (same_width b.width None)) (width_boxes c b None)
shape_boxes c b shapes.OneOrVector (Vector k) =
    same_box c (λ i. Agrees c b i × (i.width ≡ Some k)) (λ i. Agrees c b i × (one_or_vector i.width ≡ Vector k)) (λ i. (λ h. (h.0, (width_vector i.width k).0 h.1), λ h. (h.0, (width_vector i.width k).1 h.1))) (option_map (with_width b) (same_width b.width (Some k))) (width_boxes c b (Some k))
shape_boxes c b shapes.OneOrVector (Matrix k l) = λ i h. width_matrix i.width k l h.1
shape_boxes c b p o = λ i h. cc h.1

-- a parameter that is a value takes an operand that has these parts
abbrev FitsParts : Bool → Substitution → Shape → Component → Dimensions × Scalar → Type 0
FitsParts c i s e d = (dimensions_in i s ≡ d.0) × Receives c i e d.1

parts_boxes : (c : Bool) (b : Binding) (s : Shape) (e : Component) (d : Dimensions × Scalar) → Boxes c (λ i. Agrees c b i × FitsParts c i s e d) (bind_parts c b s e d)
parts_boxes c b s e d =
    same_box c (λ i. (Agrees c b i × (dimensions_in i s ≡ d.0)) × Receives c i e d.1) (λ i. Agrees c b i × FitsParts c i s e d)
    (λ i. (λ h. (h.0.0, (h.0.1, h.1)), λ h. ((h.0, h.1.0), h.1.1)))
    (bind_parts c b s e d)
    (chain c (λ i. Agrees c b i × (dimensions_in i s ≡ d.0)) (λ i. Receives c i e d.1) (λ b. bind_component c b e d.1)
    (λ b. component_boxes c b e d.1) (bind_shape b s d.0) (shape_boxes c b s d.0))

-- a parameter that is a value takes an operand of a type
pub record FitsValue (c : Bool) (i : Substitution) (s : Shape) (e : Component) (t : WgslType) : Type 0 where
  pub scalar : Scalar
  pub parts : parts_of t ≡ Some (dimensions_in i s, scalar)
  pub receives : Receives c i e scalar

-- two parameters that take an operand
pub same_operand : (c : Bool) (i j : Substitution) (s : Shape) (e : Component) (r : Shape) (g : Component) (t : WgslType) → (f : FitsValue c i s e t) → FitsValue c j r g t →
    (dimensions_in i s ≡ dimensions_in j r) × Reaches f.scalar (component_in j g)
same_operand c i j s e r g t f h =
    let k = pair_of (dimensions_in i s, f.scalar) (dimensions_in j r, h.scalar) (sym f.parts ∙ h.parts) in
    (k.0, subst (λ a. Reaches a (component_in j g)) (sym k.1) h.receives.0)

fits_so : (c : Bool) (i : Substitution) (s : Shape) (e : Component) (t : WgslType) (d : Dimensions × Scalar) → parts_of t ≡ Some d → FitsParts c i s e d ↔ FitsValue c i s e t
fits_so c i s e t d q = (
  λ h. record { scalar = d.1; parts = q ∙ ap (λ o. Some (o, d.1)) (sym h.0); receives = h.1 },
  λ f. let k = pair_of d (dimensions_in i s, f.scalar) (sym q ∙ f.parts) in (sym k.0, subst (Receives c i e) (sym k.1) f.receives),
)

value_boxes : (c : Bool) (b : Binding) (s : Shape) (e : Component) (t : WgslType) → Boxes c (λ i. Agrees c b i × FitsValue c i s e t) (option_and_then (bind_parts c b s e) (parts_of t))
value_boxes c b s e t = turn (parts_of t) refl
  where
    turn : (r : Option (Dimensions × Scalar)) → parts_of t ≡ r → Boxes c (λ i. Agrees c b i × FitsValue c i s e t) (option_and_then (bind_parts c b s e) r)
    turn None q = λ i h. let k = sym q ∙ h.1.parts in cc k
    turn (Some d) q = same_box c (λ i. Agrees c b i × FitsParts c i s e d) (λ i. Agrees c b i × FitsValue c i s e t)
        (λ i. (λ h. (h.0, (fits_so c i s e t d q).0 h.1), λ h. (h.0, (fits_so c i s e t d q).1 h.1))) (bind_parts c b s e d) (parts_boxes c b s e d)

-- a type that is asked for
exact_boxes : (c : Bool) (b : Binding) (t u : WgslType) → Boxes c (λ i. Agrees c b i × (t ≡ u)) (bind_if (type_eq t u) b)
exact_boxes c b t u = turn (type_eq t u) (type_eq_decides t u)
  where
    turn : (y : Bool) → Decides y (t ≡ u) → Boxes c (λ i. Agrees c b i × (t ≡ u)) (bind_if y b)
    turn true d = λ i. (λ h. h.0, λ h. (h, d.0 refl))
    turn false d = λ i h. true≢false (sym (d.1 h.1))

-- a texture or a pointer of a set, which is concrete and says what T is

letter_receives : (c : Bool) (s g : Scalar) → IsTrue (may_be true s) → (Reaches s g × IsTrue (may_be c g)) ↔ (s ≡ g)
letter_receives c s g m = (
  λ h. concrete_reaches s g m h.0,
  λ e. subst (λ g. Reaches s g × IsTrue (may_be c g)) e (reaches_itself s, may_either c s m),
)

letter_boxes : (c : Bool) (b : Binding) (P : Type 0) (y : Bool) (l : Option (Option Scalar)) → Says P y l → Boxes c (λ i. Agrees c b i × Names l i.t) (bind_letter c b l)
letter_boxes c b P y None m = λ i h. h.1
letter_boxes c b P y (Some None) m = λ i. (λ h. h.0, λ h. (h, tt))
letter_boxes c b P y (Some (Some s)) m =
    same_box c (λ i. Agrees c b i × Receives c i T s) (λ i. Agrees c b i × (s ≡ i.t))
    (λ i. (λ h. (h.0, (letter_receives c s i.t m.1).0 h.1), λ h. (h.0, (letter_receives c s i.t m.1).1 h.1)))
    (bind_component c b T s) (component_boxes c b T s)

-- a parameter takes an operand
abbrev pub Fit : Bool → Substitution → Pattern → Operand → Type 0
Fit c i (patterns.Value s e) x = FitsValue c i s e x.of_type
Fit c i (patterns.Sampler s) x = x.of_type ≡ sampler s
Fit c i (patterns.Texture t) x = x.of_type ≡ texture t
Fit c i (patterns.Resource r) x = Names (letter_of r x.of_type) i.t

pub bind_boxes : (c : Bool) (b : Binding) (p : Pattern) (x : Operand) → Boxes c (λ i. Agrees c b i × Fit c i p x) (bind c b p x)
bind_boxes c b (patterns.Value s e) x = value_boxes c b s e x.of_type
bind_boxes c b (patterns.Sampler s) x = exact_boxes c b x.of_type (sampler s)
bind_boxes c b (patterns.Texture t) x = exact_boxes c b x.of_type (texture t)
bind_boxes c b (patterns.Resource r) x = letter_boxes c b _ _ (letter_of r x.of_type) (letter_says r x.of_type)

abbrev pub AllFit : Bool → Substitution → List Pattern → List Operand → Type 0
AllFit c i [] [] = Unit {0}
AllFit c i (p ∷ ps) (x ∷ xs) = Fit c i p x × AllFit c i ps xs
AllFit c i ps xs = ⊥

pub all_boxes : (c : Bool) (b : Binding) (ps : List Pattern) (xs : List Operand) → Boxes c (λ i. Agrees c b i × AllFit c i ps xs) (bind_all c b ps xs)
all_boxes c b [] [] = λ i. (λ h. h.0, λ h. (h, tt))
all_boxes c b (p ∷ ps) (x ∷ xs) =
    same_box c (λ i. (Agrees c b i × Fit c i p x) × AllFit c i ps xs) (λ i. Agrees c b i × (Fit c i p x × AllFit c i ps xs))
    (λ i. (λ h. (h.0.0, (h.0.1, h.1)), λ h. ((h.0, h.1.0), h.1.1)))
    (bind_all c b (p ∷ ps) (x ∷ xs))
    (chain c (λ i. Agrees c b i × Fit c i p x) (λ i. AllFit c i ps xs) (λ b. bind_all c b ps xs) (λ b. all_boxes c b ps xs) (bind c b p x) (bind_boxes c b p x))
all_boxes c b ps xs = λ i h. h.1
