-- What operands require of the letters of an overload, as a computation.
use Rattle.std.specs.Prelude.{ℕ, suc, List, [], ◌∷◌, Option, Some, None, Bool, true, false, cond, ◌==◌, option_map, option_and_then}
use Rattle.wgsl_syntax.specs.declared.scalar.Scalar.{Scalar}
use Rattle.wgsl_syntax.specs.declared.scalar.Scalar.TheVariants.{Bool as BoolScalar, AbstractInt, AbstractFloat, I32, U32, F32, F16, I64, U64, F64}
use Rattle.wgsl_syntax.specs.declared.overload.Kind.{Kind}
use Rattle.wgsl_syntax.specs.declared.overload.Component.{Component}
use Rattle.wgsl_syntax.specs.declared.overload.Component.TheVariants.{T, U, V, W, The}
use Rattle.wgsl_syntax.specs.declared.overload.Count.{Count}
use Rattle.wgsl_syntax.specs.declared.overload.Count.TheVariants.{N, M, K, Exactly}
use Rattle.wgsl_syntax.specs.declared.overload.Shape.{Shape}
use Rattle.wgsl_syntax.specs.declared.overload.Shape.TheVariants as shapes
use Rattle.wgsl_syntax.specs.declared.overload.Pattern.{Pattern}
use Rattle.wgsl_syntax.specs.declared.overload.Pattern.TheVariants as patterns
use Rattle.wgsl_syntax.specs.declared.overload.Overload.{Overload}
use Rattle.wgsl_syntax.specs.declared.overload.Dimensions.{Dimensions}
use Rattle.wgsl_syntax.specs.declared.overload.Dimensions.TheVariants.{Single, Vector, Matrix}
use Rattle.wgsl_rules.specs.types.Types.{WgslType, texture, sampler}
use Rattle.wgsl_rules.specs.standard.Resources.{letter_of}
use Rattle.wgsl_rules.specs.standard.Choice.{Operand}
use Rattle.wgsl_syntax.specs.declared.overload.Substitution.{Substitution}
use Rattle.wgsl_standard.specs.declared.binding.Binding.{Binding}
use Rattle.wgsl_rules.specs.standard.Overloads.{kinds_of, patterns_of}
use Rattle.wgsl_rules.specs.standard.LetterKinds.{is_of_kind}
use Rattle.wgsl_core.specs.Equality.{type_eq}
use Rattle.wgsl_standard.specs.internal.Parts.{parts_of}

-- whether the first scalar converts to the second
abbrev pub converts : Scalar → Scalar → Bool
converts BoolScalar BoolScalar = true
converts AbstractInt BoolScalar = false
converts AbstractInt F64 = false
converts AbstractInt s = true
converts AbstractFloat AbstractFloat = true
converts AbstractFloat F32 = true
converts AbstractFloat F16 = true
converts I32 I32 = true
converts U32 U32 = true
converts F32 F32 = true
converts F16 F16 = true
converts I64 I64 = true
converts U64 U64 = true
converts F64 F64 = true
converts a b = false

-- whether a parameter may have this scalar where parameters must be concrete, or need not be
abbrev pub may_be : Bool → Scalar → Bool
may_be true AbstractInt = false
may_be true AbstractFloat = false
may_be c s = true

-- whether parameters must be concrete: an operand isn't a const-expression
abbrev pub must_be_concrete : List Operand → Bool
must_be_concrete [] = false
must_be_concrete (x ∷ xs) = cond x.is_constant (must_be_concrete xs) true

abbrev pub join : Scalar → Scalar → Option Scalar
join a b = cond (converts a b) (Some b) (cond (converts b a) (Some a) None)

-- what a letter stands for, if one more operand converts to it
abbrev pub join_to : Option Scalar → Scalar → Option Scalar
join_to None s = Some s
join_to (Some a) s = join a s

abbrev pub with_t : Binding → Scalar → Binding
with_t b s = record b { t = Some s }

abbrev pub with_u : Binding → Scalar → Binding
with_u b s = record b { u = Some s }

abbrev pub with_v : Binding → Scalar → Binding
with_v b s = record b { v = Some s }

abbrev pub with_w : Binding → Scalar → Binding
with_w b s = record b { w = Some s }

abbrev pub bind_component : Bool → Binding → Component → Scalar → Option Binding
bind_component c b T s = option_map (with_t b) (join_to b.t s)
bind_component c b U s = option_map (with_u b) (join_to b.u s)
bind_component c b V s = option_map (with_v b) (join_to b.v s)
bind_component c b W s = option_map (with_w b) (join_to b.w s)
bind_component c b (The g) s = cond (converts s g) (cond (may_be c g) (Some b) None) None

-- what a letter stands for, if it also stands for n
abbrev pub same_count : Option ℕ → ℕ → Option ℕ
same_count None n = Some n
same_count (Some m) n = cond (m == n) (Some m) None

abbrev pub bind_count : Binding → Count → ℕ → Option Binding
bind_count b N n = option_map (λ x. record b { n = Some x }) (same_count b.n n)
bind_count b M n = option_map (λ x. record b { m = Some x }) (same_count b.m n)
bind_count b K n = option_map (λ x. record b { k = Some x }) (same_count b.k n)
bind_count b (Exactly m) n = cond (m == n) (Some b) None

abbrev pub same_width : Option (Option ℕ) → Option ℕ → Option (Option ℕ)
same_width None w = Some w
same_width (Some None) None = Some None
same_width (Some (Some m)) (Some n) = cond (m == n) (Some (Some m)) None
same_width v w = None

abbrev pub with_width : Binding → Option ℕ → Binding
with_width b w = record b { width = Some w }

abbrev pub bind_shape : Binding → Shape → Dimensions → Option Binding
bind_shape b shapes.One Single = Some b
bind_shape b (shapes.Vector n) (Vector k) = bind_count b n k
bind_shape b (shapes.Matrix c r) (Matrix k l) = option_and_then (λ b. bind_count b r l) (bind_count b c k)
bind_shape b shapes.OneOrVector Single = option_map (with_width b) (same_width b.width None)
bind_shape b shapes.OneOrVector (Vector k) = option_map (with_width b) (same_width b.width (Some k))
bind_shape b p o = None

-- what a parameter that is a value requires, if an operand has these dimensions and components
abbrev pub bind_parts : Bool → Binding → Shape → Component → Dimensions × Scalar → Option Binding
bind_parts c b s e d = option_and_then (λ b. bind_component c b e d.1) (bind_shape b s d.0)

-- what a texture or a pointer requires, by what it says of T
abbrev pub bind_letter : Bool → Binding → Option (Option Scalar) → Option Binding
bind_letter c b None = None
bind_letter c b (Some None) = Some b
bind_letter c b (Some (Some s)) = bind_component c b T s

abbrev pub bind_if : Bool → Binding → Option Binding
bind_if y b = cond y (Some b) None

-- what a parameter requires of an operand with these dimensions and components
abbrev pub bind_value : Bool → Binding → Pattern → Dimensions × Scalar → Option Binding
bind_value c b (patterns.Value s e) d = bind_parts c b s e d
bind_value c b p d = None

abbrev pub bind_pattern : Bool → Binding → Pattern → WgslType → Option Binding
bind_pattern c b (patterns.Value s e) t = option_and_then (bind_parts c b s e) (parts_of t)
bind_pattern c b (patterns.Sampler s) t = bind_if (type_eq t (sampler s)) b
bind_pattern c b (patterns.Texture x) t = bind_if (type_eq t (texture x)) b
bind_pattern c b (patterns.Resource r) t = bind_letter c b (letter_of r t)

abbrev pub bind : Bool → Binding → Pattern → Operand → Option Binding
bind c b p x = bind_pattern c b p x.of_type

abbrev pub bind_all : Bool → Binding → List Pattern → List Operand → Option Binding
bind_all c b [] [] = Some b
bind_all c b (p ∷ ps) (x ∷ xs) = option_and_then (λ b. bind_all c b ps xs) (bind c b p x)
bind_all c b ps xs = None

-- parameters of one type
abbrev pub bind_same : Bool → Binding → Pattern → List Operand → Option Binding
bind_same c b p [] = Some b
bind_same c b p (x ∷ xs) = option_and_then (λ b. bind_same c b p xs) (bind c b p x)

-- nothing is required
abbrev pub free : Binding
free = record { t = None; u = None; v = None; w = None; width = None; n = None; m = None; k = None }

-- the scalars to which one converts, by rank; without one all scalars
abbrev pub targets : Option Scalar → List Scalar
targets (Some AbstractInt) = AbstractInt ∷ I32 ∷ U32 ∷ AbstractFloat ∷ F32 ∷ F16 ∷ I64 ∷ U64 ∷ []
targets (Some AbstractFloat) = AbstractFloat ∷ F32 ∷ F16 ∷ []
targets (Some s) = s ∷ []
targets None = BoolScalar ∷ AbstractInt ∷ I32 ∷ U32 ∷ AbstractFloat ∷ F32 ∷ F16 ∷ I64 ∷ U64 ∷ F64 ∷ []

abbrev pub is_bound : Option Scalar → Bool
is_bound None = false
is_bound (Some s) = true

-- the first scalar of the list that the letter may stand for
abbrev pub first_of_kind : Bool → Kind → List Scalar → Option Scalar
first_of_kind c k [] = None
first_of_kind c k (s ∷ ss) = cond (is_of_kind k s) (cond (may_be c s) (Some s) (first_of_kind c k ss)) (first_of_kind c k ss)

-- the first scalar of the list to which a scalar converts and that the letter may stand for
abbrev pub first_target : Bool → Kind → Scalar → List Scalar → Option Scalar
first_target c k a [] = None
first_target c k a (s ∷ ss) = cond (converts a s) (cond (is_of_kind k s) (cond (may_be c s) (Some s) (first_target c k a ss)) (first_target c k a ss)) (first_target c k a ss)

abbrev pub pick : Bool → Kind → Option Scalar → Option Scalar
pick c k None = first_of_kind false k (targets None)
pick c k (Some a) = first_of_kind c k (targets (Some a))

abbrev pub or_zero : Option ℕ → ℕ
or_zero None = 0
or_zero (Some n) = n

abbrev pub or_none : Option (Option ℕ) → Option ℕ
or_none None = None
or_none (Some w) = w

abbrev pub substitution_at : Binding → Scalar → Scalar → Scalar → Scalar → Substitution
substitution_at b t u v w = record { t = t; u = u; v = v; w = w; width = or_none b.width; n = or_zero b.n; m = or_zero b.m; k = or_zero b.k }

abbrev pub settle : Bool → Overload → Binding → Option Substitution
settle c o b =
    option_and_then (λ t.
    option_and_then (λ u.
    option_and_then (λ v.
    option_map (substitution_at b t u v) (pick c (kinds_of o).3 b.w))
    (pick c (kinds_of o).2 b.v))
    (pick c (kinds_of o).1 b.u))
    (pick c (kinds_of o).0 b.t)

-- the least substitution of the overload that takes the operands
abbrev pub substitution_of : Bool → Overload → List Operand → Option Substitution
substitution_of c o xs = option_and_then (settle c o) (bind_all c free (patterns_of o) xs)

-- the first overload that takes the operands: its index, and its least substitution

abbrev pub later : ℕ × Substitution → ℕ × Substitution
later p = (suc p.0, p.1)

abbrev pub or_later : Option Substitution → Option (ℕ × Substitution) → Option (ℕ × Substitution)
or_later None r = option_map later r
or_later (Some i) r = Some (0, i)

abbrev pub first_of : Bool → List Overload → List Operand → Option (ℕ × Substitution)
first_of c [] xs = None
first_of c (o ∷ os) xs = or_later (substitution_of c o xs) (first_of c os xs)

-- the first parameters, as many as there are operands
abbrev pub bind_first : Bool → Binding → List Pattern → List Operand → Option Binding
bind_first c b ps [] = Some b
bind_first c b (p ∷ ps) (x ∷ xs) = option_and_then (λ b. bind_first c b ps xs) (bind c b p x)
bind_first c b [] (x ∷ xs) = None

abbrev pub is_substitution : Option Substitution → Bool
is_substitution None = false
is_substitution (Some i) = true

abbrev pub takes_first : Overload → List Operand → Bool
takes_first o xs = is_substitution (option_and_then (settle (must_be_concrete xs) o) (bind_first (must_be_concrete xs) free (patterns_of o) xs))

abbrev pub some_takes_first : List Overload → List Operand → Bool
some_takes_first [] xs = false
some_takes_first (o ∷ os) xs = cond (takes_first o xs) true (some_takes_first os xs)

-- the first of the patterns
abbrev pub first_pattern : List Pattern → Option Pattern
first_pattern [] = None
first_pattern (p ∷ ps) = Some p
