-- A test of tables: whether of each two overloads the first is preferred wherever both take operands, and whether
-- parameters determine results.
use Rattle.std.specs.Prelude.{List, [], ◌∷◌, Bool, true, false, not, ◌&&◌, ◌||◌, ◌==◌, nat_lt, nat_le}
use Rattle.std.specs.List.{list_all}
use Rattle.wgsl_syntax.specs.declared.scalar.Scalar.{Scalar}
use Rattle.wgsl_syntax.specs.Scalar.{scalars}
use Rattle.wgsl_syntax.specs.declared.overload.Component.{Component}
use Rattle.wgsl_syntax.specs.declared.overload.Component.TheVariants.{T, U, V, W, The}
use Rattle.wgsl_syntax.specs.declared.overload.Count.{Count}
use Rattle.wgsl_syntax.specs.declared.overload.Count.TheVariants.{N, Exactly}
use Rattle.wgsl_syntax.specs.declared.overload.Shape.{Shape}
use Rattle.wgsl_syntax.specs.declared.overload.Shape.TheVariants as shapes
use Rattle.wgsl_syntax.specs.declared.overload.Pattern.{Pattern}
use Rattle.wgsl_syntax.specs.declared.overload.Pattern.TheVariants as patterns
use Rattle.wgsl_syntax.specs.declared.overload.Overload.{Overload}
use Rattle.wgsl_rules.specs.internal.Nodes.{scalar_depth}
use Rattle.wgsl_rules.specs.standard.Overloads.{kinds_of, patterns_of}
use Rattle.wgsl_rules.specs.standard.LetterKinds.{is_of_kind}
use Rattle.wgsl_standard.specs.internal.Binding.{converts}
use Rattle.wgsl_standard.specs.internal.Groups.{group_of}
use Rattle.wgsl_standard.specs.internal.FixedResults.{has_one_result}

-- whether a component may stand for a scalar
abbrev pub may_stand : Overload → Component → Scalar → Bool
may_stand o T g = is_of_kind (kinds_of o).0 g
may_stand o U g = is_of_kind (kinds_of o).1 g
may_stand o V g = is_of_kind (kinds_of o).2 g
may_stand o W g = is_of_kind (kinds_of o).3 g
may_stand o (The s) g = converts s g && converts g s

-- whether the test holds of all scalars s, g and h of which s converts to g, the one component, and to h, the other
abbrev pub all_taken : (Scalar → Scalar → Bool) → Overload → Component → Overload → Component → Bool
all_taken f o a p b = list_all (λ g. not (may_stand o a g) || list_all (λ h. not (may_stand p b h) || (list_all (λ s. not (converts s g && converts s h)) scalars || f g h)) scalars) scalars

abbrev pub never : Scalar → Scalar → Bool
never g h = false

abbrev pub no_deeper : Scalar → Scalar → Bool
no_deeper g h = nat_le (scalar_depth g) (scalar_depth h)

abbrev pub less_deep : Scalar → Scalar → Bool
less_deep g h = nat_lt (scalar_depth g) (scalar_depth h)

abbrev pub counts_apart : Count → Count → Bool
counts_apart (Exactly m) (Exactly n) = not (m == n)
counts_apart m n = false

-- whether no operand has both shapes
abbrev pub shapes_apart : Shape → Shape → Bool
shapes_apart shapes.One (shapes.Vector n) = true
shapes_apart shapes.One (shapes.Matrix c r) = true
shapes_apart (shapes.Vector n) shapes.One = true
shapes_apart (shapes.Vector n) (shapes.Vector m) = counts_apart n m
shapes_apart (shapes.Vector n) (shapes.Matrix c r) = true
shapes_apart (shapes.Matrix c r) shapes.One = true
shapes_apart (shapes.Matrix c r) (shapes.Vector n) = true
shapes_apart (shapes.Matrix c r) (shapes.Matrix d q) = counts_apart c d || counts_apart r q
shapes_apart (shapes.Matrix c r) shapes.OneOrVector = true
shapes_apart shapes.OneOrVector (shapes.Matrix c r) = true
shapes_apart a b = false

-- a scalar or a vector, where it is known which
abbrev pub as_known : Bool → Shape → Shape
as_known true shapes.OneOrVector = shapes.Vector N
as_known false shapes.OneOrVector = shapes.One
as_known w s = s

-- whether no operand fits both parameters; w and v say whether a scalar or a vector is a vector
abbrev pub patterns_apart : Bool → Bool → Overload → Overload → Pattern → Pattern → Bool
patterns_apart w v o p (patterns.Value s e) (patterns.Value r g) = shapes_apart (as_known w s) (as_known v r) || all_taken never o e p g
patterns_apart w v o p a b = not (group_of a == group_of b)

-- whether no operands fit both lists of parameters: the lists are of two lengths, or no operand fits two parameters in the
-- same place
abbrev pub are_apart : (Pattern → Pattern → Bool) → List Pattern → List Pattern → Bool
are_apart apart [] [] = false
are_apart apart (a ∷ ps) (b ∷ qs) = apart a b || are_apart apart ps qs
are_apart apart ps qs = true

abbrev pub place_no_deeper : Overload → Pattern → Overload → Pattern → Bool
place_no_deeper o (patterns.Value s e) p (patterns.Value r g) = all_taken no_deeper o e p g
place_no_deeper o (patterns.Sampler s) p (patterns.Sampler r) = true
place_no_deeper o (patterns.Texture s) p (patterns.Texture r) = true
place_no_deeper o (patterns.Resource s) p (patterns.Resource r) = true
place_no_deeper o a p b = false

abbrev pub all_no_deeper : Overload → List Pattern → Overload → List Pattern → Bool
all_no_deeper o (a ∷ ps) p (b ∷ qs) = place_no_deeper o a p b && all_no_deeper o ps p qs
all_no_deeper o ps p qs = true

abbrev pub place_less_deep : Overload → Pattern → Overload → Pattern → Bool
place_less_deep o (patterns.Value s e) p (patterns.Value r g) = all_taken less_deep o e p g
place_less_deep o a p b = false

abbrev pub some_less_deep : Overload → List Pattern → Overload → List Pattern → Bool
some_less_deep o (a ∷ ps) p (b ∷ qs) = place_less_deep o a p b || some_less_deep o ps p qs
some_less_deep o ps p qs = false

abbrev pub is_preferred_where : Bool → Bool → Overload → Overload → Bool
is_preferred_where w v o p = are_apart (patterns_apart w v o p) (patterns_of o) (patterns_of p)
    || (all_no_deeper o (patterns_of o) p (patterns_of p) && some_less_deep o (patterns_of o) p (patterns_of p))

abbrev pub is_preferred_anywhere : Overload → Overload → Bool
is_preferred_anywhere o p = (is_preferred_where true true o p && is_preferred_where true false o p) && (is_preferred_where false true o p && is_preferred_where false false o p)

-- the same with less work where the numbers of parameters, groups or shapes differ

abbrev pub differ_at : Pattern → Pattern → Bool
differ_at (patterns.Value s e) (patterns.Value r g) = shapes_apart s r
differ_at a b = not (group_of a == group_of b)

abbrev pub unless_they_differ : Bool → Overload → Overload → Bool
unless_they_differ true o p = true
unless_they_differ false o p = is_preferred_anywhere o p

abbrev pub is_preferred_to : Overload → Overload → Bool
is_preferred_to o p = unless_they_differ (are_apart differ_at (patterns_of o) (patterns_of p)) o p

abbrev pub is_unambiguous : List Overload → Bool
is_unambiguous [] = true
is_unambiguous (o ∷ os) = has_one_result o && (list_all (is_preferred_to o) os && is_unambiguous os)
