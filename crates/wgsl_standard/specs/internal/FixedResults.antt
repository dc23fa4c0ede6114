-- A test of overloads: whether the letters of the result stand among the parameters.
use Rattle.std.specs.Prelude.{List, Bool, true, false, ◌&&◌, ◌||◌}
use Rattle.std.specs.List.{list_any}
use Rattle.wgsl_syntax.specs.declared.overload.Component.{Component}
use Rattle.wgsl_syntax.specs.declared.overload.Component.TheVariants.{T, U, V, W, The}
use Rattle.wgsl_syntax.specs.declared.overload.Count.{Count}
use Rattle.wgsl_syntax.specs.declared.overload.Count.TheVariants.{N, M, K, Exactly}
use Rattle.wgsl_syntax.specs.declared.overload.Shape.{Shape}
use Rattle.wgsl_syntax.specs.declared.overload.Shape.TheVariants as shapes
use Rattle.wgsl_syntax.specs.declared.overload.Pattern.{Pattern}
use Rattle.wgsl_syntax.specs.declared.overload.Pattern.TheVariants as patterns
use Rattle.wgsl_syntax.specs.declared.overload.Returns.{Returns}
use Rattle.wgsl_syntax.specs.declared.overload.Returns.TheVariants.{Gives, GivesStruct, GivesExchange}
use Rattle.wgsl_syntax.specs.declared.overload.Resource.{Resource}
use Rattle.wgsl_syntax.specs.declared.overload.Resource.TheVariants as resources
use Rattle.wgsl_syntax.specs.declared.overload.Overload.{Overload}
use Rattle.wgsl_rules.specs.standard.Overloads.{patterns_of, result_of}

abbrev pub same_letter : Component → Component → Bool
same_letter T T = true
same_letter U U = true
same_letter V V = true
same_letter W W = true
same_letter a b = false

-- whether each type of a set says what T is
abbrev pub says_letter : Resource → Bool
says_letter resources.WorkgroupPointer = false
says_letter resources.ArrayPointer = false
says_letter r = true

abbrev pub fixes : Component → Pattern → Bool
fixes c (patterns.Value s e) = same_letter c e
fixes T (patterns.Resource r) = says_letter r
fixes c p = false

abbrev pub has_component : Component → List Pattern → Bool
has_component (The s) ps = true
has_component c ps = list_any (fixes c) ps

abbrev pub same_count_letter : Count → Count → Bool
same_count_letter N N = true
same_count_letter M M = true
same_count_letter K K = true
same_count_letter a b = false

abbrev pub shape_of : Pattern → Shape
shape_of (patterns.Value s e) = s
shape_of p = shapes.One

abbrev pub count_in_shape : Count → Shape → Bool
count_in_shape c (shapes.Vector n) = same_count_letter c n
count_in_shape c (shapes.Matrix m n) = same_count_letter c m || same_count_letter c n
count_in_shape c s = false

abbrev pub has_count : Count → List Pattern → Bool
has_count (Exactly n) ps = true
has_count c ps = list_any (λ p. count_in_shape c (shape_of p)) ps

abbrev pub is_either : Shape → Bool
is_either shapes.OneOrVector = true
is_either s = false

abbrev pub has_shape : Shape → List Pattern → Bool
has_shape shapes.One ps = true
has_shape (shapes.Vector n) ps = has_count n ps
has_shape (shapes.Matrix c r) ps = has_count c ps && has_count r ps
has_shape shapes.OneOrVector ps = list_any (λ p. is_either (shape_of p)) ps

abbrev pub is_fixed : Returns → List Pattern → Bool
is_fixed (Gives (patterns.Value s e)) ps = has_component e ps && has_shape s ps
is_fixed (GivesStruct f s) ps = has_component T ps
is_fixed GivesExchange ps = has_component T ps
is_fixed r ps = true

abbrev pub has_one_result : Overload → Bool
has_one_result o = is_fixed (result_of o) (patterns_of o)
