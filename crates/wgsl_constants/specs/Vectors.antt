-- Vectors of integers, and their components (WGSL, "Value Constructor Built-in Functions", "Vector Access Expression").
use Rattle.std.specs.Prelude.{ℕ, ℤ, pos, negsuc, List, [], ◌∷◌, false, Option, Some, None, Result, Ok, Err, codes, slice_get}
use Rattle.wgsl_syntax.specs.Names.{named}
use Rattle.wgsl_syntax.specs.declared.scalar.Scalar.{Scalar}
use Rattle.wgsl_syntax.specs.declared.scalar.Scalar.TheVariants as scalars
use Rattle.wgsl_constants.specs.declared.integer.Integer.{Integer}
use Rattle.wgsl_constants.specs.declared.integer.Integer.TheVariants.{Abstract, I32, U32}
use Rattle.wgsl_constants.specs.declared.integer.IntegerError.{IntegerError}
use Rattle.wgsl_constants.specs.declared.call.Arguments.{Arguments}
use Rattle.wgsl_constants.specs.declared.call.Arguments.TheVariants.{Zero, One, Two, Three, Four}
use Rattle.wgsl_constants.specs.declared.call.CallError.{CallError}
use Rattle.wgsl_constants.specs.declared.call.CallError.TheVariants as error
use Rattle.wgsl_constants.specs.declared.call.Function.{Function}
use Rattle.wgsl_constants.specs.declared.call.Function.TheVariants as f
use Rattle.wgsl_constants.specs.declared.constant.Constant.TheVariants as c
use Rattle.wgsl_constants.specs.declared.vector.Component.{Component}
use Rattle.wgsl_constants.specs.declared.vector.Component.TheVariants.{First, Second, Third, Fourth}
use Rattle.wgsl_constants.specs.declared.vector.Size.{Size}
use Rattle.wgsl_constants.specs.declared.vector.Size.TheVariants as size
use Rattle.wgsl_constants.specs.declared.vector.Vector.{Vector}
use Rattle.wgsl_constants.specs.declared.vector.Vector.TheVariants as v
use Rattle.wgsl_constants.specs.Answers.{map_ok, then_ok}
use Rattle.wgsl_constants.specs.Literals.{then}
use Rattle.wgsl_constants.specs.Values.{map_value}
use Rattle.wgsl_constants.specs.declared.integer.IntegerOperator.TheVariants.{Addition, Multiplication}
use Rattle.wgsl_constants.specs.Calls.{called, integer, of_integers, with_argument}
use Rattle.wgsl_constants.specs.Functions.{of_pair, selected}

-- `vec2` to `vec4`
abbrev pub size_names : List (Size × List ℕ)
size_names = (size.Two, codes "vec2") ∷ (size.Three, codes "vec3") ∷ (size.Four, codes "vec4") ∷ []

abbrev pub size_named : List ℕ → Option Size
size_named name = named size_names name

-- a component has two names: `x` and `r` are the first
abbrev pub component_names : List (Component × List ℕ)
component_names =
    (First, codes "x") ∷ (First, codes "r") ∷ (Second, codes "y") ∷ (Second, codes "g") ∷
    (Third, codes "z") ∷ (Third, codes "b") ∷ (Fourth, codes "w") ∷ (Fourth, codes "a") ∷ []

abbrev pub component_named : List ℕ → Option Component
component_named name = named component_names name

-- the zero of a type of integers
abbrev pub zero_of : Scalar → Option Integer
zero_of scalars.AbstractInt = Some (Abstract (pos 0))
zero_of scalars.I32 = Some (I32 (pos 0))
zero_of scalars.U32 = Some (U32 0)
zero_of other = None

-- the first integer, in the type of both
abbrev pub alike : Integer → Integer → Result Integer IntegerError
alike a b = of_pair (selected false) a b

-- a vector in the type of an integer: each component is an AbstractInt, or has that type
abbrev pub like : Integer → Vector → Result Vector IntegerError
like t (v.Two a b) = then_ok (alike a t) (λ x. map_ok (v.Two x) (alike b t))
like t (v.Three a b c) = then_ok (alike a t) (λ x. then_ok (alike b t) (λ y. map_ok (v.Three x y) (alike c t)))
like t (v.Four a b c d) =
    then_ok (alike a t) (λ x. then_ok (alike b t) (λ y. then_ok (alike c t) (λ z. map_ok (v.Four x y z) (alike d t))))

-- integers in the type of all
abbrev pub two : Integer → Integer → Result Vector IntegerError
two a b = then_ok (alike a b) (λ t. like t (v.Two a b))

abbrev pub three : Integer → Integer → Integer → Result Vector IntegerError
three a b c = then_ok (alike a b) (λ t. then_ok (alike t c) (λ t. like t (v.Three a b c)))

abbrev pub four : Integer → Integer → Integer → Integer → Result Vector IntegerError
four a b c d = then_ok (alike a b) (λ t. then_ok (alike t c) (λ t. then_ok (alike t d) (λ t. like t (v.Four a b c d))))

-- one integer for all components
abbrev pub same : Size → Integer → Vector
same size.Two n = v.Two n n
same size.Three n = v.Three n n n
same size.Four n = v.Four n n n n

-- `vec2()`, `vec3(4)`, `vec2(4, 1)`
abbrev pub vector_of : Size → Arguments → Result Vector CallError
vector_of s Zero = Ok (same s (Abstract (pos 0)))
vector_of s (One a) = map_ok (same s) (integer a)
vector_of size.Two (Two a b) = of_integers two a b
vector_of size.Three (Three a b c) = then_ok (integer a) (λ a. of_integers (three a) b c)
vector_of size.Four (Four a b c d) = then_ok (integer a) (λ a. then_ok (integer b) (λ b. of_integers (four a b) c d))
vector_of s arguments = Err error.WrongArgumentCount

-- the component of a vector; None if it has fewer
abbrev pub component : Component → Vector → Option Integer
component First (v.Two x y) = Some x
component First (v.Three x y z) = Some x
component First (v.Four x y z w) = Some x
component Second (v.Two x y) = Some y
component Second (v.Three x y z) = Some y
component Second (v.Four x y z w) = Some y
component Third (v.Three x y z) = Some z
component Third (v.Four x y z w) = Some z
component Fourth (v.Four x y z w) = Some w
component other few = None

-- the components of the longest vectors, in order
abbrev pub components : List Component
components = First ∷ Second ∷ Third ∷ Fourth ∷ []

-- `vec2(4, 1)[0]`
abbrev pub element : ℤ → Vector → Option Integer
element (pos n) x = then (slice_get components n) (λ which. component which x)
element (negsuc n) x = None

-- `vec2(4, 1).x`
abbrev pub member : List ℕ → Vector → Option Integer
member letter x = then (component_named letter) (λ which. component which x)

-- `vec3(4, 1, 2).zx`: the components with these letters
abbrev pub swizzle : List ℕ → Vector → Option Vector
swizzle (p ∷ q ∷ []) x = then (member (p ∷ []) x) (λ a. map_value (v.Two a) (member (q ∷ []) x))
swizzle (p ∷ q ∷ r ∷ []) x =
    then (member (p ∷ []) x) (λ a. then (member (q ∷ []) x) (λ b. map_value (v.Three a b) (member (r ∷ []) x)))
swizzle (p ∷ q ∷ r ∷ s ∷ []) x =
    then (member (p ∷ []) x) (λ a. then (member (q ∷ []) x) (λ b.
    then (member (r ∷ []) x) (λ c. map_value (v.Four a b c) (member (s ∷ []) x))))
swizzle letters x = None

-- the arguments with the components of a vector behind them
abbrev pub with_two : Integer → Integer → Arguments → Option Arguments
with_two a b given = then (with_argument (c.Integer a) given) (with_argument (c.Integer b))

abbrev pub with_components : Vector → Arguments → Option Arguments
with_components (v.Two a b) given = with_two a b given
with_components (v.Three x y z) given = then (with_two x y given) (with_argument (c.Integer z))
with_components (v.Four x y z w) given = then (with_two x y given) (with_two z w)

-- the integer that a function makes of one, or of two
abbrev pub made_of_one : Function → Integer → Result Integer CallError
made_of_one f a = then_ok (called f (One (c.Integer a))) integer

abbrev pub made_of_two : Function → Integer → Integer → Result Integer CallError
made_of_two f a b = then_ok (called f (Two (c.Integer a) (c.Integer b))) integer

-- `abs(vec2(1, -2))`, component by component
abbrev pub each : Function → Vector → Result Vector CallError
each f (v.Two x y) = then_ok (made_of_one f x) (λ p. map_ok (v.Two p) (made_of_one f y))
each f (v.Three x y z) = then_ok (made_of_one f x) (λ p. then_ok (made_of_one f y) (λ q. map_ok (v.Three p q) (made_of_one f z)))
each f (v.Four x y z w) =
    then_ok (made_of_one f x) (λ p. then_ok (made_of_one f y) (λ q.
    then_ok (made_of_one f z) (λ r. map_ok (v.Four p q r) (made_of_one f w))))

-- `vec2(1, 2) + vec2(3, 4)`
abbrev pub each_of_two : Function → Vector → Vector → Result Vector CallError
each_of_two f (v.Two a b) (v.Two x y) = then_ok (made_of_two f a x) (λ p. map_ok (v.Two p) (made_of_two f b y))
each_of_two f (v.Three a b c) (v.Three x y z) =
    then_ok (made_of_two f a x) (λ p. then_ok (made_of_two f b y) (λ q. map_ok (v.Three p q) (made_of_two f c z)))
each_of_two f (v.Four a b c d) (v.Four x y z w) =
    then_ok (made_of_two f a x) (λ p. then_ok (made_of_two f b y) (λ q.
    then_ok (made_of_two f c z) (λ r. map_ok (v.Four p q r) (made_of_two f d w))))
each_of_two f other longer = Err error.NotInteger

-- the `2` of `vec3(1, 2, 3) + 2`, as long as the vector
abbrev pub filled : Integer → Vector → Vector
filled n (v.Two a b) = v.Two n n
filled n (v.Three a b c) = v.Three n n n
filled n (v.Four a b c d) = v.Four n n n n

abbrev pub sum : Integer → Integer → Result Integer CallError
sum a b = made_of_two (f.Operator Addition) a b

abbrev pub sum_of : Vector → Result Integer CallError
sum_of (v.Two x y) = sum x y
sum_of (v.Three x y z) = then_ok (sum x y) (λ s. sum s z)
sum_of (v.Four x y z w) = then_ok (sum x y) (λ s. then_ok (sum s z) (λ t. sum t w))

-- `dot(vec2(1, 2), vec2(3, 4))` is 11
abbrev pub dot : Vector → Vector → Result Integer CallError
dot x y = then_ok (each_of_two (f.Operator Multiplication) x y) sum_of
