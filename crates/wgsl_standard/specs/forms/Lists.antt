-- Values of a list: arguments of a function, of a struct's constructor (WGSL, "Function Calls" and "Structure Value
-- Constructors"), a condition, a returned value.
use Rattle.std.specs.Prelude.{ℕ, List, [], ◌∷◌, ◌==◌, length, codes, if◌then◌else◌, Result, Ok, Err}
use Rattle.wgsl_standard.specs.forms.Prelude.{WgslType, Members, no_members, member, struct, not_constructible, param_count, param_type}
use Rattle.wgsl_standard.specs.forms.Convert.{converts}
use Rattle.wgsl_standard.specs.forms.Declare.{is_let_type}
use Rattle.wgsl_standard.specs.forms.Kinds.{is_constructible}
use Rattle.wgsl_standard.specs.forms.Load.{loaded}
use Rattle.wgsl_standard.specs.forms.Questions.{asks, after}
use Rattle.wgsl_standard.specs.forms.Refusals.{Refusal, error, not_condition, not_returned}

-- there is nothing to refuse
abbrev pub Fits : Type 0
Fits = Result (Unit {0}) Refusal

-- `f(1)`, where `f` takes an `f32`; `f(1i)` is refused
abbrev pub value_fits : WgslType → WgslType → Fits
value_fits t v = asks (converts v t) (error (param_type t v)) (Ok tt)

abbrev pub fits : WgslType → WgslType → Fits
fits t x = after (loaded x) (value_fits t)

-- each value fits the type in its place
abbrev pub each_fits : List WgslType → List WgslType → Fits
each_fits (t ∷ ts) (x ∷ xs) = after (fits t x) (λ u. each_fits ts xs)
each_fits ts xs = Ok tt

-- each value fits the same type
abbrev pub all_fit : WgslType → List WgslType → Fits
all_fit t (x ∷ xs) = after (fits t x) (λ u. all_fit t xs)
all_fit t [] = Ok tt

-- parameters may have these types
abbrev pub are_parameters : List WgslType → Fits
are_parameters (t ∷ ts) = asks (is_let_type t) (error (not_constructible t)) (are_parameters ts)
are_parameters [] = Ok tt

-- the number of values is the number that is taken
abbrev pub counted : List ℕ → ℕ → ℕ → Fits
counted name n k = asks (n == k) (error (param_count name n k)) (Ok tt)

-- as many values as types, and each fits
abbrev pub values_fit : List ℕ → List WgslType → List WgslType → Fits
values_fit name ts xs = after (counted name (length ts) (length xs)) (λ u. each_fits ts xs)

-- what takes values: a function, by its name; the condition of `if`, `while` or `const_assert`; `return`
pub data Taker : Type 0 where
  function : List ℕ → Taker
  condition : Taker
  returned : Taker

abbrev pub taker_name : Taker → List ℕ
taker_name (function name) = name
taker_name condition = codes "if"
taker_name returned = codes "return"

-- what doesn't fit, in the words of what takes it
abbrev pub words_of : Taker → Refusal → Refusal
words_of condition (error (param_type t v)) = not_condition v
words_of returned (error (param_type t v)) = not_returned t v
words_of taker e = e

abbrev pub in_words_of : Taker → Fits → Fits
in_words_of taker (Ok u) = Ok u
in_words_of taker (Err e) = Err (words_of taker e)

-- The values are taken by what takes these types.
abbrev pub list_fits : Taker → List WgslType → List WgslType → Fits
list_fits taker ts xs =
    after (are_parameters ts) (λ u.
    after (counted (taker_name taker) (length ts) (length xs)) (λ v. in_words_of taker (each_fits ts xs)))

abbrev pub member_types : Members → List WgslType
member_types no_members = []
member_types (member name t size align ms) = t ∷ member_types ms

-- the values are those of the members; without any it is the zero value
abbrev pub members_fit : List ℕ → List WgslType → List WgslType → Fits
members_fit name ts xs = if length xs == 0 then Ok tt else values_fit name ts xs

-- `S(1, vec3f())`, where `S` has an `i32` and a `vec3<f32>`; `S()`. A type that is no struct is refused
abbrev pub constructed : WgslType → List WgslType → Result WgslType Refusal
constructed (struct name ms) xs =
    asks (is_constructible (struct name ms)) (error (not_constructible (struct name ms)))
    (after (members_fit name (member_types ms) xs) (λ u. Ok (struct name ms)))
constructed t xs = Err (error (not_constructible t))
