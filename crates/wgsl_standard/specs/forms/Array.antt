-- Constructors of arrays (WGSL, "array").
use Rattle.std.specs.Prelude.{◌≡◌, ℕ, List, [], ◌∷◌, ◌==◌, length, map, codes, if◌then◌else◌, Option, Some, None, Result, Ok, Err}
use Rattle.wgsl_standard.specs.forms.Prelude.{WgslType, array, reference, IsLeftCommon, not_constructible, builtin}
use Rattle.wgsl_standard.specs.forms.Declare.{is_const_type}
use Rattle.wgsl_standard.specs.forms.Kinds.{is_constructible}
use Rattle.wgsl_standard.specs.forms.Lists.{Fits, all_fit, counted}
use Rattle.wgsl_standard.specs.forms.Load.{loaded}
use Rattle.wgsl_standard.specs.forms.Questions.{asks, after}
use Rattle.wgsl_standard.specs.forms.Refusals.{Refusal, error}

-- each value loads
abbrev pub all_load : List WgslType → Fits
all_load (x ∷ xs) = after (loaded x) (λ v. all_load xs)
all_load [] = Ok tt

-- what a value is once it is loaded
abbrev pub referred : WgslType → WgslType
referred (reference s t a) = t
referred t = t

-- the array of that many elements, if they have a common type
abbrev pub array_of : ℕ → Option WgslType → Result WgslType Refusal
-- `array(p)`, where `p` is a pointer, is refused
array_of k (Some t) = asks (is_constructible t) (error (not_constructible t)) (Ok (array (Some k) t))
-- `array(1i, 1u)` is refused
array_of k None = Err (error (builtin (codes "array elements are incompatible")))

-- `array(1, 2u)` : array<u32, 2>. The type of the elements is the common type of the values, which may be abstract.
abbrev pub IsArrayOf : List WgslType → Result WgslType Refusal → Type 0
IsArrayOf (x ∷ xs) r = (c : Option WgslType) × IsLeftCommon (map referred (x ∷ xs)) c × (r ≡ array_of (length (x ∷ xs)) c)
-- `array()` is refused
IsArrayOf [] r = r ≡ Err (error (builtin (codes "array constructor expects at least 1 argument")))

abbrev pub IsAfter : Fits → (Result WgslType Refusal → Type 0) → Result WgslType Refusal → Type 0
IsAfter (Ok u) Answer r = Answer r
IsAfter (Err e) Answer r = r ≡ Err e

-- What `array(X, ..)` makes.
abbrev pub IsInferredArray : List WgslType → Result WgslType Refusal → Type 0
IsInferredArray xs r = IsAfter (all_load xs) (IsArrayOf xs) r

abbrev pub counted_elements_fit : ℕ → WgslType → List WgslType → Fits
counted_elements_fit n t xs = after (counted (codes "array") n (length xs)) (λ u. all_fit t xs)

-- the values are the elements; without any it is the zero value
abbrev pub elements_fit : ℕ → WgslType → List WgslType → Fits
elements_fit n t xs = if length xs == 0 then Ok tt else counted_elements_fit n t xs

-- What `array<T, N>(X, ..)` makes.
abbrev pub typed_array : WgslType → Option ℕ → List WgslType → Result WgslType Refusal
-- `array<f32, 2>(1, 2)` : array<f32, 2>. `array<f32, 2>()` too; `array<f32, 3>(1, 2)` is refused
typed_array t (Some n) xs =
    asks (is_const_type t) (error (not_constructible (array (Some n) t))) (after (elements_fit n t xs) (λ u. Ok (array (Some n) t)))
-- `array<f32>(1)` is refused
typed_array t None xs = Err (error (not_constructible (array None t)))
