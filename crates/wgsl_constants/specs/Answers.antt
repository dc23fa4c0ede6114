-- How an expression on integers has a value or an error.
use Rattle.std.specs.Prelude.{Bool, cond, Result, Ok, Err}
use Rattle.wgsl_constants.specs.declared.integer.IntegerError.{IntegerError}
use Rattle.wgsl_constants.specs.declared.integer.IntegerError.TheVariants.{Overflow}

-- the value if it fits, else an overflow
abbrev pub fitting : {A : Type 0} → Bool → A → Result A IntegerError
fitting fits value = cond fits (Ok value) (Err Overflow)

abbrev pub map_ok : {A B E : Type 0} → (A → B) → Result A E → Result B E
map_ok f (Ok a) = Ok (f a)
map_ok f (Err e) = Err e

abbrev pub then_ok : {A B E : Type 0} → Result A E → (A → Result B E) → Result B E
then_ok (Ok a) f = f a
then_ok (Err e) f = Err e
