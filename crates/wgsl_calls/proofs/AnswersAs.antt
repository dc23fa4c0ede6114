-- The answer of a call by the answer of another.
use Rattle.std.proofs.Common.{Result, Ok, Err}
use Rattle.wgsl_calls.proofs.Common.{Refusal, AnswersAs, refusal, Error, Fail}
use Rattle.wgsl_core.specs.declared.error.Fail.TheVariants as fails

-- answers that satisfy P satisfy a Q that follows from P
pub answers : {A B : Type 0} (seen : A → B) (P Q : Result B Refusal → Type 0) (r : Result A (Fail Error)) →
    ((q : Result B Refusal) → P q → Q q) → AnswersAs seen P r → AnswersAs seen Q r
answers seen P Q (Ok a) f h = f (Ok (seen a)) h
answers seen P Q (Err (fails.Error e)) f h = f (Err (refusal e)) h
answers seen P Q (Err (fails.Memory e)) f h = h
