-- How the rules of a form follow one another: the first that isn't kept says the refusal.
use Rattle.std.specs.Prelude.{Bool, true, false, Result, Ok, Err}
use Rattle.wgsl_standard.specs.forms.Refusals.{Refusal}

-- the answer, if the test holds; else the refusal
abbrev pub asks : {A : Type 0} → Bool → Refusal → Result A Refusal → Result A Refusal
asks true e answer = answer
asks false e answer = Err e

-- the answer for what was found before, if that wasn't refused
abbrev pub after : {A B : Type 0} → Result A Refusal → (A → Result B Refusal) → Result B Refusal
after (Ok found) answer = answer found
after (Err e) answer = Err e
