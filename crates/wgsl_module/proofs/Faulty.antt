-- Where the first faulty expression isn't found, there is none.
use Rattle.std.proofs.Common.{◌≡◌, List, [], ◌∷◌, Bool, true, false, Option, Some, None, cond, refl}
use Rattle.std.proofs.lemmas.List.Elements.{All-cons, All-nil}
use Rattle.wgsl_module.specs.Checked.{AreTyped, first_faulty, is_faulty}
use Rattle.wgsl_typing.specs.declared.fault.Place.{Place}
use Rattle.wgsl_typing.specs.declared.known.Part.{Part}

not_first : (b : Bool) (place : Place) (rest : Option Place) → cond b (Some place) rest ≡ None → (b ≡ false) × (rest ≡ None)
not_first false place rest none = (refl, none)
not_first true place rest none = cc none

pub none_faulty : (parts : List Part) → first_faulty parts ≡ None → AreTyped parts
none_faulty [] none = All-nil (λ part. is_faulty part.outcome ≡ false)
none_faulty (part ∷ parts) none =
    let one = not_first (is_faulty part.outcome) part.place (first_faulty parts) none in
    All-cons (λ part. is_faulty part.outcome ≡ false) part parts one.0 (none_faulty parts one.1)
