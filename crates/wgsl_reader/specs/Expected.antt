-- What may stand where a token can't.
use Rattle.std.specs.Prelude.{◌≡◌, ℕ, List, [], ◌∷◌, ◌++◌, Bool, false, nat_eq, length, Ok, Err}
use Rattle.wgsl_reader.specs.Reading.{Outcome, ReadAt}
use Rattle.wgsl_reader.specs.declared.kind.Kind.{Kind}
use Rattle.wgsl_reader.specs.declared.rule.Rule.{Rule}
use Rattle.wgsl_reader.specs.declared.grammar.Symbol.TheVariants as s

-- reading stops at this token
abbrev pub stops_at : ℕ → Outcome → Bool
stops_at index (Ok events) = false
stops_at index (Err at) = nat_eq at index

-- by this rule a token of the kind may stand behind these: reading doesn't stop at it
abbrev pub MayStand : Rule → List Kind → Kind → Type 0
MayStand rule kinds kind = (r : Outcome) × ReadAt (s.Rule rule ∷ []) 0 (kinds ++ kind ∷ []) r × (stops_at (length kinds) r ≡ false)
