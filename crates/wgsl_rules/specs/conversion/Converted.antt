-- What a value becomes if it, or the element inside it, is converted to a type (WGSL, "Conversion Rank").
use Rattle.std.specs.Prelude.{◌≡◌, Option, Some, None, option_and_then, option_map, List, [], ◌∷◌}
use Rattle.wgsl_rules.specs.types.Types.{WgslType, within}
use Rattle.wgsl_rules.specs.conversion.Conversion.{ConvertsTo}

-- the type t converted to u: u if t converts to u, else None
abbrev pub IsConverted : WgslType → WgslType → Option WgslType → Type 0
IsConverted t u (Some v) = ConvertsTo t u × (v ≡ u)
IsConverted t u None = ¬ ConvertsTo t u

-- The element of an array, a vector or a matrix converted; any other type is converted as a whole.
abbrev pub IsConvertedInside : WgslType → WgslType → Option WgslType → Type 0
IsConvertedInside (within l t) u r = (e : Option WgslType) × IsConverted t u e × (r ≡ option_map (λ v. within l v) e)
IsConvertedInside t u r = IsConverted t u r

-- both values converted to a type, or None if one doesn't convert
abbrev pub both_to : {T U V W : Type 0} → (T → WgslType → Option V) → (U → WgslType → Option W) → T → U → WgslType → Option (V × W)
both_to to other_to a b t = option_and_then (λ x. option_and_then (λ y. Some (x, y)) (other_to b t)) (to a t)

-- each of the values converted to a type, or None if one doesn't convert
abbrev pub all_to : {T V : Type 0} → (T → WgslType → Option V) → WgslType → List T → Option (List V)
all_to to t [] = Some []
all_to to t (x ∷ xs) = option_and_then (λ y. option_map (λ ys. y ∷ ys) (all_to to t xs)) (to x t)
