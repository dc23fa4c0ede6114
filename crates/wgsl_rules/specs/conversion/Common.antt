-- The common type of two types and of a list (WGSL, "Conversion Rank" and "Overload Resolution").
use Rattle.std.specs.Prelude.{List, [], ◌∷◌, ◌++◌, ◌≡◌, ◌≢◌, ◌⊎◌, Option, Some, None}
use Rattle.wgsl_rules.specs.types.Types.{WgslType}
use Rattle.wgsl_rules.specs.conversion.Conversion.{ConvertsTo}

-- the common type of a and b: b if a converts to b, else a if b converts to a, else none
abbrev pub IsCommon : WgslType → WgslType → Option WgslType → Type 0
IsCommon a b (Some c) = (ConvertsTo a b × (c ≡ b)) ⊎ (¬ ConvertsTo a b × ConvertsTo b a × (c ≡ a))
IsCommon a b None = ¬ ConvertsTo a b × ¬ ConvertsTo b a

-- the common type of a type that may be missing and another one; none without the first
abbrev pub IsCommonWith : Option WgslType → WgslType → Option WgslType → Type 0
IsCommonWith None t r = r ≡ None
IsCommonWith (Some c) t r = IsCommon c t r

-- the left common type of a list
pub data IsLeftCommon : List WgslType → Option WgslType → Type 0 where
  -- the empty list has none
  of_no_types : IsLeftCommon [] None
  -- one type is its own
  of_one_type : (t : WgslType) → IsLeftCommon (t ∷ []) (Some t)
  -- that of the list without its last member, and that member, have this common type
  of_last_member : {ts : List WgslType} {c r : Option WgslType} (t : WgslType) → ts ≢ [] → IsLeftCommon ts c → IsCommonWith c t r → IsLeftCommon (ts ++ t ∷ []) r
