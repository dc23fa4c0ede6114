-- The common type of a list that is read one type at a time (WGSL, "Overload Resolution").
use Rattle.std.specs.Prelude.{List, [], ◌++◌, ◌≡◌, ◌≢◌, Option, None, All}
use Rattle.wgsl_rules.specs.types.Types.{WgslType}
use Rattle.wgsl_rules.specs.conversion.Conversion.{IsValueType}
use Rattle.wgsl_rules.specs.conversion.Common.{IsLeftCommon}
use Rattle.wgsl_rules.specs.Headline.{IsLeastCommonAnswer}

-- The common type of a list, from left to right; for value types it is the least.
pub record IsCommonOfList (ts : List WgslType) (r : Option WgslType) : Type 0 where
  pub left : IsLeftCommon ts r
  pub least : All IsValueType ts → IsLeastCommonAnswer ts r

-- The common type of the types read. If they have none, no list with that prefix has one, so the rest isn't read.
pub record IsCommonOfGiven (ts : List WgslType) (r : Option WgslType) : Type 0 where
  pub given : IsCommonOfList ts r
  pub whatever_follows : ts ≢ [] → r ≡ None → (more : List WgslType) → IsCommonOfList (ts ++ more) r
