-- Converting two values to their common type.
use Rattle.std.proofs.Common.{◌≡◌, Option, Result, subst}
use Rattle.std.specs.Prelude.{IfOk}
use Rattle.std.proofs.lemmas.Result.{IfOk-weaker}
use Rattle.wgsl_rules.specs.types.Types.{WgslType}
use Rattle.wgsl_rules.specs.conversion.Common.{IsCommon}

module _ {A E : Type 0} (r : Result A E) (P : A → Option WgslType → Type 0) where
  -- the value in an Ok has P with the common type
  abbrev HasWithCommon : WgslType → WgslType → Type 0
  HasWithCommon s t = IfOk r (λ x. (c : Option WgslType) × IsCommon s t c × P x c)

  pub of_common : (s t u : WgslType) (c : Option WgslType) → t ≡ u → IsCommon s t c → IfOk r (λ x. P x c) → HasWithCommon s u
  of_common s t u c e k h =
      IfOk-weaker r (λ x. P x c) (λ x. (c : Option WgslType) × IsCommon s u c × P x c) (λ x p. (c, subst (λ u. IsCommon s u c) e k, p)) h

  pub of_first : (s t u : WgslType) → s ≡ u → HasWithCommon s t → HasWithCommon u t
  of_first s t u e h = subst (λ u. HasWithCommon u t) e h
