-- The checks of the constructors, one after another; the first that fails decides the refusal (WGSL, "Value Constructor
-- Built-in Functions").
use Rattle.std.specs.Prelude.{ℕ, List, [], ◌∷◌, ◌≡◌, ◌⊎◌, Option, Result, Ok, Err, ok_or}
use Rattle.wgsl_rules.specs.types.Types.{WgslType}
use Rattle.wgsl_rules.specs.conversion.Conversion.{ConvertsTo}
use Rattle.wgsl_rules.specs.conversion.Common.{IsLeftCommon}
use Rattle.wgsl_rules.specs.errors.Refusals.{Refusal, builtin, param_count}

-- A check P: `holding` follows if it holds, else `failing`.
abbrev pub Either : Type 0 → Type 0 → Type 0 → Type 0
Either P holding failing = P × holding ⊎ (¬ P) × failing

-- what follows a type or a refusal: `made` from the type, or the same refusal
abbrev pub Then : Result WgslType Refusal → (WgslType → Result WgslType Refusal → Type 0) → Result WgslType Refusal → Type 0
Then (Ok t) made r = made t r
Then (Err e) made r = r ≡ Err e

-- The common type of a list, and then the next step; without a common type, the refusal with this message.
abbrev pub ThenCommon : List WgslType → List ℕ → (WgslType → Result WgslType Refusal → Type 0) → Result WgslType Refusal → Type 0
ThenCommon ts message made r = (c : Option WgslType) × IsLeftCommon ts c × Then (ok_or c (builtin message)) made r

-- The type t if the number of arguments is the wanted one; any other number is refused.
abbrev pub IsCounted : List ℕ → ℕ → ℕ → WgslType → Result WgslType Refusal → Type 0
IsCounted name wanted number t r = Either (wanted ≡ number) (r ≡ Ok t) (r ≡ Err (param_count name wanted number))

-- the first type of the list that doesn't convert to t
abbrev pub IsFirstStuck : WgslType → List WgslType → WgslType → Type 0
IsFirstStuck t [] a = ⊥
IsFirstStuck t (u ∷ us) a = (¬ ConvertsTo u t) × (a ≡ u) ⊎ ConvertsTo u t × IsFirstStuck t us a
