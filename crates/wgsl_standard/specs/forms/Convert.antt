-- Whether a type converts to another, as a test (WGSL, "Conversion Rank").
use Rattle.std.specs.Prelude.{Bool, Result, Ok}
use Rattle.std.specs.Bool.{Decides}
use Rattle.wgsl_standard.specs.forms.Prelude.{WgslType, ConvertsTo, conversion, is_yes, yes_decides}
use Rattle.wgsl_rules.proofs.conversion.Order.{dec_converts}
use Rattle.wgsl_standard.specs.forms.Questions.{asks}
use Rattle.wgsl_standard.specs.forms.Refusals.{Refusal, error}

unfoldable pub converts : WgslType → WgslType → Bool
converts t u = is_yes (dec_converts t u)

pub converts_decides : (t u : WgslType) → Decides (converts t u) (ConvertsTo t u)
unfolding converts
converts_decides t u = yes_decides (dec_converts t u)

-- `let x: f32 = 1;` converts to `f32`; `let x: f32 = 1i;` is refused
abbrev pub converted : WgslType → WgslType → Result WgslType Refusal
converted v t = asks (converts v t) (error (conversion v t)) (Ok t)
