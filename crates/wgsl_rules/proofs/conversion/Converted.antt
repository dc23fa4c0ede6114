-- Converting a type to a type has exactly one result.
use Rattle.std.proofs.Common.{◌≡◌, Option, Some, None, option_map, refl, sym, ap, ◌∙◌}
use Rattle.wgsl_rules.proofs.Common.{WgslType, within, ConvertsTo, IsConverted, IsConvertedInside}
use Rattle.wgsl_rules.proofs.conversion.Order.{dec_converts}

pub what_converted : (t u : WgslType) → (r : Option WgslType) × IsConverted t u r
what_converted t u = at (dec_converts t u)
  where
    at : Dec (ConvertsTo t u) → (r : Option WgslType) × IsConverted t u r
    at (yes h) = (Some u, (h, refl))
    at (no n) = (None, n)

pub what_converted_inside : (t u : WgslType) → (r : Option WgslType) × IsConvertedInside t u r
what_converted_inside (within l t) u = let e = what_converted t u in (option_map (λ v. within l v) e.0, (e.0, e.1, refl))
what_converted_inside t u = what_converted t u

pub converted_once : (t u : WgslType) (r s : Option WgslType) → IsConverted t u r → IsConverted t u s → r ≡ s
converted_once t u (Some v) (Some w) h k = ap Some (h.1 ∙ sym k.1)
converted_once t u (Some v) None h k = absurd (k h.0)
converted_once t u None (Some w) h k = absurd (h k.0)
converted_once t u None None h k = refl

pub converted_inside_once : (t u : WgslType) (r s : Option WgslType) → IsConvertedInside t u r → IsConvertedInside t u s → r ≡ s
converted_inside_once (within l t) u r s h k = h.2 ∙ ap (option_map (λ v. within l v)) (converted_once t u h.0 k.0 h.1 k.1) ∙ sym k.2
converted_inside_once t u r s h k = converted_once t u r s h k
