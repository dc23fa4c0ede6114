-- The conversion of a type, by cases.
use Rattle.std.proofs.Common.{◌≡◌, Some, None, option_map, refl, ap, subst}
use Rattle.wgsl_core.proofs.Common.{Layer, WgslType, within, ConvertsTo, layer_of, converted, inner_converted}
use Rattle.wgsl_rules.proofs.conversion.Converted.{what_converted, what_converted_inside, converted_once, converted_inside_once}

pub converted_some : (t u : WgslType) → ConvertsTo t u → converted t u ≡ Some u
unfolding converted
converted_some t u h = converted_once t u _ _ (what_converted t u).1 (h, refl)

pub converted_none : (t u : WgslType) → ¬ ConvertsTo t u → converted t u ≡ None
unfolding converted
converted_none t u h = converted_once t u _ _ (what_converted t u).1 h

pub in_its_element : (t : WgslType) (l : Layer) (e u : WgslType) → layer_of t ≡ Some (l, e) → inner_converted t u ≡ option_map (λ v. within l v) (converted e u)
unfolding converted inner_converted
in_its_element t l e u p = subst (λ t. inner_converted t u ≡ option_map (λ v. within l v) (converted e u)) (layered t p) (around l e)
  where
    layered : (t : WgslType) → layer_of t ≡ Some (l, e) → within l e ≡ t
    layered (within k t) q = let p : ◌≡◌ {A = Layer × WgslType} (l, e) (k, t) = cc q in ap (λ (p : Layer × WgslType). within p.0 p.1) p
    layered t q = absurd (cc q)

    around : (l : Layer) (e : WgslType) → inner_converted (within l e) u ≡ option_map (λ v. within l v) (converted e u)
    around l e = converted_inside_once (within l e) u _ _ (what_converted_inside (within l e) u).1 (_, (what_converted e u).1, refl)

pub as_a_whole : (t u : WgslType) → layer_of t ≡ None → inner_converted t u ≡ converted t u
unfolding converted inner_converted
as_a_whole (within l t) u n = absurd (cc n)
as_a_whole t u n = converted_inside_once t u _ _ (what_converted_inside t u).1 (what_converted t u).1
