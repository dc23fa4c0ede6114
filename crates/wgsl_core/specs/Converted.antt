-- Conversion of types as functions: the unique answer of the relations in the rules.
use Rattle.std.proofs.Common.{ap, refl, subst}
use Rattle.std.specs.Prelude.{◌≡◌, Option, Some, None, option_map}
use Rattle.wgsl_rules.specs.types.Types.{WgslType}
use Rattle.wgsl_rules.specs.types.Kinds.{IsLeaf}
use Rattle.wgsl_rules.specs.conversion.Converted.{IsConverted}
use Rattle.wgsl_rules.proofs.conversion.Converted.{what_converted, what_converted_inside}
use Rattle.wgsl_core.specs.View.{view}
use Rattle.wgsl_core.specs.declared.ty.Type.{«Type»}

unfoldable pub converted : WgslType → WgslType → Option WgslType
converted t u = (what_converted t u).0

unfoldable pub inner_converted : WgslType → WgslType → Option WgslType
inner_converted t u = (what_converted_inside t u).0

-- no type, or one whose copy does not allocate
abbrev pub NeedsNoMemory : Option WgslType → Type 0
NeedsNoMemory (Some t) = IsLeaf t
NeedsNoMemory None = Unit {0}

-- a type that is converted to a type has that type
pub converted_has_type : (x : «Type») (t : WgslType) (y : «Type») → converted (view x) t ≡ Some (view y) → view y ≡ t
unfolding converted
converted_has_type x t y h = (subst (λ r. IsConverted (view x) t r) h (what_converted (view x) t).1).1

-- and so has a type in a pair whose other half stays
pub paired_has_type : {A : Type 0} (a b : A) (x y : «Type») (t : WgslType) → option_map {U = WgslType × A} (λ u. (u, a)) (converted (view x) t) ≡ Some (view y, b) → view y ≡ t
paired_has_type {A} a b x y t h = at (converted (view x) t) refl h
  where
    at : (o : Option WgslType) → converted (view x) t ≡ o → option_map {U = WgslType × A} (λ u. (u, a)) o ≡ Some (view y, b) → view y ≡ t
    at None e h = absurd (cc h)
    at (Some u) e h =
        let k : (u, a) ≡ (view y, b) = cc h in
        converted_has_type x t y (rw e (ap (λ (p : WgslType × A). Some p.0) k))
