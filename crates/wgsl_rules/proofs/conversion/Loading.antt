-- Loaded types.
use Rattle.std.proofs.Common.{◌≡◌, refl, subst}
use Rattle.wgsl_rules.proofs.Common.{AddressSpace, AccessMode, WgslType, reference, IsReference, loaded_of}

no_reference : (t : WgslType) → ¬ IsReference (loaded_of t)
no_reference (reference s t m) h = no_reference t h
no_reference t h = h

not_loaded_again : (t : WgslType) → ¬ IsReference t → loaded_of t ≡ t
not_loaded_again (reference s t m) n = absurd (n tt)
not_loaded_again t n = refl

pub loaded_is_no_reference : (t u : WgslType) → u ≡ loaded_of t → ¬ IsReference u
loaded_is_no_reference t u e h = no_reference t (subst IsReference e h)

pub loaded_once : (t u : WgslType) → u ≡ loaded_of t → loaded_of u ≡ u
loaded_once t u e = not_loaded_again u (loaded_is_no_reference t u e)

pub loaded_stays : (t : WgslType) → ((s : AddressSpace) (u : WgslType) (m : AccessMode) → t ≡ reference s u m → ⊥) → t ≡ loaded_of t
loaded_stays (reference s t m) n = absurd (n s t m refl)
loaded_stays t n = refl
