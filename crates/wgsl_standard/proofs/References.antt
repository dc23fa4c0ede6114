-- References to what is formed from a type in memory.
use Rattle.std.proofs.Common.{◌≡◌, Option, Some, None, cond, is_some, refl}
use Rattle.wgsl_standard.proofs.CommonForms.{AddressSpace, AccessMode, WgslType, loaded, in_memory, referent_of, viewed, Referent, Whole}
use Rattle.wgsl_standard.specs.forms.internal.References.{reference_to, loaded_in}

pub refers : (m : Option (AddressSpace × AccessMode)) (r : Referent) (t : WgslType) → viewed (reference_to m r) t ≡ in_memory m t
refers None r t = refl
refers (Some m) r t = refl

pub refers_to : (m : Option (AddressSpace × AccessMode)) (r : Referent) → referent_of (reference_to m r) ≡ cond (is_some m) r Whole
refers_to None r = refl
refers_to (Some m) r = refl

pub loads : (m : Option (AddressSpace × AccessMode)) (t : WgslType) → loaded_in m t ≡ loaded (in_memory m t)
loads None t = refl
loads (Some m) t = refl
