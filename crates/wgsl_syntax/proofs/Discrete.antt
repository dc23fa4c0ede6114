-- Equality of enumeration values is decidable.
use Rattle.std.proofs.Common.{◌≡◌, Bool, true, false, refl, sym, ◌∙◌, true≢false}
use denote.Enum.Bare.{Bare, sameb, same_true, same_false}
use denote.Enum.Declared.{Declared}
use Rattle.wgsl_syntax.specs.contracts.scalar.Scalar.{the_type as scalar_type}
use Rattle.wgsl_syntax.specs.contracts.address.AddressSpace.{the_type as space_type}
use Rattle.wgsl_syntax.specs.contracts.address.AccessMode.{the_type as access_type}
use Rattle.wgsl_syntax.specs.contracts.attribute.AccelerationStructureFlags.{the_type as flag_type}
use Rattle.wgsl_syntax.specs.contracts.texture.SamplerType.{the_type as sampler_type}
use Rattle.wgsl_syntax.specs.contracts.texel.TexelFormat.{the_type as texel_type}
use Rattle.wgsl_syntax.specs.declared.scalar.Scalar.{Scalar}
use Rattle.wgsl_syntax.specs.declared.address.AddressSpace.{AddressSpace}
use Rattle.wgsl_syntax.specs.declared.address.AccessMode.{AccessMode}
use Rattle.wgsl_syntax.specs.declared.attribute.AccelerationStructureFlags.{AccelerationStructureFlags}
use Rattle.wgsl_syntax.specs.declared.texture.SamplerType.{SamplerType}
use Rattle.wgsl_syntax.specs.declared.texel.TexelFormat.{TexelFormat}
use Rattle.wgsl_syntax.specs.contracts.texture.TextureTypePartialEq.TheImpl.{ghosts}
use Rattle.wgsl_syntax.specs.declared.texture.TextureType.{TextureType}
use Rattle.wgsl_syntax.proofs.Same.{texture_same}

by_test : {P : Type 0} (t : Bool) → (t ≡ true → P) → (t ≡ false → P → ⊥) → Dec P
by_test true so not_so = yes (so refl)
by_test false so not_so = no (not_so refl)

-- an enumeration with no fields
bare : (D : Declared) → Bare D.parts → (a b : D.D) → Dec (a ≡ b)
bare D no_fields a b = by_test (sameb D a b) (same_true D no_fields a b) (same_false D a b)

pub same_scalar : (a b : Scalar) → Dec (a ≡ b)
same_scalar = bare scalar_type tt

pub same_space : (a b : AddressSpace) → Dec (a ≡ b)
same_space = bare space_type tt

pub same_access : (a b : AccessMode) → Dec (a ≡ b)
same_access = bare access_type tt

pub same_flag : (a b : AccelerationStructureFlags) → Dec (a ≡ b)
same_flag = bare flag_type tt

pub same_sampler : (a b : SamplerType) → Dec (a ≡ b)
same_sampler = bare sampler_type tt

pub same_texel : (a b : TexelFormat) → Dec (a ≡ b)
same_texel = bare texel_type tt

pub same_texture : (a b : TextureType) → Dec (a ≡ b)
same_texture a b =
    let same = texture_same a b in
    by_test (ghosts.eq a b) same.0 (λ e p. true≢false (sym (same.1 p) ∙ e))
