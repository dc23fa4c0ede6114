-- A value that is found by its name is that of the table.
use Rattle.std.proofs.Common.{◌≡◌, ◌⊎◌, inl, inr, ℕ, List, MatchOption, Option, Some, None, refl, sym, ap, ◌∙◌}
use Rattle.wgsl_spelling.proofs.Common.{IsSpace, access_modes, access_text, space_text, space_text_by, spaces, flag_text, flags, IsTexel, texel_formats, texel_text, texel_text_by, sampled_text, sampled_types, AddressSpace, Standard, TexelFormat, format_named, or_else, space_named}
use Rattle.wgsl_syntax.specs.Names.{named, table}
use Rattle.wgsl_syntax.specs.declared.address.AccessMode.TheVariants as access
use Rattle.wgsl_syntax.specs.declared.address.AddressSpace.TheVariants as space
use Rattle.wgsl_syntax.specs.declared.attribute.AccelerationStructureFlags.TheVariants as flag
use Rattle.wgsl_syntax.specs.declared.texel.TexelFormat.TheVariants as texel
use Rattle.wgsl_syntax.specs.declared.texture.SampledType.TheVariants as sampled
use Rattle.wgsl_syntax.proofs.Naming.{named_text}

-- an enumeration whose values are found by their texts
abbrev pub Back : {A : Type 0} → (A → List ℕ) → List A → Type 0
Back {A} text values = (x : A) → named (table text values) (text x) ≡ Some x

is_none : {A : Type 0} (o : Option A) → ((x : A) → o ≡ Some x → ⊥) → None ≡ o
is_none (Some x) lacks = absurd (lacks x refl)
is_none None lacks = refl

pub access_back : Back access_text access_modes
access_back access.Read = refl
access_back _ = refl

pub sampled_back : Back sampled_text sampled_types
sampled_back sampled.I32 = refl
sampled_back _ = refl

pub flag_back : Back flag_text flags
flag_back flag.VertexReturn = refl

-- by one name or by the other
abbrev either : {A : Type 0} → (A → List ℕ) → (A → List ℕ) → List A → List ℕ → Option A
either by text values s = or_else (named (table by values) s) (named (table text values) s)

either_text : {A : Type 0} (by text : A → List ℕ) (s : List ℕ) (x : A) (a b : Option A) → ((y : A) → a ≡ Some y → s ≡ by y) → ((y : A) → b ≡ Some y → s ≡ text y)
    → or_else a b ≡ Some x → (s ≡ by x) ⊎ (s ≡ text x)
either_text by text s x (Some y) b first second is = inl (first x is)
either_text by text s x None b first second is = inr (second x is)

renamed : {A : Type 0} (by text : A → List ℕ) (values : List A) → ((x : A) → either by text values (by x) ≡ Some x) → ((x : A) → either by text values (text x) ≡ Some x)
    → (s : List ℕ) (r : Option A) → MatchOption r ((x : A) → ¬ ((s ≡ by x) ⊎ (s ≡ text x))) (λ x. (s ≡ by x) ⊎ (s ≡ text x)) → r ≡ either by text values s
renamed by text values back_by back s (Some x) (inl is) = sym (ap (either by text values) is ∙ back_by x)
renamed by text values back_by back s (Some x) (inr is) = sym (ap (either by text values) is ∙ back x)
renamed by text values back_by back s None none =
    is_none (either by text values s) (λ x is. none x (either_text by text s x _ _ (named_text by values s) (named_text text values s) is))

pub space_by : (x : AddressSpace) → space_named (space_text_by Standard x) ≡ Some x
space_by space.Function = refl
space_by _ = refl

pub space_naga : (x : AddressSpace) → space_named (space_text x) ≡ Some x
space_naga space.Function = refl
space_naga _ = refl

pub space_is : (s : List ℕ) (r : Option AddressSpace) → MatchOption r ((x : AddressSpace) → ¬ IsSpace Standard s x) (λ x. IsSpace Standard s x) → r ≡ space_named s
space_is = renamed (space_text_by Standard) space_text spaces space_by space_naga

pub format_by : (x : TexelFormat) → format_named (texel_text_by Standard x) ≡ Some x
format_by texel.Rgba8Unorm = refl
format_by _ = refl

pub format_naga : (x : TexelFormat) → format_named (texel_text x) ≡ Some x
format_naga texel.Rgba8Unorm = refl
format_naga _ = refl

pub format_is : (s : List ℕ) (r : Option TexelFormat) → MatchOption r ((x : TexelFormat) → ¬ IsTexel Standard s x) (λ x. IsTexel Standard s x) → r ≡ format_named s
format_is = renamed (texel_text_by Standard) texel_text texel_formats format_by format_naga
