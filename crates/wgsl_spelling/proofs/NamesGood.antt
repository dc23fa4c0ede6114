-- The names in the texts of types are names of WGSL, and stand for what they should.
use Rattle.std.proofs.Common.{◌≡◌, ◌++◌, ℕ, zero, suc, true, false, List, [], ◌∷◌, Some, codes, decimal, refl, sym, subst, arith}
use Rattle.wgsl_spelling.proofs.Common.{decimal_digit, is_bitcast, is_in_ascii_name, list_all, word_of, words, access_text, space_text_by, flag_text, scalar_text, texel_text_by, sampled_text, sampler_text, name_of, parameters_of, texture_name_text, texture_with, AccessMode, AddressSpace, AccelerationStructureFlags, RuleSet, Ported, Standard, Scalar, TexelFormat, SampledType, TextureType, format_named, space_named, predeclared, IsSide}
use Rattle.wgsl_syntax.specs.declared.address.AccessMode.TheVariants as access
use Rattle.wgsl_syntax.specs.declared.address.AddressSpace.TheVariants as space
use Rattle.wgsl_syntax.specs.declared.attribute.AccelerationStructureFlags.TheVariants as flag
use Rattle.wgsl_syntax.specs.declared.scalar.Scalar.TheVariants as scalar
use Rattle.wgsl_syntax.specs.declared.texel.TexelFormat.TheVariants as texel
use Rattle.wgsl_syntax.specs.declared.texture.SampledType.TheVariants as sampled
use Rattle.wgsl_syntax.specs.declared.texture.SamplerType.{SamplerType}
use Rattle.wgsl_syntax.specs.declared.texture.SamplerType.TheVariants as sampler
use Rattle.wgsl_syntax.specs.declared.texture.TextureType.TheVariants as texture
use Rattle.wgsl_syntax.specs.declared.texture_name.TextureName.{TextureName}
use Rattle.wgsl_syntax.specs.declared.texture_name.TextureName.TheVariants as texture_name
use Rattle.wgsl_spelling.specs.declared.predeclared.LayerName.TheVariants as layer
use Rattle.wgsl_spelling.specs.declared.predeclared.PredeclaredType.TheVariants as p
use Rattle.wgsl_spelling.proofs.Names.{format_by, format_naga, space_by, space_naga}
use Rattle.wgsl_reader.specs.declared.kind.Kind.TheVariants as k
use Rattle.wgsl_spelling.proofs.Trees.{IsName, begins_letter}

-- one of three
pub data Side : ℕ → Type 0 where
  two_of : Side 2
  three_of : Side 3
  four_of : Side 4

pub side : (n : ℕ) → IsSide n → Side n
side zero is = absurd (omega (arith, is.0))
side (suc zero) is = absurd (omega (arith, is.0))
side (suc (suc zero)) is = two_of
side (suc (suc (suc zero))) is = three_of
side (suc (suc (suc (suc zero)))) is = four_of
side (suc (suc (suc (suc (suc n))))) is = absurd (omega (arith, is.1))

-- its digit
abbrev glyph : {n : ℕ} → Side n → List ℕ
glyph two_of = 50 ∷ []
glyph three_of = 51 ∷ []
glyph four_of = 52 ∷ []

written : {n : ℕ} (s : Side n) → glyph s ≡ decimal n
written two_of = sym (decimal_digit 2 (omega arith))
written three_of = sym (decimal_digit 3 (omega arith))
written four_of = sym (decimal_digit 4 (omega arith))

-- names

pub good : {w : List ℕ} → begins_letter w ≡ true → list_all is_in_ascii_name w ≡ true → word_of w ≡ k.Name → is_bitcast w ≡ false → IsName w
good letter all kind plain = record { letter = letter; all = all; kind = kind; plain = plain }

pub scalar_good : (s : Scalar) → IsName (scalar_text s)
unfolding words
scalar_good scalar.Bool = good refl refl refl refl
scalar_good _ = good refl refl refl refl

pub sampler_good : (s : SamplerType) → IsName (sampler_text s)
unfolding words
sampler_good sampler.Sampler = good refl refl refl refl
sampler_good _ = good refl refl refl refl

pub sampled_good : (s : SampledType) → IsName (sampled_text s)
unfolding words
sampled_good sampled.I32 = good refl refl refl refl
sampled_good _ = good refl refl refl refl

pub flag_good : (f : AccelerationStructureFlags) → IsName (flag_text f)
unfolding words
flag_good flag.VertexReturn = good refl refl refl refl

pub access_good : (m : AccessMode) → IsName (access_text m)
unfolding words
access_good access.Read = good refl refl refl refl
access_good _ = good refl refl refl refl

pub space_good : (rules : RuleSet) (s : AddressSpace) → IsName (space_text_by rules s)
unfolding words
space_good Standard space.PushConstant = good refl refl refl refl
space_good Standard _ = good refl refl refl refl
space_good Ported space.PushConstant = good refl refl refl refl
space_good Ported _ = good refl refl refl refl

pub texel_good : (rules : RuleSet) (f : TexelFormat) → IsName (texel_text_by rules f)
unfolding words
texel_good Standard texel.Rg11b10Float = good refl refl refl refl
texel_good Standard _ = good refl refl refl refl
texel_good Ported texel.Rg11b10Float = good refl refl refl refl
texel_good Ported _ = good refl refl refl refl

pub texture_good : (n : TextureName) → IsName (texture_name_text n)
unfolding words
texture_good texture_name.External = good refl refl refl refl
texture_good _ = good refl refl refl refl

vec_glyph : {n : ℕ} (s : Side n) → IsName (codes "vec" ++ glyph s)
unfolding words
vec_glyph two_of = good refl refl refl refl
vec_glyph _ = good refl refl refl refl

pub vec_good : {n : ℕ} → Side n → IsName (codes "vec" ++ decimal n)
vec_good s = subst (λ d. IsName (codes "vec" ++ d)) (written s) (vec_glyph s)

mat_glyphs : {c r : ℕ} (a : Side c) (b : Side r) → IsName (codes "mat" ++ (glyph a ++ (codes "x" ++ glyph b)))
unfolding words
mat_glyphs two_of two_of = good refl refl refl refl
mat_glyphs _ two_of = good refl refl refl refl
mat_glyphs _ three_of = good refl refl refl refl
mat_glyphs _ _ = good refl refl refl refl

pub mat_good : {c r : ℕ} → Side c → Side r → IsName (codes "mat" ++ (decimal c ++ (codes "x" ++ decimal r)))
mat_good {c} a b = subst (λ e. IsName (codes "mat" ++ (decimal c ++ (codes "x" ++ e)))) (written b) (subst (λ d. IsName (codes "mat" ++ (d ++ (codes "x" ++ glyph b)))) (written a) (mat_glyphs a b))

-- what they stand for

pub scalar_named : (s : Scalar) → predeclared (scalar_text s) ≡ Some (p.Scalar s)
scalar_named scalar.Bool = refl
scalar_named _ = refl

pub sampler_named : (s : SamplerType) → predeclared (sampler_text s) ≡ Some (p.Sampler s)
sampler_named sampler.Sampler = refl
sampler_named _ = refl

pub texture_named : (n : TextureName) → predeclared (texture_name_text n) ≡ Some (p.Texture n)
texture_named texture_name.External = refl
texture_named _ = refl

vec_glyph_named : {n : ℕ} (s : Side n) → predeclared (codes "vec" ++ glyph s) ≡ Some (p.Layer (layer.Vec n))
vec_glyph_named two_of = refl
vec_glyph_named _ = refl

pub vec_named : {n : ℕ} → Side n → predeclared (codes "vec" ++ decimal n) ≡ Some (p.Layer (layer.Vec n))
vec_named {n} s = subst (λ d. predeclared (codes "vec" ++ d) ≡ Some (p.Layer (layer.Vec n))) (written s) (vec_glyph_named s)

mat_glyphs_named : {c r : ℕ} (a : Side c) (b : Side r) → predeclared (codes "mat" ++ (glyph a ++ (codes "x" ++ glyph b))) ≡ Some (p.Layer (layer.Mat c r))
mat_glyphs_named two_of two_of = refl
mat_glyphs_named _ two_of = refl
mat_glyphs_named _ three_of = refl
mat_glyphs_named _ _ = refl

pub mat_named : {c r : ℕ} → Side c → Side r → predeclared (codes "mat" ++ (decimal c ++ (codes "x" ++ decimal r))) ≡ Some (p.Layer (layer.Mat c r))
mat_named {c} {r} a b =
    subst (λ e. predeclared (codes "mat" ++ (decimal c ++ (codes "x" ++ e))) ≡ Some (p.Layer (layer.Mat c r))) (written b)
    (subst (λ d. predeclared (codes "mat" ++ (d ++ (codes "x" ++ glyph b))) ≡ Some (p.Layer (layer.Mat c r))) (written a) (mat_glyphs_named a b))

pub texture_back : (x : TextureType) → texture_with (name_of x) (parameters_of x) ≡ Some x
texture_back texture.External = refl
texture_back _ = refl

pub space_back : (rules : RuleSet) (s : AddressSpace) → space_named (space_text_by rules s) ≡ Some s
space_back Standard s = space_by s
space_back Ported s = space_naga s

pub format_back : (rules : RuleSet) (f : TexelFormat) → format_named (texel_text_by rules f) ≡ Some f
format_back Standard f = format_by f
format_back Ported f = format_naga f
