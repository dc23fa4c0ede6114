-- Enumerations of which WGSL calls one value otherwise than naga: texel formats and address spaces.
use Rattle.std.proofs.Common.{◌≡◌, ◌≢◌, ◌⊎◌, inl, inr, ℕ, List, MatchOption, Option, Some, None, codes, refl, sym, ap, ◌∙◌}
use Rattle.wgsl_syntax.specs.Names.{named, table}
use Rattle.wgsl_syntax.specs.Address.{space_text, space_text_by, spaces}
use Rattle.wgsl_syntax.specs.Texel.{texel_formats, texel_text, texel_text_by}
use Rattle.wgsl_syntax.specs.declared.address.AddressSpace.{AddressSpace}
use Rattle.wgsl_syntax.specs.declared.address.AddressSpace.TheVariants as spaces_of
use Rattle.wgsl_syntax.specs.declared.rules.RuleSet.{RuleSet}
use Rattle.wgsl_syntax.specs.declared.rules.RuleSet.TheVariants as sets
use Rattle.wgsl_syntax.specs.declared.texel.TexelFormat.{TexelFormat}
use Rattle.wgsl_syntax.specs.declared.texel.TexelFormat.TheVariants as texels
use Rattle.wgsl_syntax.proofs.Naming.{named_text, space_back, texel_back}

-- a value has naga's name, but for one, which has the other word
pub record Renaming {A : Type 0} (text by : A → List ℕ) (values : List A) (other : List ℕ) (value : A) : Type 0 where
  pub back : (x : A) → named (table text values) (text x) ≡ Some x
  pub unknown : named (table text values) other ≡ None
  pub names : (x : A) → (by x ≡ text x) ⊎ ((by x ≡ other) × (x ≡ value))

-- a word that names a value: naga's name, or the other word
abbrev Means : {A : Type 0} → (A → List ℕ) → List ℕ → A → List ℕ → A → Type 0
Means text other value word x = (word ≡ text x) ⊎ ((word ≡ other) × (x ≡ value))

means : {A : Type 0} {text by : A → List ℕ} {values : List A} {other : List ℕ} {value : A} → Renaming text by values other value
    → (word : List ℕ) (x : A) → (word ≡ by x) ⊎ (word ≡ text x) → Means text other value word x
means r word x (inl is) = elim (r.names x) [ inl same ↦ inl (is ∙ same) | inr named ↦ inr (is ∙ named.0, named.1) ]
means r word x (inr is) = inl is

-- the value of another word is that of naga's name
pub other_named : {A : Type 0} {text by : A → List ℕ} {values : List A} {other : List ℕ} {value : A} → Renaming text by values other value
    → (word : List ℕ) (found : Option A) → word ≢ other → found ≡ named (table text values) word
    → MatchOption found ((x : A) → ¬ ((word ≡ by x) ⊎ (word ≡ text x))) (λ x. (word ≡ by x) ⊎ (word ≡ text x))
other_named {text = text} {values = values} r word (Some x) not_other is = inr (named_text text values word x (sym is))
other_named {A} {text = text} {values = values} {other = other} {value = value} r word None not_other is = λ x a. none x (means r word x a)
  where
    none : (x : A) → Means text other value word x → ⊥
    none x (inl e) = let no : None ≡ Some x = is ∙ (ap (named (table text values)) e ∙ r.back x) in cc no
    none x (inr e) = not_other e.0

texel_names : (rules : RuleSet) (f : TexelFormat) → (texel_text_by rules f ≡ texel_text f) ⊎ ((texel_text_by rules f ≡ codes "rg11b10ufloat") × (f ≡ texels.Rg11b10Float))
texel_names sets.Ported f = inl refl
texel_names sets.Standard texels.Rg11b10Float = inr (refl, refl)
texel_names sets.Standard f = inl refl

pub texel_renaming : (rules : RuleSet) → Renaming texel_text (texel_text_by rules) texel_formats (codes "rg11b10ufloat") texels.Rg11b10Float
texel_renaming rules = record { back = texel_back; unknown = refl; names = texel_names rules }

space_names : (rules : RuleSet) (s : AddressSpace) → (space_text_by rules s ≡ space_text s) ⊎ ((space_text_by rules s ≡ codes "immediate") × (s ≡ spaces_of.PushConstant))
space_names sets.Ported s = inl refl
space_names sets.Standard spaces_of.PushConstant = inr (refl, refl)
space_names sets.Standard s = inl refl

pub space_renaming : (rules : RuleSet) → Renaming space_text (space_text_by rules) spaces (codes "immediate") spaces_of.PushConstant
space_renaming rules = record { back = space_back; unknown = refl; names = space_names rules }
