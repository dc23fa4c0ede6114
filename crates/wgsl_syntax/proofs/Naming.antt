-- The texts of each enumeration are distinct, and parsing a text gives its value back.
use Rattle.std.proofs.Common.{◌≡◌, ◌≢◌, ℕ, Bool, true, false, cond, List, [], ◌∷◌, All, Contains, Option, Some, None, Ok, refl, sym, ap, ◌∙◌, arith}
use Rattle.std.specs.Option.{ok_or}
use Rattle.std.specs.Str.{bytes_eq}
use Rattle.std.proofs.lemmas.List.Elements.{All-cons, All-nil, Contains-append_right}
use Rattle.std.proofs.lemmas.Slice.Eq.{bytes_eq-Decides}
use Rattle.wgsl_syntax.specs.Names.{table, named, IsNaming, Reads, ReadsBut}
use Rattle.wgsl_syntax.specs.Address.{access_modes, access_text, space_text, spaces}
use Rattle.wgsl_syntax.specs.Attribute.{builtin_text, builtin_values, depth_text, depths, flag_text, flags, interpolation_text, interpolations, sampling_text, samplings, severities, severity_text}
use Rattle.wgsl_syntax.specs.Operator.{assignment_operators, assignment_text, binary_operators, binary_text, unary_operators, unary_text}
use Rattle.wgsl_syntax.specs.Scalar.{scalar_text, scalars}
use Rattle.wgsl_syntax.specs.Texel.{texel_formats, texel_text}
use Rattle.wgsl_syntax.specs.Texture.{sampled_text, sampled_types, sampler_text, samplers}
use Rattle.wgsl_syntax.specs.TextureName.{texture_name_text, texture_names}
use Rattle.wgsl_syntax.specs.Enumerant.{enumerant_text, enumerants}
use Rattle.wgsl_syntax.specs.declared.enumerant.Enumerant.{Enumerant}
use Rattle.wgsl_syntax.specs.declared.address.AddressSpace.{AddressSpace}
use Rattle.wgsl_syntax.specs.declared.address.AccessMode.{AccessMode}
use Rattle.wgsl_syntax.specs.declared.builtin_value.BuiltinValue.{BuiltinValue}
use Rattle.wgsl_syntax.specs.declared.attribute.DiagnosticSeverity.{DiagnosticSeverity}
use Rattle.wgsl_syntax.specs.declared.attribute.InterpolationType.{InterpolationType}
use Rattle.wgsl_syntax.specs.declared.attribute.InterpolationSampling.{InterpolationSampling}
use Rattle.wgsl_syntax.specs.declared.attribute.ConservativeDepth.{ConservativeDepth}
use Rattle.wgsl_syntax.specs.declared.attribute.AccelerationStructureFlags.{AccelerationStructureFlags}
use Rattle.wgsl_syntax.specs.declared.operator.UnaryOperator.{UnaryOperator}
use Rattle.wgsl_syntax.specs.declared.operator.BinaryOperator.{BinaryOperator}
use Rattle.wgsl_syntax.specs.declared.operator.AssignmentOperator.{AssignmentOperator}
use Rattle.wgsl_syntax.specs.declared.scalar.Scalar.{Scalar}
use Rattle.wgsl_syntax.specs.declared.texel.TexelFormat.{TexelFormat}
use Rattle.wgsl_syntax.specs.declared.texture.SampledType.{SampledType}
use Rattle.wgsl_syntax.specs.declared.texture.SamplerType.{SamplerType}
use Rattle.wgsl_syntax.specs.declared.texture_name.TextureName.{TextureName}
use Rattle.wgsl_syntax.specs.declared.enumerant.Enumerant.TheVariants as enumerant
use Rattle.wgsl_syntax.specs.declared.address.AddressSpace.TheVariants as space
use Rattle.wgsl_syntax.specs.declared.address.AccessMode.TheVariants as access
use Rattle.wgsl_syntax.specs.declared.builtin_value.BuiltinValue.TheVariants as builtin
use Rattle.wgsl_syntax.specs.declared.attribute.DiagnosticSeverity.TheVariants as severity
use Rattle.wgsl_syntax.specs.declared.attribute.InterpolationType.TheVariants as interpolation
use Rattle.wgsl_syntax.specs.declared.attribute.InterpolationSampling.TheVariants as sampling
use Rattle.wgsl_syntax.specs.declared.attribute.ConservativeDepth.TheVariants as depth
use Rattle.wgsl_syntax.specs.declared.attribute.AccelerationStructureFlags.TheVariants as flag
use Rattle.wgsl_syntax.specs.declared.operator.UnaryOperator.TheVariants as unary
use Rattle.wgsl_syntax.specs.declared.operator.BinaryOperator.TheVariants as binary
use Rattle.wgsl_syntax.specs.declared.operator.AssignmentOperator.TheVariants as assignment
use Rattle.wgsl_syntax.specs.declared.scalar.Scalar.TheVariants as scalar
use Rattle.wgsl_syntax.specs.declared.texel.TexelFormat.TheVariants as texel
use Rattle.wgsl_syntax.specs.declared.texture.SampledType.TheVariants as sampled
use Rattle.wgsl_syntax.specs.declared.texture.SamplerType.TheVariants as sampler
use Rattle.wgsl_syntax.specs.declared.texture_name.TextureName.TheVariants as texture

text_first : {A : Type 0} (text : A → List ℕ) (rest : Option A) (s : List ℕ) (v x : A) (found : Bool) → (found ≡ true → s ≡ text v) → (rest ≡ Some x → s ≡ text x)
    → cond found (Some v) rest ≡ Some x → s ≡ text x
text_first text rest s v x true so later e = let same : v ≡ x = cc in so refl ∙ ap text same
text_first text rest s v x false so later e = later e

-- the value found for a text has that text
pub named_text : {A : Type 0} (text : A → List ℕ) (values : List A) (s : List ℕ) (x : A) → named (table text values) s ≡ Some x → s ≡ text x
named_text text [] s x e = cc
named_text text (v ∷ values) s x e =
    text_first text (named (table text values) s) s v x (bytes_eq s (text v)) (bytes_eq-Decides s (text v)).0 (named_text text values s x) e

row_first : {A : Type 0} (text : A → List ℕ) (values : List A) (rest : Option A) (v x : A) (found : Bool) → (rest ≡ Some x → Contains (table text values) (x, text x))
    → cond found (Some v) rest ≡ Some x → Contains (table text (v ∷ values)) (x, text x)
row_first text values rest v x true later e = let same : v ≡ x = cc in (0, omega arith, ap (λ y. (y, text y)) same)
row_first text values rest v x false later e = Contains-append_right ((v, text v) ∷ []) (table text values) (x, text x) (later e)

-- and it is in the table
named_row : {A : Type 0} (text : A → List ℕ) (values : List A) (s : List ℕ) (x : A) → named (table text values) s ≡ Some x → Contains (table text values) (x, text x)
named_row text [] s x e = absurd (cc)
named_row text (v ∷ values) s x e =
    row_first text values (named (table text values) s) v x (bytes_eq s (text v)) (named_row text values s x) e

only_rows : {A : Type 0} (text : A → List ℕ) (values : List A) → All (λ (row : A × List ℕ). row.1 ≡ text row.0) (table text values)
only_rows {A} text [] = All-nil (λ (row : A × List ℕ). row.1 ≡ text row.0)
only_rows {A} text (v ∷ values) = All-cons (λ (row : A × List ℕ). row.1 ≡ text row.0) (v, text v) (table text values) refl (only_rows text values)

-- a table in which each value is found by its text
naming : {A : Type 0} (text : A → List ℕ) (values : List A) → ((x : A) → named (table text values) (text x) ≡ Some x) → IsNaming text (table text values)
naming text values back = record {
  every = λ x. named_row text values (text x) x (back x);
  nothing_else = only_rows text values;
  distinct = λ x y e. let again : Some x ≡ Some y = sym (back x) ∙ (ap (named (table text values)) e ∙ back y) in cc;
}

ok_some : {A : Type 0} (o : Option A) (x : A) → ok_or o (tt {0}) ≡ Ok x → o ≡ Some x
ok_some (Some y) x e = let same : y ≡ x = cc in ap Some same
ok_some None x e = cc

reading : {A : Type 0} (text : A → List ℕ) (values : List A) → ((x : A) → named (table text values) (text x) ≡ Some x)
    → (s : List ℕ) → Reads text s (ok_or (named (table text values) s) (tt {0}))
reading text values back s x = (
  λ e. named_text text values s x (ok_some (named (table text values) s) x e),
  λ e. ap (λ o. ok_or o (tt {0})) (ap (named (table text values)) e ∙ back x),
)

pub space_back : (x : AddressSpace) → named (table space_text spaces) (space_text x) ≡ Some x
space_back space.Function = refl
space_back _ = refl

pub space_naming : IsNaming space_text (table space_text spaces)
space_naming = naming space_text spaces space_back

access_back : (x : AccessMode) → named (table access_text access_modes) (access_text x) ≡ Some x
access_back access.Read = refl
access_back _ = refl

pub access_naming : IsNaming access_text (table access_text access_modes)
access_naming = naming access_text access_modes access_back

builtin_back : (x : BuiltinValue) → named (table builtin_text builtin_values) (builtin_text x) ≡ Some x
builtin_back builtin.VertexIndex = refl
builtin_back _ = refl

pub builtin_naming : IsNaming builtin_text (table builtin_text builtin_values)
builtin_naming = naming builtin_text builtin_values builtin_back

severity_back : (x : DiagnosticSeverity) → named (table severity_text severities) (severity_text x) ≡ Some x
severity_back severity.Error = refl
severity_back _ = refl

pub severity_naming : IsNaming severity_text (table severity_text severities)
severity_naming = naming severity_text severities severity_back

interpolation_back : (x : InterpolationType) → named (table interpolation_text interpolations) (interpolation_text x) ≡ Some x
interpolation_back interpolation.Perspective = refl
interpolation_back _ = refl

pub interpolation_naming : IsNaming interpolation_text (table interpolation_text interpolations)
interpolation_naming = naming interpolation_text interpolations interpolation_back

sampling_back : (x : InterpolationSampling) → named (table sampling_text samplings) (sampling_text x) ≡ Some x
sampling_back sampling.Center = refl
sampling_back _ = refl

pub sampling_naming : IsNaming sampling_text (table sampling_text samplings)
sampling_naming = naming sampling_text samplings sampling_back

depth_back : (x : ConservativeDepth) → named (table depth_text depths) (depth_text x) ≡ Some x
depth_back depth.GreaterEqual = refl
depth_back _ = refl

pub depth_naming : IsNaming depth_text (table depth_text depths)
depth_naming = naming depth_text depths depth_back

flag_back : (x : AccelerationStructureFlags) → named (table flag_text flags) (flag_text x) ≡ Some x
flag_back flag.VertexReturn = refl

pub flag_naming : IsNaming flag_text (table flag_text flags)
flag_naming = naming flag_text flags flag_back

unary_back : (x : UnaryOperator) → named (table unary_text unary_operators) (unary_text x) ≡ Some x
unary_back unary.LogicalNegation = refl
unary_back _ = refl

pub unary_naming : IsNaming unary_text (table unary_text unary_operators)
unary_naming = naming unary_text unary_operators unary_back

binary_back : (x : BinaryOperator) → named (table binary_text binary_operators) (binary_text x) ≡ Some x
binary_back binary.ShortCircuitOr = refl
binary_back _ = refl

pub binary_naming : IsNaming binary_text (table binary_text binary_operators)
binary_naming = naming binary_text binary_operators binary_back

assignment_back : (x : AssignmentOperator) → named (table assignment_text assignment_operators) (assignment_text x) ≡ Some x
assignment_back assignment.Equal = refl
assignment_back _ = refl

pub assignment_naming : IsNaming assignment_text (table assignment_text assignment_operators)
assignment_naming = naming assignment_text assignment_operators assignment_back

scalar_back : (x : Scalar) → named (table scalar_text scalars) (scalar_text x) ≡ Some x
scalar_back scalar.Bool = refl
scalar_back _ = refl

pub scalar_naming : IsNaming scalar_text (table scalar_text scalars)
scalar_naming = naming scalar_text scalars scalar_back

pub texel_back : (x : TexelFormat) → named (table texel_text texel_formats) (texel_text x) ≡ Some x
texel_back texel.Rgba8Unorm = refl
texel_back _ = refl

pub texel_naming : IsNaming texel_text (table texel_text texel_formats)
texel_naming = naming texel_text texel_formats texel_back

pub texel_reads : (s : List ℕ) → Reads texel_text s (ok_or (named (table texel_text texel_formats) s) (tt {0}))
texel_reads = reading texel_text texel_formats texel_back

sampled_back : (x : SampledType) → named (table sampled_text sampled_types) (sampled_text x) ≡ Some x
sampled_back sampled.I32 = refl
sampled_back _ = refl

pub sampled_naming : IsNaming sampled_text (table sampled_text sampled_types)
sampled_naming = naming sampled_text sampled_types sampled_back

sampler_back : (x : SamplerType) → named (table sampler_text samplers) (sampler_text x) ≡ Some x
sampler_back sampler.Sampler = refl
sampler_back _ = refl

pub sampler_naming : IsNaming sampler_text (table sampler_text samplers)
sampler_naming = naming sampler_text samplers sampler_back

texture_back : (x : TextureName) → named (table texture_name_text texture_names) (texture_name_text x) ≡ Some x
texture_back texture.Sampled1D = refl
texture_back _ = refl

pub texture_naming : IsNaming texture_name_text (table texture_name_text texture_names)
texture_naming = naming texture_name_text texture_names texture_back

pub texture_reads : (s : List ℕ) → Reads texture_name_text s (ok_or (named (table texture_name_text texture_names) s) (tt {0}))
texture_reads = reading texture_name_text texture_names texture_back

enumerant_back : (x : Enumerant) → named (table enumerant_text enumerants) (enumerant_text x) ≡ Some x
enumerant_back (enumerant.AccessMode access.Read) = refl
enumerant_back (enumerant.AccessMode _) = refl
enumerant_back (enumerant.AddressSpace space.Function) = refl
enumerant_back (enumerant.AddressSpace _) = refl
enumerant_back (enumerant.TexelFormat texel.Rgba8Unorm) = refl
enumerant_back (enumerant.TexelFormat _) = refl
enumerant_back (enumerant.AccelerationStructureFlags flag.VertexReturn) = refl

pub enumerant_naming : IsNaming enumerant_text (table enumerant_text enumerants)
enumerant_naming = naming enumerant_text enumerants enumerant_back

-- the text of an enumerant belongs to no other enumerant
pub enumerant_reads : (s : List ℕ) (x : Enumerant) → s ≡ enumerant_text x → x ≢ enumerant.AddressSpace space.Handle
    → ReadsBut (enumerant.AddressSpace space.Handle) enumerant_text s (Ok x)
enumerant_reads s x at not_handle y = (
  λ e. let same : x ≡ y = cc in (at ∙ ap enumerant_text same, λ h. not_handle (same ∙ h)),
  λ p. ap Ok (enumerant_naming.distinct x y (sym at ∙ p.0)),
)

pub ruleset namings = (space_naming, access_naming, builtin_naming, severity_naming, interpolation_naming, sampling_naming, depth_naming, flag_naming, unary_naming, binary_naming, assignment_naming, scalar_naming, texel_naming, sampled_naming, sampler_naming, texture_naming, enumerant_naming)
