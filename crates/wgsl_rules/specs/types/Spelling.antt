-- How types are written in messages: in WGSL's syntax if it has one for the type (WGSL, "Types").
use Rattle.std.specs.Prelude.{ℕ, List, ◌++◌, Option, Some, None, codes, decimal}
use Rattle.wgsl_syntax.specs.Address.{space_text_by, access_text}
use Rattle.wgsl_syntax.specs.Attribute.{flag_text}
use Rattle.wgsl_syntax.specs.Scalar.{scalar_text}
use Rattle.wgsl_syntax.specs.Texture.{sampler_text, texture_text_by}
use Rattle.wgsl_syntax.specs.declared.attribute.AccelerationStructureFlags.{AccelerationStructureFlags}
use Rattle.wgsl_syntax.specs.declared.rules.RuleSet.{RuleSet}
use Rattle.wgsl_syntax.specs.declared.rules.RuleSet.TheVariants.{Ported, Standard}
use Rattle.wgsl_rules.specs.types.Types.{WgslType, scalar, struct, atomic, pointer, reference, texture, sampler, binding_array, ray_query, acceleration_structure, array, vec, mat}

-- a name, with the flag if there is one
abbrev pub flagged : List ℕ → Option AccelerationStructureFlags → List ℕ
flagged name None = name
flagged name (Some flag) = name ++ codes "<" ++ flag_text flag ++ codes ">"

-- a name with an element, and the number of elements if it is known
abbrev pub counted : List ℕ → List ℕ → Option ℕ → List ℕ
counted name element None = name ++ codes "<" ++ element ++ codes ">"
counted name element (Some n) = name ++ codes "<" ++ element ++ codes ", " ++ decimal n ++ codes ">"

-- what closes the list of an array, behind its element
abbrev pub count_end : Option ℕ → List ℕ
count_end None = codes ">"
count_end (Some n) = codes ", " ++ decimal n ++ codes ">"

-- a type, by the names of these rules
abbrev pub spelling_by : RuleSet → WgslType → List ℕ
spelling_by rules (scalar s) = scalar_text s
spelling_by rules (array n t) = counted (codes "array") (spelling_by rules t) n
spelling_by rules (vec n t) = codes "vec" ++ decimal n ++ codes "<" ++ spelling_by rules t ++ codes ">"
spelling_by rules (mat c r t) = codes "mat" ++ decimal c ++ codes "x" ++ decimal r ++ codes "<" ++ spelling_by rules t ++ codes ">"
spelling_by rules (struct name ms) = name
spelling_by rules (atomic t) = codes "atomic<" ++ spelling_by rules t ++ codes ">"
spelling_by rules (pointer s t m) = codes "ptr<" ++ space_text_by rules s ++ codes ", " ++ spelling_by rules t ++ codes ", " ++ access_text m ++ codes ">"
spelling_by rules (reference s t m) = codes "ref<" ++ space_text_by rules s ++ codes ", " ++ spelling_by rules t ++ codes ", " ++ access_text m ++ codes ">"
spelling_by rules (texture t) = texture_text_by rules t
spelling_by rules (sampler s) = sampler_text s
spelling_by rules (binding_array n t) = counted (codes "binding_array") (spelling_by rules t) n
spelling_by rules (ray_query f) = flagged (codes "ray_query") f
spelling_by rules (acceleration_structure f) = flagged (codes "acceleration_structure") f

-- by naga's names, as the ported rules write types
abbrev pub spelling : WgslType → List ℕ
spelling t = spelling_by Ported t

-- by WGSL's own
abbrev pub wgsl_spelling : WgslType → List ℕ
wgsl_spelling t = spelling_by Standard t
