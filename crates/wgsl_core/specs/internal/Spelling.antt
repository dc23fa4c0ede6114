-- The text of a type in two parts, with the type inside between them.
use Rattle.std.specs.Prelude.{ℕ, List, [], ◌++◌, codes, decimal}
use Rattle.wgsl_syntax.specs.Address.{access_text, space_text_by}
use Rattle.wgsl_syntax.specs.declared.rules.RuleSet.{RuleSet}
use Rattle.wgsl_rules.specs.types.Spelling.{count_end, spelling_by}
use Rattle.wgsl_rules.specs.types.Types.{WgslType, atomic, pointer, reference, binding_array, array, vec, mat}

-- `vec3<`, `ptr<function, `; all of a type that has none inside
abbrev pub start_by : RuleSet → WgslType → List ℕ
start_by rules (array n t) = codes "array<"
start_by rules (vec n t) = codes "vec" ++ decimal n ++ codes "<"
start_by rules (mat c r t) = codes "mat" ++ decimal c ++ codes "x" ++ decimal r ++ codes "<"
start_by rules (atomic t) = codes "atomic<"
start_by rules (pointer s t m) = codes "ptr<" ++ space_text_by rules s ++ codes ", "
start_by rules (reference s t m) = codes "ref<" ++ space_text_by rules s ++ codes ", "
start_by rules (binding_array n t) = codes "binding_array<"
start_by rules t = spelling_by rules t

-- `>`, `, 4>`, `, read_write>`
abbrev pub end_of : WgslType → List ℕ
end_of (array n t) = count_end n
end_of (vec n t) = codes ">"
end_of (mat c r t) = codes ">"
end_of (atomic t) = codes ">"
end_of (pointer s t m) = codes ", " ++ access_text m ++ codes ">"
end_of (reference s t m) = codes ", " ++ access_text m ++ codes ">"
end_of (binding_array n t) = count_end n
end_of t = []
