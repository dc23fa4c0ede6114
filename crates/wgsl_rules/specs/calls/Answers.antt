-- What a call of a built-in function returns (WGSL, "Built-in Functions" and "Overload Resolution").
use Rattle.std.specs.Prelude.{ℕ, ◌≡◌, ◌==◌, ◌⊎◌, List, [], ◌∷◌, Option, Some, None, Result, Ok, Err, All, codes, IsTrue, Bool, bytes_eq, count_by}
use Rattle.std.specs.List.{list_all, list_any}
use Rattle.wgsl_rules.specs.types.Types.{vec_of, WgslType, scalar, within}
use Rattle.wgsl_rules.specs.types.Kinds.{IsFloatOrVector, IsAbstractIntOrVector, IsLeaf}
use Rattle.wgsl_rules.specs.conversion.Conversion.{IsValueType}
use Rattle.wgsl_rules.specs.operators.Candidates.{Name, operator, min, max, atan2, step, pow, cross, reflect, distance, dot, clamp, fma, smoothstep, face_forward, mix, refract, select, insert_bits}
use Rattle.wgsl_rules.specs.Headline.{IsChosenAnswer}
use Rattle.wgsl_rules.specs.Laws.{IsCallName}
use Rattle.wgsl_rules.specs.types.Signatures.{Signature}
use Rattle.wgsl_rules.specs.errors.Refusals.{Refusal, signature}
use Rattle.wgsl_syntax.specs.declared.call.Row.{Row}
use Rattle.wgsl_rules.specs.calls.Rows.{return_type_of, Fits, IsReturnType}
use Rattle.wgsl_rules.specs.calls.Names.{call_names}
use Rattle.wgsl_rules.specs.calls.Table.{Line, maths_of_one, maths_of_several, bits_and_subgroups, derivatives_and_packing, textures, atomics, barriers_and_rays, call_table, rows_named}

-- The answer of the first row that takes the call; without one the call is refused.
abbrev pub IsAnswerOf : List Row → Signature → Result (Option WgslType) Refusal → Type 0
IsAnswerOf [] c a = a ≡ Err (signature c)
IsAnswerOf (r ∷ rs) c a = (Fits r c × IsReturnType (return_type_of r) c a) ⊎ (¬ Fits r c × IsAnswerOf rs c a)

-- A call is answered by the rows of its name.
unfoldable pub IsCallAnswer : Signature → Result (Option WgslType) Refusal → Type 0
IsCallAnswer c a = IsAnswerOf (rows_named c.name call_table) c a

-- the names of the functions that have candidates
abbrev pub name_of : Name → List ℕ
name_of (operator o) = []
name_of min = codes "min"
name_of max = codes "max"
name_of atan2 = codes "atan2"
name_of step = codes "step"
name_of pow = codes "pow"
name_of cross = codes "cross"
name_of reflect = codes "reflect"
name_of distance = codes "distance"
name_of dot = codes "dot"
name_of clamp = codes "clamp"
name_of fma = codes "fma"
name_of smoothstep = codes "smoothstep"
name_of face_forward = codes "faceForward"
name_of mix = codes "mix"
name_of refract = codes "refract"
name_of select = codes "select"
name_of insert_bits = codes "insertBits"

-- The calls that the table refuses though a candidate may take their arguments: it asks for a float in a place for which
-- an abstract integer converts to one, and `insertBits` asks for an integer.
abbrev pub RefusedThoughTaken : Name → List WgslType → Type 0
-- atan2(AbstractInt, AbstractFloat)
RefusedThoughTaken atan2 (a ∷ ts) = IsAbstractIntOrVector a
RefusedThoughTaken step (a ∷ ts) = IsAbstractIntOrVector a
RefusedThoughTaken distance (a ∷ ts) = IsAbstractIntOrVector a
-- cross(vec3<AbstractInt>, vec3<f32>)
RefusedThoughTaken cross (a ∷ ts) = IsAbstractIntOrVector a
RefusedThoughTaken reflect (a ∷ ts) = IsAbstractIntOrVector a
-- fma(AbstractInt, AbstractInt, AbstractInt)
RefusedThoughTaken fma (a ∷ ts) = IsAbstractIntOrVector a
RefusedThoughTaken smoothstep (a ∷ ts) = IsAbstractIntOrVector a
RefusedThoughTaken face_forward (a ∷ ts) = IsAbstractIntOrVector a
-- mix(vec2<f32>, vec2<f32>, AbstractInt), but not mix(vec2<AbstractInt>, vec2<AbstractInt>, f32)
RefusedThoughTaken mix (within (vec_of n) e ∷ b ∷ scalar s ∷ []) = IsAbstractIntOrVector (scalar s)
-- mix(AbstractInt, f32, f32)
RefusedThoughTaken mix (a ∷ ts) = IsAbstractIntOrVector a
-- refract(vec3<f32>, vec3<f32>, AbstractInt)
RefusedThoughTaken refract (a ∷ b ∷ c ∷ ts) = IsAbstractIntOrVector c
-- insertBits(f32, f32, u32, u32)
RefusedThoughTaken insert_bits (a ∷ ts) = IsFloatOrVector a
RefusedThoughTaken n ts = ⊥

-- The answer is the result of the least candidate. The call is refused exactly if no candidate takes its arguments, or
-- if it is one of these.
abbrev pub IsChosenCall : Name → Signature → Result (Option WgslType) Refusal → Type 0
IsChosenCall n c (Ok (Some t)) = IsChosenAnswer n c.arguments (Some t) × ¬ RefusedThoughTaken n c.arguments
IsChosenCall n c (Ok None) = ⊥
IsChosenCall n c (Err e) = (e ≡ signature c) × (IsChosenAnswer n c.arguments None ⊎ RefusedThoughTaken n c.arguments)

-- This holds for the functions that have candidates, on value types, without a template.
unfoldable pub IsLeastCallAnswer : Signature → Result (Option WgslType) Refusal → Type 0
IsLeastCallAnswer c a = (n : Name) → IsCallName n → c.name ≡ name_of n → c.template ≡ None → All IsValueType c.arguments → IsChosenCall n c a

-- The answer is a leaf type, or no value.
abbrev pub IsLeafAnswer : Result (Option WgslType) Refusal → Type 0
IsLeafAnswer (Ok None) = Unit {0}
IsLeafAnswer (Ok (Some t)) = IsLeaf t
IsLeafAnswer (Err e) = ⊥

-- The call has no template, and its answer is a leaf type or no value.
unfoldable pub IsLeafCall : Signature → Type 0
IsLeafCall c = (c.template ≡ None) × (a : Result (Option WgslType) Refusal) × IsCallAnswer c a × IsLeafAnswer a

abbrev pub table_parts : List (List Line)
table_parts = maths_of_one ∷ maths_of_several ∷ bits_and_subgroups ∷ derivatives_and_packing ∷ textures ∷ atomics ∷ barriers_and_rays ∷ []

abbrev pub has : List ℕ → List Line → Bool
has name ls = list_any (λ l. list_any (bytes_eq name) l.names) ls

-- Each name is in exactly one part of the table, and each line has only names of the list.
pub record NamesMatchTable : Type 0 where
  pub in_one_part : IsTrue (list_all (λ n. count_by (has n) table_parts == 1) call_names)
  pub in_list : IsTrue (list_all (λ l. list_all (λ w. list_any (bytes_eq w) call_names) l.names) call_table)
