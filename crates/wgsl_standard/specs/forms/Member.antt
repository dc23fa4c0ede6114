-- Members of structs and components of vectors (WGSL, "Structure Access" and "Vector Access").
use Rattle.std.specs.Prelude.{ℕ, List, [], ◌∷◌, take, codes, nat_eq, Option, Some, None, option_map, Result, Ok, Err, Bool, true, false, not, ◌&&◌, ◌||◌, cond}
use Rattle.wgsl_standard.specs.forms.Prelude.{list_all, list_any, WgslType, Members, no_members, member, struct, vec, component, Operand}
use Rattle.std.specs.Str.{bytes_eq}
use Rattle.wgsl_standard.specs.forms.Memory.{behind, formed_from, is_memory}
use Rattle.wgsl_standard.specs.forms.Expressions.{Expression, part_of, value_from}
use Rattle.wgsl_standard.specs.forms.Load.{loaded}
use Rattle.wgsl_standard.specs.forms.Refusals.{Refusal, error}
use Rattle.wgsl_standard.specs.declared.forms.form.Referent.TheVariants as referents

-- what a name stands for in a type
pub data Part : Type 0 where
  -- a member of a struct, of that type
  a_member : WgslType → Part
  -- a component of a vector
  a_component : WgslType → Part
  -- several components: how many, and their type
  components : ℕ → WgslType → Part

-- the type of the first member with that name
abbrev pub member_named : Members → List ℕ → Option WgslType
member_named no_members name = None
member_named (member n t size align ms) name = cond (bytes_eq n name) (Some t) (member_named ms name)

-- Each letter of the name is one of these.
abbrev pub are_among : List ℕ → List ℕ → Bool
are_among letters name = list_all (λ c. list_any (λ l. nat_eq l c) letters) name

-- All are among the first n of `xyzw`, or all are among the first n of `rgba`.
abbrev pub are_components : ℕ → List ℕ → Bool
are_components n name = are_among (take n (codes "xyzw")) name || are_among (take n (codes "rgba")) name

-- one to four letters, each for a component of that type
abbrev pub part_of_letters : List ℕ → WgslType → Option Part
part_of_letters (a ∷ []) e = Some (a_component e)
part_of_letters (a ∷ b ∷ []) e = Some (components 2 e)
part_of_letters (a ∷ b ∷ c ∷ []) e = Some (components 3 e)
part_of_letters (a ∷ b ∷ c ∷ d ∷ []) e = Some (components 4 e)
part_of_letters name e = None

abbrev pub part_named : WgslType → List ℕ → Option Part
-- `a` of `struct S { a: i32 }`
part_named (struct s ms) name = option_map a_member (member_named ms name)
-- `y`, `g` and `xx` of `vec2<f32>`, but not `z` and `xr`
part_named (vec n e) name = cond (are_components n name) (part_of_letters name e) None
part_named t name = None

-- No letter stands twice in the name.
abbrev pub are_distinct : List ℕ → Bool
are_distinct [] = true
are_distinct (c ∷ cs) = not (list_any (λ l. nat_eq l c) cs) && are_distinct cs

-- Several components of a vector that can be loaded. They can be assigned to if no letter stands twice.
abbrev pub loaded_components : Operand → List ℕ → WgslType → Result WgslType Refusal → Result Expression Refusal
loaded_components x name t (Ok whole) = Ok (cond (are_distinct name) (part_of x referents.Swizzle t) (value_from x t))
loaded_components x name t (Err r) = Err r

abbrev pub expression_of_part : Operand → List ℕ → Option Part → Result Expression Refusal
-- `s.a` : i32, and of `ref<uniform, S, read>` it is `ref<uniform, i32, read>`
expression_of_part x name (Some (a_member t)) = Ok (part_of x referents.Whole t)
-- `v.g` : f32, and of `ref<private, vec2<f32>, read_write>` it is `ref<private, f32, read_write>`
expression_of_part x name (Some (a_component e)) = Ok (part_of x referents.Component e)
-- `v.zz` : vec2<f32>, also of `ref<private, vec3<f32>, read_write>`; there `v.zx` is the swizzle
-- `ref<private, vec2<f32>, read_write>`
expression_of_part x name (Some (components k e)) = loaded_components x name (vec k e) (loaded (formed_from x.of_type (behind x.of_type)))
-- `f32` has no component `x`; nor has `ref<private, f32, read_write>`, of which the refusal names `f32`
expression_of_part x name None = Err (error (component (behind x.of_type) name))

-- what `x.name` is
abbrev pub member_answer : Operand → List ℕ → Result Expression Refusal
member_answer x name = expression_of_part x name (part_named (behind x.of_type) name)

abbrev pub are_several : Option Part → Bool
are_several (Some (components k e)) = true
are_several p = false

-- `x.name` is a swizzle of a reference, if it has a type: `v.zx` of `ref<private, vec3<f32>, read_write>`, but neither `v.zz`
-- nor `v.z`
abbrev pub is_swizzle : Operand → List ℕ → Bool
is_swizzle x name = is_memory x.of_type && (are_several (part_named (behind x.of_type) name) && are_distinct name)
