-- What `x.a` is (WGSL, "Structure Access", "Vector Access").
use Rattle.std.specs.Prelude.{◌≡◌, ℕ, suc, zero, List, [], ◌∷◌, Option, Some, None}
use Rattle.wgsl_core.specs.View.{view}
use Rattle.wgsl_rules.specs.types.Types.{Members, WgslType, member, no_members, pointer, reference, struct}
use Rattle.wgsl_standard.specs.forms.Member.{member_answer}
use Rattle.wgsl_standard.specs.forms.Memory.{behind}
use Rattle.wgsl_typing.specs.Faults.{last_of, up_to}
use Rattle.wgsl_typing.specs.Known.{typed_in}
use Rattle.wgsl_typing.specs.Stages.{is_const}
use Rattle.wgsl_typing.specs.StructNames.{index_of, struct_of}
use Rattle.wgsl_typing.specs.declared.known.Outcome.{Outcome}
use Rattle.wgsl_typing.specs.declared.known.Outcome.TheVariants as outcomes
use Rattle.wgsl_typing.specs.declared.known.Part.{Part}
use Rattle.wgsl_typing.specs.declared.known.Typed.{Typed}
use Rattle.wgsl_typing.specs.declared.structs.Declared.{Declared}
use Rattle.wgsl_typing.specs.declared.structs.Structs.{Structs}
use Rattle.wgsl_typing.specs.Names.{word_in}
use Rattle.wgsl_typing.specs.Outcomes.{IsFormed}
use Rattle.wgsl_typing.specs.Stacks.{IsOnTop, Puts, Stack, below_operand}

-- the member with an index, alone
abbrev pub only_member : Members → Option ℕ → Members
only_member ms None = no_members
only_member no_members index = no_members
only_member (member name t size align ms) (Some zero) = member name t size align no_members
only_member (member name t size align ms) (Some (suc index)) = only_member ms (Some index)

-- a type with another struct in it: `S`, `ref<private, S, read_write>`
abbrev pub with_struct : WgslType → WgslType → WgslType
with_struct (reference space t access) whole = reference space whole access
with_struct (pointer space t access) whole = pointer space whole access
with_struct t whole = whole

abbrev pub with_member_of : WgslType → Option ℕ → WgslType → WgslType
with_member_of (struct name ms) index t = with_struct t (struct name (only_member ms index))
with_member_of other index t = t

-- In types a declared struct stands by its name and a summary. Its members are those of its declaration, which has an index of their names.
abbrev pub with_declared_member : Option Declared → List ℕ → WgslType → WgslType
with_declared_member None name t = t
with_declared_member (Some d) name t = with_member_of (view d.whole) (index_of name d.members) t

abbrev pub type_with_member : Structs → List ℕ → WgslType → WgslType
type_with_member structs name t = with_declared_member (struct_of (behind t) structs) name t

abbrev pub IsMemberOf : Structs → List ℕ → Option Typed → Outcome → Type 0
IsMemberOf structs name (Some x) o =
    IsFormed x.stage (member_answer (record { of_type = type_with_member structs name (view x.ty); is_constant = is_const x.stage }) name) o
IsMemberOf structs name None o = o ≡ outcomes.Faulty

abbrev pub Member : ℕ → Stack → Stack → Type 0
Member at s r = (x : Part) × IsOnTop s x
    × Puts (below_operand s.items) (x ∷ []) (up_to x.place (last_of at)) (IsMemberOf s.context.structs (word_in s.context at) (typed_in x.outcome)) s r
