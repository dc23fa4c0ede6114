-- What a declaration of the module takes at its end, and what its name stands for from then on (WGSL, "Variable and Value
-- Declarations", "Type Aliases", "Declaration and Scope").
use Rattle.std.specs.Prelude.{◌≡◌, ℕ, List, Bool, true, false, Option, Some, None, option_map}
use Rattle.wgsl_core.specs.View.{view}
use Rattle.wgsl_core.specs.declared.ty.Type.{«Type»}
use Rattle.wgsl_module.specs.Noted.{DeclaresOverride, DeclaresResult, DeclaresValue, DeclaresVariable, Uses, below_variable}
use Rattle.wgsl_module.specs.States.{Keeps, KeepsButStructs, State}
use Rattle.wgsl_module.specs.declared.declaration.DeclarationKind.{DeclarationKind}
use Rattle.wgsl_module.specs.declared.declaration.DeclarationKind.TheVariants as kinds
use Rattle.wgsl_standard.specs.forms.Declare.{overridden}
use Rattle.wgsl_standard.specs.declared.forms.declare.Declaration.TheVariants as forms
use Rattle.wgsl_syntax.specs.declared.address.AccessMode.{AccessMode}
use Rattle.wgsl_syntax.specs.declared.address.AddressSpace.{AddressSpace}
use Rattle.wgsl_syntax.specs.declared.address.AddressSpace.TheVariants.{Function, Handle}
use Rattle.wgsl_typing.specs.Declarations.{IsDeclared, IsHeld, IsVariable, declared_on}
use Rattle.wgsl_typing.specs.Stacks.{below_initializer, initializer_on, space_on}
use Rattle.wgsl_typing.specs.Types.{IsTypeOnTop}
use Rattle.wgsl_typing.specs.declared.declared.Declared.{Declared}
use Rattle.wgsl_typing.specs.declared.declared.Declared.TheVariants as types
use Rattle.wgsl_typing.specs.declared.item.Item.{Item}
use Rattle.wgsl_typing.specs.declared.known.Known.{Known}
use Rattle.wgsl_typing.specs.declared.known.Known.TheVariants as knowns
use Rattle.wgsl_typing.specs.declared.known.Outcome.{Outcome}
use Rattle.wgsl_typing.specs.declared.known.Typed.{Typed}
use Rattle.wgsl_typing.specs.declared.stage.Stage.TheVariants as stages

-- Values and types: one that has a fault is faulty

abbrev pub as_value : Option Typed → Known
as_value None = knowns.Faulty
as_value (Some x) = knowns.Value x

abbrev pub as_type : Option «Type» → Known
as_type None = knowns.Faulty
as_type (Some ty) = knowns.Type ty

-- `const x: T = y`
abbrev pub EndsConst : Known → State → State → Type 0
EndsConst known s r = (named : ℕ) × (typed : Option Typed) × DeclaresValue forms.Const named typed s r × (known ≡ as_value typed)

-- `alias A = T`
abbrev pub EndsAlias : Known → State → State → Type 0
EndsAlias known s r = (ty : Option «Type») × IsTypeOnTop s.stack ty × DeclaresResult s r × (known ≡ as_type ty)

-- Overrides

-- `override x: f32`
abbrev pub IsUnset : Declared → Option Typed → Type 0
IsUnset (types.Type ty) typed = IsHeld stages.Override (overridden (view ty)) typed
IsUnset other typed = typed ≡ None

-- `override x = y`, `override x: T`
abbrev pub IsOverride : Option Outcome → Declared → Option Typed → Type 0
IsOverride (Some o) ty typed = IsDeclared forms.Override ty o typed
IsOverride None ty typed = IsUnset ty typed

abbrev pub IsOverrideOn : List Item → Option Typed → Type 0
IsOverrideOn is typed = IsOverride (option_map (λ x. x.outcome) (initializer_on is)) (declared_on (below_initializer is)) typed

abbrev pub EndsOverride : Known → State → State → Type 0
EndsOverride known s r = (typed : Option Typed) × IsOverrideOn s.stack.items typed × DeclaresOverride s r × (known ≡ as_value typed)

-- Variables

-- where a variable lies: `var x: T` is a handle. None if the template list has a fault
abbrev pub space_of : Option (Option (AddressSpace × Option AccessMode)) → Option (AddressSpace × Option AccessMode)
space_of None = Some (Handle, None)
space_of (Some space) = space

-- No variable of a module lies in `function`.
abbrev pub IsGlobal : Option (AddressSpace × Option AccessMode) → Option Outcome → Declared → Option Typed → Type 0
IsGlobal None o ty typed = typed ≡ None
IsGlobal (Some (Function, access)) o ty typed = typed ≡ None
IsGlobal (Some (space, access)) o ty typed = IsVariable space access o ty typed

abbrev pub IsGlobalOn : List Item → Option Typed → Type 0
IsGlobalOn is typed = IsGlobal (space_of (space_on (below_variable is))) (option_map (λ x. x.outcome) (initializer_on is)) (declared_on (below_initializer is)) typed

-- `var<private> x: T = y`
abbrev pub EndsVariable : Known → State → State → Type 0
EndsVariable known s r = (typed : Option Typed) × IsGlobalOn s.stack.items typed × DeclaresVariable s r × (known ≡ as_value typed)

-- Structs and functions: their parts are taken in front of their end, one by one. Which type it is, and the members that a struct
-- has from then on, isn't said here.

abbrev pub is_type_or_faulty : Known → Bool
is_type_or_faulty (knowns.Type ty) = true
is_type_or_faulty knowns.Faulty = true
is_type_or_faulty other = false

abbrev pub is_function_or_faulty : Known → Bool
is_function_or_faulty (knowns.Function f) = true
is_function_or_faulty knowns.Faulty = true
is_function_or_faulty other = false

abbrev pub EndsStruct : Known → State → State → Type 0
EndsStruct known s r = KeepsButStructs s r × (is_type_or_faulty known ≡ true)

abbrev pub EndsFunction : Known → State → State → Type 0
EndsFunction known s r = Keeps s r × (is_function_or_faulty known ≡ true)

-- what a declaration takes at its end, and what its name stands for
abbrev pub Ends : DeclarationKind → Known → State → State → Type 0
Ends kinds.Const known s r = EndsConst known s r
Ends kinds.Override known s r = EndsOverride known s r
Ends kinds.Variable known s r = EndsVariable known s r
Ends kinds.Alias known s r = EndsAlias known s r
Ends kinds.Struct known s r = EndsStruct known s r
Ends kinds.Function known s r = EndsFunction known s r
Ends kinds.Assertion known s r = Uses s r × (known ≡ knowns.Faulty)
Ends other known s r = Keeps s r × (known ≡ knowns.Faulty)
