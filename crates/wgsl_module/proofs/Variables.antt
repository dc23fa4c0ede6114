-- What is declared may be faulty.
use Rattle.std.proofs.Common.{◌≡◌, ◌≢◌, Bool, true, false, Option, Some, None, Result, ap, cond, option_copied, option_map, refl}
use Rattle.std.proofs.Common.{Bor}
use Rattle.wgsl_module.specs.Meanings.{IsGlobal, IsOverride}
use Rattle.wgsl_rules.specs.types.Types.{WgslType}
use Rattle.wgsl_standard.specs.declared.forms.declare.Declaration.TheVariants.{Override}
use Rattle.wgsl_standard.specs.forms.Declare.{declared}
use Rattle.wgsl_standard.specs.forms.Refusals.{Refusal}
use Rattle.wgsl_standard.specs.forms.Variable.{initialized_variable}
use Rattle.wgsl_syntax.specs.declared.address.AccessMode.{AccessMode}
use Rattle.wgsl_syntax.specs.declared.address.AddressSpace.{AddressSpace}
use Rattle.wgsl_syntax.specs.declared.address.AddressSpace.TheVariants as spaces
use Rattle.wgsl_typing.specs.Declarations.{IsHeldFor, IsVariable, initializing, type_behind, value_of_declaration, value_of_variable}
use Rattle.wgsl_typing.specs.declared.declared.Declared.{Declared}
use Rattle.wgsl_typing.specs.declared.declared.Declared.TheVariants as types
use Rattle.wgsl_typing.specs.declared.known.Outcome.{Outcome}
use Rattle.wgsl_typing.specs.declared.known.Part.{Part}
use Rattle.wgsl_typing.specs.declared.known.Typed.{Typed}
use Rattle.wgsl_typing.specs.declared.stage.Stage.{Stage}
use Rattle.wgsl_typing.specs.declared.stage.Stage.TheVariants as stages

none_for : (answer : Typed → Result WgslType Refusal) (stage : Stage) (value : Option Typed) → IsHeldFor answer stage value None
none_for answer stage None = refl
none_for answer stage (Some v) = tt

none_fits : (space : AddressSpace) (access : Option AccessMode) (o : Option Outcome) (ty : Declared) → IsVariable space access o ty None
none_fits space access (Some o) ty = none_for (λ v. initialized_variable space access (value_of_variable space v) (type_behind ty)) stages.Runtime (initializing ty o)
none_fits space access None (types.Type ty) = tt
none_fits space access None types.No = refl
none_fits space access None types.Faulty = refl

none_set : (o : Option Outcome) (ty : Declared) → IsOverride o ty None
none_set (Some o) ty = none_for (λ v. declared Override (value_of_declaration Override v) (type_behind ty)) stages.Override (initializing ty o)
none_set None (types.Type ty) = tt
none_set None types.No = refl
none_set None types.Faulty = refl

pub set_or_none : (is_held : Bool) (o : Option Outcome) (ty : Declared) (typed : Option Typed) → IsOverride o ty typed → IsOverride o ty (cond is_held typed None)
set_or_none true o ty typed is = is
set_or_none false o ty typed is = none_set o ty

pub no_global : (space : Option (AddressSpace × Option AccessMode)) (o : Option Outcome) (ty : Declared) → IsGlobal space o ty None
no_global None o ty = refl
no_global (Some (spaces.Function, access)) o ty = refl
no_global (Some (spaces.Private, access)) o ty = none_fits spaces.Private access o ty
no_global (Some (spaces.Workgroup, access)) o ty = none_fits spaces.Workgroup access o ty
no_global (Some (spaces.Uniform, access)) o ty = none_fits spaces.Uniform access o ty
no_global (Some (spaces.Storage, access)) o ty = none_fits spaces.Storage access o ty
no_global (Some (spaces.Handle, access)) o ty = none_fits spaces.Handle access o ty
no_global (Some (spaces.PushConstant, access)) o ty = none_fits spaces.PushConstant access o ty

pub in_module : (space : AddressSpace) (access : Option AccessMode) (o : Option Outcome) (ty : Declared) (typed : Option Typed) → space ≢ spaces.Function
    → IsVariable space access o ty typed → IsGlobal (Some (space, access)) o ty typed
in_module spaces.Function access o ty typed other is = absurd (other refl)
in_module spaces.Private access o ty typed other is = is
in_module spaces.Workgroup access o ty typed other is = is
in_module spaces.Uniform access o ty typed other is = is
in_module spaces.Storage access o ty typed other is = is
in_module spaces.Handle access o ty typed other is = is
in_module spaces.PushConstant access o ty typed other is = is

pub held_or_none : (is_held : Bool) (space : AddressSpace) (access : Option AccessMode) (o : Option Outcome) (ty : Declared) (typed : Option Typed)
    → IsVariable space access o ty typed → IsVariable space access o ty (cond is_held typed None)
held_or_none true space access o ty typed is = is
held_or_none false space access o ty typed is = none_fits space access o ty

pub outcome_behind : (seen : Option (Bor Part)) (part : Option Part) → option_copied seen ≡ part
    → option_map (λ (p : Bor Part). p.now.outcome) seen ≡ option_map (λ (p : Part). p.outcome) part
outcome_behind None part is = ap (option_map (λ (p : Part). p.outcome)) is
outcome_behind (Some p) part is = ap (option_map (λ (p : Part). p.outcome)) is
