-- Why a form has no type, and the message that says so.
use Rattle.std.specs.Prelude.{ℕ, List, ◌++◌, codes}
use Rattle.wgsl_syntax.specs.Address.{space_text_by, access_text}
use Rattle.wgsl_standard.specs.forms.Prelude.{AddressSpace, AccessMode, WgslType, wgsl_spelling, Refusal as Error, message_by}
use Rattle.wgsl_syntax.specs.declared.rules.RuleSet.TheVariants.{Standard}

pub data Refusal : Type 0 where
  -- one that the ported rules have too
  error : Error → Refusal
  not_reference : WgslType → Refusal
  not_integer : WgslType → Refusal
  not_const : Refusal
  not_in_space : AddressSpace → WgslType → Refusal
  initialized : AddressSpace → Refusal
  access_mode : AddressSpace → AccessMode → Refusal
  not_condition : WgslType → Refusal
  -- the type that the function returns, and that of the value
  not_returned : WgslType → WgslType → Refusal

abbrev pub refusal_text : Refusal → List ℕ
refusal_text (error e) = message_by Standard e
refusal_text (not_reference t) = codes "`" ++ wgsl_spelling t ++ codes "` is not a reference"
refusal_text (not_integer t) = codes "expected `i32` or `u32`, got `" ++ wgsl_spelling t ++ codes "`"
refusal_text not_const = codes "expected a const-expression"
refusal_text (not_in_space s t) =
    codes "a variable in the address space `" ++ space_text_by Standard s ++ codes "` cannot hold a `" ++ wgsl_spelling t ++ codes "`"
refusal_text (initialized s) = codes "a variable in the address space `" ++ space_text_by Standard s ++ codes "` has no initializer"
refusal_text (access_mode s a) =
    codes "access mode `" ++ access_text a ++ codes "` is not valid in the address space `" ++ space_text_by Standard s ++ codes "`"
refusal_text (not_condition t) = codes "the condition must be `bool`, not `" ++ wgsl_spelling t ++ codes "`"
refusal_text (not_returned u t) = codes "the returned value must be `" ++ wgsl_spelling u ++ codes "`, not `" ++ wgsl_spelling t ++ codes "`"
