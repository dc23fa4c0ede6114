-- Template parameters and call signatures, and how they are written (WGSL, "Template Lists" and "Function Calls").
use Rattle.std.specs.Prelude.{ℕ, List, [], ◌∷◌, ◌++◌, Option, Some, None, codes, flat_map}
use Rattle.wgsl_syntax.specs.declared.enumerant.Enumerant.{Enumerant}
use Rattle.wgsl_syntax.specs.Enumerant.{enumerant_text}
use Rattle.wgsl_rules.specs.types.Types.{WgslType}
use Rattle.wgsl_rules.specs.types.Kinds.{IsLeaf}
use Rattle.wgsl_rules.specs.types.Literals.{Literal, literal_text}
use Rattle.wgsl_rules.specs.types.Spelling.{spelling}

pub data Parameter : Type 0 where
  of_type : WgslType → Parameter
  of_literal : Literal → Parameter
  of_enumerant : Enumerant → Parameter

-- a call: its name, its template parameters if it has a template, and the types of its arguments
pub record Signature : Type 0 where
  pub name : List ℕ
  pub template : Option (List Parameter)
  pub arguments : List WgslType

-- a parameter that needs no memory
abbrev pub IsLeafParameter : Parameter → Type 0
IsLeafParameter (of_type t) = IsLeaf t
IsLeafParameter (of_literal l) = Unit {0}
IsLeafParameter (of_enumerant e) = Unit {0}

abbrev pub parameter_text : Parameter → List ℕ
parameter_text (of_type t) = spelling t
parameter_text (of_literal l) = literal_text l
parameter_text (of_enumerant e) = enumerant_text e

-- texts in order, separated by a comma and a space
abbrev pub listed : {A : Type 0} → (A → List ℕ) → List A → List ℕ
listed text [] = []
listed text (x ∷ xs) = text x ++ flat_map (λ y. codes ", " ++ text y) xs

abbrev pub template_text : Option (List Parameter) → List ℕ
template_text None = []
template_text (Some ps) = codes "<" ++ listed parameter_text ps ++ codes ">"

abbrev pub signature_text : Signature → List ℕ
signature_text s = s.name ++ template_text s.template ++ codes "(" ++ listed spelling s.arguments ++ codes ")"
