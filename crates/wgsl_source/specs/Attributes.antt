-- The attributes of members, variables, overrides and functions (WGSL, "Attributes").
use Rattle.std.specs.Prelude.{◌≡◌, ◌≢◌, ℕ, zero, suc, List, [], ◌∷◌, Bool, true, false, Option, Some, None, codes, cond, drop, pos, take}
use Rattle.std.specs.Option.{option_or}
use denote.Enum.Bare.{sameb}
use Rattle.wgsl_constants.specs.Conversions.{number}
use Rattle.wgsl_constants.specs.declared.constant.Constant.TheVariants as constant
use Rattle.wgsl_constants.specs.declared.integer.Integer.{Integer}
use Rattle.wgsl_reader.specs.declared.mark.Mark.{Mark}
use Rattle.wgsl_reader.specs.declared.mark.Mark.TheVariants as m
use Rattle.wgsl_reader.specs.declared.read.Event.{Event}
use Rattle.wgsl_spelling.specs.Words.{word}
use Rattle.wgsl_syntax.specs.Names.{named}
use Rattle.wgsl_source.specs.Declarations.{argument_len, attribute_len, token_before, without_last}
use Rattle.wgsl_source.specs.WrittenTypes.{HasValue}
use Rattle.wgsl_source.specs.contracts.attribute.Name.{the_type as name_type}
use Rattle.wgsl_source.specs.declared.attribute.Attributes.{Attributes}
use Rattle.wgsl_source.specs.declared.attribute.Name.{Name}
use Rattle.wgsl_source.specs.declared.attribute.Name.TheVariants as name
use Rattle.wgsl_source.specs.declared.entry.Stage.{Stage}
use Rattle.wgsl_source.specs.declared.entry.Stage.TheVariants as stage
use Rattle.wgsl_source.specs.declared.entry.WorkgroupExtent.{WorkgroupExtent}
use Rattle.wgsl_source.specs.declared.entry.WorkgroupExtent.TheVariants as extent
use Rattle.wgsl_source.specs.declared.scope.Meaning.{Meaning}
use Rattle.wgsl_source.specs.declared.text.Text.{Text}
use Rattle.wgsl_source.specs.declared.value.Value.TheVariants as value

-- the attributes by their names
abbrev pub attribute_names : List (Name × List ℕ)
attribute_names =
    (name.Align, codes "align") ∷ (name.Binding, codes "binding") ∷ (name.BlendSrc, codes "blend_src") ∷ (name.Builtin, codes "builtin") ∷
    (name.Compute, codes "compute") ∷ (name.Diagnostic, codes "diagnostic") ∷ (name.Fragment, codes "fragment") ∷ (name.Group, codes "group") ∷
    (name.Id, codes "id") ∷ (name.Interpolate, codes "interpolate") ∷ (name.Invariant, codes "invariant") ∷ (name.Location, codes "location") ∷
    (name.MustUse, codes "must_use") ∷ (name.Size, codes "size") ∷ (name.Vertex, codes "vertex") ∷ (name.WorkgroupSize, codes "workgroup_size") ∷ []

-- an attribute: its name, if WGSL has it, and the events of its arguments, each with its end: `16` of `@size(16)`
pub record Attribute : Type 0 where
  pub name : Option Name
  pub arguments : List Event

-- `off` in `@diagnostic(off, a)`, which has no other name in front
abbrev pub is_severity : Mark → Bool
is_severity m.Severity = true
is_severity other = false

abbrev pub name_by : Bool → List ℕ → Option Name
name_by true text = Some name.Diagnostic
name_by false text = named attribute_names text

-- the attribute that these events say: `@size(16)`
abbrev pub attribute_of : Text → List Event → Attribute
attribute_of t [] = record { name = None; arguments = [] }
attribute_of t (event ∷ events) =
    record { name = name_by (is_severity event.mark) (word t.text.now (token_before t event.at)); arguments = without_last events }

-- the attributes in front, in order
pub data InFront (t : Text) : List Event → List Attribute → Type 0 where
  no_more : {events : List Event} → attribute_len events ≡ 0 → InFront t events []
  one_more : {events : List Event} {others : List Attribute} → attribute_len events ≢ 0 → InFront t (drop (attribute_len events) events) others
      → InFront t events (attribute_of t (take (attribute_len events) events) ∷ others)

-- what the last attribute says that says it
abbrev pub last_said : {A : Type 0} → (Attribute → Option A) → List Attribute → Option A
last_said says [] = None
last_said says (a ∷ ss) = option_or (last_said says ss) (says a)

abbrev pub is_named : Name → Option Name → Bool
is_named n (Some other) = sameb name_type n other
is_named n None = false

-- the arguments of an attribute with this name
abbrev pub arguments_if : Name → Attribute → Option (List Event)
arguments_if n a = cond (is_named n a.name) (Some a.arguments) None

-- `@vertex`
abbrev pub stage_named : Option Name → Option Stage
stage_named (Some name.Vertex) = Some stage.Vertex
stage_named (Some name.Fragment) = Some stage.Fragment
stage_named (Some name.Compute) = Some stage.Compute
stage_named other = None

abbrev pub stage_by : Attribute → Option Stage
stage_by a = stage_named a.name

-- an argument gives a number: `0x10u` 16, `2 * N` the product
abbrev pub GivesNumber : Text → (List ℕ → Option Meaning) → List Event → ℕ → Type 0
GivesNumber t named argument n = (i : Integer) × HasValue t named (without_last argument) (value.Known (constant.Integer i)) × (number i ≡ pos n)

-- how many invocations a workgroup has in a dimension: the number that an argument gives, or that of an override
abbrev pub IsExtent : Text → (List ℕ → Option Meaning) → List Event → WorkgroupExtent → Type 0
IsExtent t named argument (extent.Known n) = GivesNumber t named argument n
IsExtent t named argument extent.Override = HasValue t named (without_last argument) value.Later

-- the first events, which are an argument, give an extent; if there is none, it is 1
abbrev pub GivesExtent : Text → (List ℕ → Option Meaning) → List Event → ℕ → WorkgroupExtent → Type 0
GivesExtent t named arguments zero x = x ≡ extent.Known 1
GivesExtent t named arguments (suc n) x = IsExtent t named (take (suc n) arguments) x

abbrev pub GiveExtents : Text → (List ℕ → Option Meaning) → List Event → List WorkgroupExtent → Type 0
GiveExtents t named arguments [] = Unit {0}
GiveExtents t named arguments (x ∷ xs) =
    GivesExtent t named arguments (argument_len 0 arguments) x × GiveExtents t named (drop (argument_len 0 arguments) arguments) xs

-- what arguments give is there exactly if they are
abbrev pub IsGivenBy : {A : Type 0} → (List Event → A → Type 0) → Option (List Event) → Option A → Type 0
IsGivenBy Gives (Some arguments) (Some a) = Gives arguments a
IsGivenBy Gives None None = Unit {0}
IsGivenBy Gives arguments a = ⊥

-- what the attribute with this name gives, if it is there
abbrev pub IsSaid : {A : Type 0} → (List Event → A → Type 0) → Name → List Attribute → Option A → Type 0
IsSaid Gives n attributes = IsGivenBy Gives (last_said (arguments_if n) attributes)

-- what attributes say
pub record Say (t : Text) (named : List ℕ → Option Meaning) (attributes : List Attribute) (a : Attributes) : Type 0 where
  pub size : IsSaid (GivesNumber t named) name.Size attributes a.size
  pub align : IsSaid (GivesNumber t named) name.Align attributes a.align
  pub group : IsSaid (GivesNumber t named) name.Group attributes a.group
  pub binding : IsSaid (GivesNumber t named) name.Binding attributes a.binding
  pub id : IsSaid (GivesNumber t named) name.Id attributes a.id
  pub workgroup_size : IsSaid (GiveExtents t named) name.WorkgroupSize attributes a.workgroup_size
  pub stage_said : last_said stage_by attributes ≡ a.stage

pub record AreRead (t : Text) (named : List ℕ → Option Meaning) (events : List Event) (a : Attributes) : Type 0 where
  pub attributes : List Attribute
  pub there : InFront t events attributes
  pub say : Say t named attributes a
