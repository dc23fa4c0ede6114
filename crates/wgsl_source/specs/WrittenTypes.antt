-- The types and the values that are written in a module, by the events of the grammar (WGSL, "Types", "Expressions").
use Rattle.std.specs.Prelude.{◌≡◌, ◌≢◌, ℕ, List, [], ◌∷◌, ◌++◌, Option, Some, None}
use Rattle.std.specs.List.{All}
use Rattle.wgsl_reader.specs.declared.kind.Kind.{Kind}
use Rattle.wgsl_reader.specs.declared.kind.Kind.TheVariants as k
use Rattle.wgsl_reader.specs.declared.mark.Mark.{Mark}
use Rattle.wgsl_reader.specs.declared.mark.Mark.TheVariants as m
use Rattle.wgsl_reader.specs.declared.read.Event.{Event}
use Rattle.wgsl_reader.specs.declared.token.Token.{Token}
use Rattle.wgsl_spelling.specs.Words.{word}
pub use Rattle.wgsl_source.specs.Calls.{IsCalled}
use Rattle.wgsl_source.specs.Declarations.{declared_type, initializer, token_before}
pub use Rattle.wgsl_source.specs.NamedTypes.{Environment, IsLeaf, IsResource, StandsFor, environment, index_of, meaning_of}
pub use Rattle.wgsl_source.specs.TemplateLists.{AreElements, IsAround, IsCount, IsLayered, IsListed, IsListedBy, IsPointer, IsTypeSaid, IsValueSaid, item}
use Rattle.wgsl_source.specs.Values.{IsLiteral, binary, element, in_type, member, unary}
use Rattle.wgsl_source.specs.declared.item.Content.{Content}
use Rattle.wgsl_source.specs.declared.item.Content.TheVariants as content
use Rattle.wgsl_source.specs.declared.item.Item.{Item}
use Rattle.wgsl_source.specs.declared.measured.MeasuredType.{MeasuredType}
use Rattle.wgsl_source.specs.declared.scope.Meaning.{Meaning}
use Rattle.wgsl_source.specs.declared.text.Text.{Text}
use Rattle.wgsl_source.specs.declared.value.Value.{Value}

abbrev pub IsNoSign : Kind → Item → Type 0
IsNoSign sign item = item.content ≢ content.Sign sign

-- `vec3<f32>`, `max(n, 4)`: one item stands in place of a name, the last such sign, and the items behind it
pub record Closes (sign : Kind) (Is : Item → List Item → Content → Type 0) (items new : List Item) : Type 0 where
  pub front : List Item
  pub name : Item
  pub opening : Item
  pub listed : List Item
  pub there : items ≡ front ++ name ∷ opening ∷ listed
  pub opens : opening.content ≡ content.Sign sign
  pub last : All (IsNoSign sign) listed
  pub content : Content
  pub is : Is name listed content
  pub replaced : new ≡ front ++ item name.token content ∷ []

abbrev pub IsValueCalled : Text → (List ℕ → Option Meaning) → Item → List Item → Content → Type 0
IsValueCalled t named name items (content.Value v) = IsCalled t named name items v
IsValueCalled t named name items other = ⊥

-- a value stands in place of the last items, which make it
pub record BecomesValue (Is : List Item → Value → Type 0) (items new : List Item) : Type 0 where
  pub front : List Item
  pub taken : List Item
  pub there : items ≡ front ++ taken
  pub token : Token
  pub value : Value
  pub is : Is taken value
  pub replaced : new ≡ front ++ item token (content.Value value) ∷ []

-- the operator that an item is, or the end
abbrev pub sign_in : Content → Kind
sign_in (content.Sign kind) = kind
sign_in other = k.End

-- `(n)`, or an argument
abbrev pub IsSettled : Text → (List ℕ → Option Meaning) → List Item → Value → Type 0
IsSettled t named (x ∷ []) v = IsValueSaid t named x.token x.content v
IsSettled t named items v = ⊥

-- `-n`
abbrev pub IsUnary : Text → (List ℕ → Option Meaning) → List Item → Value → Type 0
IsUnary t named (sign ∷ x ∷ []) v = (a : Value) × IsValueSaid t named x.token x.content a × (unary (sign_in sign.content) a ≡ Some v)
IsUnary t named items v = ⊥

-- `2 * n`
abbrev pub IsBinary : Text → (List ℕ → Option Meaning) → List Item → Value → Type 0
IsBinary t named (x ∷ sign ∷ y ∷ []) v =
    (a : Value) × (b : Value) × IsValueSaid t named x.token x.content a × IsValueSaid t named y.token y.content b × (binary (sign_in sign.content) a b ≡ Some v)
IsBinary t named items v = ⊥

-- `vec2(4, 1).x`
abbrev pub IsMemberOf : Text → (List ℕ → Option Meaning) → Token → List Item → Value → Type 0
IsMemberOf t named letter (x ∷ []) v = (a : Value) × IsValueSaid t named x.token x.content a × (member (word t.text.now letter) a ≡ Some v)
IsMemberOf t named letter items v = ⊥

-- `vec2(4, 1)[0]`
abbrev pub IsElementOf : Text → (List ℕ → Option Meaning) → List Item → Value → Type 0
IsElementOf t named (x ∷ sign ∷ y ∷ []) v =
    (a : Value) × (i : Value) × IsValueSaid t named x.token x.content a × IsValueSaid t named y.token y.content i × (element a i ≡ Some v)
IsElementOf t named items v = ⊥

-- what an event adds to the items in front of it, or makes of them
abbrev pub Step : Text → Environment → Mark → Token → List Item → List Item → Type 0
Step t e m.Name token items new = new ≡ items ++ item token content.Name ∷ []
Step t e m.Value token items new = new ≡ items
Step t e m.Literal token items new = (v : Value) × IsLiteral t token v × (new ≡ items ++ item token (content.Value v) ∷ [])
Step t e m.OpenTemplate token items new = new ≡ items ++ item token (content.Sign token.kind) ∷ []
Step t e m.Operator token items new = new ≡ items ++ item token (content.Sign token.kind) ∷ []
Step t e m.Open token items new = new ≡ items ++ item token (content.Sign token.kind) ∷ []
Step t e m.OpenElement token items new = new ≡ items ++ item token (content.Sign token.kind) ∷ []
Step t e m.Template token items new = Closes k.OpenTemplate (IsListedBy t e) items new
Step t e m.Call token items new = Closes k.OpenRound (IsValueCalled t e.named) items new
Step t e m.Argument token items new = BecomesValue (IsSettled t e.named) items new
Step t e m.Brackets token items new = BecomesValue (IsSettled t e.named) items new
Step t e m.Unary token items new = BecomesValue (IsUnary t e.named) items new
Step t e m.Binary token items new = BecomesValue (IsBinary t e.named) items new
Step t e m.MemberOf token items new = BecomesValue (IsMemberOf t e.named token) items new
Step t e m.Element token items new = BecomesValue (IsElementOf t e.named) items new
Step t e other token items new = ⊥

abbrev pub Steps : Text → Environment → List Event → List Item → List Item → Type 0
Steps t e [] items new = new ≡ items
Steps t e (event ∷ events) items new = (next : List Item) × Step t e event.mark (token_before t event.at) items next × Steps t e events next new

-- events say this type: they make one item, which is the type
abbrev pub HasType : Text → Environment → List Event → MeasuredType → Type 0
HasType t e events ty = (x : Item) × Steps t e events [] (x ∷ []) × IsTypeSaid t e.named x.token x.content ty

-- the type that events say, if there are any
abbrev pub HasTypeIf : Text → Environment → List Event → Option MeasuredType → Type 0
HasTypeIf t e events (Some ty) = HasType t e events ty
HasTypeIf t e events None = events ≡ []

-- events say this value; the types of arrays in it are its own
pub record HasValue (t : Text) (named : List ℕ → Option Meaning) (events : List Event) (v : Value) : Type 0 where
  pub elements : List MeasuredType
  pub x : Item
  pub made : Steps t (record { named = named; elements = elements }) events [] (x ∷ [])
  pub said : IsValueSaid t named x.token x.content v

-- the value behind the `=` of a constant, in its type if one is declared
abbrev pub HasInitial : Text → (List ℕ → Option Meaning) → List Event → Option MeasuredType → Value → Type 0
HasInitial t named events ty v = (initial : Value) × HasValue t named events initial × (in_type ty initial ≡ Some v)

-- the value of a constant, by the events behind its name: `: u32 = 2 * N`
abbrev pub HasConstant : Text → Environment → List Event → Value → Type 0
HasConstant t e events v = (ty : Option MeasuredType) × HasTypeIf t e (declared_type events) ty × HasInitial t e.named (initializer events) ty v
