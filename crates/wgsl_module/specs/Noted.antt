-- What the events of statements and declarations take of the expressions in front of them, which of these are noted, and which names
-- are in scope behind each event (WGSL, "Statements", "Variable and Value Declarations", "Attributes").
use Rattle.std.specs.Prelude.{◌≡◌, ℕ, List, [], ◌∷◌, ◌++◌, Bool, true, false, Option, Some, None, option_map, reverse}
use Rattle.wgsl_module.specs.Arguments.{AreArguments, is_const, takes_names}
use Rattle.wgsl_module.specs.Blocks.{Begins, Binds, ClosesBlock, OfLoop, OpensBlock}
use Rattle.wgsl_module.specs.States.{Keeps, State, leaving, noted, standing, switching}
use Rattle.wgsl_source.specs.Attributes.{attribute_names}
use Rattle.wgsl_source.specs.declared.attribute.Name.{Name}
use Rattle.wgsl_typing.specs.declared.known.Part.{Part}
use Rattle.wgsl_typing.specs.declared.known.Typed.{Typed}
use Rattle.wgsl_reader.specs.declared.kind.Kind.{Kind}
use Rattle.wgsl_reader.specs.declared.mark.Mark.{Mark}
use Rattle.wgsl_reader.specs.declared.mark.Mark.TheVariants as m
use Rattle.wgsl_reader.specs.declared.read.Event.{Event}
use Rattle.wgsl_reader.specs.declared.token.Token.{Token}
use Rattle.wgsl_standard.specs.declared.forms.declare.Declaration.{Declaration}
use Rattle.wgsl_standard.specs.declared.forms.declare.Declaration.TheVariants as forms
use Rattle.wgsl_syntax.specs.Names.{named}
use Rattle.wgsl_syntax.specs.declared.address.AddressSpace.TheVariants.{Function}
use Rattle.wgsl_typing.specs.Declarations.{IsDeclared, IsVariable, declared_on}
use Rattle.wgsl_typing.specs.Names.{word_in}
use Rattle.wgsl_typing.specs.Stacks.{IsOnTop, IsOperand, Stack, below, below_declared, below_initializer, below_operand, below_space, initializer_on, name_on, with_items}
use Rattle.wgsl_typing.specs.Steps.{StepIf, is_of_expressions}
use Rattle.wgsl_typing.specs.Taken.{below_list, in_list}
use Rattle.wgsl_typing.specs.Types.{no_type_on}
use Rattle.wgsl_typing.specs.Words.{kind_at}
use Rattle.wgsl_typing.specs.declared.item.Item.{Item}
use Rattle.wgsl_typing.specs.declared.item.Item.TheVariants as items

-- Statements

-- `const_assert x;`, `x++;`, `_ = x;`, `f(x);`, `return x;`, `if x`
abbrev pub Uses : State → State → Type 0
Uses s r = (x : Part) × IsOnTop s.stack x × (r ≡ leaving (below_operand s.stack.items) (x ∷ []) s)

-- `x = y;`
abbrev pub AssignsTo : Part → List Item → State → State → Type 0
AssignsTo y left s r = (x : Part) × IsOperand s.stack.context left x × (r ≡ leaving (below_operand left) (x ∷ (y ∷ [])) s)

abbrev pub Assigns : State → State → Type 0
Assigns s r = (y : Part) × IsOnTop s.stack y × AssignsTo y (below_operand s.stack.items) s r

-- `x += y;`
abbrev pub AssignsBy : State → State → Type 0
AssignsBy s r = (y : Part) × IsOnTop s.stack y × AssignsTo y (below (below_operand s.stack.items)) s r

abbrev pub AssignsIf : Bool → State → State → Type 0
AssignsIf true s r = AssignsBy s r
AssignsIf false s r = Assigns s r

-- `switch x`
abbrev pub Selects : State → State → Type 0
Selects s r = (x : Part) × IsOnTop s.stack x × (r ≡ switching (below_operand s.stack.items) ((x ∷ []) ∷ s.switches) s)

-- `case x`
abbrev pub with_value : Part → List (List Part) → List (List Part)
with_value x [] = []
with_value x (ps ∷ rest) = (ps ++ x ∷ []) ∷ rest

abbrev pub HasCase : State → State → Type 0
HasCase s r = (x : Part) × IsOnTop s.stack x × (r ≡ switching (below_operand s.stack.items) (with_value x s.switches) s)

-- `switch x { .. }`: its selector and its values are noted
abbrev pub Switched : List (List Part) → State → State → Type 0
Switched [] s r = Keeps s r
Switched (ps ∷ rest) s r = r ≡ record (noted ps s) { switches = rest }

-- Declarations

abbrev pub those : Option Part → List Part
those None = []
those (Some x) = x ∷ []

-- `let x: T = y`, `const x = y`: this name stands for that, if it has no fault
abbrev pub DeclaresValue : Declaration → ℕ → Option Typed → State → State → Type 0
DeclaresValue form named typed s r = (x : Part) × IsOnTop s.stack x
    × IsDeclared form (declared_on (below_operand s.stack.items)) x.outcome typed
    × (named ≡ name_on (below_declared (below_operand s.stack.items)))
    × (r ≡ leaving (below (below_declared (below_operand s.stack.items))) (x ∷ []) s)

-- the same of a function: from there on the name is in scope
abbrev pub BindsValue : Declaration → State → State → Type 0
BindsValue form s r = (named : ℕ) × (typed : Option Typed) × (declared : State) × DeclaresValue form named typed s declared × Binds named typed declared r

-- what stands below the value, the type and the name of a variable
abbrev pub below_variable : List Item → List Item
below_variable is = below (below_declared (below_initializer is))

-- `override x: T = y`
abbrev pub DeclaresOverride : State → State → Type 0
DeclaresOverride s r = r ≡ leaving (below_variable s.stack.items) (those (initializer_on s.stack.items)) s

-- `var<private> x: T = y`
abbrev pub DeclaresVariable : State → State → Type 0
DeclaresVariable s r = r ≡ leaving (below_space (below_variable s.stack.items)) (those (initializer_on s.stack.items)) s

-- what a variable of a function is, by what stands on top
abbrev pub IsVariableOn : List Item → Option Typed → Type 0
IsVariableOn is typed = IsVariable Function None (option_map (λ x. x.outcome) (initializer_on is)) (declared_on (below_initializer is)) typed

abbrev pub BindsVariable : State → State → Type 0
BindsVariable s r = (typed : Option Typed) × (declared : State) × IsVariableOn s.stack.items typed × DeclaresVariable s declared
    × Binds (name_on (below_declared (below_initializer s.stack.items))) typed declared r

-- `a: T` of a struct or a function: an expression in place of its type is noted
abbrev pub DeclaresField : State → State → Type 0
DeclaresField s r = r ≡ leaving (below (below_operand s.stack.items)) (no_type_on s.stack.items) s

-- `-> T`
abbrev pub DeclaresResult : State → State → Type 0
DeclaresResult s r = r ≡ leaving (below_operand s.stack.items) (no_type_on s.stack.items) s

-- `@a` in front of its arguments, which stand in a list
abbrev pub OpensAttribute : ℕ → State → State → Type 0
OpensAttribute at s r = r ≡ standing (items.OpenList ∷ (items.Name at ∷ s.stack.items)) s

-- the attribute whose list is on top
abbrev pub attribute_on : Stack → Option Name
attribute_on s = named attribute_names (word_in s.context (name_on (below_list s.items)))

-- `@a(x, y)`: each argument is noted
abbrev pub HasArguments : State → State → Type 0
HasArguments s r = (xs : List Part) × AreArguments (takes_names (attribute_on s.stack)) s.stack.context (reverse (in_list s.stack.items)) [] xs
    × (r ≡ leaving (below (below_list s.stack.items)) xs s)

abbrev pub AttributeIf : Bool → State → State → Type 0
AttributeIf true s r = Keeps s r
AttributeIf false s r = HasArguments s r

-- Events

-- what is done at an event that is none of expressions, and whose last token is of this kind
abbrev pub Statement : Kind → Mark → ℕ → State → State → Type 0
Statement word m.ConstAssert at s r = Uses s r
Statement word m.Increment at s r = Uses s r
Statement word m.Decrement at s r = Uses s r
Statement word m.Phony at s r = Uses s r
Statement word m.CallStatement at s r = Uses s r
Statement word m.Returned at s r = Uses s r
Statement word m.Condition at s r = Uses s r
Statement word m.BreakIf at s r = Uses s r
Statement word m.Assign at s r = AssignsIf false s r
Statement word m.AssignBy at s r = AssignsIf true s r
Statement word m.Selector at s r = Selects s r
Statement word m.CaseSelector at s r = HasCase s r
Statement word m.Switch at s r = Switched s.switches s r
Statement word m.Begin at s r = Begins word s r
Statement word m.Open at s r = OpensBlock s r
Statement word m.Block at s r = ClosesBlock s r
Statement word m.Let at s r = BindsValue forms.Let s r
Statement word m.Const at s r = BindsValue forms.Const s r
Statement word m.Variable at s r = BindsVariable s r
Statement word m.Member at s r = DeclaresField s r
Statement word m.Parameter at s r = DeclaresField s r
Statement word m.Result at s r = DeclaresResult s r
Statement word m.AttributeName at s r = OpensAttribute at s r
Statement word m.Attribute at s r = AttributeIf (is_const (kind_at s.stack.context.tokens at)) s r
Statement word other at s r = OfLoop other s r

-- one of expressions, which brings no name into scope, or another
abbrev pub DoesIf : Bool → Kind → Mark → ℕ → State → State → Type 0
DoesIf true word mark at s r = StepIf true mark at s.stack r.stack × (r ≡ record s { stack = with_items r.stack.items (record s.stack { parts = r.stack.parts }) })
DoesIf false word mark at s r = Statement word mark at s r

-- what is done at an event whose last token is of this kind
abbrev pub Does : Kind → Mark → ℕ → State → State → Type 0
Does word mark at s r = DoesIf (is_of_expressions word mark) word mark at s r

-- one event behind the other
abbrev pub Comes : List Token → List Event → State → State → Type 0
Comes tokens [] s r = r ≡ s
Comes tokens (e ∷ events) s r = (between : State) × Does (kind_at tokens e.at) e.mark e.at s between × Comes tokens events between r
