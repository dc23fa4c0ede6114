-- Which marks are of expressions, and what is done where one is noted (WGSL, "Expressions").
use Rattle.std.specs.Prelude.{◌≡◌, ℕ, Bool, true, false}
use Rattle.wgsl_reader.specs.declared.kind.Kind.{Kind}
use Rattle.wgsl_reader.specs.declared.kind.Kind.TheVariants.{OpenRound}
use Rattle.wgsl_reader.specs.declared.mark.Mark.{Mark}
use Rattle.wgsl_reader.specs.declared.mark.Mark.TheVariants as m
use Rattle.wgsl_typing.specs.Calls.{Argument, Calls, Opens}
use Rattle.wgsl_typing.specs.Literals.{Literal}
use Rattle.wgsl_typing.specs.Members.{Member}
use Rattle.wgsl_typing.specs.Operators.{AnOperator, Binary, Brackets, Element, Initializer, Unary, is_short_circuit}
pub use Rattle.wgsl_typing.specs.Stacks.{Stack, stack}
use Rattle.wgsl_typing.specs.Stacks.{with_item}
use Rattle.wgsl_typing.specs.Templates.{Template}
use Rattle.wgsl_typing.specs.Types.{DeclaredType}
use Rattle.wgsl_typing.specs.Words.{kind_at}
use Rattle.wgsl_typing.specs.declared.item.Item.TheVariants as items

-- the `(` of a call, and no `{` of a block
abbrev pub is_round : Kind → Bool
is_round OpenRound = true
is_round other = false

-- Whether something is noted of an expression or a type, by the kind of its last token: all else is of a statement or a declaration.
abbrev pub is_of_expressions : Kind → Mark → Bool
is_of_expressions word m.Name = true
is_of_expressions word m.OpenTemplate = true
is_of_expressions word m.Template = true
is_of_expressions word m.Operator = true
is_of_expressions word m.OpenElement = true
is_of_expressions word m.Literal = true
is_of_expressions word m.Brackets = true
is_of_expressions word m.Unary = true
is_of_expressions word m.Binary = true
is_of_expressions word m.MemberOf = true
is_of_expressions word m.Element = true
is_of_expressions word m.Open = is_round word
is_of_expressions word m.Argument = true
is_of_expressions word m.Call = true
is_of_expressions word m.Typed = true
is_of_expressions word m.Initialized = true
is_of_expressions word other = false

-- what is done where a mark is noted behind that many tokens
abbrev pub Step : Mark → ℕ → Stack → Stack → Type 0
Step m.Name at s r = r ≡ with_item (items.Name at) s
Step m.OpenTemplate at s r = r ≡ with_item items.OpenList s
Step m.Operator at s r = AnOperator (is_short_circuit (kind_at s.context.tokens at)) at s r
Step m.OpenElement at s r = r ≡ with_item (items.Sign at) s
Step m.Literal at s r = Literal at s r
Step m.Brackets at s r = Brackets at s r
Step m.Unary at s r = Unary s r
Step m.Binary at s r = Binary s r
Step m.MemberOf at s r = Member at s r
Step m.Element at s r = Element at s r
Step m.Initialized at s r = Initializer s r
Step m.Argument at s r = Argument s r
Step m.Call at s r = Calls at s r
Step m.Open at s r = Opens s r
Step m.Template at s r = Template at s r
Step m.Typed at s r = DeclaredType s r
Step other at s r = Unit {0}

-- if it is noted of expressions: else nothing is done
abbrev pub StepIf : Bool → Mark → ℕ → Stack → Stack → Type 0
StepIf true mark at s r = Step mark at s r
StepIf false mark at s r = r ≡ s
