-- What is done where an operator, an element or brackets are read (WGSL, "Expressions").
use Rattle.std.specs.Prelude.{◌≡◌, ℕ, ◌-◌, List, [], ◌∷◌, Bool, true, false, Option, Some, None}
use Rattle.wgsl_standard.specs.forms.Index.{index_answer}
use Rattle.wgsl_typing.specs.Faults.{last_of, up_to}
use Rattle.wgsl_typing.specs.Known.{operand, typed_in}
use Rattle.wgsl_typing.specs.Stages.{later}
use Rattle.wgsl_typing.specs.declared.known.Outcome.{Outcome}
use Rattle.wgsl_typing.specs.declared.known.Outcome.TheVariants as outcomes
use Rattle.wgsl_typing.specs.declared.known.Part.{Part}
use Rattle.wgsl_typing.specs.declared.known.Typed.{Typed}
use Rattle.wgsl_reader.specs.declared.kind.Kind.{Kind}
use Rattle.wgsl_reader.specs.declared.kind.Kind.TheVariants.{AndAnd, OrOr}
use Rattle.wgsl_spelling.specs.Operators.{binary_of, unary_of}
use Rattle.wgsl_standard.specs.Callees.{a_binary}
use Rattle.wgsl_syntax.specs.declared.operator.BinaryOperator.{BinaryOperator}
use Rattle.wgsl_syntax.specs.declared.operator.UnaryOperator.{UnaryOperator}
use Rattle.wgsl_typing.specs.Outcomes.{IsFormedOrFaulty, IsOverloaded, IsUnary, loaded}
use Rattle.wgsl_typing.specs.Stacks.{IsOnTop, IsOperand, Puts, Stack, below, below_operand, sign_on, with_item, with_items}
use Rattle.wgsl_typing.specs.Words.{kind_at}
use Rattle.wgsl_typing.specs.declared.item.Item.{Item}
use Rattle.wgsl_typing.specs.declared.item.Item.TheVariants as items

-- What operators make

abbrev pub IsUnaryOf : Option UnaryOperator → Option Typed → Outcome → Type 0
IsUnaryOf (Some operator) (Some x) o = IsUnary operator x o
IsUnaryOf operator x o = o ≡ outcomes.Faulty

abbrev pub IsBinaryOf : Option BinaryOperator → Option Typed → Option Typed → Outcome → Type 0
IsBinaryOf (Some operator) (Some x) (Some y) o = IsOverloaded (a_binary operator) None (loaded x ∷ loaded y ∷ []) (later x.stage y.stage) o
IsBinaryOf operator x y o = o ≡ outcomes.Faulty

abbrev pub IsElementOf : Option Typed → Option Typed → Outcome → Type 0
IsElementOf (Some x) (Some i) o = IsFormedOrFaulty (later x.stage i.stage) (index_answer (operand x) (operand i)) o
IsElementOf x i o = o ≡ outcomes.Faulty

-- Steps

-- `-x`
abbrev pub UnaryBy : ℕ → List Item → Part → Stack → Stack → Type 0
UnaryBy sign rest x s r = Puts rest (x ∷ []) (up_to (last_of sign) x.place) (IsUnaryOf (unary_of (kind_at s.context.tokens sign)) (typed_in x.outcome)) s r

abbrev pub Unary : Stack → Stack → Type 0
Unary s r = (x : Part) × IsOnTop s x × UnaryBy (sign_on (below_operand s.items)) (below (below_operand s.items)) x s r

-- `x + y`
abbrev pub BinaryBy : ℕ → List Item → Part → Part → Stack → Stack → Type 0
BinaryBy sign rest x y s r = Puts rest (x ∷ (y ∷ [])) (up_to x.place y.place)
    (IsBinaryOf (binary_of (kind_at s.context.tokens sign)) (typed_in x.outcome) (typed_in y.outcome)) s r

abbrev pub BinaryAbove : List Item → Part → Stack → Stack → Type 0
BinaryAbove left y s r = (x : Part) × IsOperand s.context (below left) x × BinaryBy (sign_on left) (below_operand (below left)) x y s r

abbrev pub Binary : Stack → Stack → Type 0
Binary s r = (y : Part) × IsOnTop s y × BinaryAbove (below_operand s.items) y s r

-- `x[i]`
abbrev pub ElementAbove : ℕ → List Item → Part → Stack → Stack → Type 0
ElementAbove at left i s r = (x : Part) × IsOperand s.context left x
    × Puts (below_operand left) (x ∷ (i ∷ [])) (up_to x.place (last_of at)) (IsElementOf (typed_in x.outcome) (typed_in i.outcome)) s r

abbrev pub Element : ℕ → Stack → Stack → Type 0
Element at s r = (i : Part) × IsOnTop s i × ElementAbove at (below (below_operand s.items)) i s r

-- `(x)` is what `x` is, with its brackets
abbrev pub in_brackets : ℕ → Part → Part
in_brackets at x = record { place = record { from = x.place.from - 1; to = at }; outcome = x.outcome; may_be_dropped = x.may_be_dropped; declared = x.declared }

abbrev pub Brackets : ℕ → Stack → Stack → Type 0
Brackets at s r = (x : Part) × IsOnTop s x × (r ≡ with_items (items.Part (in_brackets at x) ∷ below_operand s.items) s)

-- `= x` of a `var`
abbrev pub Initializer : Stack → Stack → Type 0
Initializer s r = (x : Part) × IsOnTop s x × (r ≡ with_items (items.Part x ∷ below_operand s.items) s)

-- `&&`, `||`
abbrev pub is_short_circuit : Kind → Bool
is_short_circuit AndAnd = true
is_short_circuit OrOr = true
is_short_circuit other = false

-- An operator. The left operand of a short-circuit operator is taken first.
abbrev pub AnOperator : Bool → ℕ → Stack → Stack → Type 0
AnOperator true at s r = (x : Part) × IsOnTop s x × (r ≡ with_items (items.Sign at ∷ (items.Part x ∷ below_operand s.items)) s)
AnOperator false at s r = r ≡ with_item (items.Sign at) s
