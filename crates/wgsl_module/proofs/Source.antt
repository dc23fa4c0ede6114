-- No step of an expression changes the text, its tokens or what is declared.
use Rattle.std.proofs.Common.{◌≡◌, ℕ, List, [], ◌∷◌, Bool, true, false, ap}
use Rattle.wgsl_typing.specs.declared.known.Part.{Part}
use Rattle.wgsl_reader.specs.declared.kind.Kind.{Kind}
use Rattle.wgsl_reader.specs.declared.mark.Mark.{Mark}
use Rattle.wgsl_reader.specs.declared.mark.Mark.TheVariants as m
use Rattle.wgsl_typing.specs.Calls.{ArgumentIf, CallsOf, IsGiven, is_in_call}
use Rattle.wgsl_typing.specs.Operators.{AnOperator, is_short_circuit}
use Rattle.wgsl_typing.specs.Stacks.{Stack, below_operand}
use Rattle.wgsl_typing.specs.Steps.{StepIf, is_of_expressions, is_round}
use Rattle.wgsl_typing.specs.Words.{kind_at}
use Rattle.wgsl_typing.specs.declared.item.Item.{Item}
use Rattle.wgsl_typing.specs.declared.item.Item.TheVariants as items

by_operator : (b : Bool) (at : ℕ) (s r : Stack) → AnOperator b at s r → r.context ≡ s.context
by_operator true at s r step = ap (λ t. t.context) step.2
by_operator false at s r step = ap (λ t. t.context) step

given : (x : Part) (is : List Item) (s r : Stack) → IsGiven x is s r → r.context ≡ s.context
given x [] s r step = ap (λ t. t.context) step
given x (items.Call c xs ∷ rest) s r step = step.2
given x (other ∷ rest) s r step = ap (λ t. t.context) step

by_argument : (b : Bool) (s r : Stack) → ArgumentIf b s r → r.context ≡ s.context
by_argument true s r step = given step.0 (below_operand s.items) s r step.2
by_argument false s r step = ap (λ t. t.context) step

by_call : (is : List Item) (at : ℕ) (s r : Stack) → CallsOf is at s r → r.context ≡ s.context
by_call [] at s r step = ap (λ t. t.context) step
by_call (items.Call c xs ∷ rest) at s r step = ap (λ t. t.context) step.2
by_call (other ∷ rest) at s r step = ap (λ t. t.context) step

by_open : (b : Bool) (at : ℕ) (s r : Stack) → StepIf b m.Open at s r → r.context ≡ s.context
by_open true at s r step = step.2
by_open false at s r step = ap (λ t. t.context) step

pub context_kept : (word : Kind) (mark : Mark) (at : ℕ) (s r : Stack) → StepIf (is_of_expressions word mark) mark at s r → r.context ≡ s.context
context_kept word m.Operator at s r step = by_operator (is_short_circuit (kind_at s.context.tokens at)) at s r step
context_kept word m.Literal at s r step = ap (λ t. t.context) step.2
context_kept word m.Brackets at s r step = ap (λ t. t.context) step.2
context_kept word m.Unary at s r step = ap (λ t. t.context) step.2.2
context_kept word m.Binary at s r step = ap (λ t. t.context) step.2.2.2
context_kept word m.MemberOf at s r step = ap (λ t. t.context) step.2.2
context_kept word m.Element at s r step = ap (λ t. t.context) step.2.2.2
context_kept word m.Initialized at s r step = ap (λ t. t.context) step.2
context_kept word m.Argument at s r step = by_argument (is_in_call s.items) s r step
context_kept word m.Call at s r step = by_call s.items at s r step
context_kept word m.Open at s r step = by_open (is_round word) at s r step
context_kept word m.Template at s r step = step.1
context_kept word m.Typed at s r step = ap (λ t. t.context) step.2
context_kept word other at s r step = ap (λ t. t.context) step
