-- The names of a function where its statements are read, block by block (WGSL, "Declaration and Scope", "Loop Statement").
use Rattle.std.specs.Prelude.{◌≡◌, ℕ, ◌+◌, List, [], ◌∷◌, ◌++◌, Bool, true, false, Option, Some, None, drop, length, reverse, slice_get, take, unwrap_or, vec_len}
use Rattle.wgsl_module.specs.States.{Keeps, State}
use Rattle.wgsl_module.specs.declared.block.Loop.{Loop}
use Rattle.wgsl_typing.specs.declared.known.Typed.{Typed}
use Rattle.wgsl_typing.specs.declared.scope.Bound.{Bound}
use Rattle.wgsl_typing.specs.declared.scope.Local.{Local}
use Rattle.wgsl_typing.specs.declared.scope.Locals.{Locals}
use Rattle.wgsl_typing.specs.Names.{word_in}
use Rattle.wgsl_typing.specs.Scopes.{closed, is_here, opened, scope_view, with_name}
use Rattle.wgsl_reader.specs.declared.kind.Kind.{Kind}
use Rattle.wgsl_reader.specs.declared.kind.Kind.TheVariants as kinds
use Rattle.wgsl_reader.specs.declared.mark.Mark.{Mark}
use Rattle.wgsl_reader.specs.declared.mark.Mark.TheVariants as m

abbrev pub locals_in : State → Locals
locals_in s = s.stack.context.locals

-- how many names are in scope
abbrev pub count_in : State → ℕ
count_in s = vec_len s.stack.context.locals.locals

abbrev pub with_locals : Locals → State → State
with_locals locals s = record s { stack = record s.stack { context = record s.stack.context { locals = locals } } }

abbrev pub with_skipped : ℕ × ℕ → State → State
with_skipped skipped s = record s { stack = record s.stack { context = record s.stack.context { skipped = skipped } } }

abbrev pub with_blocks : List ℕ → State → State
with_blocks blocks s = record s { blocks = blocks }

abbrev pub with_loops : List Loop → State → State
with_loops loops s = record s { loops = loops }

-- Names

-- the innermost block declares one more name
abbrev pub Adds : List ℕ → Bound → Locals → Locals → Type 0
Adds name bound s r = (scope_view r ≡ with_name name (vec_len s.locals) (scope_view s))
    × (local : Local) × (local.bound ≡ bound) × (r.locals.items ≡ s.locals.items ++ local ∷ [])

-- unless it declares that name already
abbrev pub AddsUnless : Bool → List ℕ → Bound → Locals → Locals → Type 0
AddsUnless true name bound s r = r ≡ s
AddsUnless false name bound s r = Adds name bound s r

-- the last of that many tokens is a name from there on, and stands for that
abbrev pub Binds : ℕ → Option Typed → State → State → Type 0
Binds count typed s r = AddsUnless (is_here (word_in s.stack.context count) (scope_view (locals_in s)))
    (word_in s.stack.context count) (record { named = count; typed = typed }) (locals_in s) (locals_in r)
    × (r ≡ with_locals (locals_in r) s)

-- Blocks

-- one more block is open
abbrev pub Opens : Locals → Locals → Type 0
Opens s r = (scope_view r ≡ opened (scope_view s)) × (r.locals.items ≡ s.locals.items)

-- the innermost block is closed: the names that it declares are gone
abbrev pub Closes : Locals → Locals → Type 0
Closes s r = (scope_view r ≡ closed (scope_view s)) × (r.locals.items ≡ take (vec_len r.locals) s.locals.items)

-- The outermost block of a function's body has its parameters in it, and is open as long as the function is read.
abbrev pub OpensIn : List ℕ → Locals → Locals → Type 0
OpensIn [] s r = r ≡ s
OpensIn (start ∷ starts) s r = Opens s r

abbrev pub ClosesIn : List ℕ → Locals → Locals → Type 0
ClosesIn [] s r = r ≡ s
ClosesIn (start ∷ starts) s r = Closes s r

-- `{`
abbrev pub OpensBlock : State → State → Type 0
OpensBlock s r = OpensIn s.blocks (locals_in s) (locals_in r) × (r ≡ with_blocks (count_in s ∷ s.blocks) (with_locals (locals_in r) s))

-- `}`
abbrev pub ClosesBlock : State → State → Type 0
ClosesBlock s r = ClosesIn (drop 1 s.blocks) (locals_in s) (locals_in r) × (r ≡ with_blocks (drop 1 s.blocks) (with_locals (locals_in r) s))

-- Loops

-- `while`, `loop`, and `for (`, whose variable has a block of its own
abbrev pub loop_begun : State → State
loop_begun s = with_loops (record { inner = length s.blocks + 1; continued = None; skipped = s.stack.context.skipped } ∷ s.loops) s

abbrev pub loop_ended : State → State
loop_ended s = with_loops (drop 1 s.loops) s

-- how many names were in scope in front of the statement of a loop's body that is read: a block inside it may have names of its own
abbrev pub in_front : Loop → State → ℕ
in_front loop s = unwrap_or (slice_get (reverse s.blocks) loop.inner) (count_in s)

-- The first `continue;` of a loop's body skips the most names.
abbrev pub continued : State → List Loop → List Loop
continued s [] = []
continued s (loop ∷ loops) = record loop { continued = Some (unwrap_or loop.continued (in_front loop s)) } ∷ loops

-- In a `continuing` no name can be used that a `continue` may skip.
abbrev pub skipped_by : Option ℕ → ℕ → ℕ × ℕ → ℕ × ℕ
skipped_by None count skipped = skipped
skipped_by (Some from) count skipped = (from, count)

abbrev pub skipped_inside : List Loop → ℕ → ℕ × ℕ → ℕ × ℕ
skipped_inside [] count skipped = skipped
skipped_inside (loop ∷ loops) count skipped = skipped_by loop.continued count skipped

abbrev pub skipped_outside : List Loop → ℕ × ℕ → ℕ × ℕ
skipped_outside [] skipped = skipped
skipped_outside (loop ∷ loops) skipped = loop.skipped

abbrev pub continuing_begun : State → State
continuing_begun s = with_skipped (skipped_inside s.loops (count_in s) s.stack.context.skipped) s

abbrev pub continuing_ended : State → State
continuing_ended s = with_skipped (skipped_outside s.loops s.stack.context.skipped) s

-- Events

-- the word of a statement that has blocks
abbrev pub Begins : Kind → State → State → Type 0
Begins kinds.For s r = (opened : State) × OpensBlock s opened × (r ≡ loop_begun opened)
Begins kinds.While s r = r ≡ loop_begun s
Begins kinds.Loop s r = r ≡ loop_begun s
Begins kinds.Continuing s r = r ≡ continuing_begun s
Begins other s r = Keeps s r

-- `continue;`, and the ends of loops
abbrev pub OfLoop : Mark → State → State → Type 0
OfLoop m.Continue s r = r ≡ with_loops (continued s s.loops) s
OfLoop m.Continuing s r = r ≡ continuing_ended s
OfLoop m.While s r = r ≡ loop_ended s
OfLoop m.Loop s r = r ≡ loop_ended s
OfLoop m.For s r = ClosesBlock (loop_ended s) r
OfLoop other s r = Keeps s r
