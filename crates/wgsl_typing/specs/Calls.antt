-- What a call is, and what is done where one is read (WGSL, "Function Calls", "Value Constructor Built-in Functions").
use Rattle.std.specs.Prelude.{◌≡◌, ℕ, List, [], ◌∷◌, ◌++◌, Bool, true, false, Option, Some, None, is_some, not}
use Rattle.std.specs.List.{list_all}
use Rattle.wgsl_core.specs.View.{view}
use Rattle.wgsl_rules.specs.types.Types.{WgslType}
use Rattle.wgsl_rules.specs.standard.Evaluation.{may_be_dropped}
use Rattle.wgsl_typing.specs.Faults.{last_of, up_to}
use Rattle.wgsl_typing.specs.Known.{typed_in}
use Rattle.wgsl_typing.specs.declared.fault.Place.{Place}
use Rattle.wgsl_typing.specs.declared.known.Known.{Known}
use Rattle.wgsl_typing.specs.declared.known.Known.TheVariants as knowns
use Rattle.wgsl_typing.specs.declared.known.Outcome.{Outcome}
use Rattle.wgsl_typing.specs.declared.known.Outcome.TheVariants as outcomes
use Rattle.wgsl_typing.specs.declared.known.Part.{Part}
use Rattle.wgsl_spelling.specs.declared.predeclared.LayerName.TheVariants as layers
use Rattle.wgsl_spelling.specs.declared.predeclared.PredeclaredType.{PredeclaredType}
use Rattle.wgsl_spelling.specs.declared.predeclared.PredeclaredType.TheVariants as p
use Rattle.wgsl_standard.specs.Callees.{a_constructor, a_function}
use Rattle.wgsl_typing.specs.Names.{Context, known_of, meaning_at, word_in}
use Rattle.wgsl_typing.specs.Outcomes.{IsCall, IsConstructed, IsInferred, IsOfFunction, OrFaulty}
use Rattle.wgsl_typing.specs.Predeclared.{type_alone, type_called}
use Rattle.wgsl_typing.specs.Stacks.{IsOnTop, Stack, below, below_operand, with_items}
use Rattle.wgsl_typing.specs.declared.item.Callee.{Callee}
use Rattle.wgsl_typing.specs.declared.item.Callee.TheVariants as callees
use Rattle.wgsl_typing.specs.declared.item.Item.{Item}
use Rattle.wgsl_typing.specs.declared.item.Item.TheVariants as items
use Rattle.wgsl_typing.specs.declared.item.Listed.{Listed}
use Rattle.wgsl_typing.specs.declared.item.Listed.TheVariants as listeds
use Rattle.wgsl_typing.specs.declared.name.Meaning.{Meaning}
use Rattle.wgsl_typing.specs.declared.name.Meaning.TheVariants as meanings

-- What a call is

-- of what is declared: `f(x)`, `S(x)`
abbrev pub IsCallOfKnown : List ℕ → Option Known → List Part → Outcome → Type 0
IsCallOfKnown name (Some (knowns.Type ty)) xs o = IsConstructed (view ty) xs o
IsCallOfKnown name (Some (knowns.Function f)) xs o = IsOfFunction name f xs o
IsCallOfKnown name other xs o = o ≡ outcomes.Faulty

abbrev pub IsConstructedAs : Option WgslType → List Part → Outcome → Type 0
IsConstructedAs (Some t) xs o = IsConstructed t xs o
IsConstructedAs None xs o = o ≡ outcomes.Faulty

-- of what WGSL predeclares: `array(x)`, `vec3(x)`, `mat2x2(x)`, `i32(x)`, `max(x, y)`
abbrev pub IsCallOfPredeclared : Bool → List ℕ → Option PredeclaredType → List Part → Outcome → Type 0
IsCallOfPredeclared f16 name (Some (p.Layer layers.Array)) xs o = IsInferred xs o
IsCallOfPredeclared f16 name (Some (p.Layer (layers.Vec n))) xs o = IsCall (a_constructor name) None xs o
IsCallOfPredeclared f16 name (Some (p.Layer (layers.Mat c r))) xs o = IsCall (a_constructor name) None xs o
IsCallOfPredeclared f16 name (Some named) xs o = IsConstructedAs (type_alone f16 named) xs o
IsCallOfPredeclared f16 name None xs o = OrFaulty (IsCall (a_function name) None xs) o

-- A name of the function is a value, and can't be called.
abbrev pub IsCallOfMeaning : Context → List ℕ → Meaning → List Part → Outcome → Type 0
IsCallOfMeaning c name (meanings.Declared index) xs o = IsCallOfKnown name (known_of c.declared index) xs o
IsCallOfMeaning c name meanings.Undeclared xs o = IsCallOfPredeclared c.extensions.f16 name (type_called name) xs o
IsCallOfMeaning c name other xs o = o ≡ outcomes.Faulty

-- of a name with a template list: `vec3<f32>(x)`, `bitcast<f32>(x)`
abbrev pub IsCallOfListed : Context → Listed → List Part → Outcome → Type 0
IsCallOfListed c (listeds.Type (Some ty)) xs o = IsConstructed (view ty) xs o
IsCallOfListed c (listeds.Function count (Some ty)) xs o = OrFaulty (IsCall (a_function (word_in c count)) (Some (view ty)) xs) o
IsCallOfListed c other xs o = o ≡ outcomes.Faulty

abbrev pub IsCallOf : Context → Callee → List Part → Outcome → Type 0
IsCallOf c (callees.Name count) xs o = IsCallOfMeaning c (word_in c count) (meaning_at c count) xs o
IsCallOf c (callees.Listed place listed) xs o = IsCallOfListed c listed xs o

abbrev pub are_typed : List Part → Bool
are_typed xs = list_all (λ x. is_some (typed_in x.outcome)) xs

-- a call with an argument that has a fault has no other
abbrev pub IsCallIf : Bool → Context → Callee → List Part → Outcome → Type 0
IsCallIf true c callee xs o = IsCallOf c callee xs o
IsCallIf false c callee xs o = o ≡ outcomes.Faulty

-- a call of this with these arguments, on top of these items
abbrev pub IsCallOn : Callee → List Part → List Item → List Item → Type 0
IsCallOn c xs rest (items.Call d ys ∷ is) = (d ≡ c) × (ys.items ≡ xs) × (is ≡ rest)
IsCallOn c xs rest is = ⊥

-- Steps

-- the `(` behind what is called, which has no argument yet
abbrev pub IsOpened : List Item → List Item → Type 0
IsOpened (items.Name count ∷ rest) is = IsCallOn (callees.Name count) [] rest is
IsOpened (items.Listed place listed ∷ rest) is = IsCallOn (callees.Listed place listed) [] rest is
IsOpened rest is = is ≡ rest

abbrev pub Opens : Stack → Stack → Type 0
Opens s r = IsOpened s.items r.items × (r.parts ≡ s.parts) × (r.context ≡ s.context)

abbrev pub is_call_on : List Item → Bool
is_call_on (items.Call c xs ∷ rest) = true
is_call_on is = false

-- the operand on top is an argument of a call
abbrev pub is_in_call : List Item → Bool
is_in_call [] = false
is_in_call (x ∷ rest) = is_call_on rest

abbrev pub IsGiven : Part → List Item → Stack → Stack → Type 0
IsGiven x (items.Call c xs ∷ rest) s r = IsCallOn c (xs.items ++ x ∷ []) rest r.items × (r.parts ≡ s.parts) × (r.context ≡ s.context)
IsGiven x is s r = r ≡ record { items = is; parts = s.parts ++ x ∷ []; context = s.context }

-- an argument of a call; one of an attribute stays where it is
abbrev pub ArgumentIf : Bool → Stack → Stack → Type 0
ArgumentIf true s r = (x : Part) × IsOnTop s x × IsGiven x (below_operand s.items) s r
ArgumentIf false s r = r ≡ s

abbrev pub Argument : Stack → Stack → Type 0
Argument s r = ArgumentIf (is_in_call s.items) s r

-- the tokens of what is called
abbrev pub head : Callee → Place
head (callees.Name count) = last_of count
head (callees.Listed place listed) = place

-- `f(x, y)`: its arguments are used
abbrev pub IsPartOfCall : Callee → List Part → Context → ℕ → Part → Type 0
IsPartOfCall c xs context at x = (x.place ≡ up_to (head c) (last_of at)) × (x.declared ≡ None) × IsCallIf (are_typed xs) context c xs x.outcome

abbrev pub EndsCall : Callee → List Part → List Item → ℕ → Stack → Stack → Type 0
EndsCall c xs rest at s r = (x : Part) × IsPartOfCall c xs s.context at x × (r ≡ record { items = items.Part x ∷ rest; parts = s.parts ++ xs; context = s.context })

abbrev pub CallsOf : List Item → ℕ → Stack → Stack → Type 0
CallsOf (items.Call c xs ∷ rest) at s r = EndsCall c xs.items rest at s r
CallsOf is at s r = r ≡ with_items (below is) s

abbrev pub Calls : ℕ → Stack → Stack → Type 0
Calls at s r = CallsOf s.items at s r
