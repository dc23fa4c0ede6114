-- How what is read is seen.
use Rattle.std.specs.Prelude.{◌≡◌, ◌∷◌, [], List, Option, Some, None, Result, Ok, Err, reverse, ⊤}
use Rattle.wgsl_core.specs.View.{view}
use Rattle.wgsl_core.specs.declared.ty.Type.{«Type»}
use Rattle.wgsl_rules.specs.types.Types.{WgslType}
use Rattle.wgsl_spelling.specs.Chains.{Chain as Parts}
use Rattle.wgsl_spelling.specs.Spelled.{State}
use Rattle.wgsl_spelling.specs.Stacks.{items_of}
use Rattle.wgsl_spelling.specs.declared.chain.Chain.{Chain}
use Rattle.wgsl_spelling.specs.declared.fault.Stop.{Stop}
use Rattle.wgsl_spelling.specs.declared.fault.Stop.TheVariants.{Memory, Fault}
use Rattle.wgsl_spelling.specs.declared.item.Item.{Item}
use Rattle.wgsl_spelling.specs.declared.spelled.Reading.{Reading}

abbrev pub chain_of : Chain → Parts
chain_of c = record { leaf = c.leaf; layers = items_of c.layers }

abbrev pub state_of : Reading → State
state_of r = record { items = reverse r.items.items; chain = chain_of r.chain }

-- The answer of the rules: a value, or a fault where they have none. Out of memory says nothing.
abbrev pub Gives : {A B : Type 0} → (A → B) → Option B → Result A Stop → Type 0
Gives view expected (Ok value) = expected ≡ Some (view value)
Gives view expected (Err (Fault f)) = expected ≡ None
Gives view expected (Err (Memory e)) = ⊤

-- a fault, whatever its place and cause
abbrev pub IsFault : Stop → Type 0
IsFault (Fault f) = ⊤
IsFault (Memory e) = ⊥

-- the same of what is changed
abbrev pub Becomes : {B : Type 0} → Option B → B → Result ⊤ Stop → Type 0
Becomes expected new r = Gives (λ done. new) expected r

-- the first of the items is taken, or there is none
abbrev pub Takes : List Item → List Item → Result Item Stop → Type 0
Takes items rest (Ok i) = items ≡ i ∷ rest
Takes items rest (Err (Fault f)) = items ≡ []
Takes items rest (Err (Memory e)) = ⊤

abbrev pub type_found : {F : Type 0} → Result «Type» F → Option WgslType
type_found (Ok ty) = Some (view ty)
type_found (Err fault) = None
