-- Declarations in the order in which they are read: each once, behind those that it leads to.
use Rattle.std.specs.Prelude.{◌≡◌, ◌⊎◌, ◌++◌, ◌∷◌, [], ℕ, ◌<◌, ◌≤◌, List, Bool, true, Contains, Option, Some, None, cond, map, nat_eq, option_and_then, option_map, slice_get, slice_set}
use Rattle.std.specs.List.{sum_by}
use Rattle.wgsl_module.specs.Called.{called_from}
use Rattle.wgsl_module.specs.Declarations.{Written, written}
use Rattle.wgsl_module.specs.Named.{Naming, first_called, is_called, named_from}
use Rattle.wgsl_module.specs.declared.checker.Checker.{Checker}
use Rattle.wgsl_module.specs.declared.declaration.Declaration.{Declaration}
use Rattle.wgsl_typing.specs.declared.expressions.Named.{Named}
use Rattle.wgsl_typing.specs.declared.fault.Place.{Place}
use Rattle.wgsl_module.specs.declared.walk.Link.{Link}
use Rattle.wgsl_module.specs.declared.walk.Link.TheVariants as links
use Rattle.wgsl_module.specs.declared.walk.Order.{Order}
use Rattle.wgsl_module.specs.declared.walk.State.{State}
use Rattle.wgsl_module.specs.declared.walk.State.TheVariants.{Done, Open, Unseen}
use Rattle.wgsl_typing.specs.StructNames.{index_of}

-- how many times an index stands there
abbrev pub times_in : List ℕ → ℕ → ℕ
times_in order index = sum_by (λ i. cond (nat_eq i index) 1 0) order

-- each index from one on up to another stands there once
abbrev pub HasEach : ℕ → ℕ → List ℕ → Type 0
HasEach from to order = (index : ℕ) → from ≤ index → index < to → times_in order index ≡ 1

-- from one to another, perhaps through others
pub data LeadsTo (leads : ℕ → List ℕ) : ℕ → ℕ → Type 0 where
  itself : (index : ℕ) → LeadsTo leads index index
  through : (index next other : ℕ) → Contains (leads index) next → LeadsTo leads next other → LeadsTo leads index other

-- each stands behind those of them that it leads to, but for one of these, which leads back to it
abbrev pub IsBehind : (ℕ → List ℕ) → List ℕ → List ℕ → Type 0
IsBehind leads cycles order = (front : List ℕ) (index : ℕ) (rest : List ℕ) → order ≡ front ++ index ∷ rest
    → (other : ℕ) → Contains order other → Contains (leads index) other → Contains front other ⊎ (Contains cycles other × LeadsTo leads other index)

-- in the order of the text: each from one on up to another is reached from the first of these that don't stand in front of it
abbrev pub IsInTurn : (ℕ → List ℕ) → ℕ → ℕ → List ℕ → Type 0
IsInTurn leads from to order = (front : List ℕ) (index : ℕ) (rest : List ℕ) → order ≡ front ++ index ∷ rest → index < to
    → (root : ℕ) × LeadsTo leads root index × ((other : ℕ) → from ≤ other → other < root → Contains front other)

-- those that lead back to themselves, and where
abbrev pub cycling : List (ℕ × Place) → List ℕ
cycling cycles = map (λ cycle. cycle.0) cycles

-- What a check follows: the names of declarations, or the calls in their bodies

abbrev pub naming_of : Checker → Naming
naming_of c = record { text = c.expressions.text.now; tokens = c.expressions.tokens.now; declared = λ name. index_of name c.expressions.names }

-- those that one leads to, from one of its events or of those of its body on
abbrev pub leads_from : Checker → Link → ℕ → ℕ → List ℕ
leads_from c links.Name index at = named_from (naming_of c) (option_map written (slice_get c.declarations.items index)) at
leads_from c links.Call index at = called_from (naming_of c) (option_map written (slice_get c.declarations.items index)) at

abbrev pub leads_of : Checker → Link → ℕ → List ℕ
leads_of c link index = leads_from c link index 0

-- Names

abbrev pub name_at : List Declaration → ℕ → Option ℕ
name_at ds index = option_and_then (λ d. d.named) (slice_get ds index)

-- A name stands for the first of these that has it.
abbrev pub HaveNames : Checker → List Written → Type 0
HaveNames c ds = (name : List ℕ) → index_of name c.expressions.names ≡ first_called c.expressions.text.now c.expressions.tokens.now ds name

abbrev pub unless_called : Bool → ℕ → Option ℕ → Option ℕ
unless_called true index None = Some index
unless_called is index found = found

-- one more has its name, unless another one has it
abbrev pub IsNamed : Checker → Option ℕ → ℕ → Checker → Type 0
IsNamed s named index r = (name : List ℕ) → index_of name r.expressions.names
    ≡ unless_called (is_called s.expressions.text.now s.expressions.tokens.now name named) index (index_of name s.expressions.names)

-- the same names are declared, and perhaps more behind them
abbrev pub Continues : Checker → Checker → Type 0
Continues s r = (more : List Named) × (r.expressions.declared.items ≡ s.expressions.declared.items ++ more)

-- each name that stands for something goes on standing for that
abbrev pub KeepNames : Checker → Checker → Type 0
KeepNames s r = (name : List ℕ) (index : ℕ) → index_of name s.expressions.names ≡ Some index → index_of name r.expressions.names ≡ Some index

-- While they are followed

-- one that isn't seen yet is open from then on
abbrev pub begun : Option State → ℕ → List State → List State
begun (Some Unseen) index states = slice_set states index Open
begun other index states = states

abbrev pub opened : Option State → ℕ → List (ℕ × ℕ) → List (ℕ × ℕ)
opened (Some Unseen) index stack = stack ++ (index, 0) ∷ []
opened other index stack = stack

-- one that is open and is led to leads to itself
abbrev pub with_cycle : Option State → ℕ × Place → List (ℕ × Place) → List (ℕ × Place)
with_cycle (Some Open) cycle cycles = cycles ++ cycle ∷ []
with_cycle other cycle cycles = cycles

abbrev pub Begins : Option State → ℕ → Order → Order → Type 0
Begins state index s r = (r.states.items ≡ begun state index s.states.items) × (r.stack.items ≡ opened state index s.stack.items)
    × (r.indices.items ≡ s.indices.items) × (r.cycles.items ≡ s.cycles.items)

-- one that isn't done is from then on, and stands behind those that are
abbrev pub IsClosed : Option State → ℕ → Order → Order → Type 0
IsClosed None index s r = r ≡ s
IsClosed (Some Done) index s r = r ≡ s
IsClosed (Some other) index s r = (r.states.items ≡ slice_set s.states.items index Done) × (r.stack.items ≡ s.stack.items)
    × (r.indices.items ≡ s.indices.items ++ index ∷ []) × (r.cycles.items ≡ s.cycles.items)

-- what is led to is followed next, and then what stands behind it
abbrev pub LeadsOn : Option State → ℕ → ℕ × Place × ℕ → Order → Order → Type 0
LeadsOn state index next s r = (r.states.items ≡ begun state next.0 s.states.items)
    × (r.stack.items ≡ opened state next.0 (s.stack.items ++ (index, next.2) ∷ []))
    × (r.indices.items ≡ s.indices.items) × (r.cycles.items ≡ with_cycle state (next.0, next.1) s.cycles.items)

abbrev pub GoesOn : ℕ → Option (ℕ × Place × ℕ) → Order → Order → Type 0
GoesOn index None s r = IsClosed (slice_get s.states.items index) index s r
GoesOn index (Some next) s r = LeadsOn (slice_get s.states.items next.0) index next s r
