-- The names that a text declares (WGSL, "Declaration and Scope"), its tokens, what is noted of them, and what is called by a name.
use Rattle.std.specs.Prelude.{ℕ, List, [], ◌∷◌, Option, Some, None, cond, bytes_eq, ◌+◌, ◌-◌, length, nat_le, nat_lt, option_map, slice_get, slice_range, ◌++◌}
use Rattle.std.specs.Prelude.{Bool, false, ◌||◌, nat_eq, codes, decimal, is_some}
use Rattle.std.specs.Option.{option_map_or}
use Rattle.wgsl_requests.specs.expressions.Prelude.{Kind, End, Event, Token, WgslType, word, Parameter, of_type, wgsl_spelling, vec, mat, array, struct, WgslCallee}
use Rattle.wgsl_requests.specs.expressions.Prelude.{a_constructor, a_function as a_callee, overloads_listed}
use Rattle.wgsl_constants.specs.Literals.{then}
use Rattle.wgsl_spelling.specs.Chains.{Chain, name_of, type_of, wrapped}
use Rattle.wgsl_spelling.specs.Spelled.{chain_of_events, count_of_events}
use Rattle.wgsl_requests.specs.expressions.Outcomes.{Head, a_struct, declared, overloaded, typed_array}

-- what a name is declared as
pub data Meaning : Type 0 where
  -- a type, and how many types are inside it
  a_type : WgslType → ℕ → Meaning
  -- the types of the parameters, and that of the result
  a_function : List WgslType → Option WgslType → Meaning

pub record Declared : Type 0 where
  pub name : List ℕ
  pub meaning : Meaning

-- declared names, the last first
abbrev pub Scope : Type 0
Scope = List Declared

-- what a name is declared as: the last declaration counts
abbrev pub find : List ℕ → Scope → Option Meaning
find name [] = None
find name (d ∷ ds) = cond (bytes_eq d.name name) (Some d.meaning) (find name ds)

abbrev pub type_meant : Option Meaning → Option (WgslType × ℕ)
type_meant (Some (a_type t n)) = Some (t, n)
type_meant other = None

-- the type that has a name, and how many types are inside it
abbrev pub type_named : List ℕ → Scope → Option (WgslType × ℕ)
type_named name scope = type_meant (find name scope)

abbrev pub result_meant : Meaning → Option (Option WgslType)
result_meant (a_function ts r) = Some r
result_meant (a_type t n) = None

-- the result of the function that is declared last, if one is
abbrev pub last_result : Scope → Option (Option WgslType)
last_result [] = None
last_result (d ∷ ds) = result_meant d.meaning

-- a text, its tokens, and what is noted of them
pub record Source : Type 0 where
  pub text : List ℕ
  pub tokens : List Token
  pub events : List Event

-- the last of this many tokens: its kind, the index of its first byte, its text

abbrev pub kind_at : Source → ℕ → Kind
kind_at s count = option_map_or (λ t. t.kind) (slice_get s.tokens (count - 1)) End

abbrev pub byte_at : Source → ℕ → ℕ
byte_at s count = option_map_or (λ t. t.at) (slice_get s.tokens (count - 1)) 0

abbrev pub text_at : Source → ℕ → List ℕ
text_at s count = option_map_or (word s.text) (slice_get s.tokens (count - 1)) []

-- what is noted from one index on, up to another: of a name, with its template list
abbrev pub noted : Source → ℕ → ℕ → List Event
noted s from to = slice_range s.events from to

-- the number of tokens up to the name that is noted first
abbrev pub first_count : List Event → ℕ
first_count [] = 0
first_count (e ∷ events) = e.at

-- a declared type in the layers of a chain: at most 255 types are inside
abbrev pub declared_in : Option (WgslType × ℕ) → Chain → Option (WgslType × ℕ)
declared_in None c = None
declared_in (Some found) c = cond (nat_le found.1 (255 - length c.layers)) (Some (wrapped found.0 c.layers, length c.layers + found.1)) None

abbrev pub type_by : List ℕ → Scope → Chain → Option Token → Option (WgslType × ℕ)
type_by text scope c None = option_map (λ t. (t, length c.layers)) (type_of c)
type_by text scope c (Some name) = declared_in (type_named (word text name) scope) c

-- the type in parts, whose leaf may be a name of the scope, and how many types are inside it
abbrev pub type_in : List ℕ → Scope → Chain → Option (WgslType × ℕ)
type_in text scope c = type_by text scope c (name_of c)

-- the type that is noted, and how many types are inside it
abbrev pub type_noted : Source → Scope → List Event → Option (WgslType × ℕ)
type_noted s scope events = then (chain_of_events s.text s.tokens events) (type_in s.text scope)

-- the number of 32 bits that is noted
abbrev pub number_noted : Source → List Event → Option ℕ
number_noted s events = then (count_of_events s.text s.tokens events) (λ n. cond (nat_lt n 4294967296) (Some n) None)

abbrev pub with_type : WgslType → Option (List Parameter)
with_type t = Some (of_type t ∷ [])

-- the constructor of a type
abbrev pub constructor_of : WgslType → Head
constructor_of (vec n t) = overloaded (a_constructor (codes "vec" ++ decimal n)) (with_type t)
constructor_of (mat c r t) = overloaded (a_constructor (codes "mat" ++ (decimal c ++ (codes "x" ++ decimal r)))) (with_type t)
constructor_of (array n t) = typed_array t n
constructor_of (struct name ms) = a_struct (struct name ms)
constructor_of t = overloaded (a_constructor (wgsl_spelling t)) None

-- `vec3`, `array`: a constructor whose type follows from its operands
abbrev pub is_constructor : List ℕ → Bool
is_constructor name = bytes_eq name (codes "array") || is_some (overloads_listed (a_constructor name) false)

abbrev pub callee_named : List ℕ → WgslCallee
callee_named name = cond (is_constructor name) (a_constructor name) (a_callee name)

-- what is called by a name without a list, which may be declared
abbrev pub plain_head : List ℕ → Option Meaning → Head
plain_head name (Some (a_function ts r)) = declared name ts r
plain_head name other = overloaded (callee_named name) None

-- a function with a type in its list, as in `bitcast<f32>`
abbrev pub function_with : List ℕ → WgslType → Head
function_with name t = overloaded (a_callee name) (with_type t)

abbrev pub first_name : Source → List Event → List ℕ
first_name s events = text_at s (first_count events)

-- the type inside of the list that is noted behind a name
abbrev pub type_in_list : Source → Scope → List Event → Option (WgslType × ℕ)
type_in_list s scope events = type_noted s scope (slice_range events 2 (length events - 1))

-- a constructor or a function that has the name which is noted, and perhaps a type in its list
abbrev pub other_head : Source → Scope → List Event → Option Head
other_head s scope events =
    cond (nat_eq (length events) 1) (Some (plain_head (first_name s events) (find (first_name s events) scope)))
    (option_map (λ t. function_with (first_name s events) t.0) (type_in_list s scope events))

abbrev pub head_by : Option Head → Option (WgslType × ℕ) → Option Head
head_by other None = other
head_by other (Some t) = Some (constructor_of t.0)

-- what is called by the name and the list that are noted
abbrev pub head_noted : Source → Scope → List Event → Option Head
head_noted s scope events = head_by (other_head s scope events) (type_noted s scope events)
