-- Which `<` and `>` stand around template lists (WGSL, "Template Lists"), and which signs consist of several tokens.
use Rattle.std.specs.Prelude.{ℕ, zero, suc, ◌+◌, List, [], ◌∷◌, ◌++◌, Bool, true, false, nat_eq, nat_le, ◌-◌, ◌&&◌, ◌||◌, cond, drop, length, Ok, Err}
use denote.Enum.Bare.{sameb}
use Rattle.wgsl_reader.specs.contracts.kind.Kind.{the_type as kind_type}
use Rattle.wgsl_reader.specs.declared.kind.Kind.{Kind}
use Rattle.wgsl_reader.specs.declared.kind.Kind.TheVariants as k
use Rattle.wgsl_reader.specs.declared.lists.Opened.{Opened}
use Rattle.wgsl_reader.specs.declared.lists.Opened.TheVariants as o
use Rattle.wgsl_reader.specs.Tokens.{Tokens}
use Rattle.wgsl_reader.specs.declared.token.Token.{Token}

-- Signs that consist of several tokens

abbrev pub is : Kind → Token → Bool
is kind t = sameb kind_type t.kind kind

-- a token of this kind begins where the first one ends: `>=` has no blank in it
abbrev pub follows : Kind → List Token → Bool
follows kind (t ∷ u ∷ ts) = is kind u && nat_le t.at u.at && nat_eq (u.at - t.at) t.len
follows kind short = false

-- an assignment may end here: before `;`, before `)`, or at the end
abbrev pub ends_assignment : List Token → Bool
ends_assignment [] = true
ends_assignment (t ∷ ts) = is k.Semicolon t || is k.CloseRound t

-- the kind of the first token with those that belong to it, and how many these are: `>>=`, `>>`, `>=`
abbrev pub greater : List Token → Kind × ℕ
greater ts =
    cond (follows k.Greater ts) (cond (follows k.Equal (drop 1 ts)) (k.OperatorEqual, 2) (k.ShiftRight, 1))
    (cond (follows k.Equal ts) (k.GreaterEqual, 1) (k.Greater, 0))

-- `i++;`, `i--)`: in `1--1` each `-` is an operator
abbrev pub doubled : Kind → Kind → List Token → Kind × ℕ
doubled kind twice ts = cond (follows kind ts && ends_assignment (drop 2 ts)) (twice, 1) (kind, 0)

abbrev pub joined_by : Kind → List Token → Kind × ℕ
joined_by k.Greater ts = greater ts
joined_by k.Plus ts = doubled k.Plus k.PlusPlus ts
joined_by k.Minus ts = doubled k.Minus k.MinusMinus ts
joined_by other ts = (other, 0)

abbrev pub joined : List Token → Kind × ℕ
joined [] = (k.End, 0)
joined (t ∷ ts) = joined_by t.kind (t ∷ ts)

-- Template lists

-- What is known in front of a token: the tokens so far; whether the last of them is a name or `var`; and what is open, the
-- last first: brackets, and each `<` that may begin a list.
pub record Search : Type 0 where
  pub tokens : List Token
  pub is_named : Bool
  pub opened : List Opened

abbrev pub is_named_by : Kind → Bool
is_named_by k.Name = true
is_named_by k.Var = true
is_named_by other = false

-- what is open outside of the innermost bracket
abbrev pub outside : List Opened → List Opened
outside [] = []
outside (o.Bracket ∷ opened) = opened
outside (o.Less index ∷ opened) = outside opened

-- what is open up to the innermost bracket: no list goes on there
abbrev pub inside : List Opened → List Opened
inside [] = []
inside (o.Bracket ∷ opened) = o.Bracket ∷ opened
inside (o.Less index ∷ opened) = inside opened

-- What is open behind a token. A `<` behind a name may begin a list. No list has `;`, `{`, `:` or an assignment in it, nor `&&`
-- or `||` outside of brackets.
abbrev pub opened_behind : Kind → Bool → ℕ → List Opened → List Opened
opened_behind k.Less is_named index opened = cond is_named (o.Less index ∷ opened) opened
opened_behind k.OpenRound is_named index opened = o.Bracket ∷ opened
opened_behind k.OpenSquare is_named index opened = o.Bracket ∷ opened
opened_behind k.CloseRound is_named index opened = outside opened
opened_behind k.CloseSquare is_named index opened = outside opened
opened_behind k.AndAnd is_named index opened = inside opened
opened_behind k.OrOr is_named index opened = inside opened
opened_behind k.Semicolon is_named index opened = []
opened_behind k.OpenCurly is_named index opened = []
opened_behind k.Colon is_named index opened = []
opened_behind k.Equal is_named index opened = []
opened_behind k.OperatorEqual is_named index opened = []
opened_behind other is_named index opened = opened

-- a token of another kind, with others that belong to it
abbrev pub of_kind : Kind × ℕ → Token → Token
of_kind found t = record { kind = found.0; at = t.at; len = cond (nat_eq found.1 0) t.len (found.1 + 1) }

abbrev pub passed : Search → Token → Kind × ℕ → Search
passed s t found = record { tokens = s.tokens ++ of_kind found t ∷ []; is_named = is_named_by t.kind; opened = opened_behind t.kind s.is_named (length s.tokens) s.opened }

-- the `<` at an index begins a list
abbrev pub begun : ℕ → List Token → List Token
begun index [] = []
begun zero (t ∷ ts) = of_kind (k.OpenTemplate, 0) t ∷ ts
begun (suc index) (t ∷ ts) = t ∷ begun index ts

abbrev pub ended : Search → Token → ℕ → List Opened → Search
ended s t index opened = record { tokens = begun index s.tokens ++ of_kind (k.CloseTemplate, 0) t ∷ []; is_named = false; opened = opened }

-- a `>` ends the list that the innermost `<` begins, if no bracket was opened behind that
abbrev pub step_at : Search → Token → Kind × ℕ → List Opened → Search × ℕ
step_at s t found (o.Less index ∷ opened) = cond (is k.Greater t) (ended s t index opened, 0) (passed s t found, found.1)
step_at s t found opened = (passed s t found, found.1)

-- one token more, and how many of those behind it belong to it
abbrev pub step : Search → Token → List Token → Search × ℕ
step s t ts = step_at s t (joined (t ∷ ts)) s.opened

abbrev pub found_from : ℕ → Search → List Token → List Token
found_from skipped s [] = s.tokens
found_from (suc skipped) s (t ∷ ts) = found_from skipped s ts
found_from zero s (t ∷ ts) = let next = step s t ts in found_from next.1 next.0 ts

-- the tokens with their template lists
abbrev pub with_lists : List Token → List Token
with_lists tokens = found_from 0 (record { tokens = []; is_named = false; opened = [] }) tokens

abbrev pub listed : Tokens → Tokens
listed (Ok tokens) = Ok (with_lists tokens)
listed (Err at) = Err at
