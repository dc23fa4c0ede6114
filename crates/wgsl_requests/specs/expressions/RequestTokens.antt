-- The tokens of a request, whose first word and `const` have kinds of their own.
use Rattle.std.specs.Prelude.{ℕ, List, [], ◌∷◌, Option, None, Bool, true, false, ◌&&◌, codes, cond, not, unwrap_or}
use Rattle.wgsl_requests.specs.expressions.Prelude.{Kind, Token, word, named}
use Rattle.wgsl_reader.specs.declared.kind.Kind.TheVariants as k

-- the words with which what is asked begins, if it is no declaration or statement
abbrev pub questions : List (Kind × List ℕ)
questions = (k.TypeOf, codes "type") ∷ (k.Load, codes "load") ∷ (k.Resolve, codes "resolve") ∷ (k.Why, codes "why") ∷ (k.Overloads, codes "overloads")
    ∷ (k.Rank, codes "rank") ∷ (k.Common, codes "common") ∷ (k.Size, codes "size") ∷ (k.Offsets, codes "offsets") ∷ (k.Layout, codes "layout") ∷ []

-- what begins with a word
abbrev pub question_of : Kind → List ℕ → Option Kind
question_of k.Name text = named questions text
question_of k.Reserved text = named questions text
question_of other text = None

-- a `const` is one in front of an operand's type
abbrev pub as_operand : Kind → Kind
as_operand k.Const = k.ConstOperand
as_operand other = other

abbrev pub operand_token : Token → Token
operand_token t = record { kind = as_operand t.kind; at = t.at; len = t.len }

-- What is asked begins in front of everything, or behind a declaration. Nowhere else in WGSL does a word stand behind a `}`, a `)`, a
-- list or a name, but for members and parameters behind an attribute.
abbrev pub may_begin_behind : Kind → Bool
may_begin_behind k.End = true
may_begin_behind k.Name = true
may_begin_behind k.CloseCurly = true
may_begin_behind k.CloseRound = true
may_begin_behind k.CloseTemplate = true
may_begin_behind other = false

abbrev pub is_overloads : Kind → Bool
is_overloads k.Overloads = true
is_overloads other = false

-- a member's name, in front of its type
abbrev pub is_colon : Kind → Bool
is_colon k.Colon = true
is_colon other = false

-- The kind of a token in a request, behind a token and in front of another. What stands behind `overloads` is a name: `overloads +`.
abbrev pub asked_kind : Kind → Kind → List ℕ → Kind → Kind
asked_kind before kind text next =
    cond (is_overloads before) k.Name (cond (may_begin_behind before && not (is_colon next)) (unwrap_or (question_of kind text) (as_operand kind)) (as_operand kind))

abbrev pub next_kind : List Token → Kind
next_kind [] = k.End
next_kind (t ∷ ts) = t.kind

abbrev pub asked_token : List ℕ → Kind → Token → Kind → Token
asked_token text before t next = record { kind = asked_kind before t.kind (word text t) next; at = t.at; len = t.len }

-- the tokens behind one of this kind
abbrev pub asked_behind : List ℕ → Kind → List Token → List Token
asked_behind text before [] = []
asked_behind text before (t ∷ ts) =
    asked_token text before t (next_kind ts) ∷ asked_behind text (asked_kind before t.kind (word text t) (next_kind ts)) ts
