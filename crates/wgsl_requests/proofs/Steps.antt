-- What comes of names and items, step by step, and the tokens of a request and of an expression, one by one.
use Rattle.wgsl_requests.proofs.Common.{◌≡◌, ◌+◌, ◌<◌, ℕ, List, [], ◌∷◌, Option, Some, None, Ok, option_map, drop, length, get_or as slice_index_or, refl}
use Rattle.wgsl_requests.proofs.Common.{ap, sym, subst, ◌∙◌, arith, common_steps, Result, Fail, Event, End, Request, Token, asked_behind, Misread, ◌++◌}
use Rattle.wgsl_requests.proofs.Common.{slice_set, take, zero, suc, Kind, word, asked_kind, next_kind, map, as_operand, operand_token}
use Rattle.std.specs.Result.{IsErrAnd}
use Rattle.std.proofs.lemmas.Result.{err_from_is_err_and}
use Rattle.wgsl_core.specs.declared.error.Fail.TheVariants.{Error, Memory}
use Rattle.wgsl_reader.specs.declared.mark.Mark.{Mark}
use Rattle.wgsl_reader.specs.declared.mark.Mark.TheVariants as m
use Rattle.wgsl_requests.specs.expressions.Source.{Source}
use Rattle.wgsl_requests.specs.expressions.Stack.{Item}
use Rattle.wgsl_requests.specs.expressions.Views.{AnswersIn, Refuses}
use Rattle.wgsl_requests.specs.expressions.Typing.{Comes, LineIs, MovesIn, State, TokensAre, closed_by, opened_by}

refuses : (N M : Type 0) → (N → M) → (e : Fail Misread) → Refuses N e → Refuses M e
refuses N M f (Error misread) n = f n
refuses N M f (Memory e) n = tt

-- the exit of a `?` that passes the error on
pub fails : {B : Type 0} (P : B → Type 0) (N M : Type 0) (r : Result B (Fail Misread)) (e : Fail Misread) → (N → M) → IsErrAnd r (λ y. y ≡ e) → Refuses N e → AnswersIn P M r
fails P N M r e f same n =
    let p = err_from_is_err_and r same in
    subst (λ r. AnswersIn P M r) (sym p.1) (subst (λ e. Refuses M e) (sym p.2) (refuses N M f e n))

-- what comes of names and items by what is noted next

nothing_comes : (s : Source) (opened index : ℕ) (events : List Event) → Comes s opened index None events None
nothing_comes s opened index [] = refl
nothing_comes s opened index (e ∷ events) = refl

pub comes_none : (s : Source) (opened now index : ℕ) (state : State) (events rest : List Event) (e : Event) → events ≡ e ∷ rest → now ≡ closed_by opened e.mark
    → MovesIn now s index e state None → Comes s opened index (Some state) events None
comes_none s opened now index state events rest e next same step =
    subst (λ events. Comes s opened index (Some state) events None) (sym next)
    (None, subst (λ n. MovesIn n s index e state None) same step, nothing_comes s _ _ rest)

pub comes_some : (s : Source) (opened now behind index : ℕ) (state after : State) (events rest : List Event) (e : Event) (r : Option Item) → events ≡ e ∷ rest
    → now ≡ closed_by opened e.mark → behind ≡ opened_by now e.mark → MovesIn now s index e state (Some after) → Comes s behind (index + 1) (Some after) rest r
    → Comes s opened index (Some state) events r
comes_some s opened now behind index state after events rest e r next same more step comes =
    subst (λ events. Comes s opened index (Some state) events r) (sym next) (
      Some after,
      subst (λ n. MovesIn n s index e state (Some after)) same step,
      subst (λ n. Comes s n (index + 1) (Some after) rest r) (more ∙ ap (λ n. opened_by n e.mark) same) comes,
    )

pub next_event : (events : List Event) (index : ℕ) (d : Event) → index < length events → drop index events ≡ slice_index_or events index d ∷ drop (index + 1) events
next_event events index d lt = grind (arith, common_steps, lt)

-- a line that has tokens asks what they are
pub line_with : (line : List ℕ) (tokens : List Token) (item : Option Item) → (tokens ≡ [] → ⊥) → TokensAre [] Request line (asked_behind line End tokens) item
    → LineIs line (Ok tokens) (option_map Some item)
line_with line [] item some is = absurd (some refl)
line_with line (t ∷ ts) item some is = (item, is, refl)

-- where no list is open none is closed
pub none_closed : (mark : Mark) → closed_by 0 mark ≡ 0
none_closed m.Template = refl
none_closed mark = refl

module _ (text : List ℕ) (before : Kind) (d : Token) where
  -- the kind of the token at an index
  abbrev pub kind_there : List Token → ℕ → Kind
  kind_there ts n = asked_kind before (slice_index_or ts n d).kind (word text (slice_index_or ts n d)) (next_kind (drop (suc n) ts))

  abbrev pub with_kind : List Token → ℕ → List Token
  with_kind ts n = slice_set ts n (record { kind = kind_there ts n; at = (slice_index_or ts n d).at; len = (slice_index_or ts n d).len })

  next : (ts : List Token) (n : ℕ) → n < length ts
      → take (suc n) (with_kind ts n) ++ asked_behind text (kind_there ts n) (drop (suc n) (with_kind ts n)) ≡ take n ts ++ asked_behind text before (drop n ts)
  next [] n lt = absurd (omega (arith, lt))
  next (t ∷ ts) zero lt = refl
  next (t ∷ ts) (suc n) lt = ap (λ rest. t ∷ rest) (next ts n (omega (arith, lt)))

  pub asked_next : (ts all : List Token) (n : ℕ) (kind : Kind) → n < length ts → kind ≡ asked_kind before (slice_index_or ts n d).kind (word text (slice_index_or ts n d)) (next_kind (drop (n + 1) ts))
      → take n ts ++ asked_behind text before (drop n ts) ≡ all
      → take (n + 1) (slice_set ts n (record { kind = kind; at = (slice_index_or ts n d).at; len = (slice_index_or ts n d).len }))
      ++ asked_behind text kind (drop (n + 1) (slice_set ts n (record { kind = kind; at = (slice_index_or ts n d).at; len = (slice_index_or ts n d).len }))) ≡ all
  asked_next ts all n kind lt is so_far =
      let more : suc n ≡ n + 1 = omega arith in
      let same : kind ≡ kind_there ts n = is ∙ ap (λ n1. asked_kind before (slice_index_or ts n d).kind (word text (slice_index_or ts n d)) (next_kind (drop n1 ts))) (sym more) in
      let set : Kind → List Token = λ kind. slice_set ts n (record { kind = kind; at = (slice_index_or ts n d).at; len = (slice_index_or ts n d).len }) in
      ap (λ n1. take n1 (set kind) ++ asked_behind text kind (drop n1 (set kind))) (sym more)
      ∙ (ap (λ kind. take (suc n) (set kind) ++ asked_behind text kind (drop (suc n) (set kind))) same ∙ (next ts n lt ∙ so_far))

pub as_many : (text : List ℕ) (before : Kind) (ts : List Token) → length (asked_behind text before ts) ≡ length ts
as_many text before [] = refl
as_many text before (t ∷ ts) = ap suc (as_many text (asked_kind before t.kind (word text t) (next_kind ts)) ts)

-- the tokens, of which the first `n` are an operand's
abbrev pub so_far : ℕ → List Token → List Token
so_far n ts = map operand_token (take n ts) ++ drop n ts

pub same_length : (n : ℕ) (ts : List Token) → length (so_far n ts) ≡ length ts
same_length zero ts = refl
same_length (suc n) [] = refl
same_length (suc n) (t ∷ ts) = ap suc (same_length n ts)

next_operand : (n : ℕ) (ts : List Token) (d : Token) → n < length ts → slice_set (so_far n ts) n (operand_token (slice_index_or (so_far n ts) n d)) ≡ so_far (suc n) ts
next_operand n [] d lt = absurd (omega (arith, lt))
next_operand zero (t ∷ ts) d lt = refl
next_operand (suc n) (t ∷ ts) d lt = ap (λ rest. operand_token t ∷ rest) (next_operand n ts d (omega (arith, lt)))

pub one_more : (all ts : List Token) (n : ℕ) (kind : Kind) (d : Token) → n < length ts → all ≡ so_far n ts → kind ≡ as_operand (slice_index_or all n d).kind
    → slice_set all n (record { kind = kind; at = (slice_index_or all n d).at; len = (slice_index_or all n d).len }) ≡ so_far (n + 1) ts
one_more all ts n kind d lt e k =
    let more : suc n ≡ n + 1 = omega arith in
    ap (λ kind. slice_set all n (record { kind = kind; at = (slice_index_or all n d).at; len = (slice_index_or all n d).len })) k
    ∙ (ap (λ all. slice_set all n (operand_token (slice_index_or all n d))) e ∙ (next_operand n ts d lt ∙ ap (λ n. so_far n ts) more))
