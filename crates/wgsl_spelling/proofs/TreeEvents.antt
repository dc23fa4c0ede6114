-- What WGSL's grammar reads in the tokens of a tree.
use Rattle.std.proofs.Common.{◌≡◌, ◌+◌, ℕ, List, [], ◌∷◌, Ok, map, refl, ap, ◌∙◌}
use Rattle.wgsl_reader.specs.Grammar.{tables}
use Rattle.wgsl_spelling.proofs.Common.{Outcome, ReadAt, all_read, kind_of, noted, rule_read, token_read, Kind, Event, Token}
use Rattle.wgsl_reader.specs.declared.kind.Kind.TheVariants as k
use Rattle.wgsl_reader.specs.declared.mark.Mark.{Mark}
use Rattle.wgsl_reader.specs.declared.mark.Mark.TheVariants as m
use Rattle.wgsl_reader.specs.declared.rule.Rule.TheVariants as r
use Rattle.wgsl_reader.specs.declared.grammar.Symbol.{Symbol}
use Rattle.wgsl_reader.specs.declared.grammar.Symbol.TheVariants as s
use Rattle.wgsl_spelling.proofs.Listed.{listed}
use Rattle.wgsl_spelling.proofs.Trees.{IsType, Tree, digits, list, name, parts}

abbrev pub event : Mark → ℕ → Event
event mark at = record { mark = mark; at = at }

-- the kinds of the tokens of a tree, in front of others
abbrev pub kinds : Tree → List Kind → List Kind
kinds (name w) more = k.Name ∷ more
kinds (digits n) more = k.Number ∷ more
kinds (list w t) more = k.Name ∷ k.OpenTemplate ∷ kinds t (k.CloseTemplate ∷ more)
kinds (parts a b) more = kinds a (k.Comma ∷ kinds b more)

-- the number of tokens up to the end of a tree
abbrev pub count : Tree → ℕ → ℕ
count (name w) n = n + 1
count (digits d) n = n + 1
count (list w t) n = count t (n + 1 + 1) + 1
count (parts a b) n = count b (count a n + 1)

-- what is noted behind a parameter: a name stands for a value
abbrev pub valued : Tree → ℕ → List Event → List Event
valued (name w) n more = event m.Value (n + 1) ∷ more
valued (digits d) n more = more
valued (list w t) n more = event m.Value (count (list w t) n) ∷ more
valued (parts a b) n more = valued b (count a n + 1) more

-- the events of a tree, in front of others
abbrev pub events : Tree → ℕ → List Event → List Event
events (name w) n more = event m.Name (n + 1) ∷ more
events (digits d) n more = event m.Literal (n + 1) ∷ more
events (list w t) n more =
    event m.Name (n + 1) ∷ event m.OpenTemplate (n + 1 + 1) ∷ events t (n + 1 + 1) (valued t (n + 1 + 1) (event m.Template (count (list w t) n) ∷ more))
events (parts a b) n more = events a n (valued a n (events b (count a n + 1) more))

-- what stands behind a parameter
pub data Parts : Kind → Type 0 where
  comma : Parts k.Comma
  close : Parts k.CloseTemplate

-- behind an operand nothing else belongs to the expression

no_operator : {kind : Kind} → Parts kind → (symbols : List Symbol) (n : ℕ) (ks : List Kind) (o : Outcome) → ReadAt symbols n (kind ∷ ks) o → ReadAt (s.Rule r.Operators ∷ symbols) n (kind ∷ ks) o
unfolding tables
no_operator comma symbols n ks o d = rule_read refl d
no_operator close symbols n ks o d = rule_read refl d

no_member : {kind : Kind} → Parts kind → (symbols : List Symbol) (n : ℕ) (ks : List Kind) (o : Outcome) → ReadAt symbols n (kind ∷ ks) o → ReadAt (s.Rule r.Postfix ∷ symbols) n (kind ∷ ks) o
unfolding tables
no_member comma symbols n ks o d = rule_read refl d
no_member close symbols n ks o d = rule_read refl d

abbrev Rest : List Symbol → List Symbol
Rest symbols = s.Rule r.Postfix ∷ s.Rule r.Operators ∷ symbols

rest_read : {kind : Kind} → Parts kind → (symbols : List Symbol) (n : ℕ) (ks : List Kind) (o : Outcome) → ReadAt symbols n (kind ∷ ks) o → ReadAt (Rest symbols) n (kind ∷ ks) o
rest_read part symbols n ks o d = no_member part (s.Rule r.Operators ∷ symbols) n ks o (no_operator part symbols n ks o d)

-- a name stands for a value where neither a list nor a call follows

alone : {kind : Kind} → Parts kind → (symbols : List Symbol) (n : ℕ) (ks : List Kind) (more : List Event) → ReadAt symbols n (kind ∷ ks) (Ok more)
    → ReadAt (s.Rule r.AfterValue ∷ symbols) n (kind ∷ ks) (Ok (event m.Value n ∷ more))
unfolding tables
alone comma symbols n ks more d = rule_read refl (noted d)
alone close symbols n ks more d = rule_read refl (noted d)

no_call : {kind : Kind} → Parts kind → (symbols : List Symbol) (n : ℕ) (ks : List Kind) (more : List Event) → ReadAt symbols n (kind ∷ ks) (Ok more)
    → ReadAt (s.Rule r.Call ∷ symbols) n (kind ∷ ks) (Ok (event m.Value n ∷ more))
unfolding tables
no_call comma symbols n ks more d = rule_read refl (noted d)
no_call close symbols n ks more d = rule_read refl (noted d)

abbrev BehindList : List Symbol → List Symbol
BehindList symbols = s.Rule r.Call ∷ Rest symbols

with_list : (symbols : List Symbol) (n : ℕ) (ks : List Kind) (o : Outcome) → ReadAt (s.Rule r.Template ∷ BehindList symbols) n (k.OpenTemplate ∷ ks) o
    → ReadAt (s.Rule r.AfterValue ∷ s.Rule r.Operators ∷ symbols) n (k.OpenTemplate ∷ ks) o
unfolding tables
with_list symbols n ks o d = rule_read refl d

-- an expression that begins with a name, or is a number
named : (symbols : List Symbol) (n : ℕ) (ks : List Kind) (more : List Event) → ReadAt (s.Rule r.AfterValue ∷ s.Rule r.Operators ∷ symbols) (n + 1) ks (Ok more)
    → ReadAt (s.Rule r.Unary ∷ s.Rule r.Operators ∷ symbols) n (k.Name ∷ ks) (Ok (event m.Name (n + 1) ∷ more))
unfolding tables
named symbols n ks more d = rule_read refl (token_read refl (noted d))

numbered : (symbols : List Symbol) (n : ℕ) (ks : List Kind) (more : List Event) → ReadAt (Rest symbols) (n + 1) ks (Ok more)
    → ReadAt (s.Rule r.Unary ∷ s.Rule r.Operators ∷ symbols) n (k.Number ∷ ks) (Ok (event m.Literal (n + 1) ∷ more))
unfolding tables
numbered symbols n ks more d = rule_read refl (token_read refl (noted d))

-- a list, from its `<` on
opened : (symbols : List Symbol) (n : ℕ) (ks : List Kind) (more : List Event) → ReadAt (s.Rule r.Unary ∷ s.Rule r.Operators ∷ s.Rule r.MoreTemplate ∷ s.Token k.CloseTemplate ∷ s.Mark m.Template ∷ symbols) (n + 1) ks (Ok more)
    → ReadAt (s.Rule r.Template ∷ symbols) n (k.OpenTemplate ∷ ks) (Ok (event m.OpenTemplate (n + 1) ∷ more))
unfolding tables
opened symbols n ks more d = rule_read refl (token_read refl (noted d))

closed : (symbols : List Symbol) (n : ℕ) (ks : List Kind) (more : List Event) → ReadAt symbols (n + 1) ks (Ok more)
    → ReadAt (s.Rule r.MoreTemplate ∷ s.Token k.CloseTemplate ∷ s.Mark m.Template ∷ symbols) n (k.CloseTemplate ∷ ks) (Ok (event m.Template (n + 1) ∷ more))
unfolding tables
closed symbols n ks more d = rule_read refl (token_read refl (noted d))

-- one more parameter: it begins with a name or a number
pub data Begins : Kind → Type 0 where
  by_name : Begins k.Name
  by_number : Begins k.Number

separated : {kind : Kind} → Begins kind → (symbols : List Symbol) (n : ℕ) (ks : List Kind) (o : Outcome) → ReadAt (s.Rule r.Unary ∷ s.Rule r.Operators ∷ s.Rule r.MoreTemplate ∷ symbols) (n + 1) (kind ∷ ks) o
    → ReadAt (s.Rule r.MoreTemplate ∷ symbols) n (k.Comma ∷ kind ∷ ks) o
unfolding tables
separated by_name symbols n ks o d = rule_read refl (token_read refl (rule_read refl d))
separated by_number symbols n ks o d = rule_read refl (token_read refl (rule_read refl d))

separated_tree : (t : Tree) (symbols : List Symbol) (n : ℕ) (ks : List Kind) (o : Outcome) → ReadAt (s.Rule r.Unary ∷ s.Rule r.Operators ∷ s.Rule r.MoreTemplate ∷ symbols) (n + 1) (kinds t ks) o
    → ReadAt (s.Rule r.MoreTemplate ∷ symbols) n (k.Comma ∷ kinds t ks) o
separated_tree (name w) symbols n ks o d = separated by_name symbols n ks o d
separated_tree (digits v) symbols n ks o d = separated by_number symbols n ks o d
separated_tree (list w t) symbols n ks o d = separated by_name symbols n _ o d
separated_tree (parts a b) symbols n ks o d = separated_tree a symbols n _ o d

-- parameters are expressions, of which more may stand behind
pub parameter : (t : Tree) {kind : Kind} → Parts kind → (symbols : List Symbol) (n : ℕ) (ks : List Kind) (more : List Event) → ReadAt (s.Rule r.MoreTemplate ∷ symbols) (count t n) (kind ∷ ks) (Ok more)
    → ReadAt (s.Rule r.Unary ∷ s.Rule r.Operators ∷ s.Rule r.MoreTemplate ∷ symbols) n (kinds t (kind ∷ ks)) (Ok (events t n (valued t n more)))
parameter (name w) {kind} part symbols n ks more d = named _ n (kind ∷ ks) _ (alone part _ _ ks more (no_operator part _ _ ks _ d))
parameter (digits v) {kind} part symbols n ks more d = numbered _ n (kind ∷ ks) more (rest_read part _ _ ks _ d)
parameter (list w t) {kind} part symbols n ks more d =
    let behind = BehindList (s.Rule r.MoreTemplate ∷ symbols) in
    named _ n _ _ (with_list _ _ _ _ (opened behind (n + 1) _ _
    (parameter t close (s.Token k.CloseTemplate ∷ s.Mark m.Template ∷ behind) (n + 1 + 1) (kind ∷ ks) _
    (closed behind (count t (n + 1 + 1)) (kind ∷ ks) _ (no_call part _ _ ks more (rest_read part _ _ ks _ d))))))
parameter (parts a b) {kind} part symbols n ks more d =
    parameter a comma symbols n (kinds b (kind ∷ ks)) _ (separated_tree b symbols (count a n) (kind ∷ ks) _ (parameter b part symbols (count a n + 1) ks more d))

-- a type is the whole of the tokens

typed : (n : ℕ) (ks : List Kind) (more : List Event) → ReadAt (s.Rule r.Template ∷ []) (n + 1) ks (Ok more) → ReadAt (s.Rule r.Type ∷ []) n (k.Name ∷ ks) (Ok (event m.Name (n + 1) ∷ more))
unfolding tables
typed n ks more d = rule_read refl (token_read refl (noted d))

ended : (n : ℕ) → ReadAt (s.Rule r.Template ∷ []) n [] (Ok [])
unfolding tables
ended n = rule_read refl (all_read n)

pub type_read : (t : Tree) → IsType t → ReadAt (s.Rule r.Type ∷ []) 0 (kinds t []) (Ok (events t 0 []))
type_read (digits d) is = elim is [ ]
type_read (parts a b) is = elim is [ ]
type_read (name w) is = typed 0 [] [] (ended 1)
type_read (list w t) is = typed 0 _ _ (opened [] 1 _ _ (parameter t close (s.Token k.CloseTemplate ∷ s.Mark m.Template ∷ []) 2 [] _ (closed [] (count t 2) [] [] (all_read _))))

-- the kinds of the tokens with lists
pub same_kinds : (t : Tree) (at : ℕ) (more : List Token) → map kind_of (listed t at more) ≡ kinds t (map kind_of more)
same_kinds (name w) at more = refl
same_kinds (digits d) at more = refl
same_kinds (list w t) at more = ap (λ ks. k.Name ∷ k.OpenTemplate ∷ ks) (same_kinds t _ _)
same_kinds (parts a b) at more = same_kinds a _ _ ∙ ap (λ ks. kinds a (k.Comma ∷ ks)) (same_kinds b _ _)
