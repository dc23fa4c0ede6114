-- Tokens have an outcome by each rule: reading ends.
use Rattle.std.proofs.Common.{◌≡◌, ℕ, ◌+◌, ◌<◌, Bool, true, false, Some, None, Option, Ok, Err, List, [], ◌∷◌, ◌++◌, zero, suc, refl, subst, arith}
use Rattle.wgsl_reader.proofs.Common.{sameb, same_false, same_true, production, Kind, Symbol}
use Rattle.wgsl_reader.specs.contracts.kind.Kind.{the_type as kind_type}
use Rattle.wgsl_reader.specs.Reading.{Outcome, ReadAt, all_read, more_there, next_kind, no_rule, noted, other_token, rule_read, token_read, with_event}
use Rattle.wgsl_reader.specs.declared.grammar.Symbol.TheVariants as s
use Rattle.wgsl_reader.proofs.Weights.{is_empty, lighter, weighs, weight}

abbrev HasOutcome : ℕ → List Kind → List Symbol → Type 0
HasOutcome at kinds symbols = (r : Outcome) × ReadAt symbols at kinds r

at_end : (at : ℕ) (kinds : List Kind) → HasOutcome at kinds []
at_end at [] = (Ok [], all_read at)
at_end at (kind ∷ kinds) = (Err at, more_there at kind kinds)

-- a token, where what is behind it has outcomes
at_token : (at : ℕ) (kinds : List Kind) (kind : Kind) (symbols : List Symbol) → ((next : Kind) (rest : List Kind) → kinds ≡ next ∷ rest → HasOutcome (at + 1) rest symbols)
    → HasOutcome at kinds (s.Token kind ∷ symbols)
at_token at [] kind symbols later = (Err at, other_token tt)
at_token at (next ∷ kinds) kind symbols later = turn (sameb kind_type next kind) refl
  where
    turn : (b : Bool) → sameb kind_type next kind ≡ b → HasOutcome at (next ∷ kinds) (s.Token kind ∷ symbols)
    turn true e = let found = later next kinds refl in (found.0, token_read (same_true kind_type tt next kind e) found.1)
    turn false e = (Err at, other_token (λ same. same_false kind_type next kind e same))

within : (at : ℕ) (kinds : List Kind) → ((next : Kind) (rest : List Kind) → kinds ≡ next ∷ rest → (symbols : List Symbol) → HasOutcome (at + 1) rest symbols)
    → (n : ℕ) (symbols : List Symbol) → weight is_empty weighs symbols < n → HasOutcome at kinds symbols
within at kinds later zero symbols lt = absurd (omega (arith, lt))
within at kinds later (suc n) [] lt = at_end at kinds
within at kinds later (suc n) (s.Token kind ∷ symbols) lt = at_token at kinds kind symbols (λ next rest e. later next rest e symbols)
within at kinds later (suc n) (s.Mark mark ∷ symbols) lt =
    let found = within at kinds later n symbols (omega (arith, lt)) in
    (with_event mark at found.0, noted found.1)
within at kinds later (suc n) (s.Rule rule ∷ symbols) lt = turn (production rule (next_kind kinds)) refl (λ of_rule less. within at kinds later n (of_rule ++ symbols) (omega (arith, lt, less)))
  where
    turn : (o : Option (List Symbol)) → production rule (next_kind kinds) ≡ o
        → ((of_rule : List Symbol) → weight is_empty weighs (of_rule ++ symbols) < weight is_empty weighs (s.Rule rule ∷ symbols) → HasOutcome at kinds (of_rule ++ symbols))
        → HasOutcome at kinds (s.Rule rule ∷ symbols)
    turn None e deeper = (Err at, no_rule e)
    turn (Some of_rule) e deeper = let found = deeper of_rule (lighter rule (next_kind kinds) of_rule symbols e) in (found.0, rule_read e found.1)

pub some_outcome : (symbols : List Symbol) (at : ℕ) (kinds : List Kind) → HasOutcome at kinds symbols
some_outcome symbols at [] = within at [] (λ next rest e. absurd (cc e)) (suc (weight is_empty weighs symbols)) symbols (omega arith)
some_outcome symbols at (kind ∷ kinds) =
    within at (kind ∷ kinds)
    (λ next rest e symbols. let same : kinds ≡ rest = cc e in subst (λ rest. HasOutcome (at + 1) rest symbols) same (some_outcome symbols (at + 1) kinds))
    (suc (weight is_empty weighs symbols)) symbols (omega arith)
