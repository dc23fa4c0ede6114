-- The template lists in the tokens of a tree.
use Rattle.std.proofs.Common.{◌≡◌, ◌+◌, ◌++◌, ℕ, suc, Bool, true, false, List, [], ◌∷◌, decimal, length, refl, ap, ◌∙◌, append_assoc}
use Rattle.wgsl_reader.proofs.Passed.{step_passes}
use Rattle.wgsl_spelling.proofs.Common.{Search, begun, found_from, of_kind, opened_behind, with_lists, Token}
use Rattle.wgsl_reader.specs.declared.kind.Kind.TheVariants as k
use Rattle.wgsl_spelling.proofs.Trees.{Tree, digits, list, name, parts, past, token, tokens}

-- what is open is that of another state
abbrev search : List Token → Bool → Search → Search
search tokens is_named s = record { tokens = tokens; is_named = is_named; opened = s.opened }

-- a `<` more is open
abbrev deeper : ℕ → Search → Search
deeper index s = record { tokens = []; is_named = false; opened = opened_behind k.Less true index s.opened }

-- the tokens with lists, in front of others
abbrev pub listed : Tree → ℕ → List Token → List Token
listed t at more = tokens k.OpenTemplate k.CloseTemplate t at more

-- more tokens stand behind
more_behind : (t : Tree) (at : ℕ) (more others : List Token) → listed t at more ++ others ≡ listed t at (more ++ others)
more_behind (name w) at more others = refl
more_behind (digits n) at more others = refl
more_behind (list w t) at more others = ap (λ ts. token k.Name at (length w) ∷ token k.OpenTemplate (at + length w) 1 ∷ ts) (more_behind t (suc (at + length w)) _ others)
more_behind (parts a b) at more others = more_behind a at _ others ∙ ap (λ ts. listed a at (token k.Comma (past a at) 1 ∷ ts)) (more_behind b (suc (suc (past a at))) more others)

begun_at : (before : List Token) (t : Token) (more : List Token) → begun (length before) (before ++ t ∷ more) ≡ before ++ of_kind (k.OpenTemplate, 0) t ∷ more
begun_at [] t more = refl
begun_at (b ∷ bs) t more = ap (λ ts. b ∷ ts) (begun_at bs t more)

-- a list that is read: the `<` behind these tokens begins it
closes : (before inner : List Token) (at len : ℕ) (last : Token) →
    begun (length (before ++ token k.Name at len ∷ [])) ((before ++ token k.Name at len ∷ []) ++ (token k.Less (at + len) 1 ∷ inner)) ++ last ∷ []
    ≡ before ++ (token k.Name at len ∷ token k.OpenTemplate (at + len) 1 ∷ (inner ++ last ∷ []))
closes before inner at len last =
    ap (λ ts. ts ++ last ∷ []) (begun_at (before ++ token k.Name at len ∷ []) (token k.Less (at + len) 1) inner)
    ∙ (append_assoc (before ++ token k.Name at len ∷ []) (token k.OpenTemplate (at + len) 1 ∷ inner) (last ∷ [])
    ∙ append_assoc before (token k.Name at len ∷ []) (token k.OpenTemplate (at + len) 1 ∷ (inner ++ last ∷ [])))

-- the tokens of a tree are passed, and nothing else is open behind them
abbrev Passes : Tree → ℕ → Type 0
Passes t at = (before : List Token) (is_named : Bool) (s : Search) (more : List Token) →
    (after : Bool) × (found_from 0 (search before is_named s) (tokens k.Less k.Greater t at more) ≡ found_from 0 (search (before ++ listed t at []) after s) more)

at_end : (before : List Token) (x : Token) (inner : List Token) → (before ++ x ∷ []) ++ inner ≡ before ++ x ∷ inner
at_end before x inner = append_assoc before (x ∷ []) inner

-- the whole list, from the tokens inside
closed : (before inner all found : List Token) (at len : ℕ) (last : Token) → found ≡ (before ++ token k.Name at len ∷ []) ++ (token k.Less (at + len) 1 ∷ inner) → inner ++ last ∷ [] ≡ all
    → begun (length (before ++ token k.Name at len ∷ [])) found ++ last ∷ [] ≡ before ++ (token k.Name at len ∷ token k.OpenTemplate (at + len) 1 ∷ all)
closed before inner all found at len last is rest =
    ap (λ ts. begun (length (before ++ token k.Name at len ∷ [])) ts ++ last ∷ []) is
    ∙ (closes before inner at len last ∙ ap (λ ts. before ++ (token k.Name at len ∷ token k.OpenTemplate (at + len) 1 ∷ ts)) rest)

name_passed : (before : List Token) (is_named : Bool) (s : Search) (at len : ℕ) (more : List Token) →
    found_from 0 (search before is_named s) (token k.Name at len ∷ more) ≡ found_from 0 (search (before ++ token k.Name at len ∷ []) true s) more
name_passed before is_named s at len more = ap (λ next. found_from next.1 next.0 more) (step_passes (search before is_named s) (token k.Name at len) more refl)

number_passed : (before : List Token) (is_named : Bool) (s : Search) (at len : ℕ) (more : List Token) →
    found_from 0 (search before is_named s) (token k.Number at len ∷ more) ≡ found_from 0 (search (before ++ token k.Number at len ∷ []) false s) more
number_passed before is_named s at len more = ap (λ next. found_from next.1 next.0 more) (step_passes (search before is_named s) (token k.Number at len) more refl)

comma_passed : (before : List Token) (is_named : Bool) (s : Search) (at : ℕ) (more : List Token) →
    found_from 0 (search before is_named s) (token k.Comma at 1 ∷ more) ≡ found_from 0 (search (before ++ token k.Comma at 1 ∷ []) false s) more
comma_passed before is_named s at more = ap (λ next. found_from next.1 next.0 more) (step_passes (search before is_named s) (token k.Comma at 1) more refl)

less_passed : (before : List Token) (s : Search) (at : ℕ) (more : List Token) →
    found_from 0 (search before true s) (token k.Less at 1 ∷ more) ≡ found_from 0 (search (before ++ token k.Less at 1 ∷ []) false (deeper (length before) s)) more
less_passed before s at more = ap (λ next. found_from next.1 next.0 more) (step_passes (search before true s) (token k.Less at 1) more refl)

-- a name and the `<` behind it
begins : (before : List Token) (is_named : Bool) (s : Search) (at len : ℕ) (more : List Token) →
    found_from 0 (search before is_named s) (token k.Name at len ∷ token k.Less (at + len) 1 ∷ more)
    ≡ found_from 0 (search ((before ++ token k.Name at len ∷ []) ++ token k.Less (at + len) 1 ∷ []) false (deeper (length (before ++ token k.Name at len ∷ [])) s)) more
begins before is_named s at len more =
    name_passed before is_named s at len (token k.Less (at + len) 1 ∷ more) ∙ less_passed (before ++ token k.Name at len ∷ []) s (at + len) more

pub passes : (t : Tree) (at : ℕ) → Passes t at
passes (name w) at before is_named s more = (true, name_passed before is_named s at (length w) more)
passes (digits n) at before is_named s more = (false, number_passed before is_named s at (length (decimal n)) more)
passes (list w t) at before is_named s more =
    let from = suc (at + length w) in
    let named = before ++ token k.Name at (length w) ∷ [] in
    let angle = token k.Less (at + length w) 1 in
    let last = token k.CloseTemplate (past t from) 1 in
    let inside = passes t from (named ++ angle ∷ []) false (deeper (length named) s) (token k.Greater (past t from) 1 ∷ more) in
    let all = closed before (listed t from []) (listed t from (last ∷ [])) ((named ++ angle ∷ []) ++ listed t from []) at (length w) last
    (at_end named angle (listed t from [])) (more_behind t from [] (last ∷ [])) in
    (false, begins before is_named s at (length w) _ ∙ (inside.1 ∙ ap (λ ts. found_from 0 (search ts false s) more) all))
passes (parts a b) at before is_named s more =
    let comma = token k.Comma (past a at) 1 in
    let second = suc (suc (past a at)) in
    let in_a = passes a at before is_named s (comma ∷ tokens k.Less k.Greater b second more) in
    let in_b = passes b second ((before ++ listed a at []) ++ comma ∷ []) false s more in
    let all = at_end (before ++ listed a at []) comma (listed b second [])
    ∙ (append_assoc before (listed a at []) (comma ∷ listed b second []) ∙ ap (λ ts. before ++ ts) (more_behind a at [] (comma ∷ listed b second []))) in
    (in_b.0, in_a.1 ∙ (comma_passed (before ++ listed a at []) in_a.0 s (past a at) (tokens k.Less k.Greater b second more) ∙ (in_b.1 ∙ ap (λ ts. found_from 0 (search ts in_b.0 s) more) all)))

pub all_listed : (t : Tree) (at : ℕ) → with_lists (tokens k.Less k.Greater t at []) ≡ listed t at []
all_listed t at = (passes t at [] false (record { tokens = []; is_named = false; opened = [] }) []).1
