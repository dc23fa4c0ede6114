-- Scopes, and the indices of names.
use Rattle.wgsl_typing.proofs.Common.{ℕ, List, [], ◌∷◌, Bool, true, false, Option, Some, None, cond, ◌≡◌, ◌≤◌, ◌<◌, length, drop, refl, sym, ap, ◌∙◌, arith}
use Rattle.wgsl_typing.proofs.Common.{⊎_elim, is_some, le-leb, nat_le, bytes_eq, nat_cmp, ∥∥₁_elim, get_by, slice_cmp, Local, Block, in_block, names_of, start}
use Rattle.wgsl_typing.proofs.Common.{AreNested, named, is_here, with_name, closed, since, before, cut, locals_of, starts_of, scope_view}
use Rattle.std.proofs.Props.{props}
use Rattle.std.proofs.lemmas.Bool.{cases_lt, lt-leb}
use Rattle.std.specs.Coded.{×_prop, Unit-prop, le_prop}
use Rattle.std.specs.Option.{option_or}
use Rattle.wgsl_typing.specs.declared.scope.Locals.{Locals}

-- `named`

or_none : (o : Option ℕ) → option_or o None ≡ o
or_none None = refl
or_none (Some i) = refl

or_at : (b : Bool) (i : ℕ) (x y z : Option ℕ) → option_or x y ≡ z → option_or (cond b (Some i) x) y ≡ cond b (Some i) z
or_at true i x y z e = refl
or_at false i x y z e = e

in_parts : (name : List ℕ) (first : ℕ) (names : Block) → option_or (in_block name (since first names)) (in_block name (before first names)) ≡ in_block name names
in_parts name first [] = refl
in_parts name first (entry ∷ names) =
    elim (nat_le first entry.1) as (λ b. option_or (in_block name (cond b (entry ∷ since first names) [])) (in_block name (cond b (before first names) (entry ∷ names))) ≡ in_block name (entry ∷ names)) [
      | true ↦ or_at (bytes_eq entry.0 name) entry.1 (in_block name (since first names)) (in_block name (before first names)) (in_block name names) (in_parts name first names)
      | false ↦ refl
    ]

named_cut : (name : List ℕ) (starts : List ℕ) (names : Block) → named name (cut starts names) ≡ in_block name names
named_cut name [] names = or_none (in_block name names)
named_cut name (first ∷ starts) names =
    ap (option_or (in_block name (since first names))) (named_cut name starts (before first names)) ∙ in_parts name first names

-- where a block begins

above : (first : ℕ) (locals : List Local) → length locals ≤ first → (since first (names_of locals) ≡ []) × (before first (names_of locals) ≡ names_of locals)
above first [] h = (refl, refl)
above first (local ∷ locals) h = let lt : length locals < first = omega arith in rw (lt-leb first (length locals) lt) (refl, refl)

all_since : (names : Block) → since 0 names ≡ names
all_since [] = refl
all_since (entry ∷ names) = rw (le-leb 0 entry.1 (omega arith)) (ap (λ rest. entry ∷ rest) (all_since names))

none_before : (names : Block) → before 0 names ≡ []
none_before [] = refl
none_before (entry ∷ names) = rw (le-leb 0 entry.1 (omega arith)) (none_before names)

-- `opened`, `with_name`, `closed`

pub cut_opened : (first : ℕ) (starts : List ℕ) (locals : List Local) → length locals ≤ first → cut (first ∷ starts) (names_of locals) ≡ [] ∷ cut starts (names_of locals)
cut_opened first starts locals h = rw ((above first locals h).0, (above first locals h).1)

pub cut_declared : (starts : List ℕ) (name : List ℕ) (locals : List Local) → AreNested (length locals) starts →
    cut starts ((name, length locals) ∷ names_of locals) ≡ with_name name (length locals) (cut starts (names_of locals))
cut_declared [] name locals nested = refl
cut_declared (first ∷ starts) name locals nested = rw (le-leb first (length locals) nested.0)

pub cut_closed : (starts : List ℕ) (names : Block) → closed (cut starts names) ≡ cut (drop 1 starts) (before (start starts) names)
cut_closed [] names = rw (none_before names)
cut_closed (first ∷ []) names = refl
cut_closed (first ∷ (outer ∷ starts)) names = refl

-- `is_here`

abbrev pub is_from : ℕ → Option ℕ → Bool
is_from first None = false
is_from first (Some index) = nat_le first index

none_from : (name : List ℕ) (first : ℕ) (locals : List Local) → length locals ≤ first → is_from first (in_block name (names_of locals)) ≡ false
none_from name first [] h = refl
none_from name first (local ∷ locals) h =
    elim (bytes_eq local.name.now name) as (λ b. is_from first (cond b (Some (length locals)) (in_block name (names_of locals))) ≡ false) [
      | true ↦ lt-leb first (length locals) (omega arith)
      | false ↦ none_from name first locals (omega arith)
    ]

some_from : (name : List ℕ) (first : ℕ) (locals : List Local) → is_some (in_block name (since first (names_of locals))) ≡ is_from first (in_block name (names_of locals))
some_from name first [] = refl
some_from name first (local ∷ locals) = ⊎_elim
    (λ lt. rw (lt-leb first (length locals) lt) (sym (none_from name first (local ∷ locals) (omega arith))))
    (λ le. rw (le-leb first (length locals) le)
    (elim (bytes_eq local.name.now name) as (λ b. is_some (cond b (Some (length locals)) (in_block name (since first (names_of locals)))) ≡ is_from first (cond b (Some (length locals)) (in_block name (names_of locals)))) [
      | true ↦ sym (le-leb first (length locals) le)
      | false ↦ some_from name first locals
    ]))
    (cases_lt (length locals) first)

pub here_cut : (name : List ℕ) (starts : List ℕ) (locals : List Local) → is_here name (cut starts (names_of locals)) ≡ is_from (start starts) (named name (cut starts (names_of locals)))
here_cut name [] locals = rw (named_cut name [] (names_of locals)) (ap (λ names. is_some (in_block name names)) (sym (all_since (names_of locals))) ∙ some_from name 0 locals)
here_cut name (first ∷ starts) locals = rw (named_cut name (first ∷ starts) (names_of locals)) (some_from name first locals)

-- what functions answer

pub named_view : (name : List ℕ) (locals : Locals) → named name (scope_view locals) ≡ get_by (λ key. slice_cmp nat_cmp name key.now) locals.innermost
named_view name locals = named_cut name (starts_of locals) (names_of (locals_of locals)) ∙ ∥∥₁_elim locals.indexed (search props) (λ is. sym (is.index.found name))

pub view_closed : (old : Locals) (locals : List Local) (starts : List ℕ) → starts ≡ drop 1 (starts_of old) → before (start (starts_of old)) (names_of locals) ≡ before (start (starts_of old)) (names_of (locals_of old)) →
    length locals ≤ start (starts_of old) → cut starts (names_of locals) ≡ closed (scope_view old)
view_closed old locals starts left kept end =
    rw left (ap (cut (drop 1 (starts_of old))) (sym (above (start (starts_of old)) locals end).1 ∙ kept) ∙ sym (cut_closed (starts_of old) (names_of (locals_of old))))

nested-prop : (end : ℕ) (starts : List ℕ) → IsProp (AreNested end starts)
nested-prop end [] = Unit-prop
nested-prop end (first ∷ starts) = ×_prop le_prop (nested-prop first starts)

pub are_nested : (locals : Locals) → AreNested (length (locals_of locals)) (starts_of locals)
are_nested locals = ∥∥₁_elim locals.indexed (nested-prop (length (locals_of locals)) (starts_of locals)) (λ is. is.nested)
