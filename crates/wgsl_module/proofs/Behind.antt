-- Orders by other names, and those with one declaration fewer.
use Rattle.std.proofs.Common.{◌≡◌, ◌∙◌, ◌<◌, ◌⊎◌, ℕ, zero, suc, List, [], ◌∷◌, ◌++◌, Contains, Option, Some, None, ap, arith, drop, false, inl, inr, length, map, option_map, refl, slice_get, subst, sym}
use Rattle.std.proofs.lemmas.Option.{slice_get-map}
use Rattle.wgsl_module.specs.Declarations.{Written, written}
use Rattle.wgsl_module.specs.Named.{Naming, first_called, named_by, named_from, naming}
use Rattle.wgsl_module.specs.States.{state}
use Rattle.wgsl_typing.specs.Names.{Context}
use Rattle.wgsl_module.specs.Order.{HaveNames, IsBehind, IsInTurn, LeadsTo, itself, leads_of, through}
use Rattle.wgsl_module.specs.declared.checker.Checker.{Checker}
use Rattle.wgsl_module.specs.declared.walk.Link.TheVariants as links
use Rattle.wgsl_typing.specs.StructNames.{index_of}
use Rattle.wgsl_module.proofs.Named.{Finds, called_after, called_before, called_inside, named_each, named_too, same_named}
use Rattle.wgsl_reader.specs.declared.token.Token.{Token}

-- The same ways

same_way : (f g : ℕ → List ℕ) {a b : ℕ} → ((i : ℕ) → f i ≡ g i) → LeadsTo f a b → LeadsTo g a b
same_way f g same (itself i) = itself i
same_way f g same (through i next o first rest) = through i next o (subst (λ xs. Contains xs next) (same i) first) (same_way f g same rest)

pub same_behind : (f g : ℕ → List ℕ) (cycles order : List ℕ) → ((i : ℕ) → f i ≡ g i) → IsBehind f cycles order → IsBehind g cycles order
same_behind f g cycles order same behind front index rest is other stands h =
    elim (behind front index rest is other stands (subst (λ xs. Contains xs other) (sym (same index)) h)) [
      | inl in_it ↦ inl in_it
      | inr way ↦ inr (way.0, same_way f g same way.1)
    ]

pub same_in_turn : (f g : ℕ → List ℕ) (from to : ℕ) (order : List ℕ) → ((i : ℕ) → f i ≡ g i) → IsInTurn f from to order → IsInTurn g from to order
same_in_turn f g from to order same turn front index rest is inside =
    let reached = turn front index rest is inside in (reached.0, same_way f g same reached.1, reached.2)

same_from : (text : List ℕ) (tokens : List Token) (f g : List ℕ → Option ℕ) → ((name : List ℕ) → f name ≡ g name) → (o : Option Written) (at : ℕ)
    → named_from (record { text = text; tokens = tokens; declared = f }) o at ≡ named_from (record { text = text; tokens = tokens; declared = g }) o at
same_from text tokens f g same None at = refl
same_from text tokens f g same (Some d) at = same_named text tokens f g same d.named false (drop at d.events)

-- A name stands for the first declaration that has it.
pub all_named : (c : Checker) → HaveNames c (map written c.declarations.items)
    → (i : ℕ) → leads_of c links.Name i ≡ named_by (state c).stack.context (map written c.declarations.items) i
all_named c names i = same_from c.expressions.text.now c.expressions.tokens.now (λ name. index_of name c.expressions.names)
    (first_called c.expressions.text.now c.expressions.tokens.now (map written c.declarations.items)) names (option_map written (slice_get c.declarations.items i)) 0
    ∙ ap (λ o. named_from (naming c.expressions.text.now c.expressions.tokens.now (map written c.declarations.items)) o 0) (sym (slice_get-map written c.declarations.items i))

-- One declaration fewer

no_element : (k : ℕ) → Contains [] k → ⊥
no_element k h = let lt : h.0 < 0 = h.1 in omega (arith, lt)

at_before : (ws : List Written) (x : Written) (i : ℕ) → i < length ws → slice_get (ws ++ x ∷ []) i ≡ slice_get ws i
at_before [] x i inside = absurd (omega (arith, inside))
at_before (w ∷ ws) x zero inside = refl
at_before (w ∷ ws) x (suc i) inside = at_before ws x i (omega (arith, inside))

at_last : (ws : List Written) (x : Written) → slice_get (ws ++ x ∷ []) (length ws) ≡ Some x
at_last [] x = refl
at_last (w ∷ ws) x = at_last ws x

names_inside : (n : Naming) (ws : List Written) (i k : ℕ) → Contains (named_from n (slice_get ws i) 0) k → i < length ws
names_inside n [] i k h = absurd (no_element k h)
names_inside n (w ∷ ws) zero k h = omega arith
names_inside n (w ∷ ws) (suc i) k h = let rest = names_inside n ws i k h in omega (arith, rest)

from_too : (text : List ℕ) (tokens : List Token) (f g : List ℕ → Option ℕ) (P : ℕ → Type 0) → Finds f g P → (o : Option Written) (at k : ℕ)
    → Contains (named_from (record { text = text; tokens = tokens; declared = f }) o at) k
    → Contains (named_from (record { text = text; tokens = tokens; declared = g }) o at) k ⊎ P k
from_too text tokens f g P finds None at k h = inl h
from_too text tokens f g P finds (Some d) at k h = named_too text tokens f g P finds d.named false (drop at d.events) k h

named_inside : (c : Context) (ws : List Written) (o : Option Written) (k : ℕ) → Contains (named_from (naming c.text c.tokens ws) o 0) k → k < length ws
named_inside c ws None k h = absurd (no_element k h)
named_inside c ws (Some d) k h = named_each c.text c.tokens (first_called c.text c.tokens ws) (λ i. i < length ws) (called_inside c.text c.tokens ws) d.named false (drop 0 d.events) k h

more_named : (c : Context) (ws : List Written) (x : Written) (i k : ℕ) → Contains (named_by c ws i) k → Contains (named_by c (ws ++ x ∷ []) i) k
more_named c ws x i k h =
    elim (from_too c.text c.tokens (first_called c.text c.tokens ws) (first_called c.text c.tokens (ws ++ x ∷ [])) (λ j. ⊥)
    (λ name j is. inl (called_after c.text c.tokens ws x name j is)) (slice_get ws i) 0 k h) [
      | inl there ↦ subst (λ o. Contains (named_from (naming c.text c.tokens (ws ++ x ∷ [])) o 0) k)
          (sym (at_before ws x i (names_inside (naming c.text c.tokens ws) ws i k h))) there
      | inr none ↦ absurd none
    ]

fewer_named : (c : Context) (ws : List Written) (x : Written) (i k : ℕ) → i < length ws → Contains (named_by c (ws ++ x ∷ []) i) k
    → Contains (named_by c ws i) k ⊎ (k ≡ length ws)
fewer_named c ws x i k inside h =
    from_too c.text c.tokens (first_called c.text c.tokens (ws ++ x ∷ [])) (first_called c.text c.tokens ws) (λ j. j ≡ length ws) (called_before c.text c.tokens ws x)
    (slice_get ws i) 0 k (subst (λ o. Contains (named_from (naming c.text c.tokens (ws ++ x ∷ [])) o 0) k) (at_before ws x i inside) h)

-- the one that is left out names nothing
nowhere : (c : Context) (ws : List Written) (x : Written) {a b : ℕ} → x.events ≡ [] → LeadsTo (named_by c (ws ++ x ∷ [])) a b → a ≡ length ws → b ≡ length ws
nowhere c ws x none (itself i) last = last
nowhere c ws x none (through i next o first rest) last = absurd (no_element next (subst (λ xs. Contains xs next) is_none first))
  where
    is_none : named_by c (ws ++ x ∷ []) i ≡ []
    is_none = ap (λ k. named_by c (ws ++ x ∷ []) k) last ∙ (ap (λ o. named_from (naming c.text c.tokens (ws ++ x ∷ [])) o 0) (at_last ws x)
        ∙ ap (λ es. named_from (naming c.text c.tokens (ws ++ x ∷ [])) (Some (record { kind = x.kind; named = x.named; events = es; body = x.body })) 0) none)

fewer_way : (c : Context) (ws : List Written) (x : Written) {a b : ℕ} → x.events ≡ [] → LeadsTo (named_by c (ws ++ x ∷ [])) a b → a < length ws → b < length ws
    → LeadsTo (named_by c ws) a b
fewer_way c ws x none (itself i) inside end = itself i
fewer_way c ws x none (through i next o first rest) inside end = elim (fewer_named c ws x i next inside first) [
  | inl there ↦ through i next o there (fewer_way c ws x none rest (named_inside c ws (slice_get ws i) next there) end)
  | inr last ↦ let past = nowhere c ws x none rest last in absurd (omega (arith, past, end))
]

pub fewer_behind : (c : Context) (ws : List Written) (x : Written) (cycles order : List ℕ) → x.events ≡ [] → IsBehind (named_by c (ws ++ x ∷ [])) cycles order
    → IsBehind (named_by c ws) cycles order
fewer_behind c ws x cycles order none behind front index rest is other stands h = elim (behind front index rest is other stands (more_named c ws x index other h)) [
  | inl in_it ↦ inl in_it
  | inr way ↦ inr (way.0, fewer_way c ws x none way.1 (named_inside c ws (slice_get ws index) other h) (names_inside (naming c.text c.tokens ws) ws index other h))
]

in_or_last : (ws : List Written) (x : Written) (i : ℕ) → i < length (ws ++ x ∷ []) → (i < length ws) ⊎ (i ≡ length ws)
in_or_last [] x zero below = inr refl
in_or_last [] x (suc i) below = absurd (omega (arith, below))
in_or_last (w ∷ ws) x zero below = inl (omega arith)
in_or_last (w ∷ ws) x (suc i) below = elim (in_or_last ws x i (omega (arith, below))) [ inl before ↦ inl (omega (arith, before)) | inr last ↦ inr (ap suc last) ]

-- what leads to another one isn't the one that is left out
way_inside : (c : Context) (ws : List Written) (x : Written) {a b : ℕ} → x.events ≡ [] → LeadsTo (named_by c (ws ++ x ∷ [])) a b → b < length ws → a < length ws
way_inside c ws x none (itself i) end = end
way_inside c ws x none (through i next o first rest) end =
    elim (in_or_last ws x i (names_inside (naming c.text c.tokens (ws ++ x ∷ [])) (ws ++ x ∷ []) i next first)) [
      | inl inside ↦ inside
      | inr last ↦ let past = nowhere c ws x none (through i next o first rest) last in absurd (omega (arith, past, end))
    ]

pub fewer_in_turn : (c : Context) (ws : List Written) (x : Written) (order : List ℕ) → x.events ≡ [] → IsInTurn (named_by c (ws ++ x ∷ [])) 0 (length ws) order
    → IsInTurn (named_by c ws) 0 (length ws) order
fewer_in_turn c ws x order none turn front index rest is inside =
    let reached = turn front index rest is inside in
    (reached.0, fewer_way c ws x none reached.1 (way_inside c ws x none reached.1 inside) inside, reached.2)
