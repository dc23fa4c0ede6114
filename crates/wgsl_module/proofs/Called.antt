-- What events call, one by one, and by which names.
use Rattle.std.proofs.Common.{◌≡◌, ◌∙◌, ◌+◌, ◌<◌, ℕ, zero, suc, List, [], ◌∷◌, Option, Some, None, ap, ap₂, arith, cond, drop, get_or, length, map, option_map, refl, slice_get, subst, sym}
use Rattle.std.proofs.Common.{drop-cons}
use Rattle.std.proofs.lemmas.Option.{slice_get-map}
use Rattle.std.specs.List.{cons_option}
use Rattle.wgsl_module.specs.Called.{called_at, called_by, called_from, called_in, opens_call}
use Rattle.wgsl_module.specs.Declarations.{Written, written}
use Rattle.wgsl_module.specs.Named.{Naming, first_called, naming}
use Rattle.wgsl_module.specs.Order.{HaveNames, leads_of}
use Rattle.wgsl_module.specs.declared.checker.Checker.{Checker}
use Rattle.wgsl_module.specs.declared.walk.Link.TheVariants as links
use Rattle.wgsl_typing.specs.StructNames.{index_of}
use Rattle.wgsl_typing.specs.Words.{word_at}
use Rattle.wgsl_reader.specs.declared.mark.Mark.{Mark}
use Rattle.wgsl_reader.specs.declared.mark.Mark.TheVariants as m
use Rattle.wgsl_reader.specs.declared.read.Event.{Event}
use Rattle.wgsl_reader.specs.declared.token.Token.{Token}

-- One event

next_in : (events : List Event) (i : ℕ) → slice_get (drop (suc i) events) 0 ≡ slice_get events (suc i)
next_in [] i = refl
next_in (e ∷ []) zero = refl
next_in (e ∷ (f ∷ events)) zero = refl
next_in (e ∷ events) (suc i) = next_in events i

pub by_event : (n : Naming) (events : List Event) (i : ℕ) (d : Event) → i < length events
    → called_in n (drop i events) ≡ cons_option (called_at n (get_or events i d).mark (get_or events i d).at (slice_get events (i + 1))) (called_in n (drop (i + 1) events))
by_event n events i d inside =
    let next : suc i ≡ i + 1 = omega arith in
    subst (λ k. called_in n (drop i events) ≡ cons_option (called_at n (get_or events i d).mark (get_or events i d).at (slice_get events k)) (called_in n (drop k events))) next
    (ap (called_in n) (drop-cons events i d inside)
    ∙ ap (λ o. cons_option (called_at n (get_or events i d).mark (get_or events i d).at o) (called_in n (drop (suc i) events))) (next_in events i))

-- Names that stand for the same

module _ (text : List ℕ) (tokens : List Token) (f g : List ℕ → Option ℕ) (same : (name : List ℕ) → f name ≡ g name) where
  abbrev from : Naming
  from = record { text = text; tokens = tokens; declared = f }

  abbrev to : Naming
  to = record { text = text; tokens = tokens; declared = g }

  same_at : (mark : Mark) (count : ℕ) (next : Option Event) → called_at from mark count next ≡ called_at to mark count next
  same_at m.Name count next = ap (λ o. cond (opens_call tokens next) o None) (same (word_at text tokens count))
  same_at other count next = refl

  same_in : (events : List Event) → called_in from events ≡ called_in to events
  same_in [] = refl
  same_in (e ∷ events) = ap₂ cons_option (same_at e.mark e.at (slice_get events 0)) (same_in events)

  pub same_from : (o : Option Written) (at : ℕ) → called_from from o at ≡ called_from to o at
  same_from None at = refl
  same_from (Some d) at = same_in (drop at d.body)

-- A name stands for the first declaration that has it.
pub all_called : (c : Checker) → HaveNames c (map written c.declarations.items)
    → (i : ℕ) → leads_of c links.Call i ≡ called_by c.expressions.text.now c.expressions.tokens.now (map written c.declarations.items) i
all_called c names i = same_from c.expressions.text.now c.expressions.tokens.now (λ name. index_of name c.expressions.names)
    (first_called c.expressions.text.now c.expressions.tokens.now (map written c.declarations.items)) names (option_map written (slice_get c.declarations.items i)) 0
    ∙ ap (λ o. called_from (naming c.expressions.text.now c.expressions.tokens.now (map written c.declarations.items)) o 0) (sym (slice_get-map written c.declarations.items i))
