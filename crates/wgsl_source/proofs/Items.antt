-- The names among items, while the events of a template list are read.
use Rattle.std.proofs.Common.{◌≡◌, ℕ, List, [], ◌∷◌, ◌++◌, Bool, true, false, IfOk, Result, Ok, Err, Option, Some, None, option_map, ap, refl, subst, sym, ◌∙◌, append_assoc, append-nil}
use Rattle.wgsl_source.specs.Qualifiers.{IsFree}
use Rattle.wgsl_source.proofs.Common.{All-cons, All-nil, Event, word, token_before, AreSaid, Say, a_space, both, names_only, with_name, Text}
use Rattle.wgsl_reader.specs.declared.mark.Mark.{Mark}
use Rattle.wgsl_reader.specs.declared.mark.Mark.TheVariants as m
use Rattle.wgsl_reader.specs.declared.token.Token.{Token}
use Rattle.wgsl_syntax.specs.declared.address.AccessMode.{AccessMode}
use Rattle.wgsl_syntax.specs.declared.address.AddressSpace.{AddressSpace}
use Rattle.wgsl_source.specs.TemplateLists.{IsListedAs}
use Rattle.wgsl_source.specs.WrittenTypes.{BecomesValue, Environment, IsBinary, IsElementOf, IsMemberOf, IsSettled, IsUnary, IsValueCalled, Step, Steps, item}
use Rattle.wgsl_source.specs.declared.scope.Meaning.{Meaning}
use Rattle.wgsl_source.specs.declared.value.Value.{Value}
use Rattle.wgsl_source.specs.internal.Items.{HasAccess, NamesSpace, item_names, with_content}
use Rattle.wgsl_source.specs.declared.item.Content.{Content}
use Rattle.wgsl_source.specs.declared.item.Content.TheVariants as content
use Rattle.wgsl_source.specs.declared.item.Item.{Item}

abbrev is_name : Content → Bool
is_name content.Name = true
is_name other = false

abbrev with_last : Token → Option (List Token) → Option (List Token)
with_last token names = option_map (λ ts. ts ++ token ∷ []) names

-- the names behind an event
abbrev behind_event : Mark → Token → Option (List Token) → Option (List Token)
behind_event m.Name token names = with_last token names
behind_event m.Value token names = names
behind_event other token names = None

-- the names behind all events
abbrev behind_events : Text → List Event → Option (List Token) → Option (List Token)
behind_events t [] names = names
behind_events t (event ∷ events) names = behind_events t events (behind_event event.mark (token_before t event.at) names)

-- an item is added

last_behind : (c : Content) (a b : Token) (names : Option (List Token)) → with_content c a (with_last b names) ≡ with_last b (with_content c a names)
last_behind content.Name a b (Some ts) = refl
last_behind content.Name a b None = refl
last_behind other a b names = refl

name_pushed : (items : List Item) (i : Item) → i.content ≡ content.Name → item_names (items ++ i ∷ []) ≡ with_last i.token (item_names items)
name_pushed [] i is = ap (λ c. with_content c i.token (Some [])) is
name_pushed (x ∷ items) i is = ap (with_content x.content x.token) (name_pushed items i is) ∙ last_behind x.content x.token i.token (item_names items)

none_behind : (c : Content) (a : Token) → with_content c a None ≡ None
none_behind content.Name a = refl
none_behind other a = refl

no_name : (c : Content) (a : Token) (names : Option (List Token)) → is_name c ≡ false → with_content c a names ≡ None
no_name content.Name a names isnt = cc
no_name other a names isnt = refl

other_pushed : (items : List Item) (i : Item) → is_name i.content ≡ false → item_names (items ++ i ∷ []) ≡ None
other_pushed [] i isnt = no_name i.content i.token (Some []) isnt
other_pushed (x ∷ items) i isnt = ap (with_content x.content x.token) (other_pushed items i isnt) ∙ none_behind x.content x.token

-- all events are read

module _ (t : Text) where
  none_left : (events : List Event) → behind_events t events None ≡ None
  none_left [] = refl
  none_left (event ∷ events) = ap (behind_events t events) (nothing event.mark (token_before t event.at)) ∙ none_left events
    where
      nothing : (mark : Mark) (token : Token) → behind_event mark token None ≡ None
      nothing m.Name token = refl
      nothing m.Value token = refl
      nothing other token = refl

  one_name_more : (us : List Token) (token : Token) (names : Option (List Token)) → option_map (λ ts. (us ++ token ∷ []) ++ ts) names ≡ option_map (λ ts. us ++ ts) (option_map (λ ts. token ∷ ts) names)
  one_name_more us token (Some ts) = ap Some (append_assoc us (token ∷ []) ts)
  one_name_more us token None = refl

  by_mark : (events : List Event) → ((vs : List Token) → behind_events t events (Some vs) ≡ option_map (λ ts. vs ++ ts) (names_only t events)) → (us : List Token) (mark : Mark) (token : Token)
      → behind_events t events (behind_event mark token (Some us)) ≡ option_map (λ ts. us ++ ts) (with_name mark token (names_only t events))
  by_mark events all us m.Name token = all (us ++ token ∷ []) ∙ one_name_more us token (names_only t events)
  by_mark events all us m.Value token = all us
  by_mark events all us mark token = none_left events

  names_behind : (events : List Event) (us : List Token) → behind_events t events (Some us) ≡ option_map (λ ts. us ++ ts) (names_only t events)
  names_behind [] us = ap Some (sym (append-nil us))
  names_behind (event ∷ events) us = by_mark events (names_behind events) us event.mark (token_before t event.at)

  only_names : (names : Option (List Token)) → option_map (λ (ts : List Token). [] ++ ts) names ≡ names
  only_names (Some ts) = refl
  only_names None = refl

  -- what steps do to names

  listed_no_name : (e : Environment) (name : List ℕ) (items : List Item) (c : Content) → IsListedAs t e name items c → is_name c ≡ false
  listed_no_name e name [] content.Name h = absurd h
  listed_no_name e name (i ∷ items) content.Name h = absurd h
  listed_no_name e name items other h = refl

  called_no_name : (e : Environment) (name : Item) (items : List Item) (c : Content) → IsValueCalled t e.named name items c → is_name c ≡ false
  called_no_name e name items content.Name h = absurd h
  called_no_name e name items other h = refl

  value_no_name : (Is : List Item → Value → Type 0) (items new : List Item) → BecomesValue Is items new → item_names new ≡ None
  value_no_name Is items new h = ap item_names h.replaced ∙ other_pushed h.front (item h.token (content.Value h.value)) refl

  step_names : (e : Environment) (mark : Mark) (token : Token) (items new : List Item) → Step t e mark token items new → item_names new ≡ behind_event mark token (item_names items)
  step_names e m.Name token items new h = ap item_names h ∙ name_pushed items (item token content.Name) refl
  step_names e m.Value token items new h = ap item_names h
  step_names e m.Literal token items new h = ap item_names h.2 ∙ other_pushed items (item token (content.Value h.0)) refl
  step_names e m.Template token items new h =
      ap item_names h.replaced ∙ other_pushed h.front (item h.name.token h.content) (listed_no_name e (word t.text.now h.name.token) h.listed h.content h.is.1)
  step_names e m.Call token items new h = ap item_names h.replaced ∙ other_pushed h.front (item h.name.token h.content) (called_no_name e h.name h.listed h.content h.is)
  step_names e m.OpenTemplate token items new h = ap item_names h ∙ other_pushed items (item token (content.Sign token.kind)) refl
  step_names e m.Operator token items new h = ap item_names h ∙ other_pushed items (item token (content.Sign token.kind)) refl
  step_names e m.Open token items new h = ap item_names h ∙ other_pushed items (item token (content.Sign token.kind)) refl
  step_names e m.OpenElement token items new h = ap item_names h ∙ other_pushed items (item token (content.Sign token.kind)) refl
  step_names e m.Argument token items new h = value_no_name (IsSettled t e.named) items new h
  step_names e m.Brackets token items new h = value_no_name (IsSettled t e.named) items new h
  step_names e m.Unary token items new h = value_no_name (IsUnary t e.named) items new h
  step_names e m.Binary token items new h = value_no_name (IsBinary t e.named) items new h
  step_names e m.MemberOf token items new h = value_no_name (IsMemberOf t e.named token) items new h
  step_names e m.Element token items new h = value_no_name (IsElementOf t e.named) items new h
  step_names e other token items new h = absurd h

  all_behind : (e : Environment) (events : List Event) (items new : List Item) → Steps t e events items new → item_names new ≡ behind_events t events (item_names items)
  all_behind e [] items new h = ap item_names h
  all_behind e (event ∷ events) items new h = all_behind e events h.0 new h.2 ∙ ap (behind_events t events) (step_names e event.mark (token_before t event.at) items h.0 h.1)

  pub all_names : (e : Environment) (events : List Event) (old new : List Item) → old ≡ [] → Steps t e events old new → item_names new ≡ names_only t events
  all_names e events old new none steps =
      all_behind e events old new steps ∙ (ap (λ items. behind_events t events (item_names items)) none ∙ (names_behind events [] ∙ only_names (names_only t events)))

-- an address space and an access mode are said

name_of : (i : Item) (items : List Item) (names : List Token) → i.content ≡ content.Name → item_names items ≡ Some names → item_names (i ∷ items) ≡ Some (i.token ∷ names)
name_of i items names is rest = ap (λ c. with_content c i.token (item_names items)) is ∙ ap (with_content content.Name i.token) rest

pub space_said : (t : Text) (meant : List ℕ → Option Meaning) (first : Item) (rest : List Item) (space : AddressSpace) (access : AccessMode) → NamesSpace t meant first space
    → HasAccess t meant space rest access → AreSaid t meant (item_names (first ∷ rest)) space access
space_said t meant first [] space access named is = record {
  tokens = first.token ∷ [];
  there = name_of first [] [] named.name refl;
  undeclared = All-cons (IsFree t meant) first.token [] named.undeclared (All-nil (IsFree t meant));
  say = subst (λ a. Say (word t.text.now first.token ∷ []) space a) (sym is) (a_space named.text);
}
space_said t meant first (item ∷ []) space access named h = record {
  tokens = first.token ∷ item.token ∷ [];
  there = name_of first (item ∷ []) (item.token ∷ []) named.name (name_of item [] [] h.0.name refl);
  undeclared =
      All-cons (IsFree t meant) first.token (item.token ∷ []) named.undeclared (All-cons (IsFree t meant) item.token [] h.0.undeclared (All-nil (IsFree t meant)));
  say = subst (λ text. Say (word t.text.now first.token ∷ text ∷ []) space access) (sym h.0.text) (both named.text h.1);
}
space_said t meant first (a ∷ b ∷ more) space access named h = absurd h

pub both_ok : {A E : Type 0} (P Q : A → Type 0) (r : Result A E) → IfOk r P → IfOk r Q → IfOk r (λ a. P a × Q a)
both_ok P Q (Ok a) p q = (p, q)
both_ok P Q (Err e) p q = tt

pub ok_weaker : {A E : Type 0} (P Q : A → Type 0) (r : Result A E) → ((a : A) → P a → Q a) → IfOk r P → IfOk r Q
ok_weaker P Q (Ok a) all p = all a p
ok_weaker P Q (Err e) all p = tt
