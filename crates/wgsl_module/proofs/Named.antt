-- What events name, one by one, and what more declarations change of it.
use Rattle.std.proofs.Common.{◌≡◌, ◌∙◌, ◌+◌, ◌<◌, ◌≤◌, ◌⊎◌, ℕ, zero, suc, List, [], ◌∷◌, ◌++◌, Bool, true, false, Contains, Option, Some, None, ap, ap₂, arith, bytes_eq, cond, drop, get_or, inl, inr, is_some, length, map, option_map, refl, slice_get, subst, sym, take}
use Rattle.std.proofs.Common.{drop-cons, take_all}
use Rattle.std.specs.List.{cons_option}
use Rattle.std.proofs.lemmas.List.Elements.{Contains-append_left, Contains-append_right, Contains-push}
use Rattle.std.proofs.lemmas.List.{length-map}
use Rattle.std.proofs.lemmas.Slice.Eq.{bytes_eq-Decides}
use Rattle.wgsl_module.specs.Declarations.{Written, written}
use Rattle.wgsl_module.specs.Named.{Naming, are_words, first_called, is_called, is_colon, is_own, named_at, named_in, used}
use Rattle.wgsl_module.specs.States.{KeepsButNames, State, source, state}
use Rattle.wgsl_module.specs.Order.{HaveNames, IsNamed, name_at, unless_called}
use Rattle.wgsl_module.specs.Runs.{as_unread}
use Rattle.wgsl_module.specs.declared.checker.Checker.{Checker}
use Rattle.wgsl_module.specs.declared.declaration.Declaration.{Declaration}
use Rattle.wgsl_typing.specs.declared.expressions.Named.{Named}
use Rattle.wgsl_typing.specs.StructNames.{index_of}
use Rattle.wgsl_typing.specs.Words.{kind_of_any, word_at}
use Rattle.wgsl_typing.proofs.Common.{Bor, Gives, btree_map_updates_str}
use Rattle.wgsl_typing.proofs.Indices.{Index}
use Rattle.wgsl_module.proofs.Order.{in_front}
use Rattle.wgsl_reader.specs.declared.mark.Mark.{Mark}
use Rattle.wgsl_reader.specs.declared.mark.Mark.TheVariants as m
use Rattle.wgsl_reader.specs.declared.read.Event.{Event}
use Rattle.wgsl_reader.specs.declared.token.Token.{Token}

-- One event

next_event : (events : List Event) (i : ℕ) (d : Event) → i < length events → drop i events ≡ get_or events i d ∷ drop (i + 1) events
next_event events i d inside = let next : suc i ≡ i + 1 = omega arith in subst (λ k. drop i events ≡ get_or events i d ∷ drop k events) next (drop-cons events i d inside)

by_event : (n : Naming) (own : Option ℕ) (are : Bool) (events : List Event) (i : ℕ) (d : Event) → i < length events
    → named_in n own are (drop i events) ≡ cons_option (named_at n (get_or events i d).mark own are (get_or events i d).at)
    (named_in n own (are_words (get_or events i d).mark (word_at n.text n.tokens (get_or events i d).at) are) (drop (i + 1) events))
by_event n own are events i d inside = ap (named_in n own are) (next_event events i d inside)

-- it names nothing
pub passed : (n : Naming) (own : Option ℕ) (are : Bool) (events : List Event) (i : ℕ) (d : Event) → i < length events
    → named_at n (get_or events i d).mark own are (get_or events i d).at ≡ None
    → named_in n own are (drop i events) ≡ named_in n own (are_words (get_or events i d).mark (word_at n.text n.tokens (get_or events i d).at) are) (drop (i + 1) events)
passed n own are events i d inside none = by_event n own are events i d inside
    ∙ ap (λ o. cons_option o (named_in n own (are_words (get_or events i d).mark (word_at n.text n.tokens (get_or events i d).at) are) (drop (i + 1) events))) none

-- What names a declaration is no word of an attribute, and what stands behind it isn't either.
pub no_words : (n : Naming) (mark : Mark) (own : Option ℕ) (are : Bool) (count k : ℕ) (name : List ℕ) → named_at n mark own are count ≡ Some k → are_words mark name are ≡ false
no_words n m.Name own false count k name is = refl
no_words n m.Name own true count k name is = cc is
no_words n other own are count k name is = cc is

-- Other namings of the same text

cons_cases : (o : Option ℕ) (xs : List ℕ) (k : ℕ) → Contains (cons_option o xs) k → (o ≡ Some k) ⊎ Contains xs k
cons_cases None xs k h = inr h
cons_cases (Some x) xs k h = elim (in_front x k xs h) [ inl same ↦ inl (ap Some same) | inr rest ↦ inr rest ]

cons_first : (o : Option ℕ) (xs : List ℕ) (k : ℕ) → o ≡ Some k → Contains (cons_option o xs) k
cons_first None xs k is = cc is
cons_first (Some x) xs k is = Contains-append_left (x ∷ []) xs k (subst (λ j. Contains (j ∷ []) k) (sym (same is)) (Contains-push [] k))
  where
    same : Some x ≡ Some k → x ≡ k
    same is = cc is

cons_rest : (o : Option ℕ) (xs : List ℕ) (k : ℕ) → Contains xs k → Contains (cons_option o xs) k
cons_rest None xs k h = h
cons_rest (Some x) xs k h = Contains-append_right (x ∷ []) xs k h

-- what one naming finds, the other one finds too, or this holds of it
abbrev pub Finds : (List ℕ → Option ℕ) → (List ℕ → Option ℕ) → (ℕ → Type 0) → Type 0
Finds f g P = (name : List ℕ) (k : ℕ) → f name ≡ Some k → (g name ≡ Some k) ⊎ P k

module _ (text : List ℕ) (tokens : List Token) (f g : List ℕ → Option ℕ) where
  abbrev from : Naming
  from = record { text = text; tokens = tokens; declared = f }

  abbrev to : Naming
  to = record { text = text; tokens = tokens; declared = g }

  used_too : (P : ℕ → Type 0) → Finds f g P → (colon : Bool) (count k : ℕ) → used from colon count ≡ Some k → (used to colon count ≡ Some k) ⊎ P k
  used_too P finds true count k is = cc is
  used_too P finds false count k is = finds (word_at text tokens count) k is

  unless_own : (P : ℕ → Type 0) → Finds f g P → (own colon : Bool) (count k : ℕ) → cond own None (used from colon count) ≡ Some k
      → (cond own None (used to colon count) ≡ Some k) ⊎ P k
  unless_own P finds true colon count k is = cc is
  unless_own P finds false colon count k is = used_too P finds colon count k is

  at_too : (P : ℕ → Type 0) → Finds f g P → (mark : Mark) (own : Option ℕ) (are : Bool) (count k : ℕ) → named_at from mark own are count ≡ Some k
      → (named_at to mark own are count ≡ Some k) ⊎ P k
  at_too P finds m.Name own false count k is = unless_own P finds (is_own own count) (is_colon (kind_of_any (slice_get tokens count))) count k is
  at_too P finds m.Name own true count k is = cc is
  at_too P finds other own are count k is = cc is

  pub named_too : (P : ℕ → Type 0) → Finds f g P → (own : Option ℕ) (are : Bool) (events : List Event) (k : ℕ) → Contains (named_in from own are events) k
      → Contains (named_in to own are events) k ⊎ P k
  named_too P finds own are [] k h = inl h
  named_too P finds own are (e ∷ events) k h = elim (cons_cases (named_at from e.mark own are e.at) _ k h) [
    | inl first ↦ elim (at_too P finds e.mark own are e.at k first) [ inl is ↦ inl (cons_first _ _ k is) | inr p ↦ inr p ]
    | inr rest ↦ elim (named_too P finds own (are_words e.mark (word_at text tokens e.at) are) events k rest) [ inl is ↦ inl (cons_rest _ _ k is) | inr p ↦ inr p ]
  ]

  same_used : ((name : List ℕ) → f name ≡ g name) → (colon : Bool) (count : ℕ) → used from colon count ≡ used to colon count
  same_used same true count = refl
  same_used same false count = same (word_at text tokens count)

  same_at : ((name : List ℕ) → f name ≡ g name) → (mark : Mark) (own : Option ℕ) (are : Bool) (count : ℕ) → named_at from mark own are count ≡ named_at to mark own are count
  same_at same m.Name own false count = ap (cond (is_own own count) None) (same_used same (is_colon (kind_of_any (slice_get tokens count))) count)
  same_at same m.Name own true count = refl
  same_at same other own are count = refl

  pub same_named : ((name : List ℕ) → f name ≡ g name) → (own : Option ℕ) (are : Bool) (events : List Event) → named_in from own are events ≡ named_in to own are events
  same_named same own are [] = refl
  same_named same own are (e ∷ events) =
      ap₂ cons_option (same_at same e.mark own are e.at) (same_named same own (are_words e.mark (word_at text tokens e.at) are) events)

nothing_named : (text : List ℕ) (tokens : List Token) (own : Option ℕ) (are : Bool) (events : List Event)
    → named_in (record { text = text; tokens = tokens; declared = λ name. None }) own are events ≡ []
nothing_named text tokens own are [] = refl
nothing_named text tokens own are (e ∷ events) = ap₂ cons_option (none e.mark are) (nothing_named text tokens own (are_words e.mark (word_at text tokens e.at) are) events)
  where
    none_used : (colon : Bool) → used (record { text = text; tokens = tokens; declared = λ name. None }) colon e.at ≡ None
    none_used true = refl
    none_used false = refl

    unless : (own : Bool) → cond own None (used (record { text = text; tokens = tokens; declared = λ name. None }) (is_colon (kind_of_any (slice_get tokens e.at))) e.at) ≡ None
    unless true = refl
    unless false = none_used (is_colon (kind_of_any (slice_get tokens e.at)))

    none : (mark : Mark) (are : Bool) → named_at (record { text = text; tokens = tokens; declared = λ name. None }) mark own are e.at ≡ None
    none m.Name false = unless (is_own own e.at)
    none m.Name true = refl
    none other are = refl

-- each of these is found
pub named_each : (text : List ℕ) (tokens : List Token) (f : List ℕ → Option ℕ) (P : ℕ → Type 0) → ((name : List ℕ) (k : ℕ) → f name ≡ Some k → P k)
    → (own : Option ℕ) (are : Bool) (events : List Event) (k : ℕ) → Contains (named_in (record { text = text; tokens = tokens; declared = f }) own are events) k → P k
named_each text tokens f P holds own are events k h = elim (named_too text tokens f (λ name. None) P (λ name i is. inr (holds name i is)) own are events k h) [
  | inl none ↦ absurd (no_element k (subst (λ xs. Contains xs k) (nothing_named text tokens own are events) none))
  | inr p ↦ p
]
  where
    no_element : (k : ℕ) → Contains [] k → ⊥
    no_element k h = let lt : h.0 < 0 = h.1 in omega (arith, lt)

-- The first that has a name

one_later : (b : Bool) (n : ℕ) (o : Option ℕ) → option_map suc (unless_called b n o) ≡ unless_called b (suc n) (option_map suc o)
one_later true n None = refl
one_later true n (Some i) = refl
one_later false n None = refl
one_later false n (Some i) = refl

kept_first : (c b : Bool) (n : ℕ) (o p : Option ℕ) → p ≡ unless_called b n o → cond c (Some 0) (option_map suc p) ≡ unless_called b (suc n) (cond c (Some 0) (option_map suc o))
kept_first true true n o p is = refl
kept_first true false n o p is = refl
kept_first false b n o p is = ap (option_map suc) is ∙ one_later b n o

alone : (b : Bool) → cond b (Some 0) (option_map suc None) ≡ unless_called b 0 None
alone true = refl
alone false = refl

pub one_more_called : (text : List ℕ) (tokens : List Token) (ds : List Written) (x : Written) (name : List ℕ)
    → first_called text tokens (ds ++ x ∷ []) name ≡ unless_called (is_called text tokens name x.named) (length ds) (first_called text tokens ds name)
one_more_called text tokens [] x name = alone (is_called text tokens name x.named)
one_more_called text tokens (d ∷ ds) x name =
    kept_first (is_called text tokens name d.named) (is_called text tokens name x.named) (length ds) (first_called text tokens ds name)
    (first_called text tokens (ds ++ x ∷ []) name) (one_more_called text tokens ds x name)

later_one : (o : Option ℕ) (k : ℕ) → option_map suc o ≡ Some k → (i : ℕ) × (o ≡ Some i) × (k ≡ suc i)
later_one None k is = cc is
later_one (Some i) k is = (i, refl, cc is)

first_inside : (b : Bool) (o : Option ℕ) (k n : ℕ) → ((i : ℕ) → o ≡ Some i → i < n) → cond b (Some 0) (option_map suc o) ≡ Some k → k < suc n
first_inside true o k n rest is = let first : 0 ≡ k = cc is in omega (arith, first)
first_inside false o k n rest is =
    let later = later_one o k is in
    let inside = rest later.0 later.1 in
    let at = later.2 in
    omega (arith, inside, at)

pub called_inside : (text : List ℕ) (tokens : List Token) (ds : List Written) (name : List ℕ) (k : ℕ) → first_called text tokens ds name ≡ Some k → k < length ds
called_inside text tokens [] name k is = cc is
called_inside text tokens (d ∷ ds) name k is = first_inside (is_called text tokens name d.named) (first_called text tokens ds name) k (length ds) (called_inside text tokens ds name) is

called_or_last : (b : Bool) (n k : ℕ) (o : Option ℕ) → unless_called b n o ≡ Some k → (o ≡ Some k) ⊎ (k ≡ n)
called_or_last true n k None is = inr (cc is)
called_or_last true n k (Some i) is = inl is
called_or_last false n k o is = inl is

still_called : (b : Bool) (n k : ℕ) (o : Option ℕ) → o ≡ Some k → unless_called b n o ≡ Some k
still_called true n k None is = cc is
still_called true n k (Some i) is = is
still_called false n k o is = is

-- with one declaration more
pub called_before : (text : List ℕ) (tokens : List Token) (ds : List Written) (x : Written) → Finds (first_called text tokens (ds ++ x ∷ [])) (first_called text tokens ds) (λ k. k ≡ length ds)
called_before text tokens ds x name k is = called_or_last _ (length ds) k _ (sym (one_more_called text tokens ds x name) ∙ is)

pub called_after : (text : List ℕ) (tokens : List Token) (ds : List Written) (x : Written) (name : List ℕ) (k : ℕ) → first_called text tokens ds name ≡ Some k
    → first_called text tokens (ds ++ x ∷ []) name ≡ Some k
called_after text tokens ds x name k is = one_more_called text tokens ds x name ∙ still_called _ (length ds) k _ is

-- Names are given one by one

all_before : (text : List ℕ) (tokens : List Token) (ds : List Declaration) (index : ℕ) (name : List ℕ) → index < length ds
    → first_called text tokens (take (suc index) (map written ds)) name
    ≡ unless_called (is_called text tokens name (name_at ds index)) index (first_called text tokens (take index (map written ds)) name)
all_before text tokens [] index name inside = absurd (omega (arith, inside))
all_before text tokens (d ∷ ds) zero name inside = alone (is_called text tokens name d.named)
all_before text tokens (d ∷ ds) (suc index) name inside =
    kept_first (is_called text tokens name d.named) (is_called text tokens name (name_at ds index)) index (first_called text tokens (take index (map written ds)) name)
    (first_called text tokens (take (suc index) (map written ds)) name) (all_before text tokens ds index name (omega (arith, inside)))

pub one_more_named : (s r : Checker) (index : ℕ) → index < length s.declarations.items → KeepsButNames (state s) (state r)
    → HaveNames s (take index (map written s.declarations.items)) → IsNamed s (name_at s.declarations.items index) index r
    → HaveNames r (take (index + 1) (map written r.declarations.items))
one_more_named s r index inside keeps names is name =
    let next : suc index ≡ index + 1 = omega arith in
    let all : index_of name r.expressions.names ≡ first_called s.expressions.text.now s.expressions.tokens.now (take (suc index) (map written s.declarations.items)) name =
    is name ∙ (ap (unless_called (is_called s.expressions.text.now s.expressions.tokens.now name (name_at s.declarations.items index)) index) (names name)
    ∙ sym (all_before s.expressions.text.now s.expressions.tokens.now s.declarations.items index name inside)) in
    subst (λ (q : List ℕ × List Token × List Declaration). index_of name r.expressions.names ≡ first_called q.0 q.1 (take (index + 1) (map written q.2)) name)
    (sym (ap source keeps))
    (subst (λ k. index_of name r.expressions.names ≡ first_called s.expressions.text.now s.expressions.tokens.now (take k (map written s.declarations.items)) name) next all)

pub all_have_names : (c : Checker) (index : ℕ) → length c.declarations.items ≤ index → HaveNames c (take index (map written c.declarations.items))
    → HaveNames c (map written c.declarations.items)
all_have_names c index end names = subst (HaveNames c) (take_all index (map written c.declarations.items) (omega (arith, end, length-map c.declarations.items written))) names

-- Where they are declared

next_unread : (ds : List Declaration) (index : ℕ) → index < length ds → map as_unread (take (suc index) (map written ds))
    ≡ map as_unread (take index (map written ds)) ++ (record { named = name_at ds index; known = None }) ∷ []
next_unread [] index inside = absurd (omega (arith, inside))
next_unread (d ∷ ds) zero inside = refl
next_unread (d ∷ ds) (suc index) inside = ap (λ more. as_unread (written d) ∷ more) (next_unread ds index (omega (arith, inside)))

pub one_more_unread : (s r : Checker) (index : ℕ) → index < length s.declarations.items → KeepsButNames (state s) (state r)
    → s.expressions.declared.items ≡ map as_unread (take index (map written s.declarations.items)) → (named : Option ℕ) → named ≡ name_at s.declarations.items index
    → r.expressions.declared.items ≡ s.expressions.declared.items ++ (record { named = named; known = None }) ∷ []
    → r.expressions.declared.items ≡ map as_unread (take (index + 1) (map written r.declarations.items))
one_more_unread s r index inside keeps are named name pushed =
    let next : suc index ≡ index + 1 = omega arith in
    let one : Option ℕ → List Named = λ n. (record { named = n; known = None }) ∷ [] in
    let all : r.expressions.declared.items ≡ map as_unread (take (suc index) (map written s.declarations.items)) =
    pushed ∙ (ap (λ n. s.expressions.declared.items ++ one n) name ∙ (ap (λ ns. ns ++ one (name_at s.declarations.items index)) are
    ∙ sym (next_unread s.declarations.items index inside))) in
    subst (λ (q : State). r.expressions.declared.items ≡ map as_unread (take (index + 1) (map written q.declarations))) (sym keeps)
    (subst (λ k. r.expressions.declared.items ≡ map as_unread (take k (map written s.declarations.items))) next all)

pub all_unread : (c : Checker) (index : ℕ) → length c.declarations.items ≤ index
    → c.expressions.declared.items ≡ map as_unread (take index (map written c.declarations.items))
    → c.expressions.declared.items ≡ map as_unread (map written c.declarations.items)
all_unread c index end are =
    subst (λ ws. c.expressions.declared.items ≡ map as_unread ws) (take_all index (map written c.declarations.items) (omega (arith, end, length-map c.declarations.items written))) are

-- none has it
pub name_given : (key : Bor (List ℕ)) (index : ℕ) (old new : Index) → Gives key (Some index) old new → index_of key.now old ≡ None
    → (name : List ℕ) → index_of name new ≡ unless_called (bytes_eq key.now name) index (index_of name old)
name_given key index old new puts none name =
    btree_map_updates_str key.now old new (Some index) puts name ∙ go (bytes_eq key.now name) (bytes_eq-Decides key.now name).0
  where
    go : (b : Bool) → (b ≡ true → key.now ≡ name) → cond b (Some index) (index_of name old) ≡ unless_called b index (index_of name old)
    go true is = sym (ap (unless_called true index) (subst (λ n. index_of n old ≡ None) (is refl) none))
    go false is = refl

-- what stands for something goes on standing for that
pub still_named : (b : Bool) (index k : ℕ) (found : Option ℕ) → found ≡ Some k → unless_called b index found ≡ Some k
still_named b index k found is = subst (λ o. unless_called b index o ≡ Some k) (sym is) (go b)
  where
    go : (b : Bool) → unless_called b index (Some k) ≡ Some k
    go true = refl
    go false = refl

pub not_there : (found : Option ℕ) → is_some found ≡ false → found ≡ None
not_there None none = refl
not_there (Some k) none = cc none
