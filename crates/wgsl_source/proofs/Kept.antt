-- What is kept of declarations, one by one.
use Rattle.std.proofs.Common.{◌≡◌, ◌≢◌, ℕ, ◌+◌, ◌<◌, Bool, true, false, cond, Option, Some, None, IfOk, OnErr, OnOk, Result, Ok, Err, List, [], ◌∷◌, ◌++◌, get_or, length, take, arith, ap, refl, subst, sym, ◌∙◌, append_assoc, append-nil}
use Rattle.std.specs.List.{dedup, dedup_from}
use Rattle.wgsl_source.proofs.Common.{take_more, same_Some, Event, Site, Grows, Declaration, Scope, Text, Types}
use Rattle.wgsl_source.specs.TextDeclarations.{AreAllDeclared, AreKept, HasDeclared, IsLeft, IsOne, Sort, declared_at, faulty, none, none_kept, of_aliases, of_entry_points, of_other_kind, of_overrides, of_variables, one_kept, one_left}
use Rattle.wgsl_source.specs.WrittenTypes.{environment, meaning_of}
use Rattle.wgsl_source.specs.internal.Others.{AddsKept, AddsOthers, IsAdded, IsKeptOf, IsLeftOf, IsReadOf, IsToldIn, declared_of, if_read, left, misread}
use Rattle.wgsl_source.specs.internal.Read as read
use Rattle.wgsl_source.specs.internal.Read.{AreAll, AreOf, IsOf, declaration, no_declaration, no_other}
use Rattle.wgsl_source.specs.declared.declaration.DeclarationKind.{DeclarationKind}
use Rattle.wgsl_source.specs.declared.declaration.DeclarationKind.TheVariants as kinds
use Rattle.wgsl_source.specs.declared.fault.Fault.{Fault}
use Rattle.wgsl_source.specs.declared.module.Module.{Module}
use Rattle.wgsl_source.specs.declared.others.Alias.{Alias}
use Rattle.wgsl_source.specs.declared.others.Others.{Others}
use Rattle.wgsl_source.specs.declared.variable.Variable.{Variable}

abbrev is_kind : DeclarationKind → DeclarationKind → Bool
is_kind kinds.Alias kinds.Alias = true
is_kind kinds.Struct kinds.Struct = true
is_kind kinds.Constant kinds.Constant = true
is_kind kinds.Override kinds.Override = true
is_kind kinds.Variable kinds.Variable = true
is_kind kinds.Function kinds.Function = true
is_kind k other = false

is_itself : (k : DeclarationKind) → is_kind k k ≡ true
is_itself kinds.Alias = refl
is_itself kinds.Struct = refl
is_itself kinds.Constant = refl
is_itself kinds.Override = refl
is_itself kinds.Variable = refl
is_itself kinds.Function = refl

module _ {A : Type 0} (sort : Sort A) where
  weaker : (P Q : Type 0) → (P → Q) → (d : Declaration) → IsLeftOf sort P d → IsLeftOf sort Q d
  weaker P Q all d (misread is) = misread is
  weaker P Q all d (left (of_other_kind isnt)) = left (of_other_kind isnt)
  weaker P Q all d (left (none h)) = left (none h)
  weaker P Q all d (left (faulty h)) = left (faulty (all h))

  kept_behind : (P Q : Type 0) → (P → Q) → {xs vs : List Declaration} {ys ws : List A} → AreKept (IsKeptOf sort) (IsLeftOf sort P) xs ys → AreKept (IsKeptOf sort) (IsLeftOf sort Q) vs ws
      → AreKept (IsKeptOf sort) (IsLeftOf sort Q) (xs ++ vs) (ys ++ ws)
  kept_behind P Q all none_kept h = h
  kept_behind P Q all (one_kept is rest) h = one_kept is (kept_behind P Q all rest h)
  kept_behind P Q all (one_left {a = d} is rest) h = one_left (weaker P Q all d is) (kept_behind P Q all rest h)

  adds_none : (P : Type 0) (ys : List A) → AddsKept sort P [] ys ys
  adds_none P ys = record { added = []; more = sym (append-nil ys); are = none_kept }

  pub adds_left : (P : Type 0) (d : Declaration) (ys : List A) → IsLeftOf sort P d → AddsKept sort P (d ∷ []) ys ys
  adds_left P d ys is = record { added = []; more = sym (append-nil ys); are = one_left is none_kept }

  adds_further : (P Q : Type 0) (ds es : List Declaration) (old now new : List A) → (P → Q) → AddsKept sort P ds old now → AddsKept sort Q es now new → AddsKept sort Q (ds ++ es) old new
  adds_further P Q ds es old now new all g h = record {
    added = g.added ++ h.added;
    more = h.more ∙ (ap (λ ys. ys ++ h.added) g.more ∙ append_assoc old g.added h.added);
    are = kept_behind P Q all g.are h.are;
  }

  -- what is read of a declaration
  pub one_added : {E R F : Type 0} (result : Result R E) (read : Result (Option A) F) (d : Declaration) (old new : List A) → d.is_faulty ≡ false → d.kind ≡ sort.kind → IfOk read (IsReadOf sort d)
      → OnOk result (IsAdded read old new) → OnErr result (new ≡ old) → AddsKept sort ⊥ (if_read result d) old new
  one_added (Ok x) (Ok (Some a)) d old new readable kind is more same =
      record { added = a ∷ []; more = more; are = one_kept (record { readable = readable; one = record { of_kind = ap Some kind; is = is } }) none_kept }
  one_added (Ok x) (Ok None) d old new readable kind is more same = subst (λ ys. AddsKept sort ⊥ (d ∷ []) old ys) (sym more) (adds_left ⊥ d old (left (none is)))
  one_added (Ok x) (Err e) d old new readable kind is more same = absurd more
  one_added (Err e) read d old new readable kind is more same = subst (λ ys. AddsKept sort ⊥ [] old ys) (sym same) (adds_none ⊥ old)

  other_added : {E R : Type 0} (result : Result R E) (d : Declaration) (ys : List A) → d.kind ≢ sort.kind → AddsKept sort ⊥ (if_read result d) ys ys
  other_added (Ok x) d ys isnt = adds_left ⊥ d ys (left (of_other_kind (λ is. isnt (same_Some d.kind sort.kind is))))
  other_added (Err e) d ys isnt = adds_none ⊥ ys

  -- what is kept of a declaration, if it is of this kind; if it isn't, everything stays
  abbrev AddsIf : {E R : Type 0} → Bool → Result R E → Declaration → List A → List A → Type 0
  AddsIf true result d old new = AddsKept sort ⊥ (if_read result d) old new
  AddsIf false result d old new = new ≡ old

  by_kind : {E R : Type 0} (b : Bool) (result : Result R E) (d : Declaration) (k : DeclarationKind) (old new : List A) → is_kind k sort.kind ≡ b → d.kind ≡ k → AddsIf b result d old new
      → AddsKept sort ⊥ (if_read result d) old new
  by_kind true result d k old new of is h = h
  by_kind false result d k old new other is same =
      subst (λ ys. AddsKept sort ⊥ (if_read result d) old ys) (sym same) (other_added result d old (λ no. let bad : true ≡ false = sym (is_itself k) ∙ (ap (is_kind k) (sym is ∙ no) ∙ other) in cc))

module _ (s : Scope) (types : Types) where
  abbrev typed_variables : Sort Variable
  typed_variables = of_variables s.text (environment s types)

  abbrev typed_aliases : Sort Alias
  typed_aliases = of_aliases s.text (environment s types)

  -- a declaration of this kind is read
  pub all_added : {E R : Type 0} (r : Result R E) (d : Declaration) (k : DeclarationKind) (a b : Others) → d.kind ≡ k → AddsIf typed_variables (is_kind k kinds.Variable) r d a.variables.items b.variables.items
      → AddsIf (of_overrides s.text (environment s types)) (is_kind k kinds.Override) r d a.overrides.items b.overrides.items
      → AddsIf (of_entry_points s.text (meaning_of s)) (is_kind k kinds.Function) r d a.entry_points.items b.entry_points.items
      → AddsIf typed_aliases (is_kind k kinds.Alias) r d a.aliases.items b.aliases.items → AddsOthers s types ⊥ (if_read r d) a b
  all_added r d k a b is one two three four = record {
    variables = by_kind typed_variables (is_kind k kinds.Variable) r d k a.variables.items b.variables.items refl is one;
    overrides = by_kind (of_overrides s.text (environment s types)) (is_kind k kinds.Override) r d k a.overrides.items b.overrides.items refl is two;
    entry_points = by_kind (of_entry_points s.text (meaning_of s)) (is_kind k kinds.Function) r d k a.entry_points.items b.entry_points.items refl is three;
    aliases = by_kind typed_aliases (is_kind k kinds.Alias) r d k a.aliases.items b.aliases.items refl is four;
  }

  pub no_others : (P : Type 0) (a : Others) → AddsOthers s types P [] a a
  no_others P a = record {
    variables = adds_none typed_variables P a.variables.items;
    overrides = adds_none (of_overrides s.text (environment s types)) P a.overrides.items;
    entry_points = adds_none (of_entry_points s.text (meaning_of s)) P a.entry_points.items;
    aliases = adds_none typed_aliases P a.aliases.items;
  }

  pub left_others : (P : Type 0) (d : Declaration) (a : Others) → ((A : Type 0) (sort : Sort A) → IsLeftOf sort P d) → AddsOthers s types P (d ∷ []) a a
  left_others P d a is = record {
    variables = adds_left typed_variables P d a.variables.items (is _ typed_variables);
    overrides = adds_left (of_overrides s.text (environment s types)) P d a.overrides.items (is _ (of_overrides s.text (environment s types)));
    entry_points = adds_left (of_entry_points s.text (meaning_of s)) P d a.entry_points.items (is _ (of_entry_points s.text (meaning_of s)));
    aliases = adds_left typed_aliases P d a.aliases.items (is _ typed_aliases);
  }

  others_further : (P Q : Type 0) (ds es : List Declaration) (a b c : Others) → (P → Q) → AddsOthers s types P ds a b → AddsOthers s types Q es b c → AddsOthers s types Q (ds ++ es) a c
  others_further P Q ds es a b c all g h = record {
    variables = adds_further typed_variables P Q ds es a.variables.items b.variables.items c.variables.items all g.variables h.variables;
    overrides = adds_further (of_overrides s.text (environment s types)) P Q ds es a.overrides.items b.overrides.items c.overrides.items all g.overrides h.overrides;
    entry_points = adds_further (of_entry_points s.text (meaning_of s)) P Q ds es a.entry_points.items b.entry_points.items c.entry_points.items all g.entry_points h.entry_points;
    aliases = adds_further typed_aliases P Q ds es a.aliases.items b.aliases.items c.aliases.items all g.aliases h.aliases;
  }

  others_still : (P Q : Type 0) (ds : List Declaration) (a b : Others) → (P → Q) → AddsOthers s types P ds a b → AddsOthers s types Q ds a b
  others_still P Q ds a b all g = subst (λ es. AddsOthers s types Q es a b) (append-nil ds) (others_further P Q ds [] a b b all g (no_others Q b))

  pub read_and_told : {A E : Type 0} (r : Result A E) (d : Declaration) (a b : Others) (faults : List Fault) → AddsOthers s types ⊥ (if_read r d) a b → IsToldIn r faults
      → AddsOthers s types (faults ≢ []) (d ∷ []) a b
  read_and_told (Ok x) d a b faults h told = others_still ⊥ (faults ≢ []) (d ∷ []) a b (λ no. absurd no) h
  read_and_told (Err x) d a b faults h told = others_further ⊥ (faults ≢ []) [] (d ∷ []) a b b (λ no. absurd no) h (left_others (faults ≢ []) d b (λ A sort. left (faulty told)))

  -- one declaration of a list is read
  pub one_of_all : (now : Scope) (P Q : Type 0) (ds : List Declaration) (i : ℕ) (d e : Declaration) (a b c : Others) → i < length ds → now ≡ s → (P → Q) → AddsOthers s types P (take i ds) a b
      → AddsOthers now types Q (d ∷ []) b c → d ≡ get_or ds i e → AddsOthers s types Q (take (i + 1) ds) a c
  one_of_all now P Q ds i d e a b c within same all g h is =
      subst (λ es. AddsOthers s types Q es a c) (sym (take_more ds i e within)) (others_further P Q (take i ds) (get_or ds i e ∷ []) a b c all g
      (subst (λ x. AddsOthers s types Q (x ∷ []) b c) is (subst (λ (u : Scope). AddsOthers u types Q (d ∷ []) b c) same h)))

-- all are read
pub others_last : (s now : Scope) (x y : Types) (P Q : Type 0) (ds : List Declaration) (a b : Others) → now ≡ s → y.elements.items ≡ x.elements.items → (P → Q)
    → ((later : Types) → Grows x later → AddsOthers s later P ds a b) → AddsOthers now y Q ds a b
others_last s now x y P Q ds a b same elements all h =
    subst (λ (u : Scope). AddsOthers u y Q ds a b) (sym same) (others_still s y P Q ds a b all (h y (record { added = []; kept = elements ∙ sym (append-nil x.elements.items) })))

pub on_ok_then : {A E : Type 0} (r : Result A E) (P Q : Type 0) → (P → Q) → OnOk r P → OnOk r Q
on_ok_then (Ok x) P Q all h = all h
on_ok_then (Err x) P Q all h = tt

-- faults are told

pub told_in : {A E : Type 0} (r : Result A E) (faults : List Fault) → faults ≢ [] → IsToldIn r faults
told_in (Ok x) faults some = tt
told_in (Err x) faults some = some

pub one_told : (faults : List Fault) (f : Fault) → faults ++ f ∷ [] ≢ []
one_told [] f is = let no : f ∷ [] ≡ [] = is in cc
one_told (g ∷ faults) f is = let no : g ∷ (faults ++ f ∷ []) ≡ [] = is in cc

long_as : (old new : List Fault) → length new ≡ length old → old ≢ [] → new ≢ []
long_as [] new same some = absurd (some refl)
long_as (f ∷ old) new same some = λ is. omega (arith, ap length is, same)

module _ (E : Fault → Fault → Bool) where
  either : (us : List Fault) (k : Fault) (vs : List Fault) (b : Bool) → us ≢ [] → cond b us (k ∷ vs) ≢ []
  either us k vs true some = some
  either us k vs false some = λ is. let no : k ∷ vs ≡ [] = is in cc

  first_stays : (xs : List Fault) (k : Fault) → dedup_from E k xs ≢ []
  first_stays [] k = λ is. let no : k ∷ [] ≡ [] = is in cc
  first_stays (x ∷ xs) k = either (dedup_from E k xs) k (dedup_from E x xs) (E x k) (first_stays xs k)

  some_stay : (xs : List Fault) → xs ≢ [] → dedup E xs ≢ []
  some_stay [] some = absurd (some refl)
  some_stay (x ∷ xs) some = first_stays xs x

  pub still_told : (old sorted new : List Fault) → length sorted ≡ length old → new ≡ dedup E sorted → old ≢ [] → new ≢ []
  still_told old sorted new same is some = subst (λ xs. xs ≢ []) (sym is) (some_stay sorted (long_as old sorted same some))

-- what declarations declare is what the text declares

module _ (t : Text) (P : Type 0) where
  same_declared : (site : Site) (d : Declaration) → IsOf t site d → declared_of d ≡ declared_at t site
  same_declared site d of =
      let kind = of.kind in let name = of.named.name in let place = of.named.place in let attributes = of.attributes in let list = of.list in let rest = of.rest in cc

  module _ {A : Type 0} (sort : Sort A) where
    kept_at_sites : {sites : List Site} {ds : List Declaration} {xs : List A} → AreOf t sites ds → AreKept (IsKeptOf sort) (IsLeftOf sort P) ds xs
        → AreKept (λ site. IsOne sort (declared_at t site)) (λ site. IsLeft sort P (declared_at t site)) sites xs
    kept_at_sites no_other none_kept = none_kept
    kept_at_sites (no_declaration {site} isnt rest) h = one_left (of_other_kind (λ is. let no : Some sort.kind ≡ None = sym is ∙ isnt in cc)) (kept_at_sites rest h)
    kept_at_sites (declaration {site} {sites} {d} of rest) (one_kept {b = a} is h) = one_kept (subst (λ x. IsOne sort x a) (same_declared site d of) is.one) (kept_at_sites rest h)
    kept_at_sites (declaration {site} {sites} {d} of rest) (one_left (left is) h) = one_left (subst (λ x. IsLeft sort P x) (same_declared site d of) is) (kept_at_sites rest h)
    kept_at_sites (declaration of rest) (one_left (misread is) h) = absurd (let no : false ≡ true = sym of.readable ∙ is in cc)
    kept_at_sites (read.misread isnt rest) (one_kept is h) = absurd (let no : false ≡ true = sym is.readable ∙ isnt.faulty in cc)
    kept_at_sites (read.misread isnt rest) (one_left is h) = kept_at_sites rest h

  all_kept : {A : Type 0} (sort : Sort A) (whole : List Event) (ds : List Declaration) (old new found : List A) → AreAll t whole ds → AddsKept sort P ds old new → old ≡ [] → found ≡ new
      → AreAllDeclared sort t whole P found
  all_kept sort whole ds old new found are h empty same = record {
    sites = are.sites;
    stand = are.there;
    kept = kept_at_sites sort are.are (subst (λ xs. AreKept (IsKeptOf sort) (IsLeftOf sort P) ds xs) (sym (same ∙ (h.more ∙ ap (λ ys. ys ++ h.added) empty))) h.are);
  }

pub has_declared : (t : Text) (s : Scope) (types : Types) (whole : List Event) (ds : List Declaration) (faults : List Fault) (a b : Others) (m : Module) → AreAll t whole ds → s.text ≡ t
    → AddsOthers s types (faults ≢ []) ds a b → a.variables.items ≡ [] → a.overrides.items ≡ [] → a.entry_points.items ≡ [] → a.aliases.items ≡ [] → m.faults.items ≡ faults
    → m.variables ≡ b.variables → m.overrides ≡ b.overrides → m.entry_points ≡ b.entry_points → m.aliases ≡ b.aliases → HasDeclared t (environment s types) whole m
has_declared t s types whole ds faults a b m are same added variables overrides entry_points aliases told all_variables all_overrides all_entry_points all_aliases =
    let u = s.text in
    let env = environment s types in
    let P = m.faults.items ≢ [] in
    let of = subst (λ (t : Text). AreAll t whole ds) (sym same) are in
    let h = subst (λ fs. AddsOthers s types (fs ≢ []) ds a b) (sym told) added in
    subst (λ (t : Text). HasDeclared t env whole m) same (record {
      variables = all_kept u P (of_variables u env) whole ds a.variables.items b.variables.items m.variables.items of h.variables variables (ap (λ v. v.items) all_variables);
      overrides = all_kept u P (of_overrides u env) whole ds a.overrides.items b.overrides.items m.overrides.items of h.overrides overrides (ap (λ v. v.items) all_overrides);
      entry_points = all_kept u P (of_entry_points u (meaning_of s)) whole ds a.entry_points.items b.entry_points.items m.entry_points.items of h.entry_points entry_points (ap (λ v. v.items) all_entry_points);
      aliases = all_kept u P (of_aliases u env) whole ds a.aliases.items b.aliases.items m.aliases.items of h.aliases aliases (ap (λ v. v.items) all_aliases);
    })
