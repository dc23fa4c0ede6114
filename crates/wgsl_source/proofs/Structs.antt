-- The structs of a module stay laid out while others are added.
use Rattle.std.proofs.Common.{OnOk, Result, Ok, Err, ◌≡◌, List, [], ◌∷◌, ◌++◌, sym, ap, subst, ◌∙◌, append_assoc, append-nil, All}
use Rattle.wgsl_source.proofs.Common.{All-append, All-cons, All-nil, All-weaker, Event, AreMembers, IsDeclared, Grows, AreStructsOf, IsStructOf, Keeps, SameStructs, IsDeclaredAt, IsFrom, KnownAt, Declaration, Reader, Scope, Struct, Text, Types}
use Rattle.wgsl_source.proofs.Declarations.{still_members}
use Rattle.wgsl_source.proofs.Members.{all_still_measured, grows_further}
use Rattle.wgsl_source.proofs.WrittenTypes.{stays_further, stays_same}
use Rattle.wgsl_source.specs.WrittenTypes.{Environment, environment}
use Rattle.wgsl_source.specs.internal.Read.{Stays}

still_structs : (a b : Types) (ss : List Struct) → Grows a b → AreStructsOf a.elements.items ss → AreStructsOf b.elements.items ss
still_structs a b ss g h =
    All-weaker (IsStructOf a.elements.items) (IsStructOf b.elements.items) (λ s one. record {
      layout = one.layout;
      measured = all_still_measured a b s.members.items g one.measured;
      runtime_sized = one.runtime_sized;
    }) ss h

pub on_ok : {A E : Type 0} (r : Result A E) (P : Type 0) → P → OnOk r P
on_ok (Ok a) P h = h
on_ok (Err e) P h = tt

abbrev pub Knows : Type 1
Knows = Text → List Event → Type 0

still_declared : (t : Text) (whole : List Event) (a b : Scope) (x y : Types) (s : Struct) → Stays a b → Grows x y → IsDeclared t (environment a x) whole s → IsDeclared t (environment b y) whole s
still_declared t whole a b x y s stays g h = record {
  front = h.front;
  first = h.first;
  there = h.there;
  is = record { keyword = h.is.keyword; named = h.is.named; members = still_members t a b x y stays g h.is.members };
}

pub keeps_further : (Known : Knows) (a b c : Reader) → Keeps Known a b → Keeps Known b c → Keeps Known a c
keeps_further Known a b c g h = record {
  grows = grows_further a.types b.types c.types g.grows h.grows;
  added = g.added ++ h.added;
  kept = h.kept ∙ (ap (λ ss. ss ++ h.added) g.kept ∙ append_assoc a.structs.items g.added h.added);
  laid_out = All-append (IsStructOf c.types.elements.items) g.added h.added (still_structs b.types c.types g.added h.grows g.laid_out) h.laid_out;
  text = h.text ∙ g.text;
  names = stays_further a.scope b.scope c.scope g.names h.names;
  declared =
      λ whole known. All-append (IsDeclared a.scope.text (environment c.scope c.types) whole) g.added h.added
      (All-weaker (IsDeclared a.scope.text (environment b.scope b.types) whole) (IsDeclared a.scope.text (environment c.scope c.types) whole)
      (λ s one. still_declared a.scope.text whole b.scope c.scope b.types c.types s h.names h.grows one) g.added (g.declared whole known))
      (subst (λ (t : Text). Known t whole → All (IsDeclared t (environment c.scope c.types) whole) h.added) g.text (h.declared whole) known);
}

-- what is known of less
pub keeps_if : (Known Less : Knows) (a b : Reader) → ((whole : List Event) → Known a.scope.text whole → Less a.scope.text whole) → Keeps Less a b → Keeps Known a b
keeps_if Known Less a b all h = record {
  grows = h.grows;
  added = h.added;
  kept = h.kept;
  laid_out = h.laid_out;
  text = h.text;
  names = h.names;
  declared = λ whole known. h.declared whole (all whole known);
}

-- no struct is read
no_struct : (Known : Knows) (a b : Reader) → Grows a.types b.types → b.structs.items ≡ a.structs.items → b.scope.text ≡ a.scope.text → Stays a.scope b.scope → Keeps Known a b
no_struct Known a b g is text names = record {
  grows = g;
  added = [];
  kept = is ∙ sym (append-nil a.structs.items);
  laid_out = All-nil (IsStructOf b.types.elements.items);
  text = text;
  names = names;
  declared = λ whole known. All-nil (IsDeclared a.scope.text (environment b.scope b.types) whole);
}

pub keeps_grown : (Known : Knows) (a b : Reader) → Grows a.types b.types → b.structs.items ≡ a.structs.items → b.scope ≡ a.scope → Keeps Known a b
keeps_grown Known a b g is scope = no_struct Known a b g is (ap (λ (s : Scope). s.text) scope) (stays_same a.scope b.scope scope)

pub keeps_named : (Known : Knows) (a b : Reader) → SameStructs a b → Stays a.scope b.scope → Keeps Known a b
keeps_named Known a b same names =
    no_struct Known a b (record { added = []; kept = ap (λ es. es.items) same.0 ∙ sym (append-nil a.types.elements.items) }) (ap (λ ss. ss.items) same.1) same.2 names

pub keeps_same : (Known : Knows) (a b : Reader) → SameStructs a b → b.scope ≡ a.scope → Keeps Known a b
keeps_same Known a b same scope = keeps_named Known a b same (stays_same a.scope b.scope scope)

-- a struct is read
pub keeps_one : (d : Declaration) (a b : Reader) (s : Struct) → Grows a.types b.types → b.structs.items ≡ a.structs.items ++ s ∷ [] → IsStructOf b.types.elements.items s
    → b.scope ≡ a.scope → IsFrom a.scope.text (environment a.scope b.types) d s → Keeps (KnownAt d) a b
keeps_one d a b s g is one scope from = record {
  grows = g;
  added = s ∷ [];
  kept = is;
  laid_out = All-cons (IsStructOf b.types.elements.items) s [] one (All-nil (IsStructOf b.types.elements.items));
  text = ap (λ (s : Scope). s.text) scope;
  names = stays_same a.scope b.scope scope;
  declared =
      λ whole known. subst (λ (c : Scope). All (IsDeclared a.scope.text (environment c b.types) whole) (s ∷ [])) (sym scope)
      (All-cons (IsDeclared a.scope.text (environment a.scope b.types) whole) s [] (is_declared a.scope.text (environment a.scope b.types) whole d s known from)
      (All-nil (IsDeclared a.scope.text (environment a.scope b.types) whole)));
}
  where
    is_declared : (t : Text) (env : Environment) (whole : List Event) (d : Declaration) (s : Struct) → IsDeclaredAt t whole d → IsFrom t env d s → IsDeclared t env whole s
    is_declared t env whole d s at from = record {
      front = at.front;
      first = at.first;
      there = at.there;
      is = record {
        keyword = at.keyword;
        named = record { name = from.name ∙ at.named.name; place = from.place ∙ at.named.place };
        members = subst (λ es. AreMembers t env es s.members.items) at.rest from.members;
      };
    }

pub all_declared : (Known : Knows) (a b : Reader) → a.structs.items ≡ [] → Keeps Known a b → (whole : List Event) → Known a.scope.text whole
    → All (IsDeclared a.scope.text (environment b.scope b.types) whole) b.structs.items
all_declared Known a b none h whole known =
    subst (λ (ss : List Struct). All (IsDeclared a.scope.text (environment b.scope b.types) whole) ss) (sym (h.kept ∙ ap (λ ss. ss ++ h.added) none)) (h.declared whole known)
