-- The declarations of a text, one by one.
use Rattle.std.proofs.Common.{◌≡◌, ◌≢◌, ◌-◌, ◌≤◌, List, [], ◌∷◌, ◌++◌, false, None, Some, arith, drop, length, take, ap, refl, subst, sym, ◌∙◌, append_assoc, append-nil, length-drop}
use Rattle.wgsl_source.proofs.Common.{Event, word, Declaration, End, Text}
use Rattle.wgsl_source.specs.Declarations.{AreSites, BehindAttributes, Site, attribute_len, end_at, end_by, first_count, inner, len_to, list_len, no_attribute, no_more, one_attribute, one_more, token_before}
use Rattle.wgsl_source.specs.TextDeclarations.{declared_by}
use Rattle.wgsl_source.specs.internal.Read.{Adds, AreAll, AreOf, IsMisread, IsNext, IsNone, IsOf, declaration, misread, no_declaration, no_other}
use Rattle.wgsl_source.specs.declared.declaration.Read.{Read}

all_of : {t : Text} {a b : List Site} {xs ys : List Declaration} → AreOf t a xs → AreOf t b ys → AreOf t (a ++ b) (xs ++ ys)
all_of no_other h = h
all_of (no_declaration none rest) h = no_declaration none (all_of rest h)
all_of (declaration is rest) h = declaration is (all_of rest h)
all_of (misread is rest) h = misread is (all_of rest h)

-- what ends what begins with this event
ends_at : (t : Text) (first rest : List Event) (event : Event) (end : End) → first ≡ event ∷ rest → end ≡ end_by event.mark (token_before t (event.at - 1)).kind
    → end_at t first ≡ end
ends_at t first rest event end is by = ap (end_at t) is ∙ sym by

pub is_next : (t : Text) (events list first rest : List Event) (event : Event) (end : End) (r : Read) → BehindAttributes events list → first ≡ drop (list_len list) list
    → first ≡ event ∷ rest → end ≡ end_by event.mark (token_before t (event.at - 1)).kind → len_to end first ≢ 0 → r.kind ≡ declared_by end → r.attributes.now ≡ events
    → r.list.now ≡ take (list_len list) list → r.named ≡ event.at
    → r.events.now ≡ take (len_to end first) first → r.behind.now ≡ drop (len_to end first) first → IsNext t events r
is_next t events list first rest event end r attributed listed is by some kind attributes front count read behind =
    let at : end ≡ end_at t first = sym (ends_at t first rest event end is by) in
    record {
      site = record { attributes = events; list = list; first = first };
      there = record { begin = refl; attributed = attributed; listed = listed; some = subst (λ x. len_to x first ≢ 0) at some };
      kind = kind ∙ ap declared_by at;
      attributes = attributes;
      list = front;
      count = count ∙ ap first_count (sym is);
      read = read ∙ ap (λ x. take (len_to x first) first) at;
      behind = behind ∙ ap (λ x. drop (len_to x first) first) at;
    }

-- what stands behind attributes and a list isn't longer
pub no_longer : {events list : List Event} → BehindAttributes events list → length list ≤ length events
no_longer (no_attribute {events} none) = omega arith
no_longer (one_attribute {events} some h) = omega (arith, no_longer h, length-drop (attribute_len events) events)

-- what is read so far: the events that are left stand behind it
pub record SoFar (t : Text) (whole rest : List Event) (ds : List Declaration) : Type 0 where
  pub sites : List Site
  pub are : AreOf t sites ds
  pub back : (others : List Site) → AreSites t rest others → AreSites t whole (sites ++ others)

module _ (t : Text) (whole : List Event) where
  pub none_yet : SoFar t whole whole []
  none_yet = record { sites = []; are = no_other; back = λ others h. h }

  module _ (events : List Event) (old new : List Declaration) (h : SoFar t whole events old) where
    pub none_between : Adds t [] old new → SoFar t whole events new
    none_between added = record {
      sites = h.sites;
      are = subst (λ ss. AreOf t ss new) (append-nil h.sites) (subst (λ ds. AreOf t (h.sites ++ []) ds) (sym added.kept) (all_of h.are added.are));
      back = h.back;
    }

    pub one_further : (r : Read) (next : IsNext t events r) → Adds t (next.site ∷ []) old new → SoFar t whole r.behind.now new
    one_further r next added = record {
      sites = h.sites ++ next.site ∷ [];
      are = subst (λ ds. AreOf t (h.sites ++ next.site ∷ []) ds) (sym added.kept) (all_of h.are added.are);
      back =
          λ others there. subst (λ ss. AreSites t whole ss) (sym (append_assoc h.sites (next.site ∷ []) others))
          (h.back (next.site ∷ others) (one_more next.there (subst (λ es. AreSites t es others) next.behind there)));
    }

  pub no_further : (events : List Event) (ds : List Declaration) → SoFar t whole events ds → IsNone t events → AreAll t whole ds
  no_further events ds h none = record {
    sites = h.sites;
    there = subst (λ ss. AreSites t whole ss) (append-nil h.sites) (h.back [] (no_more none.attributed none.none));
    are = h.are;
  }

pub more_misread : (t : Text) (old now new : List Declaration) (d : Declaration) → Adds t [] old now → new ≡ now ++ d ∷ [] → IsMisread t d → Adds t [] old new
more_misread t old now new d h is isnt = record {
  added = h.added ++ d ∷ [];
  kept = is ∙ (ap (λ ds. ds ++ d ∷ []) h.kept ∙ append_assoc old h.added (d ∷ []));
  are = all_of h.are (misread isnt no_other);
}

pub nothing_read : (t : Text) (events : List Event) (r : Read) (old : List Declaration) (next : IsNext t events r) → r.kind ≡ None → Adds t (next.site ∷ []) old old
nothing_read t events r old next none = record { added = []; kept = sym (append-nil old); are = no_declaration (sym next.kind ∙ none) no_other }

-- a declaration that is read
pub is_of : (t : Text) (events : List Event) (r : Read) (d : Declaration) (next : IsNext t events r) → r.kind ≡ Some d.kind → d.is_faulty ≡ false
    → d.name.now ≡ word t.text.now (token_before t r.named) → d.place ≡ (token_before t r.named).at → d.attributes.now ≡ r.attributes.now → d.list.now ≡ r.list.now
    → d.rest.now ≡ inner r.events.now → IsOf t next.site d
is_of t events r d next kind readable name place attributes list rest = record {
  kind = sym next.kind ∙ kind;
  readable = readable;
  named = record { name = name ∙ ap (λ n. word t.text.now (token_before t n)) next.count; place = place ∙ ap (λ n. (token_before t n).at) next.count };
  attributes = attributes ∙ next.attributes;
  list = list ∙ next.list;
  rest = rest ∙ ap inner next.read;
}
