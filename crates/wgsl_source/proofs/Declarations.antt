-- The declarations that are read, one by one.
use Rattle.std.proofs.Common.{◌≡◌, ◌≢◌, inl, inr, Option, option_and_then, ℕ, zero, suc, true, false, Some, None, slice_get, List, [], ◌∷◌, ◌++◌, drop, take, map, ap, refl, subst, sym, ◌∙◌, append_assoc, append-nil, take-append-drop, All}
use Rattle.wgsl_source.proofs.Common.{map-append, All-cons, All-head, All-nil, All-tail, same_Some, Event, AreSameMembers, Grows, inner, members_of, without_offset, Declaration, End, MeasuredType, Member, Scope, Struct, TypeKind, Types, Written, Text}
use Rattle.wgsl_source.specs.Attributes.{GivesNumber, IsGivenBy, IsSaid, arguments_if, last_said}
use Rattle.wgsl_source.specs.declared.attribute.Name.TheVariants as name
use Rattle.wgsl_source.specs.Declarations.{AreSites, BehindAttributes, IsSite, Site, attribute_len, declaration_len, end_at, len_to, list_len, no_attribute, without_last, one_attribute, one_more}
use Rattle.wgsl_source.specs.TextDeclarations.{declared_by}
use Rattle.wgsl_source.specs.WrittenTypes.{Environment, HasConstant, HasType, environment, index_of, meaning_of}
use Rattle.wgsl_source.proofs.WrittenTypes.{still_type, still_value_of}
use Rattle.wgsl_source.specs.TextStructs.{AreAllTold, AreMembers, AreTold, IsMember, IsStructAt, IsTypeNamed, IsValueNamed, a_constant, a_struct, an_alias, an_override, kept, left_out, misread_told, no_member, none_told, one_member, other_told}
use Rattle.wgsl_source.specs.internal.Read.{AreAll, AreListed, AreMeant, AreMeantBy, AreNamed, AreOf, IsDeclaration, IsFrom, IsMeant, IsMeantType, IsMisread, IsOf, IsReadAs, IsReadOfKind, IsTypeBy, IsValueBy, Stays, declaration, kept_listed, left_listed, misread, no_declaration, no_other, none_listed, none_meant, one_meant, other_listed}
use Rattle.wgsl_source.specs.declared.declaration.DeclarationKind.{DeclarationKind}
use Rattle.wgsl_source.specs.declared.declaration.DeclarationKind.TheVariants as kinds
use Rattle.wgsl_source.specs.declared.measured.TypeKind.TheVariants as kind
use Rattle.wgsl_source.specs.declared.parts.End.TheVariants as e
use Rattle.wgsl_source.specs.declared.scope.Meaning.{Meaning}
use Rattle.wgsl_source.specs.declared.scope.Meaning.TheVariants as meaning
use Rattle.wgsl_source.specs.declared.value.Value.{Value}
use Rattle.wgsl_source.specs.declared.value.Value.TheVariants as value
use Rattle.wgsl_constants.specs.declared.constant.Constant.TheVariants as constant

-- one attribute more stands in front
pub behind_one_more : (whole events rest : List Event) → attribute_len events ≢ 0 → rest ≡ drop (attribute_len events) events
    → ((more : List Event) → BehindAttributes events more → BehindAttributes whole more) → (more : List Event) → BehindAttributes rest more → BehindAttributes whole more
behind_one_more whole events rest some is back more h = back more (one_attribute some (subst (λ es. BehindAttributes es more) is h))

more_members : (old new : List Written) (w : Written) (more : List Member) → new ≡ old ++ w ∷ [] → members_of new ++ more ≡ members_of old ++ w.member ∷ more
more_members old new w more is =
    ap (λ ms. ms ++ more) (ap members_of is ∙ map-append (λ (v : Written). v.member) old (w ∷ []))
    ∙ append_assoc (members_of old) (w.member ∷ []) more

head_or : Member → List Member → Member
head_or d [] = d
head_or d (m ∷ ms) = m

rest_of : List Member → List Member
rest_of [] = []
rest_of (m ∷ ms) = ms

module _ (t : Text) (env : Environment) where
  placed_member : (events : List Event) (m n : Member) → without_offset m ≡ without_offset n → IsMember t env events n → IsMember t env events m
  placed_member events m n same h = record {
    rest = h.rest;
    behind = h.behind;
    named = record { name = ap (λ (k : Member). k.name.now) same ∙ h.named.name; place = ap (λ (k : Member). k.place) same ∙ h.named.place };
    attributes = h.attributes;
    there = h.there;
    size = subst (λ (k : Member). IsSaid (GivesNumber t env.named) name.Size h.attributes k.size_attribute) (sym same) h.size;
    align = subst (λ (k : Member). IsSaid (GivesNumber t env.named) name.Align h.attributes k.align_attribute) (sym same) h.align;
    written = subst (λ (k : Member). HasType t env (inner h.rest) k.ty) (sym same) h.written;
  }

  -- the members at their offsets
  pub placed_declared : (ms ns : List Member) (events : List Event) → AreSameMembers ms ns → AreMembers t env events ns → AreMembers t env events ms
  unfolding head_or rest_of
  placed_declared [] [] events same h = h
  placed_declared [] (n ∷ ns) events same h = absurd (let no : [] ≡ without_offset n ∷ map without_offset ns = same in cc)
  placed_declared (m ∷ ms) [] events same h = absurd (let no : without_offset m ∷ map without_offset ms ≡ [] = same in cc)
  placed_declared (m ∷ ms) (n ∷ ns) events same (one_member some is rest) = one_member some (placed_member (take (len_to e.Member events) events) m n (ap (head_or m) same) is)
      (placed_declared ms ns (drop (len_to e.Member events) events) (ap rest_of same) rest)

  module _ (whole events : List Event) (old : List Written) (back : (more : List Member) → AreMembers t env events more → AreMembers t env whole (members_of old ++ more)) where
    -- one member more is read
    pub one_more_declared : (front rest : List Event) (new : List Written) (w : Written) → len_to e.Member events ≢ 0 → front ≡ take (len_to e.Member events) events
        → rest ≡ drop (len_to e.Member events) events → IsMember t env front w.member → new ≡ old ++ w ∷ [] → (more : List Member) → AreMembers t env rest more
        → AreMembers t env whole (members_of new ++ more)
    one_more_declared front rest new w some cut left is added more h =
        subst (λ ms. AreMembers t env whole ms) (sym (more_members old new w more added))
        (back (w.member ∷ more) (one_member some (subst (λ es. IsMember t env es w.member) cut is) (subst (λ es. AreMembers t env es more) left h)))

    -- none is left
    pub all_are_declared : len_to e.Member events ≡ 0 → AreMembers t env whole (members_of old)
    all_are_declared none = subst (λ ms. AreMembers t env whole ms) (append-nil (members_of old)) (back [] (no_member none))

-- members stay what they are

still_number : (t : Text) (a b : Scope) (arguments : Option (List Event)) (n : Option ℕ) → Stays a b → IsGivenBy (GivesNumber t (meaning_of a)) arguments n
    → IsGivenBy (GivesNumber t (meaning_of b)) arguments n
still_number t a b (Some argument) (Some n) s h = (h.0, still_value_of t a b (without_last argument) (value.Known (constant.Integer h.0)) s h.1, h.2)
still_number t a b (Some argument) None s h = absurd h
still_number t a b None (Some n) s h = absurd h
still_number t a b None None s h = h

pub still_member : (t : Text) (a b : Scope) (x y : Types) (events : List Event) (m : Member) → Stays a b → Grows x y → IsMember t (environment a x) events m → IsMember t (environment b y) events m
still_member t a b x y events m s g h = record {
  rest = h.rest;
  behind = h.behind;
  named = h.named;
  attributes = h.attributes;
  there = h.there;
  size = still_number t a b (last_said (arguments_if name.Size) h.attributes) m.size_attribute s h.size;
  align = still_number t a b (last_said (arguments_if name.Align) h.attributes) m.align_attribute s h.align;
  written = still_type t a b x y (inner h.rest) m.ty s g h.written;
}

pub still_members : (t : Text) (a b : Scope) (x y : Types) {events : List Event} {ms : List Member} → Stays a b → Grows x y → AreMembers t (environment a x) events ms
    → AreMembers t (environment b y) events ms
still_members t a b x y s g (no_member none) = no_member none
still_members t a b x y s g (one_member {events} {member} some is rest) =
    one_member some (still_member t a b x y (take (len_to e.Member events) events) member s g is) (still_members t a b x y s g rest)

-- the next declaration begins behind its attributes and its list

behind_all : (events rest : List Event) → BehindAttributes events rest → (front : List Event) × (events ≡ front ++ rest)
behind_all events rest (no_attribute none) = ([], refl)
behind_all events rest (one_attribute some h) =
    let more = behind_all (drop (attribute_len events) events) rest h in
    let cut : events ≡ take (attribute_len events) events ++ drop (attribute_len events) events = sym (take-append-drop (attribute_len events) events) in
    (take (attribute_len events) events ++ more.0, cut ∙ (ap (λ es. take (attribute_len events) events ++ es) more.1 ∙ sym (append_assoc (take (attribute_len events) events) more.0 rest)))

further : (whole front events more rest : List Event) → whole ≡ front ++ events → events ≡ more ++ rest → whole ≡ (front ++ more) ++ rest
further whole front events more rest is cut = is ∙ (ap (λ es. front ++ es) cut ∙ sym (append_assoc front more rest))

begins_behind : (whole front events attributes list : List Event) → whole ≡ front ++ events → BehindAttributes events attributes → (n : ℕ) × (list ≡ drop n attributes)
    → (before : List Event) × (whole ≡ before ++ list)
begins_behind whole front events attributes list is behind cut =
    let all = behind_all events attributes behind in
    let left : attributes ≡ take cut.0 attributes ++ list = sym (take-append-drop cut.0 attributes) ∙ ap (λ es. take cut.0 attributes ++ es) (sym cut.1) in
    ((front ++ all.0) ++ take cut.0 attributes, further whole (front ++ all.0) attributes (take cut.0 attributes) list (further whole front events all.0 attributes is all.1) left)

-- what is read of the declarations of a text is one of them

stands_at : (t : Text) (whole front events : List Event) (site : Site) → whole ≡ front ++ events → IsSite t events site → (before : List Event) × (whole ≡ before ++ site.first)
stands_at t whole front events site is h = begins_behind whole front events site.list site.first is h.attributed (list_len site.list, h.listed)

ends_struct : (end : End) (kind : DeclarationKind) → declared_by end ≡ Some kind → kind ≡ kinds.Struct → end ≡ e.Struct
ends_struct end kind by is = struct end (by ∙ ap Some is)
  where
    struct : (end : End) → declared_by end ≡ Some kinds.Struct → end ≡ e.Struct
    struct e.Struct by = refl
    struct e.Attribute by = cc
    struct e.Typed by = cc
    struct e.Member by = cc
    struct e.Alias by = cc
    struct e.Constant by = cc
    struct e.Override by = cc
    struct e.Variable by = cc
    struct e.Function by = cc
    struct e.Assertion by = cc
    struct e.Directive by = cc

never_read : (t : Text) (d : Declaration) → IsMisread t d → d.is_faulty ≡ false → ⊥
never_read t d h readable = let no : false ≡ true = sym readable ∙ h.faulty in cc

module _ (t : Text) (whole : List Event) where
  declared_at : {events : List Event} (front : List Event) (site : Site) (d : Declaration) → whole ≡ front ++ events → IsSite t events site → IsOf t site d → IsDeclaration t whole d
  declared_at {events} front site d is h of readable struct =
      let at = stands_at t whole front events site is h in
      record { front = at.0; first = site.first; there = at.1; keyword = ends_struct (end_at t site.first) d.kind of.kind struct; named = of.named; rest = of.rest }

  behind_site : {events : List Event} (front : List Event) (site : Site) → whole ≡ front ++ events → IsSite t events site
      → (before : List Event) × (whole ≡ before ++ drop (declaration_len t site.first) site.first)
  behind_site {events} front site is h =
      let at = stands_at t whole front events site is h in
      let n = declaration_len t site.first in
      (at.0 ++ take n site.first, further whole at.0 site.first (take n site.first) (drop n site.first) at.1 (sym (take-append-drop n site.first)))

  all_are : (front : List Event) {events : List Event} {sites : List Site} {ds : List Declaration} → whole ≡ front ++ events → AreOf t sites ds → AreSites t events sites
      → All (IsDeclaration t whole) ds
  all_are front is no_other there = All-nil (IsDeclaration t whole)
  all_are front is (no_declaration {site} none rest) (one_more at others) =
      let next = behind_site front site is at in
      all_are next.0 next.1 rest others
  all_are front is (declaration {site} {sites} {d} {ds} of rest) (one_more at others) =
      let next = behind_site front site is at in
      All-cons (IsDeclaration t whole) d ds (declared_at front site d is at of) (all_are next.0 next.1 rest others)
  all_are front is (misread {sites} {d} {ds} isnt rest) there =
      All-cons (IsDeclaration t whole) d ds (λ readable struct. absurd (never_read t d isnt readable)) (all_are front is rest there)

  pub all_declarations : (ds : List Declaration) → AreAll t whole ds → All (IsDeclaration t whole) ds
  all_declarations ds h = all_are [] refl h.are h.there

pub all_at : (P : Declaration → Type 0) (ds : List Declaration) (i : ℕ) (d : Declaration) → slice_get ds i ≡ Some d → All P ds → P d
all_at P [] i d is all = absurd (let no : None ≡ Some d = is in cc)
all_at P (e ∷ es) zero d is all = subst P (same_Some e d is) (All-head P e es all)
all_at P (e ∷ es) (suc i) d is all = all_at P es i d is (All-tail P e es all)

-- what names stand for

site_of : {t : Text} {sites : List Site} {ds : List Declaration} (i : ℕ) (d : Declaration) → AreOf t sites ds → slice_get ds i ≡ Some d → d.is_faulty ≡ false
    → (k : ℕ) × (site : Site) × (slice_get sites k ≡ Some site) × IsOf t site d
site_of i d no_other at readable = absurd (let no : None ≡ Some d = at in cc)
site_of i d (no_declaration {site} none rest) at readable = let h = site_of i d rest at readable in (suc h.0, h.1, h.2, h.3)
site_of {t} zero d (declaration {site} {d = x} of rest) at readable = (zero, site, refl, subst (λ (y : Declaration). IsOf t site y) (same_Some x d at) of)
site_of (suc i) d (declaration of rest) at readable = let h = site_of i d rest at readable in (suc h.0, h.1, h.2, h.3)
site_of {t} zero d (misread {d = x} isnt rest) at readable = absurd (never_read t x isnt (ap (λ (y : Declaration). y.is_faulty) (same_Some x d at) ∙ readable))
site_of (suc i) d (misread isnt rest) at readable = site_of i d rest at readable

pub meant_at : {Is : Declaration → Meaning → Type 0} {ds : List Declaration} {ms : List Meaning} (i : ℕ) (d : Declaration) (m : Meaning) → AreMeantBy Is ds ms → slice_get ds i ≡ Some d
    → slice_get ms i ≡ Some m → Is d m
meant_at i d m none_meant at is = absurd (let no : None ≡ Some d = at in cc)
meant_at {Is} zero d m (one_meant {d = x} {m = n} h rest) at is = subst (λ (y : Declaration). Is y m) (same_Some x d at) (subst (λ (y : Meaning). Is x y) (same_Some n m is) h)
meant_at (suc i) d m (one_meant h rest) at is = meant_at i d m rest at is

of_struct : (t : Text) (env : Environment) (ss : List Struct) (d : Declaration) (k : TypeKind) → IsReadOfKind t env ss d k → (index : ℕ) × (k ≡ kind.Struct index) × IsReadAs t env ss d index
of_struct t env ss d (kind.Struct index) h = (index, refl, h)
of_struct t env ss d k h = absurd h

module _ (t : Text) (env : Environment) (ss : List Struct) (ds : List Declaration) (sites : List Site) (s : Scope) (are : AreOf t sites ds) (meant : AreMeant t env ss ds s.meanings.items)
    (names : AreNamed ds s) where
  -- the declaration with a name that has a meaning
  declaration_named : (name : List ℕ) (m : Meaning) → meaning_of s name ≡ Some m → (i : ℕ) × (d : Declaration) × (slice_get ds i ≡ Some d) × (d.name.now ≡ name) × IsMeant t env ss d m
  declaration_named name m is = by (index_of s name) refl is
    where
      by : (o : Option ℕ) → index_of s name ≡ o → option_and_then (slice_get s.meanings.items) o ≡ Some m
          → (i : ℕ) × (d : Declaration) × (slice_get ds i ≡ Some d) × (d.name.now ≡ name) × IsMeant t env ss d m
      by None at is = absurd (let no : None ≡ Some m = is in cc)
      by (Some i) at is = let found = names name i at in (i, found.0, found.1, found.2, meant_at i found.0 m meant found.1 is)

  pub type_named : (name : List ℕ) (ty : MeasuredType) → meaning_of s name ≡ Some (meaning.«Type» ty) → IsTypeNamed t env ss sites name ty
  type_named name ty is = let d = declaration_named name (meaning.«Type» ty) is in let of = site_of d.0 d.1 are d.2 d.4.readable in sort d.1 d.3 d.4 of.0 of.1 of.2 of.3 d.4.sort
    where
      sort : (d : Declaration) → d.name.now ≡ name → IsMeantType t env ss d ty → (k : ℕ) (site : Site) → slice_get sites k ≡ Some site → IsOf t site d → IsTypeBy t env d ty
          → IsTypeNamed t env ss sites name ty
      sort d called h k site there of (inl struct) =
          let read = of_struct t env ss d ty.kind (h.struct struct) in
          a_struct read.0 read.2.struct read.1 read.2.there (read.2.from.name ∙ called)
      sort d called h k site there of (inr alias) =
          an_alias k site there (of.kind ∙ ap Some alias.0) (sym called ∙ of.named.name) (subst (λ es. HasType t env es ty) of.rest alias.1)

  pub value_named : (name : List ℕ) (v : Value) → meaning_of s name ≡ Some (meaning.Value v) → IsValueNamed t env sites name v
  value_named name v is = let d = declaration_named name (meaning.Value v) is in let of = site_of d.0 d.1 are d.2 d.4.0 in sort d.1 d.3 of.0 of.1 of.2 of.3 d.4.1
    where
      sort : (d : Declaration) → d.name.now ≡ name → (k : ℕ) (site : Site) → slice_get sites k ≡ Some site → IsOf t site d → IsValueBy t env d v → IsValueNamed t env sites name v
      sort d called k site there of (inl override) =
          subst (λ v. IsValueNamed t env sites name v) (sym override.1) (an_override k site there (of.kind ∙ ap Some override.0) (sym called ∙ of.named.name))
      sort d called k site there of (inr known) =
          a_constant k site there (of.kind ∙ ap Some known.0) (sym called ∙ of.named.name) (subst (λ es. HasConstant t env es v) of.rest known.1)

-- the structs of the declarations are those of the text

module _ (t : Text) (env : Environment) (structs : List Struct) where
  is_struct_at : (site : Site) (d : Declaration) (s : Struct) → IsOf t site d → d.kind ≡ kinds.Struct → IsFrom t env d s → IsStructAt t env site.first s
  is_struct_at site d s of struct from = record {
    keyword = ends_struct (end_at t site.first) d.kind of.kind struct;
    named = record { name = from.name ∙ of.named.name; place = from.place ∙ of.named.place };
    members = subst (λ es. AreMembers t env es s.members.items) of.rest from.members;
  }

  by_kind : (site : Site) (d : Declaration) → IsOf t site d → d.kind ≢ kinds.Struct → end_at t site.first ≢ e.Struct
  by_kind site d of isnt is = isnt (sym (same_Some kinds.Struct d.kind (sym (ap declared_by is) ∙ of.kind)))

  by_none : (site : Site) → declared_by (end_at t site.first) ≡ None → end_at t site.first ≢ e.Struct
  by_none site none is = let no : Some kinds.Struct ≡ None = sym (ap declared_by is) ∙ none in cc

  told : {sites : List Site} {ds : List Declaration} {indices : List ℕ} {names : List (List ℕ)} → AreOf t sites ds → AreListed t env structs ds indices names
      → AreTold t env structs sites indices names
  told no_other none_listed = none_told
  told (no_declaration {site} none rest) h = other_told (by_none site none) (told rest h)
  told (declaration {site} {sites} {d} of rest) (other_listed isnt h) = other_told (by_kind site d of isnt) (told rest h)
  told (declaration {site} {sites} {d} of rest) (kept_listed is read h) = kept read.there (is_struct_at site d read.struct of is read.from) (told rest h)
  told (declaration {site} {sites} {d} of rest) (left_listed is h) = left_out (ends_struct (end_at t site.first) d.kind of.kind is) of.named.name (told rest h)
  told (misread isnt rest) (other_listed other h) = told rest h
  told (misread {sites} {d} isnt rest) (kept_listed is read h) = absurd (never_read t d isnt read.readable)
  told (misread isnt rest) (left_listed is h) = misread_told isnt.count isnt.name (told rest h)

  pub all_told : (whole : List Event) (ds : List Declaration) (indices : List ℕ) (names : List (List ℕ)) → AreAll t whole ds → AreListed t env structs ds indices names
      → AreAllTold t env whole structs indices names
  all_told whole ds indices names are h = record { sites = are.sites; there = are.there; told = told are.are h }
