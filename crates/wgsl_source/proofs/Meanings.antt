-- What declarations mean while they are read, and how they are listed.
use Rattle.std.proofs.Common.{◌≡◌, ◌≢◌, ℕ, zero, suc, false, List, [], ◌∷◌, ◌++◌, ◌⊎◌, inl, inr, length, replicate, set, IfOk, Result, Ok, Err, Option, Some, map, ap, refl, subst, sym, ◌∙◌, append_assoc, slice_get, append-nil}
use Rattle.wgsl_source.proofs.Common.{same_Some, Event, Grows, IsKept, Keeps, SameStructs, Declaration, MeasuredType, TypeKind, Reader, Scope, Struct, Text, Types}
use Rattle.wgsl_source.specs.Declarations.{declared_type, initializer}
use Rattle.wgsl_source.specs.internal.Read.{AreAllMeant, AreListed, AreMeant, AreMeantBy, IsConstantOf, IsMeant, IsMeantAt, IsMeantType, IsNothing, IsOfSort, IsReadAs, IsReadOfKind, IsTypeBy, IsValueBy, Lists, Means, Stays, kept_listed, left_listed, names_of, none_listed, none_meant, one_meant, other_listed}
use Rattle.wgsl_source.specs.declared.declaration.DeclarationKind.TheVariants as kinds
use Rattle.wgsl_source.specs.declared.listed.Listed.{Listed}
use Rattle.wgsl_source.specs.declared.measured.TypeKind.TheVariants as kind
use Rattle.wgsl_source.specs.declared.scope.Meaning.{Meaning}
use Rattle.wgsl_source.specs.declared.scope.Meaning.TheVariants as meaning
use Rattle.wgsl_source.specs.declared.value.Value.{Value}
use Rattle.wgsl_source.proofs.Declarations.{meant_at, still_members}
use Rattle.wgsl_source.proofs.Members.{still_at}
use Rattle.wgsl_source.proofs.Structs.{Knows}
use Rattle.wgsl_source.proofs.WrittenTypes.{stays_same, still_constant, still_type}
use Rattle.wgsl_source.specs.WrittenTypes.{Environment, HasInitial, HasType, HasTypeIf, environment}

-- more structs are read

still_of_kind : (t : Text) (a b : Scope) (x y : Types) (ss more : List Struct) (d : Declaration) (k : TypeKind) → Stays a b → Grows x y → IsReadOfKind t (environment a x) ss d k
    → IsReadOfKind t (environment b y) (ss ++ more) d k
still_of_kind t a b x y ss more d (kind.Struct index) s g h = record {
  readable = h.readable;
  struct = h.struct;
  there = still_at ss more index h.struct h.there;
  from = record { name = h.from.name; place = h.from.place; members = still_members t a b x y s g h.from.members };
}
still_of_kind t a b x y ss more d k s g h = absurd h

still_by : (t : Text) (a b : Scope) (x y : Types) (d : Declaration) (ty : MeasuredType) → Stays a b → Grows x y → IsTypeBy t (environment a x) d ty → IsTypeBy t (environment b y) d ty
still_by t a b x y d ty s g (inl struct) = inl struct
still_by t a b x y d ty s g (inr alias) = inr (alias.0, still_type t a b x y d.rest.now ty s g alias.1)

still_value_by : (t : Text) (a b : Scope) (x y : Types) (d : Declaration) (v : Value) → Stays a b → Grows x y → IsValueBy t (environment a x) d v → IsValueBy t (environment b y) d v
still_value_by t a b x y d v s g (inl override) = inl override
still_value_by t a b x y d v s g (inr constant) = inr (constant.0, still_constant t a b x y d.rest.now v s g constant.1)

module _ (t : Text) (a b : Scope) (x y : Types) (ss more : List Struct) (s : Stays a b) (g : Grows x y) where
  still_meant : (d : Declaration) (m : Meaning) → IsMeant t (environment a x) ss d m → IsMeant t (environment b y) (ss ++ more) d m
  still_meant d (meaning.«Type» ty) h = record {
    readable = h.readable;
    sort = still_by t a b x y d ty s g h.sort;
    struct = λ struct. still_of_kind t a b x y ss more d ty.kind s g (h.struct struct);
  }
  still_meant d (meaning.Value v) h = (h.0, still_value_by t a b x y d v s g h.1)
  still_meant d m h = h

  all_still_meant : {ds : List Declaration} {ms : List Meaning} → AreMeant t (environment a x) ss ds ms → AreMeant t (environment b y) (ss ++ more) ds ms
  all_still_meant none_meant = none_meant
  all_still_meant (one_meant {d} {m} is rest) = one_meant (still_meant d m is) (all_still_meant rest)

-- the text and the structs stay, or there are more structs, while names keep what they mean
go_on : (ds : List Declaration) (ms : List Meaning) (a b : Reader) (more : List Struct) → Stays a.scope b.scope → Grows a.types b.types → b.structs.items ≡ a.structs.items ++ more
    → b.scope.text ≡ a.scope.text → AreMeant a.scope.text (environment a.scope a.types) a.structs.items ds ms → AreMeant b.scope.text (environment b.scope b.types) b.structs.items ds ms
go_on ds ms a b more s g structs text h =
    subst (λ (t : Text). AreMeant t (environment b.scope b.types) b.structs.items ds ms) (sym text)
    (subst (λ ss. AreMeant a.scope.text (environment b.scope b.types) ss ds ms) (sym structs) (all_still_meant a.scope.text a.scope b.scope a.types b.types a.structs.items more s g h))

pub means_read : (ds : List Declaration) (Known : Knows) (a b : Reader) → Keeps Known a b → b.scope ≡ a.scope → Means ds a b
means_read ds Known a b h scope = record {
  still =
      λ are. subst (λ (s : Scope). AreMeant b.scope.text (environment b.scope b.types) b.structs.items ds s.meanings.items) (sym scope)
      (go_on ds a.scope.meanings.items a b h.added h.names h.grows h.kept h.text are);
}

pub means_further : (ds : List Declaration) (a b c : Reader) → Means ds a b → Means ds b c → Means ds a c
means_further ds a b c g h = record { still = λ are. h.still (g.still are) }

-- one meaning is set
pub set_meant : {Is : Declaration → Meaning → Type 0} (i : ℕ) (m : Meaning) {ds : List Declaration} {ms : List Meaning} → ((d : Declaration) → slice_get ds i ≡ Some d → Is d m)
    → AreMeantBy Is ds ms → AreMeantBy Is ds (set ms i m)
set_meant i m is none_meant = none_meant
set_meant zero m is (one_meant {d} old rest) = one_meant (is d refl) rest
set_meant (suc i) m is (one_meant old rest) = one_meant old (set_meant i m is rest)

pub means_set : (ds : List Declaration) (a b : Reader) (i : ℕ) (m : Meaning) → SameStructs a b → Stays a.scope b.scope → b.scope.meanings.items ≡ set a.scope.meanings.items i m
    → ((d : Declaration) → slice_get ds i ≡ Some d → IsMeant a.scope.text (environment a.scope a.types) a.structs.items d m) → Means ds a b
means_set ds a b i m same stays meanings is = record {
  still =
      λ h. subst (λ ms. AreMeant b.scope.text (environment b.scope b.types) b.structs.items ds ms) (sym meanings)
      (go_on ds (set a.scope.meanings.items i m) a b [] stays (record { added = []; kept = ap (λ es. es.items) same.0 ∙ sym (append-nil a.types.elements.items) })
      (ap (λ ss. ss.items) same.1 ∙ sym (append-nil a.structs.items)) same.2 (set_meant i m is h));
}

pub still_meant_at : (ds : List Declaration) (a : Reader) (s : Scope) (later : Types) (i : ℕ) (d : Declaration) → AreAllMeant ds a → s ≡ a.scope → Grows a.types later → slice_get ds i ≡ Some d
    → IsMeantAt s later i d
still_meant_at ds a s later i d are scope g at =
    subst (λ (s : Scope). IsMeantAt s later i d) (sym scope)
    (λ ty is.
    let h : IsMeantType a.scope.text (environment a.scope a.types) a.structs.items d ty = meant_at i d (meaning.«Type» ty) are at is in
    still_by a.scope.text a.scope a.scope a.types later d ty (stays_same a.scope a.scope refl) g h.sort)

pub alias_type : (t : Text) (env : Environment) (d : Declaration) (ty : MeasuredType) → IsTypeBy t env d ty → d.kind ≡ kinds.Alias → HasType t env d.rest.now ty
alias_type t env d ty (inl struct) is = absurd (let no : kinds.Struct ≡ kinds.Alias = sym struct ∙ is in cc)
alias_type t env d ty (inr alias) is = alias.1

pub constant_sort : {E : Type 0} (r : Result Meaning E) (t : Text) (env : Environment) (d : Declaration) (value : List Event) (ty : Option MeasuredType) → d.kind ≡ kinds.Constant
    → value ≡ initializer d.rest.now → HasTypeIf t env (declared_type d.rest.now) ty → IfOk r (IsConstantOf t env.named value ty) → IfOk r (IsOfSort t env d)
constant_sort (Ok (meaning.«Type» declared)) t env d value ty is at typed h = absurd h
constant_sort (Ok (meaning.Value v)) t env d value ty is at typed h = inr (is, (ty, typed, subst (λ es. HasInitial t env.named es ty v) at h))
constant_sort (Ok m) t env d value ty is at typed h = tt
constant_sort (Err e) t env d value ty is at typed h = tt

-- no declaration is read yet
pub all_unread : (ds : List Declaration) → AreMeantBy IsNothing ds (replicate (length ds) meaning.Unread)
all_unread [] = none_meant
all_unread (d ∷ ds) = one_meant tt (all_unread ds)

none_is : (t : Text) (env : Environment) (ss : List Struct) (d : Declaration) (m : Meaning) → IsNothing d m → IsMeant t env ss d m
none_is t env ss d (meaning.«Type» ty) none = absurd none
none_is t env ss d (meaning.Value v) none = absurd none
none_is t env ss d m none = none

pub none_are : (t : Text) (env : Environment) (ss : List Struct) {ds : List Declaration} {ms : List Meaning} → AreMeantBy IsNothing ds ms → AreMeant t env ss ds ms
none_are t env ss none_meant = none_meant
none_are t env ss (one_meant {d} {m} none rest) = one_meant (none_is t env ss d m none) (none_are t env ss rest)

-- a struct that is kept is meant
last_at : (ss : List Struct) (s : Struct) → slice_get (ss ++ s ∷ []) (length ss) ≡ Some s
last_at [] s = refl
last_at (x ∷ ss) s = last_at ss s

type_or : MeasuredType → Meaning → MeasuredType
type_or d (meaning.«Type» ty) = ty
type_or d _ = d

kept_meant : (t : Text) (env : Environment) (d : Declaration) (old new : List Struct) (m : Meaning) → d.is_faulty ≡ false → IsOfSort t env d m → (d.kind ≡ kinds.Struct → IsKept t env d old new m)
    → IsMeant t env new d m
unfolding type_or
kept_meant t env d old new (meaning.«Type» ty) readable sort all = record {
  readable = readable;
  sort = sort;
  struct = λ struct.
      let h = all struct in
      let at : IsReadAs t env new d (length old) =
      record { readable = readable; struct = h.struct; there = subst (λ ss. slice_get ss (length old) ≡ Some h.struct) (sym h.kept) (last_at old h.struct); from = h.from } in
      subst (λ (ty : MeasuredType). IsReadOfKind t env new d ty.kind) (sym (ap (type_or ty) h.named)) (subst (λ k. IsReadOfKind t env new d k) (sym h.is.kind) at);
}
kept_meant t env d old new (meaning.Value v) readable sort all = (readable, sort)
kept_meant t env d old new m readable sort all = tt

pub kept_at : (a b : Scope) (types : Types) (ds : List Declaration) (i : ℕ) (d : Declaration) (old new : List Struct) (m : Meaning) → b ≡ a → slice_get ds i ≡ Some d → d.is_faulty ≡ false
    → IsOfSort a.text (environment a types) d m → (d.kind ≡ kinds.Struct → IsKept a.text (environment a types) d old new m) → (e : Declaration) → slice_get ds i ≡ Some e → IsMeant b.text (environment b types) new e m
kept_at a b types ds i d old new m same is readable sort all e at =
    subst (λ (s : Scope). IsMeant s.text (environment s types) new e m) (sym same)
    (subst (λ x. IsMeant a.text (environment a types) new x m) (same_Some d e (sym is ∙ at)) (kept_meant a.text (environment a types) d old new m readable sort all))

-- declarations are listed

both_listed : {t : Text} {env : Environment} {ss : List Struct} {ds es : List Declaration} {is js : List ℕ} {ns ms : List (List ℕ)} → AreListed t env ss ds is ns → AreListed t env ss es js ms
    → AreListed t env ss (ds ++ es) (is ++ js) (ns ++ ms)
both_listed none_listed h = h
both_listed (other_listed isnt rest) h = other_listed isnt (both_listed rest h)
both_listed (kept_listed struct read rest) h = kept_listed struct read (both_listed rest h)
both_listed (left_listed struct rest) h = left_listed struct (both_listed rest h)

pub unlisted : (t : Text) (env : Environment) (ss : List Struct) (d : Declaration) (old new : Listed) → d.kind ≢ kinds.Struct → new.in_text ≡ old.in_text → new.left_out ≡ old.left_out → Lists t env ss (d ∷ []) old new
unlisted t env ss d old new isnt indices names = record {
  indices = [];
  names = [];
  more_indices = ap (λ is. is.items) indices ∙ sym (append-nil old.in_text.items);
  more_names = ap (λ ns. map (λ name. name.now) ns.items) names ∙ sym (append-nil (names_of old));
  are = other_listed isnt none_listed;
}

-- what is listed so far, in front of the declarations that are left
pub record ListedSoFar (t : Text) (env : Environment) (ss : List Struct) (whole left : List Declaration) (meanings : List Meaning) (l : Listed) : Type 0 where
  pub meant : AreMeant t env ss left meanings
  pub back : {is : List ℕ} {ns : List (List ℕ)} → AreListed t env ss left is ns → AreListed t env ss whole (l.in_text.items ++ is) (names_of l ++ ns)

module _ (t : Text) (env : Environment) (ss : List Struct) (whole : List Declaration) where
  pub none_yet : (left : List Declaration) (ms now : List Meaning) (l : Listed) → left ≡ whole → now ≡ ms → AreMeant t env ss whole ms → l.in_text.items ≡ [] → l.left_out.items ≡ []
      → ListedSoFar t env ss whole left now l
  none_yet left ms now l all is meant indices names = record {
    meant = subst (λ ds. AreMeant t env ss ds now) (sym all) (subst (λ xs. AreMeant t env ss whole xs) (sym is) meant);
    back =
        λ {is = js} {ns = xs} h. subst (λ ys. AreListed t env ss whole (ys ++ js) (names_of l ++ xs)) (sym indices)
        (subst (λ vs. AreListed t env ss whole js (map (λ name. name.now) vs ++ xs)) (sym names) (subst (λ ds. AreListed t env ss ds js xs) all h));
  }

  meaning_first : {d : Declaration} {m : Meaning} {ds : List Declaration} {ms : List Meaning} → AreMeant t env ss (d ∷ ds) (m ∷ ms) → IsMeant t env ss d m
  meaning_first (one_meant is rest) = is

  meanings_left : {d : Declaration} {m : Meaning} {ds : List Declaration} {ms : List Meaning} → AreMeant t env ss (d ∷ ds) (m ∷ ms) → AreMeant t env ss ds ms
  meanings_left (one_meant is rest) = rest

  pub one_listed : (left rest : List Declaration) (ms ns : List Meaning) (d : Declaration) (m : Meaning) (old new : Listed) → left ≡ d ∷ rest → ms ≡ m ∷ ns
      → (IsMeant t env ss d m → Lists t env ss (d ∷ []) old new) → ListedSoFar t env ss whole left ms old → ListedSoFar t env ss whole rest ns new
  one_listed left rest ms ns d m old new is at lists h =
      let meant = subst (λ xs. AreMeant t env ss (d ∷ rest) xs) at (subst (λ xs. AreMeant t env ss xs ms) is h.meant) in
      let more = lists (meaning_first meant) in
      record {
        meant = meanings_left meant;
        back = λ {is = js} {ns = xs} others.
            let all = h.back (subst (λ ds. AreListed t env ss ds (more.indices ++ js) (more.names ++ xs)) (sym is) (both_listed more.are others)) in
            subst (λ ys. AreListed t env ss whole ys (names_of new ++ xs)) (sym (append_assoc old.in_text.items more.indices js) ∙ ap (λ ys. ys ++ js) (sym more.more_indices))
            (subst (λ ys. AreListed t env ss whole (old.in_text.items ++ (more.indices ++ js)) ys) (sym (append_assoc (names_of old) more.names xs) ∙ ap (λ ys. ys ++ xs) (sym more.more_names)) all);
      }

  pub all_listed : (left : List Declaration) (ms : List Meaning) (l : Listed) → (left ≡ []) ⊎ (ms ≡ []) → ListedSoFar t env ss whole left ms l → AreListed t env ss whole l.in_text.items (names_of l)
  all_listed left ms l none h =
      subst (λ is. AreListed t env ss whole is (names_of l)) (append-nil l.in_text.items)
      (subst (λ ns. AreListed t env ss whole (l.in_text.items ++ []) ns) (append-nil (names_of l)) (h.back (nothing h.meant none)))
    where
      nothing : {left : List Declaration} {ms : List Meaning} → AreMeant t env ss left ms → (left ≡ []) ⊎ (ms ≡ []) → AreListed t env ss left [] []
      nothing none_meant none = none_listed
      nothing (one_meant {d} {m} {ds} {ms} is rest) (inl at) = let bad : d ∷ ds ≡ [] = at in absurd (cc)
      nothing (one_meant {d} {m} {ds} {ms} is rest) (inr at) = let bad : m ∷ ms ≡ [] = at in absurd (cc)
