-- What is read of a written type, and what stays known of it.
use Rattle.std.proofs.Common.{◌≡◌, ◌≢◌, ◌<◌, ◌+◌, ◌-◌, Bool, true, false, bytes_eq, cond, ℕ, zero, suc, List, [], ◌∷◌, ◌++◌, drop, get_or, length, take, All, IfOk, OnOk, Result, Ok, Err, Option, Some, None, option_and_then, slice_get, set, refl, sym, ap, subst, ◌∙◌, arith, append_assoc}
use Rattle.std.proofs.lemmas.Slice.Eq.{bytes_eq-Decides}
use Rattle.std.proofs.lemmas.Map.Text.{btree_map_updates_str}
use Rattle.std.specs.BTreeMap.{UpdatesBy, get_by}
use Rattle.std.specs.Cmp.Lexicographic.{slice_cmp}
use Rattle.std.specs.Ordering.{nat_cmp}
use Rattle.wgsl_reader.specs.declared.kind.Kind.{Kind}
use Rattle.wgsl_reader.specs.declared.kind.Kind.TheVariants as k
use Rattle.wgsl_reader.specs.declared.mark.Mark.{Mark}
use Rattle.wgsl_reader.specs.declared.mark.Mark.TheVariants as m
use Rattle.wgsl_reader.specs.declared.token.Token.{Token}
use Rattle.wgsl_source.proofs.Common.{at_drop_more, same_Some, Event, word, token_before, Count, Declaration, Grows, MeasuredType, Scope, Text, Types}
use Rattle.wgsl_source.proofs.Members.{still_at}
use Rattle.wgsl_source.specs.Calls.{callee_named, callee_of}
use Rattle.wgsl_source.specs.Declarations.{declared_type, initializer}
use Rattle.wgsl_source.specs.TextDeclarations.{HasScalar, declared, of_default}
use Rattle.wgsl_source.specs.TemplateLists.{AreParameters, IsFlag, IsListedAs, IsSampledBy}
use Rattle.wgsl_source.specs.WrittenTypes.{AreElements, BecomesValue, Closes, Environment, HasConstant, HasType, HasTypeIf, HasValue, IsAround, IsBinary, IsCount, IsElementOf, IsLayered, IsListed, IsListedBy, IsMemberOf, IsNoSign, IsPointer, IsSettled, IsTypeSaid, IsUnary, IsValueCalled, IsValueSaid, StandsFor, Step, Steps, environment, index_of, item, meaning_of}
use Rattle.wgsl_spelling.specs.declared.predeclared.LayerName.{LayerName}
use Rattle.wgsl_spelling.specs.declared.predeclared.LayerName.TheVariants as layer
use Rattle.wgsl_spelling.specs.declared.predeclared.PredeclaredType.{PredeclaredType}
use Rattle.wgsl_spelling.specs.declared.predeclared.PredeclaredType.TheVariants as p
use Rattle.wgsl_syntax.specs.declared.address.AccessMode.{AccessMode}
use Rattle.wgsl_syntax.specs.declared.address.AddressSpace.{AddressSpace}
use Rattle.wgsl_syntax.specs.declared.attribute.AccelerationStructureFlags.{AccelerationStructureFlags}
use Rattle.wgsl_syntax.specs.declared.scalar.Scalar.{Scalar}
use Rattle.wgsl_syntax.specs.declared.texture.SampledType.{SampledType}
use Rattle.wgsl_syntax.specs.declared.texture_name.TextureParameters.{TextureParameters}
use Rattle.wgsl_syntax.specs.declared.texture_name.TextureParameters.TheVariants as parameters
use Rattle.wgsl_source.specs.declared.call.Callee.{Callee}
use Rattle.wgsl_source.specs.declared.value.Value.{Value}
use Rattle.wgsl_source.specs.internal.Items.{HasAccess, IsPut, NamesAccess}
use Rattle.wgsl_source.specs.internal.Read.{AreNamed, Stays}
use Rattle.wgsl_source.specs.declared.item.Content.{Content}
use Rattle.wgsl_source.specs.declared.item.Content.TheVariants as content
use Rattle.wgsl_source.specs.declared.item.Item.{Item}
use Rattle.wgsl_source.specs.declared.scope.Meaning.{Meaning}
use Rattle.wgsl_source.specs.declared.scope.Meaning.TheVariants as meaning

-- one event more

pub one_step : (t : Text) (e : Environment) (events : List Event) (i : ℕ) (event : Event) (items next new : List Item) → i < length events
    → Step t e (get_or events i event).mark (token_before t (get_or events i event).at) items next → Steps t e (drop (i + 1) events) next new → Steps t e (drop i events) items new
one_step t e events i event items next new within step rest = subst (λ es. Steps t e es items new) (sym (at_drop_more (λ es. es) events i event within)) (next, step, rest)

-- items at the end are replaced

pub value_put : {A E C : Type 0} (Is : List Item → Value → Type 0) (r : Result A E) (u : Result Value C) (items left taken new : List Item) (first : Item) → items ≡ left ++ taken → IfOk u (Is taken)
    → OnOk r (IsPut u first left new) → OnOk r (BecomesValue Is items new)
value_put Is (Ok x) (Ok v) items left taken new first there is put =
    record { front = left; taken = taken; there = there; token = first.token; value = v; is = is; replaced = put }
value_put Is (Ok x) (Err c) items left taken new first there is put = absurd put
value_put Is (Err x) u items left taken new first there is put = tt

pub one_more_taken : (items left rest taken : List Item) (i : Item) → items ≡ left ++ taken → left ≡ rest ++ i ∷ [] → items ≡ rest ++ i ∷ taken
one_more_taken items left rest taken i is one = is ∙ (ap (λ xs. xs ++ taken) one ∙ append_assoc rest (i ∷ []) taken)

two_at : {A : Type 0} (xs : List A) (i : ℕ) (a b : A) → slice_get xs i ≡ Some a → slice_get xs (suc i) ≡ Some b → xs ≡ take i xs ++ a ∷ b ∷ drop (suc (suc i)) xs
two_at [] i a b first second = absurd (let no : None ≡ Some a = first in cc)
two_at (x ∷ []) zero a b first second = absurd (let no : None ≡ Some b = second in cc)
two_at (x ∷ y ∷ xs) zero a b first second = subst (λ z. x ∷ y ∷ xs ≡ z ∷ b ∷ xs) (same_Some x a first) (ap (λ z. x ∷ z ∷ xs) (same_Some y b second))
two_at (x ∷ xs) (suc i) a b first second = ap (λ ys. x ∷ ys) (two_at xs i a b first second)

-- what is known of the sign in front of an index
abbrev pub IsBehindSign : Kind → List Item → ℕ → Type 0
IsBehindSign sign items first = 0 < first → (it : Item) × (slice_get items (first - 1) ≡ Some it) × (it.content ≡ content.Sign sign)

pub closed : {A E : Type 0} (r : Result A E) (sign : Kind) (Is : Item → List Item → Content → Type 0) (items all listed left new : List Item) (name : Item) (first at : ℕ) (c : Content) → all ≡ items
    → IsBehindSign sign all first → All (IsNoSign sign) (drop first all) → first ≡ suc (suc at) → slice_get all at ≡ Some name → listed ≡ drop first all → left ≡ take at items → Is name listed c
    → OnOk r (new ≡ left ++ item name.token c ∷ []) → OnOk r (Closes sign Is items new)
closed (Ok x) sign Is items all listed left new name first at c same signs last is named behind cut by replaced =
    let signed : (it : Item) × (slice_get all (suc (suc at) - 1) ≡ Some it) × (it.content ≡ content.Sign sign) = subst (IsBehindSign sign all) is signs (omega arith) in
    let one : suc (suc at) - 1 ≡ suc at = omega arith in
    record {
      front = take at items;
      name = name;
      opening = signed.0;
      listed = listed;
      there = subst (λ xs. xs ≡ take at xs ++ name ∷ signed.0 ∷ listed) same
          (two_at all at name signed.0 named (subst (λ n. slice_get all n ≡ Some signed.0) one signed.1) ∙ ap (λ xs. take at all ++ name ∷ signed.0 ∷ xs) (sym (behind ∙ ap (λ n. drop n all) is)));
      opens = signed.2;
      last = subst (λ xs. All (IsNoSign sign) xs) (sym behind) last;
      content = c;
      is = by;
      replaced = replaced ∙ ap (λ xs. xs ++ item name.token c ∷ []) cut;
    }
closed (Err x) sign Is items all listed left new name first at c same signs last is named behind cut by replaced = tt

-- what is known stays known

pub stays_same : (a b : Scope) → b ≡ a → Stays a b
stays_same a b is = subst (λ (s : Scope). Stays a s) (sym is) (record { names = refl; meanings = λ name m read at. at; undeclared = λ name none. none })

pub stays_further : (a b c : Scope) → Stays a b → Stays b c → Stays a c
stays_further a b c g h = record {
  names = h.names ∙ g.names;
  meanings = λ name m read at. h.meanings name m read (g.meanings name m read at);
  undeclared = λ name none. h.undeclared name (g.undeclared name none);
}

still_named : (name : List ℕ) (a b : Option Meaning) (ty : MeasuredType) → ((t : MeasuredType) → a ≡ Some (meaning.«Type» t) → b ≡ Some (meaning.«Type» t)) → (a ≡ None → b ≡ None)
    → StandsFor name a ty → StandsFor name b ty
still_named name (Some (meaning.«Type» t)) b ty types none h = subst (λ m. StandsFor name m ty) (sym (types t refl)) h
still_named name (Some meant) b ty types none h = absurd h
still_named name None b ty types none h = subst (λ m. StandsFor name m ty) (sym (none refl)) h

type_read : (ty : MeasuredType) → meaning.«Type» ty ≢ meaning.Unread
type_read ty is = let no : meaning.«Type» ty ≡ meaning.Unread = is in cc

value_read : (v : Value) → meaning.Value v ≢ meaning.Unread
value_read v is = let no : meaning.Value v ≡ meaning.Unread = is in cc

still_there : (x y : Types) → Grows x y → (index : ℕ) (ty : MeasuredType) → slice_get x.elements.items index ≡ Some ty → slice_get y.elements.items index ≡ Some ty
still_there x y g index ty at = subst (λ es. slice_get es index ≡ Some ty) (sym g.kept) (still_at x.elements.items g.added index ty at)

module _ (t : Text) (e f : Environment) (read : (name : List ℕ) (m : Meaning) → m ≢ meaning.Unread → e.named name ≡ Some m → f.named name ≡ Some m)
    (undeclared : (name : List ℕ) → e.named name ≡ None → f.named name ≡ None)
    (there : (index : ℕ) (ty : MeasuredType) → slice_get e.elements index ≡ Some ty → slice_get f.elements index ≡ Some ty) where
  still_said : (k : Token) (c : Content) (ty : MeasuredType) → IsTypeSaid t e.named k c ty → IsTypeSaid t f.named k c ty
  still_said k content.Name ty h =
      let name = word t.text.now k in
      still_named name (e.named name) (f.named name) ty (λ ty at. read name (meaning.«Type» ty) (type_read ty) at) (undeclared name) h
  still_said k other ty h = h

  still_value : (k : Token) (c : Content) (v : Value) → IsValueSaid t e.named k c v → IsValueSaid t f.named k c v
  still_value k content.Name v h = read (word t.text.now k) (meaning.Value v) (value_read v) h
  still_value k other v h = h

  still_count : (items : List Item) (c : Count) → IsCount t e.named items c → IsCount t f.named items c
  still_count [] c h = h
  still_count (i ∷ []) c h = (h.0, still_value i.token i.content h.0 h.1, h.2)
  still_count (i ∷ j ∷ more) c h = h

  still_elements : (items : List Item) (ty : MeasuredType) (c : Count) → AreElements t e.named items ty c → AreElements t f.named items ty c
  still_elements [] ty c h = h
  still_elements (i ∷ rest) ty c h = (still_said i.token i.content ty h.0, still_count rest c h.1)

  still_around : (l : LayerName) (items : List Item) (ty : MeasuredType) → IsAround t e.named l items ty → IsAround t f.named l items ty
  still_around l [] ty h = h
  still_around l (i ∷ []) ty h = (h.0, still_said i.token i.content h.0 h.1, h.2)
  still_around l (i ∷ j ∷ more) ty h = h

  still_mode : (i : Item) (access : AccessMode) → NamesAccess t e.named i access → NamesAccess t f.named i access
  still_mode i access h = record { name = h.name; undeclared = undeclared (word t.text.now i.token) h.undeclared; text = h.text }

  still_access : (space : AddressSpace) (items : List Item) (access : AccessMode) → HasAccess t e.named space items access → HasAccess t f.named space items access
  still_access space [] access h = h
  still_access space (i ∷ []) access h = (still_mode i access h.0, h.1)
  still_access space (i ∷ j ∷ more) access h = h

  still_flag : (items : List Item) (flag : AccelerationStructureFlags) → IsFlag t e.named items flag → IsFlag t f.named items flag
  still_flag (i ∷ []) flag h = record { name = h.name; undeclared = undeclared (word t.text.now i.token) h.undeclared; text = h.text }
  still_flag items flag h = absurd h

  still_pointer : (items : List Item) (ty : MeasuredType) → IsPointer t e items ty → IsPointer t f items ty
  still_pointer [] ty h = h
  still_pointer (i ∷ []) ty h = h
  still_pointer (i ∷ j ∷ rest) ty h = record {
    space = h.space;
    access = h.access;
    inside = h.inside;
    index = h.index;
    names = record { name = h.names.name; undeclared = undeclared (word t.text.now i.token) h.names.undeclared; text = h.names.text };
    said = still_said j.token j.content h.inside h.said;
    accessed = still_access h.space rest h.access h.accessed;
    is = h.is;
    there = there h.index h.inside h.there;
  }

  still_layered : (l : LayerName) (items : List Item) (ty : MeasuredType) → IsLayered t e l items ty → IsLayered t f l items ty
  still_layered layer.Array items ty h = record {
    element = h.element;
    count = h.count;
    said = still_elements items h.element h.count h.said;
    is = record { index = h.is.index; kind = h.is.kind; there = there h.is.index h.element h.is.there; measure = h.is.measure };
  }
  still_layered layer.BindingArray items ty h = record {
    element = h.element;
    count = h.count;
    said = still_elements items h.element h.count h.said;
    index = h.index;
    is = h.is;
    there = there h.index h.element h.there;
  }
  still_layered layer.Pointer items ty h = still_pointer items ty h
  still_layered l items ty h = still_around l items ty h

  still_sampled : (name : List ℕ) (m n : Option Meaning) (sampled : SampledType) → ((ty : MeasuredType) → m ≡ Some (meaning.«Type» ty) → n ≡ Some (meaning.«Type» ty)) → (m ≡ None → n ≡ None)
      → IsSampledBy name m sampled → IsSampledBy name n sampled
  still_sampled name (Some (meaning.«Type» ty)) n sampled types none h = subst (λ m. IsSampledBy name m sampled) (sym (types ty refl)) h
  still_sampled name (Some meant) n sampled types none h = absurd h
  still_sampled name None n sampled types none h = subst (λ m. IsSampledBy name m sampled) (sym (none refl)) h

  still_parameters : (items : List Item) (ps : TextureParameters) → AreParameters t e.named items ps → AreParameters t f.named items ps
  still_parameters (i ∷ []) (parameters.Sampled sampled) h =
      let name = word t.text.now i.token in
      record { name = h.name; is = still_sampled name (e.named name) (f.named name) sampled (λ ty at. read name (meaning.«Type» ty) (type_read ty) at) (undeclared name) h.is }
  still_parameters (i ∷ j ∷ []) (parameters.Storage format access) h =
      (record { name = h.0.name; undeclared = undeclared (word t.text.now i.token) h.0.undeclared; text = h.0.text }, still_mode j access h.1)
  still_parameters items other h = absurd h

  still_listed : (named : PredeclaredType) (items : List Item) (ty : MeasuredType) → IsListed t e named items ty → IsListed t f named items ty
  still_listed (p.Layer l) items ty h = still_layered l items ty h
  still_listed (p.Texture name) items ty h = (h.0, record { parameters = h.1.parameters; said = still_parameters items h.1.parameters h.1.said; is = h.1.is }, h.2)
  still_listed p.RayQuery items ty h = (h.0, still_flag items h.0 h.1, h.2)
  still_listed p.AccelerationStructure items ty h = (h.0, still_flag items h.0 h.1, h.2)
  still_listed named items ty h = absurd h

  still_listed_as : (name : List ℕ) (items : List Item) (c : Content) → IsListedAs t e name items c → IsListedAs t f name items c
  still_listed_as name items (content.«Type» ty) h = (h.0, h.1, still_listed h.0 items ty h.2)
  still_listed_as name (i ∷ []) (content.Bitcast scalar) h = (h.0, h.1, still_said i.token i.content h.1 h.2, h.3)
  still_listed_as name items content.Function h = h
  still_listed_as name items other h = absurd h

  still_callee_named : (name : List ℕ) (m n : Option Meaning) (callee : Callee) → ((ty : MeasuredType) → m ≡ Some (meaning.«Type» ty) → n ≡ Some (meaning.«Type» ty)) → (m ≡ None → n ≡ None)
      → callee_named name m ≡ Some callee → callee_named name n ≡ Some callee
  still_callee_named name (Some (meaning.«Type» ty)) n callee types none h = ap (callee_named name) (types ty refl) ∙ h
  still_callee_named name (Some meant) n callee types none h = absurd (let no : None ≡ Some callee = h in cc)
  still_callee_named name None n callee types none h = ap (callee_named name) (none refl) ∙ h

  still_callee : (k : Token) (c : Content) (callee : Callee) → callee_of t e.named k c ≡ Some callee → callee_of t f.named k c ≡ Some callee
  still_callee k content.Name callee h =
      let name = word t.text.now k in
      still_callee_named name (e.named name) (f.named name) callee (λ ty at. read name (meaning.«Type» ty) (type_read ty) at) (undeclared name) h
  still_callee k other callee h = h

  still_called : (name : Item) (items : List Item) (c : Content) → IsValueCalled t e.named name items c → IsValueCalled t f.named name items c
  still_called name items (content.Value v) h = (h.0, still_callee name.token name.content h.0 h.1, h.2)
  still_called name items other h = absurd h

  still_settled : (items : List Item) (v : Value) → IsSettled t e.named items v → IsSettled t f.named items v
  still_settled (i ∷ []) v h = still_value i.token i.content v h
  still_settled items v h = absurd h

  still_unary : (items : List Item) (v : Value) → IsUnary t e.named items v → IsUnary t f.named items v
  still_unary (sign ∷ i ∷ []) v h = (h.0, still_value i.token i.content h.0 h.1, h.2)
  still_unary items v h = absurd h

  still_binary : (items : List Item) (v : Value) → IsBinary t e.named items v → IsBinary t f.named items v
  still_binary (i ∷ sign ∷ j ∷ []) v h = (h.0, h.1, still_value i.token i.content h.0 h.2, still_value j.token j.content h.1 h.3, h.4)
  still_binary items v h = absurd h

  still_member : (letter : Token) (items : List Item) (v : Value) → IsMemberOf t e.named letter items v → IsMemberOf t f.named letter items v
  still_member letter (i ∷ []) v h = (h.0, still_value i.token i.content h.0 h.1, h.2)
  still_member letter items v h = absurd h

  still_element : (items : List Item) (v : Value) → IsElementOf t e.named items v → IsElementOf t f.named items v
  still_element (i ∷ sign ∷ j ∷ []) v h = (h.0, h.1, still_value i.token i.content h.0 h.2, still_value j.token j.content h.1 h.3, h.4)
  still_element items v h = absurd h

  still_closes : (sign : Kind) (P Q : Item → List Item → Content → Type 0) (items new : List Item) → ((name : Item) (listed : List Item) (c : Content) → P name listed c → Q name listed c) → Closes sign P items new
      → Closes sign Q items new
  still_closes sign P Q items new all h = record {
    front = h.front;
    name = h.name;
    opening = h.opening;
    listed = h.listed;
    there = h.there;
    opens = h.opens;
    last = h.last;
    content = h.content;
    is = all h.name h.listed h.content h.is;
    replaced = h.replaced;
  }

  still_becomes : (P Q : List Item → Value → Type 0) (items new : List Item) → ((taken : List Item) (v : Value) → P taken v → Q taken v) → BecomesValue P items new → BecomesValue Q items new
  still_becomes P Q items new all h =
      record { front = h.front; taken = h.taken; there = h.there; token = h.token; value = h.value; is = all h.taken h.value h.is; replaced = h.replaced }

  still_step : (mark : Mark) (token : Token) (items new : List Item) → Step t e mark token items new → Step t f mark token items new
  still_step m.Template token items new h = still_closes k.OpenTemplate (IsListedBy t e) (IsListedBy t f) items new
      (λ name listed c is. (undeclared (word t.text.now name.token) is.0, still_listed_as (word t.text.now name.token) listed c is.1)) h
  still_step m.Call token items new h = still_closes k.OpenRound (IsValueCalled t e.named) (IsValueCalled t f.named) items new still_called h
  still_step m.Argument token items new h = still_becomes (IsSettled t e.named) (IsSettled t f.named) items new still_settled h
  still_step m.Brackets token items new h = still_becomes (IsSettled t e.named) (IsSettled t f.named) items new still_settled h
  still_step m.Unary token items new h = still_becomes (IsUnary t e.named) (IsUnary t f.named) items new still_unary h
  still_step m.Binary token items new h = still_becomes (IsBinary t e.named) (IsBinary t f.named) items new still_binary h
  still_step m.MemberOf token items new h = still_becomes (IsMemberOf t e.named token) (IsMemberOf t f.named token) items new (still_member token) h
  still_step m.Element token items new h = still_becomes (IsElementOf t e.named) (IsElementOf t f.named) items new still_element h
  still_step other token items new h = h

  still_steps : (events : List Event) (items new : List Item) → Steps t e events items new → Steps t f events items new
  still_steps [] items new h = h
  still_steps (event ∷ events) items new h = (h.0, still_step event.mark (token_before t event.at) items h.0 h.1, still_steps events h.0 new h.2)

pub still_type : (t : Text) (a b : Scope) (x y : Types) (events : List Event) (ty : MeasuredType) → Stays a b → Grows x y → HasType t (environment a x) events ty → HasType t (environment b y) events ty
still_type t a b x y events ty s g h =
    let e = environment a x in
    let f = environment b y in
    (h.0, still_steps t e f s.meanings s.undeclared (still_there x y g) events [] (h.0 ∷ []) h.1, still_said t e f s.meanings s.undeclared (still_there x y g) h.0.token h.0.content ty h.2)

pub still_scalar : (t : Text) (s : Scope) (x y : Types) (ty value : List Event) (scalar : Option Scalar) → Grows x y → HasScalar t (environment s x) ty value scalar
    → HasScalar t (environment s y) ty value scalar
still_scalar t s x y ty value scalar g (declared h) = declared (h.0, still_type t s s x y ty h.0 (stays_same s s refl) g h.1, h.2)
still_scalar t s x y ty value scalar g (of_default none h) = of_default none h

-- one step more is taken while the events are read
pub all_steps : (t : Text) (s : Scope) (x y : Types) (events : List Event) (i : ℕ) (event : Event) (items next new : List Item) → i < length events → Grows x y
    → Step t (environment s x) (get_or events i event).mark (token_before t (get_or events i event).at) items next → Steps t (environment s y) (drop (i + 1) events) next new
    → Steps t (environment s y) (drop i events) items new
all_steps t s x y events i event items next new within g step rest =
    one_step t (environment s y) events i event items next new within
    (still_step t (environment s x) (environment s y) (λ name m isnt is. is) (λ name is. is) (still_there x y g) (get_or events i event).mark (token_before t (get_or events i event).at) items next step) rest

pub still_value_of : (t : Text) (a b : Scope) (events : List Event) (v : Value) → Stays a b → HasValue t (meaning_of a) events v → HasValue t (meaning_of b) events v
still_value_of t a b events v s h =
    let e : Environment = record { named = meaning_of a; elements = h.elements } in
    let f : Environment = record { named = meaning_of b; elements = h.elements } in
    record {
      elements = h.elements;
      x = h.x;
      made = still_steps t e f s.meanings s.undeclared (λ index ty at. at) events [] (h.x ∷ []) h.made;
      said = still_value t e f s.meanings s.undeclared (λ index ty at. at) h.x.token h.x.content v h.said;
    }

pub still_type_if : (t : Text) (a b : Scope) (x y : Types) (events : List Event) (ty : Option MeasuredType) → Stays a b → Grows x y → HasTypeIf t (environment a x) events ty
    → HasTypeIf t (environment b y) events ty
still_type_if t a b x y events (Some ty) s g h = still_type t a b x y events ty s g h
still_type_if t a b x y events None s g h = h

pub still_constant : (t : Text) (a b : Scope) (x y : Types) (events : List Event) (v : Value) → Stays a b → Grows x y → HasConstant t (environment a x) events v → HasConstant t (environment b y) events v
still_constant t a b x y events v s g h =
    (h.0, still_type_if t a b x y (declared_type events) h.0 s g h.1, (h.2.0, still_value_of t a b (initializer events) h.2.0 s h.2.1, h.2.2))

-- the one item is the type
pub noted : {E : Type 0} (t : Text) (s : Scope) (x y : Types) (events : List Event) (none items : List Item) (i : Item) (r : Result MeasuredType E) → none ≡ [] → items ≡ i ∷ []
    → Grows x y → Steps t (environment s x) events none items → IfOk r (IsTypeSaid t (meaning_of s) i.token i.content) → IfOk r (HasType t (environment s y) events)
noted t s x y events none items i (Ok ty) empty one g steps said =
    (i, still_steps t (environment s x) (environment s y) (λ name m isnt is. is) (λ name is. is) (still_there x y g) events [] (i ∷ []) (subst (λ xs. Steps t (environment s x) events [] xs) one (subst (λ xs. Steps t (environment s x) events xs items) empty steps)), said)
noted t s x y events none items i (Err e) empty one g steps said = tt

-- the one item is the value
pub value_made : (t : Text) (s : Scope) (x : Types) (events : List Event) (none items : List Item) (i : Item) (v : Value) → none ≡ [] → items ≡ i ∷ []
    → Steps t (environment s x) events none items → IsValueSaid t (meaning_of s) i.token i.content v → HasValue t (meaning_of s) events v
value_made t s x events none items i v empty one steps said = record {
  elements = x.elements.items;
  x = i;
  made = subst (λ xs. Steps t (environment s x) events [] xs) one (subst (λ xs. Steps t (environment s x) events xs items) empty steps);
  said = said;
}

-- a declaration gets its name

pub named_more : (ds : List Declaration) (a b : Scope) (i : ℕ) (d : Declaration) → slice_get ds i ≡ Some d
    → UpdatesBy (λ x y. slice_cmp nat_cmp x.now y.now) (λ k. slice_cmp nat_cmp d.name.now k.now) a.names b.names (Some i) → AreNamed ds a → AreNamed ds b
named_more ds a b i d at puts are = λ name index is. by (bytes_eq d.name.now name) name index refl (sym (btree_map_updates_str d.name.now a.names b.names (Some i) puts name) ∙ is)
  where
    by : (same : Bool) (name : List ℕ) (index : ℕ) → bytes_eq d.name.now name ≡ same → cond same (Some i) (index_of a name) ≡ Some index
        → (d : Declaration) × (slice_get ds index ≡ Some d) × (d.name.now ≡ name)
    by true name index same is = (d, subst (λ j. slice_get ds j ≡ Some d) (same_Some i index is) at, (bytes_eq-Decides d.name.now name).0 same)
    by false name index same is = are name index is

pub named_same : (ds : List Declaration) (a b : Scope) → b.names ≡ a.names → AreNamed ds a → AreNamed ds b
named_same ds a b same are = λ name index is. are name index (ap (λ names. get_by (λ key. slice_cmp nat_cmp name key.now) names) (sym same) ∙ is)

-- the meaning of a declaration that isn't read yet is set

set_read : (xs : List Meaning) (i j : ℕ) (m n : Meaning) → n ≢ meaning.Unread → slice_get xs i ≡ Some meaning.Unread → slice_get xs j ≡ Some n → slice_get (set xs i m) j ≡ Some n
set_read [] i j m n read unread is = absurd (let no : None ≡ Some n = is in cc)
set_read (x ∷ xs) zero zero m n read unread is = absurd (read (sym (same_Some meaning.Unread n (sym unread ∙ is))))
set_read (x ∷ xs) zero (suc j) m n read unread is = is
set_read (x ∷ xs) (suc i) zero m n read unread is = is
set_read (x ∷ xs) (suc i) (suc j) m n read unread is = set_read xs i j m n read unread is

set_none : (xs : List Meaning) (i j : ℕ) (m : Meaning) → slice_get xs j ≡ None → slice_get (set xs i m) j ≡ None
set_none [] i j m is = is
set_none (x ∷ xs) zero zero m is = absurd (let no : Some x ≡ None = is in cc)
set_none (x ∷ xs) zero (suc j) m is = is
set_none (x ∷ xs) (suc i) zero m is = is
set_none (x ∷ xs) (suc i) (suc j) m is = set_none xs i j m is

pub stays_set : (a b : Scope) (i : ℕ) (m : Meaning) → b.names ≡ a.names → b.meanings.items ≡ set a.meanings.items i m → slice_get a.meanings.items i ≡ Some meaning.Unread → Stays a b
stays_set a b i m names meanings unread = record {
  names = names;
  meanings = λ name n read at. moved name ∙ read_at n read (index_of a name) at;
  undeclared = λ name none. moved name ∙ none_at (index_of a name) none;
}
  where
    same_index : (name : List ℕ) → index_of b name ≡ index_of a name
    same_index name = ap (λ names. get_by (λ key. slice_cmp nat_cmp name key.now) names) names

    moved : (name : List ℕ) → meaning_of b name ≡ option_and_then (slice_get (set a.meanings.items i m)) (index_of a name)
    moved name = ap (λ ms. option_and_then (slice_get ms) (index_of b name)) meanings ∙ ap (option_and_then (slice_get (set a.meanings.items i m))) (same_index name)

    read_at : (n : Meaning) → n ≢ meaning.Unread → (o : Option ℕ) → option_and_then (slice_get a.meanings.items) o ≡ Some n → option_and_then (slice_get (set a.meanings.items i m)) o ≡ Some n
    read_at n read (Some j) is = set_read a.meanings.items i j m n read unread is
    read_at n read None is = is

    none_at : (o : Option ℕ) → option_and_then (slice_get a.meanings.items) o ≡ None → option_and_then (slice_get (set a.meanings.items i m)) o ≡ None
    none_at (Some j) is = set_none a.meanings.items i j m is
    none_at None is = is

pub still_unread : (i : ℕ) (a b : Scope) → b ≡ a → slice_get a.meanings.items i ≡ Some meaning.Unread → slice_get b.meanings.items i ≡ Some meaning.Unread
still_unread i a b same is = subst (λ (s : Scope). slice_get s.meanings.items i ≡ Some meaning.Unread) (sym same) is
