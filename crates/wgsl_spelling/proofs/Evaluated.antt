-- What the events of a tree make of a state.
use Rattle.std.proofs.Common.{◌≡◌, ◌+◌, ℕ, suc, false, List, ◌∷◌, Option, Some, None, cond, decimal, length, pos, refl, ap, ◌∙◌}
use Rattle.wgsl_spelling.proofs.Common.{integer_of, then, map_value, Abstract, Event, Token, Chain, word, is_open, last_list, listed_in, Item, Parameters, One, Two, Three}
use Rattle.wgsl_constants.specs.declared.constant.Constant.TheVariants as constant
use Rattle.wgsl_reader.specs.declared.kind.Kind.TheVariants as k
use Rattle.wgsl_reader.specs.declared.mark.Mark.TheVariants as m
use Rattle.wgsl_spelling.specs.Items.{item}
use Rattle.wgsl_spelling.specs.Spelled.{State, behind, closed_list, is_bitcast, step_by, state, token_before, with_bitcast, with_item, with_listed, with_type_list}
use Rattle.wgsl_spelling.specs.declared.item.Value.{Value}
use Rattle.wgsl_spelling.specs.declared.item.Value.TheVariants as v
use Rattle.wgsl_spelling.specs.declared.list.TemplateList.{TemplateList}
use Rattle.wgsl_spelling.proofs.Placed.{Located}
use Rattle.wgsl_spelling.proofs.TokensPlaced.{Placed}
use Rattle.wgsl_spelling.proofs.TreeEvents.{count, event, events, valued}
use Rattle.wgsl_spelling.proofs.TreeNumbers.{integer_is}
use Rattle.wgsl_spelling.proofs.Trees.{IsFew, IsGood, IsName, IsPart, Tree, digits, list, name, name_is, list_is, of_number, of_type, one, parts, past, three, token, two}

-- options

then_map : {A B C D : Type 0} (o : Option A) (f : A → Option B) (g : B → C) (h : C → Option D) → then (then o (λ x. map_value g (f x))) h ≡ then (then o f) (λ b. h (g b))
then_map None f g h = refl
then_map (Some x) f g h = by (f x)
  where
    by : (o : Option _) → then (map_value g o) h ≡ then o (λ b. h (g b))
    by None = refl
    by (Some b) = refl

then_then : {A B C : Type 0} (o : Option A) (f : A → Option B) (g : B → Option C) → then o (λ x. then (f x) g) ≡ then (then o f) g
then_then None f g = refl
then_then (Some x) f g = refl

then_ext : {A B : Type 0} (o : Option A) (f g : A → Option B) → ((x : A) → f x ≡ g x) → then o f ≡ then o g
then_ext None f g same = refl
then_ext (Some x) f g same = same x

-- the item of a tree

abbrev pub place : Tree → ℕ → Token
place (name w) at = token k.Name at (length w)
place (digits d) at = token k.Number at (length (decimal d))
place (list w t) at = token k.Name at (length w)
place (parts a b) at = place a at

abbrev pub value : Tree → Value
value (name w) = v.Name
value (digits d) = v.Constant (constant.Integer (Abstract (pos d)))
value (list w t) = v.Type
value (parts a b) = value a

-- the item of a tree; of parts that of the first
abbrev pub made : Tree → ℕ → Item
made t at = item (place t at) (value t)

abbrev pub template : List ℕ → ℕ → Parameters → TemplateList
template w at parameters = record { name = token k.Name at (length w); parameters = parameters }

abbrev pub in_front : Item → Parameters → Parameters
in_front x (One y) = Two x y
in_front x (Two y z) = Three x y z
in_front x (Three y z more) = Three y z more

-- the parameters that a tree is
abbrev pub parameters : Tree → ℕ → Parameters
parameters (name w) at = One (made (name w) at)
parameters (digits d) at = One (made (digits d) at)
parameters (list w t) at = One (made (list w t) at)
parameters (parts a b) at = in_front (made a at) (parameters b (suc (suc (past a at))))

-- its items on top of others
abbrev pub stack : Tree → ℕ → List Item → List Item
stack (name w) at items = made (name w) at ∷ items
stack (digits d) at items = made (digits d) at ∷ items
stack (list w t) at items = made (list w t) at ∷ items
stack (parts a b) at items = stack b (suc (suc (past a at))) (made a at ∷ items)

abbrev pub closing : List ℕ → TemplateList → Chain → Option Chain
closing whole l c = then (listed_in whole l) (λ x. with_listed whole x c)

-- the chain behind a tree
abbrev pub eval : List ℕ → Tree → ℕ → Chain → Option Chain
eval whole (name w) at c = Some c
eval whole (digits d) at c = Some c
eval whole (list w t) at c = then (eval whole t (suc (at + length w)) c) (closing whole (template w at (parameters t (suc (at + length w)))))
eval whole (parts a b) at c = then (eval whole a at c) (eval whole b (suc (suc (past a at))))

not_open : (t : Tree) (at : ℕ) → is_open (made t at) ≡ false
not_open (name w) at = refl
not_open (digits d) at = refl
not_open (list w t) at = refl
not_open (parts a b) at = not_open a at

abbrev angle : ℕ → Item
angle at = item (token k.OpenTemplate at 1) (v.Sign k.OpenTemplate)

abbrev head : List ℕ → ℕ → Item
head w at = item (token k.Name at (length w)) v.Name

-- a part is one parameter, and one item

pub alone : {t : Tree} → IsPart t → (at : ℕ) → parameters t at ≡ One (made t at)
alone (of_type name_is) at = refl
alone (of_type list_is) at = refl
alone of_number at = refl

pub on_top : {t : Tree} → IsPart t → (at : ℕ) (items : List Item) → stack t at items ≡ made t at ∷ items
on_top (of_type name_is) at items = refl
on_top (of_type list_is) at items = refl
on_top of_number at items = refl

few_listed : {t : Tree} → IsFew t → (from at : ℕ) (front : Item) (items : List Item)
    → last_list (stack t from (angle at ∷ front ∷ items)) ≡ Some (record { name = front.token; parameters = parameters t from }, items)
few_listed (one part) from at front items = rw (on_top part from (angle at ∷ front ∷ items), alone part from) refl
few_listed (two {a} {b} first last) from at front items =
    let second = suc (suc (past a from)) in
    rw (on_top last second (made a from ∷ angle at ∷ front ∷ items), alone last second, not_open a from) refl
few_listed (three {a} {b} {c} first middle last) from at front items =
    let second = suc (suc (past a from)) in
    let third = suc (suc (past b second)) in
    rw (on_top last third (made b second ∷ made a from ∷ angle at ∷ front ∷ items), alone last third, not_open b second, not_open a from) refl

module _ (whole : List ℕ) (ts : List Token) where
  -- the end of a list
  ends : (w : List ℕ) (at n : ℕ) (parameters : Parameters) (found items : List Item) (c : Chain) (more : List Event)
      → is_bitcast (word whole (token k.Name at (length w))) ≡ false → last_list found ≡ Some (template w at parameters, items)
      → behind whole ts (state found c) (event m.Template n ∷ more) ≡ then (closing whole (template w at parameters) c) (λ c. behind whole ts (state (item (token k.Name at (length w)) v.Type ∷ items) c) more)
  ends w at n parameters found items c more plain is =
      let l : TemplateList × List Item = (template w at parameters, items) in
      ap (λ o. then (then o (closed_list whole c)) (λ next. behind whole ts next more)) is
      ∙ (ap (λ b. then (cond b (with_bitcast whole c l) (with_type_list whole c l)) (λ next. behind whole ts next more)) plain
      ∙ then_map (listed_in whole (template w at parameters)) (λ x. with_listed whole x c) (state (item (token k.Name at (length w)) v.Type ∷ items)) (λ next. behind whole ts next more))

  not_bitcast : (w : List ℕ) (at : ℕ) → IsName w → word whole (token k.Name at (length w)) ≡ w → is_bitcast (word whole (token k.Name at (length w))) ≡ false
  not_bitcast w at good located = ap is_bitcast located ∙ good.plain

  -- a name and `<`
  begins : (w : List ℕ) (at n : ℕ) (s : State) (more : List Event) → token_before ts (n + 1) ≡ token k.Name at (length w) → token_before ts (n + 1 + 1) ≡ token k.OpenTemplate (at + length w) 1
      → behind whole ts s (event m.Name (n + 1) ∷ event m.OpenTemplate (n + 1 + 1) ∷ more) ≡ behind whole ts (state (angle (at + length w) ∷ head w at ∷ s.items) s.chain) more
  begins w at n s more named opened =
      ap (λ t. behind whole ts (state (item t v.Name ∷ s.items) s.chain) (event m.OpenTemplate (n + 1 + 1) ∷ more)) named
      ∙ ap (λ t. behind whole ts (state (item t (v.Sign t.kind) ∷ head w at ∷ s.items) s.chain) more) opened

  -- that a name stands for a value changes nothing
  skipped : (t : Tree) (n : ℕ) (s : State) (more : List Event) → behind whole ts s (valued t n more) ≡ behind whole ts s more
  skipped (name w) n s more = refl
  skipped (digits d) n s more = refl
  skipped (list w t) n s more = refl
  skipped (parts a b) n s more = skipped b (count a n + 1) s more

  pub evaluated : (t : Tree) (n at : ℕ) (s : State) (more : List Event) → IsGood t → Located whole t at → Placed ts t n at
      → behind whole ts s (events t n more) ≡ then (eval whole t at s.chain) (λ c. behind whole ts (state (stack t at s.items) c) more)
  evaluated (name w) n at s more good located placed = ap (λ t. behind whole ts (state (item t v.Name ∷ s.items) s.chain) more) placed
  evaluated (digits d) n at s more good located placed =
      let tok = token k.Number at (length (decimal d)) in
      ap (λ t. then (step_by whole t s m.Literal) (λ next. behind whole ts next more)) placed
      ∙ (ap (λ w. then (map_value (λ x. with_item (item tok (v.Constant x)) s) (map_value constant.Integer (integer_of w))) (λ next. behind whole ts next more)) located
      ∙ ap (λ o. then (map_value (λ x. with_item (item tok (v.Constant x)) s) (map_value constant.Integer o)) (λ next. behind whole ts next more)) (integer_is d good))
  evaluated (list w t) n at s more good located placed =
      let from = suc (at + length w) in
      let items = angle (at + length w) ∷ head w at ∷ s.items in
      let last = event m.Template (count (list w t) n) ∷ more in
      let close = closing whole (template w at (parameters t from)) in
      let final : Chain → Option State = λ c. behind whole ts (state (made (list w t) at ∷ s.items) c) more in
      let behind_t = valued t (n + 1 + 1) last in
      begins w at n s (events t (n + 1 + 1) behind_t) placed.0 placed.1
      ∙ (evaluated t (n + 1 + 1) from (state items s.chain) behind_t good.2 located.1 placed.2
      ∙ (then_ext (eval whole t from s.chain) (λ c. behind whole ts (state (stack t from items) c) behind_t) (λ c. then (close c) final)
      (λ c. skipped t (n + 1 + 1) (state (stack t from items) c) last
      ∙ ends w at (count (list w t) n) (parameters t from) (stack t from items) s.items c more (not_bitcast w at good.0 located.0) (few_listed good.1 from (at + length w) (head w at) s.items))
      ∙ then_then (eval whole t from s.chain) close final))
  evaluated (parts a b) n at s more good located placed =
      let second = suc (suc (past a at)) in
      let n_b = count a n + 1 in
      let final : Chain → Option State = λ c. behind whole ts (state (stack b second (made a at ∷ s.items)) c) more in
      evaluated a n at s (valued a n (events b n_b more)) good.1 located.0 placed.0
      ∙ (then_ext (eval whole a at s.chain) (λ c. behind whole ts (state (stack a at s.items) c) (valued a n (events b n_b more))) (λ c. then (eval whole b second c) final)
      (λ c. skipped a n (state (stack a at s.items) c) (events b n_b more)
      ∙ (ap (λ items. behind whole ts (state items c) (events b n_b more)) (on_top good.0 at s.items) ∙ evaluated b n_b second (state (made a at ∷ s.items) c) more good.2 located.1 placed.1))
      ∙ then_then (eval whole a at s.chain) (eval whole b second) final)
