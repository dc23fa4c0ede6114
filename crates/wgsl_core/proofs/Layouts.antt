-- The measure of each kind of type, from those of the types inside; the layout of a struct, member by member.
use Rattle.std.proofs.Common.{◌≡◌, ◌↔◌, ℕ, ◌<◌, ◌≤◌, suc, max, List, [], ◌∷◌, length, drop, drop-cons, add-one, ◌+◌, get_or, Option, Some, None, Result, Ok, Err, IsSome, ◌++◌, ◌^◌, refl, sym, ap, subst, ◌∙◌, rules, string_bytes, OkIff, Bor}
use Rattle.std.specs.Result.{result_ok}
use Rattle.std.specs.declared.num.TryFromIntError.{TryFromIntError}
use Rattle.std.specs.Int.{next_multiple_of}
use Rattle.wgsl_core.proofs.Common.{drop_all, map_push, RuleSet, Scalar, WgslType, scalar, struct, Members, no_members, member, array, vec, mat, times, stride, array_size, vector_align, lacks_size, least_is_size, Member, member_view, struct_view, members_view, IsSoonestEnd, IsSoonestOffset, IsValue, IsMeasure, HasSomeSize, ArePlaced, form_view, Form, «Type», the_lemmas, StructType, out-StructType, StructMemberType}
use Rattle.std.proofs.lemmas.Option.{same_Some}
use Rattle.wgsl_syntax.specs.declared.rules.RuleSet.TheVariants.{Ported}
use Rattle.wgsl_syntax.specs.declared.scalar.Scalar.TheVariants as scalars
use Rattle.wgsl_rules.specs.layout.Layout.{IsTimes, IsStride, IsArraySize, IsVectorAlignBy, IsGiven, HasSize, HasSizeBy, HasAlignment, HasAlignmentBy, HasLeastSize, IsExactly, IsStructLayoutBy}
use Rattle.wgsl_rules.proofs.layout.StructSizes.{SizeSoFar, size_starts, size_stops, size_goes_on, size_ends, struct_size, struct_lacks}
use Rattle.wgsl_rules.proofs.layout.StructAligns.{AlignSoFar, align_starts, align_stops, align_goes_on, align_ends, struct_align, sized_is_aligned}
use Rattle.wgsl_rules.proofs.layout.Offsets.{PlacedSoFar, none_placed, NextMember, next_member, all_placed}
use Rattle.wgsl_core.specs.Layout.{layouts_of, offsets_of}
use Rattle.wgsl_core.specs.declared.layout.Measure.{Measure}
use Rattle.wgsl_core.specs.declared.layout.PlacedMember.{PlacedMember}
use Rattle.wgsl_core.specs.declared.ty.form.Form.TheVariants as forms

abbrev pub scalar_size : Scalar → Option ℕ
scalar_size scalars.AbstractInt = None
scalar_size scalars.AbstractFloat = None
scalar_size scalars.F16 = Some 2
scalar_size scalars.I64 = Some 8
scalar_size scalars.U64 = Some 8
scalar_size scalars.F64 = Some 8
scalar_size s = Some 4

pub scalar_measure : {rules : RuleSet} (s : Scalar) (k : ℕ) (m : Measure) → scalar_size s ≡ Some k → m ≡ record { size = Some k; align = Some k } → IsMeasure rules (scalar s) m
scalar_measure {rules} s k m e is =
    let h : IsExactly (Some k) (HasSizeBy rules (scalar s)) = sized s k e in
    subst (λ (m : Measure). IsMeasure rules (scalar s) m) (sym is) (record { size = h; lacks = lacks_size rules (scalar s) tt (Some k) h; align = h })
  where
    exact : (k j n : ℕ) → Some j ≡ Some k → (Some k ≡ Some n) ↔ (n ≡ j)
    exact k j n e = (λ f. let p : j ≡ n = cc (e ∙ f) in sym p, λ f. sym e ∙ ap Some (sym f))

    sized : (s : Scalar) (k : ℕ) → scalar_size s ≡ Some k → IsExactly (Some k) (HasSizeBy rules (scalar s))
    sized scalars.AbstractInt k e n = absurd (cc e)
    sized scalars.AbstractFloat k e n = absurd (cc e)
    sized scalars.F16 k e n = exact k 2 n e
    sized scalars.I64 k e n = exact k 8 n e
    sized scalars.U64 k e n = exact k 8 n e
    sized scalars.F64 k e n = exact k 8 n e
    sized s k e n = exact k 4 n e

pub vector_measure : {rules : RuleSet} (n k : ℕ) (t : WgslType) (component : Measure) (size align : Option ℕ) → k ≡ n → IsMeasure rules t component
    → IsExactly size (IsTimes k (IsValue component.size)) → IsExactly align (IsVectorAlignBy rules n t (IsValue component.size)) → IsMeasure rules (vec n t) (record { size = size; align = align })
vector_measure {rules} n k t component size align e h is_size is_align =
    let s : IsExactly size (HasSizeBy rules (vec n t)) = times n component.size size (HasSizeBy rules t) h.size (subst (λ (x : ℕ). IsExactly size (IsTimes x (IsValue component.size))) e is_size) in
    record { size = s; lacks = lacks_size rules (vec n t) tt size s; align = vector_align rules n t component.size align (HasSizeBy rules t) h.size is_align }

pub matrix_measure : {rules : RuleSet} (c r k : ℕ) (t : WgslType) (component : Measure) (size align : Option ℕ) → k ≡ c → IsMeasure rules t component
    → IsExactly size (IsTimes k (IsValue align)) → IsExactly align (IsVectorAlignBy rules r t (IsValue component.size)) → IsMeasure rules (mat c r t) (record { size = size; align = align })
matrix_measure {rules} c r k t component size align e h is_size is_align =
    let a : IsExactly align (HasAlignmentBy rules (mat c r t)) = vector_align rules r t component.size align (HasSizeBy rules t) h.size is_align in
    let s : IsExactly size (HasSizeBy rules (mat c r t)) = times c align size (IsVectorAlignBy rules r t (HasSizeBy rules t)) a (subst (λ (x : ℕ). IsExactly size (IsTimes x (IsValue align))) e is_size) in
    record { size = s; lacks = lacks_size rules (mat c r t) tt size s; align = a }

pub array_measure : {rules : RuleSet} (n : Option ℕ) (t : WgslType) (element : Measure) (spaced size : Option ℕ) → IsMeasure rules t element
    → IsExactly spaced (IsStride (IsValue element.size) (IsValue element.align)) → IsExactly size (IsArraySize n (IsValue spaced)) → IsMeasure rules (array n t) (record { size = size; align = element.align })
array_measure {rules} n t element spaced size h is_spaced is_size =
    let step : IsExactly spaced (IsStride (HasSizeBy rules t) (HasAlignmentBy rules t)) = stride element.size element.align spaced (HasSizeBy rules t) (HasAlignmentBy rules t) h.size h.align is_spaced in
    let s : IsExactly size (HasSizeBy rules (array n t)) = array_size n spaced size (IsStride (HasSizeBy rules t) (HasAlignmentBy rules t)) step is_size in
    record { size = s; lacks = lacks_size rules (array n t) tt size s; align = h.align }

pub counted : (q : Result ℕ TryFromIntError) (n c : ℕ) → Some c ≡ result_ok q → OkIff q (n < 2 ^ 32) n → (n < 2 ^ 32) × (c ≡ n)
counted (Ok x) n c e h = (h.0, same_Some c x e ∙ h.1)
counted (Err x) n c e h = absurd (cc)

pub least_of_unsized : (n : Option ℕ) (t : WgslType) (element : Measure) (spaced : Option ℕ) → n ≡ None → IsMeasure Ported t element
    → IsExactly spaced (IsStride (IsValue element.size) (IsValue element.align)) → IsExactly spaced (HasLeastSize (array n t))
least_of_unsized None t element spaced e h is = stride element.size element.align spaced (HasSize t) (HasAlignment t) h.size h.align is
least_of_unsized (Some k) t element spaced e h is = absurd (cc)

pub least_of_sized : (n : Option ℕ) (k : ℕ) (t : WgslType) (element : Measure) (spaced size : Option ℕ) → n ≡ Some k → IsMeasure Ported t element
    → IsExactly spaced (IsStride (IsValue element.size) (IsValue element.align)) → IsExactly size (IsArraySize n (IsValue spaced)) → IsExactly size (HasLeastSize (array n t))
least_of_sized None k t element spaced size e h is_spaced is_size = absurd (cc)
least_of_sized (Some j) k t element spaced size e h is_spaced is_size = (array_measure (Some j) t element spaced size h is_spaced is_size).size

-- the least size of a type that is no array is its size
pub least_by_form : {f : Form} {t : WgslType} (r : Option ℕ) → t ≡ form_view f → ((n : Option ℕ) (e : Bor «Type») → f ≡ forms.Array n e → ⊥) → IsExactly r (HasSize t) → IsExactly r (HasLeastSize t)
least_by_form {f} {t} r is not h = least_is_size t (λ n u e. no_array f not n u (sym is ∙ e)) r h
  where
    no_array : (f : Form) → ((n : Option ℕ) (e : Bor «Type») → f ≡ forms.Array n e → ⊥) → (n : Option ℕ) (u : WgslType) → form_view f ≡ array n u → ⊥
    no_array (forms.Array m e) not n u same = not m e refl
    no_array f not n u same = cc

-- The members of a struct

members_seen : (s : StructType) → struct_view s ≡ record { name = string_bytes (out-StructType s).name; members = members_view ((out-StructType s).members).items }
members_seen s = search (rules, the_lemmas)

pub members_at : (s : StructType) (items : List StructMemberType) → items ≡ ((out-StructType s).members).items → members_view items ≡ (struct_view s).members
members_at s items e = ap members_view e ∙ sym (ap (λ v. v.members) (members_seen s))

-- the members from one on
abbrev pub from_member : List StructMemberType → ℕ → Members
from_member items i = members_view (drop i items)

abbrev pub one_member : Member → Members → Members
one_member m ms = member m.name m.ty m.size m.align ms

pub member_at : (items : List StructMemberType) (i : ℕ) (x : StructMemberType) → i < length items → x ≡ get_or items i x
    → from_member items i ≡ one_member (member_view x) (from_member items (i + 1))
member_at items i x lt is = ap members_view (drop-cons items i x lt ∙ ap (λ y. y ∷ drop (suc i) items) (sym is) ∙ ap (λ k. x ∷ drop k items) (sym (add-one i)))

pub no_member_at : (items : List StructMemberType) (i : ℕ) → length items ≤ i → from_member items i ≡ no_members
no_member_at items i le = ap members_view (drop_all i items le)

pub record MeasureSoFar (rules : RuleSet) (end : Option ℕ) (greatest : ℕ) (items : List StructMemberType) (i : ℕ) : Type 0 where
  pub size : SizeSoFar rules end greatest (from_member items i) (members_view items)
  pub align : AlignSoFar rules greatest (from_member items i) (members_view items)

pub measure_starts : {rules : RuleSet} (items : List StructMemberType) → MeasureSoFar rules (Some 0) 0 items 0
measure_starts {rules} items = record { size = size_starts rules (members_view items); align = align_starts rules (members_view items) }

none_of : (o : Option ℕ) (P : ℕ → Type 0) → ((n : ℕ) → o ≡ Some n → ⊥) → IsExactly o P → IsExactly None P
none_of None P not h = h
none_of (Some n) P not h = absurd (not n refl)

abbrev IsStructMeasure : RuleSet → StructType → Measure → Type 0
IsStructMeasure rules s l = IsMeasure rules (struct (struct_view s).name (struct_view s).members) l

pub measure_stops : {rules : RuleSet} (s : StructType) (end align : Option ℕ) (g : ℕ) (items : List StructMemberType) (i : ℕ) (x : StructMemberType) → items ≡ ((out-StructType s).members).items
    → i < length items → x ≡ get_or items i x → ((n : ℕ) → align ≡ Some n → ⊥) → IsExactly align (IsGiven (member_view x).align (HasAlignmentBy rules (member_view x).ty))
    → MeasureSoFar rules end g items i → IsStructMeasure rules s (record { size = None; align = None })
measure_stops {rules} s end align g items i x e lt is not h sofar =
    let m = member_view x in
    let name = (struct_view s).name in
    let rest = from_member items (i + 1) in
    let ms = members_view items in
    let none = none_of align (IsGiven m.align (HasAlignmentBy rules m.ty)) not h in
    let at = member_at items i x lt is in
    let sizes = size_stops rules end g m.name m.ty m.size m.align rest ms none (subst (λ r. SizeSoFar rules end g r ms) at sofar.size) in
    let aligns = align_stops rules g m.name m.ty m.size m.align rest ms none (subst (λ r. AlignSoFar rules g r ms) at sofar.align) in
    subst (λ r. IsMeasure rules (struct name r) (record { size = None; align = None })) (members_at s items e)
    (record { size = struct_size rules name ms None sizes; lacks = struct_lacks rules ms None sizes; align = struct_align rules name ms None aligns })

pub measure_goes_on : {rules : RuleSet} (end size align next : Option ℕ) (g a most : ℕ) (items : List StructMemberType) (i : ℕ) (x : StructMemberType)
    → i < length items → x ≡ get_or items i x → IsExactly size (IsGiven (member_view x).size (HasSizeBy rules (member_view x).ty)) → align ≡ Some a
    → IsExactly align (IsGiven (member_view x).align (HasAlignmentBy rules (member_view x).ty)) → IsExactly next (IsSoonestEnd end size a) → most ≡ max g a
    → MeasureSoFar rules end g items i → MeasureSoFar rules next most items (i + 1)
measure_goes_on {rules} end size align next g a most items i x lt is hs ea ha hn em sofar =
    let m = member_view x in
    let rest = from_member items (i + 1) in
    let ms = members_view items in
    let at = member_at items i x lt is in
    let a_is = (ha a).0 ea in
    record {
      size = subst (λ (y : ℕ). SizeSoFar rules next y rest ms) (sym em) (size_goes_on rules end size next g a m.name m.ty m.size m.align rest ms hs a_is hn (subst (λ r. SizeSoFar rules end g r ms) at sofar.size));
      align = subst (λ (y : ℕ). AlignSoFar rules y rest ms) (sym em) (align_goes_on rules g a m.name m.ty m.size m.align rest ms a_is (subst (λ r. AlignSoFar rules g r ms) at sofar.align));
    }

pub measure_ends : {rules : RuleSet} (s : StructType) (end size : Option ℕ) (g : ℕ) (items : List StructMemberType) (i : ℕ) → items ≡ ((out-StructType s).members).items → length items ≤ i
    → IsExactly size (IsStride (IsValue end) (IsValue (Some g))) → MeasureSoFar rules end g items i → IsStructMeasure rules s (record { size = size; align = Some g })
measure_ends {rules} s end size g items i e le h sofar =
    let name = (struct_view s).name in
    let ms = members_view items in
    let at = no_member_at items i le in
    let sizes = size_ends rules end size g ms h (subst (λ r. SizeSoFar rules end g r ms) at sofar.size) in
    let aligns = align_ends rules g ms (subst (λ r. AlignSoFar rules g r ms) at sofar.align) in
    subst (λ r. IsMeasure rules (struct name r) (record { size = size; align = Some g })) (members_at s items e)
    (record { size = struct_size rules name ms size sizes; lacks = struct_lacks rules ms size sizes; align = struct_align rules name ms (Some g) aligns })

-- The members of a struct at their least offsets

abbrev pub PlacedAt : RuleSet → List StructMemberType → List PlacedMember → ℕ → ℕ → Type 0
PlacedAt rules items placed end i = PlacedSoFar rules (members_view items) (from_member items i) (layouts_of placed) (offsets_of placed) end

pub place_starts : {rules : RuleSet} (s : StructType) (items : List StructMemberType) (placed : List PlacedMember) → items ≡ ((out-StructType s).members).items → HasSomeSize rules (struct_view s).members → placed ≡ []
    → PlacedAt rules items placed 0 0
place_starts {rules} s items placed e sized none =
    subst (λ xs. PlacedAt rules items xs 0 0) (sym none)
    (subst (λ ms. PlacedSoFar rules ms ms [] [] 0) (sym (members_at s items e)) (none_placed rules (struct_view s).members sized.0 sized.1))

abbrev Next : RuleSet → List StructMemberType → List PlacedMember → ℕ → ℕ → StructMemberType → Type 0
Next rules items placed end i x =
    NextMember rules (members_view items) (from_member items (i + 1)) (layouts_of placed) (offsets_of placed) end
    (IsGiven (member_view x).size (HasSizeBy rules (member_view x).ty)) (IsGiven (member_view x).align (HasAlignmentBy rules (member_view x).ty))

next : {rules : RuleSet} (items : List StructMemberType) (placed : List PlacedMember) (end i : ℕ) (x : StructMemberType) → i < length items → x ≡ get_or items i x → PlacedAt rules items placed end i → Next rules items placed end i x
next {rules} items placed end i x lt is h =
    let m = member_view x in
    next_member rules m.name m.ty m.size m.align (members_view items) (from_member items (i + 1)) (layouts_of placed) (offsets_of placed) end
    (subst (λ r. PlacedSoFar rules (members_view items) r (layouts_of placed) (offsets_of placed) end) (member_at items i x lt is) h)

-- a member of this size and this alignment at its least offset after `end`
abbrev pub least_placed : ℕ → ℕ → ℕ → PlacedMember
least_placed end size align = record { offset = next_multiple_of end align; size = size; align = align }

pub record NextPlaced (rules : RuleSet) (items : List StructMemberType) (placed : List PlacedMember) (end i size align : ℕ) : Type 0 where
  pub positive : 0 < align
  pub fits : next_multiple_of end align + size < 2 ^ 32
  pub after : PlacedAt rules items (placed ++ least_placed end size align ∷ []) (next_multiple_of end align + size) (i + 1)

pub next_placed : {rules : RuleSet} (items : List StructMemberType) (placed : List PlacedMember) (end i : ℕ) (x : StructMemberType) (l : Measure) (s a : ℕ) → i < length items → x ≡ get_or items i x → PlacedAt rules items placed end i
    → IsExactly l.size (IsGiven (member_view x).size (HasSizeBy rules (member_view x).ty)) → l.size ≡ Some s
    → IsExactly l.align (IsGiven (member_view x).align (HasAlignmentBy rules (member_view x).ty)) → l.align ≡ Some a → NextPlaced rules items placed end i s a
next_placed {rules} items placed end i x l s a lt is h hs es ha ea =
    let m = next items placed end i x lt is h in
    let same_size : m.size ≡ s = same_Some m.size s (sym ((hs m.size).1 m.is_size) ∙ es) in
    let same_align : m.align ≡ a = same_Some m.align a (sym ((ha m.align).1 m.is_align) ∙ ea) in
    let one = least_placed end m.size m.align in
    let ms = members_view items in
    let rest = from_member items (i + 1) in
    let ends = next_multiple_of end m.align + m.size in
    let layouts = map_push (λ (p : PlacedMember). record { size = p.size; align = p.align }) placed one in
    let offsets = map_push (λ (p : PlacedMember). p.offset) placed one in
    let after = subst (λ ls. PlacedSoFar rules ms rest ls (offsets_of (placed ++ one ∷ [])) ends) (sym layouts)
    (subst (λ os. PlacedSoFar rules ms rest (layouts_of placed ++ layouts_of (one ∷ [])) os ends) (sym offsets) m.after) in
    subst (λ (y : ℕ). NextPlaced rules items placed end i s y) same_align (subst (λ (y : ℕ). NextPlaced rules items placed end i y m.align) same_size
    (record { positive = m.positive; fits = m.fits; after = after }))

-- the members before are placed, and end there
abbrev pub PlacedTo : RuleSet → List StructMemberType → List PlacedMember → Option ℕ → ℕ → Type 0
PlacedTo rules items placed end i = (e : ℕ) × (end ≡ Some e) × PlacedAt rules items placed e i

pub place_there : {rules : RuleSet} {items : List StructMemberType} {placed : List PlacedMember} {end i s a : ℕ} (o : Option ℕ) (before : Option ℕ) → before ≡ Some end → NextPlaced rules items placed end i s a
    → IsExactly o (IsSoonestOffset before (Some s) a) → IsSome o
place_there {rules} {items} {placed} {end} {i} {s} {a} None before e w h = absurd (let f : None ≡ Some (next_multiple_of end a) = (h (next_multiple_of end a)).1 (end, s, e, refl, w.positive, refl, w.fits) in cc)
place_there {rules} (Some p) before e w h = refl

pub place_goes_on : {rules : RuleSet} {items : List StructMemberType} {placed more : List PlacedMember} {end i s a : ℕ} (o before after : Option ℕ) (p : ℕ) → before ≡ Some end → NextPlaced rules items placed end i s a
    → IsExactly o (IsSoonestOffset before (Some s) a) → IsExactly after (IsSoonestEnd before (Some s) a) → o ≡ Some p
    → more ≡ placed ++ record { offset = p; size = s; align = a } ∷ [] → PlacedTo rules items more after (i + 1)
place_goes_on {rules} {items} {placed} {more} {end} {i} {s} {a} o before after p e w at ends is pushed =
    let start = next_multiple_of end a in
    let same : start ≡ p = same_Some start p (sym ((at start).1 (end, s, e, refl, w.positive, refl, w.fits)) ∙ is) in
    let there : PlacedAt rules items more (start + s) (i + 1) = subst (λ xs. PlacedAt rules items xs (start + s) (i + 1)) (sym pushed)
    (subst (λ (y : ℕ). PlacedAt rules items (placed ++ record { offset = y; size = s; align = a } ∷ []) (start + s) (i + 1)) same w.after) in
    (start + s, (ends (start + s)).1 (end, s, e, refl, w.positive, refl, w.fits), there)

pub place_ends : {rules : RuleSet} (s : StructType) (items : List StructMemberType) (placed : List PlacedMember) (end i : ℕ) → items ≡ ((out-StructType s).members).items → HasSomeSize rules (struct_view s).members
    → length items ≤ i → PlacedAt rules items placed end i → ArePlaced rules (struct_view s).members placed
place_ends {rules} s items placed end i e sized le sofar =
    let ended = subst (λ r. PlacedSoFar rules (members_view items) r (layouts_of placed) (offsets_of placed) end) (no_member_at items i le) sofar in
    all_placed rules (struct_view s).members (layouts_of placed) (offsets_of placed) end sized.0 sized.1
    (subst (λ ms. PlacedSoFar rules ms no_members (layouts_of placed) (offsets_of placed) end) (members_at s items e) ended)

-- The layout of a struct that has a size

pub has_size : {rules : RuleSet} (s : StructType) (l : Measure) (n : ℕ) → IsStructMeasure rules s l → l.size ≡ Some n → HasSomeSize rules (struct_view s).members
has_size {rules} s l n h e = (n, (h.size n).0 e)

pub has_align : {rules : RuleSet} (s : StructType) (l : Measure) (n : ℕ) → IsStructMeasure rules s l → l.size ≡ Some n → IsSome l.align
has_align {rules} s l n h e = let a = sized_is_aligned rules (struct_view s).members n ((h.size n).0 e) in some_is l.align a.0 ((h.align a.0).1 a.1)
  where
    some_is : (o : Option ℕ) (a : ℕ) → o ≡ Some a → IsSome o
    some_is None a e = absurd (cc)
    some_is (Some b) a e = refl

pub whole_layout : {rules : RuleSet} (s : StructType) (l : Measure) (n a : ℕ) (placed : List PlacedMember) → IsStructMeasure rules s l → l.size ≡ Some n → l.align ≡ Some a → ArePlaced rules (struct_view s).members placed
    → IsStructLayoutBy rules (struct_view s).members (layouts_of placed) (offsets_of placed) n a
whole_layout {rules} s l n a placed h size align are = record { members = are.0; placed = are.1; sized = (h.size n).0 size; aligned = (h.align a).0 align }
