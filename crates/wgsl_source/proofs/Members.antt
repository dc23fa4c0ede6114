-- Members keep their sizes and alignments while element types are added, and while the members are placed.
use Rattle.std.proofs.Common.{◌≡◌, ℕ, zero, suc, ◌+◌, ◌<◌, List, [], ◌∷◌, ◌++◌, length, get_or, take, map, Bool, false, if◌then◌else◌, IsSome, ◌↔◌, Option, Some, None, slice_get, refl, sym, ap, subst, ◌∙◌, append_assoc, append-nil}
use Rattle.std.specs.Option.{option_or}
use Rattle.wgsl_source.proofs.Common.{map-append, map_more, All-cons, All-head, All-nil, All-push, All-tail, All-weaker, same_Some, Standard, Members, HaveAlignmentsBy, HaveLayoutsBy, IsExactly, IsGiven, IsStructAlign, IsStructSize, IsValue, IsLaidOut, layouts_of, IsStrideOf, Count, MeasuredType, TypeKind, Member, Struct, Written, Types}
use Rattle.wgsl_source.specs.Members.{AreMeasured, AreSameMembers, EndsRuntimeSized, Grows, IsDraft, IsLeastSize, IsMeasuredMember, IsRuntimeSizedArray, IsSizeOfKind, IsTypeOf, members_of, without_offset}
use Rattle.wgsl_source.specs.declared.measured.Count.TheVariants.{Runtime}
use Rattle.wgsl_source.specs.declared.measured.TypeKind.TheVariants.{Array}
use Rattle.wgsl_source.specs.declared.structure.Draft.{Draft}

pub grows_further : (a b c : Types) → Grows a b → Grows b c → Grows a c
grows_further a b c g h = record {
  added = g.added ++ h.added;
  kept = h.kept ∙ (ap (λ es. es ++ h.added) g.kept ∙ append_assoc a.elements.items g.added h.added);
}

pub grows_same : (a : Types) → Grows a a
grows_same a = record { added = []; kept = sym (append-nil a.elements.items) }

pub still_at : {A : Type 0} (es fs : List A) (k : ℕ) (t : A) → slice_get es k ≡ Some t → slice_get (es ++ fs) k ≡ Some t
still_at [] fs k t is = cc
still_at (e ∷ es) fs zero t is = is
still_at (e ∷ es) fs (suc k) t is = still_at es fs k t is

still_sized : (es fs : List MeasuredType) (k : TypeKind) (size : Option ℕ) (n : ℕ) → IsSizeOfKind es k size n → IsSizeOfKind (es ++ fs) k size n
still_sized es fs (Array index Runtime) size n h = (h.0, still_at es fs index h.0 h.1, h.2)
still_sized es fs k size n h = h

still_given : (o : Option ℕ) (P Q : ℕ → Type 0) (n : ℕ) → (P n → Q n) → IsGiven o P n → IsGiven o Q n
still_given (Some x) P Q n all h = h
still_given None P Q n all h = all h

still_measured : (a b : Types) (m : Member) → Grows a b → IsMeasuredMember a.elements.items m → IsMeasuredMember b.elements.items m
still_measured a b m g h =
    let more = a.elements.items ++ g.added in
    let sized : IsGiven m.size_attribute (IsLeastSize more m.ty) m.size =
    still_given m.size_attribute (IsLeastSize a.elements.items m.ty) (IsLeastSize more m.ty) m.size (still_sized a.elements.items g.added m.ty.kind m.ty.size m.size) h.size in
    record { size = subst (λ es. IsGiven m.size_attribute (IsLeastSize es m.ty) m.size) (sym g.kept) sized; align = h.align }

pub all_still_measured : (a b : Types) (ms : List Member) → Grows a b → AreMeasured a.elements.items ms → AreMeasured b.elements.items ms
all_still_measured a b ms g h = All-weaker (IsMeasuredMember a.elements.items) (IsMeasuredMember b.elements.items) (λ m one. still_measured a b m g one) ms h

-- a runtime-sized array with elements of this type
pub element_size : (es xs : List MeasuredType) (t e : MeasuredType) (index : ℕ) (count : Count) (stride : Option ℕ) → xs ≡ es → t.kind ≡ Array index count → count ≡ Runtime
    → slice_get xs index ≡ Some e → IsExactly stride (IsStrideOf e) → IsExactly stride (IsLeastSize es t)
element_size es xs t e index count stride same array runtime at of n =
    let is : t.kind ≡ Array index Runtime = array ∙ ap (Array index) runtime in
    let there : slice_get es index ≡ Some e = subst (λ (ks : List MeasuredType). slice_get ks index ≡ Some e) same at in
    (λ s. subst (λ (k : TypeKind). IsSizeOfKind es k t.size n) (sym is) (e, there, (of n).0 s), λ h. out there (subst (λ (k : TypeKind). IsSizeOfKind es k t.size n) is h))
  where
    out : slice_get es index ≡ Some e → IsSizeOfKind es (Array index Runtime) t.size n → stride ≡ Some n
    out there h = (of n).1 (subst (λ (f : MeasuredType). IsStrideOf f n) (same_Some h.0 e (sym h.1 ∙ there)) h.2)

-- what a type has, or else nothing, behind an attribute
pub given : (attribute value : Option ℕ) (IsIt : ℕ → Type 0) (n : ℕ) → IsExactly value IsIt → option_or attribute value ≡ Some n → IsGiven attribute IsIt n
given (Some x) value IsIt n of is = sym (same_Some x n is)
given None value IsIt n of is = (of n).0 is

last_ends : (ms : List Member) (m : Member) → EndsRuntimeSized (ms ++ m ∷ []) ↔ IsRuntimeSizedArray m.ty.kind
last_ends [] m = (λ h. h, λ h. h)
last_ends (k ∷ []) m = (λ h. h, λ h. h)
last_ends (k ∷ j ∷ ms) m = last_ends (j ∷ ms) m

pub none_read : (es : List MeasuredType) (d : Draft) → d.members.items ≡ [] → d.runtime_sized ≡ None → IsDraft es d
none_read es d is none = record {
  measured = subst (λ (ws : List Written). AreMeasured es (members_of ws)) (sym is) (All-nil (IsMeasuredMember es));
  runtime_sized =
      subst (λ (ws : List Written). IsSome d.runtime_sized ↔ EndsRuntimeSized (members_of ws)) (sym is)
      (subst (λ (o : Option ℕ). IsSome o ↔ ⊥) (sym none) (λ h. (cc), λ h. absurd h));
}

-- one more member is read
pub one_more_read : (a b : Types) (d e : Draft) (w : Written) → Grows a b → IsDraft a.elements.items d → IsMeasuredMember b.elements.items w.member
    → e.members.items ≡ d.members.items ++ w ∷ [] → (IsSome e.runtime_sized ↔ IsRuntimeSizedArray w.member.ty.kind) → IsDraft b.elements.items e
one_more_read a b d e w g h one is noted =
    let P = IsMeasuredMember b.elements.items in
    let ms = members_of d.members.items in
    let more : members_of e.members.items ≡ ms ++ w.member ∷ [] = ap members_of is ∙ map-append (λ (v : Written). v.member) d.members.items (w ∷ []) in
    let last = last_ends ms w.member in
    record {
      measured = subst (λ (ks : List Member). AreMeasured b.elements.items ks) (sym more) (All-push P ms w.member (all_still_measured a b ms g h.measured) one);
      runtime_sized =
          subst (λ (ks : List Member). IsSome e.runtime_sized ↔ EndsRuntimeSized ks) (sym more) (λ s. last.1 (noted.0 s), λ k. noted.1 (last.0 k));
    }

placed_measured : (es : List MeasuredType) (m n : Member) → without_offset m ≡ without_offset n → IsMeasuredMember es n → IsMeasuredMember es m
placed_measured es m n same h =
    let at : IsMeasuredMember es (without_offset n) = record { size = h.size; align = h.align } in
    let here : IsMeasuredMember es (without_offset m) = subst (λ (k : Member). IsMeasuredMember es k) (sym same) at in
    record { size = here.size; align = here.align }

head_or : Member → List Member → Member
head_or d [] = d
head_or d (m ∷ ms) = m

rest_of : List Member → List Member
rest_of [] = []
rest_of (m ∷ ms) = ms

-- the members at their offsets
all_placed_measured : (es : List MeasuredType) (ms ns : List Member) → AreSameMembers ms ns → AreMeasured es ns → AreMeasured es ms
unfolding head_or rest_of
all_placed_measured es [] ns same h = All-nil (IsMeasuredMember es)
all_placed_measured es (m ∷ ms) [] same h = absurd (let no : without_offset m ∷ map without_offset ms ≡ [] = same in cc)
all_placed_measured es (m ∷ ms) (n ∷ ns) same h =
    let P = IsMeasuredMember es in
    let one : without_offset m ≡ without_offset n = ap (head_or m) same in
    let rest : AreSameMembers ms ns = ap rest_of same in
    All-cons P m ms (placed_measured es m n one (All-head P n ns h)) (all_placed_measured es ms ns rest (All-tail P n ns h))

placed_kind : (m n : Member) → without_offset m ≡ without_offset n → m.ty.kind ≡ n.ty.kind
placed_kind m n same = ap (λ (k : Member). k.ty.kind) same

-- a struct ends as the members that were read
all_placed_end : (ms ns : List Member) → AreSameMembers ms ns → EndsRuntimeSized ns ↔ EndsRuntimeSized ms
unfolding head_or rest_of
all_placed_end [] [] same = (λ h. h, λ h. h)
all_placed_end [] (n ∷ ns) same = absurd (let no : [] ≡ without_offset n ∷ map without_offset ns = same in cc)
all_placed_end (m ∷ ms) [] same = absurd (let no : without_offset m ∷ map without_offset ms ≡ [] = same in cc)
all_placed_end (m ∷ []) (n ∷ []) same =
    let is : m.ty.kind ≡ n.ty.kind = placed_kind m n (ap (head_or m) same) in
    (λ h. subst IsRuntimeSizedArray (sym is) h, λ h. subst IsRuntimeSizedArray is h)
all_placed_end (m ∷ []) (n ∷ k ∷ ns) same = absurd (let no : [] ≡ without_offset k ∷ map without_offset ns = ap rest_of same in cc)
all_placed_end (m ∷ l ∷ ms) (n ∷ []) same = absurd (let no : without_offset l ∷ map without_offset ms ≡ [] = ap rest_of same in cc)
all_placed_end (m ∷ l ∷ ms) (n ∷ k ∷ ns) same = all_placed_end (l ∷ ms) (k ∷ ns) (ap rest_of same)

-- all members are read and placed
pub all_read : (es : List MeasuredType) (d : Draft) (ws : List Written) (ms : List Member) → IsDraft es d → ws ≡ d.members.items → AreSameMembers ms (members_of ws)
    → AreMeasured es ms × (IsSome d.runtime_sized ↔ EndsRuntimeSized ms)
all_read es d ws ms draft is same =
    let placed : AreSameMembers ms (members_of d.members.items) = subst (λ (vs : List Written). AreSameMembers ms (members_of vs)) is same in
    let ends = all_placed_end ms (members_of d.members.items) placed in
    (all_placed_measured es ms (members_of d.members.items) placed draft.measured, (λ s. ends.0 (draft.runtime_sized.0 s), λ h. draft.runtime_sized.1 (ends.1 h)))

pub none_left : (o : Option ℕ) → ((n : ℕ) → o ≡ Some n → ⊥) → o ≡ None
none_left (Some n) h = absurd (h n refl)
none_left None h = refl

-- one more member is placed
pub one_more_same : (ms : List Member) (ws : List Written) (i : ℕ) (w : Written) (m : Member) → i < length ws → without_offset m ≡ without_offset (get_or ws i w).member
    → AreSameMembers ms (members_of (take i ws)) → AreSameMembers (ms ++ m ∷ []) (members_of (take (i + 1) ws))
one_more_same ms ws i w m within same h =
    let f : Member → Member = without_offset in
    map-append f ms (m ∷ []) ∙ (ap (λ ks. ks ++ f m ∷ []) h ∙ (ap (λ k. map f (members_of (take i ws)) ++ k ∷ []) same
    ∙ (sym (map-append f (members_of (take i ws)) ((get_or ws i w).member ∷ [])) ∙ ap (map f) (sym (map_more (λ (v : Written). v.member) ws i w within)))))

pub struct_follows : (elements : List MeasuredType) (inner : Struct) (index : ℕ) (m : Member) → IsLaidOut inner.members.items inner.size inner.align → inner.is_runtime_sized ≡ false
    → IsTypeOf inner index m.ty → m.size_attribute ≡ None → m.align_attribute ≡ None → IsMeasuredMember elements m → (ms : Members) → HaveLayoutsBy Standard ms (layouts_of inner.members.items)
    → IsStructSize (HaveLayoutsBy Standard ms) m.size × IsStructAlign (HaveAlignmentsBy Standard ms) m.align
struct_follows elements inner index m laid fixed is no_size no_align h ms known =
    let layout = laid ms known in
    let sized : IsSizeOfKind elements m.ty.kind m.ty.size m.size = subst (λ (o : Option ℕ). IsGiven o (IsLeastSize elements m.ty) m.size) no_size h.size in
    let own : m.ty.size ≡ Some m.size = subst (λ (k : TypeKind). IsSizeOfKind elements k m.ty.size m.size) is.kind sized in
    let size : m.ty.size ≡ Some inner.size = subst (λ (b : Bool). m.ty.size ≡ (if b then None else Some inner.size)) fixed is.size in
    let aligned : m.ty.align ≡ Some m.align = subst (λ (o : Option ℕ). IsGiven o (IsValue m.ty.align) m.align) no_align h.align in
    let same_size : inner.size ≡ m.size = same_Some inner.size m.size (sym size ∙ own) in
    let same_align : inner.align ≡ m.align = same_Some inner.align m.align (sym is.align ∙ aligned) in
    (subst (λ (n : ℕ). IsStructSize (HaveLayoutsBy Standard ms) n) same_size layout.sized, subst (λ (a : ℕ). IsStructAlign (HaveAlignmentsBy Standard ms) a) same_align layout.aligned)
