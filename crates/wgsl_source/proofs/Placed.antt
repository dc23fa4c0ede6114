-- Members are placed one after another.
use Rattle.std.proofs.Common.{◌≡◌, ℕ, ◌+◌, ◌<◌, ◌≤◌, ◌^◌, max, List, [], ◌∷◌, ◌++◌, Option, Some, refl, sym, ap, subst, ◌∙◌, arith, map, append-nil}
use Rattle.wgsl_source.proofs.Common.{next_multiple_of, same_Some, Standard, Members, no_members, MemberLayout, greatest_align, IsExactly, HaveLayoutsBy, IsRoundedUp, IsStride, IsStructSize, IsStructLayoutBy, Aligned, end_of, starts, next_ge, one_rounded, rounded_up, IsSoonestEnd, IsSoonestOffset, IsValue, Member, IsLaidOut, layouts_of, offsets_of}
use Rattle.wgsl_rules.proofs.layout.Offsets.{PlacedSoFar, all_placed}
use Rattle.wgsl_rules.proofs.layout.StructAligns.{alignments}
use Rattle.wgsl_rules.proofs.layout.StructSizes.{IsFrom, struct_size}

pub aligned_more : (ls : List MemberLayout) (l : MemberLayout) → Aligned ls → 0 < l.align → Aligned (ls ++ l ∷ [])
aligned_more [] l al h = (h, tt)
aligned_more (k ∷ ls) l al h = (al.0, aligned_more ls l al.1 h)

greatest_more : (ls : List MemberLayout) (l : MemberLayout) → max (greatest_align ls) l.align ≡ greatest_align (ls ++ l ∷ [])
greatest_more [] l = omega arith
greatest_more (k ∷ ls) l = omega (arith, greatest_more ls l)

pub end_more : (e : ℕ) (ls : List MemberLayout) (l : MemberLayout) → next_multiple_of (end_of e ls) l.align + l.size ≡ end_of e (ls ++ l ∷ [])
end_more e [] l = refl
end_more e (k ∷ ls) l = end_more (next_multiple_of e k.align + k.size) ls l

starts_more : (e : ℕ) (ls : List MemberLayout) (l : MemberLayout) → starts e ls ++ next_multiple_of (end_of e ls) l.align ∷ [] ≡ starts e (ls ++ l ∷ [])
starts_more e [] l = refl
starts_more e (k ∷ ls) l = ap (λ ns. next_multiple_of e k.align ∷ ns) (starts_more (next_multiple_of e k.align + k.size) ls l)

layouts_more : (ms : List Member) (m : Member) → layouts_of (ms ++ m ∷ []) ≡ layouts_of ms ++ record { size = m.size; align = m.align } ∷ []
layouts_more [] m = refl
layouts_more (k ∷ ms) m = ap (λ ls. record { size = k.size; align = k.align } ∷ ls) (layouts_more ms m)

offsets_more : (ms : List Member) (m : Member) → offsets_of (ms ++ m ∷ []) ≡ offsets_of ms ++ m.offset ∷ []
offsets_more [] m = refl
offsets_more (k ∷ ms) m = ap (λ ns. k.offset ∷ ns) (offsets_more ms m)

-- the members so far
pub record ArePlaced (members : List Member) (end : Option ℕ) (greatest : ℕ) : Type 0 where
  pub aligned : Aligned (layouts_of members)
  pub offsets : offsets_of members ≡ starts 0 (layouts_of members)
  pub end_is : end ≡ Some (end_of 0 (layouts_of members))
  pub greatest_is : greatest ≡ greatest_align (layouts_of members)

pub none_placed : ArePlaced [] (Some 0) 0
none_placed = record { aligned = tt; offsets = refl; end_is = refl; greatest_is = refl }

pub one_placed : (ms : List Member) (m : Member) (end next : Option ℕ) (greatest : ℕ) → ArePlaced ms end greatest → IsSoonestOffset end (Some m.size) m.align m.offset →
    IsExactly next (IsSoonestEnd end (Some m.size) m.align) → ArePlaced (ms ++ m ∷ []) next (max greatest m.align)
one_placed ms m end next greatest h at ends =
    let ls = layouts_of ms in
    let l : MemberLayout = record { size = m.size; align = m.align } in
    let e = end_of 0 ls in
    let more : layouts_of (ms ++ m ∷ []) ≡ ls ++ l ∷ [] = layouts_more ms m in
    let start : m.offset ≡ next_multiple_of e m.align = at.5 ∙ ap (λ e. next_multiple_of e m.align) (same_Some at.0 e (sym at.2 ∙ h.end_is)) in
    let size : m.size ≡ at.1 = same_Some m.size at.1 at.3 in
    let fits : next_multiple_of e m.align + m.size < 2 ^ 32 = omega (arith, at.6, start, size) in
    record {
      aligned = subst Aligned (sym more) (aligned_more ls l h.aligned at.4);
      offsets =
          offsets_more ms m ∙ (ap (λ ns. ns ++ m.offset ∷ []) h.offsets
          ∙ (ap (λ n. starts 0 ls ++ n ∷ []) start ∙ (starts_more 0 ls l ∙ ap (λ ks. starts 0 ks) (sym more))));
      end_is =
          (ends (next_multiple_of e m.align + m.size)).1 (e, m.size, h.end_is, refl, at.4, refl, fits)
          ∙ ap Some (end_more 0 ls l ∙ ap (λ ks. end_of 0 ks) (sym more));
      greatest_is = ap (λ g. max g m.align) h.greatest_is ∙ (greatest_more ls l ∙ ap greatest_align (sym more));
    }

whole_layout : (ms : Members) (ls : List MemberLayout) (size g : ℕ) → HaveLayoutsBy Standard ms ls → Aligned ls → g ≡ greatest_align ls → 0 < g →
    size ≡ next_multiple_of (end_of 0 ls) g → size < 2 ^ 32 → IsStructLayoutBy Standard ms ls (starts 0 ls) size g
whole_layout ms ls size g known al is pos size_is fits =
    let same : max 0 (greatest_align ls) ≡ g = omega (arith, is) in
    let from : IsFrom Standard 0 0 ms size = record {
      layouts = ls;
      known = known;
      aligned = al;
      positive = omega (arith, same);
      is = size_is ∙ ap (λ a. next_multiple_of (end_of 0 ls) a) (sym same);
      fits = fits;
    } in
    let sized : IsStructSize (HaveLayoutsBy Standard ms) size = (struct_size Standard [] ms (Some size) from size).0 refl in
    let below : end_of 0 ls ≤ next_multiple_of (end_of 0 ls) g = next_ge (end_of 0 ls) g in
    let so_far : PlacedSoFar Standard ms no_members ls (starts 0 ls) (end_of 0 ls) = record {
      layouts = ls;
      known = known;
      left = [];
      left_known = tt;
      left_aligned = tt;
      fits = omega (arith, below, size_is, fits);
      all_layouts = append-nil ls;
      all_offsets = append-nil (starts 0 ls);
    } in
    let placed = all_placed Standard ms ls (starts 0 ls) (end_of 0 ls) size sized so_far in
    record { members = placed.0; placed = placed.1; sized = sized; aligned = (map (λ l. l.align) ls, alignments Standard ms ls known, is) }

pub all_placed_out : (members : List Member) (end : Option ℕ) (greatest size : ℕ) → ArePlaced members end greatest →
    IsStride (IsValue end) (IsValue (Some greatest)) size → IsLaidOut members size greatest
all_placed_out members end greatest size h at ms known =
    let ls = layouts_of members in
    let e = end_of 0 ls in
    let up : IsRoundedUp e greatest size =
    subst (λ (a : ℕ). IsRoundedUp e a size) (sym (same_Some greatest at.1 at.3)) (subst (λ (e : ℕ). IsRoundedUp e at.1 size) (same_Some at.0 e (sym at.2 ∙ h.end_is)) at.4) in
    let is : size ≡ next_multiple_of e greatest = one_rounded e greatest size (next_multiple_of e greatest) up (rounded_up e greatest up.0) in
    subst (λ (offsets : List ℕ). IsStructLayoutBy Standard ms ls offsets size greatest) (sym h.offsets)
    (whole_layout ms ls size greatest known h.aligned h.greatest_is up.0 is at.5)
