-- The members of a struct at their least offsets, member by member.
use Rattle.std.proofs.Common.{◌≡◌, ℕ, ◌+◌, ◌<◌, ◌≤◌, ◌^◌, List, [], ◌∷◌, ◌++◌, get_or, Option, refl, sym, ap, subst, ◌∙◌, append_assoc, arith, append-nil}
use Rattle.wgsl_rules.proofs.Common.{next_multiple_of, RuleSet, WgslType, Members, no_members, member, MemberLayout, AreLaid, IsGiven, HasSizeBy, HasAlignmentBy, HaveLayoutsBy, IsStructSize, AreOffsetsBy}
use Rattle.wgsl_rules.proofs.layout.Placing.{Aligned, end_of, starts, laid, no_less, no_earlier, next_ge}
use Rattle.wgsl_rules.proofs.layout.OneSize.{one_layouts}
use Rattle.wgsl_rules.proofs.layout.StructSizes.{all_aligned}

-- the layouts and offsets of the members before the rest, which end at `e`; those of the rest complete them
pub record PlacedSoFar (rules : RuleSet) (ms rest : Members) (before : List MemberLayout) (offsets : List ℕ) (e : ℕ) : Type 0 where
  pub layouts : List MemberLayout
  pub known : HaveLayoutsBy rules ms layouts
  pub left : List MemberLayout
  pub left_known : HaveLayoutsBy rules rest left
  pub left_aligned : Aligned left
  pub fits : end_of e left < 2 ^ 32
  pub all_layouts : before ++ left ≡ layouts
  pub all_offsets : offsets ++ starts e left ≡ starts 0 layouts

end_ge : (e : ℕ) (ps : List MemberLayout) → e ≤ end_of e ps
end_ge e [] = omega arith
end_ge e (p ∷ ps) =
    let h : next_multiple_of e p.align + p.size ≤ end_of (next_multiple_of e p.align + p.size) ps = end_ge (next_multiple_of e p.align + p.size) ps in
    omega (arith, next_ge e p.align)

pub none_placed : (rules : RuleSet) (ms : Members) (n : ℕ) → IsStructSize (HaveLayoutsBy rules ms) n → PlacedSoFar rules ms ms [] [] 0
none_placed rules ms n h =
    let al : Aligned h.layouts = all_aligned h.layouts h.aligned in
    let below : end_of 0 h.layouts ≤ n = no_less 0 0 h.layouts h.least.0.0 n al (let z : 0 ≤ 0 = omega arith in z) h.least.0.1.0 in
    let small : n < 2 ^ 32 = h.fits in
    record { layouts = h.layouts; known = h.known; left = h.layouts; left_known = h.known; left_aligned = al; fits = omega arith; all_layouts = refl; all_offsets = refl }

-- the next member's layout, and the placement with it
pub record NextMember (rules : RuleSet) (ms rest : Members) (before : List MemberLayout) (offsets : List ℕ) (e : ℕ) (IsSize IsAlign : ℕ → Type 0) : Type 0 where
  pub size : ℕ
  pub align : ℕ
  pub is_size : IsSize size
  pub is_align : IsAlign align
  pub positive : 0 < align
  pub fits : next_multiple_of e align + size < 2 ^ 32
  pub after : PlacedSoFar rules ms rest (before ++ record { size = size; align = align } ∷ []) (offsets ++ next_multiple_of e align ∷ []) (next_multiple_of e align + size)

pub next_member : (rules : RuleSet) (name : List ℕ) (t : WgslType) (size align : Option ℕ) (ms rest : Members) (before : List MemberLayout) (offsets : List ℕ) (e : ℕ)
    → PlacedSoFar rules ms (member name t size align rest) before offsets e → NextMember rules ms rest before offsets e (IsGiven size (HasSizeBy rules t)) (IsGiven align (HasAlignmentBy rules t))
next_member rules name t size align ms rest before offsets e h = first h.left h.left_known h.left_aligned h.fits h.all_layouts h.all_offsets
  where
    first : (left : List MemberLayout) → HaveLayoutsBy rules (member name t size align rest) left → Aligned left → end_of e left < 2 ^ 32 → before ++ left ≡ h.layouts
        → offsets ++ starts e left ≡ starts 0 h.layouts → NextMember rules ms rest before offsets e (IsGiven size (HasSizeBy rules t)) (IsGiven align (HasAlignmentBy rules t))
    first [] known al small layouts_are offsets_are = absurd known
    first (p ∷ left) known al small layouts_are offsets_are =
        let at = next_multiple_of e p.align in
        let ge : at + p.size ≤ end_of (at + p.size) left = end_ge (at + p.size) left in
        record {
          size = p.size;
          align = p.align;
          is_size = known.0;
          is_align = known.1;
          positive = al.0;
          fits = omega arith;
          after = record {
            layouts = h.layouts;
            known = h.known;
            left = left;
            left_known = known.2;
            left_aligned = al.1;
            fits = small;
            all_layouts = append_assoc before (p ∷ []) left ∙ layouts_are;
            all_offsets = append_assoc offsets (at ∷ []) (starts (at + p.size) left) ∙ offsets_are;
          };
        }

pub all_placed : (rules : RuleSet) (ms : Members) (before : List MemberLayout) (offsets : List ℕ) (e n : ℕ) → IsStructSize (HaveLayoutsBy rules ms) n → PlacedSoFar rules ms no_members before offsets e
    → HaveLayoutsBy rules ms before × AreOffsetsBy rules ms offsets
all_placed rules ms before offsets e n s h =
    let al : Aligned s.layouts = all_aligned s.layouts s.aligned in
    let same : h.layouts ≡ s.layouts = one_layouts rules ms h.layouts s.layouts h.known s.known in
    let is : offsets ≡ starts 0 s.layouts = whole_offsets h.left h.left_known h.all_offsets ∙ ap (starts 0) same in
    let z : 0 ≤ 0 = omega arith in (
      subst (HaveLayoutsBy rules ms) (sym (whole_layouts h.left h.left_known h.all_layouts)) h.known,
      record {
        total = n;
        sized = s;
        placed = (subst (λ xs. AreLaid 0 s.layouts xs n) (sym is) (laid 0 s.layouts n al (no_less 0 0 s.layouts s.least.0.0 n al z s.least.0.1.0)), s.least.0.1.1);
        least = λ others more placement k. subst (λ xs. get_or xs k 0 ≤ get_or others k 0) (sym is) (no_earlier 0 0 s.layouts others more al z placement.0 k);
      },
    )
  where
    whole_layouts : (left : List MemberLayout) → HaveLayoutsBy rules no_members left → before ++ left ≡ h.layouts → before ≡ h.layouts
    whole_layouts [] known is = sym (append-nil before) ∙ is
    whole_layouts (p ∷ left) known is = absurd known

    whole_offsets : (left : List MemberLayout) → HaveLayoutsBy rules no_members left → offsets ++ starts e left ≡ starts 0 h.layouts → offsets ≡ starts 0 h.layouts
    whole_offsets [] known is = sym (append-nil offsets) ∙ is
    whole_offsets (p ∷ left) known is = absurd known
