-- Members that can't be placed make no struct.
use Rattle.std.proofs.Common.{◌≡◌, ℕ, ◌+◌, ◌<◌, ◌≤◌, ◌^◌, zero, suc, List, [], ◌∷◌, ◌++◌, Option, Some, None, inl, inr, length, get_or, take, map, refl, sym, ap, subst, ◌∙◌, append_assoc, arith}
use Rattle.wgsl_source.proofs.Common.{◌∣◌, next_multiple_of, map-append, Standard, Members, no_members, member, MemberLayout, AreLaid, greatest_align, Aligned, end_of, laid_before, next_least, no_less, rounded_up, IsSoonestOffset, IsValue, Member, Written, HasNoLayout, layouts_of, AreSameMembers, members_of, without_offset}
use Rattle.std.proofs.lemmas.Bool.{cases_lt}
use Rattle.wgsl_rules.specs.layout.Layout.{HasAlignmentBy, HasNoSizeBy, HaveLayoutsBy, IsExactly, IsGiven, IsStride, SomeZeroAlignBy, zero_align, empty, too_large}
use Rattle.wgsl_rules.proofs.layout.OneSize.{one_layouts}
use Rattle.wgsl_source.proofs.Placed.{ArePlaced, aligned_more, end_more}
use Rattle.wgsl_source.specs.declared.fault.Stop.{Stop}
use Rattle.wgsl_source.specs.declared.fault.Stop.TheVariants.{Elsewhere, Fault, Memory}
use Rattle.wgsl_source.specs.Faults.{AtFault}

-- the first members end before the whole
laid_front : (e f : ℕ) (xs ys : List MemberLayout) (os : List ℕ) (total : ℕ) → Aligned xs → e ≤ f → AreLaid f (xs ++ ys) os total → end_of e xs ≤ total
laid_front e f [] ys os total al le h = let end : f ≤ total = laid_before f ys os total h in omega arith
laid_front e f (x ∷ xs) ys [] total al le h = absurd h
laid_front e f (x ∷ xs) ys (o ∷ os) total al le h =
    let at : next_multiple_of e x.align ≤ o = next_least e x.align o al.0 h.0 (let below : f ≤ o = h.1 in omega arith) in
    laid_front (next_multiple_of e x.align + x.size) (o + x.size) xs ys os total al.1 (omega (arith, at)) h.2

zero_aligned : (ms : Members) (xs : List MemberLayout) (l : MemberLayout) (ys : List MemberLayout) → HaveLayoutsBy Standard ms (xs ++ l ∷ ys) → l.align ≡ 0 → SomeZeroAlignBy Standard ms
zero_aligned no_members [] l ys h z = absurd h
zero_aligned no_members (x ∷ xs) l ys h z = absurd h
zero_aligned (member name t size align ms) [] l ys h z = inl (subst (λ (a : ℕ). IsGiven align (HasAlignmentBy Standard t) a) z h.1)
zero_aligned (member name t size align ms) (x ∷ xs) l ys h z = inr (zero_aligned ms xs l ys h.2 z)

-- a member doesn't fit behind those before
no_room : (ms : Members) (xs : List MemberLayout) (l : MemberLayout) (ys : List MemberLayout) → Aligned xs → ¬ ((0 < l.align) × (next_multiple_of (end_of 0 xs) l.align + l.size < 2 ^ 32))
    → HaveLayoutsBy Standard ms (xs ++ l ∷ ys) → HasNoSizeBy Standard ms
no_room ms xs l ys al full known = elim (cases_lt 0 l.align) [
  | inl pos ↦ elim (cases_lt (next_multiple_of (end_of 0 xs) l.align + l.size) (2 ^ 32)) [
    | inl small ↦ absurd (full (pos, small))
    | inr large ↦ too_large (λ ps os total others placed.
        let same : ps ≡ xs ++ l ∷ ys = one_layouts Standard ms ps (xs ++ l ∷ ys) others known in
        let laid : AreLaid 0 ((xs ++ l ∷ []) ++ ys) os total = subst (λ (ls : List MemberLayout). AreLaid 0 ls os total) (same ∙ sym (append_assoc xs (l ∷ []) ys)) placed.0 in
        let end : end_of 0 (xs ++ l ∷ []) ≤ total = laid_front 0 0 (xs ++ l ∷ []) ys os total (aligned_more xs l al pos) (let z : 0 ≤ 0 = omega arith in z) laid in
        omega (arith, end, end_more 0 xs l))
  ]
  | inr low ↦ zero_align (zero_aligned ms xs l ys known (omega arith))
]

no_member : (ms : Members) (ls : List MemberLayout) → Aligned ls → greatest_align ls ≤ 0 → HaveLayoutsBy Standard ms ls → ms ≡ no_members
no_member no_members ls al none known = refl
no_member (member name t size align ms) [] al none known = absurd known
no_member (member name t size align ms) (l ∷ ls) al none known = let pos : 0 < l.align = al.0 in absurd (omega arith)

-- all members have a place, but the struct is too large
no_whole : (ms : Members) (ls : List MemberLayout) → Aligned ls → ¬ ((0 < greatest_align ls) × (next_multiple_of (end_of 0 ls) (greatest_align ls) < 2 ^ 32)) → HaveLayoutsBy Standard ms ls → HasNoSizeBy Standard ms
no_whole ms ls al full known = elim (cases_lt 0 (greatest_align ls)) [
  | inl pos ↦ elim (cases_lt (next_multiple_of (end_of 0 ls) (greatest_align ls)) (2 ^ 32)) [
    | inl small ↦ absurd (full (pos, small))
    | inr large ↦ too_large (λ ps os total others placed.
        let same : ps ≡ ls = one_layouts Standard ms ps ls others known in
        let laid : AreLaid 0 ls os total = subst (λ (ks : List MemberLayout). AreLaid 0 ks os total) same placed.0 in
        let even : greatest_align ls ∣ total = subst (λ (ks : List MemberLayout). greatest_align ks ∣ total) same placed.1 in
        let end : end_of 0 ls ≤ total = no_less 0 0 ls os total al (let z : 0 ≤ 0 = omega arith in z) laid in
        let up : next_multiple_of (end_of 0 ls) (greatest_align ls) ≤ total = next_least (end_of 0 ls) (greatest_align ls) total pos even end in
        omega (arith, up, large))
  ]
  | inr low ↦ empty (no_member ms ls al (omega arith) known)
]

same_layouts : (ms ns : List Member) → AreSameMembers ms ns → layouts_of ms ≡ layouts_of ns
same_layouts ms ns same = bare ms ∙ (ap layouts_of same ∙ sym (bare ns))
  where
    bare : (ks : List Member) → layouts_of ks ≡ layouts_of (map without_offset ks)
    bare [] = refl
    bare (k ∷ ks) = ap (λ ls. record { size = k.size; align = k.align } ∷ ls) (bare ks)

members_from : (ws : List Written) (i : ℕ) (w : Written) → i < length ws → (rest : List Member) × (members_of ws ≡ members_of (take i ws) ++ (get_or ws i w).member ∷ rest)
members_from [] i w lt = absurd (omega arith)
members_from (v ∷ ws) zero w lt = (members_of ws, refl)
members_from (v ∷ ws) (suc i) w lt = let h = members_from ws i w (omega arith) in (h.0, ap (λ ms. v.member ∷ ms) h.1)

-- a member has no offset
pub no_offset : (ms : List Member) (ws : List Written) (i : ℕ) (w : Written) (end : Option ℕ) (greatest : ℕ) → i < length ws → ArePlaced ms end greatest → AreSameMembers ms (members_of (take i ws))
    → IsExactly None (IsSoonestOffset end (Some (get_or ws i w).member.size) (get_or ws i w).member.align) → HasNoLayout (members_of ws)
no_offset ms ws i w end greatest lt placed same none struct known =
    let m : Member = (get_or ws i w).member in
    let l : MemberLayout = record { size = m.size; align = m.align } in
    let e : ℕ = end_of 0 (layouts_of ms) in
    let all = members_from ws i w lt in
    let is : layouts_of (members_of ws) ≡ layouts_of ms ++ l ∷ layouts_of all.0 =
    ap layouts_of all.1 ∙ (map-append (λ (k : Member). record { size = k.size; align = k.align }) (members_of (take i ws)) (m ∷ all.0)
    ∙ ap (λ ls. ls ++ l ∷ layouts_of all.0) (sym (same_layouts ms (members_of (take i ws)) same))) in
    no_room struct (layouts_of ms) l (layouts_of all.0) placed.aligned
    (λ h. absurd (let no : None ≡ Some (next_multiple_of e m.align) = (none (next_multiple_of e m.align)).1 (e, m.size, placed.end_is, refl, h.0, refl, h.1) in cc))
    (subst (λ (ls : List MemberLayout). HaveLayoutsBy Standard struct ls) is known)

-- all members have an offset, and the struct has no size
pub no_size : (ms : List Member) (ws : List Written) (end : Option ℕ) (greatest : ℕ) → ArePlaced ms end greatest → AreSameMembers ms (members_of ws)
    → IsExactly None (IsStride (IsValue end) (IsValue (Some greatest))) → HasNoLayout (members_of ws)
no_size ms ws end greatest placed same none struct known =
    let e : ℕ = end_of 0 (layouts_of ms) in
    let g : ℕ = greatest_align (layouts_of ms) in
    let is : Some greatest ≡ Some g = ap Some placed.greatest_is in
    no_whole struct (layouts_of ms) placed.aligned
    (λ h. absurd (let no : None ≡ Some (next_multiple_of e g) = (none (next_multiple_of e g)).1 (e, g, placed.end_is, is, rounded_up e g h.0, h.1) in cc))
    (subst (λ (ls : List MemberLayout). HaveLayoutsBy Standard struct ls) (sym (same_layouts ms (members_of ws) same)) known)

pub at_fault : (s : Stop) (P : Type 0) → P → AtFault s P
at_fault (Memory e) P h = tt
at_fault (Fault f) P h = h
at_fault (Elsewhere at) P h = tt
