-- The alignment of a struct, member by member.
use Rattle.std.proofs.Common.{◌≡◌, ℕ, max, List, [], ◌∷◌, map, Option, Some, None, refl, ap, arith}
use Rattle.wgsl_rules.proofs.Common.{same_Some, RuleSet, WgslType, struct, Members, no_members, member, MemberLayout, greatest}
use Rattle.wgsl_rules.specs.layout.Layout.{IsGiven, HasAlignmentBy, HaveLayoutsBy, HaveAlignmentsBy, IsStructSize, IsStructAlign, IsExactly}
use Rattle.wgsl_rules.proofs.layout.OneSize.{one_align, one_given}

abbrev pub IsAlignFrom : RuleSet → ℕ → Members → ℕ → Type 0
IsAlignFrom rules g ms n = (aligns : List ℕ) × HaveAlignmentsBy rules ms aligns × (n ≡ max g (greatest aligns))

abbrev pub AlignFrom : RuleSet → ℕ → Members → Option ℕ → Type 0
AlignFrom rules g ms r = IsExactly r (IsAlignFrom rules g ms)

no_first : (rules : RuleSet) (name : List ℕ) (t : WgslType) (size align : Option ℕ) (ms : Members) → IsExactly None (IsGiven align (HasAlignmentBy rules t)) → (aligns : List ℕ) → ¬ (HaveAlignmentsBy rules (member name t size align ms) aligns)
no_first rules name t size align ms h [] known = known
no_first rules name t size align ms h (a ∷ aligns) known = let f : None ≡ Some a = (h a).1 known.0 in cc

from_second : (rules : RuleSet) (g a : ℕ) (name : List ℕ) (t : WgslType) (size align : Option ℕ) (ms : Members) (n : ℕ) → IsGiven align (HasAlignmentBy rules t) a
    → IsAlignFrom rules g (member name t size align ms) n → IsAlignFrom rules (max g a) ms n
from_second rules g a name t size align ms n ea h = second h.0 h.1 h.2
  where
    second : (aligns : List ℕ) → HaveAlignmentsBy rules (member name t size align ms) aligns → n ≡ max g (greatest aligns) → IsAlignFrom rules (max g a) ms n
    second [] known is = absurd known
    second (b ∷ bs) known is = (bs, known.1, let same : b ≡ a = one_given align (HasAlignmentBy rules t) (one_align rules t) b a known.0 ea in omega arith)

at_end : (rules : RuleSet) (g n : ℕ) (aligns : List ℕ) → HaveAlignmentsBy rules no_members aligns → n ≡ max g (greatest aligns) → g ≡ n
at_end rules g n [] known is = omega arith
at_end rules g n (a ∷ aligns) known is = absurd known

-- The alignment of the whole struct, by the members that are left

abbrev pub AlignSoFar : RuleSet → ℕ → Members → Members → Type 0
AlignSoFar rules g rest ms = (r : Option ℕ) → AlignFrom rules g rest r → AlignFrom rules 0 ms r

pub align_starts : (rules : RuleSet) (ms : Members) → AlignSoFar rules 0 ms ms
align_starts rules ms r h = h

pub align_stops : (rules : RuleSet) (g : ℕ) (name : List ℕ) (t : WgslType) (size align : Option ℕ) (rest ms : Members) → IsExactly None (IsGiven align (HasAlignmentBy rules t))
    → AlignSoFar rules g (member name t size align rest) ms → AlignFrom rules 0 ms None
align_stops rules g name t size align rest ms h sofar = sofar None (λ n. (λ e. absurd (cc), λ s. absurd (no_first rules name t size align rest h s.0 s.1)))

pub align_goes_on : (rules : RuleSet) (g a : ℕ) (name : List ℕ) (t : WgslType) (size align : Option ℕ) (rest ms : Members) → IsGiven align (HasAlignmentBy rules t) a
    → AlignSoFar rules g (member name t size align rest) ms → AlignSoFar rules (max g a) rest ms
align_goes_on rules g a name t size align rest ms ea sofar r h = sofar r (λ n. (
  λ is. let f = (h n).0 is in (a ∷ f.0, (ea, f.1), omega (arith, f.2)),
  λ s. (h n).1 (from_second rules g a name t size align rest n ea s),
))

pub align_ends : (rules : RuleSet) (g : ℕ) (ms : Members) → AlignSoFar rules g no_members ms → AlignFrom rules 0 ms (Some g)
align_ends rules g ms sofar = sofar (Some g) (λ n. (
  λ e. ([], tt, let s : g ≡ n = same_Some g n e in omega arith),
  λ s. ap Some (at_end rules g n s.0 s.1 s.2),
))

pub struct_align : (rules : RuleSet) (name : List ℕ) (ms : Members) (r : Option ℕ) → AlignFrom rules 0 ms r → IsExactly r (HasAlignmentBy rules (struct name ms))
struct_align rules name ms r h n = (λ e. let f = (h n).0 e in (f.0, f.1, omega (arith, f.2)), λ s. (h n).1 (s.0, s.1, omega (arith, s.2)))

-- Members with sizes and alignments have alignments

pub alignments : (rules : RuleSet) (ms : Members) (ls : List MemberLayout) → HaveLayoutsBy rules ms ls → HaveAlignmentsBy rules ms (map (λ l. l.align) ls)
alignments rules no_members [] known = tt
alignments rules (member name t size align ms) (l ∷ ls) known = (known.1, alignments rules ms ls known.2)
alignments rules _ _ known = absurd known

pub sized_is_aligned : (rules : RuleSet) (ms : Members) (n : ℕ) → IsStructSize (HaveLayoutsBy rules ms) n → (a : ℕ) × IsStructAlign (HaveAlignmentsBy rules ms) a
sized_is_aligned rules ms n h = let aligns = map (λ l. l.align) h.layouts in (greatest aligns, (aligns, alignments rules ms h.layouts h.known, refl))
