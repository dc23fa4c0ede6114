-- What is said of an array, from what is said of the type of its elements.
use Rattle.std.proofs.Common.{◌≡◌, ◌↔◌, ℕ, List, [], ◌∷◌, ◌++◌, take, Option, Some, None, slice_get, refl, sym, ap, subst, ◌∙◌, All}
use Rattle.std.proofs.lemmas.List.Elements.{All-cons, All-head, All-nil, All-tail}
use Rattle.std.proofs.lemmas.Option.{same_Some}
use Rattle.wgsl_syntax.specs.declared.address.AddressSpace.{AddressSpace}
use Rattle.wgsl_rules.specs.layout.Layout.{IsExactly}
use Rattle.wgsl_source.specs.declared.measured.MeasuredType.{MeasuredType}
use Rattle.wgsl_source.specs.declared.measured.TypeKind.{TypeKind}
use Rattle.wgsl_source.specs.declared.measured.TypeKind.TheVariants.{Array}
use Rattle.wgsl_source.specs.declared.measured.Count.{Count}
use Rattle.wgsl_report.specs.Extent.{AreNested, IsInnermost, IsOutermostTooClose, IsTooClose, element_index, last_of}

pub no_index : (k : TypeKind) → ((i : ℕ) (n : Count) → k ≡ Array i n → ⊥) → element_index k ≡ None
no_index (Array i n) h = absurd (h i n refl)
no_index k h = refl

pub index_at : (k : TypeKind) (i : ℕ) (n : Count) → k ≡ Array i n → element_index k ≡ Some i
index_at k i n e = ap element_index e

-- an array has one element type, and what is nested in the array is nested in that
first_nested : (elements : List MeasuredType) (t e f : MeasuredType) (i j : ℕ) (es : List MeasuredType) → element_index t.kind ≡ Some i → slice_get elements i ≡ Some e
    → element_index t.kind ≡ Some j → slice_get elements j ≡ Some f → AreNested (take j elements) f es → (f ≡ e) × AreNested (take i elements) e es
first_nested elements t e f i j es at is jat fis s =
    let same : j ≡ i = same_Some j i (sym jat ∙ at) in
    let found : slice_get elements i ≡ Some f = subst (λ k. slice_get elements k ≡ Some f) same fis in
    let one : f ≡ e = same_Some f e (sym found ∙ is) in
    (one, subst (λ g. AreNested (take i elements) g es) one (subst (λ k. AreNested (take k elements) f es) same s))

-- nothing is nested in an array whose element type is missing
none_nested : (elements : List MeasuredType) (t e : MeasuredType) (i : ℕ) (es : List MeasuredType) → element_index t.kind ≡ Some i → slice_get elements i ≡ None → AreNested elements t (e ∷ es) → ⊥
none_nested elements t e i es at missing s =
    let same : s.0 ≡ i = same_Some s.0 i (sym s.1 ∙ at) in
    let both : None ≡ Some e = sym missing ∙ subst (λ k. slice_get elements k ≡ Some e) same s.2 in cc

pub innermost_in : (elements : List MeasuredType) (t e : MeasuredType) (i : ℕ) (r : Option MeasuredType) → element_index t.kind ≡ Some i → slice_get elements i ≡ Some e
    → ((u : MeasuredType) → (r ≡ Some u) ↔ IsInnermost (take i elements) e u) → (u : MeasuredType) → (r ≡ Some u) ↔ IsInnermost elements t u
innermost_in elements t e i r at is h u = (λ s. into ((h u).0 s), λ k. (h u).1 (out k.0 k.1 k.2 k.3))
  where
    into : IsInnermost (take i elements) e u → IsInnermost elements t u
    into k = (e ∷ k.0, (i, at, is, k.1), k.2, k.3)

    out : (es : List MeasuredType) → AreNested elements t es → u ≡ last_of t es → element_index u.kind ≡ None → IsInnermost (take i elements) e u
    out [] s l n = let both : Some i ≡ None = sym at ∙ (sym (ap (λ (v : MeasuredType). element_index v.kind) l) ∙ n) in cc
    out (f ∷ es) s l n = let k = first_nested elements t e f i s.0 es at is s.1 s.2 s.3 in (es, k.1, l ∙ ap (λ v. last_of v es) k.0, n)

pub innermost_missing : (elements : List MeasuredType) (t : MeasuredType) (i : ℕ) (r : Option MeasuredType) → element_index t.kind ≡ Some i → slice_get elements i ≡ None → r ≡ None
    → (u : MeasuredType) → (r ≡ Some u) ↔ IsInnermost elements t u
innermost_missing elements t i r at missing none u = (λ s. let both : None ≡ Some u = sym none ∙ s in cc, λ k. absurd (out k.0 k.1 k.2 k.3))
  where
    out : (es : List MeasuredType) → AreNested elements t es → u ≡ last_of t es → element_index u.kind ≡ None → ⊥
    out [] s l n = let both : Some i ≡ None = sym at ∙ (sym (ap (λ (v : MeasuredType). element_index v.kind) l) ∙ n) in cc
    out (f ∷ es) s l n = none_nested elements t f i es at missing s

pub innermost_itself : (elements : List MeasuredType) (t : MeasuredType) → element_index t.kind ≡ None → (u : MeasuredType) → (Some t ≡ Some u) ↔ IsInnermost elements t u
innermost_itself elements t none u = (λ s. into (same_Some t u s), λ k. out k.0 k.1 k.2)
  where
    into : t ≡ u → IsInnermost elements t u
    into e = ([], tt, sym e, subst (λ (v : MeasuredType). element_index v.kind ≡ None) e none)

    out : (es : List MeasuredType) → AreNested elements t es → u ≡ last_of t es → Some t ≡ Some u
    out [] s l = ap Some (sym l)
    out (f ∷ es) s l = let both : None ≡ Some s.0 = sym none ∙ s.1 in cc

abbrev pub NotTooClose : AddressSpace → MeasuredType → Type 0
NotTooClose space e = (n : ℕ) → ¬ IsTooClose space e n

pub outermost_none : (space : AddressSpace) (elements : List MeasuredType) (t : MeasuredType) → element_index t.kind ≡ None → IsExactly None (IsOutermostTooClose space elements t)
outermost_none space elements t none n = (λ s. (cc), λ k. absurd (out k.0 k.1 k.2))
  where
    out : (outer : List MeasuredType) (e : MeasuredType) → AreNested elements t (outer ++ e ∷ []) → ⊥
    out [] e s = let both : None ≡ Some s.0 = sym none ∙ s.1 in cc
    out (o ∷ outer) e s = let both : None ≡ Some s.0 = sym none ∙ s.1 in cc

pub outermost_missing : (space : AddressSpace) (elements : List MeasuredType) (t : MeasuredType) (i : ℕ) (r : Option ℕ) → element_index t.kind ≡ Some i → slice_get elements i ≡ None → r ≡ None
    → IsExactly r (IsOutermostTooClose space elements t)
outermost_missing space elements t i r at missing none n = (λ s. let both : None ≡ Some n = sym none ∙ s in cc, λ k. absurd (out k.0 k.1 k.2))
  where
    out : (outer : List MeasuredType) (e : MeasuredType) → AreNested elements t (outer ++ e ∷ []) → ⊥
    out [] e s = none_nested elements t e i [] at missing s
    out (o ∷ outer) e s = none_nested elements t o i (outer ++ e ∷ []) at missing s

-- the elements themselves lie too close
pub outermost_here : (space : AddressSpace) (elements : List MeasuredType) (t e : MeasuredType) (i k : ℕ) (r : Option ℕ) → element_index t.kind ≡ Some i → slice_get elements i ≡ Some e
    → IsExactly r (IsTooClose space e) → r ≡ Some k → IsExactly (Some k) (IsOutermostTooClose space elements t)
outermost_here space elements t e i k r at is close found n =
    (λ s. ([], e, (i, at, is, tt), All-nil (NotTooClose space), (close n).0 (found ∙ s)), λ h. sym found ∙ (close n).1 (out h.0 h.1 h.2 h.3 h.4))
  where
    out : (outer : List MeasuredType) (f : MeasuredType) → AreNested elements t (outer ++ f ∷ []) → All (NotTooClose space) outer → IsTooClose space f n → IsTooClose space e n
    out [] f s all h = subst (λ v. IsTooClose space v n) (first_nested elements t e f i s.0 [] at is s.1 s.2 s.3).0 h
    out (o ∷ outer) f s all h =
        let one = (first_nested elements t e o i s.0 (outer ++ f ∷ []) at is s.1 s.2 s.3).0 in
        absurd (All-head (NotTooClose space) o outer all k (subst (λ v. IsTooClose space v k) (sym one) ((close k).0 found)))

-- the elements themselves lie far enough apart
pub outermost_in : (space : AddressSpace) (elements : List MeasuredType) (t e : MeasuredType) (i : ℕ) (here r : Option ℕ) → element_index t.kind ≡ Some i → slice_get elements i ≡ Some e
    → IsExactly here (IsTooClose space e) → here ≡ None → IsExactly r (IsOutermostTooClose space (take i elements) e) → IsExactly r (IsOutermostTooClose space elements t)
outermost_in space elements t e i here r at is close none h n = (λ s. into ((h n).0 s), λ k. (h n).1 (out k.0 k.1 k.2 k.3 k.4))
  where
    apart : NotTooClose space e
    apart m c = let both : None ≡ Some m = sym none ∙ (close m).1 c in cc

    into : IsOutermostTooClose space (take i elements) e n → IsOutermostTooClose space elements t n
    into k = (e ∷ k.0, k.1, (i, at, is, k.2), All-cons (NotTooClose space) e k.0 apart k.3, k.4)

    out : (outer : List MeasuredType) (f : MeasuredType) → AreNested elements t (outer ++ f ∷ []) → All (NotTooClose space) outer → IsTooClose space f n
        → IsOutermostTooClose space (take i elements) e n
    out [] f s all c = absurd (apart n (subst (λ v. IsTooClose space v n) (first_nested elements t e f i s.0 [] at is s.1 s.2 s.3).0 c))
    out (o ∷ outer) f s all c = (outer, f, (first_nested elements t e o i s.0 (outer ++ f ∷ []) at is s.1 s.2 s.3).1, All-tail (NotTooClose space) o outer all, c)

-- a value of which more holds, one of which it doesn't, and none
pub kept : (S Q : ℕ → Type 0) (o : Option ℕ) (k : ℕ) → IsExactly o S → o ≡ Some k → Q k → IsExactly (Some k) (λ n. S n × Q n)
kept S Q o k of is q n = (λ e. let same = same_Some k n e in (subst S same ((of k).0 is), subst Q same q), λ h. sym is ∙ (of n).1 h.0)

pub left_out : (S Q : ℕ → Type 0) (o : Option ℕ) (k : ℕ) → IsExactly o S → o ≡ Some k → ¬ Q k → IsExactly None (λ n. S n × Q n)
left_out S Q o k of is wrong n = (λ e. (cc), λ h. let same = same_Some k n (sym is ∙ (of n).1 h.0) in absurd (wrong (subst Q (sym same) h.1)))

pub nothing : (S Q : ℕ → Type 0) (o r : Option ℕ) → IsExactly o S → o ≡ None → r ≡ None → IsExactly r (λ n. S n × Q n)
nothing S Q o r of is none n = (λ e. let both : None ≡ Some n = sym none ∙ e in cc, λ h. let both : None ≡ Some n = sym is ∙ (of n).1 h.0 in cc)
