-- Tokens without lists, of which none is joined with those behind it.
use Rattle.std.proofs.Common.{◌≡◌, ◌≢◌, ℕ, ◌<◌, ◌≤◌, false, true, Bool, List, [], ◌∷◌, ◌++◌, append_assoc, drop, get_or, length, zero, suc, refl, sym, ap, subst, ◌∙◌, arith, append-nil}
use Rattle.wgsl_reader.proofs.Common.{same_true, Search, found_from, is, joined_by, passed, step_at, with_lists, Kind, Opened, Token}
use Rattle.wgsl_reader.specs.contracts.kind.Kind.{the_type as kind_type}
use Rattle.wgsl_reader.specs.declared.kind.Kind.TheVariants as k
use Rattle.wgsl_reader.specs.declared.lists.Opened.TheVariants as o

abbrev IsAlone : Kind → List Token → Type 0
IsAlone kind ts = (joined_by kind ts ≡ (kind, 0)) × (kind ≢ k.Greater)

-- so many tokens from the front on stand alone
abbrev pub AreAlone : ℕ → List Token → Type 0
AreAlone zero ts = Unit {0}
AreAlone (suc n) [] = Unit {0}
AreAlone (suc n) (t ∷ ts) = IsAlone t.kind (t ∷ ts) × AreAlone n ts

ends_none : (t : Token) → t.kind ≢ k.Greater → is k.Greater t ≡ false
ends_none t other = turn (is k.Greater t) refl
  where
    turn : (b : Bool) → is k.Greater t ≡ b → b ≡ false
    turn true e = absurd (other (same_true kind_type tt t.kind k.Greater e))
    turn false e = refl

one_passed : (s : Search) (t : Token) (ts : List Token) → IsAlone t.kind (t ∷ ts) → step_at s t (joined_by t.kind (t ∷ ts)) s.opened ≡ (passed s t (t.kind, 0), 0)
one_passed s t ts alone = ap (λ found. step_at s t found s.opened) alone.0 ∙ turn s.opened
  where
    turn : (opened : List Opened) → step_at s t (t.kind, 0) opened ≡ (passed s t (t.kind, 0), 0)
    turn [] = refl
    turn (o.Bracket ∷ opened) = refl
    turn (o.Less index ∷ opened) = rw (ends_none t alone.1) refl

same_found : (n : ℕ) (ts : List Token) (s : Search) → length ts ≤ n → AreAlone n ts → found_from 0 s ts ≡ s.tokens ++ ts
same_found n [] s le all = sym (append-nil s.tokens)
same_found zero (t ∷ ts) s le all = absurd (omega (arith, le))
same_found (suc n) (t ∷ ts) s le all =
    ap (λ (next : Search × ℕ). found_from next.1 next.0 ts) (one_passed s t ts all.0)
    ∙ (same_found n ts (passed s t (t.kind, 0)) (omega (arith, le)) all.1 ∙ append_assoc s.tokens (t ∷ []) ts)

pub all_same : (n : ℕ) (ts : List Token) → length ts ≤ n → AreAlone n ts → with_lists ts ≡ ts
all_same n ts le all = same_found n ts _ le all

pub one_more : (ts rest : List Token) (at : ℕ) (d : Token) → at < length ts → rest ≡ drop at ts → IsAlone (get_or ts at d).kind rest → AreAlone at ts → AreAlone (suc at) ts
one_more [] rest at d lt left here before = absurd (omega (arith, lt))
one_more (t ∷ ts) rest zero d lt left here before = (subst (IsAlone t.kind) left here, tt)
one_more (t ∷ ts) rest (suc at) d lt left here before = (before.0, one_more ts rest at d (omega (arith, lt)) left here before.1)
