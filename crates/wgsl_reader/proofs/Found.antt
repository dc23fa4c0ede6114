-- The search for template lists, token by token.
use Rattle.std.proofs.Common.{◌≡◌, ℕ, ◌+◌, ◌<◌, ◌≤◌, List, [], ◌∷◌, drop, get_or, length, slice_set, zero, suc, refl, sym, ap, ◌∙◌, arith, drop-drop}
use Rattle.wgsl_reader.proofs.Common.{common_steps, Search, begun, found_from, joined, of_kind, step_at, Kind, Token}
use Rattle.wgsl_reader.specs.declared.kind.Kind.TheVariants as k

-- the `<` at an index

pub begun_there : (ts : List Token) (index : ℕ) (t d : Token) → index < length ts → t ≡ get_or ts index d → slice_set ts index (of_kind (k.OpenTemplate, 0) t) ≡ begun index ts
begun_there [] index t d lt e = absurd (omega (arith, lt))
begun_there (u ∷ ts) zero t d lt e = rw e refl
begun_there (u ∷ ts) (suc index) t d lt e = ap (λ ts. u ∷ ts) (begun_there ts index t d (omega (arith, lt)) e)

pub begun_nowhere : (ts : List Token) (index : ℕ) → length ts ≤ index → ts ≡ begun index ts
begun_nowhere [] index past = refl
begun_nowhere (t ∷ ts) zero past = absurd (omega (arith, past))
begun_nowhere (t ∷ ts) (suc index) past = ap (λ ts. t ∷ ts) (begun_nowhere ts index (omega (arith, past)))

skipped : (n : ℕ) (s : Search) (ts : List Token) → found_from n s ts ≡ found_from 0 s (drop n ts)
skipped zero s ts = refl
skipped (suc n) s [] = refl
skipped (suc n) s (t ∷ ts) = skipped n s ts

front : (at : ℕ) (ts : List Token) (d : Token) → at < length ts → drop at ts ≡ get_or ts at d ∷ drop (at + 1) ts
front at ts d lt = grind (arith, common_steps, lt)

-- one token, with those that belong to it
pub stepped : (whole ts : List Token) (at : ℕ) (d : Token) (s next : Search) (more : ℕ) → at < length ts → whole ≡ found_from 0 s (drop at ts)
    → (found : Kind × ℕ) → found ≡ joined (drop at ts) → (next, more) ≡ step_at s (get_or ts at d) found s.opened → whole ≡ found_from 0 next (drop (at + (1 + more)) ts)
stepped whole ts at d s next more lt before found is e =
    let there : drop more (drop (at + 1) ts) ≡ drop (at + (1 + more)) ts = drop-drop more (at + 1) ts ∙ ap (λ n. drop n ts) (omega arith) in
    before ∙ (ap (found_from 0 s) (front at ts d lt)
    ∙ (ap (λ found. (λ (next : Search × ℕ). found_from next.1 next.0 (drop (at + 1) ts)) (step_at s (get_or ts at d) (joined found) s.opened)) (sym (front at ts d lt))
    ∙ (ap (λ (next : Search × ℕ). found_from next.1 next.0 (drop (at + 1) ts)) (sym (e ∙ ap (λ found. step_at s (get_or ts at d) found s.opened) is))
    ∙ (skipped more next (drop (at + 1) ts) ∙ ap (found_from 0 next) there))))
