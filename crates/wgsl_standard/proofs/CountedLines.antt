-- The lines of overloads, counted.
use Rattle.std.proofs.Common.{◌≡◌, ◌∙◌, ◌+◌, ◌-◌, ◌<◌, ◌≤◌, ◌++◌, ℕ, suc, Bool, false, List, [], ◌∷◌, Some, ap, arith, cond, drop, get_or, length, refl, slice_get, sym, take, append-nil, length-append, flat_map}
use Rattle.wgsl_standard.proofs.Common.{drop-cons, take-suc, flat_map-append, Overload, overload_lines, signature_lines, WgslCallee, callee_view, overloads_of, or_none, callees_before, line_of_overload, lines_before, lines_listed, name_of, texts_listed, Callee}
use Rattle.wgsl_standard.proofs.Listed.{next, stands}

-- the lines of one more overload
pub lines_then : (n : List ℕ) (t : Bool) (os : List Overload) (o : Overload) → signature_lines n t (os ++ o ∷ []) ≡ signature_lines n t os ++ overload_lines n t o
lines_then n t os o = flat_map-append (overload_lines n t) os (o ∷ []) ∙ ap (λ ls. signature_lines n t os ++ ls) (append-nil (overload_lines n t o))

pub one_more : (os : List Overload) (i : ℕ) (d : Overload) → i < length os → take (i + 1) os ≡ take i os ++ get_or os i d ∷ []
one_more os i d h = ap (λ n. take n os) (sym (next i)) ∙ take-suc os i d h

pub counted_then : (n : List ℕ) (t : Bool) (os : List Overload) (i : ℕ) (d : Overload) (count lines : ℕ) → i < length os
    → length (signature_lines n t (take i os)) ≡ count → length (overload_lines n t (get_or os i d)) ≡ lines → length (signature_lines n t (take (i + 1) os)) ≡ count + lines
counted_then n t os i d count lines h e f =
    ap (λ os. length (signature_lines n t os)) (one_more os i d h) ∙ ap length (lines_then n t (take i os) (get_or os i d))
    ∙ length-append (signature_lines n t (take i os)) (overload_lines n t (get_or os i d)) ∙ (ap (λ m. m + length (overload_lines n t (get_or os i d))) e ∙ ap (λ n. count + n) f)

-- the number of lines before the next overload
pub lines_next : (c : WgslCallee) (t : Bool) (os : List Overload) (i : ℕ) (d : Overload) (line lines : ℕ) → i < length os
    → line ≡ length (lines_before c t (take i os)) → ((n : List ℕ) (t : Bool) → length (overload_lines n t (get_or os i d)) ≡ lines) → line + lines ≡ length (lines_before c t (take (i + 1) os))
lines_next c t os i d line lines h e f =
    let front = flat_map texts_listed (callees_before c) ++ cond t (lines_listed c false) [] in
    let more = counted_then (name_of c) t os i d (length (signature_lines (name_of c) t (take i os))) lines h refl (f (name_of c) t) in
    omega (arith, e, more, length-append front (signature_lines (name_of c) t (take i os)), length-append front (signature_lines (name_of c) t (take (i + 1) os)))

-- the overloads from the one before an index on
pub from_last : (os : List Overload) (i : ℕ) (d : Overload) → 0 < i → i ≤ length os → drop (i - 1) os ≡ get_or os (i - 1) d ∷ drop i os
from_last os i d some within =
    let here : i - 1 < length os = omega arith in
    let next : suc (i - 1) ≡ i = omega arith in
    drop-cons os (i - 1) d here ∙ ap (λ n. get_or os (i - 1) d ∷ drop n os) next

-- the number of lines before that overload, and of its own
pub lines_without : (c : WgslCallee) (t : Bool) (os : List Overload) (i : ℕ) (d : Overload) (line lines : ℕ) → 0 < i → i ≤ length os
    → line ≡ length (lines_before c t (take i os)) → ((n : List ℕ) (t : Bool) → length (overload_lines n t (get_or os (i - 1) d)) ≡ lines) → length (lines_before c t (take (i - 1) os)) + lines ≡ line
lines_without c t os i d line lines some within e f =
    let here : i - 1 < length os = omega arith in
    let next : i - 1 + 1 ≡ i = omega arith in
    lines_next c t os (i - 1) d (length (lines_before c t (take (i - 1) os))) lines here refl f ∙ (ap (λ n. length (lines_before c t (take n os))) next ∙ sym e)

-- the first line of an overload that is listed
pub first_line : (callee : Callee) (t : Bool) (os : List Overload) (i : ℕ) (d : Overload) (line : ℕ) → os ≡ or_none (overloads_of callee t)
    → i < length os → line ≡ length (lines_before (callee_view callee) t (take i os))
    → (at : ℕ) × (slice_get (or_none (overloads_of callee t)) at ≡ Some (get_or os i d)) × (line ≡ line_of_overload (callee_view callee) t at false)
first_line callee t os i d line e h f =
    (i, stands (or_none (overloads_of callee t)) os i d e h, f ∙ ap (λ os. length (lines_before (callee_view callee) t (take i os))) e)
