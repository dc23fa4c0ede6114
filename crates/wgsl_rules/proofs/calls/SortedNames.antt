-- The names of the built-in functions are sorted and distinct.
use Rattle.std.proofs.Common.{ℕ, suc, zero, ◌≡◌, ◌<◌, ◌&&◌, List, [], ◌∷◌, length, Bool, true, false, refl, sym, arith, true≢false, nat_cmp, is_lt}
use Rattle.std.specs.Cmp.Lexicographic.{slice_cmp, nat_list_cmp_total}
use Rattle.std.specs.declared.cmp.Ordering.{Ordering}
use Rattle.std.specs.declared.cmp.Ordering.TheVariants.{Less}
use Rattle.wgsl_rules.specs.calls.Names.{IsRising, name_at, call_names}

abbrev pub rises : List (List ℕ) → Bool
rises [] = true
rises (x ∷ []) = true
rises (x ∷ y ∷ xs) = is_lt (slice_cmp nat_cmp x y) && rises (y ∷ xs)

computed : rises call_names ≡ true
unfolding call_names
computed = refl

both : (a b : Bool) → (a && b) ≡ true → (a ≡ true) × (b ≡ true)
both true true h = (refl, refl)
both true false h = absurd (true≢false (sym h))
both false b h = absurd (true≢false (sym h))

less_of : (o : Ordering) → is_lt o ≡ true → o ≡ Less
less_of Less h = refl
less_of _ h = absurd (true≢false (sym h))

tail : (x : List ℕ) (ns : List (List ℕ)) → rises (x ∷ ns) ≡ true → rises ns ≡ true
tail x [] h = refl
tail x (y ∷ ns) h = (both (is_lt (slice_cmp nat_cmp x y)) (rises (y ∷ ns)) h).1

above_head : (x : List ℕ) (ns : List (List ℕ)) → rises (x ∷ ns) ≡ true → (j : ℕ) → j < length ns → slice_cmp nat_cmp x (name_at ns j) ≡ Less
above_head x [] h j b = absurd (omega arith)
above_head x (y ∷ ns) h zero b = less_of _ (both (is_lt (slice_cmp nat_cmp x y)) (rises (y ∷ ns)) h).0
above_head x (y ∷ ns) h (suc j) b =
    let p = both (is_lt (slice_cmp nat_cmp x y)) (rises (y ∷ ns)) h in
    nat_list_cmp_total.trans x y (name_at ns j) (less_of _ p.0) (above_head y ns p.1 j (omega arith))

pub rises_far : (ns : List (List ℕ)) → rises ns ≡ true → IsRising ns
rises_far (x ∷ ns) h zero (suc j) l b = above_head x ns h j (omega arith)
rises_far (x ∷ ns) h (suc i) (suc j) l b = rises_far ns (tail x ns h) i j (omega arith) (omega arith)
rises_far _ h _ _ l b = absurd (omega arith)

pub names_sorted : IsRising call_names
names_sorted = rises_far call_names computed
