-- What is told of a text stays told.
use Rattle.std.proofs.Common.{ℕ, ◌≡◌, ◌<◌, ◌∷◌, ◌++◌, [], List, Contains, Global, IfOk, Result, Vec, ap, append_assoc, arith, inl, inr, map, refl, subst, sym}
use Rattle.std.proofs.lemmas.List.{append-nil, map-append, map_push}
use Rattle.std.proofs.lemmas.List.Elements.{Contains-append_cases, Contains-append_left, Contains-append_right, Contains-push, Contains-push_cases}
use Rattle.std.proofs.lemmas.List.Sorted.{Contains-permutation, IsPermutation-map}
use Rattle.std.proofs.lemmas.Result.{IfOk-weaker}
use Rattle.std.specs.declared.alloc.AllocError.{AllocError}
use Rattle.std.specs.List.Sorted.{IsPermutation}
use Rattle.wgsl_module.specs.Told.{AreTold, Broken, broken}
use Rattle.wgsl_typing.specs.declared.fault.Fault.{Fault}

-- the last one, and those in front of it
pub last_told : (xs ys : List Fault) (x : Fault) → xs ≡ ys ++ x ∷ [] → Contains (map broken xs) (broken x)
last_told xs ys x is = let P : List Broken → Type 0 = λ bs. Contains bs (broken x) in
    subst P (sym (ap (map broken) is)) (subst P (sym (map_push broken ys x)) (Contains-push (map broken ys) (broken x)))

pub before_told : (xs ys : List Fault) (x : Fault) → xs ≡ ys ++ x ∷ [] → (b : Broken) → Contains (map broken ys) b → Contains (map broken xs) b
before_told xs ys x is b h = let P : List Broken → Type 0 = λ bs. Contains bs b in
    subst P (sym (ap (map broken) is)) (subst P (sym (map_push broken ys x)) (Contains-append_left (map broken ys) (broken x ∷ []) b h))

-- one that is told again may go
pub nothing : {k : ℕ} → k < 0 → ⊥
nothing lt = omega arith

only : (x b : Broken) → Contains (x ∷ []) b → x ≡ b
only x b h = elim (Contains-push_cases [] x b h) [ inl none ↦ absurd (nothing none.1) | inr same ↦ same ]

pub without_again : (xs ys : List Fault) (x : Fault) → Contains (map broken xs) (broken x) → (b : Broken)
    → Contains (map broken (xs ++ x ∷ ys)) b → Contains (map broken (xs ++ ys)) b
without_again xs ys x again b h = let P : List Broken → Type 0 = λ bs. Contains bs b in
    subst P (sym (map-append broken xs ys)) (elim (Contains-append_cases (map broken xs) (map broken (x ∷ ys)) b (subst P (map-append broken xs (x ∷ ys)) h)) [
      | inl front ↦ Contains-append_left (map broken xs) (map broken ys) b front
      | inr rest ↦ elim (Contains-append_cases (broken x ∷ []) (map broken ys) b rest) [
        | inl here ↦ Contains-append_left (map broken xs) (map broken ys) b (subst (Contains (map broken xs)) (only (broken x) b here) again)
        | inr later ↦ Contains-append_right (map broken xs) (map broken ys) b later
      ]
    ])

pub reordered : (xs all ys : List Fault) (r : Result (Vec Fault Global) AllocError) → all ≡ xs → IsPermutation all ys
    → IfOk r (λ kept. AreTold (map broken ys) kept.items) → IfOk r (λ kept. AreTold (map broken xs) kept.items)
reordered xs all ys r same order told = IfOk-weaker r (λ kept. AreTold (map broken ys) kept.items) (λ kept. AreTold (map broken xs) kept.items)
    (λ kept h b k. h b (Contains-permutation (map broken all) (map broken ys) b (IsPermutation-map broken all ys order)
    (subst (λ fs. Contains (map broken fs) b) (sym same) k))) told

-- one more is kept, or goes
pub kept_too : (bs : List Broken) (xs ys rest more : List Fault) (x : Fault) → ys ≡ xs ++ x ∷ [] → rest ≡ x ∷ more
    → AreTold bs (xs ++ rest) → AreTold bs (ys ++ more)
kept_too bs xs ys rest more x kept taken told = let P : List Fault → Type 0 = λ fs. AreTold bs fs in
    subst (λ fs. AreTold bs (fs ++ more)) (sym kept) (subst P (sym (append_assoc xs (x ∷ []) more)) (subst (λ fs. AreTold bs (xs ++ fs)) taken told))

pub gone : (bs : List Broken) (xs rest more : List Fault) (x : Fault) → Contains (map broken xs) (broken x) → rest ≡ x ∷ more
    → AreTold bs (xs ++ rest) → AreTold bs (xs ++ more)
gone bs xs rest more x again taken told b h = without_again xs more x again b (subst (λ fs. Contains (map broken (xs ++ fs)) b) taken (told b h))

pub none_left : (bs : List Broken) (xs rest : List Fault) → rest ≡ [] → AreTold bs (xs ++ rest) → AreTold bs xs
none_left bs xs rest none told = subst (λ fs. AreTold bs fs) (append-nil xs) (subst (λ fs. AreTold bs (xs ++ fs)) none told)

-- what is added is told
pub added_told : (bs : List Broken) (xs ys all : List Fault) → map broken ys ≡ bs → AreTold (map broken (xs ++ ys)) all → AreTold bs all
added_told bs xs ys all same told b h = told b (subst (λ cs. Contains cs b) (sym (map-append broken xs ys))
    (Contains-append_right (map broken xs) (map broken ys) b (subst (λ cs. Contains cs b) (sym same) h)))

-- Where nothing is told in the end, nothing was before.
pub nothing_told : (before after : List Fault) → ((b : Broken) → Contains (map broken before) b → Contains (map broken after) b) → after ≡ [] → before ≡ []
nothing_told [] after kept none = refl
nothing_told (f ∷ before) after kept none =
    let first : Contains (map broken (f ∷ before)) (broken f) = Contains-append_left (broken f ∷ []) (map broken before) (broken f) (Contains-push [] (broken f)) in
    let last : Contains [] (broken f) = subst (λ fs. Contains (map broken fs) (broken f)) none (kept (broken f) first) in
    absurd (nothing last.1)

pub none_in_front : (xs ys : List Fault) → xs ++ ys ≡ [] → xs ≡ []
none_in_front [] ys none = refl
none_in_front (x ∷ xs) ys none = cc none
