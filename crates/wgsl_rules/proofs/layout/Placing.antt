-- The placement with each member at the first offset that its alignment allows; no placement is smaller.
use Rattle.std.proofs.Common.{◌≡◌, ℕ, ◌+◌, ◌*◌, ◌-◌, ◌/◌, ◌%◌, ◌<◌, ◌≤◌, zero, suc, List, [], ◌∷◌, get_or, ap, arith, ◌⊎◌, inl, inr, ◌∙◌}
use Rattle.wgsl_rules.proofs.Common.{◌∣◌, next_multiple_of, dvd_of_mod-eq-zero, mod-eq-zero_of_dvd, MemberLayout, AreLaid, greatest_align, IsLeastTotal}
use Rattle.std.proofs.Math.Nat.{mod-lt, div-add-mod, lt_of_mul-lt-mul_left, mul-le-mul_left, mod_self, mod-eq_of_lt, add-mod_right, mul-mod_right, eq-zero-or-pos}

-- The least multiple

pub next_ge : (x a : ℕ) → x ≤ next_multiple_of x a
next_ge x a = omega arith

-- it is x, or the multiple after x
next_cases : (x a : ℕ) → 0 < a → ((x % a ≡ 0) × (next_multiple_of x a ≡ x)) ⊎ ((0 < x % a) × (next_multiple_of x a ≡ a * (x / a) + a))
next_cases x a pos =
    let whole : a * (x / a) + x % a ≡ x = div-add-mod x a in
    let below : x % a < a = mod-lt x pos in
    elim (eq-zero-or-pos (x % a)) [
      | inl e ↦
          let none : (a - x % a) % a ≡ 0 = ap (λ n. n % a) (let same : a - x % a ≡ a = omega arith in same) ∙ mod_self a in
          inl (e, omega arith)
      | inr more ↦ let small : a - x % a < a = omega arith in let self : (a - x % a) % a ≡ a - x % a = mod-eq_of_lt small in inr (more, omega arith)
    ]

next_mod : (x a : ℕ) → 0 < a → next_multiple_of x a % a ≡ 0
next_mod x a pos = elim (next_cases x a pos) [
  | inl h ↦ ap (λ n. n % a) h.1 ∙ h.0
  | inr h ↦ ap (λ n. n % a) h.1 ∙ add-mod_right (a * (x / a)) a ∙ mul-mod_right a (x / a)
]

pub next_dvd : (x a : ℕ) → 0 < a → a ∣ next_multiple_of x a
next_dvd x a pos = dvd_of_mod-eq-zero a (next_mod x a pos)

pub next_least : (x a m : ℕ) → 0 < a → a ∣ m → x ≤ m → next_multiple_of x a ≤ m
next_least x a m pos d le =
    let m_whole : a * (m / a) + m % a ≡ m = div-add-mod m a in
    let m_even : m % a ≡ 0 = mod-eq-zero_of_dvd a d in
    let x_whole : a * (x / a) + x % a ≡ x = div-add-mod x a in
    elim (next_cases x a pos) [
      | inl h ↦ omega (arith, h.1)
      | inr h ↦
          let lower : a * (x / a) < a * (m / a) = omega (arith, h.0) in
          let fewer : suc (x / a) ≤ m / a = lt_of_mul-lt-mul_left a lower in
          let up : a * suc (x / a) ≤ a * (m / a) = mul-le-mul_left a fewer in
          omega (arith, h.1, up)
    ]

-- The first offsets

abbrev pub Aligned : List MemberLayout → Type 0
Aligned [] = Unit {0}
Aligned (p ∷ ps) = (0 < p.align) × Aligned ps

abbrev pub end_of : ℕ → List MemberLayout → ℕ
end_of e [] = e
end_of e (p ∷ ps) = end_of (next_multiple_of e p.align + p.size) ps

abbrev pub starts : ℕ → List MemberLayout → List ℕ
starts e [] = []
starts e (p ∷ ps) = next_multiple_of e p.align ∷ starts (next_multiple_of e p.align + p.size) ps

pub laid : (e : ℕ) (ps : List MemberLayout) (total : ℕ) → Aligned ps → end_of e ps ≤ total → AreLaid e ps (starts e ps) total
laid e [] total al le = le
laid e (p ∷ ps) total al le = (next_dvd e p.align al.0, next_ge e p.align, laid (next_multiple_of e p.align + p.size) ps total al.1 le)

pub no_less : (e f : ℕ) (ps : List MemberLayout) (os : List ℕ) (total : ℕ) → Aligned ps → e ≤ f → AreLaid f ps os total → end_of e ps ≤ total
no_less e f [] [] total al le h = omega arith
no_less e f [] (o ∷ os) total al le h = absurd h
no_less e f (p ∷ ps) [] total al le h = absurd h
no_less e f (p ∷ ps) (o ∷ os) total al le h =
    let at : next_multiple_of e p.align ≤ o = next_least e p.align o al.0 h.0 (omega arith) in
    no_less (next_multiple_of e p.align + p.size) (o + p.size) ps os total al.1 (omega (arith, at)) h.2

pub no_earlier : (e f : ℕ) (ps : List MemberLayout) (os : List ℕ) (total : ℕ) → Aligned ps → e ≤ f → AreLaid f ps os total → (k : ℕ) → get_or (starts e ps) k 0 ≤ get_or os k 0
no_earlier e f [] [] total al le h k = omega arith
no_earlier e f [] (o ∷ os) total al le h k = absurd h
no_earlier e f (p ∷ ps) [] total al le h k = absurd h
no_earlier e f (p ∷ ps) (o ∷ os) total al le h zero = next_least e p.align o al.0 h.0 (omega arith)
no_earlier e f (p ∷ ps) (o ∷ os) total al le h (suc k) =
    let at : next_multiple_of e p.align ≤ o = next_least e p.align o al.0 h.0 (omega arith) in
    no_earlier (next_multiple_of e p.align + p.size) (o + p.size) ps os total al.1 (omega (arith, at)) h.2 k

-- The least total

pub laid_sooner : (e f : ℕ) (ps : List MemberLayout) (os : List ℕ) (total : ℕ) → e ≤ f → AreLaid f ps os total → AreLaid e ps os total
laid_sooner e f [] [] total le h = omega arith
laid_sooner e f (p ∷ ps) (o ∷ os) total le h = (h.0, let at : f ≤ o = h.1 in omega arith, h.2)
laid_sooner e f _ _ total le h = absurd h

-- the total is not below the start
pub laid_before : (e : ℕ) (ps : List MemberLayout) (os : List ℕ) (total : ℕ) → AreLaid e ps os total → e ≤ total
laid_before e [] [] total h = h
laid_before e [] (o ∷ os) total h = absurd h
laid_before e (p ∷ ps) [] total h = absurd h
laid_before e (p ∷ ps) (o ∷ os) total h =
    let at : e ≤ o = h.1 in
    let rest : o + p.size ≤ total = laid_before (o + p.size) ps os total h.2 in omega arith

pub same_least : (ps : List MemberLayout) (m n : ℕ) → IsLeastTotal ps m → IsLeastTotal ps n → m ≡ n
same_least ps m n a b =
    let up : m ≤ n = a.1 b.0.0 n b.0.1 in
    let down : n ≤ m = b.1 a.0.0 m a.0.1 in omega arith

pub least_total : (ps : List MemberLayout) → Aligned ps → 0 < greatest_align ps → IsLeastTotal ps (next_multiple_of (end_of 0 ps) (greatest_align ps))
least_total ps al pos = (
  (starts 0 ps, (laid 0 ps _ al (next_ge (end_of 0 ps) (greatest_align ps)), next_dvd (end_of 0 ps) (greatest_align ps) pos)),
  λ others more h. next_least (end_of 0 ps) (greatest_align ps) more pos h.1 (no_less 0 0 ps others more al (let z : 0 ≤ 0 = omega arith in z) h.0),
)
