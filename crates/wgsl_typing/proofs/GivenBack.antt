-- What a declaration stands for is taken and given back.
use Rattle.std.proofs.Common.{◌≡◌, ◌<◌, ◌≤◌, ℕ, zero, suc, List, [], ◌∷◌, Option, None, length, slice_index_or, slice_set, refl, ap, ◌∙◌, arith}
use Rattle.wgsl_typing.specs.declared.known.Known.{Known}
use Rattle.wgsl_typing.specs.Names.{known_of, with_known}
use Rattle.wgsl_typing.specs.declared.expressions.Named.{Named}

pub given_back : (index : ℕ) (declared : List Named) → with_known index (known_of declared index) (with_known index None declared) ≡ declared
given_back index [] = refl
given_back zero (d ∷ declared) = refl
given_back (suc index) (d ∷ declared) = ap (λ rest. d ∷ rest) (given_back index declared)

pub past_end : (index : ℕ) (known : Option Known) (declared : List Named) → length declared ≤ index → with_known index known declared ≡ declared
past_end index known [] past = refl
past_end zero known (d ∷ declared) past = absurd (omega arith)
past_end (suc index) known (d ∷ declared) past = ap (λ rest. d ∷ rest) (past_end index known declared (omega arith))

pub known_at : (index : ℕ) (declared : List Named) (d : Named) → index < length declared → (slice_index_or declared index d).known ≡ known_of declared index
known_at index [] d there = absurd (omega arith)
known_at zero (e ∷ declared) d there = refl
known_at (suc index) (e ∷ declared) d there = known_at index declared d (omega arith)

pub set_known : (index : ℕ) (known k : Option Known) (declared : List Named) (d : Named) → index < length declared → d ≡ slice_index_or declared index d → k ≡ known
    → slice_set declared index (record { named = d.named; known = k }) ≡ with_known index known declared
set_known index known k [] d there is same = absurd (omega arith)
set_known zero known k (e ∷ declared) d there is same =
    ap (λ (x : Named). let y : Named = record { named = x.named; known = k } in y ∷ declared) is
    ∙ ap (λ (o : Option Known). let y : Named = record { named = e.named; known = o } in y ∷ declared) same
set_known (suc index) known k (e ∷ declared) d there is same = ap (λ rest. e ∷ rest) (set_known index known k declared d (omega arith) is same)
