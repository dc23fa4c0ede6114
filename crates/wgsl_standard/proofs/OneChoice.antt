-- At most one candidate is preferred to all others.
use Rattle.std.proofs.Common.{◌≡◌, ℕ, List, Option, sym, inl, inr}
use Rattle.wgsl_standard.proofs.Common.{WgslType, Overload, Operand, IsPreferred}
use Rattle.wgsl_rules.proofs.operators.Choices.{contrary}

pub chosen_once : (os : List Overload) (xs : List Operand) (k l : ℕ) (us vs : List WgslType) (r s : Option WgslType) →
    IsPreferred os xs k us r → IsPreferred os xs l vs s → (k ≡ l) × (us ≡ vs) × (r ≡ s)
chosen_once os xs k l us vs r s a b =
    elim (b.least k us r a.ranks a.candidate a.takes) [
      | inl e ↦ e
      | inr p ↦ elim (a.least l vs s b.ranks b.candidate b.takes) [
        | inl e ↦ (sym e.0, sym e.1, sym e.2)
        | inr q ↦ absurd (contrary a.ranks b.ranks q.0 p.1)
      ]
    ]
