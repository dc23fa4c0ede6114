-- What a family of candidates makes of arguments: the result of its least candidate, or a refusal.
use Rattle.std.proofs.Common.{◌≡◌, ℕ, ◌⊎◌, List, Some, None, Ok, Err, true≢false, All, refl, sym, ◌∙◌, ap, subst, inl, inr}
use Rattle.wgsl_calls.proofs.Common.{WgslType, IsValueType, IsLeftCommon, Refusal, HasRanks, Takes, IsNowhereMore, IsSomewhereLess, Slot, fill_all, IsPut, HasOpen, IsLeastOf, least_of, none_of, IsLeastAmong, IsLeastMade}
use Rattle.wgsl_rules.proofs.operators.Choices.{contrary}

least_once : (C : List WgslType → WgslType → Type 0) (ts us vs : List WgslType) (r s : WgslType) → IsLeastAmong C ts us r → IsLeastAmong C ts vs s → r ≡ s
least_once C ts us vs r s a b =
    elim (b.least us r a.ranks a.candidate a.takes) [
      | inl e ↦ e.1
      | inr p ↦ elim (a.least vs s b.ranks b.candidate b.takes) [
        | inl e ↦ sym e.1
        | inr q ↦ absurd (contrary a.ranks b.ranks q.0 p.1)
      ]
    ]

pub least_made : (C : List WgslType → WgslType → Type 0) (ts us : List WgslType) (t : WgslType) → IsLeastAmong C ts us t → IsLeastMade C ts (Ok t)
least_made C ts us t h = record {
  made = λ s. (λ e. (us, subst (λ s. IsLeastAmong C ts us s) (cc e) h), λ k. ap Ok (least_once C ts us k.0 t s h k.1));
  refused = (λ e. absurd (true≢false (sym e)), λ f. absurd (f us t h.candidate (h.ranks, h.takes)));
}

pub none_made : (C : List WgslType → WgslType → Type 0) (ts : List WgslType) (e : Refusal) → ((us : List WgslType) (t : WgslType) → C us t → ¬ Takes us ts) →
    IsLeastMade C ts (Err e)
none_made C ts x f = record {
  made = λ t. (λ e. absurd (cc e), λ k. absurd (f k.0 t k.1.candidate (k.1.ranks, k.1.takes)));
  refused = (λ e. f, λ g. refl);
}

-- A candidate that takes the arguments is the member of a family of slots at c.
pub record IsMember (ss : List Slot) (gives : WgslType → WgslType) (us : List WgslType) (r : WgslType) : Type 0 where
  pub at : WgslType
  pub parameters : us ≡ fill_all ss at
  pub result : r ≡ gives at

abbrev pub OnlyMembers : (List WgslType → WgslType → Type 0) → List Slot → (WgslType → WgslType) → List WgslType → Type 0
OnlyMembers C ss gives ts = (us : List WgslType) (r : WgslType) → C us r → Takes us ts → IsMember ss gives us r

-- the member at the least common type of what the arguments put is the least
pub least_member : (C : List WgslType → WgslType → Type 0) (ss : List Slot) (gives : WgslType → WgslType) (ts es : List WgslType) (b : WgslType) → HasOpen ss →
    All IsValueType ts → All IsValueType es → IsPut ss ts es → IsLeftCommon es (Some b) → OnlyMembers C ss gives ts → C (fill_all ss b) (gives b) →
    IsLeastAmong C ts (fill_all ss b) (gives b)
least_member C ss gives ts es b o vt ve p h only q =
    let m = least_of ss ts es b o vt ve p h in
    record {
      candidate = q;
      ranks = m.ranks;
      takes = m.takes;
      least = λ vs s ws k r. against m vs s ws (only vs s k (ws, r)) r;
    }
  where
    against : (m : IsLeastOf ss ts b) (vs : List WgslType) (s : WgslType) (ws : List ℕ) → IsMember ss gives vs s → HasRanks ts vs ws →
        (vs ≡ fill_all ss b) × (s ≡ gives b) ⊎ IsNowhereMore m.ranks ws × IsSomewhereLess m.ranks ws
    against m vs s ws i r =
        elim (m.least i.at ws (subst (λ vs. HasRanks ts vs ws) i.parameters r)).1 [
          | inl e ↦ inl (i.parameters ∙ ap (λ c. fill_all ss c) e, i.result ∙ ap gives e)
          | inr k ↦ inr k
        ]

-- without a common type no candidate takes the arguments
pub no_member : (C : List WgslType → WgslType → Type 0) (ss : List Slot) (gives : WgslType → WgslType) (ts es : List WgslType) → HasOpen ss →
    All IsValueType ts → All IsValueType es → IsPut ss ts es → IsLeftCommon es None → OnlyMembers C ss gives ts →
    (us : List WgslType) (t : WgslType) → C us t → ¬ Takes us ts
no_member C ss gives ts es o vt ve p h only us t q k =
    let i = only us t q k in
    none_of ss ts es i.at o vt ve p h (subst (λ us. Takes us ts) i.parameters k)

-- the only candidate that takes the arguments is the least
pub only_one : (C : List WgslType → WgslType → Type 0) (ts us : List WgslType) (r : WgslType) → C us r → Takes us ts →
    ((vs : List WgslType) (s : WgslType) → C vs s → Takes vs ts → (vs ≡ us) × (s ≡ r)) → IsLeastAmong C ts us r
only_one C ts us r q k only = record {
  candidate = q;
  ranks = k.0;
  takes = k.1;
  least = λ vs s ws m h. inl (only vs s m (ws, h));
}
