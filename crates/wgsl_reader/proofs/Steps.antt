-- What is read of tokens, from what is read of those that are left.
use Rattle.std.proofs.Common.{◌≡◌, ◌≢◌, ℕ, ◌+◌, ◌<◌, Some, None, Ok, Err, List, [], ◌∷◌, ◌++◌, drop, length, map, zero, suc, refl, sym, ap, subst, ◌∙◌, arith, append_assoc, append-nil}
use Rattle.wgsl_reader.proofs.Common.{production, Kind, Mark, Rule, Symbol, Event, Token}
use Rattle.wgsl_reader.specs.Reading.{IsOther, Outcome, ReadAt, all_read, kind_of, more_there, next_kind, no_rule, noted, other_token, rule_read, token_read, with_event, with_events}
use Rattle.wgsl_reader.specs.declared.grammar.Symbol.TheVariants as s

with_one_more : (events : List Event) (mark : Mark) (at : ℕ) (r : Outcome) → with_events (events ++ record { mark = mark; at = at } ∷ []) r ≡ with_events events (with_event mark at r)
with_one_more events mark at (Ok more) = ap Ok (append_assoc events (record { mark = mark; at = at } ∷ []) more)
with_one_more events mark at (Err index) = refl

none_left : (tokens : List Token) (at : ℕ) → at ≡ length tokens → map kind_of (drop at tokens) ≡ []
none_left [] at e = rw e refl
none_left (t ∷ ts) at e = rw e (none_left ts (length ts) refl)

some_left : (tokens : List Token) (at : ℕ) → at < length tokens → (kind : Kind) × (kinds : List Kind) × (map kind_of (drop at tokens) ≡ kind ∷ kinds)
some_left [] at lt = absurd (omega (arith, lt))
some_left (t ∷ ts) zero lt = (t.kind, map kind_of ts, refl)
some_left (t ∷ ts) (suc at) lt = some_left ts at (omega (arith, lt))

module _ (whole : Outcome → Type 0) (symbols last : List Symbol) (tokens : List Token) (events : List Event) (at : ℕ)
    (back : (r : Outcome) → ReadAt (symbols ++ last) at (map kind_of (drop at tokens)) r → whole (with_events events r)) where
  pub all_taken : symbols ≡ [] → last ≡ [] → at ≡ length tokens → whole (Ok events)
  all_taken none no_more end =
      subst (λ es. whole (Ok es)) (append-nil events)
      (back (Ok []) (rw (none, no_more, none_left tokens at end) (all_read at)))

  pub some_left_over : symbols ≡ [] → last ≡ [] → at < length tokens → whole (Err at)
  some_left_over none no_more more =
      let left = some_left tokens at more in
      back (Err at) (rw (none, no_more, left.2) (more_there at left.0 left.1))

  -- Each step: the new symbols, what is below them, the number of tokens taken, and the events.
  module _ (symbols-2 last-2 : List Symbol) (at-2 : ℕ) (events-2 : List Event) (r : Outcome)
      (h : ReadAt (symbols-2 ++ last-2) at-2 (map kind_of (drop at-2 tokens)) r) where
    pub frame_taken : symbols ≡ [] → last ≡ symbols-2 ++ last-2 → at-2 ≡ at → events-2 ≡ events → whole (with_events events-2 r)
    frame_taken none e same noted-too = rw noted-too (back r (rw (none, e) (subst (λ n. ReadAt (symbols-2 ++ last-2) n (map kind_of (drop n tokens)) r) same h)))

    pub token_taken : (kind : Kind) → symbols ≡ s.Token kind ∷ symbols-2 → last-2 ≡ last → map kind_of (drop at tokens) ≡ kind ∷ map kind_of (drop (at + 1) tokens) → at-2 ≡ at + 1 → events-2 ≡ events
        → whole (with_events events-2 r)
    token_taken kind e same taken more noted-too =
        let next : ReadAt (symbols-2 ++ last) (at + 1) (map kind_of (drop (at + 1) tokens)) r
        = subst (λ ss. ReadAt (symbols-2 ++ ss) (at + 1) (map kind_of (drop (at + 1) tokens)) r) same (subst (λ n. ReadAt (symbols-2 ++ last-2) n (map kind_of (drop n tokens)) r) more h) in
        rw noted-too (back r (rw (e, taken) (token_read refl next)))

    pub mark_noted : (mark : Mark) → symbols ≡ s.Mark mark ∷ symbols-2 → last-2 ≡ last → at-2 ≡ at → events-2 ≡ events ++ record { mark = mark; at = at } ∷ []
        → whole (with_events events-2 r)
    mark_noted mark e same same-at more =
        let next : ReadAt (symbols-2 ++ last) at (map kind_of (drop at tokens)) r
        = subst (λ ss. ReadAt (symbols-2 ++ ss) at (map kind_of (drop at tokens)) r) same (subst (λ n. ReadAt (symbols-2 ++ last-2) n (map kind_of (drop n tokens)) r) same-at h) in
        rw (more, with_one_more events mark at r) (back (with_event mark at r) (rw e (noted next)))

    pub rule_opened : (rule : Rule) (rest of_rule : List Symbol) → symbols ≡ s.Rule rule ∷ rest → production rule (next_kind (map kind_of (drop at tokens))) ≡ Some of_rule
        → symbols-2 ++ last-2 ≡ of_rule ++ (rest ++ last) → at-2 ≡ at → events-2 ≡ events → whole (with_events events-2 r)
    rule_opened rule rest of_rule e found all same-at noted-too =
        let next : ReadAt (of_rule ++ (rest ++ last)) at (map kind_of (drop at tokens)) r
        = subst (λ ss. ReadAt ss at (map kind_of (drop at tokens)) r) all (subst (λ n. ReadAt (symbols-2 ++ last-2) n (map kind_of (drop n tokens)) r) same-at h) in
        rw noted-too (back r (rw e (rule_read found next)))

  pub token_missing : (kind : Kind) (rest : List Symbol) → symbols ≡ s.Token kind ∷ rest → IsOther kind (map kind_of (drop at tokens)) → whole (Err at)
  token_missing kind rest e other = back (Err at) (rw e (other_token other))

  pub rule_missing : (rule : Rule) (rest : List Symbol) → symbols ≡ s.Rule rule ∷ rest → production rule (next_kind (map kind_of (drop at tokens))) ≡ None → whole (Err at)
  rule_missing rule rest e none = back (Err at) (rw e (no_rule none))

-- a token is of this kind, or of another

pub kind_taken : (kinds rest : List Kind) (kind first : Kind) → kinds ≡ first ∷ rest → first ≡ kind → kinds ≡ kind ∷ rest
kind_taken kinds rest kind first e same = e ∙ ap (λ k. k ∷ rest) same

pub kind_other : (kinds rest : List Kind) (kind first : Kind) → kinds ≡ first ∷ rest → first ≢ kind → IsOther kind kinds
kind_other kinds rest kind first e other = subst (IsOther kind) (sym e) other
