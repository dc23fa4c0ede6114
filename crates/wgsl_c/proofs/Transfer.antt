-- What follows for a caller from the reply that is returned.
use Rattle.std.proofs.Common.{◌≡◌, ◌≢◌, ◌⊎◌, ◌<◌, ◌≤◌, ℕ, List, Result, Ok, Err, IsUtf8, arith, drop, inl, inr, length, subst}
use Rattle.std.specs.Prelude.{IfOk, string_bytes}
use Rattle.std.specs.declared.alloc.AllocError.{AllocError}
use Rattle.std.proofs.Math.Seq.{drop-append_seam, take-append_seam}
use Rattle.std.proofs.lemmas.Bool.{cases_lt}
use Rattle.std.proofs.lemmas.Str.{IsUtf8-string_bytes}
use Rattle.wgsl_replies.specs.Replies.{IsBlank, IsExplanation}
use Rattle.wgsl_syntax.specs.declared.rules.RuleSet.{RuleSet}
use Rattle.wgsl_replies.specs.declared.request.Reply.{Reply}
use Rattle.wgsl_replies.specs.declared.request.Reply.TheVariants.{Nothing, Answer, Unreadable}
use Rattle.wgsl_requests.specs.declared.reply.TextKind.{TextKind}
use Rattle.wgsl_requests.specs.declared.reply.TextKind.TheVariants as kinds
use Rattle.wgsl_c.specs.HandOver.{IsAnswer, IsAnswered, IsCode, IsEmpty, IsExplained, IsHandedOver, IsPromised, IsText, IsTold, IsTransfer, IsTranslated, IsWritten, status_of}

at_most_one : (kind : TextKind) → status_of kind ≤ 1
at_most_one kinds.Answer = omega arith
at_most_one kinds.Refusal = omega arith

written : (wanted : ℕ) (bytes old new : List ℕ) (len status : ℕ) → wanted ≤ 1 → IsUtf8 bytes → IsWritten wanted bytes old new len status → IsTransfer old new len status
written wanted bytes old new len status low utf8 h = elim (cases_lt (length old) (length bytes)) [
  | inl long ↦ record {
    known = omega (arith, h.no_room long);
    fits = λ s. let never : ⊥ = omega (arith, s, h.no_room long) in absurd never;
    text = λ s. let never : ⊥ = omega (arith, s, h.no_room long) in absurd never;
    rest = λ s. let never : ⊥ = omega (arith, s, h.no_room long) in absurd never;
    unwritten = λ s. h.unwritten long;
    no_length = λ s t. let never : ⊥ = omega (arith, t, h.no_room long) in absurd never;
    no_room = λ s. omega (arith, long, h.whole_length);
  }
  | inr fit ↦
      let fits : length bytes ≤ length old = omega (arith, fit) in
      let is = h.fits fits in record {
        known = omega (arith, is, low);
        fits = λ s. omega (arith, fits, h.whole_length);
        text = λ s. rw (h.written fits, h.whole_length) (rw (take-append_seam bytes (drop (length bytes) old)) utf8);
        rest = λ s. rw (h.written fits, h.whole_length) (drop-append_seam bytes (drop (length bytes) old));
        unwritten = λ s. let never : ⊥ = omega (arith, s, is, low) in absurd never;
        no_length = λ s t. let never : ⊥ = omega (arith, s, is, low) in absurd never;
        no_room = λ s. let never : ⊥ = omega (arith, s, is, low) in absurd never;
      }
]

empty : (wanted : ℕ) (old new : List ℕ) (len status : ℕ) → 2 ≤ wanted → wanted ≤ 3 → IsEmpty wanted old new len status → IsTransfer old new len status
empty wanted old new len status low high h = record {
  known = omega (arith, h.answers, high);
  fits = λ s. let never : ⊥ = omega (arith, s, h.answers, low) in absurd never;
  text = λ s. let never : ⊥ = omega (arith, s, h.answers, low) in absurd never;
  rest = λ s. let never : ⊥ = omega (arith, s, h.answers, low) in absurd never;
  unwritten = λ s. h.unwritten;
  no_length = λ s t. h.no_length;
  no_room = λ s. let never : ⊥ = omega (arith, s, h.answers, high) in absurd never;
}

transfer : (reply : Result Reply AllocError) (old new : List ℕ) (len status : ℕ) → IsHandedOver reply old new len status → IsTransfer old new len status
transfer (Ok (Answer kind text)) old new len status h = written _ _ old new len status (at_most_one kind) (IsUtf8-string_bytes text) h
transfer (Ok Nothing) old new len status h = empty 2 old new len status (omega arith) (omega arith) h
transfer (Ok Unreadable) old new len status h = empty 2 old new len status (omega arith) (omega arith) h
transfer (Err e) old new len status h = empty 3 old new len status (omega arith) (omega arith) h

module _ (old new : List ℕ) (len status : ℕ) where
  unreadable : (reply : Result Reply AllocError) → reply ≡ Ok Unreadable → IsHandedOver reply old new len status → status ≡ 2
  unreadable reply is h = let k : IsEmpty 2 old new len status = subst (λ r. IsHandedOver r old new len status) is h in k.answers

  if_unreadable : (reply : Result Reply AllocError) → IfOk reply (λ r. r ≡ Unreadable) → IsHandedOver reply old new len status → (status ≡ 2) ⊎ (status ≡ 3)
  if_unreadable (Ok r) is h = let k : IsEmpty 2 old new len status = subst (λ r. IsHandedOver (Ok r) old new len status) is h in inl k.answers
  if_unreadable (Err e) is h = inr h.answers

  if_nothing : (reply : Result Reply AllocError) → IfOk reply (λ r. r ≡ Nothing) → IsHandedOver reply old new len status → (status ≡ 2) ⊎ (status ≡ 3)
  if_nothing (Ok r) is h = let k : IsEmpty 2 old new len status = subst (λ r. IsHandedOver (Ok r) old new len status) is h in inl k.answers
  if_nothing (Err e) is h = inr h.answers

  if_blank : (rules : RuleSet) (request : List ℕ) (reply : Result Reply AllocError) → IsPromised rules request reply → IsHandedOver reply old new len status → IsBlank rules request → (status ≡ 2) ⊎ (status ≡ 3)
  if_blank rules request reply p h none = elim (cases_lt 4096 (length request)) [
    | inl long ↦ inl (unreadable reply (p.too_long long) h)
    | inr short ↦ if_nothing reply (p.blank (omega (arith, short)) none) h
  ]

  pub answered : (rules : RuleSet) (request : List ℕ) (reply : Result Reply AllocError) → IsPromised rules request reply → IsHandedOver reply old new len status → IsAnswered rules request old new len status
  answered rules request reply p h = record {
    reply = reply;
    promised = p;
    handed_over = h;
    transfer = transfer reply old new len status h;
    too_long = λ long. unreadable reply (p.too_long long) h;
    forbidden = λ found. unreadable reply (p.forbidden found) h;
    no_text = λ other. if_unreadable reply (p.no_text other) h;
    blank = if_blank rules request reply p h;
  }

  -- a text that is no refusal
  plain : (bytes : List ℕ) → IsWritten 0 bytes old new len status → (status ≡ 0) ⊎ (status ≡ 4)
  plain bytes h = elim (cases_lt (length old) (length bytes)) [
    | inl long ↦ inr (h.no_room long)
    | inr fit ↦ inl (h.fits (omega (arith, fit)))
  ]

  not_ruled_out : (rules : RuleSet) (request : List ℕ) (reply : Result Reply AllocError) → IfOk reply (λ r. IsExplanation rules request r) → IsHandedOver reply old new len status → status ≢ 1
  not_ruled_out rules request (Ok (Answer kind text)) e h =
      let k : IsWritten 0 (string_bytes text) old new len status = subst (λ kind. IsHandedOver (Ok (Answer kind text)) old new len status) e.0 h in
      λ one. elim (plain (string_bytes text) k) [
        | inl is ↦ omega (arith, is, one)
        | inr is ↦ omega (arith, is, one)
      ]
  not_ruled_out rules request (Ok Nothing) e h = λ one. omega (arith, one, h.answers)
  not_ruled_out rules request (Ok Unreadable) e h = λ one. omega (arith, one, h.answers)
  not_ruled_out rules request (Err x) e h = λ one. omega (arith, one, h.answers)

  pub explained : (rules : RuleSet) (request : List ℕ) (reply : Result Reply AllocError) → IfOk reply (λ r. IsExplanation rules request r) → IsHandedOver reply old new len status → IsExplained rules request old new len status
  explained rules request reply e h = record {
    reply = reply;
    which = e;
    handed_over = h;
    transfer = transfer reply old new len status h;
    not_ruled_out = not_ruled_out rules request reply e h;
  }

  readable : (reply : Result Reply AllocError) → IsText reply → IsHandedOver reply old new len status → (status ≡ 0) ⊎ (status ≡ 3) ⊎ (status ≡ 4)
  readable (Ok (Answer kind text)) is h =
      let k : IsWritten 0 (string_bytes text) old new len status = subst (λ kind. IsHandedOver (Ok (Answer kind text)) old new len status) is h in
      elim (plain (string_bytes text) k) [ inl zero ↦ inl zero | inr four ↦ inr (inr four) ]
  readable (Ok Nothing) is h = absurd is
  readable (Ok Unreadable) is h = absurd is
  readable (Err e) is h = inr (inl h.answers)

  pub told : (reply : Result Reply AllocError) → IsText reply → IsHandedOver reply old new len status → IsTold old new len status
  told reply is h = record {
    reply = reply;
    is_text = is;
    handed_over = h;
    transfer = transfer reply old new len status h;
    readable = readable reply is h;
  }

  written_otherwise : (wanted : ℕ) (bytes : List ℕ) → wanted ≤ 1 → IsWritten wanted bytes old new len status → status ≢ 2
  written_otherwise wanted bytes low h two = elim (cases_lt (length old) (length bytes)) [
    | inl long ↦ omega (arith, two, h.no_room long)
    | inr fit ↦ let is = h.fits (omega (arith, fit)) in omega (arith, two, is, low)
  ]

  answers : (reply : Result Reply AllocError) → IfOk reply IsAnswer → IsHandedOver reply old new len status → status ≢ 2
  answers (Ok (Answer kind text)) is h = written_otherwise _ _ (at_most_one kind) h
  answers (Ok Nothing) is h = absurd is
  answers (Ok Unreadable) is h = absurd is
  answers (Err e) is h = λ two. omega (arith, two, h.answers)

  pub translated : (language : ℕ) (reply : Result Reply AllocError) → IsCode language reply → IsHandedOver reply old new len status → IsTranslated language old new len status
  translated language reply is h = record {
    reply = reply;
    which = is;
    handed_over = h;
    transfer = transfer reply old new len status h;
    known = λ low. answers reply (is.known low) h;
    unknown = λ high. unreadable reply (is.unknown high) h;
  }
