-- What is returned to C.
use Rattle.std.specs.Prelude.{◌≡◌, ◌≢◌, ◌⊎◌, ◌<◌, ◌≤◌, ◌++◌, ℕ, List, IfOk, IsUtf8, Result, Ok, Err, drop, length, string_bytes, take, true}
use Rattle.std.specs.declared.alloc.AllocError.{AllocError}
use Rattle.wgsl_requests.specs.Replies.{has_line_feed}
use Rattle.wgsl_replies.specs.Replies.{IsBlank, IsExplanation, IsReplyTo, reply_text}
use Rattle.wgsl_syntax.specs.declared.rules.RuleSet.{RuleSet}
use Rattle.wgsl_replies.specs.declared.request.Reply.{Reply}
use Rattle.wgsl_replies.specs.declared.request.Reply.TheVariants.{Nothing, Answer, Unreadable}
use Rattle.wgsl_requests.specs.declared.reply.TextKind.{TextKind}
use Rattle.wgsl_requests.specs.declared.reply.TextKind.TheVariants as kinds

-- What the library promises of the reply to a request, by a set of rules: which it is, and when memory can't have run out.
pub record IsPromised (rules : RuleSet) (request : List ℕ) (reply : Result Reply AllocError) : Type 0 where
  pub which : IfOk reply (λ r. IsReplyTo rules request (reply_text r))
  pub too_long : 4096 < length request → reply ≡ Ok Unreadable
  pub forbidden : has_line_feed request ≡ true → reply ≡ Ok Unreadable
  pub no_text : ¬ IsUtf8 request → IfOk reply (λ r. r ≡ Unreadable)
  pub blank : length request ≤ 4096 → IsBlank rules request → IfOk reply (λ r. r ≡ Nothing)

-- 0 answered, 1 ruled out
abbrev pub status_of : TextKind → ℕ
status_of kinds.Answer = 0
status_of kinds.Refusal = 1

-- bytes are written if there is room for them: at the start of the buffer, whose rest stays as it was
pub record IsWritten (wanted : ℕ) (bytes old new : List ℕ) (len status : ℕ) : Type 0 where
  pub whole_length : len ≡ length bytes
  pub fits : length bytes ≤ length old → status ≡ wanted
  pub written : length bytes ≤ length old → new ≡ bytes ++ drop (length bytes) old
  pub no_room : length old < length bytes → status ≡ 4
  pub unwritten : length old < length bytes → new ≡ old

-- there is nothing to write: the buffer stays as it was
pub record IsEmpty (wanted : ℕ) (old new : List ℕ) (len status : ℕ) : Type 0 where
  pub answers : status ≡ wanted
  pub no_length : len ≡ 0
  pub unwritten : new ≡ old

-- the reply is returned: the buffer before and after, the length, the status; 2 unreadable or
-- nothing to explain, 3 out of memory, 4 no room
abbrev pub IsHandedOver : Result Reply AllocError → List ℕ → List ℕ → ℕ → ℕ → Type 0
IsHandedOver (Ok (Answer kind text)) old new len status =
    IsWritten (status_of kind) (string_bytes text) old new len status
IsHandedOver (Ok Nothing) old new len status = IsEmpty 2 old new len status
IsHandedOver (Ok Unreadable) old new len status = IsEmpty 2 old new len status
IsHandedOver (Err _) old new len status = IsEmpty 3 old new len status

-- What holds of the buffer and the length by the status, whatever is asked.
pub record IsTransfer (old new : List ℕ) (len status : ℕ) : Type 0 where
  pub known : status ≤ 4
  pub fits : status ≤ 1 → len ≤ length old
  pub text : status ≤ 1 → IsUtf8 (take len new)
  pub rest : status ≤ 1 → drop len new ≡ drop len old
  pub unwritten : 2 ≤ status → new ≡ old
  pub no_length : 2 ≤ status → status ≤ 3 → len ≡ 0
  pub no_room : status ≡ 4 → length old < len

-- What a call gets that answers a request: the reply; and what follows from it.
pub record IsAnswered (rules : RuleSet) (request old new : List ℕ) (len status : ℕ) : Type 0 where
  pub reply : Result Reply AllocError
  pub promised : IsPromised rules request reply
  pub handed_over : IsHandedOver reply old new len status
  pub transfer : IsTransfer old new len status
  pub too_long : 4096 < length request → status ≡ 2
  pub forbidden : has_line_feed request ≡ true → status ≡ 2
  pub no_text : ¬ IsUtf8 request → (status ≡ 2) ⊎ (status ≡ 3)
  pub blank : IsBlank rules request → (status ≡ 2) ⊎ (status ≡ 3)

-- What a call gets that explains a request: there is an explanation exactly if there is no answer.
pub record IsExplained (rules : RuleSet) (request old new : List ℕ) (len status : ℕ) : Type 0 where
  pub reply : Result Reply AllocError
  pub which : IfOk reply (λ r. IsExplanation rules request r)
  pub handed_over : IsHandedOver reply old new len status
  pub transfer : IsTransfer old new len status
  pub not_ruled_out : status ≢ 1

-- a text, unless memory runs out
abbrev pub IsText : Result Reply AllocError → Type 0
IsText (Ok (Answer kind text)) = kind ≡ kinds.Answer
IsText (Ok reply) = ⊥
IsText (Err _) = Unit {0}

abbrev pub IsAnswer : Reply → Type 0
IsAnswer (Answer kind text) = Unit {0}
IsAnswer reply = ⊥

-- the code of a text in a language: 0 C, 1 Rust, 2 numpy, 3 TypeScript. Others are unreadable
pub record IsCode (language : ℕ) (reply : Result Reply AllocError) : Type 0 where
  pub known : language ≤ 3 → IfOk reply IsAnswer
  pub unknown : 3 < language → reply ≡ Ok Unreadable

-- What a call gets that writes code.
pub record IsTranslated (language : ℕ) (old new : List ℕ) (len status : ℕ) : Type 0 where
  pub reply : Result Reply AllocError
  pub which : IsCode language reply
  pub handed_over : IsHandedOver reply old new len status
  pub transfer : IsTransfer old new len status
  pub known : language ≤ 3 → status ≢ 2
  pub unknown : 3 < language → status ≡ 2

-- What a call gets that writes a text whatever it is given.
pub record IsTold (old new : List ℕ) (len status : ℕ) : Type 0 where
  pub reply : Result Reply AllocError
  pub is_text : IsText reply
  pub handed_over : IsHandedOver reply old new len status
  pub transfer : IsTransfer old new len status
  pub readable : (status ≡ 0) ⊎ (status ≡ 3) ⊎ (status ≡ 4)
