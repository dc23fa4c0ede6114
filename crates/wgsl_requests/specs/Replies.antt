-- What a request gets.
use Rattle.std.specs.Prelude.{◌≡◌, ◌≤◌, ◌++◌, ◌⊎◌, ℕ, Bool, List, IfOk, IsUtf8, Option, Some, None, Result, String, length, nat_eq, string_bytes}
use Rattle.std.specs.List.{list_any}
use Rattle.wgsl_requests.specs.Answers.{Answers, WgslAnswer}
use Rattle.wgsl_requests.specs.Requests.{WgslRequest}
use Rattle.wgsl_requests.specs.Texts.{answer_text, text_kind}
use Rattle.wgsl_requests.specs.declared.reply.ReplyKind.{ReplyKind}
use Rattle.wgsl_requests.specs.declared.reply.ReplyKind.TheVariants as k
use Rattle.wgsl_requests.specs.declared.reply.TextKind.{TextKind}

-- the text of this kind answers the request
abbrev pub IsAnswer : WgslRequest → TextKind → List ℕ → Type 0
IsAnswer request kind text = (a : WgslAnswer) × Answers request a × (kind ≡ text_kind a) × (text ≡ answer_text a)

-- the reply to a request: nothing, an answer or the message of a refusal, or that it can't be read
pub data ReplyText : Type 0 where
  nothing : ReplyText
  answer : TextKind → List ℕ → ReplyText
  unreadable : ReplyText

-- the reply to what was read as this request, or as none
abbrev pub IsReplyOf : Option WgslRequest → ReplyText → Type 0
IsReplyOf (Some request) reply = (kind : TextKind) × (text : List ℕ) × IsAnswer request kind text × (reply ≡ answer kind text)
IsReplyOf None reply = reply ≡ unreadable

abbrev pub is_line_feed : ℕ → Bool
is_line_feed byte = nat_eq byte 10

-- a request is one line, so it has none
abbrev pub has_line_feed : List ℕ → Bool
has_line_feed bytes = list_any is_line_feed bytes

-- at most 4096 bytes of UTF-8
pub record IsLineOfText (bytes : List ℕ) : Type 0 where
  pub short : length bytes ≤ 4096
  pub is_text : IsUtf8 bytes

-- the reply to the bytes of a line: the one for which this holds, if the line is a text, or else that it can't be read
abbrev pub OfLine : (ReplyText → Type 0) → List ℕ → ReplyText → Type 0
OfLine Holds bytes reply = (IsLineOfText bytes × Holds reply) ⊎ ((¬ IsLineOfText bytes) × (reply ≡ unreadable))

-- a text of which P holds is written at the end
abbrev pub Adds : (List ℕ → Type 0) → List ℕ → List ℕ → Type 0
Adds P old new = (text : List ℕ) × P text × (new ≡ old ++ text)

-- a request of this kind can't be read
abbrev pub IsUnreadable : {W : Type 0} → ReplyKind W → Type 0
IsUnreadable k.Nothing = ⊥
IsUnreadable (k.Answer kind) = ⊥
IsUnreadable (k.Unreadable why) = Unit {0}

-- the reply for which this holds is of this kind, and an answer is written at the end of the text
abbrev pub WritesReply : {W : Type 0} → (ReplyText → Type 0) → ReplyKind W → List ℕ → List ℕ → Type 0
WritesReply Holds k.Nothing old new = Holds nothing
WritesReply Holds (k.Answer kind) old new = Adds (λ text. Holds (answer kind text)) old new
WritesReply Holds (k.Unreadable why) old new = Holds unreadable

-- the reply for which this holds is of the kind that a call returns, and an answer is written at the end of the text, unless it is
-- out of memory
abbrev pub Replies : {W Z E : Type 0} → (ReplyText → Type 0) → String Z → String Z → Result (ReplyKind W) E → Type 0
Replies Holds old new r = IfOk r (λ kind. WritesReply Holds kind (string_bytes old) (string_bytes new))
