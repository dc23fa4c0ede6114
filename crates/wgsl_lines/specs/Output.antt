-- What a program prints for an input, by a set of rules, its exit status, and what stands between the input and the answers.
use Rattle.std.specs.Prelude.{◌≡◌, ◌≢◌, ◌+◌, ◌-◌, ◌^◌, ◌++◌, ℕ, min, nat_eq, decimal, codes, Bool, true, false, List, [], ◌∷◌, Result, Ok, Err, ◌&&◌, All}
use Rattle.std.specs.Prelude.{Option, take, string_bytes}
use Rattle.std.specs.Io.{StartsWith}
use Rattle.std.specs.List.{AllZip, list_all}
use Rattle.wgsl_requests.specs.Replies.{ReplyText, nothing, answer, unreadable}
use Rattle.wgsl_replies.specs.Replies.{IsReplyToLine}
use Rattle.wgsl_replies.specs.words.Reader.{pieces}
use Rattle.wgsl_syntax.specs.declared.rules.RuleSet.{RuleSet}
use Rattle.wgsl_lines.specs.declared.run.RunError.{RunError}
use Rattle.wgsl_lines.specs.declared.run.RunError.TheVariants.{Read, Write, Memory}
use Rattle.std.specs.Io.KnownBytes.{Appends}
use Rattle.wgsl_requests.specs.declared.reply.ReplyKind.{ReplyKind}
use Rattle.wgsl_requests.specs.declared.reply.ReplyKind.TheVariants as k
use Rattle.wgsl_lines.specs.declared.run.Session.{Session}

-- a line ends at a line feed, and the last one at the end of the input
abbrev pub lines_of : List ℕ → List (List ℕ)
lines_of input = pieces (λ byte. nat_eq byte 10) input

-- the line that is printed for line n if it can't be read
abbrev pub bad_line : ℕ → List ℕ
bad_line n = codes "bad line " ++ decimal n ++ codes "\n"

-- what is printed for line n if this is the reply to it
abbrev pub printed : ℕ → ReplyText → List ℕ
printed n nothing = []
printed n (answer kind text) = text ++ codes "\n"
printed n unreadable = bad_line n

-- the number after n: numbers stay at 18446744073709551615
abbrev pub next_number : ℕ → ℕ
next_number n = min (n + 1) (2 ^ 64 - 1)

-- what is printed for the replies to the lines from line n on
abbrev pub printed_from : ℕ → List ReplyText → List ℕ
printed_from n [] = []
printed_from n (reply ∷ replies) = printed n reply ++ printed_from (next_number n) replies

-- whether this is the reply to a line that can be read
abbrev pub is_readable : ReplyText → Bool
is_readable nothing = true
is_readable (answer kind text) = true
is_readable unreadable = false

-- the text is the replies to the lines, in their order; `readable` tells whether each can be read
pub record PrintsLines (rules : RuleSet) (lines : List (List ℕ)) (text : List ℕ) (readable : Bool) : Type 0 where
  pub replies : List ReplyText
  pub each : AllZip (IsReplyToLine rules) lines replies
  pub text_is : text ≡ printed_from 1 replies
  pub readable_is : readable ≡ list_all is_readable replies

-- the input prints this text
abbrev pub Prints : RuleSet → List ℕ → List ℕ → Bool → Type 0
Prints rules input text readable = PrintsLines rules (lines_of input) text readable

-- the first lines of the input, up to these others, print this text
pub record PrintsUpTo (rules : RuleSet) (input : List ℕ) (others : List (List ℕ)) (text : List ℕ) : Type 0 where
  pub first : List (List ℕ)
  pub lines : lines_of input ≡ first ++ others
  pub readable : Bool
  pub prints : PrintsLines rules first text readable

-- What a run has printed when it stops. If a read failed or it was out of memory, it is the text of
-- the first lines, whole, and another line follows them. If a write failed, it is a beginning of the
-- text of the first lines, or of all, which isn't empty.
abbrev pub PrintsUntil : RuleSet → RunError → List ℕ → List ℕ → Type 0
PrintsUntil rules Read input text = (others : List (List ℕ)) × PrintsUpTo rules input others text × (others ≢ [])
PrintsUntil rules Memory input text = (others : List (List ℕ)) × PrintsUpTo rules input others text × (others ≢ [])
PrintsUntil rules Write input text = (others : List (List ℕ)) × (rest : List ℕ)
    × PrintsUpTo rules input others (text ++ rest) × (text ++ rest ≢ [])

-- whatever the whole input prints starts with this text
abbrev pub PrintsFirst : RuleSet → List ℕ → List ℕ → Type 0
PrintsFirst rules input text = (whole : List ℕ) (readable : Bool)
    → Prints rules input whole readable → StartsWith whole text

-- 0 if every line was readable, 2 if one was not, 1 if a read or a write failed, 3 if out of memory
abbrev pub status_of : Result Bool RunError → ℕ
status_of (Ok true) = 0
status_of (Ok false) = 2
status_of (Err Read) = 1
status_of (Err Write) = 1
status_of (Err Memory) = 3

-- a reply of this kind, if this text was written for it
abbrev pub reply_of_kind : {W : Type 0} → ReplyKind W → List ℕ → ReplyText
reply_of_kind k.Nothing text = nothing
reply_of_kind (k.Answer kind) text = answer kind text
reply_of_kind (k.Unreadable why) text = unreadable

-- before the first byte
pub record IsAtStart (session : Session) : Type 0 where
  pub no_bytes : session.line.bytes.items ≡ []
  pub first_line : session.line.number ≡ 1
  pub no_answers : string_bytes session.answers ≡ []
  pub all_readable : session.all_readable ≡ true

-- the line is answered by the reply to it, and it is remembered if it can't be read
pub record AnswersLine (rules : RuleSet) (line : List ℕ) (old new : Session) : Type 0 where
  pub reply : ReplyText
  pub is_reply : IsReplyToLine rules line reply
  pub answers :
      string_bytes new.answers ≡ string_bytes old.answers ++ printed old.line.number reply
  pub all_readable : new.all_readable ≡ (old.all_readable && is_readable reply)

-- however the bytes go on, their lines are those that have ended, and those of what has begun
abbrev pub Ends : List ℕ → List (List ℕ) → List ℕ → Type 0
Ends bytes ended begun =
    (more : List ℕ) → lines_of (bytes ++ more) ≡ ended ++ lines_of (begun ++ more)

-- the number of the line after those from line n on that have these replies
abbrev pub number_after : ℕ → List ReplyText → ℕ
number_after n [] = n
number_after n (reply ∷ replies) = number_after (next_number n) replies

-- Each line that has ended in these bytes is answered, behind the text that was there before. Of the
-- line that has begun as many bytes are kept as decide its reply.
pub record HasTaken (rules : RuleSet) (bytes before : List ℕ) (session : Session) : Type 0 where
  pub ended : List (List ℕ)
  pub begun : List ℕ
  pub lines : Ends bytes ended begun
  pub no_line_feed : All (λ byte. byte ≢ 10) begun
  pub replies : List ReplyText
  pub each : AllZip (IsReplyToLine rules) ended replies
  pub answers : before ++ string_bytes session.answers ≡ printed_from 1 replies
  pub all_readable : session.all_readable ≡ list_all is_readable replies
  pub kept : session.line.bytes.items ≡ take 4097 begun
  pub number : session.line.number ≡ number_after 1 replies

-- a run that stops after these bytes has printed this text, however the input goes on
abbrev pub StopsAfter : RuleSet → RunError → List ℕ → List ℕ → Type 0
StopsAfter rules error bytes text = (more : List ℕ) → PrintsUntil rules error (bytes ++ more) text

-- Between two reads: these bytes are taken, and all answers are written. Of the writer's contents,
-- the first are those when the run began.
pub record IsBetween (rules : RuleSet) (bytes : List ℕ) (start now : Option (List ℕ)) (session : Session) : Type 0 where
  pub text : List ℕ
  pub written : Appends start now text
  pub taken : HasTaken rules bytes text session
  pub none_gathered : string_bytes session.answers ≡ []

-- what the input prints is written
pub record HasPrinted (rules : RuleSet) (input : List ℕ) (start now : Option (List ℕ)) (readable : Bool) : Type 0 where
  pub text : List ℕ
  pub written : Appends start now text
  pub prints : Prints rules input text readable

-- The text that the input prints until the run stops is written.
pub record HasStopped (rules : RuleSet) (input : List ℕ) (start now : Option (List ℕ)) (error : RunError) : Type 0 where
  pub text : List ℕ
  pub written : Appends start now text
  pub prints : PrintsUntil rules error input text
