-- What a request gets: by WGSL's own rules it is written in WGSL, by the ported rules in words.
use Rattle.std.specs.Prelude.{◌≡◌, ◌⊎◌, ℕ, List, [], false, string_bytes, true}
use Rattle.wgsl_requests.specs.Replies.{ReplyText, answer, has_line_feed, nothing, unreadable}
use Rattle.wgsl_requests.specs.declared.reply.ReplyKind.{ReplyKind}
use Rattle.wgsl_requests.specs.declared.reply.ReplyKind.TheVariants as k
use Rattle.wgsl_requests.specs.declared.reply.TextKind.{TextKind}
use Rattle.wgsl_requests.specs.declared.reply.TextKind.TheVariants as kinds
use Rattle.wgsl_syntax.specs.declared.rules.RuleSet.{RuleSet}
use Rattle.wgsl_syntax.specs.declared.rules.RuleSet.TheVariants.{Ported, Standard}
use Rattle.wgsl_replies.specs.words.Requests.{IsReplyToLine as IsReplyToWords}
use Rattle.wgsl_replies.specs.words.Reader.{words_of}
use Rattle.wgsl_requests.specs.expressions.Typing.{IsBlank as has_no_tokens, IsStandardReply}
use Rattle.wgsl_replies.specs.declared.words.why.Why.TheVariants as words
use Rattle.wgsl_requests.specs.declared.expressions.why.Why.TheVariants as line
use Rattle.wgsl_replies.specs.declared.request.Reply.{Reply}
use Rattle.wgsl_replies.specs.declared.request.Why.{Why}
use Rattle.wgsl_replies.specs.declared.request.Why.TheVariants as y
use Rattle.wgsl_replies.specs.declared.request.Reply.TheVariants as r

-- the reply to the bytes of a line, by a set of rules
abbrev pub IsReplyToLine : RuleSet → List ℕ → ReplyText → Type 0
IsReplyToLine Ported line reply = IsReplyToWords line reply
IsReplyToLine Standard line reply = IsStandardReply line reply

-- a line without words, or without tokens
abbrev pub IsBlank : RuleSet → List ℕ → Type 0
IsBlank Ported line = words_of line ≡ []
IsBlank Standard line = (has_line_feed line ≡ false) × has_no_tokens line

-- the reply to the bytes of a request: it is one line, so a line feed makes it unreadable
abbrev pub IsReplyTo : RuleSet → List ℕ → ReplyText → Type 0
IsReplyTo rules bytes reply =
    ((has_line_feed bytes ≡ true) × (reply ≡ unreadable)) ⊎ ((has_line_feed bytes ≡ false) × IsReplyToLine rules bytes reply)

-- the same kind of reply, with another view of why a request can't be read
abbrev pub why_seen : {W V : Type 0} → (W → V) → ReplyKind W → ReplyKind V
why_seen f k.Nothing = k.Nothing
why_seen f (k.Answer kind) = k.Answer kind
why_seen f (k.Unreadable why) = k.Unreadable (f why)

-- why a line of more than 4096 bytes can't be read
abbrev pub too_long : RuleSet → Why
too_long Ported = y.Words words.TooLong
too_long Standard = y.Line line.TooLong

-- a reply, without the memory that holds its text
abbrev pub reply_text : Reply → ReplyText
reply_text r.Nothing = nothing
reply_text (r.Answer kind text) = answer kind (string_bytes text)
reply_text r.Unreadable = unreadable

-- what is explained: a sentence for a request that is not answered, and nothing for one that is
abbrev pub IsExplanation : RuleSet → List ℕ → Reply → Type 0
IsExplanation rules bytes r.Nothing =
    (kind : TextKind) × (text : List ℕ) × IsReplyTo rules bytes (answer kind text)
IsExplanation rules bytes (r.Answer kind text) =
    (kind ≡ kinds.Answer) × (IsReplyTo rules bytes nothing ⊎ IsReplyTo rules bytes unreadable)
IsExplanation rules bytes r.Unreadable = ⊥
