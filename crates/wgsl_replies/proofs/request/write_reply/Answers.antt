use Rattle.std.proofs.Common.{ℕ, List}
use Rattle.std.specs.Prelude.{string_bytes}
use Rattle.wgsl_requests.specs.Replies.{ReplyText, WritesReply}
use Rattle.wgsl_requests.specs.declared.reply.ReplyKind.{ReplyKind}
use Rattle.wgsl_requests.specs.declared.reply.ReplyKind.TheVariants as k
use Rattle.wgsl_requests.specs.expressions.Typing.{IsStandardReply}
use Rattle.wgsl_replies.specs.Replies.{why_seen}
use Rattle.wgsl_replies.specs.declared.request.Why.TheVariants as y
use Rattle.wgsl_replies.proofs.request.write_reply.Goals as goal

-- why a request can't be read says nothing of its reply
seen : {W V : Type 0} (f : W → V) (Holds : ReplyText → Type 0) (kind : ReplyKind W) (old new : List ℕ) → WritesReply Holds kind old new → WritesReply Holds (why_seen f kind) old new
seen f Holds k.Nothing old new h = h
seen f Holds (k.Answer kind) old new h = h
seen f Holds (k.Unreadable why) old new h = h

pub returns-in_ok-write_standard_reply-in-Standard-clause-reply : goal.returns-in_ok-write_standard_reply-in-Standard-clause-reply
returns-in_ok-write_standard_reply-in-Standard-clause-reply c =
    let h = c.in_ok-write_standard_reply-in-Standard in
    let old = string_bytes c.args.text.now in
    let new = string_bytes c.write_standard_reply.new.text in
    rw c.in-Standard.is (rw c.of_line.ensures (seen y.Line (IsStandardReply c.args.request.now) h.field-0 old new h.ensures.reply))
