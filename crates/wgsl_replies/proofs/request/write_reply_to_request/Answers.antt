use Rattle.std.proofs.Common.{◌≡◌, ◌<◌, ◌∙◌, ℕ, Bool, true, false, List, Result, Ok, Err, arith, inl, inr, length, refl, rules, subst, sym}
use Rattle.std.specs.Prelude.{IfOk}
use Rattle.std.specs.Result.{IsOkAnd}
use Rattle.wgsl_requests.specs.Replies.{IsUnreadable, WritesReply, has_line_feed, unreadable}
use Rattle.wgsl_requests.specs.declared.reply.ReplyKind.{ReplyKind}
use Rattle.wgsl_requests.specs.declared.reply.ReplyKind.TheVariants as k
use Rattle.wgsl_syntax.specs.declared.rules.RuleSet.{RuleSet}
use Rattle.wgsl_syntax.specs.declared.rules.RuleSet.TheVariants.{Ported, Standard}
use Rattle.wgsl_replies.proofs.Cuts.{blank-no_line_feed}
use Rattle.wgsl_replies.specs.Replies.{IsBlank, IsReplyTo, IsReplyToLine}
use Rattle.wgsl_replies.proofs.request.write_reply_to_request.Goals.{else-request-le-LONGEST-via-then-request-le-LONGEST+else-has_line_feed, else-request-le-LONGEST-via-else-request-le-LONGEST}
use Rattle.wgsl_replies.proofs.request.write_reply_to_request.Goals as goal

module _ (rules : RuleSet) (bytes : List ℕ) where
  -- the reply to a line without line feeds is that to the request
  of_kind : {W : Type 0} (kind : ReplyKind W) (old new : List ℕ) → has_line_feed bytes ≡ false → WritesReply (IsReplyToLine rules bytes) kind old new → WritesReply (IsReplyTo rules bytes) kind old new
  of_kind k.Nothing old new none w = inr (none, w)
  of_kind (k.Answer kind) old new none w = (w.0, inr (none, w.1), w.2)
  of_kind (k.Unreadable why) old new none w = inr (none, w)

  of_line : {W E : Type 0} (r : Result (ReplyKind W) E) (old new : List ℕ) → has_line_feed bytes ≡ false → IfOk r (λ kind. WritesReply (IsReplyToLine rules bytes) kind old new) → IfOk r (λ kind. WritesReply (IsReplyTo rules bytes) kind old new)
  of_line (Ok kind) old new none w = of_kind kind old new none w
  of_line (Err e) old new none w = tt

  -- a line that can't be read is a request that can't be, whether it has a line feed or not
  of_unreadable : {W : Type 0} (kind : ReplyKind W) (old new : List ℕ) → IsUnreadable kind → WritesReply (IsReplyToLine rules bytes) kind old new → WritesReply (IsReplyTo rules bytes) kind old new
  of_unreadable k.Nothing old new u w = absurd u
  of_unreadable (k.Answer kind) old new u w = absurd u
  of_unreadable (k.Unreadable why) old new u w = test (has_line_feed bytes) refl
    where
      test : (feed : Bool) → has_line_feed bytes ≡ feed → IsReplyTo rules bytes unreadable
      test true found = inl (found, refl)
      test false none = inr (none, w)

  of_long : {W E : Type 0} (r : Result (ReplyKind W) E) (old new : List ℕ) → IsOkAnd r IsUnreadable → IfOk r (λ kind. WritesReply (IsReplyToLine rules bytes) kind old new) → IfOk r (λ kind. WritesReply (IsReplyTo rules bytes) kind old new)
  of_long (Ok kind) old new u w = of_unreadable kind old new u w
  of_long (Err e) old new u w = absurd u

is_unreadable : {W E : Type 0} (r : Result (ReplyKind W) E) (why : W) → r ≡ Ok (k.Unreadable why) → IsOkAnd r IsUnreadable
is_unreadable r why e = subst (λ r. IsOkAnd r IsUnreadable) (sym e) tt

-- a blank line has no line feed
no_feed : (rules : RuleSet) (bytes : List ℕ) → IsBlank rules bytes → has_line_feed bytes ≡ false
no_feed Ported bytes blank = blank-no_line_feed bytes blank
no_feed Standard bytes blank = blank.0

pub returns-then-has_line_feed-clause-blank : goal.returns-then-has_line_feed-clause-blank
returns-then-has_line_feed-clause-blank c = λ _ blank.
    absurd (cc (sym c.if-has_line_feed.true ∙ (c.has_line_feed.ensures ∙ no_feed c.args.rules c.args.request.now blank)))

pub returns-then-has_line_feed-clause-reply : goal.returns-then-has_line_feed-clause-reply
returns-then-has_line_feed-clause-reply c = inl (sym c.has_line_feed.ensures ∙ c.if-has_line_feed.true, refl)

pub returns-clause-reply : goal.returns-clause-reply
returns-clause-reply c = elim c.else-request-le-LONGEST.branch [
  | else-request-le-LONGEST-via-then-request-le-LONGEST+else-has_line_feed w ↦
      of_line c.args.rules _ _ _ _ (sym w.has_line_feed.ensures ∙ w.if-has_line_feed.false) c.write_reply.ensures.reply
  | else-request-le-LONGEST-via-else-request-le-LONGEST w ↦
      let long : 4096 < length c.args.request.now = first_of (search rules, omega arith) in
      of_long c.args.rules _ _ _ _ (is_unreadable _ _ (c.write_reply.ensures.too_long long)) c.write_reply.ensures.reply
]
