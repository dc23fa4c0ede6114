use Rattle.wgsl_lines.proofs.Common.{◌≡◌, ◌∙◌, ℕ, List, [], ◌++◌, ap, arith, Result, Ok, Err, subst, sym, take, common_steps, nil_from_length, WritesReply}
use Rattle.wgsl_lines.proofs.Common.{answer, IsReplyToLine, RuleSet, reply_of_kind}
use Rattle.std.specs.Prelude.{IfOk}
use Rattle.wgsl_requests.specs.declared.reply.ReplyKind.{ReplyKind}
use Rattle.wgsl_requests.specs.declared.reply.ReplyKind.TheVariants as k
use Rattle.wgsl_lines.proofs.Taken.{of_cut}
use Rattle.wgsl_lines.proofs.run.write_reply_to.Goals as goal

-- what is written to an empty text
of_kind : {W : Type 0} (rules : RuleSet) (kind : ReplyKind W) (bytes old new : List ℕ) → old ≡ [] → WritesReply (IsReplyToLine rules bytes) kind old new → IsReplyToLine rules bytes (reply_of_kind kind new)
of_kind rules k.Nothing bytes old new empty w = w
of_kind rules (k.Answer kind) bytes old new empty w = subst (λ text. IsReplyToLine rules bytes (answer kind text)) (sym (w.2 ∙ ap (λ text. text ++ w.0) empty)) w.1
of_kind rules (k.Unreadable why) bytes old new empty w = w

of_written : {W E : Type 0} (rules : RuleSet) (r : Result (ReplyKind W) E) (bytes old new : List ℕ) → old ≡ [] → IfOk r (λ kind. WritesReply (IsReplyToLine rules bytes) kind old new) → IfOk r (λ kind. IsReplyToLine rules bytes (reply_of_kind kind new))
of_written rules (Ok kind) bytes old new empty w = of_kind rules kind bytes old new empty w
of_written rules (Err e) bytes old new empty w = tt

pub returns-then-is_empty-clause-reply : goal.returns-then-is_empty-clause-reply
returns-then-is_empty-clause-reply c =
    let none : c.args.line.now.bytes.items ≡ [] = nil_from_length _ (grind (arith, common_steps, c.is_empty.ensures, c.if-is_empty.true)) in
    λ empty. rw none (of_written c.args.rules c.write_reply.result _ _ _ empty c.write_reply.ensures.reply)

-- of a line that is cut
of_cut_line : {W E : Type 0} (rules : RuleSet) (r : Result (ReplyKind W) E) (line cut text : List ℕ) → cut ≡ take 4097 line → IfOk r (λ kind. IsReplyToLine rules cut (reply_of_kind kind text)) → IfOk r (λ kind. IsReplyToLine rules line (reply_of_kind kind text))
of_cut_line rules (Ok kind) line cut text e is = of_cut rules line _ (subst (λ bytes. IsReplyToLine rules bytes (reply_of_kind kind text)) e is)
of_cut_line rules (Err e) line cut text _ is = tt

pub returns-clause-reply : goal.returns-clause-reply
returns-clause-reply c = λ empty. of_cut_line c.args.rules c.write_reply-2.result _ _ _ (c.deref.ensures.value ∙ c.extend.ensures.gathered) (of_written c.args.rules c.write_reply-2.result _ _ _ empty c.write_reply-2.ensures.reply)
