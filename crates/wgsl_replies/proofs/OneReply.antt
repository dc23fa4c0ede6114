-- By a set of rules, the bytes of a request have one reply, if every request has an answer.
use Rattle.std.proofs.Common.{◌≡◌, ◌∙◌, ◌<◌, ℕ, Bool, true, false, List, arith, inl, inr, length, refl, sym}
use Rattle.wgsl_requests.specs.Replies.{ReplyText, has_line_feed, unreadable}
use Rattle.wgsl_requests.proofs.OneAnswer.{HasOne, EachAnswered}
use Rattle.wgsl_syntax.specs.declared.rules.RuleSet.{RuleSet}
use Rattle.wgsl_syntax.specs.declared.rules.RuleSet.TheVariants.{Ported, Standard}
use Rattle.wgsl_replies.proofs.OneReplyToWords.{one_to_line}
use Rattle.wgsl_requests.proofs.OneOutcome.{one_standard_reply}
use Rattle.wgsl_replies.specs.Replies.{IsReplyTo, IsReplyToLine}

pub one_line_reply : (rules : RuleSet) (bytes : List ℕ) → HasOne EachAnswered (IsReplyToLine rules bytes)
one_line_reply Ported bytes = one_to_line bytes
one_line_reply Standard bytes = one_standard_reply bytes

-- a line that is too long can't be read
pub long_line : (rules : RuleSet) (bytes : List ℕ) → 4096 < length bytes → IsReplyToLine rules bytes unreadable
long_line Ported bytes long = inr (λ line. omega (arith, long, line.short), refl)
long_line Standard bytes long = inr (λ line. omega (arith, long, line.short), refl)

pub one_to_request : (rules : RuleSet) (bytes : List ℕ) → HasOne EachAnswered (IsReplyTo rules bytes)
one_to_request rules bytes = record { once = once; some = some (has_line_feed bytes) refl }
  where
    once : (r s : ReplyText) → IsReplyTo rules bytes r → IsReplyTo rules bytes s → r ≡ s
    once r s (inl f) (inl g) = f.1 ∙ sym g.1
    once r s (inl f) (inr g) = absurd (cc (sym f.0 ∙ g.0))
    once r s (inr f) (inl g) = absurd (cc (sym f.0 ∙ g.0))
    once r s (inr f) (inr g) = (one_line_reply rules bytes).once r s f.1 g.1

    some : (feed : Bool) → has_line_feed bytes ≡ feed → EachAnswered → (reply : ReplyText) × IsReplyTo rules bytes reply
    some true found answered = (unreadable, inl (found, refl))
    some false none answered = let r = (one_line_reply rules bytes).some answered in (r.0, inr (none, r.1))

pub one_reply : (rules : RuleSet) (bytes : List ℕ) (r s : ReplyText) → IsReplyTo rules bytes r → IsReplyTo rules bytes s → r ≡ s
one_reply rules bytes = (one_to_request rules bytes).once
