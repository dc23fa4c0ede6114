use Rattle.wgsl_source.proofs.reader.Reader.refuse.Goals as goal

pub returns-in_err-push-clause-means : goal.returns-in_err-push-clause-means
returns-in_err-push-clause-means c = λ ds. record { still = (c.mean.ensures.means (c.is_unread.ensures c.if-not-is_unread.false) ds (λ d at. tt)).still }

pub returns-clause-means : goal.returns-clause-means
returns-clause-means c = λ ds. record { still = (c.mean.ensures.means (c.is_unread.ensures c.if-not-is_unread.false) ds (λ d at. tt)).still }
