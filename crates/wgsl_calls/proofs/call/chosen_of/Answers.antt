use Rattle.std.proofs.Common.{[], ◌∷◌, None, sym, ◌∙◌}
use Rattle.wgsl_calls.specs.Calls.{signature_of}
use Rattle.wgsl_calls.proofs.OutOfMemory.{later_row, no_row}
use Rattle.wgsl_calls.proofs.call.chosen_of.Goals as goal

pub returns-else-fits-3 : goal.returns-else-fits-3
returns-else-fits-3 c =
    rw c.in-Either.is
    (later_row c.in-Either.row (c.in-Either.other ∷ []) (signature_of c.args.call.now) None (λ f. absurd (cc (sym (c.fits-in-Either.ensures.1 f) ∙ c.if-fits-2.false)))
    (later_row c.in-Either.other [] (signature_of c.args.call.now) None (λ f. absurd (cc (sym (c.fits-else-fits-2.ensures.1 f) ∙ c.if-fits-3.false))) (no_row (signature_of c.args.call.now))))
