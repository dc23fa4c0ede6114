use Rattle.std.proofs.Common.{◌∙◌, refl, rules, sym}
use Rattle.wgsl_standard.proofs.Common.{has_written_append, has_written_of_eq, in_order}
use Rattle.wgsl_standard.proofs.Listed.{first_and_others, no_first}
use Rattle.wgsl_standard.proofs.written.write_list.Goals as goal

pub returns-in_ok-write_pattern-in-Some : goal.returns-in_ok-write_pattern-in-Some
returns-in_ok-write_pattern-in-Some g c = λ plain ok.
    let first = c.in_ok-write_pattern-in-Some.ensures plain refl in
    has_written_of_eq _ _ _ _ _ (first_and_others c.args.of_vectors (in_order c.args.parameters.now) c.args.first c.in-Some.pattern (sym c.pattern_at.ensures ∙ c.in-Some.is))
    (has_written_append _ _ _ _ _ _ first (c.write_after.ensures first.plain ok))

pub returns-in-None : goal.returns-in-None
returns-in-None g c = λ plain ok.
    has_written_of_eq _ _ _ _ _ (sym (no_first c.args.of_vectors (in_order c.args.parameters.now) c.args.first (sym c.pattern_at.ensures ∙ c.in-None.is))) (search rules)
