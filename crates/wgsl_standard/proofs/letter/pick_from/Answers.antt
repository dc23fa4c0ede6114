use Rattle.std.proofs.Common.{◌∙◌, sym}
use Rattle.wgsl_standard.proofs.Scalars.{first_of_all, itself}
use Rattle.wgsl_standard.proofs.letter.pick_from.Goals as goal

pub returns-then-may_be : goal.returns-then-may_be
returns-then-may_be c =
    sym (itself c.args.concrete c.args.kind c.args.scalar (sym c.is_of_kind.ensures ∙ c.if-is_of_kind.true) (sym c.may_be.ensures ∙ c.if-may_be.true))

pub returns-else-is_of_kind : goal.returns-else-is_of_kind
returns-else-is_of_kind c = c.first_target.ensures ∙ first_of_all c.args.concrete c.args.kind c.args.scalar
