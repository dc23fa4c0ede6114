use Rattle.std.proofs.Common.{sym, ◌∙◌}
use denote.Enum.Bare.{same_true, true_same}
use Rattle.wgsl_reader.specs.contracts.kind.Kind.{the_type as kind_type}
use Rattle.wgsl_reader.proofs.read.is.Goals as goal

pub returns : goal.returns
returns c = (
  λ t. same_true kind_type tt c.args.kind c.args.other (sym c.eq.ensures ∙ t),
  λ e. c.eq.ensures ∙ true_same kind_type c.args.kind c.args.other e,
)
