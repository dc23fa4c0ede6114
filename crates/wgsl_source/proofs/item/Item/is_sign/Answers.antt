use Rattle.std.proofs.Common.{ap, sym, ◌∙◌}
use denote.Enum.Bare.{same_true, true_same}
use Rattle.wgsl_reader.specs.contracts.kind.Kind.{the_type as kind_type}
use Rattle.wgsl_reader.specs.declared.kind.Kind.{Kind}
use Rattle.wgsl_source.specs.declared.item.Content.{Content}
use Rattle.wgsl_source.specs.declared.item.Content.TheVariants as content
use Rattle.wgsl_source.proofs.item.Item.is_sign.Goals as goal

sign_or : Kind → Content → Kind
sign_or d (content.Sign kind) = kind
sign_or d other = d

pub returns-in-Sign : goal.returns-in-Sign
unfolding sign_or
returns-in-Sign c = (
  λ is. c.in-Sign.is ∙ ap content.Sign (same_true kind_type tt c.in-Sign.kind c.args.sign (sym c.eq.ensures ∙ is)),
  λ is. c.eq.ensures ∙ true_same kind_type c.in-Sign.kind c.args.sign (ap (sign_or c.args.sign) (sym c.in-Sign.is ∙ is)),
)
