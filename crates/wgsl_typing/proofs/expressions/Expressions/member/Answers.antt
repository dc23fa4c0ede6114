use Rattle.std.proofs.Common.{ap, ◌∙◌}
use Rattle.wgsl_constants.specs.Literals.{then}
use Rattle.wgsl_core.specs.View.{view}
use Rattle.wgsl_typing.specs.Elements.{member_in}
use Rattle.wgsl_typing.specs.Values.{in_type}
use Rattle.wgsl_typing.proofs.expressions.Expressions.member.Goals as goal

-- the word is the name
pub returns-in-Ok-clause-value : goal.returns-in-Ok-clause-value
returns-in-Ok-clause-value c =
    let self = c.args.self.now in
    c.value_of_member-made.ensures ∙ ap (λ name. then (member_in self.structs self.elements.items name c.args.x.now) (in_type (view c.in-Ok.made.ty))) c.word-name.ensures
