use Rattle.std.proofs.Common.{refl, sym, ◌∙◌}
use Rattle.wgsl_source.proofs.scope.Scope.access.Goals as goal

pub returns-in-Ok : goal.returns-in-Ok
returns-in-Ok c = record { name = c.in_ok-name.ensures.name; undeclared = c.in_ok-name.ensures.undeclared; text = sym c.in_ok-name.ensures.text ∙ (c.in-Ok.ensures c.in-Ok.access).0 refl }
