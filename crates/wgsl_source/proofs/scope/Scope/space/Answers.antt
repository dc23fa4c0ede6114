use Rattle.std.proofs.Common.{subst}
use Rattle.wgsl_source.proofs.Common.{IsSpace, Standard}
use Rattle.wgsl_source.proofs.scope.Scope.space.Goals as goal

pub returns-in-Some-clause-named : goal.returns-in-Some-clause-named
returns-in-Some-clause-named c = record {
  name = c.in_ok-name.ensures.name;
  undeclared = c.in_ok-name.ensures.undeclared;
  text = subst (λ text. IsSpace Standard text c.in-Some.space) c.in_ok-name.ensures.text c.in-Some.ensures;
}
