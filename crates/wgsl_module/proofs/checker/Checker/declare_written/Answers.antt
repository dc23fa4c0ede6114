use Rattle.std.proofs.Common.{◌≡◌, ◌∙◌, [], ap, false, map, subst, sym}
use Rattle.wgsl_module.specs.Declarations.{written, written_in}
use Rattle.wgsl_module.specs.Runs.{IsModule}
use Rattle.wgsl_module.proofs.checker.Checker.declare_written.Goals as goal

pub returns-clause-module : goal.returns-clause-module
returns-clause-module c = λ cycles tokens s r is.
    subst (λ ws. IsModule cycles tokens ws s r) (c.in_ok-self.ensures ∙ ap (written_in false) c.deref.ensures.value) (c.in_ok-declare_misread.ensures.module cycles tokens s r is)

pub returns-clause-all : goal.returns-clause-all
returns-clause-all c = λ none.
    ap (map written) (c.in_ok-declare_misread.ensures.all (subst (λ all. all ≡ []) (sym c.deref-2.ensures.value) none))
    ∙ (c.in_ok-self.ensures ∙ ap (written_in false) c.deref.ensures.value)
