use Rattle.std.proofs.lemmas.Result.{IfOk-weaker}
use Rattle.wgsl_module.specs.Meanings.{Ends}
use Rattle.wgsl_module.specs.States.{state}
use Rattle.wgsl_module.specs.Runs.{Declares}
use Rattle.wgsl_module.proofs.checker.Checker.read_declaration.Goals as goal

pub returns-clause-declaration : goal.returns-clause-declaration
returns-clause-declaration c =
    let d = c.args.declaration in
    IfOk-weaker c.end_declaration.result (λ known. Ends d.kind known (state c.read_events.new.self) (state c.end_declaration.new.self))
    (λ known. Declares c.args.tokens.now d.kind d.events.now known (state c.args.self.now) (state c.end_declaration.new.self))
    (λ known end. (state c.begin_declaration.new.self, state c.read_events.new.self, c.in_ok-begin_declaration.ensures.directive, c.in_ok-attributes.ensures.events, end))
    c.end_declaration.ensures.taken
