use Rattle.wgsl_source.proofs.WrittenTypes.{named_more, named_same}
use Rattle.wgsl_source.proofs.reader.Reader.name.Goals as goal

pub returns-in_err-push-clause-none : goal.returns-in_err-push-clause-none
returns-in_err-push-clause-none c = λ ds none. c.mean.ensures.none ds (λ d. tt) none

pub returns-clause-none : goal.returns-clause-none
returns-clause-none c = λ ds none. c.mean.ensures.none ds (λ d. tt) none

pub returns-then-not-contains_key-clause-named : goal.returns-then-not-contains_key-clause-named
returns-then-not-contains_key-clause-named c = λ ds at are.
    let s = c.args.self.now.scope in
    named_more ds s (record s { names = c.insert.new.self }) c.args.index c.args.declaration.now at c.in_ok-insert.ensures.updates are

pub returns-clause-named : goal.returns-clause-named
returns-clause-named c = λ ds at are. named_same ds c.args.self.now.scope c.mean.new.self.scope c.mean.ensures.kept are
