use Rattle.std.proofs.Common.{subst, sym}
use Rattle.wgsl_source.proofs.Sites.{SoFar, no_further, none_between, none_yet, one_further}
use Rattle.wgsl_source.proofs.declaration.read_declarations.Goals as goal

pub loop-read-init : goal.loop-read-init
loop-read-init c =
    let t = c.args.text in
    let whole = c.args.grammar.now.events.items in
    subst (λ es. SoFar t whole es c.new.result.items) (sym c.deref-rest.ensures.value) (subst (λ ds. SoFar t whole whole ds) (sym c.new.ensures.items) (none_yet t whole))

pub loop-read-preserved : goal.loop-read-preserved
loop-read-preserved c =
    let l = c.loop-read in
    let t = c.args.text in
    let whole = c.args.grammar.now.events.items in
    let between = none_between t whole l.rest.now l.found.declarations.items _ l.invariant c.in_ok-misread.ensures in
    let next = c.in-Some.ensures.exact in
    one_further t whole l.rest.now _ _ between c.in-Some.read next (c.in_ok-read_one.ensures l.rest.now next)

pub returns : goal.returns
returns c =
    let l = c.loop-read in
    let t = c.args.text in
    let whole = c.args.grammar.now.events.items in
    let between = none_between t whole l.rest.now l.found.declarations.items _ l.invariant c.in_ok-read_misread.ensures in
    no_further t whole l.rest.now _ between c.in_default.ensures.exact
