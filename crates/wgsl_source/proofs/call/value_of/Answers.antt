use Rattle.wgsl_source.proofs.Calls.{call_of}
use Rattle.wgsl_source.proofs.call.value_of.Goals as goal

pub returns : goal.returns
returns c =
    let l = c.loop-item in
    call_of c.called_with.result c.args.callee _ c.args.arguments.now l.given l.item-index l.invariant.only l.invariant.given c.loop-item-test.false c.called_with.ensures
