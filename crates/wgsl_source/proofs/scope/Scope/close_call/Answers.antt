use Rattle.wgsl_source.proofs.WrittenTypes.{closed}
use Rattle.wgsl_source.proofs.scope.Scope.close_call.Goals as goal

pub returns : goal.returns
returns c =
    closed c.push.result _ _ _ _ _ _ _ _ _ _ _ c.as_slice-all.ensures.value c.behind_sign-first.ensures.sign c.behind_sign-first.ensures.last c.in_ok-at.ensures.0 c.in_ok-at.ensures.1 c.behind.ensures
    c.truncate.ensures.items c.in_ok-value.ensures c.push.ensures
