use Rattle.std.proofs.Common.{◌∙◌, ap, sym}
use Rattle.wgsl_core.specs.internal.View.{members_view}
use Rattle.wgsl_standard.proofs.Smallest.{smallest_built}
use Rattle.wgsl_standard.proofs.forms.layout.smallest_copies.Goals as goal

pub returns-in_ok-push-in-Some : goal.returns-in_ok-push-in-Some
returns-in_ok-push-in-Some c =
    ap members_view c.in_ok-push-in-Some.ensures.items
    ∙ smallest_built _ c.in-Some.rest.now _ c.in-Some.last.now _ (sym c.deref.ensures.value ∙ c.in-Some.ensures.cases.0)
    c.in_ok-copies-in-Some.ensures c.in_ok-last-in-Some.ensures
