use Rattle.wgsl_core.specs.View.{view}
use Rattle.wgsl_calls.proofs.Constructed.{of_elements}
use Rattle.wgsl_calls.proofs.constructor.array.check_elements.Goals as goal

pub returns-in_ok-element-in-Some : goal.returns-in_ok-element-in-Some
returns-in_ok-element-in-Some c =
    of_elements c.args.args.now c.args.template.now.n c.in-Some.field-0 (view c.args.template.now.ty) (view c.in_ok-element-in-Some.element)
    c.in_default.len_at_least (cc (c.n.ensures, c.in-Some.is)) c.in_ok-element-in-Some.ensures c.check_conversions.result c.check_conversions.ensures
