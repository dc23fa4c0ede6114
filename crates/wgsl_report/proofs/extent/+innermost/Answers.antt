use Rattle.std.proofs.Common.{length, refl}
use Rattle.std.proofs.lemmas.Option.{slice_get_past, slice_get_read}
use Rattle.wgsl_report.proofs.Nested.{index_at, innermost_in, innermost_itself, innermost_missing, no_index}
use Rattle.wgsl_report.proofs.extent.+innermost.Goals as goal

pub returns-in_err-element-in-Array : goal.returns-in_err-element-in-Array
returns-in_err-element-in-Array t c =
    let elements = c.args.elements.now in
    let index = c.in-Array.index in
    let at = index_at c.args.ty.now.kind index c.in-Array.field-1 c.in-Array.is in
    innermost_missing elements c.args.ty.now index c.from_residual.result at (slice_get_past elements index c.in_err-element-in-Array.ensures.lookup.3) c.from_residual.ensures

pub returns-in_ok-element-in-Array : goal.returns-in_ok-element-in-Array
returns-in_ok-element-in-Array t c =
    let elements = c.args.elements.now in
    let index = c.in-Array.index in
    let at = index_at c.args.ty.now.kind index c.in-Array.field-1 c.in-Array.is in
    let e = c.in_ok-element-in-Array.element.now in
    let lookup = c.in_ok-element-in-Array.ensures.lookup in
    innermost_in elements c.args.ty.now e index c.innermost.result at (slice_get_read elements (length elements) index e refl lookup.3.0 lookup.1) c.innermost.ensures

pub returns-in_default : goal.returns-in_default
returns-in_default t c = innermost_itself c.args.elements.now c.args.ty.now (no_index c.args.ty.now.kind c.in_default.not-Array)
