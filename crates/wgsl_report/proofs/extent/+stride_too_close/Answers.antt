use Rattle.std.proofs.Common.{length, refl}
use Rattle.std.proofs.lemmas.Option.{slice_get_past, slice_get_read}
use Rattle.wgsl_report.proofs.Nested.{index_at, no_index, outermost_here, outermost_in, outermost_missing, outermost_none}
use Rattle.wgsl_report.proofs.extent.+stride_too_close.Goals as goal

pub returns-in_err-element : goal.returns-in_err-element
returns-in_err-element t c =
    let elements = c.args.elements.now in
    let index = c.in-Array.index in
    let at = index_at c.args.ty.now.kind index c.in-Array.field-1 c.in-Array.is in
    outermost_missing c.args.space elements c.args.ty.now index c.from_residual.result at (slice_get_past elements index c.in_err-element.ensures.lookup.3) c.from_residual.ensures

pub returns-in-Some : goal.returns-in-Some
returns-in-Some t c =
    let elements = c.args.elements.now in
    let index = c.in-Array.index in
    let at = index_at c.args.ty.now.kind index c.in-Array.field-1 c.in-Array.is in
    let e = c.in_ok-element.element.now in
    let lookup = c.in_ok-element.ensures.lookup in
    let is = slice_get_read elements (length elements) index e refl lookup.3.0 lookup.1 in
    outermost_here c.args.space elements c.args.ty.now e index c.in-Some.stride c.too_close.result at is c.too_close.ensures c.in-Some.is

pub returns-in-None : goal.returns-in-None
returns-in-None t c =
    let elements = c.args.elements.now in
    let index = c.in-Array.index in
    let at = index_at c.args.ty.now.kind index c.in-Array.field-1 c.in-Array.is in
    let e = c.in_ok-element.element.now in
    let lookup = c.in_ok-element.ensures.lookup in
    let is = slice_get_read elements (length elements) index e refl lookup.3.0 lookup.1 in
    outermost_in c.args.space elements c.args.ty.now e index c.too_close.result c.stride_too_close.result at is c.too_close.ensures c.in-None.is c.stride_too_close.ensures

pub returns-in_default : goal.returns-in_default
returns-in_default t c = outermost_none c.args.space c.args.elements.now c.args.ty.now (no_index c.args.ty.now.kind c.in_default.not-Array)
