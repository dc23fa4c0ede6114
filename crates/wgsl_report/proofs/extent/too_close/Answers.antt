use Rattle.std.proofs.Common.{◌≡◌, ℕ, Bool, false, true, refl}
use Rattle.wgsl_source.specs.Measures.{IsStrideOf}
use Rattle.wgsl_report.specs.spaces.Spaces.{LieApart}
use Rattle.wgsl_report.specs.Extent.{extent_of}
use Rattle.wgsl_report.proofs.Nested.{kept, left_out, nothing}
use Rattle.wgsl_report.proofs.extent.too_close.Goals as goal

pub returns-in_err-stride : goal.returns-in_err-stride
returns-in_err-stride c =
    let e = c.args.element.now in
    nothing (IsStrideOf e) (λ n. ¬ LieApart c.args.space (extent_of e) n) c.stride.result c.from_residual.result c.stride.ensures c.in_err-stride.was c.from_residual.ensures

pub returns-then-may_lie_apart : goal.returns-then-may_lie_apart
returns-then-may_lie_apart c =
    let e = c.args.element.now in
    let apart : LieApart c.args.space (extent_of e) c.in_ok-stride.stride = rw c.extent_of.ensures at (c.if-may_lie_apart.ensures.0 refl) in
    left_out (IsStrideOf e) (λ n. ¬ LieApart c.args.space (extent_of e) n) c.stride.result c.in_ok-stride.stride c.stride.ensures c.in_ok-stride.was (λ h. h apart)

pub returns-else-may_lie_apart : goal.returns-else-may_lie_apart
returns-else-may_lie_apart c =
    let e = c.args.element.now in
    let apart = rw c.extent_of.ensures at c.if-may_lie_apart.ensures.1 in
    kept (IsStrideOf e) (λ n. ¬ LieApart c.args.space (extent_of e) n) c.stride.result c.in_ok-stride.stride c.stride.ensures c.in_ok-stride.was (λ h. let no_true : false ≡ true = apart h in cc)
