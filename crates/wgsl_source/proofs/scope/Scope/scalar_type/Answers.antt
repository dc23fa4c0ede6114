use Rattle.std.proofs.Common.{IfSome, arith}
use Rattle.wgsl_source.proofs.Common.{nil_from_length}
use Rattle.wgsl_source.proofs.Items.{ok_weaker}
use Rattle.wgsl_source.specs.TextDeclarations.{HasScalar, IsOfValue, declared, of_default}
use Rattle.wgsl_source.specs.WrittenTypes.{environment, meaning_of}
use Rattle.wgsl_source.proofs.scope.Scope.scalar_type.Goals as goal

pub returns-in-empty-2-clause-read : goal.returns-in-empty-2-clause-read
returns-in-empty-2-clause-read c =
    let s = c.args.self.now in
    let ty = c.args.initialized.ty.now in
    let value = c.args.initialized.value.now in
    ok_weaker (λ scalar. IfSome scalar (IsOfValue s.text (meaning_of s) value)) (HasScalar s.text (environment s c.args.types.now) ty value) c.default_type.result
    (λ scalar h. of_default (nil_from_length ty (omega (arith, c.in-empty.len_below))) h) c.default_type.ensures

pub returns-in_ok-read_scalar-in_default-clause-read : goal.returns-in_ok-read_scalar-in_default-clause-read
returns-in_ok-read_scalar-in_default-clause-read c = declared c.in_ok-read_scalar-in_default.ensures.written
