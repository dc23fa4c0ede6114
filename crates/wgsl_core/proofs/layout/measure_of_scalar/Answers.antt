use Rattle.std.proofs.Common.{◌≡◌, inl, inr, Some, ap}
use Rattle.wgsl_core.proofs.Layouts.{scalar_size, scalar_measure}
use Rattle.wgsl_core.proofs.layout.measure_of_scalar.Goals as goal

pub returns-in-Bool : goal.returns-in-Bool
returns-in-Bool c =
    let size : scalar_size c.args.of ≡ Some 4 = elim c.in-Bool.is [ inl e ↦ ap scalar_size e | inr k ↦ elim k [ inl e ↦ ap scalar_size e | inr k ↦ elim k [ inl e ↦ ap scalar_size e | inr e ↦ ap scalar_size e ] ] ] in
    λ rules. scalar_measure c.args.of 4 _ size c.measure_of_size.ensures

pub returns-in-F16 : goal.returns-in-F16
returns-in-F16 c = λ rules. scalar_measure c.args.of 2 _ (ap scalar_size c.in-F16.is) c.measure_of_size-in-F16.ensures

pub returns-in-I64 : goal.returns-in-I64
returns-in-I64 c =
    let size : scalar_size c.args.of ≡ Some 8 = elim c.in-I64.is [ inl e ↦ ap scalar_size e | inr k ↦ elim k [ inl e ↦ ap scalar_size e | inr e ↦ ap scalar_size e ] ] in
    λ rules. scalar_measure c.args.of 8 _ size c.measure_of_size-in-I64.ensures
