use Rattle.wgsl_core.proofs.Slices.{common_of_slice}
use Rattle.wgsl_core.proofs.conversion.lists.common_of.Goals as goal

pub returns : goal.returns
returns c =
    let given = c.convert_all_ty.ensures in
    (common_of_slice given.0 c.args.types.now c.convert_all_ty.result given.1 given.2.0 given.3 given.4).left
