use Rattle.std.proofs.Common.{◌↔◌, Some, sym, subst, arith}
use Rattle.wgsl_core.proofs.Common.{WgslType, array, vec, mat, HasSizeBy}
use Rattle.wgsl_rules.proofs.layout.MatrixColumns.{columns_law}
use Rattle.wgsl_core.proofs.laws.matrix_columns.Goals as goal

pub returns : goal.returns
returns c = λ rules s e pos n.
    let small = c.ranges.columns.fits in
    subst (λ (t : WgslType). HasSizeBy rules (mat c.args.columns c.args.rows t) n ↔ HasSizeBy rules (array (Some c.args.columns) (vec c.args.rows t)) n) (sym e)
    (columns_law rules s c.args.columns c.args.rows pos (omega (arith, small)) n)
