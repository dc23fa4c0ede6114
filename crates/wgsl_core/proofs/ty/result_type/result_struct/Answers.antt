use Rattle.std.proofs.Common.{◌∙◌, ap}
use Rattle.wgsl_core.proofs.Common.{scalar, shaped}
use Rattle.wgsl_core.proofs.Built.{same_view, frexp_is, modf_is}
use Rattle.wgsl_core.proofs.ty.result_type.result_struct.Goals as goal

pub returns-in_ok-exponent-in-Frexp : goal.returns-in_ok-exponent-in-Frexp
returns-in_ok-exponent-in-Frexp c =
    same_view _ _ _ (frexp_is _ c.args.of _ _ c.in-Frexp.is c.name.ensures (c.in_ok-fraction.ensures ∙ ap (λ s. shaped c.args.of.shape (scalar s)) c.float_in.ensures)
    (c.in_ok-exponent-in-Frexp.ensures ∙ ap (λ s. shaped c.args.of.shape (scalar s)) c.exponent_in.ensures)) c.pair.ensures

pub returns-in_ok-whole-in-Modf : goal.returns-in_ok-whole-in-Modf
returns-in_ok-whole-in-Modf c =
    same_view _ _ _ (modf_is _ c.args.of _ _ c.in-Modf.is c.name-in-Modf.ensures (c.in_ok-fraction.ensures ∙ ap (λ s. shaped c.args.of.shape (scalar s)) c.float_in.ensures)
    (c.in_ok-whole-in-Modf.ensures ∙ ap (λ s. shaped c.args.of.shape (scalar s)) c.float_in-in-Modf.ensures)) c.pair-in-Modf.ensures
