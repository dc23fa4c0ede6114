use Rattle.std.proofs.lemmas.Result.{IfOk-weaker}
use Rattle.wgsl_types.proofs.Lines.{lines_kept}
use Rattle.wgsl_types.proofs.typed.convert_to_common.Goals as goal

pub returns-clause-lines : goal.returns-clause-lines
returns-clause-lines c = IfOk-weaker c.convert_all.result _ _ (λ r h. lines_kept (λ v. v.items) r h.0 c.args.values.now h.2) c.convert_all.ensures.value
