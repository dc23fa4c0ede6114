use Rattle.std.proofs.Common.{◌≢◌, [], refl}
use Rattle.wgsl_source.proofs.Common.{misread, Nothing}
use Rattle.wgsl_source.proofs.Kept.{left_others, on_ok_then, read_and_told}
use Rattle.wgsl_source.proofs.Structs.{keeps_grown, on_ok}
use Rattle.wgsl_source.proofs.reader.Reader.read_other.Goals as goal

pub returns-then-declaration-clause-others : goal.returns-then-declaration-clause-others
returns-then-declaration-clause-others c =
    let old = c.args.self.now in
    λ later g meant. left_others old.scope later (old.faults.items ≢ []) c.args.declaration.now c.args.others.now (λ A sort. misread c.if-declaration.true)

pub returns-clause-keeps : goal.returns-clause-keeps
returns-clause-keeps c = on_ok c.tell.result _ (keeps_grown Nothing c.args.self.now _ c.read-read.ensures.grows refl refl)

pub returns-clause-others : goal.returns-clause-others
returns-clause-others c = λ later g meant.
    on_ok_then c.tell.result _ _ (λ told. read_and_told c.args.self.now.scope later c.read-read.result c.args.declaration.now c.args.others.now c.read-read.new.self c.tell.new.faults.items
    (c.read-read.ensures.read c.if-declaration.false later g meant) told.told) c.tell.ensures

pub returns-clause-still : goal.returns-clause-still
returns-clause-still c = on_ok_then c.tell.result _ _ (λ told. told.still) c.tell.ensures
