use Rattle.std.proofs.Common.{refl}
use Rattle.wgsl_source.specs.internal.Read.{Known, KnownStruct}
use Rattle.wgsl_source.proofs.Meanings.{kept_at, means_further, means_read}
use Rattle.wgsl_source.proofs.Structs.{keeps_further, keeps_if, keeps_named, keeps_same, on_ok}
use Rattle.wgsl_source.proofs.WrittenTypes.{still_unread}
use Rattle.wgsl_source.proofs.reader.Reader.read_unread.Goals as goal

pub returns-then-declaration-clause-means : goal.returns-then-declaration-clause-means
returns-then-declaration-clause-means c = λ ds at. c.mean.ensures.means (c.is_unread.ensures c.if-not-is_unread.false) ds (λ e is. tt)

pub returns-in-Ok-clause-keeps : goal.returns-in-Ok-clause-keeps
returns-in-Ok-clause-keeps c =
    let d = c.args.declaration.now in
    let old = c.args.self.now in
    let read = c.read_meaning.new.self in
    keeps_further (Known d) old read c.mean-in-Ok.new.self (keeps_if (Known d) (KnownStruct d) old read (λ whole known. known c.if-declaration.false) c.in-Ok.ensures.keeps)
    (keeps_named (Known d) read c.mean-in-Ok.new.self c.mean-in-Ok.ensures.same (c.mean-in-Ok.ensures.names
    (still_unread c.args.index old.scope read.scope c.in-Ok.ensures.scope (c.is_unread.ensures c.if-not-is_unread.false))))

pub returns-in-Ok-clause-means : goal.returns-in-Ok-clause-means
returns-in-Ok-clause-means c = λ ds at.
    let d = c.args.declaration.now in
    let old = c.args.self.now in
    let read = c.read_meaning.new.self in
    means_further ds old read c.mean-in-Ok.new.self (means_read ds (KnownStruct d) old read c.in-Ok.ensures.keeps c.in-Ok.ensures.scope)
    (c.mean-in-Ok.ensures.means (still_unread c.args.index old.scope read.scope c.in-Ok.ensures.scope (c.is_unread.ensures c.if-not-is_unread.false)) ds
    (kept_at old.scope read.scope read.types ds c.args.index d old.structs.items read.structs.items _ c.in-Ok.ensures.scope at c.if-declaration.false c.in-Ok.ensures.sort c.in-Ok.ensures.kept))

pub returns-in-Err-clause-keeps : goal.returns-in-Err-clause-keeps
returns-in-Err-clause-keeps c =
    let d = c.args.declaration.now in
    let old = c.args.self.now in
    let read = c.read_meaning.new.self in
    let meant = c.mean-in-Err.new.self in
    let kept = keeps_further (Known d) old read meant (keeps_if (Known d) (KnownStruct d) old read (λ whole known. known c.if-declaration.false) c.in-Err.ensures.keeps)
    (keeps_named (Known d) read meant c.mean-in-Err.ensures.same (c.mean-in-Err.ensures.names
    (still_unread c.args.index old.scope read.scope c.in-Err.ensures.scope (c.is_unread.ensures c.if-not-is_unread.false)))) in
    on_ok c.tell.result _ (keeps_further (Known d) old meant _ kept (keeps_same (Known d) meant _ (refl, refl, refl) refl))

pub returns-in-Err-clause-means : goal.returns-in-Err-clause-means
returns-in-Err-clause-means c = λ ds at.
    let d = c.args.declaration.now in
    let old = c.args.self.now in
    let read = c.read_meaning.new.self in
    let meant = c.mean-in-Err.new.self in
    on_ok c.tell.result _ (means_further ds old read _ (means_read ds (KnownStruct d) old read c.in-Err.ensures.keeps c.in-Err.ensures.scope)
    (means_further ds read meant _
    (c.mean-in-Err.ensures.means (still_unread c.args.index old.scope read.scope c.in-Err.ensures.scope (c.is_unread.ensures c.if-not-is_unread.false)) ds (λ e is. tt))
    (means_read ds (Known d) meant _ (keeps_same (Known d) meant _ (refl, refl, refl) refl) refl)))
