use Rattle.std.proofs.Common.{refl}
use Rattle.wgsl_source.proofs.Meanings.{means_set, set_meant}
use Rattle.wgsl_source.proofs.WrittenTypes.{stays_set}
use Rattle.wgsl_source.proofs.reader.Reader.mean.Goals as goal

pub returns-then-index-len-clause-means : goal.returns-then-index-len-clause-means
returns-then-index-len-clause-means c = λ unread ds is.
    means_set ds c.args.self.now _ c.args.index c.args.meaning (refl, refl, refl) (stays_set c.args.self.now.scope _ c.args.index c.args.meaning refl refl unread) refl is

pub returns-then-index-len-clause-none : goal.returns-then-index-len-clause-none
returns-then-index-len-clause-none c = λ ds none h. set_meant c.args.index c.args.meaning (λ d at. none d) h

pub returns-then-index-len-clause-names : goal.returns-then-index-len-clause-names
returns-then-index-len-clause-names c = λ unread. stays_set c.args.self.now.scope _ c.args.index c.args.meaning refl refl unread
