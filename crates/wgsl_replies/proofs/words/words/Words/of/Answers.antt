use Rattle.std.proofs.Common.{IsUtf8, arith, subst, sym}
use Rattle.std.proofs.lemmas.Str.{IsCharBoundary-start}
use Rattle.wgsl_replies.proofs.words.words.Words.of.Goals as goal

pub invariant_of-result : goal.invariant_of-result
invariant_of-result c = (omega arith, IsCharBoundary-start c.in-Ok.text.now (subst IsUtf8 (sym c.in-Ok.ensures.cases.0) c.in-Ok.ensures.cases.1))
