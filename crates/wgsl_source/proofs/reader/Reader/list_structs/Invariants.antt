use Rattle.std.specs.Iterator.Adapters.{zip_first, zip_second}
use Rattle.std.specs.Slice.Iter.{iter_rest}
use Rattle.wgsl_source.specs.internal.Read.{AreAllMeant}
use Rattle.wgsl_source.proofs.Meanings.{ListedSoFar}
use Rattle.wgsl_source.specs.WrittenTypes.{environment}
use Rattle.wgsl_source.proofs.reader.Reader.list_structs.Given as goal

abbrev pub invariant-loop-declaration : goal.invariant-loop-declaration
invariant-loop-declaration l =
    AreAllMeant l.fn.declarations l.self
    → ListedSoFar l.self.scope.text (environment l.self.scope l.self.types) l.self.structs.items l.fn.declarations (iter_rest (zip_first l.declaration-iterator)) (iter_rest (zip_second l.declaration-iterator)) l.listed
