use Rattle.std.proofs.Common.{◌≡◌, ◌≢◌, [], take}
use Rattle.wgsl_source.proofs.Common.{Grows, Keeps, AddsOthers, AreAllMeant, KnownAll, Types}
use Rattle.wgsl_source.proofs.reader.Reader.read_others.Given as goal

abbrev pub invariant-loop-index : goal.invariant-loop-index
invariant-loop-index l = record {
  keeps : Keeps (KnownAll l.fn.declarations) l.fn.self l.self;
  scope : l.self.scope ≡ l.fn.self.scope;
  others : AreAllMeant l.fn.declarations l.fn.self → (later : Types) → Grows l.self.types later
      → AddsOthers l.fn.self.scope later (l.self.faults.items ≢ []) (take l.index l.fn.declarations) l.fn.others l.others;
}
