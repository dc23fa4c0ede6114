use Rattle.std.proofs.Common.{◌≡◌, List, [], ◌++◌, length}
use Rattle.wgsl_source.proofs.Common.{AreMembers, Grows, IsDraft, members_of, Member, Types}
use Rattle.wgsl_source.specs.WrittenTypes.{environment}
use Rattle.wgsl_source.proofs.scope.Scope.read_members.Given as goal

abbrev pub invariant-loop-split : goal.invariant-loop-split
invariant-loop-split l = record {
  grows : Grows l.fn.types l.types;
  declared : (later : Types) → Grows l.types later → (more : List Member) → AreMembers l.self.text (environment l.self later) l.rest more → l.fn.draft.members.items ≡ []
      → AreMembers l.self.text (environment l.self later) l.fn.events (members_of l.draft.members.items ++ more);
  draft : IsDraft l.fn.types.elements.items l.fn.draft → IsDraft l.types.elements.items l.draft;
}

abbrev pub decreases-loop-split : goal.decreases-loop-split
decreases-loop-split l = length l.rest
