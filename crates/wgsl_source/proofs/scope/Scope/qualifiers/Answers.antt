use Rattle.std.proofs.Common.{[], ap, arith}
use Rattle.wgsl_source.proofs.Common.{All-nil, nil_from_length, nothing, item_names}
use Rattle.wgsl_source.specs.Qualifiers.{IsFree}
use Rattle.wgsl_source.specs.WrittenTypes.{meaning_of}
use Rattle.wgsl_source.proofs.scope.Scope.qualifiers.Goals as goal

pub returns-in-empty-clause-said : goal.returns-in-empty-clause-said
returns-in-empty-clause-said c = record { tokens = []; there = ap item_names (nil_from_length c.args.items.now (omega (arith, c.in-empty.len_below))); undeclared = All-nil (IsFree c.args.self.now.text (meaning_of c.args.self.now)); say = nothing }
