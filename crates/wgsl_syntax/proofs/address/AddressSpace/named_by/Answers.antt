use Rattle.wgsl_syntax.proofs.Renamed.{other_named, space_renaming}
use Rattle.wgsl_syntax.proofs.address.AddressSpace.named_by.Goals as goal

pub returns-in_default : goal.returns-in_default
returns-in_default c =
    other_named (space_renaming c.args.rules) c.args.word.now c.space_named.result c.in_default.not-immediate c.space_named.ensures
