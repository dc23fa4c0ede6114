use Rattle.wgsl_syntax.proofs.Renamed.{other_named, texel_renaming}
use Rattle.wgsl_syntax.proofs.texel.TexelFormat.named_by.Goals as goal

pub returns-in_default : goal.returns-in_default
returns-in_default c =
    other_named (texel_renaming c.args.rules) c.args.word.now c.texel_named.result c.in_default.not-rg11b10ufloat c.texel_named.ensures
