use Rattle.std.proofs.Common.{ap, subst, sym, ◌∙◌}
use Rattle.std.specs.Option.{ok_or}
use Rattle.wgsl_syntax.specs.Names.{Reads}
use Rattle.wgsl_syntax.specs.Texel.{texel_text}
use Rattle.wgsl_syntax.proofs.Naming.{texel_reads}
use Rattle.wgsl_syntax.proofs.texel.TexelFormatFromStr.from_str.Goals as goal

pub returns : goal.returns
returns c =
    let answer = c.ok_or.ensures.value ∙ ap (λ found. ok_or found (tt {0})) c.texel_named.ensures in
    subst (Reads texel_text c.args.s.now) (sym answer) (texel_reads c.args.s.now)
