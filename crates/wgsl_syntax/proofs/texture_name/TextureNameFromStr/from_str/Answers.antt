use Rattle.std.proofs.Common.{ap, subst, sym, ◌∙◌}
use Rattle.std.specs.Option.{ok_or}
use Rattle.wgsl_syntax.specs.Names.{Reads}
use Rattle.wgsl_syntax.specs.TextureName.{texture_name_text}
use Rattle.wgsl_syntax.proofs.Naming.{texture_reads}
use Rattle.wgsl_syntax.proofs.texture_name.TextureNameFromStr.from_str.Goals as goal

pub returns : goal.returns
returns c =
    let answer = c.ok_or.ensures.value ∙ ap (λ found. ok_or found (tt {0})) c.texture_named.ensures in
    subst (Reads texture_name_text c.args.s.now) (sym answer) (texture_reads c.args.s.now)
