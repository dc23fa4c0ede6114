use Rattle.std.proofs.Common.{◌∙◌, ◌||◌, ap, codes, nat_eq, sym}
use Rattle.std.proofs.lemmas.Str.Pattern.{starts_text}
use Rattle.std.specs.List.{starts_with}
use Rattle.wgsl_typing.proofs.extension.is_foreign.Goals as goal

pub returns-then-starts_with : goal.returns-then-starts_with
returns-then-starts_with c =
    let name = c.args.name.now in
    let first = sym (starts_text _ (codes "wgpu_") name c.starts_with.ensures.cases) ∙ c.if-starts_with.true in
    c.if-starts_with.true ∙ sym (ap (λ b. b || starts_with nat_eq name (codes "chromium_")) first)

pub returns-else-starts_with : goal.returns-else-starts_with
returns-else-starts_with c =
    let name = c.args.name.now in
    let first = sym (starts_text _ (codes "wgpu_") name c.starts_with.ensures.cases) ∙ c.if-starts_with.false in
    starts_text _ (codes "chromium_") name c.starts_with-else-starts_with.ensures.cases ∙ sym (ap (λ b. b || starts_with nat_eq name (codes "chromium_")) first)
