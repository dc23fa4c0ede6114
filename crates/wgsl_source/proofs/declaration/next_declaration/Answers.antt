use Rattle.std.proofs.Common.{ap, arith, refl, length, ◌∙◌, length-drop}
use Rattle.wgsl_source.specs.Declarations.{end_by, list_len, token_before}
use Rattle.wgsl_source.proofs.Sites.{is_next, no_longer}
use Rattle.wgsl_source.proofs.declaration.next_declaration.Goals as goal

pub returns-clause-exact : goal.returns-clause-exact
returns-clause-exact c =
    let first = c.in_ok-first.first in
    let split = c.in_ok-split.ensures.exact in
    is_next c.args.text c.args.events.now c.behind_attributes-behind.result.now c.split_list-list.result.rest.now _ first c.end_by-end.result _
    c.behind_attributes-behind.ensures c.split_list-list.ensures.rest c.in_ok-first.ensures
    (c.end_by-end.ensures ∙ ap (λ w. end_by first.mark w.kind) (c.token_before-word.ensures ∙ ap (token_before c.args.text) c.saturating_sub.ensures))
    split.0 c.declared_by.ensures refl c.split_list-list.ensures.front refl split.1 split.2

pub returns-clause-less : goal.returns-clause-less
returns-clause-less c =
    let list = c.behind_attributes-behind.result.now in
    omega (arith, no_longer c.behind_attributes-behind.ensures, length-drop (list_len list) list, ap length c.split_list-list.ensures.rest, c.in_ok-split.ensures.less)
