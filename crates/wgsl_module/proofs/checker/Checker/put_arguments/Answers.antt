use Rattle.std.proofs.Common.{◌≡◌, ◌∙◌, [], ap, reverse, subst}
use Rattle.std.proofs.lemmas.Result.{IfOk-weaker}
use Rattle.wgsl_module.specs.Arguments.{AreArguments, takes_names}
use Rattle.wgsl_source.specs.Attributes.{attribute_names}
use Rattle.wgsl_module.specs.Noted.{HasArguments, attribute_on}
use Rattle.wgsl_module.specs.States.{State, noted, state}
use Rattle.wgsl_module.proofs.checker.Checker.put_arguments.Goals as goal
use Rattle.wgsl_syntax.specs.Names.{named}
use Rattle.wgsl_typing.specs.Names.{word_in}
use Rattle.wgsl_typing.specs.Stacks.{Stack, below, name_on, stack, with_items}

pub returns-clause-arguments : goal.returns-clause-arguments
returns-clause-arguments c =
    let s = state c.args.self.now in
    let xs = c.in_ok-arguments.arguments.parts.items in
    let left = c.take_name-named.ensures.rest ∙ ap (λ t. with_items (below t.items) t) c.in_ok-list.ensures.rest in
    let name = c.take_name-named.ensures.name ∙ ap (λ t. name_on t.items) c.in_ok-list.ensures.rest in
    let word = c.word.ensures ∙ (ap (λ t. word_in t.context c.take_name-named.result) left ∙ ap (word_in s.stack.context) name) in
    let takes = c.takes_names.ensures ∙ ap takes_names (c.attribute_named-name.ensures ∙ ap (named attribute_names) word) in
    let are = subst (λ b. AreArguments b (stack c.take_name-named.new.self).context (reverse c.in_ok-list.list.items) [] xs) takes c.in_ok-arguments.ensures.arguments in
    let there = subst (λ k. AreArguments (takes_names (attribute_on s.stack)) k (reverse c.in_ok-list.list.items) [] xs) (ap (λ t. t.context) left) are in
    let all = subst (λ l. AreArguments (takes_names (attribute_on s.stack)) s.stack.context (reverse l) [] xs) c.in_ok-list.ensures.list there in
    let with_stack : Stack → State = λ t. record s { stack = t } in
    let kept = c.put_attribute.ensures ∙ (c.arguments.ensures.state ∙ ap with_stack left) in
    IfOk-weaker c.note_values.result (λ u. state c.note_values.new.self ≡ noted xs (state c.put_attribute.new.self))
    (λ u. HasArguments s (state c.note_values.new.self)) (λ u same. (xs, all, same ∙ ap (noted xs) kept)) c.note_values.ensures
