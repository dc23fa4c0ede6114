use Rattle.wgsl_requests.proofs.Common.{◌≡◌, ◌∙◌, ℕ, [], List, Result, ap, arith, length, subst, common_steps, take_at, Fail, Request, Token, End}
use Rattle.wgsl_requests.proofs.Common.{asked_behind, Scope, Finds, Misread}
use Rattle.wgsl_requests.specs.expressions.Typing.{TokensAre}
use Rattle.wgsl_requests.specs.declared.expressions.item.Item.{Item}
use Rattle.wgsl_requests.proofs.Steps.{as_many}
use Rattle.wgsl_requests.proofs.expressions.expression.item_of_some.Goals as goal

-- without names, of the tokens as they are asked
asked : (scope : Scope) (tokens as_asked : List Token) (line : List ℕ) (r : Result Item (Fail Misread)) → scope ≡ [] → tokens ≡ as_asked →
    Finds (TokensAre scope Request line tokens) r → Finds (TokensAre [] Request line as_asked) r
asked scope tokens as_asked line r none same h =
    subst (λ tokens. Finds (TokensAre [] Request line tokens) r) same (subst (λ scope. Finds (TokensAre scope Request line tokens) r) none h)

pub returns : goal.returns
returns c =
    let changed : c.as_asked.new.tokens ≡ asked_behind c.args.line.now End c.args.tokens.items =
    c.as_asked.ensures ∙ ap (asked_behind c.args.line.now End) c.deref_mut.ensures.value in
    let many : length c.as_asked.new.tokens ≡ c.args.tokens.len =
    grind (arith, common_steps, ap length changed, as_many c.args.line.now End c.args.tokens.items, c.args.tokens.ok) in
    asked _ _ _ c.args.line.now _ c.empty-scope.ensures (c.deref.ensures.value ∙ (take_at _ _ _ many ∙ changed)) c.item_of_tokens-item.ensures
