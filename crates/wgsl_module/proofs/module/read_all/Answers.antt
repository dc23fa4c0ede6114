use Rattle.std.proofs.Common.{◌≡◌, ◌∙◌, ℕ, List, [], ap, false, subst}
use Rattle.std.proofs.lemmas.Result.{IfOk-weaker}
use Rattle.wgsl_module.specs.Declarations.{written_in}
use Rattle.wgsl_module.specs.Recursion.{HasCallOrder}
use Rattle.wgsl_module.specs.States.{state}
use Rattle.wgsl_typing.specs.Scopes.{scope_view}
use Rattle.wgsl_module.specs.Runs.{HasRuns, ReadsFrom}
use Rattle.wgsl_module.specs.declared.module.Checked.{Checked}
use Rattle.wgsl_module.proofs.module.read_all.Goals as goal
use Rattle.wgsl_reader.specs.declared.token.Token.{Token}

pub returns-clause-parts : goal.returns-clause-parts
returns-clause-parts c =
    let tokens = c.args.tokens.now in
    let events = c.args.grammar.now.events.items in
    let none = c.none-checker.ensures in
    IfOk-weaker c.checked-checked.result (λ (k : Checked). ReadsFrom tokens events k.faults.items (state c.none-checker.result) k.parts.items)
    (λ (k : Checked). (cycles : List ℕ) × HasRuns c.args.text.now tokens events cycles k.parts.items × (k.faults.items ≡ [] → cycles ≡ []))
    (λ k r. (
      r.2,
      (
        r.0,
        r.1,
        (
          ap (λ t. t.parts) r.3 ∙ none.parts,
          ap (λ t. t.context.text) r.3 ∙ none.text,
          ap (λ t. t.context.tokens) r.3 ∙ none.tokens,
          ap (λ t. scope_view t.context.locals) r.3 ∙ none.scope,
          ap (λ t. t.context.extensions) r.3 ∙ none.extensions,
        ),
        r.4,
        r.5,
      ),
      r.6,
    )) c.checked-checked.ensures.parts

pub returns-clause-calls : goal.returns-clause-calls
returns-clause-calls c =
    let grammar = c.args.grammar.now in
    let e = c.none-checker.result.expressions in
    let none = c.none-checker.ensures in
    let ordered : List ℕ → List Token → Type 0 = λ text tokens. HasCallOrder [] text tokens (written_in false grammar.events.items) in
    IfOk-weaker c.checked-checked.result (λ (k : Checked). grammar.misread.items ≡ [] → k.faults.items ≡ [] → ordered e.text.now e.tokens.now)
    (λ (k : Checked). grammar.misread.items ≡ [] → k.faults.items ≡ [] → ordered c.args.text.now c.args.tokens.now)
    (λ k r whole told. subst (λ text. ordered text c.args.tokens.now) none.text (subst (ordered e.text.now) none.tokens (r whole told))) c.checked-checked.ensures.calls
