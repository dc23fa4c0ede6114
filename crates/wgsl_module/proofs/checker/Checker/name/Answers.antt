use Rattle.std.proofs.Common.{◌≡◌, ◌∙◌, None, ap, bytes_eq, sym}
use Rattle.wgsl_module.specs.Named.{is_called}
use Rattle.wgsl_module.specs.Order.{name_at, unless_called}
use Rattle.wgsl_typing.specs.StructNames.{index_of}
use Rattle.wgsl_module.proofs.Named.{name_given}
use Rattle.wgsl_module.proofs.checker.Checker.name.Goals as goal

pub returns-in_ok-insert-in-None-clause-names : goal.returns-in_ok-insert-in-None-clause-names
returns-in_ok-insert-in-None-clause-names c = λ name.
    let s = c.args.self.now.expressions in
    let none : index_of c.word-name.result.now s.names ≡ None = sym c.get.ensures.value ∙ (sym c.copied.ensures ∙ c.in-None.is) in
    let same : bytes_eq c.word-name.result.now name ≡ is_called s.text.now s.tokens.now name (name_at c.args.self.now.declarations.items c.args.index) =
    ap (λ word. bytes_eq word name) c.word-name.ensures ∙ ap (is_called s.text.now s.tokens.now name) (sym c.in-Some.is ∙ c.named.ensures) in
    name_given c.word-name.result c.args.index s.names c.insert.new.self c.in_ok-insert-in-None.ensures.updates none name
    ∙ ap (λ b. unless_called b c.args.index (index_of name s.names)) same
