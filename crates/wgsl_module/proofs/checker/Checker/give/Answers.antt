use Rattle.std.proofs.Common.{◌≡◌, ◌∙◌, None, bytes_eq, sym}
use Rattle.wgsl_typing.specs.StructNames.{index_of}
use Rattle.wgsl_module.proofs.Named.{name_given, not_there, still_named}
use Rattle.wgsl_module.proofs.checker.Checker.give.Goals as goal

pub returns-in_ok-insert-clause-names : goal.returns-in_ok-insert-clause-names
returns-in_ok-insert-clause-names c = λ name index is.
    let old = c.args.self.now.expressions.names in
    let none : index_of c.args.name.now old ≡ None = not_there (index_of c.args.name.now old) (sym c.contains_key.ensures ∙ c.if-not-contains_key.true) in
    name_given c.args.name c.len-index.result old c.insert.new.self c.in_ok-insert.ensures.updates none name
    ∙ still_named (bytes_eq c.args.name.now name) c.len-index.result index (index_of name old) is
