use Rattle.std.proofs.Common.{ap, refl, ◌∙◌}
use Rattle.wgsl_source.proofs.Common.{word, declaration, no_other}
use Rattle.wgsl_source.proofs.Sites.{is_of, nothing_read}
use Rattle.wgsl_source.proofs.declaration.Declarations.read_one.Goals as goal

pub returns-in_ok-push-in-Some : goal.returns-in_ok-push-in-Some
returns-in_ok-push-in-Some c =
    let t = c.args.text in
    let token = c.token_before-name.ensures in
    λ events next. record {
      added = _;
      kept = c.in_ok-push-in-Some.ensures.items;
      are = declaration (is_of t events c.args.read _ next c.in-Some.is refl (c.word.ensures ∙ ap (word t.text.now) token) (ap (λ t. t.at) token) refl refl c.inner.ensures) no_other;
    }

pub returns-in_ok-push-in-None : goal.returns-in_ok-push-in-None
returns-in_ok-push-in-None c = λ events next. nothing_read c.args.text events c.args.read c.args.self.now.declarations.items next c.in-None.is

pub returns-in_default : goal.returns-in_default
returns-in_default c = λ events next. nothing_read c.args.text events c.args.read c.args.self.now.declarations.items next c.in-None.is
