-- Which extensions directives enable (WGSL, "Enable Directive").
use Rattle.std.specs.Prelude.{◌≡◌, ℕ, List, [], ◌∷◌}
use Rattle.wgsl_module.specs.States.{Keeps, State, with_extensions}
use Rattle.wgsl_module.specs.declared.declaration.DeclarationKind.{DeclarationKind}
use Rattle.wgsl_module.specs.declared.declaration.DeclarationKind.TheVariants as kinds
use Rattle.wgsl_typing.specs.Extensions.{with_enabled}
use Rattle.wgsl_typing.specs.Words.{word_at}
use Rattle.wgsl_typing.specs.declared.extension.Extensions.{Extensions}
use Rattle.wgsl_reader.specs.declared.mark.Mark.{Mark}
use Rattle.wgsl_reader.specs.declared.mark.Mark.TheVariants as m
use Rattle.wgsl_reader.specs.declared.read.Event.{Event}
use Rattle.wgsl_reader.specs.declared.token.Token.{Token}

-- what a word behind `enable` enables, by what is noted there
abbrev pub enabled_at : Mark → List ℕ → Extensions → Extensions
enabled_at m.Extension name e = with_enabled name e
enabled_at other name e = e

-- what its words enable, one by one: `enable f16, subgroups;`
abbrev pub enabled_by : List ℕ → List Token → List Event → Extensions → Extensions
enabled_by text tokens [] e = e
enabled_by text tokens (event ∷ events) e = enabled_by text tokens events (enabled_at event.mark (word_at text tokens event.at) e)

-- An `enable` enables the extensions that it names, and changes nothing else. `requires`, `diagnostic` and other declarations enable none.
abbrev pub Directs : DeclarationKind → List Event → State → State → Type 0
Directs kinds.Enable events s r = r ≡ with_extensions (enabled_by s.stack.context.text s.stack.context.tokens events s.stack.context.extensions) s
Directs other events s r = Keeps s r
