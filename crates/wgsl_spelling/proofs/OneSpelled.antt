-- A text spells at most one type.
use Rattle.std.proofs.Common.{◌≡◌, ℕ, List, Option, Ok, Err, sym, ap, ◌∙◌}
use Rattle.wgsl_reader.proofs.OneOutcome.{one_outcome}
use Rattle.wgsl_spelling.proofs.Common.{listed, Tokens, tokens_of, Token, Spells, SpellsBy, TokensSpell, type_of_outcome}
use Rattle.wgsl_rules.specs.types.Types.{WgslType}

pub one_of_tokens : (text : List ℕ) (tokens : List Token) (t u : Option WgslType) → TokensSpell text tokens t → TokensSpell text tokens u → t ≡ u
one_of_tokens text tokens t u a b = a.is ∙ (ap (type_of_outcome text tokens) (one_outcome a.read b.read) ∙ sym b.is)

one_by : (text : List ℕ) (tokens : Tokens) (t u : Option WgslType) → SpellsBy text tokens t → SpellsBy text tokens u → t ≡ u
one_by text (Ok tokens) t u a b = one_of_tokens text tokens t u a b
one_by text (Err at) t u a b = a ∙ sym b

pub one_spelled : (text : List ℕ) (t u : Option WgslType) → Spells text t → Spells text u → t ≡ u
one_spelled text t u a b = one_by text (listed (tokens_of text)) t u a b
