-- Tokens, by how many there are up to one.
use Rattle.std.specs.Prelude.{ℕ, ◌-◌, List, [], Option, Some, None, slice_get}
use Rattle.wgsl_reader.specs.declared.kind.Kind.{Kind}
use Rattle.wgsl_reader.specs.declared.kind.Kind.TheVariants.{End}
use Rattle.wgsl_reader.specs.declared.token.Token.{Token}
use Rattle.wgsl_spelling.specs.Words.{word}

abbrev pub text_of_any : List ℕ → Option Token → List ℕ
text_of_any text None = []
text_of_any text (Some t) = word text t

-- the text of the last of this many tokens
abbrev pub word_at : List ℕ → List Token → ℕ → List ℕ
word_at text tokens count = text_of_any text (slice_get tokens (count - 1))

-- its kind
abbrev pub kind_of_any : Option Token → Kind
kind_of_any None = End
kind_of_any (Some t) = t.kind

abbrev pub kind_at : List Token → ℕ → Kind
kind_at tokens count = kind_of_any (slice_get tokens (count - 1))
