-- How the rules see a choice.
use Rattle.std.specs.Prelude.{ℕ}
use Rattle.wgsl_syntax.specs.declared.overload.Substitution.{Substitution}
use Rattle.wgsl_standard.specs.declared.resolve.Choice.{Choice}

abbrev pub choice_view : Choice → ℕ × Substitution
choice_view c = (c.index, c.substitution)
