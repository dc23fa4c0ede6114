-- The letters of the components, in order.
use Rattle.std.specs.Prelude.{ℕ, List, [], ◌∷◌}
use Rattle.wgsl_standard.specs.declared.forms.member.Letters.{Letters}

abbrev pub letters_of : Letters → List ℕ
letters_of l = l.first ∷ l.second ∷ l.third ∷ l.fourth ∷ []
