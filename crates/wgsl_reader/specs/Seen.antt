-- How the state of the search for template lists is seen.
use Rattle.std.specs.Prelude.{reverse}
use Rattle.wgsl_reader.specs.Lists.{Search as State}
use Rattle.wgsl_reader.specs.declared.lists.Search.{Search}

abbrev pub search_of : Search → State
search_of s = record { tokens = s.tokens.items; is_named = s.is_named; opened = reverse s.opened.items }
