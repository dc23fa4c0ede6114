-- How a stack is seen.
use Rattle.std.specs.Prelude.{List, [], ◌∷◌, ◌++◌, Option, Some, None}
use Rattle.wgsl_spelling.specs.declared.stack.Stack.{Stack}

abbrev pub with_last : {T : Type 0} → List T → Option T → List T
with_last below None = below
with_last below (Some last) = below ++ last ∷ []

-- its items, the last on top
abbrev pub items_of : {T : Type 0} → Stack T → List T
items_of s = with_last s.below.items s.last
