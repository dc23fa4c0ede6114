-- What is to be read behind the symbols of a rule.
use Rattle.std.specs.Prelude.{List, [], ◌∷◌, ◌++◌}
use Rattle.std.specs.Borrow.{Bor}
use Rattle.wgsl_reader.specs.declared.grammar.Symbol.{Symbol}

-- the frames, of which the last one comes first, in front of what is last
abbrev pub below : List (Bor (List Symbol)) → List Symbol → List Symbol
below [] last = last
below (frame ∷ frames) last = below frames (frame.now ++ last)
