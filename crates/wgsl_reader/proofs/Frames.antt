-- What is to be read behind the symbols of a rule.
use Rattle.std.proofs.Common.{◌≡◌, List, length, [], ◌∷◌, ◌++◌, Bor, refl, arith}
use Rattle.wgsl_reader.proofs.Common.{below, Symbol}

pub below_pushed : (frames : List (Bor (List Symbol))) (frame : Bor (List Symbol)) (last : List Symbol) → below (frames ++ frame ∷ []) last ≡ frame.now ++ below frames last
below_pushed [] frame last = refl
below_pushed (other ∷ frames) frame last = below_pushed frames frame (other.now ++ last)

pub empty : (symbols : List Symbol) → length symbols ≡ 0 → symbols ≡ []
empty [] e = refl
empty (symbol ∷ symbols) e = absurd (omega (arith, e))
