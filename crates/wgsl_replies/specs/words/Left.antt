-- The words that are left of a request.
use Rattle.std.specs.Prelude.{◌≤◌, ℕ, List, drop, length, IsCharBoundary}
use Rattle.wgsl_replies.specs.words.Reader.{words_of}
use Rattle.wgsl_replies.specs.declared.words.words.Words.TheInside.{Inside}

abbrev pub left : Inside → List (List ℕ)
left words = words_of (drop words.taken words.text.now)

abbrev pub IsBetween : Inside → Type 0
IsBetween words = (words.taken ≤ length words.text.now) × IsCharBoundary words.text.now words.taken
