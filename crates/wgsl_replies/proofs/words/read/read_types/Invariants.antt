use Rattle.wgsl_replies.proofs.Common.{length, map, view}
use Rattle.wgsl_replies.proofs.Reading.{Half}
use Rattle.wgsl_replies.proofs.words.read.read_types.Given as goal

-- the types that were read, and the words after them
abbrev pub invariant-loop-word : goal.invariant-loop-word
invariant-loop-word l = Half l.fn.words (map view l.types.items) l.words

abbrev pub decreases-loop-word : goal.decreases-loop-word
decreases-loop-word l = length l.words
