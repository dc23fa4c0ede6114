use Rattle.wgsl_replies.proofs.Common.{length, map, parameter_view}
use Rattle.wgsl_replies.proofs.Reading.{Part}
use Rattle.wgsl_replies.proofs.words.template.read_parameters.Given as goal

-- the parameters that were read, and the words after them
abbrev pub invariant-loop-word : goal.invariant-loop-word
invariant-loop-word l = Part l.fn.words (map parameter_view l.parameters.items) l.words

abbrev pub decreases-loop-word : goal.decreases-loop-word
decreases-loop-word l = length l.words
