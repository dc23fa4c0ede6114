use Rattle.wgsl_replies.proofs.Common.{drop, not, prefix_len, is_separator, ◌≡◌, ◌+◌}
use Rattle.wgsl_replies.proofs.words.words.word_len.Given as goal

abbrev pub invariant-loop-byte : goal.invariant-loop-byte
invariant-loop-byte l = record {
  counted : l.len ≡ l.byte-index;
  passed : l.len + prefix_len (λ byte. not (is_separator byte)) (drop l.len l.bytes) ≡ prefix_len (λ byte. not (is_separator byte)) l.bytes;
}
