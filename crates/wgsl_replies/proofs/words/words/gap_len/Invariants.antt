use Rattle.wgsl_replies.proofs.Common.{drop, prefix_len, is_separator, ◌≡◌, ◌+◌}
use Rattle.wgsl_replies.proofs.words.words.gap_len.Given as goal

abbrev pub invariant-loop-byte : goal.invariant-loop-byte
invariant-loop-byte l = record {
  counted : l.len ≡ l.byte-index;
  passed : l.len + prefix_len is_separator (drop l.len l.bytes) ≡ prefix_len is_separator l.bytes;
}
