use native.Mathlib.Numerals.{unary_clauses}
use Rattle.wgsl_replies.proofs.Common.{arith, ap, ◌∙◌, prefix_len, not, refl, common_steps, is_separator}
use Rattle.wgsl_replies.proofs.Cuts.{first_word_is, gap_boundary, no_first_word, word_boundary, words_of-blank}
use Rattle.wgsl_replies.proofs.words.words.first_word.Goals as goal

pub range_from-rest-requires : goal.range_from-rest-requires
range_from-rest-requires c = λ _.
    gap_boundary _ _ c.utf8.text (c.gap_len-gap.ensures ∙ ap (prefix_len is_separator) c.as_bytes.ensures.value)

pub returns-then-is_empty : goal.returns-then-is_empty
returns-then-is_empty c = no_first_word _
    (words_of-blank c.args.text.now c.gap_len-gap.result (c.gap_len-gap.ensures ∙ ap (prefix_len is_separator) c.as_bytes.ensures.value)
    (grind (arith, common_steps, c.range_from-rest.ensures.value, c.is_empty.ensures, c.if-is_empty.true)))

pub range-requires-clause-end_boundary : goal.range-requires-clause-end_boundary
range-requires-clause-end_boundary c =
    word_boundary _ _ (c.word_len-len.ensures ∙ ap (prefix_len (λ byte. not (is_separator byte))) c.as_bytes-2.ensures.value)

pub returns : goal.returns
returns c = first_word_is c.args.text.now c.range_from-rest.result.now c.range.result c.gap_len-gap.result c.word_len-len.result
    (record {
      gap_is = c.gap_len-gap.ensures ∙ ap (prefix_len is_separator) c.as_bytes.ensures.value;
      rest_is = c.range_from-rest.ensures.value;
      len_is = c.word_len-len.ensures ∙ ap (prefix_len (λ byte. not (is_separator byte))) c.as_bytes-2.ensures.value;
      some = grind (arith, common_steps, c.is_empty.ensures, c.if-is_empty.false);
    })
    (rw c.range.ensures.value (simp unary_clauses refl))
