use Rattle.wgsl_lines.proofs.Common.{◌≡◌, ◌≤◌, ◌∙◌, ◌+◌, ◌==◌, ap, arith, eqb, length, not, prefix_len, sym, w8, chunk, bitmask_splat, leading_from_mask_l, length-chunk, trailing_mask_l}
use lib.Count.{count_trailing_zeros}
use Rattle.wgsl_lines.proofs.Feeds.{passed_more}
use Rattle.wgsl_lines.proofs.line.without_feed.Goals as goal

pub loop-passed-preserved : goal.loop-passed-preserved
loop-passed-preserved c =
    let next = chunk c.loop-passed.passed 16 c.args.bytes.now in
    let room : c.loop-passed.passed + 16 ≤ length c.args.bytes.now = omega (arith, c.loop-passed-test.true, c.loop-passed.invariant.0) in
    let long = length-chunk c.loop-passed.passed 16 c.args.bytes.now room in
    let mask = bitmask_splat w8 eqb next 16 10 long (omega arith) in
    let all : 16 ≡ prefix_len (λ byte. not (byte == 10)) next = sym (leading_from_mask_l (λ byte. eqb byte 10) next (sym mask ∙ c.if-feeds-ne0.false) ∙ long) in
    (room, (passed_more c.args.bytes.now c.loop-passed.passed 16 room all c.loop-passed.invariant.1).1)

pub returns-then-feeds-ne0-clause-within : goal.returns-then-feeds-ne0-clause-within
returns-then-feeds-ne0-clause-within c =
    let next = chunk c.loop-passed.passed 16 c.args.bytes.now in
    let room : c.loop-passed.passed + 16 ≤ length c.args.bytes.now = omega (arith, c.loop-passed-test.true, c.loop-passed.invariant.0) in
    let long = length-chunk c.loop-passed.passed 16 c.args.bytes.now room in
    let mask = bitmask_splat w8 eqb next 16 10 long (omega arith) in
    let before = ap (count_trailing_zeros 64) mask ∙ trailing_mask_l (λ byte. eqb byte 10) 64 next (omega arith) (omega arith) in
    omega (arith, room, (passed_more c.args.bytes.now c.loop-passed.passed _ room before c.loop-passed.invariant.1).0)

pub returns-then-feeds-ne0-clause-none : goal.returns-then-feeds-ne0-clause-none
returns-then-feeds-ne0-clause-none c =
    let next = chunk c.loop-passed.passed 16 c.args.bytes.now in
    let room : c.loop-passed.passed + 16 ≤ length c.args.bytes.now = omega (arith, c.loop-passed-test.true, c.loop-passed.invariant.0) in
    let long = length-chunk c.loop-passed.passed 16 c.args.bytes.now room in
    let mask = bitmask_splat w8 eqb next 16 10 long (omega arith) in
    let before = ap (count_trailing_zeros 64) mask ∙ trailing_mask_l (λ byte. eqb byte 10) 64 next (omega arith) (omega arith) in
    (passed_more c.args.bytes.now c.loop-passed.passed _ room before c.loop-passed.invariant.1).1
