use Rattle.wgsl_requests.proofs.Shared.{◌≡◌, ◌∙◌, ◌+◌, ◌%◌, ◌∷◌, ◌++◌, [], ap, arith, decimal, string_bytes, on_ok_weaker}
use Rattle.wgsl_requests.proofs.Listings.{last_digit, one_digit, pushed}
use Rattle.wgsl_requests.proofs.fast.+write_number.Goals.{then-number-ge10+in_ok-write_number, else-number-ge10}
use Rattle.wgsl_requests.proofs.fast.+write_number.Goals as goal

pub returns : goal.returns
returns t c =
    let n = c.args.number in
    let before = string_bytes c.args.text.now in
    let mid = string_bytes c.if-number-ge10.text in
    let digit = ap (λ ds. mid ++ ds) (c.push.ensures.ascii (omega (arith, c.from.ensures)) ∙ ap (λ d. d ∷ []) c.from.ensures) in
    let whole : mid ++ (48 + n % 10) ∷ [] ≡ before ++ decimal n = elim c.if-number-ge10.branch [
      | then-number-ge10+in_ok-write_number w ↦ last_digit n before mid w.if-number-ge10.true (omega (arith, c.ranges.number.fits)) (ap string_bytes w.text-is ∙ w.in_ok-write_number.ensures)
      | else-number-ge10 w ↦ one_digit n before mid w.if-number-ge10.false (ap string_bytes w.text-is)
    ] in
    on_ok_weaker c.push.result (λ written. written ∙ (digit ∙ whole)) (pushed c.push.result _ mid _ c.push.ensures.bytes)
