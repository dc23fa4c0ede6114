-- Bytes that are compared with a line feed 16 at a time.
use Rattle.wgsl_lines.proofs.Common.{◌≡◌, ◌∙◌, ◌+◌, ◌<◌, ◌≤◌, ◌≢◌, ◌==◌, ℕ, List, All, true, get_or, arith}
use Rattle.wgsl_lines.proofs.Common.{length, not, sym, take, drop, prefix_len, chunk, take-add, All-append, get_or-take, length-take}
use Rattle.wgsl_lines.proofs.Common.{take-take, length-chunk}
use Rattle.std.proofs.lemmas.List.Sums.{prefix_len-le-length, prefix_len_passes}

-- a byte that is said to be no line feed
no_feed : (byte : ℕ) → not (byte == 10) ≡ true → byte ≢ 10
no_feed byte said is = grind (arith, said, is)

-- the bytes before the first line feed have none
none_before : (bytes : List ℕ) → All (λ byte. byte ≢ 10) (take (prefix_len (λ byte. not (byte == 10)) bytes) bytes)
none_before bytes k d below is =
    let n = prefix_len (λ byte. not (byte == 10)) bytes in
    let within : k < n = omega (arith, below, length-take n bytes) in
    no_feed (get_or bytes k d) (prefix_len_passes (λ byte. not (byte == 10)) bytes k d within) (sym (get_or-take n bytes k d within) ∙ is)

-- what is passed, and what comes before the first line feed in the next 16 bytes
pub passed_more : (bytes : List ℕ) (at more : ℕ) → at + 16 ≤ length bytes → more ≡ prefix_len (λ byte. not (byte == 10)) (chunk at 16 bytes)
    → All (λ byte. byte ≢ 10) (take at bytes)
    → (more ≤ 16) × All (λ byte. byte ≢ 10) (take (at + more) bytes)
passed_more bytes at more room is none =
    let few : more ≤ 16 = omega (arith, is, prefix_len-le-length (λ byte. not (byte == 10)) (chunk at 16 bytes), length-chunk at 16 bytes room) in
    let front : take more (chunk at 16 bytes) ≡ take more (drop at bytes) = take-take more 16 (drop at bytes) few in
    let next : All (λ byte. byte ≢ 10) (take more (drop at bytes)) = rw (sym front) (rw is (none_before (chunk at 16 bytes))) in
    (few, rw (take-add at more bytes) (All-append (λ byte. byte ≢ 10) (take at bytes) (take more (drop at bytes)) none next))
