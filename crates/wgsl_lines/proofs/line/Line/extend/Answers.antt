use Rattle.wgsl_lines.proofs.Common.{◌≡◌, ◌∙◌, ◌+◌, ◌++◌, ℕ, List, IsOk, Result, Ok, Err, is_ok, if◌then◌else◌, refl, ap, arith, length, min, sym, take}
use Rattle.wgsl_lines.proofs.Common.{take-append-add, length-take, take_min}
use Rattle.wgsl_lines.proofs.line.Line.extend.Goals as goal

-- what there is room for, behind what is there
gathered : (there bytes : List ℕ) (room count all : ℕ) → all ≡ length there + room → count ≡ min room (length bytes)
    → there ++ take count bytes ≡ take all (there ++ bytes)
gathered there bytes room count all e f =
    ap (λ n. there ++ take n bytes) f ∙ (ap (λ ds. there ++ ds) (take_min room bytes) ∙ (sym (take-append-add there bytes room) ∙ ap (λ n. take n (there ++ bytes)) (sym e)))

-- all of it fits
kept : {T E : Type 0} (r : Result T E) (old new : List ℕ) → IsOk r → (if is_ok r then new else old) ≡ new
kept (Ok x) old new k = refl
kept (Err e) old new k = absurd (cc k)

pub returns-clause-gathered : goal.returns-clause-gathered
returns-clause-gathered c =
    let fits : IsOk c.extend_from_slice.result = c.extend_from_slice.ensures.succeeds (omega (arith, length-take c.min.result c.args.bytes.now, c.min.ensures, c.len.ensures, c.args.self.now.roomy, c.args.self.now.bounded)) in
    c.extend_from_slice.ensures.items ∙ (kept c.extend_from_slice.result c.args.self.now.bytes.items _ fits ∙ gathered c.args.self.now.bytes.items c.args.bytes.now _ c.min.result 4097 (omega (arith, c.args.self.now.bounded)) c.min.ensures)
