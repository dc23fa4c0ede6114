use Rattle.wgsl_requests.proofs.Shared.{◌++◌, string_bytes, sym, ap, ◌∙◌, append-nil}
use Rattle.std.proofs.lemmas.Slice.Zip.{either_empty_from_Zip}
use Rattle.wgsl_requests.proofs.Reports.{no_lines}
use Rattle.wgsl_requests.proofs.write.layout.write_members.Goals as goal

pub returns : goal.returns
returns c =
    let none = no_lines _ _ (either_empty_from_Zip c.loop-member.member-iterator c.next.new.self c.next.result c.in-None.is c.next.ensures.steps) in
    sym (append-nil (string_bytes c.loop-member.text)) ∙ ap (λ x. string_bytes c.loop-member.text ++ x) (sym none) ∙ c.loop-member.invariant
