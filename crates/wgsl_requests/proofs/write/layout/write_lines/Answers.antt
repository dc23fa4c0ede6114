use Rattle.wgsl_requests.proofs.Shared.{◌++◌, string_bytes, ap, sym, ◌∙◌, struct_view, struct_line, placed_lines, on_ok_weaker}
use Rattle.wgsl_core.proofs.Layouts.{members_at}
use Rattle.wgsl_requests.proofs.Reports.{reported, struct_name_seen}
use Rattle.wgsl_requests.proofs.write.layout.write_lines.Goals as goal

pub returns : goal.returns
returns c =
    let s = c.args.structure.now in
    let l = c.args.layout.now in
    let old = string_bytes c.args.text.now in
    let mid = string_bytes c.write_members.new.text in
    let members = c.in_ok-write_members.ensures ∙ ap (λ x. old ++ placed_lines c.deref.result.now x) c.deref-2.ensures.value in
    let name = ap (λ n. mid ++ struct_line n l.size l.align) (c.deref-3.ensures ∙ sym (struct_name_seen s)) in
    on_ok_weaker c.write_last.result (λ e. reported (struct_view s).name c.deref.result.now l (struct_view s).members old mid _ (members_at s c.deref.result.now c.deref.ensures.value) members (e ∙ name))
    c.write_last.ensures
