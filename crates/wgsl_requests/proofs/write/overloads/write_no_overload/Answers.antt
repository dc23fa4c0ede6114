use Rattle.wgsl_requests.proofs.Shared.{◌∙◌, ◌++◌, ap, string_bytes, option_map, call_view, on_ok_weaker}
use Rattle.wgsl_requests.proofs.Listings.{refused_unknown}
use Rattle.wgsl_requests.proofs.write.overloads.write_no_overload.Goals as goal

pub returns-in-Some : goal.returns-in-Some
returns-in-Some c =
    let same = refused_unknown (call_view c.args.call.now) _ c.in-Some.name.now c.unknown_name.ensures (ap (option_map (λ name. name.now)) c.in-Some.is) in
    on_ok_weaker c.write_unknown.result (λ e. e ∙ ap (λ text. string_bytes c.args.text.now ++ text) same) c.write_unknown.ensures
