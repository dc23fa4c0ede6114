use Rattle.std.proofs.Common.{ap, ◌∙◌, ◌++◌, codes, option_map, string_bytes}
use Rattle.wgsl_core.proofs.Common.{has_written_of_eq, parameter_text, spelling, parameter_view, view}
use Rattle.wgsl_core.proofs.Listed.{listed_seen, without_template, with_template}
use Rattle.wgsl_core.proofs.signature.CallSignatureDisplay.fmt.Goals as goal

pub returns-in-None-clause-writes : goal.returns-in-None-clause-writes
returns-in-None-clause-writes g c = λ plain ok.
    let name = string_bytes c.args.self.now.name in
    let arguments = listed_seen spelling view c.args.self.now.args.items in
    has_written_of_eq _ _ _ _ _
    (ap (λ ts. name ++ (codes "(" ++ (ts ++ codes ")"))) arguments ∙ without_template name _ _ (ap (option_map _) c.in-None.is))
    (c.write.ensures.writes plain ok)

pub returns-in-Some-clause-writes : goal.returns-in-Some-clause-writes
returns-in-Some-clause-writes g c = λ plain ok.
    let name = string_bytes c.args.self.now.name in
    let parameters = listed_seen parameter_text parameter_view c.in-Some.parameters.items in
    let arguments = listed_seen spelling view c.args.self.now.args.items in
    has_written_of_eq _ _ _ _ _
    ((λ i. name ++ (codes "<" ++ (parameters i ++ (codes ">" ++ (codes "(" ++ (arguments i ++ codes ")")))))) ∙ with_template name _ _ _ (ap (option_map _) c.in-Some.is))
    (c.write-in-Some.ensures.writes plain ok)
