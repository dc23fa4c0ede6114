use Rattle.wgsl_requests.proofs.Shared.{ap, map, subst, sym, ◌∙◌, view, types_of, constructed, answer_view, unbuilt_view, written_view}
use Rattle.wgsl_standard.specs.forms.Array.{IsInferredArray, typed_array}
use Rattle.wgsl_requests.proofs.Overloaded.{same_types}
use Rattle.wgsl_requests.proofs.forms.type_of_form.Goals as goal

pub returns-in-Construct : goal.returns-in-Construct
returns-in-Construct c =
    let form = c.in-Construct in
    rw form.is (c.existing-in-Construct.ensures ∙ (c.construct_struct.ensures ∙ ap (constructed (view form.ty.now)) (same_types form.values.now)))

pub returns-in-Array : goal.returns-in-Array
returns-in-Array c =
    let form = c.in-Array in
    rw form.is (subst (IsInferredArray (types_of (map written_view form.values.now))) (sym c.unreferred-in-Array.ensures)
    (subst (λ ts. IsInferredArray ts (answer_view unbuilt_view c.construct_array.result)) (same_types form.values.now) c.construct_array.ensures))

pub returns-in-ArrayOf : goal.returns-in-ArrayOf
returns-in-ArrayOf c =
    let form = c.in-ArrayOf in
    rw form.is (c.unreferred-in-ArrayOf.ensures ∙ (c.construct_array_of.ensures ∙ ap (typed_array (view form.ty.now) form.count) (same_types form.values.now)))
