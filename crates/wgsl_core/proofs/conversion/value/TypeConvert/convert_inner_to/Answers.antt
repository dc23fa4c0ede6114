use Rattle.std.proofs.Common.{◌≡◌, ◌∙◌, IfOk, IsOk, option_map, sym, ap, subst}
use Rattle.wgsl_core.proofs.Common.{view, NeedsNoMemory}
use Rattle.wgsl_core.proofs.Converted.{in_its_element, as_a_whole}
use Rattle.wgsl_core.proofs.conversion.value.TypeConvert.convert_inner_to.Goals as goal

pub returns-in-Some : goal.returns-in-Some
returns-in-Some c =
    let e = in_its_element _ _ _ (view c.args.ty.now) (sym c.layer.ensures ∙ ap (option_map _) c.in-Some.is) in
    record {
      value = subst (λ r. IfOk c.around_converted.result (λ y. option_map view y ≡ r)) (sym e) c.around_converted.ensures.value;
      never_out_of_memory = subst (λ r. NeedsNoMemory r → IsOk c.around_converted.result) (sym e) c.around_converted.ensures.never_out_of_memory;
    }

pub returns-in-None : goal.returns-in-None
returns-in-None c =
    let e = as_a_whole _ (view c.args.ty.now) (sym c.layer.ensures ∙ ap (option_map _) c.in-None.is) in
    record {
      value = subst (λ r. IfOk c.convert_to.result (λ y. option_map view y ≡ r)) (sym e) c.convert_to.ensures.value;
      never_out_of_memory = subst (λ r. NeedsNoMemory r → IsOk c.convert_to.result) (sym e) c.convert_to.ensures.never_out_of_memory;
    }
