use Rattle.std.proofs.Common.{◌≡◌, ◌∷◌, [], Some, None, map, sym, ◌∙◌, ap, arith}
use Rattle.std.specs.Prelude.{option_map}
use Rattle.std.proofs.lemmas.List.{map-append}
use Rattle.std.proofs.lemmas.List.Elements.{All-push}
use Rattle.wgsl_core.specs.View.{view}
use Rattle.wgsl_types.proofs.All.{all_next, all_none}
use Rattle.wgsl_types.proofs.conv.convert_all_to.Goals as goal

pub loop-value-preserved : goal.loop-value-preserved
loop-value-preserved g c =
    let given : g.T.Convert.to c.value-item.result (view c.args.ty.now) ≡ Some (g.T.Convert.shown c.in-Some.x) = sym c.in_ok-x.ensures.value ∙ ap (option_map g.T.Convert.shown) c.in-Some.is in
    let shown = ap (map g.T.Convert.shown) c.in_ok-push.ensures.items ∙ map-append g.T.Convert.shown c.loop-value.converted.items (c.in-Some.x ∷ []) in
    let one = g.met.T.Convert.to_has_type c.value-item.result (view c.args.ty.now) c.in-Some.x given in
    record {
      given = all_next g.T.Convert.to (view c.args.ty.now) c.args.values.now c.loop-value.value-index (map g.T.Convert.shown c.loop-value.converted.items) c.value-item.result (g.T.Convert.shown c.in-Some.x) (omega arith) c.value-item.is c.loop-value.invariant.given given
          ∙ sym (ap Some shown);
      one_type = rw c.in_ok-push.ensures.items (All-push (λ x. g.T.Ty.type_of x ≡ view c.args.ty.now) c.loop-value.converted.items c.in-Some.x c.loop-value.invariant.one_type one);
    }

pub returns-in_default-clause-value : goal.returns-in_default-clause-value
returns-in_default-clause-value g c =
    let missing : g.T.Convert.to c.value-item.result (view c.args.ty.now) ≡ None = sym c.in_ok-x.ensures.value ∙ ap (option_map g.T.Convert.shown) c.in_default.is in
    all_none g.T.Convert.to (view c.args.ty.now) c.args.values.now c.loop-value.value-index (map g.T.Convert.shown c.loop-value.converted.items) c.value-item.result (omega arith) c.value-item.is c.loop-value.invariant.given missing
