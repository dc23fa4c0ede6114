use Rattle.std.proofs.Common.{◌+◌, Some, None, subst, option_map}
use Rattle.wgsl_standard.proofs.CommonForms.{IsCommon, given_type}
use Rattle.wgsl_standard.proofs.CommonElements.{one_more, none_left, at_end, from_all}
use Rattle.wgsl_standard.proofs.forms.array.common_element.Goals as goal

pub loop-value-preserved : goal.loop-value-preserved
loop-value-preserved c = λ r f.
    c.loop-value.invariant r
    (one_more (given_type c.loop-value.common) (given_type c.referred.result) c.args.rest.now c.loop-value.value-index c.value-item.result
    (Some (given_type c.in-Some.found)) r c.loop-value-test.true c.value-item.is c.referred.ensures
    (subst (λ o. IsCommon (given_type c.loop-value.common) (given_type c.referred.result) (option_map given_type o)) c.in-Some.is c.common_of.ensures) f)

pub returns-in-None : goal.returns-in-None
returns-in-None c =
    from_all (given_type c.args.first) c.args.rest.now None (c.loop-value.invariant None
    (one_more (given_type c.loop-value.common) (given_type c.referred.result) c.args.rest.now c.loop-value.value-index c.value-item.result
    None None c.loop-value-test.true c.value-item.is c.referred.ensures
    (subst (λ o. IsCommon (given_type c.loop-value.common) (given_type c.referred.result) (option_map given_type o)) c.in-None.is c.common_of.ensures)
    (none_left c.args.rest.now (c.loop-value.value-index + 1))))

pub returns : goal.returns
returns c =
    from_all (given_type c.args.first) c.args.rest.now _ (c.loop-value.invariant _
    (at_end (given_type c.loop-value.common) c.args.rest.now c.loop-value.value-index c.loop-value-test.false))
