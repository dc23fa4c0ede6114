use Rattle.std.proofs.Common.{◌∙◌, ap, codes}
use Rattle.wgsl_core.proofs.Common.{struct, members_of}
use Rattle.wgsl_core.proofs.Built.{bool_is, u32_is, f32_is, grown, intersection_is}
use Rattle.wgsl_core.proofs.ty.result_type.push_intersection.Goals as goal

pub returns : goal.returns
returns c =
    let e1 = grown _ _ _ _ c.in_ok-push.ensures c.requires in
    let e2 = grown _ _ _ _ c.in_ok-push-2.ensures e1 in
    let e3 = grown _ _ _ _ c.in_ok-push-3.ensures e2 in
    let e4 = grown _ _ _ _ c.in_ok-push-4.ensures e3 in
    let e5 = grown _ _ _ _ c.in_ok-push-5.ensures e4 in
    let e6 = grown _ _ _ _ c.in_ok-push-6.ensures e5 in
    let e7 = grown _ _ _ _ c.in_ok-push-7.ensures e6 in
    let e8 = grown _ _ _ _ c.in_ok-push-8.ensures e7 in
    let e9 = grown _ _ _ _ c.in_ok-push-9.ensures e8 in
    let e10 = grown _ _ _ _ c.in_ok-push-10.ensures e9 in
    let e11 = grown _ _ _ _ c.in_ok-push-11.ensures e10 in
    ap (λ ms. struct (codes "RayIntersection") (members_of ms)) e11
    ∙ intersection_is _ _ _ _ _ _ _ _ _ _ _ u32_is f32_is u32_is u32_is u32_is u32_is u32_is c.in_ok-floats.ensures bool_is c.in_ok-floats-2.ensures c.in_ok-floats-3.ensures
