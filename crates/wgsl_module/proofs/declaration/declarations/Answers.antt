use Rattle.std.proofs.Common.{◌≡◌, ◌∙◌, ◌+◌, ◌<◌, ◌≤◌, None, ap, arith, length, rules, slice_range, subst, sym, unwrap_or}
use Rattle.wgsl_module.specs.Declarations.{body_up_to, ended}
use Rattle.wgsl_module.proofs.Written.{Found, all_found, found_one, none_found, read_one}
use Rattle.wgsl_module.proofs.declaration.declarations.Goals as goal

pub loop-index-init : goal.loop-index-init
loop-index-init c = subst (λ ds. Found c.args.events.now ds 0 None 0) (sym c.new-found.ensures.items) (none_found c.args.events.now)

pub loop-index-preserved-in_default : goal.loop-index-preserved-in_default
loop-index-preserved-in_default c =
    let inside : c.loop-index.index < length c.args.events.now = search rules in
    subst (λ body. Found c.args.events.now c.loop-index.found.items c.loop-index.from body (c.loop-index.index + 1)) (sym c.begun-body.ensures)
    (read_one c.args.events.now c.loop-index.found.items c.loop-index.from c.loop-index.body c.loop-index.index _ inside
    (ap (ended _) (sym c.is_some.ensures) ∙ (sym c.ended.ensures ∙ c.in_default.is)) c.loop-index.invariant)

pub loop-index-preserved : goal.loop-index-preserved
loop-index-preserved c =
    let inside : c.loop-index.index < length c.args.events.now = search rules in
    let within : unwrap_or c.loop-index.body c.loop-index.index ≤ length c.args.events.now = omega (arith, inside, c.loop-index.invariant.below) in
    let own : c.between-own.result.now ≡ slice_range c.args.events.now c.loop-index.from (unwrap_or c.loop-index.body c.loop-index.index) =
    subst (λ to. to ≤ length c.args.events.now → c.between-own.result.now ≡ slice_range c.args.events.now c.loop-index.from to) c.unwrap_or.ensures c.between-own.ensures within in
    let begun : c.body_up_to.result.now ≡ body_up_to c.args.events.now c.loop-index.body c.loop-index.index = c.body_up_to.ensures (omega (arith, inside)) in
    subst (λ ds. Found c.args.events.now ds (c.loop-index.index + 1) None (c.loop-index.index + 1)) (sym c.in_ok-push.ensures.items)
    (found_one c.args.events.now c.loop-index.found.items c.loop-index.from c.loop-index.body c.loop-index.index _ _ inside
    (ap (ended _) (sym c.is_some.ensures) ∙ (sym c.ended.ensures ∙ c.in-Some.is)) own begun c.name_of.ensures c.loop-index.invariant)

pub returns : goal.returns
returns c =
    let end : length c.args.events.now ≤ c.loop-index.index = search rules in
    all_found c.args.events.now c.loop-index.found.items c.loop-index.from c.loop-index.body c.loop-index.index end c.loop-index.invariant
