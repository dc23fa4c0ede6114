use Rattle.std.proofs.Common.{◌∙◌, ◌∷◌, ℕ, Some, ap, reverse, sym, unwrap_or}
use Rattle.wgsl_module.proofs.Blocks.{innermost}
use Rattle.wgsl_module.specs.Blocks.{continued, with_loops}
use Rattle.wgsl_module.specs.States.{state}
use Rattle.wgsl_module.specs.declared.block.Loop.{Loop}
use Rattle.wgsl_module.proofs.checker.Checker.skip_names.Goals as goal

pub returns-in_ok-push : goal.returns-in_ok-push
returns-in_ok-push c =
    let s = state c.args.self.now in
    let loop = c.in-Some.innermost in
    let marked : ℕ → Loop = λ from. record loop { continued = Some from } in
    let rest = reverse c.pop.new.self.items in
    let old = innermost c.args.self.now.loops.items c.pop.new.self.items loop c.in-Some.ensures.items in
    let new = innermost c.push.new.self.items c.pop.new.self.items (marked c.unwrap_or.result) c.in_ok-push.ensures.items in
    let from = c.unwrap_or.ensures ∙ ap (unwrap_or loop.continued) c.in_front-in_front.ensures in
    ap (λ loops. with_loops loops s) (new ∙ (ap (λ n. marked n ∷ rest) from ∙ sym (ap (continued s) old)))
