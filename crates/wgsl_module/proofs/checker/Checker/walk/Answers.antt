use Rattle.std.proofs.Common.{◌∙◌, ◌++◌, [], ap, arith, refl, sym}
use Rattle.wgsl_module.specs.Order.{leads_from}
use Rattle.wgsl_module.proofs.Walked.{all_behind, begun_root, goes_on, less_work, moves, none_of, root_done, taken_off}
use Rattle.wgsl_module.proofs.checker.Checker.walk.Goals as goal

pub loop-index-init : goal.loop-index-init
loop-index-init c =
    let b = begun_root (leads_from c.args.self.now c.args.link) c.args.from c.loop-root.root c.loop-root.order c.begin.new.self c.in_ok-begin.ensures c.loop-root.invariant.1 c.loop-root.invariant.0 in
    (b.0, b.1, b.2 ∙ c.loop-root.invariant.2)

pub loop-index-smaller : goal.loop-index-smaller
loop-index-smaller c = less_work (leads_from c.args.self.now c.args.link) c.in-Some.index c.in-Some.at c.next-next.result c.loop-index.order _ c.go_on.new.self c.next-next.ensures c.in_ok-go_on.ensures refl c.in-Some.ensures.items

pub loop-index-preserved : goal.loop-index-preserved
loop-index-preserved c =
    let f = taken_off (leads_from c.args.self.now c.args.link) c.args.from c.loop-root.root _ _ _ c.loop-index.order.stack.items c.pop.new.self.items (c.in-Some.index, c.in-Some.at)
    c.in-Some.ensures.items c.loop-index.invariant.0 in
    let m = moves c.in-Some.index c.next-next.result _ c.go_on.new.self c.in_ok-go_on.ensures in (
      goes_on (leads_from c.args.self.now c.args.link) c.args.from c.loop-root.root c.in-Some.index c.in-Some.at c.next-next.result _ c.go_on.new.self c.next-next.ensures c.in_ok-go_on.ensures f,
      λ unseen. c.loop-index.invariant.1 (m.seen c.loop-root.root unseen),
      m.len ∙ c.loop-index.invariant.2,
    )

pub loop-root-preserved : goal.loop-root-preserved
loop-root-preserved c =
    let empty = none_of c.pop.new.self.items (sym c.pop.new.self.ok.0 ∙ c.in_default.ensures.cases.1) in
    let all = c.in_default.ensures.items ∙ ap (λ xs. xs ++ []) empty in (
      root_done (leads_from c.args.self.now c.args.link) c.args.from c.loop-root.root _ _ _ c.loop-index.order.stack.items c.pop.new.self.items all empty
          c.loop-index.invariant.1 c.loop-index.invariant.0,
      empty,
      c.loop-index.invariant.2,
    )

pub returns-clause-behind : goal.returns-clause-behind
returns-clause-behind c = all_behind (leads_from c.args.self.now c.args.link) c.args.from c.loop-root.root _ _ _ _ c.loop-root.invariant.0

pub returns-clause-in_turn : goal.returns-clause-in_turn
returns-clause-in_turn c = λ all front i rest is inside. c.loop-root.invariant.0.in_turn front i rest is (omega (arith, all, inside, c.loop-root.invariant.2))
