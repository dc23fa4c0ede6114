use Rattle.std.proofs.Common.{◌≡◌, Some, IfOk, IfSome, Result, option_map, reverse, sym, ap, subst, ◌∙◌}
use Rattle.wgsl_core.specs.View.{view}
use Rattle.wgsl_typing.specs.Names.{context}
use Rattle.wgsl_typing.specs.Parameters.{access_listed, of_first, space_of}
use Rattle.wgsl_typing.specs.Stacks.{below}
use Rattle.wgsl_typing.specs.Templates.{IsLimited, pointer_listed}
use Rattle.wgsl_typing.specs.Types.{type_of_item}
use Rattle.wgsl_typing.proofs.Parameters.{pointed}
use Rattle.wgsl_typing.proofs.expressions.Expressions.pointer.Goals as goal

pub returns-in-Some-of-clause-answer : goal.returns-in-Some-of-clause-answer
returns-in-Some-of-clause-answer c =
    let first : context c.has_length.new.self ≡ context c.args.self.now = ap (λ s. s.context) c.in_ok-has_length.ensures.stack in
    let second : context c.next_space.new.self ≡ context c.args.self.now = ap (λ s. s.context) c.in_ok-space.ensures.stack ∙ first in
    let third : context c.next_type.new.self ≡ context c.args.self.now = c.in_ok-of.ensures.stack.1 ∙ second in
    let spaced : Some c.in-Some.space ≡ of_first (space_of (context c.args.self.now)) (reverse c.args.list.now.items) =
    sym c.in-Some.is ∙ (c.in_ok-space.ensures.answer ∙ ap (λ k. of_first (space_of k) (reverse c.args.list.now.items)) first) in
    let left : reverse c.next_space.new.list.items ≡ below (reverse c.args.list.now.items) =
    subst (λ found. IfSome found (λ s. reverse c.next_space.new.list.items ≡ below (reverse c.args.list.now.items))) c.in-Some.is c.in_ok-space.ensures.list in
    let typed : Some (view c.in-Some-of.of) ≡ of_first (type_of_item (context c.args.self.now)) (reverse c.next_space.new.list.items) =
    ap (option_map view) (sym c.in-Some-of.is) ∙ (c.in_ok-of.ensures.answer ∙ ap (λ k. of_first (type_of_item k) (reverse c.next_space.new.list.items)) second) in
    let ended : Some c.in-Some-2.access ≡ access_listed (context c.args.self.now) (reverse c.next_type.new.list.items) =
    sym c.in-Some-2.is ∙ (c.in_ok-access.ensures.answer ∙ ap (λ k. access_listed k (reverse c.next_type.new.list.items)) third) in
    let same = pointed (context c.args.self.now) c.in-Some.space (view c.in-Some-of.of) c.in-Some-2.access (reverse c.args.list.now.items) (reverse c.next_space.new.list.items) (reverse c.next_type.new.list.items)
    spaced left typed c.in_ok-of.ensures.list ended in
    subst (λ expected. IfOk c.pointer_to.result (λ ty. IsLimited expected (option_map view ty))) same c.pointer_to.ensures.answer
