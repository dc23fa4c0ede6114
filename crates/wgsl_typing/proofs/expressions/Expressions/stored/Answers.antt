use Rattle.std.proofs.Common.{◌≡◌, ◌≤◌, arith, false, nat_eq, Some, IfSome, length, reverse, sym, ap, subst, ◌∙◌}
use Rattle.std.proofs.lemmas.Grind.{common_steps}
use Rattle.std.proofs.lemmas.List.{length-reverse}
use Rattle.wgsl_typing.specs.Names.{context}
use Rattle.wgsl_typing.specs.Parameters.{access_of, format_of, of_first}
use Rattle.wgsl_typing.specs.Stacks.{below}
use Rattle.wgsl_typing.proofs.Parameters.{stored, stored_by_two}
use Rattle.wgsl_typing.proofs.expressions.Expressions.stored.Goals as goal

pub returns-then-not-branch-clause-answer : goal.returns-then-not-branch-clause-answer
returns-then-not-branch-clause-answer c =
    let other : nat_eq (length (reverse c.args.list.now.items)) 2 ≡ false = grind (arith, common_steps, length-reverse c.args.list.now.items) in
    stored_by_two (context c.args.self.now) (reverse c.args.list.now.items) other

pub returns-in-Some-2-clause-answer : goal.returns-in-Some-2-clause-answer
returns-in-Some-2-clause-answer c =
    let first : context c.has_length.new.self ≡ context c.args.self.now = ap (λ s. s.context) c.in_ok-has_length.ensures.stack in
    let second : context c.next_format.new.self ≡ context c.args.self.now = ap (λ s. s.context) c.in_ok-format.ensures.stack ∙ first in
    let short : length (reverse c.args.list.now.items) ≤ 2 = grind (arith, common_steps, length-reverse c.args.list.now.items) in
    let formed : Some c.in-Some.format ≡ of_first (format_of (context c.args.self.now)) (reverse c.args.list.now.items) =
    sym c.in-Some.is ∙ (c.in_ok-format.ensures.answer ∙ ap (λ k. of_first (format_of k) (reverse c.args.list.now.items)) first) in
    let left : reverse c.next_format.new.list.items ≡ below (reverse c.args.list.now.items) =
    subst (λ found. IfSome found (λ f. reverse c.next_format.new.list.items ≡ below (reverse c.args.list.now.items))) c.in-Some.is c.in_ok-format.ensures.list in
    let last : Some c.in-Some-2.access ≡ of_first (access_of (context c.args.self.now)) (reverse c.next_format.new.list.items) =
    sym c.in-Some-2.is ∙ (c.in_ok-access.ensures.answer ∙ ap (λ k. of_first (access_of k) (reverse c.next_format.new.list.items)) second) in
    stored (context c.args.self.now) c.in-Some.format c.in-Some-2.access (reverse c.args.list.now.items) (reverse c.next_format.new.list.items) short formed left last
