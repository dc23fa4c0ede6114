use Rattle.std.proofs.Common.{◌≡◌, ◌≤◌, ◌∷◌, ◌++◌, [], true, Some, Ok, Err, IfOk, Result, inr, length, option_map, reverse, sym, ap, subst, ◌∙◌, arith}
use Rattle.std.proofs.lemmas.Grind.{common_steps}
use Rattle.std.proofs.lemmas.List.{length-reverse, reverse-append}
use Rattle.wgsl_core.specs.View.{view}
use Rattle.wgsl_typing.specs.Names.{context}
use Rattle.wgsl_typing.specs.Parameters.{IsCount, of_first}
use Rattle.wgsl_typing.specs.Stacks.{IsOperand, below}
use Rattle.wgsl_typing.specs.Templates.{is_element}
use Rattle.wgsl_typing.specs.Types.{no_type_on, type_of_item}
use Rattle.wgsl_typing.proofs.Parameters.{counted}
use Rattle.wgsl_typing.proofs.Taken.{count_taken}
use Rattle.wgsl_typing.proofs.expressions.Expressions.array.Goals as goal

pub returns-in-Some-2-clause-answer : goal.returns-in-Some-2-clause-answer
returns-in-Some-2-clause-answer c =
    let same : context c.has_length.new.self ≡ context c.args.self.now = ap (λ s. s.context) c.in_ok-has_length.ensures.stack in
    let kept : context c.next_type.new.self ≡ context c.args.self.now = c.in_ok-of.ensures.stack.1 ∙ same in
    let short : length (reverse c.args.list.now.items) ≤ 2 = grind (arith, common_steps, length-reverse c.args.list.now.items) in
    let typed : Some (view c.in-Some.of) ≡ of_first (type_of_item (context c.args.self.now)) (reverse c.args.list.now.items) =
    ap (option_map view) (sym c.in-Some.is) ∙ (c.in_ok-of.ensures.answer ∙ ap (λ k. of_first (type_of_item k) (reverse c.args.list.now.items)) same) in
    let left : c.in-Some-pop.item ∷ reverse c.pop.new.self.items ≡ below (reverse c.args.list.now.items) =
    sym (ap reverse c.in-Some-pop.ensures.items ∙ reverse-append c.pop.new.self.items _) ∙ c.in_ok-of.ensures.list in
    let counts : IsCount (context c.args.self.now) c.in-Some-pop.item (Some c.in-Some-2.count) =
    subst (λ k. IsCount k c.in-Some-pop.item (Some c.in-Some-2.count)) kept (subst (λ count. IsCount (context c.next_type.new.self) c.in-Some-pop.item count) c.in-Some-2.is c.in_ok-count.ensures.answer) in
    let element : is_element (view c.in-Some.of) ≡ true = sym c.if-not-is_element.ensures in
    counted (context c.args.self.now) (view c.in-Some.of) c.in-Some-pop.item c.in-Some-2.count (reverse c.args.list.now.items) (reverse c.pop.new.self.items) c.array_of-in-Some-2.result
    short typed left counts element c.array_of-in-Some-2.ensures.answer

-- what holds whatever is answered holds of an answer
always : {A E : Type 0} (r : Result A E) (P : Type 0) → P → IfOk r (λ a. P)
always (Ok a) P p = p
always (Err e) P p = tt

pub returns-in-None-clause-taken : goal.returns-in-None-clause-taken
returns-in-None-clause-taken c =
    let kept : context c.next_type.new.self ≡ context c.args.self.now = c.in_ok-of.ensures.stack.1 ∙ ap (λ s. s.context) c.in_ok-has_length.ensures.stack in
    let short : length (reverse c.args.list.now.items) ≤ 2 = grind (arith, common_steps, length-reverse c.args.list.now.items) in
    let left : c.in-Some-pop.item ∷ reverse c.pop.new.self.items ≡ below (reverse c.args.list.now.items) =
    sym (ap reverse c.in-Some-pop.ensures.items ∙ reverse-append c.pop.new.self.items _) ∙ c.in_ok-of.ensures.list in
    let typed : c.next_type.new.self.parts.items ≡ c.args.self.now.parts.items ++ no_type_on (reverse c.args.list.now.items) =
    c.in_ok-of.ensures.parts ∙ ap (λ s. s.parts ++ no_type_on (reverse c.args.list.now.items)) c.in_ok-has_length.ensures.stack in
    inr (count_taken (context c.args.self.now) c.in-Some-pop.item (reverse c.args.list.now.items) (reverse c.pop.new.self.items) c.args.self.now.parts.items c.next_type.new.self.parts.items
    c.count_in.new.self.parts.items c.in_ok-count.ensures.noted.0 short left
    (subst (λ k. IsOperand k (c.in-Some-pop.item ∷ []) c.in_ok-count.ensures.noted.0) kept c.in_ok-count.ensures.noted.1) typed c.in_ok-count.ensures.noted.2)

pub returns-in-Some-2-clause-taken : goal.returns-in-Some-2-clause-taken
returns-in-Some-2-clause-taken c =
    let kept : context c.next_type.new.self ≡ context c.args.self.now = c.in_ok-of.ensures.stack.1 ∙ ap (λ s. s.context) c.in_ok-has_length.ensures.stack in
    let short : length (reverse c.args.list.now.items) ≤ 2 = grind (arith, common_steps, length-reverse c.args.list.now.items) in
    let left : c.in-Some-pop.item ∷ reverse c.pop.new.self.items ≡ below (reverse c.args.list.now.items) =
    sym (ap reverse c.in-Some-pop.ensures.items ∙ reverse-append c.pop.new.self.items _) ∙ c.in_ok-of.ensures.list in
    let typed : c.next_type.new.self.parts.items ≡ c.args.self.now.parts.items ++ no_type_on (reverse c.args.list.now.items) =
    c.in_ok-of.ensures.parts ∙ ap (λ s. s.parts ++ no_type_on (reverse c.args.list.now.items)) c.in_ok-has_length.ensures.stack in
    let made : c.array_of-in-Some-2.new.self.parts.items ≡ c.next_type.new.self.parts.items ++ c.in_ok-count.ensures.noted.0 ∷ [] =
    ap (λ s. s.parts) c.array_of-in-Some-2.ensures.stack ∙ c.in_ok-count.ensures.noted.2 in
    always c.array_of-in-Some-2.result _
    (inr (count_taken (context c.args.self.now) c.in-Some-pop.item (reverse c.args.list.now.items) (reverse c.pop.new.self.items) c.args.self.now.parts.items c.next_type.new.self.parts.items
    c.array_of-in-Some-2.new.self.parts.items c.in_ok-count.ensures.noted.0 short left
    (subst (λ k. IsOperand k (c.in-Some-pop.item ∷ []) c.in_ok-count.ensures.noted.0) kept c.in_ok-count.ensures.noted.1) typed made))
