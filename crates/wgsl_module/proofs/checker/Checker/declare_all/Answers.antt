use Rattle.std.proofs.Common.{◌≡◌, ◌∙◌, ◌≤◌, ◌++◌, ℕ, List, ap, arith, length, map, slice_get, subst, sym}
use Rattle.std.proofs.lemmas.List.{length-map}
use Rattle.wgsl_module.specs.Called.{called_by}
use Rattle.wgsl_module.specs.Declarations.{written}
use Rattle.wgsl_module.specs.Named.{first_called, named_by, named_from, naming}
use Rattle.wgsl_module.specs.States.{source, state}
use Rattle.wgsl_module.specs.Order.{HasEach, IsBehind, IsInTurn, cycling, leads_of}
use Rattle.wgsl_module.specs.Runs.{AreDeclarations, as_unread}
use Rattle.wgsl_module.specs.declared.checker.Checker.{Checker}
use Rattle.wgsl_module.specs.declared.declaration.Declaration.{Declaration}
use Rattle.wgsl_module.specs.declared.walk.Link.TheVariants as links
use Rattle.wgsl_module.proofs.Behind.{all_named, same_behind, same_in_turn}
use Rattle.wgsl_module.proofs.Called.{all_called}
use Rattle.wgsl_module.proofs.Runs.{names_alone}
use Rattle.wgsl_module.proofs.checker.Checker.declare_all.Goals as goal
use Rattle.wgsl_reader.specs.declared.token.Token.{Token}

-- by a text, its tokens and some declarations
abbrev Read : Type 0
Read = List ℕ × List Token × List Declaration

abbrev Behind : List ℕ → List ℕ → List Declaration → Read → Type 0
Behind cycles order ds q = IsBehind (λ i. named_from (naming q.0 q.1 (map written ds)) (slice_get (map written ds) i) 0) cycles order

abbrev InTurn : ℕ → List ℕ → List Declaration → Read → Type 0
InTurn count order ds q = IsInTurn (λ i. named_from (naming q.0 q.1 (map written ds)) (slice_get (map written ds) i) 0) 0 count order

-- all declarations are followed
as_many : (s m : Checker) (n : ℕ) → source (state m) ≡ source (state s) → n ≡ length m.declarations.items
    → (n ≡ length (map written s.declarations.items)) × (n ≤ length m.declarations.items)
as_many s m n named len =
    let same : length m.declarations.items ≡ length s.declarations.items = ap (λ (q : Read). length q.2) named in
    (omega (arith, len, same, length-map s.declarations.items written), omega (arith, len))

pub returns-clause-declarations : goal.returns-clause-declarations
returns-clause-declarations c =
    let old = state c.args.self.now in
    let ds = c.args.self.now.declarations.items in
    let m = c.name_all.new.self in
    let before = state c.give_all.new.self in
    let end = state c.declare_in.new.self in
    let order = c.in_ok-named.named.order.items in
    let cycles = cycling c.in_ok-named.named.cycles.items in
    let given = names_alone old (state m) before c.name_all.ensures.state c.give_all.ensures.state in
    let named : source (state m) ≡ source old = ap source c.name_all.ensures.state in
    let read : source before ≡ source old = ap source given in
    let all = as_many c.args.self.now m c.len-count.result named (omega (arith, c.len-count.ensures)) in
    let behind = same_behind (leads_of m links.Name) (named_by (state m).stack.context (map written m.declarations.items)) cycles order
    (all_named m c.in_ok-name_all.ensures.names) c.in_ok-named.ensures.behind in
    let turn = same_in_turn (leads_of m links.Name) (named_by (state m).stack.context (map written m.declarations.items)) 0 (length (map written ds)) order
    (all_named m c.in_ok-name_all.ensures.names) (subst (λ n. IsInTurn (leads_of m links.Name) 0 n order) all.0 (c.in_ok-named.ensures.in_turn all.1)) in
    let more = c.in_ok-give_all.ensures.declared in
    let declared = subst (λ (q : Read). AreDeclarations c.args.tokens.now (map written q.2) c.deref.result.now before end) read c.in_ok-declare_in.ensures.declarations in (
      before,
      order,
      given,
      λ name index first. c.give_all.ensures.names name index (c.in_ok-name_all.ensures.names name
          ∙ (ap (λ (q : Read). first_called q.0 q.1 (map written q.2) name) named
          ∙ (sym (ap (λ (q : Read). first_called q.0 q.1 (map written ds) name) read) ∙ first))),
      subst (λ n. HasEach 0 n order) all.0 (c.in_ok-named.ensures.each all.1),
      subst (Behind cycles order ds) (sym read) (subst (λ (q : Read). Behind cycles order q.2 q) named behind),
      subst (InTurn (length (map written ds)) order ds) (sym read) (subst (λ (q : Read). InTurn (length (map written ds)) order q.2 q) named turn),
      subst (λ o. AreDeclarations c.args.tokens.now (map written ds) o before end) c.deref.ensures.value declared,
      (more.0, more.1 ∙ ap (λ ns. ns ++ more.0) (c.in_ok-name_all.ensures.declared ∙ ap (λ (q : Read). map as_unread (map written q.2)) named)),
    )

pub returns-clause-calls : goal.returns-clause-calls
returns-clause-calls c =
    let m = c.name_all.new.self in
    let order = c.in_ok-called.called.order.items in
    let cycles = cycling c.in_ok-called.called.cycles.items in
    let named : source (state m) ≡ source (state c.args.self.now) = ap source c.name_all.ensures.state in
    let all = as_many c.args.self.now m c.len-count.result named (omega (arith, c.len-count.ensures)) in
    let behind = same_behind (leads_of m links.Call) (called_by m.expressions.text.now m.expressions.tokens.now (map written m.declarations.items)) cycles order
    (all_called m c.in_ok-name_all.ensures.names) c.in_ok-called.ensures.behind in (
      order,
      subst (λ n. HasEach 0 n order) all.0 (c.in_ok-called.ensures.each all.1),
      subst (λ (q : Read). IsBehind (called_by q.0 q.1 (map written q.2)) cycles order) named behind,
    )
