use Rattle.std.proofs.Common.{◌≡◌, ℕ, List, ◌∷◌, [], ◌++◌, ◌+◌, ◌<◌, None, Some, drop, length, map, refl, sym, ap, ◌∙◌, rules, arith}
use Rattle.wgsl_reader.proofs.Common.{production, Outcome, ReadAt, kind_of, next_kind, Rule, Token, below}
use Rattle.wgsl_reader.specs.declared.grammar.Symbol.TheVariants.{Rule as rule, Mark as note, Token as token}
use Rattle.wgsl_reader.proofs.Frames.{below_pushed}
use Rattle.wgsl_reader.proofs.Steps.{all_taken, frame_taken, mark_noted, rule_missing, rule_opened, some_left_over, token_missing, token_taken}
use Rattle.wgsl_reader.proofs.Weights.{marked, opened, popped}
use Rattle.wgsl_reader.proofs.read.read.Goals as goal

-- what is to be shown of what is read
abbrev whole : Rule → ℕ → List Token → Outcome → Type 0
whole start from tokens r = ReadAt (rule start ∷ []) from (map kind_of (drop from tokens)) r

pub returns-in-None-pop : goal.returns-in-None-pop
returns-in-None-pop c =
    let now = c.loop-frames-2 in
    let no_more : now.frames.items ≡ [] = search rules in
    all_taken (whole c.args.start c.args.from c.args.tokens.now) now.symbols.now (below now.frames.items []) c.args.tokens.now now.events.items c.loop-frames.at now.invariant.3
    c.in-None.ensures (ap (λ frames. below frames []) no_more) (search rules)

pub returns-in-None-2 : goal.returns-in-None-2
returns-in-None-2 c =
    let now = c.loop-frames-2 in
    let no_more : now.frames.items ≡ [] = search rules in
    some_left_over (whole c.args.start c.args.from c.args.tokens.now) now.symbols.now (below now.frames.items []) c.args.tokens.now now.events.items c.loop-frames.at now.invariant.3
    c.in-None.ensures (ap (λ frames. below frames []) no_more) (search rules)

pub returns-in_default : goal.returns-in_default
returns-in_default c =
    let now = c.loop-frames-2 in
    let e : now.symbols.now ≡ rule c.in-Rule.rule ∷ c.in-Some.rest.now = c.in-Some.ensures ∙ ap (λ symbol. symbol ∷ c.in-Some.rest.now) c.in-Rule.is in
    let none : production c.in-Rule.rule (next_kind (map kind_of (drop c.loop-frames.at c.args.tokens.now))) ≡ None = sym (c.in_default.ensures ∙ ap (production c.in-Rule.rule) now.invariant.2) in
    rule_missing (whole c.args.start c.args.from c.args.tokens.now) now.symbols.now (below now.frames.items []) c.args.tokens.now now.events.items c.loop-frames.at now.invariant.3
    c.in-Rule.rule c.in-Some.rest.now e none

pub loop-frames-2-smaller-in-Some-pop : goal.loop-frames-2-smaller-in-Some-pop
loop-frames-2-smaller-in-Some-pop c = popped c.loop-frames-2.symbols.now c.in-Some-pop.frame c.loop-frames-2.frames.items c.pop.new.self.items c.in-None.ensures (search rules)

pub loop-frames-2-smaller-in-Mark : goal.loop-frames-2-smaller-in-Mark
loop-frames-2-smaller-in-Mark c =
    marked c.loop-frames-2.symbols.now c.in-Some.rest.now c.in-Mark.mark c.loop-frames-2.frames.items
    (c.in-Some.ensures ∙ ap (λ symbol. symbol ∷ c.in-Some.rest.now) c.in-Mark.is)

pub loop-frames-2-smaller : goal.loop-frames-2-smaller
loop-frames-2-smaller c =
    opened c.loop-frames-2.symbols.now c.in-Some-production.of_rule.now c.in_ok-symbols-in-Rule.symbols.now c.in-Rule.rule c.next_kind-next.result c.in-Some.rest.now c.loop-frames-2.frames.items
    c.in_front.new.frames.items (c.in-Some.ensures ∙ ap (λ symbol. symbol ∷ c.in-Some.rest.now) c.in-Rule.is) (sym c.in-Some-production.ensures) c.in_ok-symbols-in-Rule.ensures.all
    c.in_ok-symbols-in-Rule.ensures.few

pub loop-frames-2-preserved-in-Some-pop : goal.loop-frames-2-preserved-in-Some-pop
loop-frames-2-preserved-in-Some-pop c =
    let now = c.loop-frames-2 in
    let last = below now.frames.items [] in
    let rest = below c.pop.new.self.items [] in
    let frame = c.in-Some-pop.frame in
    let items : now.frames.items ≡ c.pop.new.self.items ++ frame ∷ [] = search rules in
    let e : last ≡ frame.now ++ rest = ap (λ frames. below frames []) items ∙ below_pushed c.pop.new.self.items frame [] in (
      search rules,
      refl,
      now.invariant.2,
      λ r h. frame_taken (whole c.args.start c.args.from c.args.tokens.now) now.symbols.now last c.args.tokens.now now.events.items c.loop-frames.at now.invariant.3 frame.now rest c.loop-frames.at
          now.events.items r h c.in-None.ensures e refl refl,
    )

pub loop-frames-2-preserved-in-Mark : goal.loop-frames-2-preserved-in-Mark
loop-frames-2-preserved-in-Mark c =
    let now = c.loop-frames-2 in
    let last = below now.frames.items [] in
    let e : now.symbols.now ≡ note c.in-Mark.mark ∷ c.in-Some.rest.now = c.in-Some.ensures ∙ ap (λ symbol. symbol ∷ c.in-Some.rest.now) c.in-Mark.is in (
      search rules,
      refl,
      now.invariant.2,
      λ r h. mark_noted (whole c.args.start c.args.from c.args.tokens.now) now.symbols.now last c.args.tokens.now now.events.items c.loop-frames.at now.invariant.3 c.in-Some.rest.now last
          c.loop-frames.at c.push.new.self.items r h c.in-Mark.mark e refl refl (search rules),
    )

pub loop-frames-2-preserved : goal.loop-frames-2-preserved
loop-frames-2-preserved c =
    let now = c.loop-frames-2 in
    let named = c.in-Rule.rule in
    let e : now.symbols.now ≡ rule named ∷ c.in-Some.rest.now = c.in-Some.ensures ∙ ap (λ symbol. symbol ∷ c.in-Some.rest.now) c.in-Rule.is in
    let found : production named (next_kind (map kind_of (drop c.loop-frames.at c.args.tokens.now))) ≡ Some c.in-Some-production.of_rule.now
    = sym (c.in-Some-production.ensures ∙ ap (production named) now.invariant.2) in (
      search rules,
      refl,
      now.invariant.2,
      λ r h. rule_opened (whole c.args.start c.args.from c.args.tokens.now) now.symbols.now (below now.frames.items []) c.args.tokens.now now.events.items c.loop-frames.at now.invariant.3
          c.in_ok-symbols-in-Rule.symbols.now (below c.in_front.new.frames.items []) c.loop-frames.at now.events.items r h named c.in-Some.rest.now c.in-Some-production.of_rule.now e found
          c.in_ok-symbols-in-Rule.ensures.all refl refl,
    )

pub returns-then-not-is_next : goal.returns-then-not-is_next
returns-then-not-is_next c =
    let now = c.loop-frames-2 in
    let e : now.symbols.now ≡ token c.in-Token.kind ∷ c.in-Some.rest.now = c.in-Some.ensures ∙ ap (λ symbol. symbol ∷ c.in-Some.rest.now) c.in-Token.is in
    token_missing (whole c.args.start c.args.from c.args.tokens.now) now.symbols.now (below now.frames.items []) c.args.tokens.now now.events.items c.loop-frames.at now.invariant.3 c.in-Token.kind
    c.in-Some.rest.now e (c.if-not-is_next.ensures.other (search rules))

pub loop-frames-preserved : goal.loop-frames-preserved
loop-frames-preserved c =
    let now = c.loop-frames-2 in
    let last = below now.frames.items [] in
    let kind = c.in-Token.kind in
    let e : now.symbols.now ≡ token kind ∷ c.in-Some.rest.now = c.in-Some.ensures ∙ ap (λ symbol. symbol ∷ c.in-Some.rest.now) c.in-Token.is in
    let within : c.loop-frames.at < length c.args.tokens.now = c.if-not-is_next.ensures.within (search rules) in
    let taken : map kind_of (drop c.loop-frames.at c.args.tokens.now) ≡ kind ∷ map kind_of (drop (c.loop-frames.at + 1) c.args.tokens.now) = c.if-not-is_next.ensures.taken (search rules) in (
      omega (arith, within),
      refl,
      λ r h. token_taken (whole c.args.start c.args.from c.args.tokens.now) now.symbols.now last c.args.tokens.now now.events.items c.loop-frames.at now.invariant.3 c.in-Some.rest.now last
          (c.loop-frames.at + 1) now.events.items r h kind e refl taken refl refl,
    )
