use Rattle.std.proofs.Common.{ap, refl, map, rules, ◌∙◌}
use Rattle.wgsl_reader.proofs.Common.{ReadsModule, declaration_len, kind_of, outcome_of}
use Rattle.wgsl_reader.proofs.Declarations.{all_read, one_more}
use Rattle.wgsl_reader.proofs.module.read_module.Goals as goal

pub loop-at-preserved : goal.loop-at-preserved
loop-at-preserved c = let now = c.loop-at.«module» in (
  search rules,
  refl,
  one_more (ReadsModule (map kind_of c.args.tokens.now)) c.args.tokens.now c.loop-at.leading c.loop-at.at now.events.items now.misread.items c.loop-at.invariant.2 _ c.loop-at-test.true
      c.declaration_len.result (c.declaration_len.ensures.exact ∙ ap (λ ts. declaration_len (map kind_of ts)) c.from.ensures.rest) c.rule_of-rule.result c.rule_of-rule.ensures
      (outcome_of (λ v. v.items) c.in_ok-outcome.outcome) c.in_ok-outcome.ensures c.add.new.self.events.items c.add.new.self.misread.items c.in_ok-add.ensures.events c.in_ok-add.ensures.misread
      c.behind_directive-leading.result c.behind_directive-leading.ensures,
)

pub returns : goal.returns
returns c = let now = c.loop-at.«module» in
    all_read (ReadsModule (map kind_of c.args.tokens.now)) c.args.tokens.now c.loop-at.leading c.loop-at.at now.events.items now.misread.items c.loop-at.invariant.2 c.loop-at-test.false
