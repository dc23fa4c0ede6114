use Rattle.wgsl_source.specs.Declarations.{no_attribute}
use Rattle.wgsl_source.proofs.Attributes.{all_read_now, none_read_yet, one_more_read}
use Rattle.wgsl_source.proofs.Declarations.{behind_one_more}
use Rattle.wgsl_source.specs.WrittenTypes.{meaning_of}
use Rattle.wgsl_source.proofs.scope.Scope.read_attributes.Goals as goal

pub loop-split-init : goal.loop-split-init
loop-split-init c = record { behind = λ rest h. h; read = none_read_yet c.args.self.now.text (meaning_of c.args.self.now) c.args.events.now c.none-attributes.result (c.none-attributes.ensures c.args.self.now.text (meaning_of c.args.self.now)) }

pub loop-split-preserved : goal.loop-split-preserved
loop-split-preserved c =
    let l = c.loop-split in
    let split = c.in-Some.ensures.exact in
    record {
      behind = behind_one_more c.args.events.now l.rest.now c.in-Some.split.rest.now split.0 split.2 l.invariant.behind;
      read = one_more_read c.args.self.now.text (meaning_of c.args.self.now) c.args.events.now l.rest.now l.attributes l.invariant.read c.in-Some.split.front.now c.in-Some.split.rest.now c.read_attribute.new.attributes split.0 split.1 split.2 c.in_ok-read_attribute.ensures;
    }

pub returns-clause-behind : goal.returns-clause-behind
returns-clause-behind c = c.loop-split.invariant.behind c.loop-split.rest.now (no_attribute c.in_default.ensures.exact)

pub returns-clause-read : goal.returns-clause-read
returns-clause-read c = let l = c.loop-split in all_read_now c.args.self.now.text (meaning_of c.args.self.now) c.args.events.now l.rest.now l.attributes l.invariant.read c.in_default.ensures.exact
