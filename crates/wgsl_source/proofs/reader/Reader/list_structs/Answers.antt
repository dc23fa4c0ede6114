use Rattle.std.proofs.Common.{rules}
use Rattle.std.proofs.lemmas.Slice.Zip.{either_empty_from_Zip}
use Rattle.wgsl_source.proofs.Meanings.{all_listed, none_yet, one_listed}
use Rattle.wgsl_source.specs.WrittenTypes.{environment}
use Rattle.wgsl_source.proofs.reader.Reader.list_structs.Goals as goal

pub loop-declaration-init : goal.loop-declaration-init
loop-declaration-init c = λ meant.
    let r = c.args.self.now in
    none_yet r.scope.text (environment r.scope r.types) r.structs.items c.args.declarations.now _ r.scope.meanings.items _ c.none-listed.result (search rules) (search rules) meant c.none-listed.ensures.in_text c.none-listed.ensures.left_out

pub loop-declaration-preserved : goal.loop-declaration-preserved
loop-declaration-preserved c = λ meant.
    let r = c.args.self.now in
    let l = c.loop-declaration in
    one_listed r.scope.text (environment r.scope r.types) r.structs.items c.args.declarations.now _ _ _ _ c.in-Some.declaration.now c.in-Some.meaning.now l.listed c.list.new.self c.in-Some.ensures.steps.0
    c.in-Some.ensures.steps.1 (c.in_ok-list.ensures r.scope.text (environment r.scope r.types) r.structs.items) (l.invariant meant)

pub returns : goal.returns
returns c = λ meant.
    let r = c.args.self.now in
    let l = c.loop-declaration in
    all_listed r.scope.text (environment r.scope r.types) r.structs.items c.args.declarations.now _ _ l.listed
    (either_empty_from_Zip l.declaration-iterator c.next.new.self c.next.result c.in-None.is c.next.ensures.steps) (l.invariant meant)
