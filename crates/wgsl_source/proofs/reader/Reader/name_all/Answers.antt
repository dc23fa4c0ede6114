use Rattle.std.proofs.Common.{refl, subst, sym, ◌∙◌}
use Rattle.wgsl_source.specs.internal.Read.{AreMeantBy, IsNothing}
use Rattle.std.proofs.lemmas.Option.{slice_get-get_or}
use Rattle.wgsl_source.proofs.Meanings.{all_unread, none_are}
use Rattle.wgsl_source.specs.WrittenTypes.{environment}
use Rattle.wgsl_source.proofs.reader.Reader.name_all.Goals as goal

pub loop-index-init : goal.loop-index-init
loop-index-init c =
    let ds = c.args.declarations.now in
    let unread = c.in_ok-unread.ensures.items_if_clones_equal (λ y same. same) in
    ((refl, refl, refl), subst (λ ms. AreMeantBy IsNothing ds ms) (sym unread) (all_unread ds), λ are. are)

pub loop-index-preserved : goal.loop-index-preserved
loop-index-preserved c =
    let l = c.loop-index in
    let same = c.name.ensures.same in
    ((same.0 ∙ l.invariant.0.0, same.1 ∙ l.invariant.0.1, same.2 ∙ l.invariant.0.2), c.name.ensures.none c.args.declarations.now l.invariant.1, λ are. c.in_ok-name.ensures.named c.args.declarations.now (slice_get-get_or c.args.declarations.now l.index _ c.loop-index-test.true) (l.invariant.2 are))

pub returns-clause-meant : goal.returns-clause-meant
returns-clause-meant c =
    let r = c.loop-index.self in
    none_are r.scope.text (environment r.scope r.types) r.structs.items c.loop-index.invariant.1
