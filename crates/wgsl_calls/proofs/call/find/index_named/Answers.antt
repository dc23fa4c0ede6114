use Rattle.std.proofs.Common.{ℕ, ◌∙◌, Bor, List, arith, sym, true≢false}
use Rattle.std.proofs.lemmas.Slice.Eq.{bytes_eq-Decides}
use Rattle.wgsl_rules.specs.calls.Names.{call_names}
use Rattle.wgsl_rules.proofs.calls.FoundNames.{found, not_found, named}
use Rattle.wgsl_calls.specs.declared.call.rows.Rows.{Rows}
use Rattle.wgsl_calls.proofs.call.find.index_named.Goals as goal
use Rattle.wgsl_calls.proofs.call.find.index_named.Goals.{else-index-built_ins-via-then-index-built_ins+else-eq, else-index-built_ins-via-else-index-built_ins}

abbrev name : Bor (List ℕ) × Rows → List ℕ
name e = (e.0).now

pub returns-then-eq-clause-index : goal.returns-then-eq-clause-index
returns-then-eq-clause-index c =
    let table = c.built_ins-built_ins.result.now in
    let names = c.built_ins-built_ins.ensures.names in
    found c.places.result.now call_names c.places.ensures c.args.name.now c.index_of-index.result c.index_of-index.ensures (
      omega (arith, c.if-index-built_ins.true, c.built_ins-built_ins.ensures.many),
      named name table call_names names c.index_of-index.result _ (omega (arith, c.if-index-built_ins.true)) ∙ (bytes_eq-Decides _ _).0 (sym c.eq.ensures ∙ c.if-eq.true),
    )

pub returns-else-index-built_ins-clause-index : goal.returns-else-index-built_ins-clause-index
returns-else-index-built_ins-clause-index c =
    let table = c.built_ins-built_ins.result.now in
    let names = c.built_ins-built_ins.ensures.names in
    not_found c.places.result.now call_names c.places.ensures c.args.name.now c.index_of-index.result c.index_of-index.ensures
    (λ at. elim c.else-index-built_ins.branch [
      | else-index-built_ins-via-then-index-built_ins+else-eq w ↦
          true≢false (sym ((bytes_eq-Decides _ _).1 (sym (named name table call_names names c.index_of-index.result _ (omega (arith, w.if-index-built_ins.true))) ∙ at.1)) ∙ (sym w.eq.ensures ∙ w.if-eq.false))
      | else-index-built_ins-via-else-index-built_ins w ↦ omega (arith, w.if-index-built_ins.false, at.0, c.built_ins-built_ins.ensures.many)
    ])
