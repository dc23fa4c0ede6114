use Rattle.std.proofs.Common.{arith, sym, ◌∙◌, true≢false}
use Rattle.wgsl_standard.proofs.Common.{bytes_eq-Decides, evaluation_of, function_of, function_table, evaluation_table}
use Rattle.wgsl_standard.proofs.Search.{found, not_found}
use Rattle.wgsl_standard.proofs.names.find_row.Goals as goal
use Rattle.wgsl_standard.proofs.names.find_row.Goals.{else-index-functions-via-then-index-functions+else-eq, else-index-functions-via-else-index-functions}

pub returns-then-eq-clause-overloads : goal.returns-then-eq-clause-overloads
returns-then-eq-clause-overloads c =
    sym (found function_of c.functions-functions.result.now function_table c.functions-functions.ensures.rows c.places.result.now c.places.ensures.functions c.args.name.now
    c.index_of-index.result c.index_of-index.ensures _ (omega (arith, c.if-index-functions.true)) ((bytes_eq-Decides _ _).0 (sym c.eq.ensures ∙ c.if-eq.true)))

pub returns-then-eq-clause-evaluation : goal.returns-then-eq-clause-evaluation
returns-then-eq-clause-evaluation c =
    sym (found evaluation_of c.functions-functions.result.now evaluation_table c.functions-functions.ensures.evaluations c.places.result.now c.places.ensures.evaluations c.args.name.now
    c.index_of-index.result c.index_of-index.ensures _ (omega (arith, c.if-index-functions.true)) ((bytes_eq-Decides _ _).0 (sym c.eq.ensures ∙ c.if-eq.true)))

pub returns-else-index-functions-clause-overloads : goal.returns-else-index-functions-clause-overloads
returns-else-index-functions-clause-overloads c =
    sym (not_found function_of c.functions-functions.result.now function_table c.functions-functions.ensures.rows c.places.result.now c.places.ensures.functions c.args.name.now
    c.index_of-index.result c.index_of-index.ensures _
    (λ b at. elim c.else-index-functions.branch [
      | else-index-functions-via-then-index-functions+else-eq w ↦ true≢false (sym ((bytes_eq-Decides _ _).1 at) ∙ (sym w.eq.ensures ∙ w.if-eq.false))
      | else-index-functions-via-else-index-functions w ↦ omega (arith, w.if-index-functions.false, b)
    ]))

pub returns-else-index-functions-clause-evaluation : goal.returns-else-index-functions-clause-evaluation
returns-else-index-functions-clause-evaluation c =
    sym (not_found evaluation_of c.functions-functions.result.now evaluation_table c.functions-functions.ensures.evaluations c.places.result.now c.places.ensures.evaluations c.args.name.now
    c.index_of-index.result c.index_of-index.ensures _
    (λ b at. elim c.else-index-functions.branch [
      | else-index-functions-via-then-index-functions+else-eq w ↦ true≢false (sym ((bytes_eq-Decides _ _).1 at) ∙ (sym w.eq.ensures ∙ w.if-eq.false))
      | else-index-functions-via-else-index-functions w ↦ omega (arith, w.if-index-functions.false, b)
    ]))
