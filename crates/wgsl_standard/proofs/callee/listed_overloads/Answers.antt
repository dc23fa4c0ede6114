use Rattle.std.proofs.Common.{subst, sym, Some, option_map}
use Rattle.wgsl_standard.specs.Callees.{callee_view}
use Rattle.wgsl_standard.proofs.NamedTables.{IfTable, few, listed_table}
use Rattle.wgsl_standard.proofs.callee.listed_overloads.Goals as goal

pub returns-in-Some-clause-few : goal.returns-in-Some-clause-few
returns-in-Some-clause-few c = few (option_map (λ o. o.now) (Some c.in-Some.overloads))
    (subst (λ r. IfTable (option_map (λ o. o.now) r)) c.in-Some.is (subst IfTable (sym c.overloads.ensures.row) (listed_table (callee_view c.args.callee) c.args.has_template)))
