use Rattle.std.proofs.Common.{arith, sym, rules, ℕ, ◌<◌, ◌*◌, length}
use mir.Val.{Fits}
use mir.Syntax.{w64}
use Rattle.wgsl_rules.specs.calls.Names.{call_names}
use Rattle.wgsl_rules.proofs.calls.UnlistedNames.{nameless, rows_at}
use Rattle.wgsl_calls.specs.internal.Rows.{rows_view}
use Rattle.wgsl_calls.proofs.call.find.rows_of.Goals as goal

pub returns-in-Some : goal.returns-in-Some
returns-in-Some c =
    let at = (c.find_call.ensures.index c.in-Some.index).0 c.in-Some.is in
    rows_at (λ e. rows_view e.1) c.built_ins.result.now c.args.name.now c.in-Some.index _ c.built_ins.ensures.rows
    (omega (arith, at.0, c.built_ins.ensures.many)) at

pub returns-in-None : goal.returns-in-None
returns-in-None c = sym (nameless c.args.name.now (λ i at. let e = (c.find_call.ensures.index i).1 at in cc (c.in-None.is, e)))

pub bounds-built_ins-index : goal.bounds-built_ins-index
bounds-built_ins-index c =
    let at = (c.find_call.ensures.index c.in-Some.index).0 c.in-Some.is in
    omega (arith, at.0, c.built_ins.ensures.many)

pub offset_bounds-built_ins-index : goal.offset_bounds-built_ins-index
offset_bounds-built_ins-index c =
    few_names c.in-Some.index ((c.find_call.ensures.index c.in-Some.index).0 c.in-Some.is).0
  where
    few_names : (i : ℕ) → i < length call_names → Fits w64 (i * 56)
    few_names i b = search rules
