use Rattle.std.proofs.Common.{refl}
use Rattle.wgsl_lines.proofs.Taken.{part_none, part_line, part_last, part_stops}
use Rattle.wgsl_lines.proofs.run.Session.take.Goals as goal

pub loop-end-init : goal.loop-end-init
loop-end-init c = λ bytes before taken. part_none _ bytes before _ _ taken

pub loop-end-preserved : goal.loop-end-preserved
loop-end-preserved c = λ bytes before taken.
    let found = c.in-Some.ensures in
    part_line _ bytes before _ _ _ (c.loop-end.invariant bytes before taken) _ c.in-Some.end.now c.in-Some.after.now c.in_ok-end_line.ensures.answered found.0 found.1
    c.in_ok-end_line.ensures.empty c.in_ok-end_line.ensures.number

pub returns-in_err-end_line-clause-so_far : goal.returns-in_err-end_line-clause-so_far
returns-in_err-end_line-clause-so_far c = λ bytes before taken.
    part_stops _ bytes before _ _ c.loop-end.self (c.loop-end.invariant bytes before taken) c.end_line.new.self c.in_err-end_line.ensures.err

pub returns-clause-taken : goal.returns-clause-taken
returns-clause-taken c = λ bytes before taken.
    part_last _ bytes before _ _ _ (c.loop-end.invariant bytes before taken) _ c.in_default.ensures
    (record { kept = c.extend.ensures.gathered; number = c.extend.ensures.number; answers = refl; all_readable = refl })

pub returns-clause-so_far : goal.returns-clause-so_far
returns-clause-so_far c = λ bytes before taken.
    part_stops _ bytes before _ _ c.loop-end.self (c.loop-end.invariant bytes before taken) c.loop-end.self refl
