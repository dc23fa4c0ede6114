use Rattle.wgsl_core.proofs.layout.placing.Placing.place.Goals as goal

pub returns-in-None-clause-offset : goal.returns-in-None-clause-offset
returns-in-None-clause-offset c = c.in-None.ensures.offset

pub returns-in-None-clause-end : goal.returns-in-None-clause-end
returns-in-None-clause-end c = c.in-None.ensures.end
