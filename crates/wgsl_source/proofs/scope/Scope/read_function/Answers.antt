use Rattle.std.proofs.Common.{refl, ◌∙◌}
use Rattle.wgsl_source.proofs.scope.Scope.read_function.Goals as goal

pub returns-in-Some : goal.returns-in-Some
returns-in-Some c =
    let read = c.in_ok-attributes.ensures.read in
    record { stands = record { name = refl; place = refl; attributes = read.attributes; there = read.there }; stage = read.say.stage_said ∙ c.in-Some.is; workgroup_size = read.say.workgroup_size }

pub returns-in-None : goal.returns-in-None
returns-in-None c =
    let read = c.in_ok-attributes.ensures.read in
    record { attributes = read.attributes; there = read.there; none = read.say.stage_said ∙ c.in-None.is }
