use Rattle.wgsl_standard.proofs.Loads.{loads_it, unreadable, loads_nothing}
use Rattle.wgsl_standard.proofs.forms.convert.loads_layer.Goals as goal

pub returns-then-is_read : goal.returns-then-is_read
returns-then-is_read c = loads_it _ _ _ _ _ _ _ c.in-Reference.ensures (c.is_read.ensures.0 c.if-is_read.true) c.has_layer.ensures

pub returns-else-is_read : goal.returns-else-is_read
returns-else-is_read c = unreadable _ _ _ _ _ _ _ c.in-Reference.ensures c.if-is_read.false c.is_read.ensures

pub returns-in_default : goal.returns-in_default
returns-in_default c = loads_nothing _ _ _ c.requires c.form.ensures c.in_default.not-Reference
