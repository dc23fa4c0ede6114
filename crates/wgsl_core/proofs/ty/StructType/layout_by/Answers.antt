use Rattle.wgsl_core.proofs.Layouts.{has_size, has_align, whole_layout}
use Rattle.wgsl_core.proofs.ty.StructType.layout_by.Goals as goal

pub unwrap-align-requires : goal.unwrap-align-requires
unwrap-align-requires c = has_align c.args.self.now c.measure-whole.result c.in-Some.size c.measure-whole.ensures c.in-Some.is

pub placed_members-requires : goal.placed_members-requires
placed_members-requires c = has_size c.args.self.now c.measure-whole.result c.in-Some.size c.measure-whole.ensures c.in-Some.is

pub returns-clause-layout : goal.returns-clause-layout
returns-clause-layout c =
    whole_layout c.args.self.now c.measure-whole.result c.in-Some.size c.unwrap-align.result c.in_ok-members.members.items
    c.measure-whole.ensures c.in-Some.is c.unwrap-align.ensures c.in_ok-members.ensures
