-- How the rules see what a name stands for.
use Rattle.wgsl_core.specs.View.{view}
use Rattle.wgsl_standard.specs.forms.Member.{Part, a_member, a_component, components}
use Rattle.wgsl_standard.specs.forms.Views.{element_view}
use Rattle.wgsl_standard.specs.declared.forms.member.Part.{Part as CodePart}
use Rattle.wgsl_standard.specs.declared.forms.member.Part.TheVariants as parts

abbrev pub part_view : CodePart → Part
part_view (parts.Member t) = a_member (view t.now)
part_view (parts.Component e) = a_component (element_view e)
part_view (parts.Components k e) = components k (element_view e)
