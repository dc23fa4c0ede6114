use Rattle.std.proofs.Common.{Option, Some, drop, map}
use Rattle.wgsl_standard.proofs.CommonForms.{WgslType, IsFoldedFrom, given_type, types_given, referred}
use Rattle.wgsl_standard.proofs.forms.array.common_element.Given as goal

-- the rest gives from here the same as the whole
abbrev pub invariant-loop-value : goal.invariant-loop-value
invariant-loop-value l = (r : Option WgslType) →
    IsFoldedFrom (Some (given_type l.common)) (map referred (types_given (drop l.value-index l.rest))) r →
    IsFoldedFrom (Some (given_type l.initial.common)) (map referred (types_given l.rest)) r
