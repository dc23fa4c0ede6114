use Rattle.std.proofs.Common.{◌∙◌, ◌++◌, sym, ap, codes, decimal}
use Rattle.wgsl_standard.proofs.CommonForms.{has_written_of_eq, wgsl_spelling, refusal_text, refusal_view, unbuilt_view}
use Rattle.wgsl_core.proofs.Listed.{two_placed, three_placed}
use Rattle.wgsl_standard.proofs.forms.refusal.RefusalDisplay.fmt.Goals as goal

pub returns-in-Component-clause-writes : goal.returns-in-Component-clause-writes
returns-in-Component-clause-writes g c = λ plain ok.
    has_written_of_eq _ _ _ _ _
    (two_placed (codes "`") (wgsl_spelling (unbuilt_view c.in-Component.t)) (codes "` has no component `") c.in-Component.name.now (codes "`") ∙ ap (λ e. refusal_text (refusal_view e)) (sym c.in-Component.is))
    (c.write.ensures.writes plain ok)

pub returns-in-NotInSpace-clause-writes : goal.returns-in-NotInSpace-clause-writes
returns-in-NotInSpace-clause-writes g c = λ plain ok.
    has_written_of_eq _ _ _ _ _
    (two_placed (codes "a variable in the address space `") c.name_by-space.result.now (codes "` cannot hold a `") (wgsl_spelling (unbuilt_view c.in-NotInSpace.t)) (codes "`")
    ∙ ap (λ name. codes "a variable in the address space `" ++ name ++ codes "` cannot hold a `" ++ wgsl_spelling (unbuilt_view c.in-NotInSpace.t) ++ codes "`") c.name_by-space.ensures
    ∙ ap (λ e. refusal_text (refusal_view e)) (sym c.in-NotInSpace.is))
    (c.write-in-NotInSpace.ensures.writes plain ok)

pub returns-in-WriteRefType-clause-writes : goal.returns-in-WriteRefType-clause-writes
returns-in-WriteRefType-clause-writes g c = λ plain ok.
    has_written_of_eq _ _ _ _ _
    (two_placed (codes "cannot write a `") (wgsl_spelling (unbuilt_view c.in-WriteRefType.n)) (codes "` to a reference to `") (wgsl_spelling (unbuilt_view c.in-WriteRefType.t)) (codes "`") ∙ ap (λ e. refusal_text (refusal_view e)) (sym c.in-WriteRefType.is))
    (c.write-in-WriteRefType.ensures.writes plain ok)

pub returns-in-ParamCount-clause-writes : goal.returns-in-ParamCount-clause-writes
returns-in-ParamCount-clause-writes g c = λ plain ok.
    has_written_of_eq _ _ _ _ _
    (three_placed (codes "incorrect number of arguments to `") c.in-ParamCount.name.now (codes "`, expected `") (decimal c.in-ParamCount.expected) (codes "`, got `") (decimal c.in-ParamCount.n) (codes "`") ∙ ap (λ e. refusal_text (refusal_view e)) (sym c.in-ParamCount.is))
    (c.write-in-ParamCount.ensures.writes plain ok)
