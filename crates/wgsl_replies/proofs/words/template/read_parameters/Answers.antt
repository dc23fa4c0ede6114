use Rattle.wgsl_replies.proofs.Common.{◌≡◌, ◌∷◌, ◌++◌, [], map, subst, sym, ap, ◌∙◌, rules, map-append, bytes_eq-Decides, parameter_view}
use Rattle.wgsl_replies.specs.words.Templates.{parameter_from}
use Rattle.wgsl_replies.proofs.Reading.{Part, part_end, part_missing, part_next, part_none, part_start, missed}
use Rattle.wgsl_replies.proofs.words.template.read_parameters.Goals as goal

pub loop-word-init : goal.loop-word-init
loop-word-init c = let none : map parameter_view c.new-parameters.result.items ≡ [] = search rules in subst (λ ps. Part c.args.words.now ps c.args.words.now) (sym none) (part_start c.args.words.now)

pub loop-word-preserved : goal.loop-word-preserved
loop-word-preserved c =
    let parameter = c.in_ok-read_parameter.field-0 in
    let pushed : c.push.new.self.items ≡ c.loop-word.parameters.items ++ parameter ∷ [] = search rules in
    part_next _ _ _ c.loop-word.invariant _ _ c.in-Ok.ensures.read (parameter_view parameter) _ _ (λ e. cc (c.if-eq.ensures ∙ (bytes_eq-Decides _ _).1 e)) c.in_ok-read_parameter.ensures.read c.in_ok-read_parameter.ensures.shorter
    (ap (map parameter_view) pushed ∙ map-append parameter_view c.loop-word.parameters.items (parameter ∷ []))

pub returns-then-eq : goal.returns-then-eq
returns-then-eq c = part_end _ _ _ c.loop-word.invariant _ _ c.in-Ok.ensures.read ((bytes_eq-Decides _ _).0 (sym c.if-eq.ensures))

pub returns-in_err-read_parameter : goal.returns-in_err-read_parameter
returns-in_err-read_parameter c =
    missed (λ ps. map parameter_view ps.items) (parameter_from c.in-Ok.word.now c.next.new.self) _ _ c.from_residual.ensures.1 c.in_err-read_parameter.ensures.read _ _
    (part_none _ _ _ c.loop-word.invariant _ _ c.in-Ok.ensures.read (λ e. cc (c.if-eq.ensures ∙ (bytes_eq-Decides _ _).1 e)))

pub returns : goal.returns
returns c = part_missing _ _ _ c.loop-word.invariant c.in_default.ensures.none
