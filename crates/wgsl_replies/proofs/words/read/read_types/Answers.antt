use Rattle.wgsl_replies.proofs.Common.{◌≡◌, ◌∷◌, ◌++◌, [], map, subst, sym, ap, ◌∙◌, rules, map-append, view, type_at, type_from}
use Rattle.wgsl_replies.proofs.Reading.{Half, all_start, half_end, half_next, half_none, none_given}
use Rattle.wgsl_replies.proofs.words.read.read_types.Goals as goal

pub loop-word-init : goal.loop-word-init
loop-word-init c = let none : map view c.in_ok-types.types.items ≡ [] = search rules in subst (λ ts. Half c.args.words.now ts c.args.words.now) (sym none) (all_start c.args.words.now)

pub loop-word-preserved : goal.loop-word-preserved
loop-word-preserved c =
    let ty = c.in_ok-read_type_at.field-0 in
    let pushed : c.push.new.self.items ≡ c.loop-word.types.items ++ ty ∷ [] = search rules in
    half_next _ _ _ c.loop-word.invariant _ _ (view ty) _ _ c.in-Ok.ensures.read c.in_ok-read_type_at.ensures.read c.in_ok-read_type_at.ensures.shorter
    (ap (map view) pushed ∙ map-append view c.loop-word.types.items (ty ∷ []))

pub returns-in_err-read_type_at : goal.returns-in_err-read_type_at
returns-in_err-read_type_at c =
    none_given _ (type_from type_at c.in-Ok.word.now c.next.new.self) _ _ c.from_residual-in_err-read_type_at.ensures.1 c.in_err-read_type_at.ensures.read _
    (half_none _ _ _ c.loop-word.invariant _ _ c.in-Ok.ensures.read)

pub returns : goal.returns
returns c = half_end _ _ _ c.loop-word.invariant c.in_default.ensures.none
