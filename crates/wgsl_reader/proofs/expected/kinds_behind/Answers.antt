use Rattle.std.proofs.Common.{◌≡◌, ◌∷◌, ◌++◌, [], List, rules, refl, map, subst, sym, All}
use Rattle.std.proofs.lemmas.List.Elements.{All-push}
use Rattle.wgsl_reader.proofs.Common.{MayStand, kind_of, Rule, Kind, Token}
use Rattle.wgsl_reader.proofs.expected.kinds_behind.Goals as goal

one_more : (rule : Rule) (tokens tried : List Token) (found more : List Kind) (kind : Kind) → more ≡ found ++ kind ∷ [] → tried ≡ tokens → All (MayStand rule (map kind_of tokens)) found
    → MayStand rule (map kind_of tried) kind → All (MayStand rule (map kind_of tokens)) more
one_more rule tokens tried found more kind e same before holds =
    subst (All (MayStand rule (map kind_of tokens))) (sym e)
    (All-push (MayStand rule (map kind_of tokens)) found kind before (subst (λ ts. MayStand rule (map kind_of ts) kind) same holds))

pub loop-kind-preserved : goal.loop-kind-preserved
loop-kind-preserved c = (
  refl,
  refl,
  search rules,
  one_more c.args.rule c.args.tokens.now c.loop-kind.tried.items c.loop-kind.found.items c.push.new.self.items _ c.in_ok-push.ensures.items c.loop-kind.invariant.2 c.loop-kind.invariant.3
      (c.in_ok-may_stand.ensures.stands (search rules)),
)
