-- Shapes and arguments, side by side.
use Rattle.std.proofs.Common.{◌≡◌, List, [], ◌∷◌, length, map, Bool, true, Option, Some, None, is_some, option_map, refl, sym, ◌∙◌, arith, ◌↔◌, IsTrue}
use Rattle.wgsl_calls.proofs.Common.{length-map, WgslType, AllAre, BeginAs, view, «Type»}
use Rattle.wgsl_syntax.specs.declared.call.Shape.{Shape}

begins_whole : (ss : List Shape) (ts : List WgslType) → length ts ≡ length ss → BeginAs ss ts → AllAre ss ts
begins_whole [] [] e h = tt
begins_whole [] (t ∷ ts) e h = absurd (omega arith)
begins_whole (s ∷ ss) [] e h = absurd h
begins_whole (s ∷ ss) (t ∷ ts) e h = (h.0, begins_whole ss ts (omega arith) h.1)

whole_begins : (ss : List Shape) (ts : List WgslType) → AllAre ss ts → (length ts ≡ length ss) × BeginAs ss ts
whole_begins [] [] h = (refl, tt)
whole_begins [] (t ∷ ts) h = absurd h
whole_begins (s ∷ ss) [] h = absurd h
whole_begins (s ∷ ss) (t ∷ ts) h = let k = whole_begins ss ts h.1 in (omega (arith, k.0), (h.0, k.1))

-- all arguments have their shapes exactly if they are as many and the first ones have theirs
pub as_many : (ss : List Shape) (ts : List «Type») → AllAre ss (map view ts) ↔ (length ts ≡ length ss) × BeginAs ss (map view ts)
as_many ss ts = (
  λ h. let k = whole_begins ss (map view ts) h in (sym (length-map ts view) ∙ k.0, k.1),
  λ h. begins_whole ss (map view ts) (length-map ts view ∙ h.0) h.1,
)

pub none_or_some : {A B : Type 0} (f : A → B) (o : Option A) (b : Bool) → b ≡ is_some o →
    (IsTrue b ↔ (is_some (option_map f o) ≡ true)) × (¬ IsTrue b ↔ (option_map f o ≡ None))
none_or_some f None b e = ((λ h. absurd (cc (sym h ∙ e)), λ h. absurd (cc h)), (λ h. refl, λ h k. cc (sym k ∙ e)))
none_or_some f (Some x) b e = ((λ h. refl, λ h. e), (λ h. absurd (h e), λ h. absurd (cc h)))
