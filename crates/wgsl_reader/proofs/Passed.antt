-- A token other than `>` ends no template list.
use Rattle.std.proofs.Common.{◌≡◌, ◌∷◌, [], List, false, cond, ℕ, refl, ap}
use Rattle.wgsl_reader.proofs.Common.{Search, ended, is, joined, passed, step, step_at, Kind, Opened, Token}
use Rattle.wgsl_reader.specs.declared.kind.Kind.TheVariants as k
use Rattle.wgsl_reader.specs.declared.lists.Opened.TheVariants as o

passes_at : (s : Search) (t : Token) (found : Kind × ℕ) (opened : List Opened) → is k.Greater t ≡ false → step_at s t found opened ≡ (passed s t found, found.1)
passes_at s t found [] other = refl
passes_at s t found (o.Bracket ∷ opened) other = refl
passes_at s t found (o.Less index ∷ opened) other = ap (λ b. cond b (ended s t index opened, 0) (passed s t found, found.1)) other

pub step_passes : (s : Search) (t : Token) (ts : List Token) → is k.Greater t ≡ false → step s t ts ≡ (passed s t (joined (t ∷ ts)), (joined (t ∷ ts)).1)
step_passes s t ts other = passes_at s t (joined (t ∷ ts)) s.opened other
