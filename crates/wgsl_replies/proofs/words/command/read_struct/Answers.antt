use Rattle.wgsl_replies.proofs.Common.{◌≡◌, ◌∙◌, ℕ, List, None, ap, option_and_then, refl, Members, WgslType, struct, view}
use Rattle.wgsl_core.proofs.Views.{not_struct}
use Rattle.wgsl_replies.specs.words.Requests.{a_struct}
use Rattle.wgsl_replies.proofs.words.command.read_struct.Goals as goal

no_struct : (t : WgslType) → ((name : List ℕ) (ms : Members) → t ≡ struct name ms → ⊥) → a_struct t ≡ None
no_struct (struct name ms) other = absurd (other name ms refl)
no_struct t other = refl

pub returns-in_default : goal.returns-in_default
returns-in_default c =
    ap (option_and_then a_struct) c.in_ok-other.ensures
    ∙ no_struct (view c.in_ok-other.other) (not_struct c.in_ok-other.other c.in_default.not-Struct)
