-- What the grammar doesn't read has no expressions.
use Rattle.std.proofs.Common.{◌≡◌, ◌∙◌, ◌<◌, ℕ, zero, suc, List, [], ◌∷◌, ◌++◌, ap, append_assoc, arith, length, map, slice_get, subst}
use Rattle.std.proofs.lemmas.List.{map_push}
use Rattle.wgsl_module.proofs.Behind.{fewer_behind, fewer_in_turn}
use Rattle.wgsl_module.proofs.Named.{called_after}
use Rattle.wgsl_module.specs.Declarations.{Written, written}
use Rattle.wgsl_module.specs.Directives.{Directs}
use Rattle.wgsl_module.specs.Meanings.{Ends}
use Rattle.wgsl_module.specs.Noted.{Comes}
use Rattle.wgsl_module.specs.States.{State, cleared}
use Rattle.wgsl_module.specs.Runs.{AreBodies, AreDeclarations, AreUnread, Declares, DeclaresIf, IsBody, IsModule, as_unread}
use Rattle.wgsl_module.specs.declared.declaration.Declaration.{Declaration}
use Rattle.wgsl_module.specs.declared.declaration.DeclarationKind.{DeclarationKind}
use Rattle.wgsl_module.specs.declared.declaration.DeclarationKind.TheVariants as kinds
use Rattle.wgsl_typing.specs.declared.known.Known.{Known}
use Rattle.wgsl_typing.specs.declared.known.Known.TheVariants.{Faulty}
use Rattle.wgsl_reader.specs.declared.read.Event.{Event}
use Rattle.wgsl_reader.specs.declared.token.Token.{Token}

no_event : (tokens : List Token) (events : List Event) (s r : State) → events ≡ [] → Comes tokens events s r → r ≡ s
no_event tokens [] s r none same = same
no_event tokens (e ∷ events) s r none come = cc none

no_end : (kind : DeclarationKind) (known : Known) (s r : State) → kind ≡ kinds.Misread → Ends kind known s r → (r ≡ s) × (known ≡ Faulty)
no_end kind known s r is end = subst (λ k. Ends k known s r) is end

no_directive : (kind : DeclarationKind) (events : List Event) (s r : State) → kind ≡ kinds.Misread → Directs kind events s r → r ≡ s
no_directive kind events s r is directs = subst (λ k. Directs k events s r) is directs

no_events : (tokens : List Token) (x : Written) (known : Known) (s r : State) → x.kind ≡ kinds.Misread → x.events ≡ []
    → Declares tokens x.kind x.events known s r → (r ≡ s) × (known ≡ Faulty)
no_events tokens x known s r kind none is =
    let end = no_end x.kind known is.1 r kind is.4 in
    (end.0 ∙ (no_event tokens x.events is.0 is.1 none is.3 ∙ no_directive x.kind x.events s is.0 kind is.2), end.1)

one_fewer : (tokens : List Token) (ws : List Written) (x : Written) (index : ℕ) (known : Known) (s r : State) → x.kind ≡ kinds.Misread → x.events ≡ []
    → DeclaresIf tokens (slice_get (ws ++ x ∷ []) index) known s r → DeclaresIf tokens (slice_get ws index) known s r
one_fewer tokens [] x zero known s r kind none is = no_events tokens x known s r kind none is
one_fewer tokens [] x (suc index) known s r kind none is = is
one_fewer tokens (w ∷ ws) x zero known s r kind none is = is
one_fewer tokens (w ∷ ws) x (suc index) known s r kind none is = one_fewer tokens ws x index known s r kind none is

fewer : (tokens : List Token) (ws : List Written) (x : Written) (order : List ℕ) (s r : State) → x.kind ≡ kinds.Misread → x.events ≡ []
    → AreDeclarations tokens (ws ++ x ∷ []) order s r → AreDeclarations tokens ws order s r
fewer tokens ws x [] s r kind none are = are
fewer tokens ws x (index ∷ order) s r kind none are =
    let one = are.1 in
    (are.0, (one.0, one.1, one_fewer tokens ws x index one.1 (cleared s) one.0 kind none one.2, one.3), fewer tokens ws x order are.0 r kind none are.2)

within : (ws : List Written) (x : Written) (i : ℕ) → i < length ws → i < length (ws ++ x ∷ [])
within [] x i below = absurd (omega (arith, below))
within (w ∷ ws) x zero below = omega arith
within (w ∷ ws) x (suc i) below = let rest = within ws x i (omega (arith, below)) in omega (arith, rest)

fewer_bodies : (tokens : List Token) (ws : List Written) (x : Written) (s r : State) → x.kind ≡ kinds.Misread → AreBodies tokens (ws ++ x ∷ []) s r → AreBodies tokens ws s r
fewer_bodies tokens [] x s r kind are = are.2 ∙ subst (λ k. IsBody tokens k x.events x.body s are.0) kind are.1
fewer_bodies tokens (w ∷ ws) x s r kind are = (are.0, are.1, fewer_bodies tokens ws x are.0 r kind are.2)

fewer_unread : (ws : List Written) (x : Written) (s : State) → AreUnread s (ws ++ x ∷ []) → AreUnread s ws
fewer_unread ws x s are = (as_unread x ∷ are.0, are.1 ∙ (ap (λ ns. ns ++ are.0) (map_push as_unread ws x) ∙ append_assoc (map as_unread ws) (as_unread x ∷ []) are.0))

without_last : (cycles : List ℕ) (tokens : List Token) (ws : List Written) (x : Written) (s r : State) → x.kind ≡ kinds.Misread → x.events ≡ []
    → IsModule cycles tokens (ws ++ x ∷ []) s r → IsModule cycles tokens ws s r
without_last cycles tokens ws x s r kind none is = (
  is.0,
  is.1,
  λ i above below. is.2 i above (within ws x i below),
  fewer_behind s.stack.context ws x cycles is.0 none is.3,
  fewer_in_turn s.stack.context ws x is.0 none (λ front i rest same below. is.4 front i rest same (within ws x i below)),
  fewer tokens ws x is.0 s is.1 kind none is.5,
  fewer_bodies tokens ws x is.1 r kind is.6,
  λ name index first. is.7 name index (called_after s.stack.context.text s.stack.context.tokens ws x name index first),
  fewer_unread ws x s is.8,
)

pub misread_pushed : (cycles : List ℕ) (tokens : List Token) (all ds : List Declaration) (x : Declaration) (s r : State) → all ≡ ds ++ x ∷ [] → x.kind ≡ kinds.Misread
    → x.events.now ≡ [] → IsModule cycles tokens (map written all) s r → IsModule cycles tokens (map written ds) s r
misread_pushed cycles tokens all ds x s r pushed kind none is =
    without_last cycles tokens (map written ds) (written x) s r kind none
    (subst (λ ws. IsModule cycles tokens ws s r) (ap (map written) pushed ∙ map_push written ds x) is)
