-- What has no fault is read whole, and allowed.
use Rattle.std.proofs.Common.{◌≡◌, ℕ, List, [], ◌∷◌, ◌++◌, Bool, true, false, Contains, ap, arith, length, map, not, ◌&&◌, refl, subst}
use Rattle.wgsl_module.specs.Checked.{IsRead, told_of_reading}
use Rattle.wgsl_module.specs.Control.{AreAllowed, State, behind, behind_all, is_allowed, outside, told_by, told_if, told_of}
use Rattle.wgsl_module.specs.Told.{AreTold, Broken, broken, unread}
use Rattle.wgsl_typing.specs.declared.fault.Fault.{Fault}
use Rattle.wgsl_typing.specs.declared.fault.Place.{Place}
use Rattle.wgsl_typing.specs.declared.fault.Rule.{Rule}
use Rattle.wgsl_module.proofs.Kept.{nothing}
use Rattle.wgsl_reader.specs.Modules.{ReadsModule}
use Rattle.wgsl_reader.specs.Reading.{kind_of}
use Rattle.wgsl_reader.specs.declared.mark.Mark.{Mark}
use Rattle.wgsl_reader.specs.declared.mark.Mark.TheVariants as m
use Rattle.wgsl_reader.specs.declared.module.Misread.{Misread}
use Rattle.wgsl_reader.specs.declared.read.Event.{Event}
use Rattle.wgsl_reader.specs.declared.token.Token.{Token}
use Rattle.wgsl_typing.specs.Words.{kind_at}

-- One event

one_told : (b : Broken) (bs : List Broken) → b ∷ bs ≡ [] → ⊥
one_told b bs same = let lens : length (b ∷ bs) ≡ 0 = ap length same in omega arith

none_if : (wrong : Bool) (rule : Rule) (place : Place) (told : List Broken) → told_if wrong rule place told ≡ [] → told ≡ []
none_if false rule place told none = none
none_if true rule place [] none = refl
none_if true rule place (b ∷ bs) none = absurd (one_told b _ none)

right_if : (wrong : Bool) (rule : Rule) (place : Place) (told : List Broken) → told_if wrong rule place told ≡ [] → not wrong ≡ true
right_if false rule place told none = refl
right_if true rule place [] none = absurd (one_told _ [] none)
right_if true rule place (b ∷ bs) none = absurd (one_told b _ none)

twice : (b : Bool) → not (not b) ≡ true → b ≡ true
twice true h = refl
twice false h = h

both : (a b : Bool) → a ≡ true → b ≡ true → a && b ≡ true
both true b h k = k
both false b h k = h

none_before : (mark : Mark) (at : ℕ) (s : State) → told_by mark at s ≡ [] → s.told ≡ []
none_before m.Break at s none = none_if _ _ _ s.told none
none_before m.Continue at s none = none_if _ _ _ s.told none
none_before m.Return at s none = none_if _ _ _ s.told (none_if _ _ _ _ none)
none_before m.Block at s none = none_if _ _ _ s.told none
none_before m.While at s none = none_if _ _ _ s.told none
none_before m.For at s none = none_if _ _ _ s.told none
none_before m.Loop at s none = none_if _ _ _ s.told none
none_before m.DefaultSelector at s none = none_if _ _ _ s.told none
none_before m.Switch at s none = none_if _ _ _ s.told none
none_before other at s none = none

allowed_at : (mark : Mark) (at : ℕ) (s : State) → told_by mark at s ≡ [] → is_allowed mark s ≡ true
allowed_at m.Break at s none = twice _ (right_if _ _ _ s.told none)
allowed_at m.Continue at s none = twice _ (right_if _ _ _ s.told none)
allowed_at m.Return at s none = both (not s.around.in_continuing) _ (right_if _ _ _ s.told (none_if _ _ _ _ none)) (right_if _ _ _ _ none)
allowed_at m.Block at s none = right_if _ _ _ s.told none
allowed_at m.While at s none = right_if _ _ _ s.told none
allowed_at m.For at s none = right_if _ _ _ s.told none
allowed_at m.Loop at s none = right_if _ _ _ s.told none
allowed_at m.DefaultSelector at s none = right_if _ _ _ s.told none
allowed_at m.Switch at s none = twice _ (right_if _ _ _ s.told none)
allowed_at other at s none = refl

-- All events

none_first : (tokens : List Token) (events : List Event) (s : State) → (behind_all tokens events s).told ≡ [] → s.told ≡ []
none_first tokens [] s none = none
none_first tokens (e ∷ events) s none = none_before e.mark e.at s (none_first tokens events (behind (kind_at tokens e.at) e.mark e.at s) none)

none_at : (tokens : List Token) (before after : List Event) (e : Event) (s : State)
    → (behind_all tokens (before ++ e ∷ after) s).told ≡ [] → told_by e.mark e.at (behind_all tokens before s) ≡ []
none_at tokens [] after e s none = none_first tokens after (behind (kind_at tokens e.at) e.mark e.at s) none
none_at tokens (x ∷ before) after e s none = none_at tokens before after e (behind (kind_at tokens x.at) x.mark x.at s) none

all_allowed : (tokens : List Token) (events : List Event) → told_of tokens events ≡ [] → AreAllowed tokens events
all_allowed tokens events none before after e is = allowed_at e.mark e.at (behind_all tokens before outside)
    (none_at tokens before after e outside (subst (λ es. told_of tokens es ≡ []) is none))

-- A module

none_told : (bs : List Broken) (faults : List Fault) → AreTold bs faults → faults ≡ [] → bs ≡ []
none_told [] faults told none = refl
none_told (b ∷ bs) faults told none =
    let first : Contains (b ∷ bs) b = (0, omega arith, refl) in
    absurd (nothing (subst (λ fs. Contains (map broken fs) b) none (told b first)).1)

-- Without faults there is nothing that the grammar doesn't read.
pub all_read : (tokens : List Token) (events : List Event) (misread : List Misread) (faults : List Fault)
    → AreTold (told_of_reading tokens events misread) faults → faults ≡ [] → misread ≡ []
all_read tokens events [] faults told none = refl
all_read tokens events (m ∷ ms) faults told none = absurd (one_told (unread m) _ (none_told (told_of_reading tokens events (m ∷ ms)) faults told none))

pub read_whole : (tokens : List Token) (events : List Event) (misread : List Misread) (faults : List Fault) → ReadsModule (map kind_of tokens) events misread
    → AreTold (told_of_reading tokens events misread) faults → faults ≡ [] → IsRead tokens
read_whole tokens events [] faults reads told none = (events, reads, all_allowed tokens events (none_told (told_of tokens events) faults told none))
read_whole tokens events (m ∷ ms) faults reads told none = absurd (one_told (unread m) _ (none_told (told_of_reading tokens events (m ∷ ms)) faults told none))
