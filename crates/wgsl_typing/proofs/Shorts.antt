-- A short struct has the facts of the whole one.
use Rattle.std.proofs.Common.{◌≡◌, ℕ, Option, Some, None, Bool, true, false, refl, sym, ap, ◌∙◌, ◌&&◌}
use Rattle.wgsl_rules.specs.types.Types.{array_of, vec_of, mat_of, WgslType, Members, no_members, member, scalar, within, struct, atomic}
use Rattle.wgsl_standard.specs.forms.Kinds.{are_host_shareable, has_fixed_footprint, have_fixed_footprint}
use Rattle.wgsl_standard.specs.forms.Variable.{may_end, may_end_members}
use Rattle.wgsl_typing.specs.Short.{KeepsFacts, leaf, standing_for}

and_keeps : (a b c d : Bool) → (a ≡ true → c ≡ true) → (b ≡ true → d ≡ true) → (a && b) ≡ true → (c && d) ≡ true
and_keeps true true c d f g e = ap (λ x. x && d) (f refl) ∙ g refl
and_keeps true false c d f g e = absurd (cc e)
and_keeps false b c d f g e = absurd (cc e)

-- what has a fixed footprint without atomics has one with them
mutual
  more : (t : WgslType) → has_fixed_footprint false t ≡ true → has_fixed_footprint true t ≡ true
  more (scalar s) e = refl
  more (within (array_of None) t) e = e
  more (within (array_of (Some n)) t) e = more t e
  more (within (vec_of n) t) e = more t e
  more (within (mat_of c r) t) e = more t e
  more (struct name ms) e = all_more ms e
  more (atomic t) e = refl
  more t e = e

  all_more : (ms : Members) → have_fixed_footprint false ms ≡ true → have_fixed_footprint true ms ≡ true
  all_more no_members e = e
  all_more (member name t size align ms) e =
      and_keeps (has_fixed_footprint false t) (have_fixed_footprint false ms) (has_fixed_footprint true t) (have_fixed_footprint true ms) (more t) (all_more ms) e

and_true : (b : Bool) → (b && true) ≡ b
and_true true = refl
and_true false = refl

-- a fixed footprint is an end
end_of : (a : Bool) (t : WgslType) → has_fixed_footprint a t ≡ true → may_end a t ≡ true
end_of a (within (array_of None) t) e = absurd (cc e)
end_of a t e = e

ends_of : (a : Bool) (ms : Members) → have_fixed_footprint a ms ≡ true → may_end_members a ms ≡ true
ends_of a no_members e = refl
ends_of a (member name t size align no_members) e = end_of a t (sym (and_true (has_fixed_footprint a t)) ∙ e)
ends_of a (member name t size align (member n u s l ms)) e =
    and_keeps (has_fixed_footprint a t) (have_fixed_footprint a (member n u s l ms)) (has_fixed_footprint a t) (may_end_members a (member n u s l ms)) (λ p. p) (ends_of a (member n u s l ms)) e

more_end : (t : WgslType) → may_end false t ≡ true → may_end true t ≡ true
more_end (within (array_of None) t) e = more t e
more_end (within (array_of (Some n)) t) e = more t e
more_end (within (vec_of n) t) e = more t e
more_end (within (mat_of c r) t) e = more t e
more_end (scalar s) e = refl
more_end (struct name ms) e = all_more ms e
more_end (atomic t) e = refl
more_end t e = e

more_ends : (ms : Members) → may_end_members false ms ≡ true → may_end_members true ms ≡ true
more_ends no_members e = e
more_ends (member name t size align no_members) e = more_end t e
more_ends (member name t size align (member n u s l ms)) e =
    and_keeps (has_fixed_footprint false t) (may_end_members false (member n u s l ms)) (has_fixed_footprint true t) (may_end_members true (member n u s l ms)) (more t) (more_ends (member n u s l ms)) e

-- what has a fixed footprint with atomics, and an end without them, has a fixed footprint without them
exact : (t : WgslType) → has_fixed_footprint true t ≡ true → may_end false t ≡ true → has_fixed_footprint false t ≡ true
exact (within (array_of None) t) e p = absurd (cc e)
exact t e p = p

left : (a b : Bool) → (a && b) ≡ true → a ≡ true
left true b e = refl
left false b e = absurd (cc e)

right : (a b : Bool) → (a && b) ≡ true → b ≡ true
right true b e = e
right false b e = absurd (cc e)

all_exact : (ms : Members) → have_fixed_footprint true ms ≡ true → may_end_members false ms ≡ true → have_fixed_footprint false ms ≡ true
all_exact no_members e p = refl
all_exact (member name t size align no_members) e p = and_true (has_fixed_footprint false t) ∙ exact t (left (has_fixed_footprint true t) true e) p
all_exact (member name t size align (member n u s l ms)) e p =
    let rest = all_exact (member n u s l ms) (right (has_fixed_footprint true t) (have_fixed_footprint true (member n u s l ms)) e) (right (has_fixed_footprint false t) (may_end_members false (member n u s l ms)) p) in
    and_keeps (has_fixed_footprint false t) (may_end_members false (member n u s l ms)) (has_fixed_footprint false t) (have_fixed_footprint false (member n u s l ms)) (λ q. q) (λ q. rest) p

pick : Bool → Bool → Bool → Bool
pick true b c = b
pick false b c = c

picked : (a b c : Bool) (F : Bool → Bool) → b ≡ F true → c ≡ F false → pick a b c ≡ F a
unfolding pick
picked true b c F p q = p
picked false b c F p q = q

represents : (a f d e s g : Bool) (z l : Option ℕ) → (f ≡ true → d ≡ true) → (f ≡ true → e ≡ true → g ≡ true) → (g ≡ true → f ≡ true) → (g ≡ true → e ≡ true) →
    have_fixed_footprint a (standing_for f d e (leaf s) z l) ≡ pick a f g
unfolding pick
represents true true true true s g z l h i j k = refl
represents false true true true s g z l h i j k = sym (i refl refl)
represents true true true false s g z l h i j k = refl
represents false true true false s true z l h i j k = absurd (cc (k refl))
represents false true true false s false z l h i j k = refl
represents a true false e s g z l h i j k = absurd (cc (h refl))
represents true false true true s g z l h i j k = refl
represents true false true false s g z l h i j k = refl
represents true false false e s g z l h i j k = refl
represents false false d e s true z l h i j k = absurd (cc (j refl))
represents false false true true s false z l h i j k = refl
represents false false true false s false z l h i j k = refl
represents false false false e s false z l h i j k = refl

footprint : (a : Bool) (z l : Option ℕ) (ms : Members) →
    have_fixed_footprint a (standing_for (have_fixed_footprint true ms) (may_end_members true ms) (may_end_members false ms) (leaf (are_host_shareable ms)) z l) ≡ have_fixed_footprint a ms
footprint a z l ms =
    represents a (have_fixed_footprint true ms) (may_end_members true ms) (may_end_members false ms) (are_host_shareable ms) (have_fixed_footprint false ms) z l (ends_of true ms) (all_exact ms) (all_more ms) (ends_of false ms)
    ∙ picked a (have_fixed_footprint true ms) (have_fixed_footprint false ms) (λ a. have_fixed_footprint a ms) refl refl

represents_end : (a f d e s : Bool) (z l : Option ℕ) → (f ≡ true → d ≡ true) → (e ≡ true → d ≡ true) → may_end_members a (standing_for f d e (leaf s) z l) ≡ pick a d e
unfolding pick
represents_end true true true true s z l h i = refl
represents_end false true true true s z l h i = refl
represents_end true true true false s z l h i = refl
represents_end false true true false s z l h i = refl
represents_end a true false e s z l h i = absurd (cc (h refl))
represents_end true false true true s z l h i = refl
represents_end false false true true s z l h i = refl
represents_end true false true false s z l h i = refl
represents_end false false true false s z l h i = refl
represents_end a false false true s z l h i = absurd (cc (i refl))
represents_end true false false false s z l h i = refl
represents_end false false false false s z l h i = refl

end : (a : Bool) (z l : Option ℕ) (ms : Members) →
    may_end_members a (standing_for (have_fixed_footprint true ms) (may_end_members true ms) (may_end_members false ms) (leaf (are_host_shareable ms)) z l) ≡ may_end_members a ms
end a z l ms =
    represents_end a (have_fixed_footprint true ms) (may_end_members true ms) (may_end_members false ms) (are_host_shareable ms) z l (ends_of true ms) (more_ends ms)
    ∙ picked a (may_end_members true ms) (may_end_members false ms) (λ a. may_end_members a ms) refl refl

shared : (f d e s : Bool) (z l : Option ℕ) → are_host_shareable (standing_for f d e (leaf s) z l) ≡ s
shared true true true true z l = refl
shared true true true false z l = refl
shared true true false true z l = refl
shared true true false false z l = refl
shared false true true true z l = refl
shared false true true false z l = refl
shared false true false true z l = refl
shared false true false false z l = refl
shared f false e true z l = refl
shared f false e false z l = refl

pub kept : KeepsFacts
kept name z l ms = (
  λ a. footprint a z l ms,
  λ a. end a z l ms,
  shared (have_fixed_footprint true ms) (may_end_members true ms) (may_end_members false ms) (are_host_shareable ms) z l,
)
