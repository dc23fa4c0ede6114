-- A swizzle of a reference loads as the type that is shown of it.
use Rattle.std.proofs.Common.{◌≡◌, ◌↔◌, ◌∙◌, ℕ, List, [], ◌∷◌, Bool, true, false, IsTrue, ◌&&◌, cond, Option, Some, None, refl, sym, ap, subst, Result, Ok, Err, option_map}
use Rattle.wgsl_standard.proofs.CommonForms.{vec_of, WgslType, within, struct, vec, pointer, reference, Operand, Expression, part_of, shown_type, value_from, SwizzlesLoad, is_loadable, loaded, may_read, behind, formed_from, is_memory, Refusal, Referent, Whole, Component, Swizzle}
use Rattle.wgsl_standard.specs.forms.Member.{Part, a_member, a_component, components, are_components, are_distinct, are_several, expression_of_part, loaded_components, member_named, part_named, part_of_letters}

-- several components are those of a vector of the same components

same_components : (name : List ℕ) (e u : WgslType) (k : ℕ) → part_of_letters name e ≡ Some (components k u) → e ≡ u
same_components [] e u k h = absurd (cc h)
same_components (a ∷ []) e u k h = absurd (cc h)
same_components (a ∷ b ∷ []) e u k h = cc h
same_components (a ∷ b ∷ c ∷ []) e u k h = cc h
same_components (a ∷ b ∷ c ∷ d ∷ []) e u k h = cc h
same_components (a ∷ b ∷ c ∷ d ∷ f ∷ name) e u k h = absurd (cc h)

named_components : (are : Bool) (name : List ℕ) (e u : WgslType) (k : ℕ) → cond are (part_of_letters name e) None ≡ Some (components k u) → e ≡ u
named_components true name e u k h = same_components name e u k h
named_components false name e u k h = absurd (cc h)

no_components : (found : Option WgslType) (u : WgslType) (k : ℕ) → ¬ (option_map a_member found ≡ Some (components k u))
no_components None u k h = absurd (cc h)
no_components (Some t) u k h = absurd (cc h)

loads_alike : (t : WgslType) (name : List ℕ) (k : ℕ) (u : WgslType) → part_named t name ≡ Some (components k u) → is_loadable t ≡ is_loadable (vec k u)
loads_alike (struct s ms) name k u h = absurd (no_components (member_named ms name) u k h)
loads_alike (within (vec_of n) e) name k u h = ap (λ e. is_loadable (vec k e)) (named_components (are_components n name) name e u k h)
loads_alike t name k u h = absurd (cc h)

loads_too : (reads one other : Bool) (t u v : WgslType) (x y z : Refusal) → cond reads (cond one (Ok t) (Err x)) (Err y) ≡ Ok v → one ≡ other →
    cond reads (cond other (Ok u) (Err z)) (Err y) ≡ Ok u
loads_too true true true t u v x y z h e = refl
loads_too true true false t u v x y z h e = absurd (cc e)
loads_too true false other t u v x y z h e = absurd (cc h)
loads_too false one other t u v x y z h e = absurd (cc h)

-- what is told of an expression, and by what

abbrev Loads : Expression → Type 0
Loads e = e.referent ≡ Swizzle → loaded e.of_type ≡ Ok (shown_type e)

abbrev Tells : Bool → Expression → Type 0
Tells b e = (IsTrue b ↔ (e.referent ≡ Swizzle)) × Loads e

abbrev operand : WgslType → Bool → Operand
operand t c = record { of_type = t; is_constant = c }

no_swizzle : (b : Bool) (e : Expression) → b ≡ false → ¬ (e.referent ≡ Swizzle) → Tells b e
no_swizzle b e is_false other = ((λ h. absurd (cc (sym is_false ∙ h)), λ h. absurd (other h)), λ h. absurd (other h))

never : (m : Bool) → (m && false) ≡ false
never true = refl
never false = refl

elsewhere : (m : Bool) (r : Referent) → ¬ (r ≡ Swizzle) → ¬ (cond m r Whole ≡ Swizzle)
elsewhere true r other h = other h
elsewhere false r other h = absurd (cc h)

swizzle : (t : WgslType) (c : Bool) (k : ℕ) (u v : WgslType) → is_loadable (behind t) ≡ is_loadable (vec k u) → loaded (formed_from t (behind t)) ≡ Ok v →
    Tells (is_memory t && true) (part_of (operand t c) Swizzle (vec k u))
swizzle (reference s t a) c k u v same h = ((λ i. refl, λ i. refl), λ i. loads_too (may_read a) (is_loadable t) (is_loadable (vec k u)) t (vec k u) v _ _ _ h same)
swizzle (pointer s t a) c k u v same h = ((λ i. refl, λ i. refl), λ i. loads_too (may_read a) (is_loadable t) (is_loadable (vec k u)) t (vec k u) v _ _ _ h same)
swizzle t c k u v same h = no_swizzle false (part_of (operand t c) Swizzle (vec k u)) refl (λ i. absurd (cc i))

by_letters : (distinct : Bool) (t : WgslType) (c : Bool) (k : ℕ) (u v : WgslType) → is_loadable (behind t) ≡ is_loadable (vec k u) → loaded (formed_from t (behind t)) ≡ Ok v →
    Tells (is_memory t && distinct) (cond distinct (part_of (operand t c) Swizzle (vec k u)) (value_from (operand t c) (vec k u)))
by_letters true t c k u v same h = swizzle t c k u v same h
by_letters false t c k u v same h = no_swizzle (is_memory t && false) (value_from (operand t c) (vec k u)) (never (is_memory t)) (λ i. absurd (cc i))

module _ (t : WgslType) (c : Bool) (name : List ℕ) (e : Expression) where
  by_load : (k : ℕ) (u : WgslType) (r : Result WgslType Refusal) → part_named (behind t) name ≡ Some (components k u) → loaded (formed_from t (behind t)) ≡ r →
      loaded_components (operand t c) name (vec k u) r ≡ Ok e → Tells (is_memory t && are_distinct name) e
  by_load k u (Ok v) named is h =
      let same : cond (are_distinct name) (part_of (operand t c) Swizzle (vec k u)) (value_from (operand t c) (vec k u)) ≡ e = cc h in
      subst (λ e. Tells (is_memory t && are_distinct name) e) same (by_letters (are_distinct name) t c k u v (loads_alike (behind t) name k u named) is)
  by_load k u (Err r) named is h = absurd (cc h)

  by_part : (p : Option Part) → part_named (behind t) name ≡ p → expression_of_part (operand t c) name p ≡ Ok e →
      Tells (is_memory t && (are_several p && are_distinct name)) e
  by_part (Some (a_member u)) named h =
      let same : part_of (operand t c) Whole u ≡ e = cc h in
      subst (λ e. Tells (is_memory t && false) e) same (no_swizzle (is_memory t && false) (part_of (operand t c) Whole u) (never (is_memory t)) (elsewhere (is_memory t) Whole (λ i. absurd (cc i))))
  by_part (Some (a_component u)) named h =
      let same : part_of (operand t c) Component u ≡ e = cc h in
      subst (λ e. Tells (is_memory t && false) e) same (no_swizzle (is_memory t && false) (part_of (operand t c) Component u) (never (is_memory t)) (elsewhere (is_memory t) Component (λ i. absurd (cc i))))
  by_part (Some (components k u)) named h = by_load k u (loaded (formed_from t (behind t))) named refl h
  by_part None named h = absurd (cc h)

pub load : (x : Operand) (name : List ℕ) → SwizzlesLoad x name
load x name e h = by_part x.of_type x.is_constant name e (part_named (behind x.of_type) name) refl h
