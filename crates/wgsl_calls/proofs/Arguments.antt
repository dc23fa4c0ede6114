-- Arguments one after another, and the members of a struct beside them.
use Rattle.std.proofs.Common.{Bool, true, false, true≢false, IsTrue, ◌↔◌, ◌≡◌, ℕ, ◌+◌, ◌<◌, ◌≤◌, suc, List, [], ◌∷◌, length, drop, drop-cons, add-one, map, slice_index_or, All, Option, Some, None, option_map, refl, sym, ap, subst, ◌∙◌, inl, inr, Bor}
use Rattle.wgsl_calls.proofs.Common.{drop_all, get_or-map, length-map, All-cons, WgslType, Members, no_members, member, ConvertsTo, IsLeftCommon, of_no_types, IsFoldedFrom, folded, inner_of, member_count, AllFit, IsFirstMisfit, view, member_view, members_view, «Type», view-ty, IsStuckAt, IsMisfitAt}
use Rattle.wgsl_core.specs.declared.ty.StructMemberType.{StructMemberType, out-StructMemberType}

pub argument_at : (args : List «Type») (i : ℕ) (x : «Type») → i < length args → x ≡ slice_index_or args i x →
    map view (drop i args) ≡ view x ∷ map view (drop (i + 1) args)
argument_at args i x lt is =
    ap (map view) (drop-cons args i x lt ∙ ap (λ y. y ∷ drop (suc i) args) (sym is) ∙ ap (λ k. x ∷ drop k args) (sym (add-one i)))

pub no_argument_at : (args : List «Type») (i : ℕ) → length args ≤ i → map view (drop i args) ≡ []
no_argument_at args i le = ap (map view) (drop_all i args le)

-- a property of all is one of each
pub of_argument : (P : WgslType → Type 0) (args : List «Type») (i : ℕ) (x : «Type») → i < length args → x ≡ slice_index_or args i x →
    All P (map view args) → P (view x)
of_argument P args i x lt is all =
    subst P (get_or-map view args i x (view x) lt ∙ ap view (sym is)) (all i (view x) (subst (λ n. i < n) (sym (length-map args view)) lt))

-- an argument that converts is passed over
pub not_stuck : (t u : WgslType) (us : List WgslType) (r : Option WgslType) → ConvertsTo u t → IsStuckAt t us r → IsStuckAt t (u ∷ us) r
not_stuck t u us (Some a) c h = inr (c, h)
not_stuck t u us None c h = All-cons (λ v. ConvertsTo v t) u us c h

-- the misfit among the rest is the misfit among all
abbrev pub Onward : List StructMemberType → List «Type» → List StructMemberType → List «Type» → Type 0
Onward ms us ns vs =
    (r : Option (WgslType × WgslType)) → IsMisfitAt (members_view ms) (map view us) r → IsMisfitAt (members_view ns) (map view vs) r

-- a member whose argument converts is passed over
pub passed : (m : StructMemberType) (u : «Type») (ms : List StructMemberType) (us : List «Type») (all : List StructMemberType) (args : List «Type») →
    ConvertsTo (view u) (view (out-StructMemberType m).ty) → all ≡ m ∷ ms → args ≡ u ∷ us → (ns : List StructMemberType) (vs : List «Type») →
    Onward all args ns vs → Onward ms us ns vs
passed m u ms us all args k p q ns vs on r h = on r (at r h)
  where
    c : ConvertsTo (view u) (member_view m).ty
    c = subst (ConvertsTo (view u)) (sym (view-ty m)) k

    at : (r : Option (WgslType × WgslType)) → IsMisfitAt (members_view ms) (map view us) r → IsMisfitAt (members_view all) (map view args) r
    at (Some x) h = subst (λ xs. IsMisfitAt (members_view xs) (map view args) (Some x)) (sym p)
        (subst (λ xs. IsMisfitAt (members_view (m ∷ ms)) (map view xs) (Some x)) (sym q) (inr (c, h)))
    at None h = subst (λ xs. IsMisfitAt (members_view xs) (map view args) None) (sym p)
        (subst (λ xs. IsMisfitAt (members_view (m ∷ ms)) (map view xs) None) (sym q) (c, h))

-- the first argument that doesn't convert
pub stopped : (m : StructMemberType) (u : «Type») (ms : List StructMemberType) (us : List «Type») (all : List StructMemberType) (args : List «Type») →
    ¬ ConvertsTo (view u) (view (out-StructMemberType m).ty) → all ≡ m ∷ ms → args ≡ u ∷ us →
    IsMisfitAt (members_view all) (map view args) (Some (view (out-StructMemberType m).ty, view u))
stopped m u ms us all args n p q =
    subst (λ xs. IsMisfitAt (members_view xs) (map view args) (Some (view (out-StructMemberType m).ty, view u))) (sym p)
    (subst (λ xs. IsMisfitAt (members_view (m ∷ ms)) (map view xs) (Some (view (out-StructMemberType m).ty, view u))) (sym q) (inl (λ c. n (subst (ConvertsTo (view u)) (view-ty m) c), sym (view-ty m), refl)))

pub shorter : (m : StructMemberType) (u : «Type») (ms : List StructMemberType) (us : List «Type») (all : List StructMemberType) (args : List «Type») →
    all ≡ m ∷ ms → args ≡ u ∷ us → length all ≡ length args → length ms ≡ length us
shorter m u ms us all args p q e = cc (sym (ap length p) ∙ e ∙ ap length q)

-- the types inside the arguments from one on
abbrev pub inside_from : List «Type» → ℕ → List WgslType
inside_from args i = map inner_of (map view (drop i args))

pub inside_at : (args : List «Type») (i : ℕ) (x : «Type») → i < length args → x ≡ slice_index_or args i x →
    inside_from args i ≡ inner_of (view x) ∷ inside_from args (i + 1)
inside_at args i x lt is = ap (map inner_of) (argument_at args i x lt is)

pub none_inside : (args : List «Type») → length args ≡ 0 → IsLeftCommon (map inner_of (map view args)) None
none_inside [] e = of_no_types
none_inside (a ∷ args) e = absurd (cc e)

pub all_inside : (args rest : List «Type») (first : «Type») (t : WgslType) → args ≡ first ∷ rest → t ≡ inner_of (view first) →
    (r : Option WgslType) → IsFoldedFrom (Some t) (inside_from rest 0) r → IsLeftCommon (map inner_of (map view args)) r
all_inside args rest first t e p r h =
    subst (λ args. IsLeftCommon (map inner_of (map view args)) r) (sym e)
    ((folded (map inner_of (map view (first ∷ rest))) r).1 (subst (λ t. IsFoldedFrom (Some t) (inside_from rest 0) r) p h))

-- an answer may be replaced by an equal one
pub left_common_at : (ts : List WgslType) (r s : Option (Bor «Type»)) → r ≡ s →
    IsLeftCommon ts (option_map (λ t. view t.now) r) → IsLeftCommon ts (option_map (λ t. view t.now) s)
left_common_at ts r s e h = subst (λ x. IsLeftCommon ts (option_map (λ t. view t.now) x)) e h

pub count_of_members : (ms : List StructMemberType) → member_count (members_view ms) ≡ length ms
count_of_members [] = refl
count_of_members (m ∷ ms) = ap suc (count_of_members ms)

-- if one doesn't fit, not all do
pub misfit_is_no_fit : (ms : Members) (us : List WgslType) (t a : WgslType) → IsFirstMisfit ms us t a → ¬ AllFit ms us
misfit_is_no_fit no_members us t a h k = h
misfit_is_no_fit (member name u size align ms) [] t a h k = h
misfit_is_no_fit (member name u size align ms) (v ∷ us) t a h k =
    elim h [ inl n ↦ n.0 k.0 | inr m ↦ misfit_is_no_fit ms us t a m.1 k.1 ]

-- what follows from a test that holds, and from one that fails
pub holds : {P : Type 0} {b : Bool} → (IsTrue b ↔ P) → b ≡ true → P
holds e t = e.0 t

pub fails : {P : Type 0} {b : Bool} → (IsTrue b ↔ P) → b ≡ false → ¬ P
fails e f p = true≢false (sym (e.1 p) ∙ f)
