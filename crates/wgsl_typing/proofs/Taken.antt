-- What is taken from a template list, and what is left of it.
use Rattle.std.proofs.Common.{◌≡◌, ◌∙◌, ◌≤◌, List, [], ◌∷◌, ◌++◌, Bool, true, false, ap, arith, inl, inr, length, refl, reverse, subst, sym}
use Rattle.std.proofs.lemmas.List.{append-nil}
use Rattle.wgsl_typing.specs.declared.known.Part.{Part}
use Rattle.wgsl_typing.specs.Names.{Context}
use Rattle.wgsl_typing.specs.Stacks.{IsOperand, Stack, below, with_parts}
use Rattle.wgsl_typing.specs.Taken.{TakesCount, TakesIf, expressions_in}
use Rattle.wgsl_typing.specs.Types.{no_type_on}
use Rattle.wgsl_typing.specs.declared.item.Item.{Item}
use Rattle.wgsl_typing.specs.declared.item.Item.TheVariants as items

first_alone : (i : Item) (rest : List Item) → no_type_on (i ∷ rest) ≡ no_type_on (i ∷ [])
first_alone (items.Part x) rest = refl
first_alone other rest = refl

pub none_left : (list : List Item) (s t : Stack) → list ≡ [] → with_parts (expressions_in (reverse list)) s ≡ t → s ≡ t
none_left list s t none is = sym (ap (λ ps. record { items = s.items; parts = ps; context = s.context }) (append-nil s.parts))
    ∙ subst (λ listed. with_parts (expressions_in (reverse listed)) s ≡ t) none is

-- the count of an array is used, from a list of two
pub count_taken : (c : Context) (item : Item) (listed rest : List Item) (xs ys zs : List Part) (count : Part) → length listed ≤ 2 → item ∷ rest ≡ below listed
    → IsOperand c (item ∷ []) count → ys ≡ xs ++ no_type_on listed → zs ≡ ys ++ count ∷ [] → TakesCount c listed rest xs zs
count_taken c item [] rest xs ys zs count short left operand typed noted = absurd (cc left)
count_taken c item (x ∷ []) rest xs ys zs count short left operand typed noted = absurd (cc left)
count_taken c item (x ∷ (n ∷ (m ∷ more))) rest xs ys zs count short left operand typed noted = absurd (omega (arith, short))
count_taken c item (x ∷ (n ∷ [])) rest xs ys zs count short left operand typed noted =
    let same : item ≡ n = cc left in
    let none : rest ≡ [] = cc left in (
      count,
      subst (λ i. IsOperand c (i ∷ []) count) same operand,
      none,
      noted ∙ ap (λ ps. ps ++ count ∷ []) (typed ∙ ap (λ ps. xs ++ ps) (first_alone x (n ∷ []))),
    )

-- and nothing is left
counted_all : (c : Context) (listed rest : List Item) (xs ys zs : List Part) → TakesCount c listed rest xs ys → zs ≡ ys ++ expressions_in rest → TakesCount c listed [] xs zs
counted_all c [] rest xs ys zs taken noted = absurd taken
counted_all c (x ∷ []) rest xs ys zs taken noted = absurd taken
counted_all c (x ∷ (n ∷ (m ∷ more))) rest xs ys zs taken noted = absurd taken
counted_all c (x ∷ (n ∷ [])) rest xs ys zs taken noted =
    (taken.0, taken.1, refl, noted ∙ (ap (λ is. ys ++ expressions_in is) taken.2 ∙ (append-nil ys ∙ taken.3)))

pub all_taken : (b : Bool) (c : Context) (listed rest : List Item) (xs ys zs : List Part) → TakesIf b c listed rest xs ys → zs ≡ ys ++ expressions_in rest
    → TakesIf b c listed [] xs zs
all_taken false c listed rest xs ys zs taken noted = append-nil zs ∙ (noted ∙ taken)
all_taken true c listed rest xs ys zs (inl taken) noted = inl (append-nil zs ∙ (noted ∙ taken))
all_taken true c listed rest xs ys zs (inr taken) noted = inr (counted_all c listed rest xs ys zs taken noted)
