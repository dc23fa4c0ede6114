-- What stands at the front of a template list.
use Rattle.std.proofs.Common.{◌≡◌, ◌≤◌, arith, List, [], ◌∷◌, ℕ, Bool, true, false, Option, Some, None, Result, Ok, Err, IfOk, length, nat_eq, option_map, refl, sym, ap, subst, ◌∙◌}
use Rattle.std.specs.declared.alloc.AllocError.{AllocError}
use Rattle.wgsl_constants.specs.Literals.{then}
use Rattle.wgsl_core.specs.View.{view}
use Rattle.wgsl_core.specs.declared.ty.Type.{«Type»}
use Rattle.wgsl_rules.specs.types.Types.{WgslType, array}
use Rattle.wgsl_typing.specs.Names.{Context, word_in}
use Rattle.wgsl_syntax.specs.declared.address.AccessMode.{AccessMode}
use Rattle.wgsl_syntax.specs.declared.address.AddressSpace.{AddressSpace}
use Rattle.wgsl_syntax.specs.declared.texel.TexelFormat.{TexelFormat}
use Rattle.wgsl_syntax.specs.declared.texture_name.TextureParameters.TheVariants as parameters
use Rattle.wgsl_typing.specs.Parameters.{IsCount, access_listed, access_of, enumerant, format_of, of_first, space_of}
use Rattle.wgsl_typing.specs.Stacks.{Stack, below}
use Rattle.wgsl_typing.specs.Templates.{IsArrayListed, IsLimited, is_element, pointer_listed, pointer_of, stored_listed}
use Rattle.wgsl_typing.specs.Types.{type_of_item}
use Rattle.wgsl_typing.specs.declared.item.Item.{Item}

called_in : {A : Type 0} (called : List ℕ → Option A) (c : Context) (is : List Item) (word : List ℕ) (found : Option A) → Some word ≡ of_first (enumerant c) is → found ≡ called word → found ≡ of_first (λ i. then (enumerant c i) called) is
called_in called c [] word found named same = absurd (cc named)
called_in called c (i ∷ rest) word found named same = same ∙ ap (λ name. then name called) named

-- what is called by the enumerant that was taken from the front
pub first_called : {A : Type 0} (called : List ℕ → Option A) (s t : Stack) (is : List Item) (count : ℕ) (word : List ℕ) (taken : Option ℕ) (found : Option A) → t ≡ s → word ≡ word_in t.context count → taken ≡ Some count
    → option_map (word_in s.context) taken ≡ of_first (enumerant s.context) is → found ≡ called word → found ≡ of_first (λ i. then (enumerant s.context i) called) is
first_called called s t is count word taken found kept read there answer same =
    called_in called s.context is (word_in s.context count) found (ap (option_map (word_in s.context)) (sym there) ∙ answer) (same ∙ ap called (read ∙ ap (λ s. word_in s.context count) kept))

-- an array with a count, from a list of two
pub counted : (c : Context) (of : WgslType) (item : Item) (count : ℕ) (is rest : List Item) (r : Result (Option «Type») AllocError) → length is ≤ 2
    → Some of ≡ of_first (type_of_item c) is → item ∷ rest ≡ below is → IsCount c item (Some count) → is_element of ≡ true
    → IfOk r (λ found. IsLimited (Some (array (Some count) of)) (option_map view found)) → IfOk r (λ found. IsArrayListed c is (option_map view found))
counted c of item count is rest (Err e) short typed left counts element made = made
counted c of item count [] rest (Ok found) short typed left counts element made = absurd (cc typed)
counted c of item count (x ∷ []) rest (Ok found) short typed left counts element made = absurd (cc left)
counted c of item count (x ∷ (n ∷ (m ∷ more))) rest (Ok found) short typed left counts element made = absurd (omega (arith, short))
counted c of item count (x ∷ (n ∷ [])) rest (Ok None) short typed left counts element made = tt
counted c of item count (x ∷ (n ∷ [])) rest (Ok (Some found)) short typed left counts element made =
    let same : item ≡ n = cc left in (count, subst (λ i. IsCount c i (Some count)) same counts, rw (← typed, element) made)

-- a pointer, from what stood at the front of its list, what was left behind each, and its end
pub pointed : (c : Context) (space : AddressSpace) (of : WgslType) (access : Option AccessMode) (is behind rest : List Item)
    → Some space ≡ of_first (space_of c) is → behind ≡ below is → Some of ≡ of_first (type_of_item c) behind → rest ≡ below behind → Some access ≡ access_listed c rest
    → pointer_of space access of ≡ pointer_listed c is
pointed c space of access [] behind rest spaced left typed last ended = absurd (cc spaced)
pointed c space of access (s ∷ []) behind rest spaced left typed last ended = absurd (cc (left, typed))
pointed c space of access (s ∷ (x ∷ more)) behind rest spaced left typed last ended =
    let typed : Some of ≡ type_of_item c x = typed ∙ ap (of_first (type_of_item c)) left in
    let ended : Some access ≡ access_listed c more = ended ∙ ap (access_listed c) (last ∙ ap below left) in rw (← spaced, ← typed, ← ended) refl

-- a texel format and an access mode, from a list of two
pub stored : (c : Context) (format : TexelFormat) (access : AccessMode) (is rest : List Item) → length is ≤ 2
    → Some format ≡ of_first (format_of c) is → rest ≡ below is → Some access ≡ of_first (access_of c) rest → Some (parameters.Storage format access) ≡ stored_listed c is
stored c format access [] rest short formed left last = absurd (cc formed)
stored c format access (f ∷ []) rest short formed left last = absurd (cc (left, last))
stored c format access (f ∷ (a ∷ (m ∷ more))) rest short formed left last = absurd (omega (arith, short))
stored c format access (f ∷ (a ∷ [])) rest short formed left last =
    let last : Some access ≡ access_of c a = last ∙ ap (of_first (access_of c)) left in rw (← formed, ← last) refl

pub stored_by_two : (c : Context) (is : List Item) → nat_eq (length is) 2 ≡ false → None ≡ stored_listed c is
stored_by_two c [] other = refl
stored_by_two c (f ∷ []) other = refl
stored_by_two c (f ∷ (a ∷ [])) other = absurd (cc other)
stored_by_two c (f ∷ (a ∷ (m ∷ more))) other = refl
