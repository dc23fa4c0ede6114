-- The headline: what public calls return for value types, unless out of memory (WGSL, "Overload
-- Resolution", "Conversion Rank" and "Structure Member Layout"). Value types are all types but
-- references, and arrays, vectors and matrices of references.
use Rattle.std.specs.Prelude.{ℕ, ◌<◌, ◌≡◌, ◌≢◌, ◌⊎◌, ◌↔◌, Option, Some, None, List, [], All}
use Rattle.std.specs.List.Sorted.{IsPermutation}
use Rattle.wgsl_rules.specs.types.Types.{WgslType, Members}
use Rattle.wgsl_rules.specs.conversion.Conversion.{Converts, ConvertsTo}
use Rattle.wgsl_rules.specs.conversion.Concrete.{IsAbstract}
use Rattle.wgsl_rules.specs.layout.Placement.{MemberLayout, IsLeastTotal}
use Rattle.wgsl_rules.specs.layout.Layout.{HaveLayouts, IsStructSize, HasNoSize}
use Rattle.wgsl_rules.specs.operators.Candidates.{Name, IsCandidate}
use Rattle.wgsl_rules.specs.operators.Choice.{HasRanks, Takes, IsNowhereMore, IsSomewhereLess}

-- The least candidate for operands of types ts has parameters us and result r: any other candidate
-- of the name that takes the operands has no lower rank in any operand, and a higher one in some.
pub record IsLeastCandidate (n : Name) (ts us : List WgslType) (r : WgslType) : Type 0 where
  pub candidate : IsCandidate n us r
  pub ranks : List ℕ
  pub takes : HasRanks ts us ranks
  pub least : (vs : List WgslType) (s : WgslType) (ws : List ℕ) → IsCandidate n vs s →
      HasRanks ts vs ws → (vs ≡ us) × (s ≡ r) ⊎ IsNowhereMore ranks ws × IsSomewhereLess ranks ws

-- The chosen answer: the result of the least candidate, and None exactly if no candidate takes the
-- operands. Binary operators return it, and functions of `Name` without a template. The functions
-- refuse some calls that a candidate takes: see `IsChosenCall`, in calls/Answers.
pub record IsChosenAnswer (n : Name) (ts : List WgslType) (r : Option WgslType) : Type 0 where
  pub some : (t : WgslType) → (r ≡ Some t) ↔ ((us : List WgslType) × IsLeastCandidate n ts us t)
  pub none : (r ≡ None) ↔ ((us : List WgslType) (t : WgslType) → IsCandidate n us t → ¬ Takes us ts)

-- Each type of the list converts to u.
abbrev pub Receives : WgslType → List WgslType → Type 0
Receives u ts = All (λ t. ConvertsTo t u) ts

-- u is the least common type: each type of the list converts to u, and u converts to every type
-- to which they all convert.
abbrev pub IsLeastCommon : WgslType → List WgslType → Type 0
IsLeastCommon u ts = Receives u ts × ((v : WgslType) → Receives v ts → ConvertsTo u v)

-- `convert_all_ty` returns the least common type of a non-empty list, whatever its order, and None
-- exactly if the list is empty or there is no type to which all convert.
pub record IsLeastCommonAnswer (ts : List WgslType) (r : Option WgslType) : Type 0 where
  pub some : (u : WgslType) → (r ≡ Some u) ↔ ((ts ≢ []) × IsLeastCommon u ts)
  pub none : (r ≡ None) ↔ ((ts ≡ []) ⊎ ((u : WgslType) → ¬ Receives u ts))
  pub any_order : (us : List WgslType) (u : WgslType) → IsPermutation ts us → r ≡ Some u →
      IsLeastCommon u us

-- For a type whose matrices have float components, `concretize` returns the concrete type of least
-- rank: t converts to u, which isn't abstract, and to any other such type with a higher rank.
pub record IsLeastConcrete (t u : WgslType) : Type 0 where
  pub concrete : ¬ IsAbstract u
  pub rank : ℕ
  pub converts : Converts t u rank
  pub least : (v : WgslType) (w : ℕ) → ¬ IsAbstract v → Converts t v w → (v ≡ u) ⊎ (rank < w)

-- A struct's `size_of` is the smallest size of any placement of its members, each at a multiple of
-- its alignment and after the previous one. It is None exactly for the causes in `HasNoSize`.
pub record IsLeastPlacedSize (ms : Members) (r : Option ℕ) : Type 0 where
  pub exact : (n : ℕ) → (r ≡ Some n) ↔ IsStructSize (HaveLayouts ms) n
  pub least : (n : ℕ) (layouts : List MemberLayout) → r ≡ Some n → HaveLayouts ms layouts →
      IsLeastTotal layouts n
  pub none : (r ≡ None) ↔ HasNoSize ms
