-- Locals by index: each name is found by the index of its last declaration (WGSL, "Declaration and Scope").
use Rattle.std.specs.Prelude.{ℕ, List, [], ◌∷◌, Option, Some, None, cond, ◌≡◌, ◌≤◌, length, bytes_eq}
use Rattle.std.specs.Borrow.{Bor}
use Rattle.std.specs.BTreeMap.{BTreeMap, UpdatesBy, get_by}
use Rattle.std.specs.Cmp.Lexicographic.{slice_cmp}
use Rattle.std.specs.Ordering.{nat_cmp}
use Rattle.wgsl_typing.specs.declared.scope.Local.{Local}

-- the names of a block, the last first, each with the index of its declaration
abbrev pub Block : Type 0
Block = List (List ℕ × ℕ)

abbrev pub in_block : List ℕ → Block → Option ℕ
in_block name [] = None
in_block name (entry ∷ block) = cond (bytes_eq entry.0 name) (Some entry.1) (in_block name block)

-- the names of locals, both the last first
abbrev pub names_of : List Local → Block
names_of [] = []
names_of (local ∷ locals) = (local.name.now, length locals) ∷ names_of locals

-- each of the locals has the index of the one that it shadows
abbrev pub AreShadowing : List Local → Type 0
AreShadowing [] = Unit {0}
AreShadowing (local ∷ locals) = (local.shadowed ≡ in_block local.name.now (names_of locals)) × AreShadowing locals

-- where the innermost block begins
abbrev pub start : List ℕ → ℕ
start [] = 0
start (first ∷ starts) = first

-- blocks begin one behind the other, and not behind that index
abbrev pub AreNested : ℕ → List ℕ → Type 0
AreNested end [] = Unit {0}
AreNested end (first ∷ starts) = (first ≤ end) × AreNested first starts

-- the name has this index now, or none, and the others have theirs
abbrev pub Gives : Bor (List ℕ) → Option ℕ → BTreeMap (Bor (List ℕ)) ℕ → BTreeMap (Bor (List ℕ)) ℕ → Type 0
Gives name index old new = UpdatesBy (λ x y. slice_cmp nat_cmp x.now y.now) (λ key. slice_cmp nat_cmp name.now key.now) old new index

-- a name has the index of its last declaration
pub record IsIndex (index : BTreeMap (Bor (List ℕ)) ℕ) (locals : List Local) : Type 0 where
  pub found : (name : List ℕ) → get_by (λ key. slice_cmp nat_cmp name key.now) index ≡ in_block name (names_of locals)
  pub shadowing : AreShadowing locals

-- Names are found, and closing a block finds those that it shadows. Locals and where their blocks begin stand the innermost first.
pub record IsIndexed (innermost : BTreeMap (Bor (List ℕ)) ℕ) (locals : List Local) (starts : List ℕ) : Type 0 where
  pub index : IsIndex innermost locals
  pub nested : AreNested (length locals) starts
