-- Which types convert to which, and with what rank (WGSL, "Conversion Rank" and "Load Rule").
use Rattle.std.specs.Prelude.{ℕ, List, [], ◌∷◌, ◌≡◌, ◌+◌, ◌⊎◌, length}
use Rattle.wgsl_syntax.specs.declared.scalar.Scalar.TheVariants.{AbstractInt, AbstractFloat, I32, U32, F32, F16, I64, U64}
use Rattle.wgsl_syntax.specs.declared.address.AddressSpace.{AddressSpace}
use Rattle.wgsl_syntax.specs.declared.address.AccessMode.{AccessMode}
use Rattle.wgsl_syntax.specs.Address.{MayRead}
use Rattle.wgsl_syntax.specs.declared.result_struct.ResultFunction.{ResultFunction}
use Rattle.wgsl_syntax.specs.declared.result_struct.ResultShape.{ResultShape}
use Rattle.wgsl_syntax.specs.declared.result_struct.ResultPrecision.TheVariants as precision
use Rattle.wgsl_rules.specs.types.Types.{Layer, WgslType, scalar, within, reference}
use Rattle.wgsl_rules.specs.types.ResultStructs.{result_struct}

-- A value type is not a reference, nor an array, a vector or a matrix of references.
abbrev pub IsValueType : WgslType → Type 0
IsValueType (reference s t m) = ⊥
IsValueType (within l t) = IsValueType t
IsValueType t = Unit {0}

-- the single conversions, with their weights
pub data BaseStep : WgslType → WgslType → ℕ → Type 0 where
  -- from an abstract integer
  int_to_float : BaseStep (scalar AbstractInt) (scalar AbstractFloat) 5
  int_to_i32 : BaseStep (scalar AbstractInt) (scalar I32) 3
  int_to_u32 : BaseStep (scalar AbstractInt) (scalar U32) 4
  int_to_i64 : BaseStep (scalar AbstractInt) (scalar I64) 8
  int_to_u64 : BaseStep (scalar AbstractInt) (scalar U64) 9
  -- from an abstract float
  float_to_f32 : BaseStep (scalar AbstractFloat) (scalar F32) 1
  float_to_f16 : BaseStep (scalar AbstractFloat) (scalar F16) 2
  -- from the result struct of `frexp` or `modf` for an abstract float
  result_to_f32 : (f : ResultFunction) (s : ResultShape) → BaseStep (result_struct f s precision.Abstract) (result_struct f s precision.F32) 1
  result_to_f16 : (f : ResultFunction) (s : ResultShape) → BaseStep (result_struct f s precision.Abstract) (result_struct f s precision.F16) 2

-- A step is a single conversion, also inside equal arrays, vectors and matrices.
pub data Step : WgslType → WgslType → ℕ → Type 0 where
  base : {t u : WgslType} {w : ℕ} → BaseStep t u w → Step t u w
  inside : {t u : WgslType} {w : ℕ} (l : Layer) → Step t u w → Step (within l t) (within l u) w

-- one leg of a path: its start, its end and its weight
pub record Leg : Type 0 where
  pub from : WgslType
  pub to : WgslType
  pub weight : ℕ

-- The legs lead from t to u: each is a step that begins at the end of the previous one.
abbrev pub IsPath : WgslType → List Leg → WgslType → Type 0
IsPath t [] u = t ≡ u
IsPath t (leg ∷ legs) u = (leg.from ≡ t) × Step leg.from leg.to leg.weight × IsPath leg.to legs u

abbrev pub path_weight : List Leg → ℕ
path_weight [] = 0
path_weight (leg ∷ legs) = leg.weight + path_weight legs

-- a path from t to u of weight w
pub record Path (t u : WgslType) (w : ℕ) : Type 0 where
  pub legs : List Leg
  pub leads : IsPath t legs u
  pub weighs : path_weight legs ≡ w

-- a path from t to u of weight w, made of n steps
pub record PathOf (t u : WgslType) (w n : ℕ) : Type 0 where
  pub path : Path t u w
  pub steps : length path.legs ≡ n

-- A readable reference loads as the type it refers to, also inside equal arrays, vectors and matrices.
pub data Load : WgslType → WgslType → Type 0 where
  load : (s : AddressSpace) (t : WgslType) (m : AccessMode) → MayRead m → Load (reference s t m) t
  load_inside : {t u : WgslType} (l : Layer) → Load t u → Load (within l t) (within l u)

-- t converts to u with rank w: along a path of weight w, or by a load of rank 0 without any step.
abbrev pub Converts : WgslType → WgslType → ℕ → Type 0
Converts t u w = Path t u w ⊎ Load t u × (w ≡ 0)

-- The same in n steps; a load has none.
abbrev pub ConvertsIn : WgslType → WgslType → ℕ → ℕ → Type 0
ConvertsIn t u w n = PathOf t u w n ⊎ Load t u × (w ≡ 0) × (n ≡ 0)

abbrev pub ConvertsTo : WgslType → WgslType → Type 0
ConvertsTo t u = (w : ℕ) × Converts t u w
