-- The constructors by their names, and the types that they return (WGSL, "Value Constructor Built-in Functions").
use Rattle.std.specs.Prelude.{ℕ, zero, suc, List, [], ◌∷◌, ◌≡◌, ◌⊎◌, Option, Some, None, Result, Ok, Err, codes, length}
use Rattle.wgsl_syntax.specs.Names.{named}
use Rattle.wgsl_syntax.specs.declared.scalar.Scalar.{Scalar}
use Rattle.wgsl_syntax.specs.declared.scalar.Scalar.TheVariants.{Bool, I32, U32, F32, F16, I64, U64, F64}
use Rattle.wgsl_rules.specs.types.Types.{WgslType, scalar, array, Members, no_members, member}
use Rattle.wgsl_rules.specs.conversion.Conversion.{ConvertsTo}
use Rattle.wgsl_rules.specs.Headline.{Receives}
use Rattle.wgsl_rules.specs.types.Signatures.{Parameter, Signature}
use Rattle.wgsl_rules.specs.errors.Refusals.{Refusal, conversion, signature, template_args, param_count, param_type}
use Rattle.wgsl_rules.specs.templates.Templates.{array_template}
use Rattle.wgsl_rules.specs.constructors.Steps.{Either, Then, ThenCommon, IsFirstStuck}
use Rattle.wgsl_rules.specs.constructors.Vectors.{IsVectorCall}
use Rattle.wgsl_rules.specs.constructors.Matrices.{IsMatrixCall}

-- what a constructor makes: an array, a scalar, a vector with n components, a matrix with c columns and r rows
pub data Constructor : Type 0 where
  makes_array : Constructor
  makes_scalar : Scalar → Constructor
  makes_vector : ℕ → Constructor
  makes_matrix : ℕ → ℕ → Constructor

abbrev pub constructors : List (Constructor × List ℕ)
constructors =
    (makes_array, codes "array")
    ∷ (makes_scalar Bool, codes "bool")
    ∷ (makes_scalar I32, codes "i32")
    ∷ (makes_scalar U32, codes "u32")
    ∷ (makes_scalar F32, codes "f32")
    ∷ (makes_scalar F16, codes "f16")
    ∷ (makes_scalar I64, codes "i64")
    ∷ (makes_scalar U64, codes "u64")
    ∷ (makes_scalar F64, codes "f64")
    ∷ (makes_vector 2, codes "vec2")
    ∷ (makes_vector 3, codes "vec3")
    ∷ (makes_vector 4, codes "vec4")
    ∷ (makes_matrix 2 2, codes "mat2x2")
    ∷ (makes_matrix 2 3, codes "mat2x3")
    ∷ (makes_matrix 2 4, codes "mat2x4")
    ∷ (makes_matrix 3 2, codes "mat3x2")
    ∷ (makes_matrix 3 3, codes "mat3x3")
    ∷ (makes_matrix 3 4, codes "mat3x4")
    ∷ (makes_matrix 4 2, codes "mat4x2")
    ∷ (makes_matrix 4 3, codes "mat4x3")
    ∷ (makes_matrix 4 4, codes "mat4x4")
    ∷ []

abbrev pub constructor_of : List ℕ → Option Constructor
constructor_of name = named constructors name

-- Scalars: no template, and no argument or one scalar. Any other call is refused.
abbrev pub scalar_call : Scalar → Option (List Parameter) → List WgslType → Refusal → Result WgslType Refusal
-- f32() : f32
scalar_call s None [] refused = Ok (scalar s)
-- i32(f32) : i32
scalar_call s None (scalar t ∷ []) refused = Ok (scalar s)
scalar_call s template args refused = Err refused

-- Arrays with a template. If there are arguments, it has a count, and each argument converts to its element type.
abbrev pub IsTypedArray : List WgslType → WgslType → Result WgslType Refusal → Type 0
-- array<f32, 3>() : array<f32, 3>
IsTypedArray [] t r = r ≡ Ok t
-- array<f32, 3>(AbstractInt, f32, f32) : array<f32, 3>
IsTypedArray (a ∷ args) (array (Some n) t) r =
    Receives t (a ∷ args) × (r ≡ Ok (array (Some n) t))
    ⊎ ((b : WgslType) × IsFirstStuck t (a ∷ args) b × (r ≡ Err (conversion b t)))
IsTypedArray (a ∷ args) t r = r ≡ Err (template_args (codes "array"))

-- arrays: with a template, or of the common type of the arguments, with one element per argument
abbrev pub IsArrayCall : Option (List Parameter) → List WgslType → Result WgslType Refusal → Type 0
IsArrayCall (Some ps) args r = Then (array_template ps) (IsTypedArray args) r
-- array(AbstractInt, f32) : array<f32, 2>
IsArrayCall None args r =
    ThenCommon args (codes "array elements are incompatible") (λ c q. q ≡ Ok (array (Some (length args)) c)) r

-- What a constructor returns for a call; any other name is refused.
abbrev pub IsBuilt : Option Constructor → Signature → Result WgslType Refusal → Type 0
IsBuilt (Some makes_array) call r = IsArrayCall call.template call.arguments r
IsBuilt (Some (makes_scalar s)) call r = r ≡ scalar_call s call.template call.arguments (signature call)
IsBuilt (Some (makes_vector n)) call r = IsVectorCall call.name n call.template call.arguments r
IsBuilt (Some (makes_matrix c n)) call r = IsMatrixCall call.name c n call.template call.arguments r
IsBuilt None call r = r ≡ Err (signature call)

unfoldable pub IsConstructorAnswer : Signature → Result WgslType Refusal → Type 0
IsConstructorAnswer call r = IsBuilt (constructor_of call.name) call r

abbrev pub member_count : Members → ℕ
member_count no_members = zero
member_count (member name t size align ms) = suc (member_count ms)

-- Each argument converts to its member's type.
abbrev pub AllFit : Members → List WgslType → Type 0
AllFit no_members [] = Unit {0}
AllFit (member name t size align ms) (a ∷ args) = ConvertsTo a t × AllFit ms args
AllFit ms args = ⊥

-- the type u of the first member whose argument b doesn't convert to it
abbrev pub IsFirstMisfit : Members → List WgslType → WgslType → WgslType → Type 0
IsFirstMisfit (member name t size align ms) (a ∷ args) u b =
    (¬ ConvertsTo a t) × (u ≡ t) × (b ≡ a) ⊎ ConvertsTo a t × IsFirstMisfit ms args u b
IsFirstMisfit ms args u b = ⊥

-- one argument per member, which converts to the member's type
abbrev pub IsFilled : List ℕ → Members → List WgslType → Result (Unit {0}) Refusal → Type 0
IsFilled name ms args r =
    Either (member_count ms ≡ length args)
    (AllFit ms args × (r ≡ Ok tt)
    ⊎ ((t : WgslType) × (a : WgslType) × IsFirstMisfit ms args t a × (r ≡ Err (param_type t a))))
    (r ≡ Err (param_count name (member_count ms) (length args)))

-- structs: no argument, or one per member; for `struct S { a: i32, b: vec3<f32> }`:
abbrev pub IsStructCall : List ℕ → Members → List WgslType → Result (Unit {0}) Refusal → Type 0
-- S() passes
IsStructCall name ms [] r = r ≡ Ok tt
-- S(AbstractInt, vec3<AbstractFloat>) passes; S(i32) is refused, since it has one argument of two, and S(f32, vec3<f32>)
-- because `f32` doesn't convert to `i32`
IsStructCall name ms args r = IsFilled name ms args r
