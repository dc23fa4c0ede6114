-- What the constructors of vectors return for their arguments (WGSL, "Value Constructor Built-in Functions").
use Rattle.std.specs.Prelude.{ℕ, ◌+◌, List, [], ◌∷◌, ◌≡◌, Option, Some, None, Result, Ok, Err, All, codes, length, map}
use Rattle.wgsl_syntax.specs.declared.scalar.Scalar.TheVariants.{AbstractInt}
use Rattle.wgsl_rules.specs.types.Types.{WgslType, scalar, vec}
use Rattle.wgsl_rules.specs.types.Kinds.{IsScalarOrVector}
use Rattle.wgsl_rules.specs.conversion.Conversion.{ConvertsTo}
use Rattle.wgsl_rules.specs.types.Inner.{inner_of}
use Rattle.wgsl_rules.specs.types.Signatures.{Parameter}
use Rattle.wgsl_rules.specs.errors.Refusals.{Refusal, conversion, builtin, param_count}
use Rattle.wgsl_rules.specs.templates.Templates.{IsVecTemplate}
use Rattle.wgsl_rules.specs.constructors.Steps.{Either, Then, ThenCommon}

-- the number of components of a scalar or a vector
abbrev pub components : WgslType → ℕ
components (scalar s) = 1
components (vec n t) = n
components t = 0

-- the number of components in total, without overflow
abbrev pub all_components : List WgslType → ℕ
all_components [] = 0
all_components (t ∷ ts) = components t + all_components ts

-- a scalar that converts to t, or a vector whose components do
abbrev pub BringsComponents : WgslType → WgslType → Type 0
BringsComponents t (scalar s) = ConvertsTo (scalar s) t
BringsComponents t (vec n e) = ConvertsTo e t
BringsComponents t a = ⊥

abbrev pub no_components : Refusal
no_components = builtin (codes "vector constructor expects scalar or vector arguments")

-- with a template, from one argument
abbrev pub IsTypedVectorOfOne : ℕ → WgslType → WgslType → Result WgslType Refusal → Type 0
-- a scalar, which becomes each component
-- vec3<f32>(AbstractInt) : vec3<f32>
IsTypedVectorOfOne n (scalar s) t r = Either (ConvertsTo (scalar s) t) (r ≡ Ok (vec n t)) (r ≡ Err (conversion (scalar s) t))
-- a vector with as many components
-- vec3<f32>(vec3<u32>) : vec3<f32>
IsTypedVectorOfOne n (vec m e) t r = Either (m ≡ n) (r ≡ Ok (vec n t)) (r ≡ Err (conversion (vec m e) (vec n t)))
IsTypedVectorOfOne n a t r = r ≡ Err (conversion a t)

-- with a template, from several arguments, which have n components in total
abbrev pub IsTypedVectorOfSeveral : List ℕ → ℕ → List WgslType → WgslType → Result WgslType Refusal → Type 0
IsTypedVectorOfSeveral name n args t r =
    Either (All (BringsComponents t) args)
    (Either (all_components args ≡ n) (r ≡ Ok (vec n t)) (r ≡ Err (param_count name n (length args))))
    (r ≡ Err no_components)

-- vectors with a template
abbrev pub IsTypedVector : List ℕ → ℕ → List WgslType → WgslType → Result WgslType Refusal → Type 0
-- vec3<f32>() : vec3<f32>
IsTypedVector name n [] t r = r ≡ Ok (vec n t)
IsTypedVector name n (a ∷ []) t r = IsTypedVectorOfOne n a t r
-- vec4<f32>(vec2<f32>, AbstractInt, f32) : vec4<f32>
IsTypedVector name n args t r = IsTypedVectorOfSeveral name n args t r

-- without a template, from one argument
abbrev pub IsUntypedVectorOfOne : ℕ → WgslType → Result WgslType Refusal → Type 0
-- vec3(f32) : vec3<f32>
IsUntypedVectorOfOne n (scalar s) r = r ≡ Ok (vec n (scalar s))
-- vec3(vec3<u32>) : vec3<u32>
IsUntypedVectorOfOne n (vec m e) r = Either (m ≡ n) (r ≡ Ok (vec n e)) (r ≡ Err (conversion (vec m e) (vec n e)))
IsUntypedVectorOfOne n a r = r ≡ Err no_components

-- without a template, from several arguments, which have n components in total: of the components' common type
abbrev pub IsUntypedVectorOfSeveral : List ℕ → ℕ → List WgslType → Result WgslType Refusal → Type 0
IsUntypedVectorOfSeveral name n args r =
    Either (All IsScalarOrVector args)
    (Either (all_components args ≡ n)
    (ThenCommon (map inner_of args) (codes "vector components are incompatible") (λ c q. q ≡ Ok (vec n c)) r)
    (r ≡ Err (param_count name n (length args))))
    (r ≡ Err no_components)

-- vectors without a template
abbrev pub IsUntypedVector : List ℕ → ℕ → List WgslType → Result WgslType Refusal → Type 0
-- vec3() : vec3<AbstractInt>
IsUntypedVector name n [] r = r ≡ Ok (vec n (scalar AbstractInt))
IsUntypedVector name n (a ∷ []) r = IsUntypedVectorOfOne n a r
-- vec4(vec2<f32>, AbstractInt, AbstractInt) : vec4<f32>
IsUntypedVector name n args r = IsUntypedVectorOfSeveral name n args r

abbrev pub IsVectorCall : List ℕ → ℕ → Option (List Parameter) → List WgslType → Result WgslType Refusal → Type 0
IsVectorCall name n (Some ps) args r = (q : Result WgslType Refusal) × IsVecTemplate ps q × Then q (IsTypedVector name n args) r
IsVectorCall name n None args r = IsUntypedVector name n args r
