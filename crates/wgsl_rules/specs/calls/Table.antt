-- The table of the built-in functions, in seven parts (WGSL, "Built-in Functions", and naga's ray queries).
use Rattle.std.specs.Prelude.{ℕ, List, [], ◌∷◌, ◌++◌, codes, bytes_eq, if◌then◌else◌}
use Rattle.std.specs.List.{list_any}
use Rattle.wgsl_syntax.specs.declared.scalar.Scalar.TheVariants.{Bool, I32, U32, F32}
use Rattle.wgsl_syntax.specs.declared.result_struct.ResultFunction.TheVariants.{Frexp, Modf}
use Rattle.wgsl_syntax.specs.declared.call.ScalarKind.TheVariants.{Boolean, Number, NumberButU32, Integer, Float, F32OrAbstract, I32OrAbstract}
use Rattle.wgsl_syntax.specs.declared.call.TextureKind.TheVariants.{AnyTexture, Sampled, Depth, Arrayed, Multisampled, Storage, SampledOrDepth, DepthOrMultisampledDepth, Sampled2dOrExternal}
use Rattle.wgsl_syntax.specs.declared.call.Shape.TheVariants.{Any, ScalarOf, VectorOf, ScalarOrVectorOf, Vector, ScalarOrVector, Matrix, SquareMatrix, Fraction, TextureOf, PointerToAtomic, PointerInWorkgroup, Query, Acceleration, Structure, To, ToVector}
use Rattle.wgsl_syntax.specs.declared.call.Condition.TheVariants.{EqualLengths, SameAbstractness}
use Rattle.wgsl_syntax.specs.declared.call.Source.TheVariants.{Argument, Inner, InnerOfInner, Common, InnerOfCommon, CommonOfThree, CommonOfInner, The, SampledAs, Channel}
use Rattle.wgsl_syntax.specs.declared.call.ReturnType.TheVariants.{Of, Concrete, AsLong, InVector, Transposed, TextureSize, ResultOf, ExchangeResult, RayIntersection, HitPositions, NoValue, ByTemplate}
use Rattle.wgsl_syntax.specs.declared.call.Arguments.TheVariants.{Nothing, One, Two, Three, Four}
use Rattle.wgsl_syntax.specs.declared.call.Row.{Row}
use Rattle.wgsl_syntax.specs.declared.call.Row.TheVariants.{Takes, TakesAtLeast, TakesWhere, TakesWithTemplate}
use Rattle.wgsl_rules.specs.calls.Names.{words}

-- a row, and the names of the functions that have it
pub record Line : Type 0 where
  pub names : List (List ℕ)
  pub row : Row

abbrev pub line : List ℕ → Row → Line
line names row = record { names = words names; row = row }

abbrev pub maths_of_one : List Line
maths_of_one =
    -- acos(f32) : f32
    line (codes "acos acosh asin asinh atan atanh ceil cos cosh degrees exp exp2 floor fract inverseSqrt log log2 radians round saturate sin sinh sqrt tan tanh trunc") (Takes (One (ScalarOrVectorOf Float)) (Of Argument)) ∷
    -- abs(vec2<i32>) : vec2<i32>
    line (codes "abs") (Takes (One (ScalarOrVectorOf Number)) (Of Argument)) ∷
    -- sign(AbstractInt) : AbstractInt
    line (codes "sign") (Takes (One (ScalarOrVectorOf NumberButU32)) (Of Argument)) ∷
    -- reverseBits(u32) : u32
    line (codes "reverseBits") (Takes (One (ScalarOrVectorOf Integer)) (Of Argument)) ∷
    -- normalize(vec3<f32>) : vec3<f32>
    line (codes "normalize") (Takes (One (VectorOf Float)) (Of Argument)) ∷
    -- quantizeToF16(vec2<f32>) : vec2<f32>
    line (codes "quantizeToF16") (Takes (One (ScalarOrVectorOf F32OrAbstract)) (Of Argument)) ∷
    -- length(vec3<f16>) : f16
    line (codes "length") (Takes (One (ScalarOrVectorOf Float)) (Of Inner)) ∷
    -- determinant(mat3x3<f32>) : f32
    line (codes "determinant") (Takes (One SquareMatrix) (Of Inner)) ∷
    -- transpose(mat2x3<f32>) : mat3x2<f32>
    line (codes "transpose") (Takes (One Matrix) Transposed) ∷
    -- all(vec2<bool>) : bool
    line (codes "all any") (Takes (One Any) (Of (The Bool))) ∷
    -- arrayLength(ptr<storage, array<f32>, read>) : u32
    line (codes "arrayLength") (Takes (One Any) (Of (The U32))) ∷
    []

abbrev pub maths_of_several : List Line
maths_of_several =
    -- atan2(f32, AbstractInt) : f32
    line (codes "atan2 step") (Takes (Two (ScalarOrVectorOf Float) Any) (Of Common)) ∷
    -- max(AbstractInt, f32) : f32
    line (codes "max min") (Takes (Two (ScalarOrVectorOf Number) Any) (Of Common)) ∷
    -- cross(vec3<f32>, vec3<AbstractFloat>) : vec3<f32>
    line (codes "cross reflect") (Takes (Two (VectorOf Float) Any) (Of Common)) ∷
    -- pow(f32, AbstractInt) : f32
    line (codes "pow") (Takes (Two Any Any) (Of Common)) ∷
    -- distance(vec2<f32>, vec2<f32>) : f32
    line (codes "distance") (Takes (Two (ScalarOrVectorOf Float) Any) (Of InnerOfCommon)) ∷
    -- dot(vec3<AbstractInt>, vec3<u32>) : u32
    line (codes "dot") (Takes (Two (VectorOf Number) Any) (Of InnerOfCommon)) ∷
    -- clamp(AbstractInt, f32, AbstractFloat) : f32
    line (codes "clamp") (Takes (Three (ScalarOrVectorOf Number) Any Any) (Of CommonOfThree)) ∷
    -- fma(f32, AbstractFloat, f32) : f32
    line (codes "fma smoothstep") (Takes (Three (ScalarOrVectorOf Float) Any Any) (Of CommonOfThree)) ∷
    -- faceForward(vec3<f32>, vec3<f32>, vec3<f32>) : vec3<f32>
    line (codes "faceForward") (Takes (Three (VectorOf Float) Any Any) (Of CommonOfThree)) ∷
    -- mix(vec2<f32>, vec2<AbstractFloat>, f32) : vec2<f32>
    line (codes "mix refract") (TakesWhere (Three Vector Vector (ScalarOf Float)) EqualLengths (AsLong CommonOfInner)) ∷
    -- mix(f32, AbstractFloat, AbstractFloat) : f32
    line (codes "mix") (Takes (Three (ScalarOrVectorOf Float) Any Any) (Of CommonOfThree)) ∷
    -- select(AbstractInt, f32, bool) : f32
    line (codes "select") (Takes (Three ScalarOrVector Any (ScalarOf Boolean)) (Of Common)) ∷
    -- select(vec2<AbstractInt>, vec2<f32>, vec2<bool>) : vec2<f32>
    line (codes "select") (Takes (Three Vector Any (VectorOf Boolean)) (Of Common)) ∷
    []

abbrev pub bits_and_subgroups : List Line
bits_and_subgroups =
    -- countLeadingZeros(AbstractInt) : i32
    line (codes "countLeadingZeros countOneBits countTrailingZeros firstLeadingBit firstTrailingBit subgroupAnd subgroupOr subgroupXor") (Takes (One (ScalarOrVectorOf Integer)) (Concrete Argument)) ∷
    -- subgroupAdd(AbstractFloat) : f32
    line (codes "subgroupAdd subgroupExclusiveAdd subgroupInclusiveAdd subgroupMul subgroupExclusiveMul subgroupInclusiveMul subgroupBroadcastFirst subgroupMax subgroupMin quadSwapDiagonal quadSwapX quadSwapY") (Takes (One (ScalarOrVectorOf Number)) (Concrete Argument)) ∷
    -- subgroupBroadcast(vec2<f32>, u32) : vec2<f32>
    line (codes "subgroupBroadcast subgroupShuffle subgroupShuffleDown subgroupShuffleUp subgroupShuffleXor quadBroadcast") (Takes (Two (ScalarOrVectorOf Number) (ScalarOf Integer)) (Concrete Argument)) ∷
    -- extractBits(AbstractInt, u32, AbstractInt) : i32
    line (codes "extractBits") (Takes (Three (ScalarOrVectorOf Integer) (To U32) (To U32)) (Concrete Argument)) ∷
    -- insertBits(AbstractInt, u32, u32, AbstractInt) : u32
    line (codes "insertBits") (Takes (Four (ScalarOrVectorOf Integer) Any (To U32) (To U32)) (Concrete Common)) ∷
    -- ldexp(f32, i32) : f32
    line (codes "ldexp") (TakesWhere (Two (ScalarOf Float) (ScalarOf I32OrAbstract)) SameAbstractness (Of Argument)) ∷
    -- ldexp(vec2<AbstractFloat>, vec2<AbstractInt>) : vec2<AbstractFloat>
    line (codes "ldexp") (TakesWhere (Two (VectorOf Float) (VectorOf I32OrAbstract)) SameAbstractness (Of Argument)) ∷
    -- subgroupAll(bool) : bool
    line (codes "subgroupAll subgroupAny") (Takes (One (ScalarOf Boolean)) (Of (The Bool))) ∷
    -- subgroupBallot(bool) : vec4<u32>
    line (codes "subgroupBallot") (Takes (One (ScalarOf Boolean)) (InVector 4 (The U32))) ∷
    -- subgroupBallot() : vec4<u32>
    line (codes "subgroupBallot") (Takes Nothing (InVector 4 (The U32))) ∷
    -- subgroupElect() : bool
    line (codes "subgroupElect") (Takes Nothing (Of (The Bool))) ∷
    -- dot4U8Packed(u32, AbstractInt) : u32
    line (codes "dot4U8Packed") (Takes (Two (To U32) (To U32)) (Of (The U32))) ∷
    -- dot4I8Packed(u32, u32) : i32
    line (codes "dot4I8Packed") (Takes (Two (To U32) (To U32)) (Of (The I32))) ∷
    -- bitcast<vec2<f32>>(vec2<u32>) : vec2<f32>
    line (codes "bitcast") (TakesWithTemplate (One Any) ByTemplate) ∷
    []

-- derivatives, `frexp`, `modf` and packing
abbrev pub derivatives_and_packing : List Line
derivatives_and_packing =
    -- dpdx(f32) : f32
    line (codes "dpdx dpdxCoarse dpdxFine dpdy dpdyCoarse dpdyFine fwidth fwidthCoarse fwidthFine") (Takes (One (ScalarOf F32OrAbstract)) (Of (The F32))) ∷
    -- dpdx(vec3<AbstractFloat>) : vec3<f32>
    line (codes "dpdx dpdxCoarse dpdxFine dpdy dpdyCoarse dpdyFine fwidth fwidthCoarse fwidthFine") (Takes (One (VectorOf F32OrAbstract)) (AsLong (The F32))) ∷
    -- frexp(vec2<f32>) : __frexp_result_vec2_f32
    line (codes "frexp") (Takes (One Fraction) (ResultOf Frexp)) ∷
    -- modf(AbstractFloat) : __modf_result_abstract
    line (codes "modf") (Takes (One Fraction) (ResultOf Modf)) ∷
    -- pack4x8snorm(vec4<f32>) : u32
    line (codes "pack4x8snorm pack4x8unorm pack4xI8Clamp pack4xU8Clamp") (Takes (One (ToVector 4 F32)) (Of (The U32))) ∷
    -- pack4xI8(vec4<AbstractInt>) : u32
    line (codes "pack4xI8") (Takes (One (ToVector 4 I32)) (Of (The U32))) ∷
    -- pack4xU8(vec4<u32>) : u32
    line (codes "pack4xU8") (Takes (One (ToVector 4 U32)) (Of (The U32))) ∷
    -- pack2x16float(vec2<AbstractFloat>) : u32
    line (codes "pack2x16snorm pack2x16unorm pack2x16float") (Takes (One (ToVector 2 F32)) (Of (The U32))) ∷
    -- unpack4x8snorm(u32) : vec4<f32>
    line (codes "unpack4x8snorm unpack4x8unorm") (Takes (One (To U32)) (InVector 4 (The F32))) ∷
    -- unpack4xI8(u32) : vec4<i32>
    line (codes "unpack4xI8") (Takes (One (To U32)) (InVector 4 (The I32))) ∷
    -- unpack4xU8(AbstractInt) : vec4<u32>
    line (codes "unpack4xU8") (Takes (One (To U32)) (InVector 4 (The U32))) ∷
    -- unpack2x16float(u32) : vec2<f32>
    line (codes "unpack2x16snorm unpack2x16unorm unpack2x16float") (Takes (One (To U32)) (InVector 2 (The F32))) ∷
    []

abbrev pub textures : List Line
textures =
    -- textureDimensions(texture_2d<f32>) : vec2<u32>
    line (codes "textureDimensions") (Takes (One (TextureOf AnyTexture)) TextureSize) ∷
    -- textureDimensions(texture_1d<f32>, i32) : u32
    line (codes "textureDimensions") (Takes (Two (TextureOf AnyTexture) Any) TextureSize) ∷
    -- textureGather(i32, texture_2d<u32>, sampler, vec2<f32>) : vec4<u32>
    line (codes "textureGather") (TakesAtLeast (Two Any (TextureOf Sampled)) (InVector 4 SampledAs)) ∷
    -- textureGather(texture_depth_2d, sampler, vec2<f32>) : vec4<f32>
    line (codes "textureGather") (TakesAtLeast (One (TextureOf Depth)) (InVector 4 (The F32))) ∷
    -- textureGatherCompare(texture_depth_2d, sampler_comparison, vec2<f32>, f32) : vec4<f32>
    line (codes "textureGatherCompare") (TakesAtLeast (One (TextureOf Depth)) (InVector 4 (The F32))) ∷
    -- textureLoad(texture_depth_2d, vec2<i32>, i32) : f32
    line (codes "textureLoad") (TakesAtLeast (One (TextureOf DepthOrMultisampledDepth)) (Of (The F32))) ∷
    -- textureLoad(texture_2d<u32>, vec2<i32>, i32) : vec4<u32>
    line (codes "textureLoad") (TakesAtLeast (One (TextureOf AnyTexture)) (InVector 4 Channel)) ∷
    -- textureNumLayers(texture_2d_array<f32>) : u32
    line (codes "textureNumLayers") (Takes (One (TextureOf Arrayed)) (Of (The U32))) ∷
    -- textureNumLevels(texture_cube<f32>) : u32
    line (codes "textureNumLevels") (Takes (One (TextureOf SampledOrDepth)) (Of (The U32))) ∷
    -- textureNumSamples(texture_multisampled_2d<f32>) : u32
    line (codes "textureNumSamples") (Takes (One (TextureOf Multisampled)) (Of (The U32))) ∷
    -- textureSample(texture_2d<f32>, sampler, vec2<f32>) : vec4<f32>
    line (codes "textureSample textureSampleLevel") (TakesAtLeast (One (TextureOf Sampled)) (InVector 4 (The F32))) ∷
    -- textureSample(texture_depth_2d, sampler, vec2<f32>) : f32
    line (codes "textureSample textureSampleLevel") (TakesAtLeast (One (TextureOf Depth)) (Of (The F32))) ∷
    -- textureSampleBias(texture_2d<f32>, sampler, vec2<f32>, f32) : vec4<f32>
    line (codes "textureSampleBias textureSampleGrad") (TakesAtLeast (One (TextureOf Sampled)) (InVector 4 (The F32))) ∷
    -- textureSampleCompare(texture_depth_2d, sampler_comparison, vec2<f32>, f32) : f32
    line (codes "textureSampleCompare textureSampleCompareLevel") (TakesAtLeast (One (TextureOf Depth)) (Of (The F32))) ∷
    -- textureSampleBaseClampToEdge(texture_2d<f32>, sampler, vec2<f32>) : vec4<f32>
    line (codes "textureSampleBaseClampToEdge") (TakesAtLeast (One (TextureOf Sampled2dOrExternal)) (InVector 4 (The F32))) ∷
    -- textureStore(texture_storage_2d<rgba8unorm, write>, vec2<i32>, vec4<f32>) : no value
    line (codes "textureStore") (TakesAtLeast (One (TextureOf Storage)) NoValue) ∷
    []

abbrev pub atomics : List Line
atomics =
    -- atomicLoad(ptr<storage, atomic<u32>, read_write>) : u32
    line (codes "atomicLoad") (Takes (One PointerToAtomic) (Of InnerOfInner)) ∷
    -- atomicStore(ptr<storage, atomic<u32>, read_write>, u32) : no value
    line (codes "atomicStore") (TakesAtLeast (One PointerToAtomic) NoValue) ∷
    -- atomicAdd(ptr<workgroup, atomic<i32>, read_write>, AbstractInt) : i32
    line (codes "atomicAdd atomicSub atomicMax atomicMin atomicAnd atomicOr atomicXor atomicExchange") (Takes (Two PointerToAtomic Any) (Of InnerOfInner)) ∷
    -- atomicCompareExchangeWeak(ptr<storage, atomic<u32>, read_write>, u32, u32) : __atomic_compare_exchange_result
    line (codes "atomicCompareExchangeWeak") (Takes (Three PointerToAtomic Any Any) ExchangeResult) ∷
    []

abbrev pub barriers_and_rays : List Line
barriers_and_rays =
    -- storageBarrier() : no value
    line (codes "storageBarrier textureBarrier workgroupBarrier rayQueryConfirmIntersection rayQueryTerminate") (Takes Nothing NoValue) ∷
    -- workgroupUniformLoad(ptr<workgroup, f32, read_write>) : f32
    line (codes "workgroupUniformLoad") (Takes (One PointerInWorkgroup) (Of Inner)) ∷
    -- rayQueryInitialize(ptr<function, ray_query, read_write>, acceleration_structure, RayDesc) : no value
    line (codes "rayQueryInitialize") (Takes (Three Query Acceleration Structure) NoValue) ∷
    -- rayQueryProceed(ptr<function, ray_query, read_write>) : bool
    line (codes "rayQueryProceed") (Takes (One Query) (Of (The Bool))) ∷
    -- rayQueryGenerateIntersection(f32) : no value
    line (codes "rayQueryGenerateIntersection") (Takes (One (To F32)) NoValue) ∷
    -- rayQueryGetCommittedIntersection(ptr<function, ray_query, read_write>) : RayIntersection
    line (codes "rayQueryGetCommittedIntersection rayQueryGetCandidateIntersection") (Takes (One Query) RayIntersection) ∷
    -- getCommittedHitVertexPositions(ptr<function, ray_query, read_write>) : array<vec3<f32>, 3>
    line (codes "getCommittedHitVertexPositions getCandidateHitVertexPositions") (Takes (One Query) HitPositions) ∷
    []

unfoldable pub call_table : List Line
call_table = maths_of_one ++ maths_of_several ++ bits_and_subgroups ++ derivatives_and_packing ++ textures ++ atomics ++ barriers_and_rays

-- the rows of a name, in order
abbrev pub rows_named : List ℕ → List Line → List Row
rows_named name [] = []
rows_named name (l ∷ ls) = if list_any (bytes_eq name) l.names then l.row ∷ rows_named name ls else rows_named name ls
