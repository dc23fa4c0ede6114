-- The names of the built-in functions, sorted by their bytes (WGSL, "Built-in Functions").
use Rattle.std.specs.Prelude.{ℕ, ◌≡◌, ◌==◌, ◌<◌, List, [], ◌∷◌, ◌++◌, length, slice_index_or, codes, cond}
use Rattle.std.specs.Cmp.Lexicographic.{slice_cmp}
use Rattle.std.specs.Ordering.{nat_cmp}
use Rattle.std.specs.declared.cmp.Ordering.TheVariants.{Less}

-- the first word with a letter added in front, then the other words
abbrev pub onto_first : ℕ → List (List ℕ) → List (List ℕ)
onto_first c [] = (c ∷ []) ∷ []
onto_first c (w ∷ ws) = (c ∷ w) ∷ ws

-- the words of a text, separated by spaces
abbrev pub words : List ℕ → List (List ℕ)
words [] = [] ∷ []
words (c ∷ cs) = cond (c == 32) ([] ∷ words cs) (onto_first c (words cs))

abbrev pub name_at : List (List ℕ) → ℕ → List ℕ
name_at ns i = slice_index_or ns i []

-- The names are sorted by their bytes, and distinct.
abbrev pub IsRising : List (List ℕ) → Type 0
IsRising ns = (i j : ℕ) → i < j → j < length ns → slice_cmp nat_cmp (name_at ns i) (name_at ns j) ≡ Less

abbrev pub IsNameAt : List (List ℕ) → ℕ → List ℕ → Type 0
IsNameAt ns i text = (i < length ns) × (name_at ns i ≡ text)

unfoldable pub call_names : List (List ℕ)
call_names =
    words (codes "abs acos acosh all any arrayLength asin asinh atan atan2 atanh atomicAdd atomicAnd") ++
    words (codes "atomicCompareExchangeWeak atomicExchange atomicLoad atomicMax atomicMin atomicOr atomicStore") ++
    words (codes "atomicSub atomicXor bitcast ceil clamp cos cosh countLeadingZeros countOneBits countTrailingZeros") ++
    words (codes "cross degrees determinant distance dot dot4I8Packed dot4U8Packed dpdx dpdxCoarse dpdxFine dpdy") ++
    words (codes "dpdyCoarse dpdyFine exp exp2 extractBits faceForward firstLeadingBit firstTrailingBit floor fma") ++
    words (codes "fract frexp fwidth fwidthCoarse fwidthFine getCandidateHitVertexPositions") ++
    words (codes "getCommittedHitVertexPositions insertBits inverseSqrt ldexp length log log2 max min mix modf") ++
    words (codes "normalize pack2x16float pack2x16snorm pack2x16unorm pack4x8snorm pack4x8unorm pack4xI8 pack4xI8Clamp") ++
    words (codes "pack4xU8 pack4xU8Clamp pow quadBroadcast quadSwapDiagonal quadSwapX quadSwapY quantizeToF16 radians") ++
    words (codes "rayQueryConfirmIntersection rayQueryGenerateIntersection rayQueryGetCandidateIntersection") ++
    words (codes "rayQueryGetCommittedIntersection rayQueryInitialize rayQueryProceed rayQueryTerminate reflect") ++
    words (codes "refract reverseBits round saturate select sign sin sinh smoothstep sqrt step storageBarrier") ++
    words (codes "subgroupAdd subgroupAll subgroupAnd subgroupAny subgroupBallot subgroupBroadcast") ++
    words (codes "subgroupBroadcastFirst subgroupElect subgroupExclusiveAdd subgroupExclusiveMul subgroupInclusiveAdd") ++
    words (codes "subgroupInclusiveMul subgroupMax subgroupMin subgroupMul subgroupOr subgroupShuffle") ++
    words (codes "subgroupShuffleDown subgroupShuffleUp subgroupShuffleXor subgroupXor tan tanh textureBarrier") ++
    words (codes "textureDimensions textureGather textureGatherCompare textureLoad textureNumLayers textureNumLevels") ++
    words (codes "textureNumSamples textureSample textureSampleBaseClampToEdge textureSampleBias textureSampleCompare") ++
    words (codes "textureSampleCompareLevel textureSampleGrad textureSampleLevel textureStore transpose trunc") ++
    words (codes "unpack2x16float unpack2x16snorm unpack2x16unorm unpack4x8snorm unpack4x8unorm unpack4xI8 unpack4xU8") ++
    words (codes "workgroupBarrier workgroupUniformLoad")
