-- The derived `==` of textures is true exactly for equal ones.
use Rattle.std.proofs.Common.{◌≡◌, Bool, true, false, ◌&&◌, refl, sym, ap, subst, true≢false}
use Rattle.std.specs.Bool.{Decides}
use denote.Enum.Bare.{sameb, same_true, true_same}
use Rattle.wgsl_syntax.specs.contracts.address.AccessMode.{the_type as access_type}
use Rattle.wgsl_syntax.specs.contracts.texel.TexelFormat.{the_type as texel_type}
use Rattle.wgsl_syntax.specs.contracts.texture.SampledType.{the_type as sampled_type}
use Rattle.wgsl_syntax.specs.contracts.texture.TextureTypePartialEq.TheImpl.{ghosts}
use Rattle.wgsl_syntax.specs.declared.address.AccessMode.{AccessMode}
use Rattle.wgsl_syntax.specs.declared.texel.TexelFormat.{TexelFormat}
use Rattle.wgsl_syntax.specs.declared.texture.TextureType.{TextureType}
use Rattle.wgsl_syntax.specs.declared.texture.TextureType.TheVariants.{Sampled1D, Sampled2D, Sampled2DArray, Sampled3D, SampledCube, SampledCubeArray, Sampled1DArray, Multisampled2D, Multisampled2DArray, DepthMultisampled2D, Storage1D, Storage1DArray, Storage2D, Storage2DArray, Storage3D, External, Depth2D, Depth2DArray, DepthCube, DepthCubeArray}

both : (a b : Bool) → (a && b) ≡ true → (a ≡ true) × (b ≡ true)
both true true h = (refl, refl)
both true false h = absurd (true≢false (sym h))
both false b h = absurd (true≢false (sym h))

alike : (of : TexelFormat → AccessMode → TextureType) (f g : TexelFormat) (m n : AccessMode) → (sameb texel_type f g && sameb access_type m n) ≡ true → of f m ≡ of g n
alike of f g m n h =
    let p = both (sameb texel_type f g) (sameb access_type m n) h in
    let format = same_true texel_type tt f g p.0 in
    let access = same_true access_type tt m n p.1 in
    λ i. of (format i) (access i)

one : (a b : TextureType) → ghosts.eq a b ≡ true → a ≡ b
one (Sampled1D s) (Sampled1D t) h = ap Sampled1D (same_true sampled_type tt s t h)
one (Sampled2D s) (Sampled2D t) h = ap Sampled2D (same_true sampled_type tt s t h)
one (Sampled2DArray s) (Sampled2DArray t) h = ap Sampled2DArray (same_true sampled_type tt s t h)
one (Sampled3D s) (Sampled3D t) h = ap Sampled3D (same_true sampled_type tt s t h)
one (SampledCube s) (SampledCube t) h = ap SampledCube (same_true sampled_type tt s t h)
one (SampledCubeArray s) (SampledCubeArray t) h = ap SampledCubeArray (same_true sampled_type tt s t h)
one (Sampled1DArray s) (Sampled1DArray t) h = ap Sampled1DArray (same_true sampled_type tt s t h)
one (Multisampled2D s) (Multisampled2D t) h = ap Multisampled2D (same_true sampled_type tt s t h)
one (Multisampled2DArray s) (Multisampled2DArray t) h = ap Multisampled2DArray (same_true sampled_type tt s t h)
one DepthMultisampled2D DepthMultisampled2D h = refl
one (Storage1D f m) (Storage1D g n) h = alike Storage1D f g m n h
one (Storage1DArray f m) (Storage1DArray g n) h = alike Storage1DArray f g m n h
one (Storage2D f m) (Storage2D g n) h = alike Storage2D f g m n h
one (Storage2DArray f m) (Storage2DArray g n) h = alike Storage2DArray f g m n h
one (Storage3D f m) (Storage3D g n) h = alike Storage3D f g m n h
one External External h = refl
one Depth2D Depth2D h = refl
one Depth2DArray Depth2DArray h = refl
one DepthCube DepthCube h = refl
one DepthCubeArray DepthCubeArray h = refl
one a b h = absurd (true≢false (sym h))

itself_stored : (f : TexelFormat) (m : AccessMode) → (sameb texel_type f f && sameb access_type m m) ≡ true
itself_stored f m = λ i. true_same texel_type f f refl i && true_same access_type m m refl i

itself : (a : TextureType) → ghosts.eq a a ≡ true
itself (Sampled1D s) = true_same sampled_type s s refl
itself (Sampled2D s) = true_same sampled_type s s refl
itself (Sampled2DArray s) = true_same sampled_type s s refl
itself (Sampled3D s) = true_same sampled_type s s refl
itself (SampledCube s) = true_same sampled_type s s refl
itself (SampledCubeArray s) = true_same sampled_type s s refl
itself (Sampled1DArray s) = true_same sampled_type s s refl
itself (Multisampled2D s) = true_same sampled_type s s refl
itself (Multisampled2DArray s) = true_same sampled_type s s refl
itself DepthMultisampled2D = refl
itself (Storage1D f m) = itself_stored f m
itself (Storage1DArray f m) = itself_stored f m
itself (Storage2D f m) = itself_stored f m
itself (Storage2DArray f m) = itself_stored f m
itself (Storage3D f m) = itself_stored f m
itself External = refl
itself Depth2D = refl
itself Depth2DArray = refl
itself DepthCube = refl
itself DepthCubeArray = refl

pub texture_same : (a b : TextureType) → Decides (ghosts.eq a b) (a ≡ b)
texture_same a b = (one a b, λ e. subst (λ x. ghosts.eq a x ≡ true) e (itself a))
