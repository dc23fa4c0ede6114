-- The derived `==` of literals and enumerants is true exactly for equal ones.
use Rattle.std.proofs.Common.{◌≡◌, Bool, true, refl, sym, ap, subst, true≢false, Decides}
use Rattle.std.proofs.lemmas.Bool.Decides.{Decides-eqb, Decides-int_eq}
use Rattle.std.specs.Cmp.{booleans_Decides}
use denote.Enum.Bare.{same_true, true_same}
use Rattle.wgsl_syntax.specs.contracts.address.AccessMode.{the_type as access_type}
use Rattle.wgsl_syntax.specs.contracts.address.AddressSpace.{the_type as space_type}
use Rattle.wgsl_syntax.specs.contracts.texel.TexelFormat.{the_type as texel_type}
use Rattle.wgsl_syntax.specs.contracts.enumerant.EnumerantPartialEq.TheImpl.{ghosts as enumerants}
use Rattle.wgsl_syntax.specs.declared.attribute.AccelerationStructureFlags.TheVariants.{VertexReturn}
use Rattle.wgsl_syntax.specs.declared.enumerant.Enumerant.{Enumerant}
use Rattle.wgsl_syntax.specs.declared.enumerant.Enumerant.TheVariants.{AccessMode, AddressSpace, TexelFormat, AccelerationStructureFlags}
use Rattle.wgsl_core.proofs.Common.{Literal, bool, abstract_int, i32, u32, i64, u64, literal_view, LiteralInstance}
use Rattle.wgsl_core.specs.contracts.literal.LiteralInstancePartialEq.TheImpl.{ghosts as instances}
use Rattle.wgsl_core.specs.declared.literal.LiteralInstance.TheVariants as literals

one : (a b : Enumerant) → enumerants.eq a b ≡ true → a ≡ b
one (AccessMode a) (AccessMode b) h = ap AccessMode (same_true access_type tt a b h)
one (AddressSpace a) (AddressSpace b) h = ap AddressSpace (same_true space_type tt a b h)
one (TexelFormat a) (TexelFormat b) h = ap TexelFormat (same_true texel_type tt a b h)
one (AccelerationStructureFlags VertexReturn) (AccelerationStructureFlags VertexReturn) h = refl
one a b h = absurd (true≢false (sym h))

itself : (a : Enumerant) → enumerants.eq a a ≡ true
itself (AccessMode a) = true_same access_type a a refl
itself (AddressSpace a) = true_same space_type a a refl
itself (TexelFormat a) = true_same texel_type a a refl
itself (AccelerationStructureFlags a) = refl

pub enumerant_same : (a b : Enumerant) → Decides (enumerants.eq a b) (a ≡ b)
enumerant_same a b = (one a b, λ e. subst (λ x. enumerants.eq a x ≡ true) e (itself a))

-- a test of two fields decides whether the literals are equal
seen : {A : Type 0} (f : A → Literal) (x y : A) (t : Bool) → (f x ≡ f y → x ≡ y) → Decides t (x ≡ y) → Decides t (f x ≡ f y)
seen f x y t inside d = (λ h. ap f (d.0 h), λ e. d.1 (inside e))

pub literal_same : (a b : LiteralInstance) → Decides (instances.eq a b) (literal_view a ≡ literal_view b)
literal_same (literals.Bool x) (literals.Bool y) = seen bool x y _ (λ q. cc q) (booleans_Decides x y)
literal_same (literals.AbstractInt m) (literals.AbstractInt n) = seen abstract_int m n _ (λ q. cc q) (Decides-int_eq m n)
literal_same (literals.I32 m) (literals.I32 n) = seen i32 m n _ (λ q. cc q) (Decides-int_eq m n)
literal_same (literals.U32 m) (literals.U32 n) = seen u32 m n _ (λ q. cc q) (Decides-eqb m n)
literal_same (literals.I64 m) (literals.I64 n) = seen i64 m n _ (λ q. cc q) (Decides-int_eq m n)
literal_same (literals.U64 m) (literals.U64 n) = seen u64 m n _ (λ q. cc q) (Decides-eqb m n)
literal_same a b = (λ h. absurd (true≢false (sym h)), λ e. absurd (cc e))
