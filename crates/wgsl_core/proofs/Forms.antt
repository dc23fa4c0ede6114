-- A type with none of the forms of a kind is not of that kind.
use Rattle.std.proofs.Common.{◌≡◌, ℕ, List, refl}
use Rattle.wgsl_core.proofs.Common.{WgslType, struct, atomic, Members, vec, IsVector, IsStruct, IsAtomic}

pub no_vector_form : (t : WgslType) → ((n : ℕ) (u : WgslType) → t ≡ vec n u → ⊥) → IsVector t → ⊥
no_vector_form (vec n u) h i = h n u refl
no_vector_form t h i = i

pub no_struct_form : (t : WgslType) → ((name : List ℕ) (ms : Members) → t ≡ struct name ms → ⊥) → IsStruct t → ⊥
no_struct_form (struct name ms) h i = h name ms refl
no_struct_form t h i = i

pub no_atomic_form : (t : WgslType) → ((u : WgslType) → t ≡ atomic u → ⊥) → IsAtomic t → ⊥
no_atomic_form (atomic u) h i = h u refl
no_atomic_form t h i = i
