-- The rows of the unary operators, by the kind of the operand.
use Rattle.std.proofs.Common.{◌≡◌, ◌⊎◌, Ok, Err, refl, sym, subst, inl, inr}
use Rattle.wgsl_rules.proofs.Common.{Bool, AddressSpace, Handle, AccessMode, LogicalNegation, Negation, BitwiseComplement, AddressOf, Indirection, vec_of, WgslType, scalar, within, pointer, reference, IsScalar, IsVector, IsIntegerOrVector, IsReference, unary, IsUnaryAnswer}
use Rattle.wgsl_rules.specs.operators.UnaryRows.{IsUnaryRow, unary_refusal, not_row, not_vector_row, negation_row, complement_row, address_row, indirection_row}

abbrev pub IsNegated : WgslType → Type 0
IsNegated t = (t ≡ scalar Bool) ⊎ IsVector t

pub negated : (t : WgslType) → IsNegated t → IsUnaryAnswer LogicalNegation t (Ok t)
negated t (inl e) = subst (λ t. IsUnaryRow LogicalNegation t t) (sym e) not_row
negated (within (vec_of n) t) (inr v) = not_vector_row n t
negated t (inr v) = absurd v

pub not_negated : (t : WgslType) → ¬ IsNegated t → IsUnaryAnswer LogicalNegation t (Err (unary LogicalNegation t))
not_negated t n = (refl, refused t n)
  where
    refused : (t : WgslType) → ¬ IsNegated t → (u : WgslType) → ¬ IsUnaryRow LogicalNegation t u
    refused t n u not_row = n (inl refl)
    refused t n u (not_vector_row m e) = n (inr tt)

pub opposed : (t : WgslType) → IsScalar t → IsUnaryAnswer Negation t (Ok t)
opposed (scalar s) h = negation_row s
opposed t h = absurd h

pub not_opposed : (t : WgslType) → ¬ IsScalar t → IsUnaryAnswer Negation t (Err (unary Negation t))
not_opposed t n = (refl, refused t n)
  where
    refused : (t : WgslType) → ¬ IsScalar t → (u : WgslType) → ¬ IsUnaryRow Negation t u
    refused t n u (negation_row s) = n tt

pub not_complemented : (t : WgslType) → ¬ IsIntegerOrVector t → IsUnaryAnswer BitwiseComplement t (Err (unary BitwiseComplement t))
not_complemented t n = (refl, refused t n)
  where
    refused : (t : WgslType) → ¬ IsIntegerOrVector t → (u : WgslType) → ¬ IsUnaryRow BitwiseComplement t u
    refused t n u (complement_row e i) = n i

-- there are no pointers to the handle space
pub no_handle : (t : WgslType) (m : AccessMode) (u : WgslType) → ¬ IsUnaryRow AddressOf (reference Handle t m) u
no_handle t m u (address_row s e k n) = n refl

abbrev pub IsPointer : WgslType → Type 0
IsPointer (pointer s t m) = Unit {0}
IsPointer t = ⊥

pub not_addressed : (t : WgslType) → ¬ IsReference t → IsUnaryAnswer AddressOf t (Err (unary AddressOf t))
not_addressed t n = (plain t n, refused t n)
  where
    plain : (t : WgslType) → ¬ IsReference t → unary AddressOf t ≡ unary_refusal AddressOf t
    plain (reference s t m) n = absurd (n tt)
    plain t n = refl

    refused : (t : WgslType) → ¬ IsReference t → (u : WgslType) → ¬ IsUnaryRow AddressOf t u
    refused t n u (address_row s e m k) = n tt

pub not_pointed : (t : WgslType) → ¬ IsPointer t → IsUnaryAnswer Indirection t (Err (unary Indirection t))
not_pointed t n = (refl, refused t n)
  where
    refused : (t : WgslType) → ¬ IsPointer t → (u : WgslType) → ¬ IsUnaryRow Indirection t u
    refused t n u (indirection_row s e m) = n tt

-- a pointer has exactly one reference
pub one_reference : (s : AddressSpace) (t : WgslType) (m : AccessMode) (u : WgslType) → IsUnaryRow Indirection (pointer s t m) u → u ≡ reference s t m
one_reference s t m u (indirection_row p e k) = refl
