-- Equality of template parameters, signatures and refusals as tests, which are true exactly for equal ones.
use Rattle.std.specs.Prelude.{◌≡◌, ℕ, zero, suc, ℤ, pos, negsuc, Bool, true, false, List}
use Rattle.std.specs.Bool.{Decides}
use Rattle.std.specs.Cmp.{decided, partial_equiv_from_equiv, on_equiv, IsPartialEquivalence}
use Rattle.std.specs.Ordering.{on}
use Rattle.std.proofs.Common.{refl, ap, sym, ◌∙◌}
use denote.Enum.Bare.{Bare, sameb, same_true, same_false}
use denote.Enum.Declared.{Declared}
use mathlib.Core.List.{List-discrete}
use native.Mathlib.Decide.{ℕ_discrete}
use Rattle.wgsl_syntax.proofs.Discrete.{same_access, same_flag, same_space, same_texel}
use Rattle.wgsl_syntax.specs.contracts.operator.BinaryOperator.{the_type as binary_type}
use Rattle.wgsl_syntax.specs.contracts.operator.UnaryOperator.{the_type as unary_type}
use Rattle.wgsl_syntax.specs.declared.enumerant.Enumerant.{Enumerant}
use Rattle.wgsl_syntax.specs.declared.enumerant.Enumerant.TheVariants.{AccessMode, AddressSpace, TexelFormat, AccelerationStructureFlags}
use Rattle.wgsl_syntax.specs.declared.operator.BinaryOperator.{BinaryOperator}
use Rattle.wgsl_syntax.specs.declared.operator.UnaryOperator.{UnaryOperator}
use Rattle.wgsl_rules.specs.types.Literals.{Literal, bool, abstract_int, i32, u32, i64, u64}
use Rattle.wgsl_rules.specs.errors.Refusals.{Refusal, todo, not_scalar, not_constructible, sampled_type, unknown_type, unexpected_template, missing_template, write_ref_type, not_write, not_read, not_read_write, ptr_handle, ptr_vec_comp, conversion, conv_overflow, component, not_indexable, out_of_bounds, unary, binary, compwise_binary, add_overflow, sub_overflow, mul_overflow, div_by_zero, rem_zero_div, shl_overflow, shr_overflow, signature, builtin, template_args, param_count, param_type}
use Rattle.wgsl_rules.specs.types.Signatures.{Parameter, of_type, of_literal, of_enumerant, Signature}
use Rattle.wgsl_rules.proofs.types.Equality.{both, by, same_type, same_option}
use Rattle.wgsl_core.specs.Equality.{is_yes, yes_decides}
use Rattle.wgsl_core.specs.Instances.{parameter_view, signature_view}
use Rattle.wgsl_core.specs.Answer.{refusal}
use Rattle.wgsl_core.specs.Fields.{Field, no_field, text_field, type_field, literal_field, number_field, unary_field, binary_field, call_field, Fields, fields_of}

by_test : {P : Type 0} (t : Bool) → (t ≡ true → P) → (t ≡ false → P → ⊥) → Dec P
by_test true so not_so = yes (so refl)
by_test false so not_so = no (not_so refl)

bare : (D : Declared) → Bare D.parts → (a b : D.D) → Dec (a ≡ b)
bare D no_fields a b = by_test (sameb D a b) (same_true D no_fields a b) (same_false D a b)

same_bool : (a b : Bool) → Dec (a ≡ b)
same_bool true true = yes refl
same_bool false false = yes refl
same_bool a b = no (λ q. (cc q))

same_int : (a b : ℤ) → Dec (a ≡ b)
same_int (pos m) (pos n) = by (λ p. ap pos p) (λ q. cc q) (ℕ_discrete m n)
same_int (negsuc m) (negsuc n) = by (λ p. ap negsuc p) (λ q. cc q) (ℕ_discrete m n)
same_int a b = no (λ q. (cc q))

same_text : (a b : List ℕ) → Dec (a ≡ b)
same_text = List-discrete ℕ_discrete

same_literal : (a b : Literal) → Dec (a ≡ b)
same_literal (bool a) (bool b) = by (λ p. ap bool p) (λ q. cc q) (same_bool a b)
same_literal (abstract_int m) (abstract_int n) = by (λ p. ap abstract_int p) (λ q. cc q) (same_int m n)
same_literal (i32 m) (i32 n) = by (λ p. ap i32 p) (λ q. cc q) (same_int m n)
same_literal (u32 m) (u32 n) = by (λ p. ap u32 p) (λ q. cc q) (ℕ_discrete m n)
same_literal (i64 m) (i64 n) = by (λ p. ap i64 p) (λ q. cc q) (same_int m n)
same_literal (u64 m) (u64 n) = by (λ p. ap u64 p) (λ q. cc q) (ℕ_discrete m n)
same_literal a b = no (λ q. (cc q))

same_enumerant : (a b : Enumerant) → Dec (a ≡ b)
same_enumerant (AccessMode a) (AccessMode b) = by (λ p. ap AccessMode p) (λ q. cc q) (same_access a b)
same_enumerant (AddressSpace a) (AddressSpace b) = by (λ p. ap AddressSpace p) (λ q. cc q) (same_space a b)
same_enumerant (TexelFormat a) (TexelFormat b) = by (λ p. ap TexelFormat p) (λ q. cc q) (same_texel a b)
same_enumerant (AccelerationStructureFlags a) (AccelerationStructureFlags b) = by (λ p. ap AccelerationStructureFlags p) (λ q. cc q) (same_flag a b)
same_enumerant a b = no (λ q. (cc q))

same_parameter : (a b : Parameter) → Dec (a ≡ b)
same_parameter (of_type t) (of_type u) = by (λ p. ap of_type p) (λ q. cc q) (same_type t u)
same_parameter (of_literal l) (of_literal m) = by (λ p. ap of_literal p) (λ q. cc q) (same_literal l m)
same_parameter (of_enumerant e) (of_enumerant f) = by (λ p. ap of_enumerant p) (λ q. cc q) (same_enumerant e f)
same_parameter a b = no (λ q. (cc q))

same_signature : (a b : Signature) → Dec (a ≡ b)
same_signature a b =
    by (λ p i. record { name = p.0 i; template = p.1.0 i; arguments = p.1.1 i })
    (λ e. (ap (λ (s : Signature). s.name) e, (ap (λ (s : Signature). s.template) e, ap (λ (s : Signature). s.arguments) e)))
    (both (same_text a.name b.name) (both (same_option (List-discrete same_parameter) a.template b.template) (List-discrete same_type a.arguments b.arguments)))

same_field : (a b : Field) → Dec (a ≡ b)
same_field no_field no_field = yes refl
same_field (text_field a) (text_field b) = by (λ p. ap text_field p) (λ q. cc q) (same_text a b)
same_field (type_field a) (type_field b) = by (λ p. ap type_field p) (λ q. cc q) (same_type a b)
same_field (literal_field a) (literal_field b) = by (λ p. ap literal_field p) (λ q. cc q) (same_literal a b)
same_field (number_field a) (number_field b) = by (λ p. ap number_field p) (λ q. cc q) (ℕ_discrete a b)
same_field (unary_field a) (unary_field b) = by (λ p. ap unary_field p) (λ q. cc q) (bare unary_type tt a b)
same_field (binary_field a) (binary_field b) = by (λ p. ap binary_field p) (λ q. cc q) (bare binary_type tt a b)
same_field (call_field a) (call_field b) = by (λ p. ap call_field p) (λ q. cc q) (same_signature a b)
same_field a b = no (λ q. (cc q))

same_fields : (a b : Fields) → Dec (a ≡ b)
same_fields a b =
    by (λ p i. (p.0 i, p.1.0 i, p.1.1.0 i, p.1.1.1 i))
    (λ e. (ap (λ (f : Fields). f.0) e, (ap (λ (f : Fields). f.1) e, (ap (λ (f : Fields). f.2) e, ap (λ (f : Fields). f.3) e))))
    (both (ℕ_discrete a.0 b.0) (both (same_field a.1 b.1) (both (same_field a.2 b.2) (same_field a.3 b.3))))

-- the refusal that has these fields
of_fields : Fields → Refusal
of_fields (zero, text_field s, no_field, no_field) = todo s
of_fields (zero, type_field t, no_field, no_field) = not_scalar t
of_fields (suc zero, type_field t, no_field, no_field) = not_constructible t
of_fields (suc (suc zero), type_field t, no_field, no_field) = sampled_type t
of_fields (suc zero, text_field s, no_field, no_field) = unknown_type s
of_fields (suc (suc zero), text_field s, no_field, no_field) = unexpected_template s
of_fields (suc (suc (suc zero)), text_field s, no_field, no_field) = missing_template s
of_fields (zero, type_field n, type_field t, no_field) = write_ref_type n t
of_fields (zero, no_field, no_field, no_field) = not_write
of_fields (suc zero, no_field, no_field, no_field) = not_read
of_fields (suc (suc zero), no_field, no_field, no_field) = not_read_write
of_fields (suc (suc (suc zero)), no_field, no_field, no_field) = ptr_handle
of_fields (suc (suc (suc (suc zero))), no_field, no_field, no_field) = ptr_vec_comp
of_fields (suc zero, type_field a, type_field b, no_field) = conversion a b
of_fields (zero, literal_field l, type_field t, no_field) = conv_overflow l t
of_fields (zero, type_field t, text_field s, no_field) = component t s
of_fields (suc (suc (suc zero)), type_field t, no_field, no_field) = not_indexable t
of_fields (zero, number_field i, type_field t, number_field n) = out_of_bounds i t n
of_fields (zero, unary_field o, type_field t, no_field) = unary o t
of_fields (zero, binary_field o, type_field a, type_field b) = binary o a b
of_fields (suc (suc zero), type_field a, type_field b, no_field) = compwise_binary a b
of_fields (suc (suc (suc (suc (suc zero)))), no_field, no_field, no_field) = add_overflow
of_fields (suc (suc (suc (suc (suc (suc zero))))), no_field, no_field, no_field) = sub_overflow
of_fields (suc (suc (suc (suc (suc (suc (suc zero)))))), no_field, no_field, no_field) = mul_overflow
of_fields (suc (suc (suc (suc (suc (suc (suc (suc zero))))))), no_field, no_field, no_field) = div_by_zero
of_fields (suc (suc (suc (suc (suc (suc (suc (suc (suc zero)))))))), no_field, no_field, no_field) = rem_zero_div
of_fields (zero, number_field n, literal_field l, no_field) = shl_overflow n l
of_fields (suc zero, number_field n, literal_field l, no_field) = shr_overflow n l
of_fields (zero, call_field c, no_field, no_field) = signature c
of_fields (suc (suc (suc (suc zero))), text_field s, no_field, no_field) = builtin s
of_fields (suc (suc (suc (suc (suc zero)))), text_field s, no_field, no_field) = template_args s
of_fields (zero, text_field s, number_field e, number_field n) = param_count s e n
of_fields (suc (suc (suc zero)), type_field e, type_field t, no_field) = param_type e t
of_fields f = not_write

of_its_fields : (r : Refusal) → of_fields (fields_of r) ≡ r
unfolding of_fields
of_its_fields (todo s) = refl
of_its_fields r = refl

pub refusal_of_fields : (a b : Refusal) → fields_of a ≡ fields_of b → a ≡ b
refusal_of_fields a b e = sym (of_its_fields a) ∙ (ap of_fields e ∙ of_its_fields b)

same_refusal : (a b : Refusal) → Dec (a ≡ b)
same_refusal a b = by (refusal_of_fields a b) (λ q. ap fields_of q) (same_fields (fields_of a) (fields_of b))

pub parameter_eq : Parameter → Parameter → Bool
parameter_eq a b = is_yes (same_parameter a b)

pub parameter_eq_decides : (a b : Parameter) → Decides (parameter_eq a b) (a ≡ b)
unfolding parameter_eq
parameter_eq_decides a b = yes_decides (same_parameter a b)

pub parameter_partial_equivalence : IsPartialEquivalence (on parameter_view parameter_eq)
parameter_partial_equivalence = partial_equiv_from_equiv (on_equiv parameter_view (decided parameter_eq parameter_eq_decides))

pub signature_eq : Signature → Signature → Bool
signature_eq a b = is_yes (same_signature a b)

pub signature_eq_decides : (a b : Signature) → Decides (signature_eq a b) (a ≡ b)
unfolding signature_eq
signature_eq_decides a b = yes_decides (same_signature a b)

pub signature_partial_equivalence : IsPartialEquivalence (on signature_view signature_eq)
signature_partial_equivalence = partial_equiv_from_equiv (on_equiv signature_view (decided signature_eq signature_eq_decides))

pub refusal_eq : Refusal → Refusal → Bool
refusal_eq a b = is_yes (same_refusal a b)

pub refusal_eq_decides : (a b : Refusal) → Decides (refusal_eq a b) (a ≡ b)
unfolding refusal_eq
refusal_eq_decides a b = yes_decides (same_refusal a b)

pub refusal_partial_equivalence : IsPartialEquivalence (on refusal refusal_eq)
refusal_partial_equivalence = partial_equiv_from_equiv (on_equiv refusal (decided refusal_eq refusal_eq_decides))
