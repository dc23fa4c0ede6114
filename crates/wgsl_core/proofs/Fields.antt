-- The derived `==` of fields is true exactly for equal ones.
use Rattle.std.proofs.Common.{◌≡◌, Bool, true, refl, sym, ap, ◌∙◌, true≢false, Decides}
use Rattle.std.proofs.lemmas.Bool.Decides.{Decides-eqb, Decides-and, Decides-at, Decides-like}
use Rattle.std.proofs.lemmas.Slice.Eq.{bytes_eq-Decides}
use denote.Enum.Bare.{same_true, true_same}
use Rattle.wgsl_syntax.specs.contracts.operator.BinaryOperator.{the_type as binary_type}
use Rattle.wgsl_syntax.specs.contracts.operator.UnaryOperator.{the_type as unary_type}
use Rattle.wgsl_core.proofs.Common.{refusal, Error}
use Rattle.wgsl_core.proofs.Sames.{literal_same}
use Rattle.wgsl_core.specs.Equality.{type_eq_decides}
use Rattle.wgsl_core.specs.RefusalEquality.{signature_eq_decides, refusal_of_fields}
use Rattle.wgsl_core.specs.Fields.{text_field, type_field, literal_field, number_field, unary_field, binary_field, call_field, field_view, fields_view, fields_of, Fields as Fields'}
use Rattle.wgsl_core.specs.contracts.error.fields.FieldPartialEq.TheImpl.{ghosts as of_field}
use Rattle.wgsl_core.specs.contracts.error.fields.FieldsPartialEq.TheImpl.{ghosts as of_fields}
use Rattle.wgsl_core.specs.declared.error.fields.Field.{Field}
use Rattle.wgsl_core.specs.declared.error.fields.Field.TheVariants as fields
use Rattle.wgsl_core.specs.declared.error.fields.Fields.{Fields}

pub field_same : (a b : Field) → Decides (of_field.eq a b) (field_view a ≡ field_view b)
field_same fields.Absent fields.Absent = (λ _. refl, λ _. refl)
field_same (fields.Text x) (fields.Text y) = Decides-like _ (λ p. ap text_field p) (λ q. cc q) (bytes_eq-Decides x.now y.now)
field_same (fields.Type x) (fields.Type y) = Decides-like _ (λ p. ap type_field p) (λ q. cc q) (type_eq_decides _ _)
field_same (fields.Literal x) (fields.Literal y) = Decides-like _ (λ p. ap literal_field p) (λ q. cc q) (literal_same x y)
field_same (fields.Number x) (fields.Number y) = Decides-like _ (λ p. ap number_field p) (λ q. cc q) (Decides-eqb x y)
field_same (fields.Unary x) (fields.Unary y) = Decides-like _ (λ p. ap unary_field p) (λ q. cc q) (same_true unary_type tt x y, true_same unary_type x y)
field_same (fields.Binary x) (fields.Binary y) = Decides-like _ (λ p. ap binary_field p) (λ q. cc q) (same_true binary_type tt x y, true_same binary_type x y)
field_same (fields.Call x) (fields.Call y) = Decides-like _ (λ p. ap call_field p) (λ q. cc q) (signature_eq_decides _ _)
field_same a b = (λ h. absurd (true≢false (sym h)), λ e. absurd (cc e))

fields_same : (a b : Fields) → Decides (of_fields.eq a b) (fields_view a ≡ fields_view b)
fields_same a b =
    Decides-like _ (λ p i. (p.0 i, p.1.0 i, p.1.1.0 i, p.1.1.1 i))
    (λ e. (ap (λ (f : Fields'). f.0) e, (ap (λ (f : Fields'). f.1) e, (ap (λ (f : Fields'). f.2) e, ap (λ (f : Fields'). f.3) e))))
    (Decides-and _ _ (Decides-eqb a.0 b.0) (Decides-and _ _ (field_same a.1 b.1) (Decides-and _ _ (field_same a.2 b.2) (field_same a.3 b.3))))

-- errors have the same refusal if their fields are the same
pub errors_same : (e f : Error) (x y : Fields) (r : Bool) → fields_view x ≡ fields_of (refusal e) → fields_view y ≡ fields_of (refusal f) → r ≡ of_fields.eq x y → Decides r (refusal e ≡ refusal f)
errors_same e f x y r p q h =
    Decides-at r _ h (Decides-like _ (λ k. refusal_of_fields _ _ (sym p ∙ (k ∙ q))) (λ k. p ∙ (ap fields_of k ∙ sym q)) (fields_same x y))
