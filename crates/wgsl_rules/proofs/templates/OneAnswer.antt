-- A template of one type has at most one answer: that of a vector, of a matrix and of `bitcast`.
use Rattle.std.proofs.Common.{◌≡◌, ℕ, List, [], ◌∷◌, Result, Ok, Err, codes, sym, ap, ◌∙◌}
use Rattle.wgsl_rules.proofs.Common.{WgslType, IsScalar, IsFloatScalar, IsNumericOrVector, Parameter, of_type, IsAbstract, Refusal, IsTemplateOf, IsVecTemplate, IsMatTemplate, IsBitcastTemplate}

template_once : (P : WgslType → Type 0) (name message : List ℕ) (ps : List Parameter) (r s : Result WgslType Refusal)
    → IsTemplateOf P name message ps r → IsTemplateOf P name message ps s → r ≡ s
template_once P name message (of_type t ∷ []) (Ok u) (Ok v) h k = ap Ok (h.1 ∙ sym k.1)
template_once P name message (of_type t ∷ []) (Ok u) (Err e) h k = absurd (k.0 h.0)
template_once P name message (of_type t ∷ []) (Err e) (Ok v) h k = absurd (h.0 k.0)
template_once P name message (of_type t ∷ []) (Err d) (Err e) h k = ap Err (h.1 ∙ sym k.1)
template_once P name message ps r s h k = h ∙ sym k

pub vec_template_once : (ps : List Parameter) (r s : Result WgslType Refusal) → IsVecTemplate ps r → IsVecTemplate ps s → r ≡ s
vec_template_once = template_once (λ t. IsScalar t × ¬ IsAbstract t) (codes "vector") (codes "vector template type must be a scalar")

pub mat_template_once : (ps : List Parameter) (r s : Result WgslType Refusal) → IsMatTemplate ps r → IsMatTemplate ps s → r ≡ s
mat_template_once = template_once IsFloatScalar (codes "matrix") (codes "matrix template type must be f32 or f16")

pub bitcast_template_once : (ps : List Parameter) (r s : Result WgslType Refusal) → IsBitcastTemplate ps r → IsBitcastTemplate ps s → r ≡ s
bitcast_template_once = template_once IsNumericOrVector (codes "bitcast") (codes "bitcast template type must be a numeric scalar or numeric vector")
