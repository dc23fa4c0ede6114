-- As many operands as parameters.
use Rattle.std.proofs.Common.{◌≡◌, ◌≢◌, ℕ, ◌+◌, ◌<◌, ◌≤◌, zero, suc, List, [], ◌∷◌, length, replicate, Option, Some, None, Bool, refl, ap, arith, drop, get_or, sym, take, ◌-◌, ◌∙◌, option_and_then, take_all}
use Rattle.wgsl_standard.proofs.Common.{length-map, operand_view, operands_view, Pattern, Operand, Binding, bind, bind_all, bind_same, bind_first}
use Rattle.wgsl_standard.specs.declared.operand.Operand.{Operand as CodeOperand}

never : (f : Binding → Option Binding) → ((b : Binding) → f b ≡ None) → (r : Option Binding) → option_and_then f r ≡ None
never f h None = refl
never f h (Some b) = h b

pub unequal_lengths : (c : Bool) (b : Binding) (ps : List Pattern) (xs : List Operand) → length ps ≢ length xs → bind_all c b ps xs ≡ None
unequal_lengths c b [] [] n = absurd (n refl)
unequal_lengths c b (p ∷ ps) (x ∷ xs) n = never (λ b. bind_all c b ps xs) (λ b. unequal_lengths c b ps xs (λ e. n (ap suc e))) (bind c b p x)
unequal_lengths c b ps xs n = refl

pub and_then_same : (f g : Binding → Option Binding) → ((b : Binding) → f b ≡ g b) → (r : Option Binding) → option_and_then f r ≡ option_and_then g r
and_then_same f g h None = refl
and_then_same f g h (Some b) = h b

pub as_many : (c : Bool) (b : Binding) (ps : List Pattern) (xs : List Operand) → length ps ≡ length xs → bind_first c b ps xs ≡ bind_all c b ps xs
as_many c b [] [] e = refl
as_many c b (p ∷ ps) (x ∷ xs) e =
    and_then_same (λ b. bind_first c b ps xs) (λ b. bind_all c b ps xs) (λ b. as_many c b ps xs (omega (arith, e))) (bind c b p x)
as_many c b ps xs e = absurd (omega (arith, e))

-- more operands than parameters
pub too_many : (c : Bool) (b : Binding) (ps : List Pattern) (xs : List Operand) → length ps < length xs → bind_first c b ps xs ≡ None
too_many c b [] (x ∷ xs) h = refl
too_many c b (p ∷ ps) (x ∷ xs) h = never (λ b. bind_first c b ps xs) (λ b. too_many c b ps xs (omega (arith, h))) (bind c b p x)
too_many c b ps xs h = absurd (omega (arith, h))

-- parameters of one type
pub same_first : (c : Bool) (b : Binding) (p : Pattern) (n : ℕ) (xs : List Operand) → length xs ≤ n → bind_same c b p xs ≡ bind_first c b (replicate n p) xs
same_first c b p n [] h = refl
same_first c b p zero (x ∷ xs) h = absurd (omega (arith, h))
same_first c b p (suc n) (x ∷ xs) h =
    and_then_same (λ b. bind_same c b p xs) (λ b. bind_first c b (replicate n p) xs) (λ b. same_first c b p n xs (omega (arith, h))) (bind c b p x)

-- a parameter of one type, and the others of another
pub then_same_first : (c : Bool) (b d : Binding) (p q : Pattern) (n : ℕ) (xs : List CodeOperand) (x : CodeOperand) (r : Option Binding) → 0 < length xs → length xs ≤ n + 1
    → Some d ≡ bind c b p (operand_view x) → x ≡ get_or xs 0 x → r ≡ bind_same c d q (operands_view (take (length xs - 1) (drop 1 xs))) → r ≡ bind_first c b (p ∷ replicate n q) (operands_view xs)
then_same_first c b d p q n [] x r g h e k f = absurd (omega (arith, g))
then_same_first c b d p q n (x ∷ xs) y r g h e k f =
    f ∙ ap (λ ys. bind_same c d q (operands_view ys)) (take_all _ xs (omega arith)) ∙ same_first c d q n (operands_view xs) (omega (arith, h, length-map xs operand_view))
    ∙ ap (option_and_then (λ b. bind_first c b (replicate n q) (operands_view xs))) (e ∙ ap (λ x. bind c b p (operand_view x)) k)

-- one more parameter and its operand
pub one_more_bound : (c : Bool) (b : Binding) (ps : List Pattern) (xs : List CodeOperand) (n : ℕ) (p : Pattern) (x : CodeOperand) (r whole : Option Binding)
    → drop n ps ≡ p ∷ drop (n + 1) ps → drop n xs ≡ x ∷ drop (n + 1) xs → r ≡ bind c b p (operand_view x) → bind_first c b (drop n ps) (operands_view (drop n xs)) ≡ whole
    → option_and_then (λ b. bind_first c b (drop (n + 1) ps) (operands_view (drop (n + 1) xs))) r ≡ whole
one_more_bound c b ps xs n p x r whole e f g h =
    ap (option_and_then (λ b. bind_first c b (drop (n + 1) ps) (operands_view (drop (n + 1) xs)))) g
    ∙ (ap (λ qs. bind_first c b qs (operand_view x ∷ operands_view (drop (n + 1) xs))) (sym e) ∙ (ap (λ ys. bind_first c b (drop n ps) (operands_view ys)) (sym f) ∙ h))
