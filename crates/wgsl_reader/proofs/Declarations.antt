-- What is read of a module, declaration by declaration.
use Rattle.std.proofs.Common.{◌≡◌, ◌&&◌, ℕ, ◌+◌, ◌<◌, ◌≤◌, Bool, Ok, Err, List, [], ◌∷◌, ◌++◌, drop, take, get_or, length, map, sym, ap, subst, ◌∙◌, arith, append_assoc, append-nil, drop-drop}
use Rattle.wgsl_reader.proofs.Common.{common_steps, drop-map, drop-take, drop_all, take-map, Outcome, ReadAt, kind_of, Kind, Rule, Misread, Event, Token}
use Rattle.wgsl_reader.specs.Modules.{ReadsFrom, declaration_len, is_directive, none_left, one_read, rule_of, with_misread, with_read}
use Rattle.wgsl_reader.specs.declared.grammar.Symbol.TheVariants as s

more_read : (events : List Event) (outcome : Outcome) (more : List Event) → (events ++ with_read outcome []) ++ more ≡ events ++ with_read outcome more
more_read events (Ok read) more = append_assoc events (read ++ []) more ∙ ap (λ xs. events ++ xs) (ap (λ xs. xs ++ more) (append-nil read))
more_read events (Err index) more = ap (λ xs. xs ++ more) (append-nil events)

more_misread : (rule : Rule) (from : ℕ) (misread : List Misread) (outcome : Outcome) (others : List Misread)
    → (misread ++ with_misread rule from outcome []) ++ others ≡ misread ++ with_misread rule from outcome others
more_misread rule from misread (Ok read) others = ap (λ xs. xs ++ others) (append-nil misread)
more_misread rule from misread (Err index) others = append_assoc misread _ others

front : (at : ℕ) (ts : List Token) (d : Token) → at < length ts → map kind_of (drop at ts) ≡ (get_or ts at d).kind ∷ map kind_of (drop (at + 1) ts)
front at ts d lt = grind (arith, common_steps, lt)

taken : (at n : ℕ) (ts : List Token) → map kind_of (drop at (take (at + n) ts)) ≡ take n (map kind_of (drop at ts))
taken at n ts = ap (map kind_of) (drop-take at n ts) ∙ sym (take-map kind_of n (drop at ts))

left : (at n : ℕ) (ts : List Token) → map kind_of (drop (at + n) ts) ≡ drop n (map kind_of (drop at ts))
left at n ts = ap (map kind_of) (ap (λ k. drop k ts) (omega arith) ∙ sym (drop-drop n at ts)) ∙ sym (drop-map kind_of n (drop at ts))

-- one declaration in front of what is read behind it
in_front : (leading : Bool) (at : ℕ) (kinds : List Kind) (kind : Kind) (rest : List Kind) → kinds ≡ kind ∷ rest → (n : ℕ) → n ≡ declaration_len kinds → (outcome : Outcome) →
    ReadAt (s.Rule (rule_of leading) ∷ []) at (take n kinds) outcome → (more : List Event) (others : List Misread) → ReadsFrom (leading && is_directive kind) (at + n) (drop n kinds) more others →
    ReadsFrom leading at kinds (with_read outcome more) (with_misread (rule_of leading) at outcome others)
in_front leading at kinds kind rest e n l outcome a more others b =
    let first = subst (λ ks. ReadAt (s.Rule (rule_of leading) ∷ []) at (take (declaration_len ks) ks) outcome) e (subst (λ n. ReadAt (s.Rule (rule_of leading) ∷ []) at (take n kinds) outcome) l a) in
    let behind = subst (λ ks. ReadsFrom (leading && is_directive kind) (at + declaration_len ks) (drop (declaration_len ks) ks) more others) e
    (subst (λ n. ReadsFrom (leading && is_directive kind) (at + n) (drop n kinds) more others) l b) in
    rw e (one_read first behind)

module _ (whole : List Event → List Misread → Type 0) (ts : List Token) (leading : Bool) (at : ℕ) (events : List Event) (misread : List Misread)
    (back : (more : List Event) (others : List Misread) → ReadsFrom leading at (map kind_of (drop at ts)) more others → whole (events ++ more) (misread ++ others)) where
  pub all_read : length ts ≤ at → whole events misread
  all_read end =
      let none : map kind_of (drop at ts) ≡ [] = ap (map kind_of) (drop_all at ts end) in
      subst (λ es. whole es misread) (append-nil events) (subst (λ ms. whole (events ++ []) ms) (append-nil misread) (back [] [] (rw none (none_left leading at))))

  pub one_more : (d : Token) → at < length ts → (n : ℕ) → n ≡ declaration_len (map kind_of (drop at ts)) → (rule : Rule) → rule ≡ rule_of leading → (outcome : Outcome)
      → ReadAt (s.Rule rule ∷ []) at (map kind_of (drop at (take (at + n) ts))) outcome
      → (events-2 : List Event) (misread-2 : List Misread) → events-2 ≡ events ++ with_read outcome [] → misread-2 ≡ misread ++ with_misread rule at outcome []
      → (next : Bool) → next ≡ leading && is_directive (get_or ts at d).kind
      → (more : List Event) (others : List Misread) → ReadsFrom next (at + n) (map kind_of (drop (at + n) ts)) more others → whole (events-2 ++ more) (misread-2 ++ others)
  one_more d lt n l rule r outcome a events-2 misread-2 e f next g more others b =
      let first = subst (λ ks. ReadAt (s.Rule (rule_of leading) ∷ []) at ks outcome) (taken at n ts) (subst (λ r. ReadAt (s.Rule r ∷ []) at (map kind_of (drop at (take (at + n) ts))) outcome) r a) in
      let behind = subst (λ ks. ReadsFrom (leading && is_directive (get_or ts at d).kind) (at + n) ks more others) (left at n ts) (subst (λ x. ReadsFrom x (at + n) (map kind_of (drop (at + n) ts)) more others) g b) in
      let whole_read = back (with_read outcome more) (with_misread (rule_of leading) at outcome others) (in_front leading at _ _ _ (front at ts d lt) n l outcome first more others behind) in
      let some : events-2 ++ more ≡ events ++ with_read outcome more = ap (λ xs. xs ++ more) e ∙ more_read events outcome more in
      let others-2 : misread-2 ++ others ≡ misread ++ with_misread (rule_of leading) at outcome others
      = ap (λ xs. xs ++ others) (f ∙ ap (λ r. misread ++ with_misread r at outcome []) r) ∙ more_misread (rule_of leading) at misread outcome others in
      rw (some, others-2) whole_read
