-- A bound that is larger than the number of words changes nothing of what is read.
use Rattle.wgsl_replies.proofs.Common.{◌≡◌, ◌≤◌, ◌∷◌, ℕ, zero, suc, Bool, true, false, cond, List, [], length, Option, Some, None, refl, sym, ap, subst, ◌∙◌}
use Rattle.wgsl_replies.proofs.Common.{arith, bytes_eq, WgslType, sampler_named, scalar_named, Reader, Words, and_then, ◌>>=◌, ◌<$>◌, means, one, optional}
use Rattle.wgsl_replies.proofs.Common.{or_else, pure, times, a_word, inside, layer_named, layers, leaf_from, member_at, memory_at, other_from, parameters_at}
use Rattle.wgsl_replies.proofs.Common.{rays, rays_named, struct_at, texture_from, type_at, type_from, type_within}
use Rattle.wgsl_syntax.specs.Names.{named}
use Rattle.wgsl_syntax.specs.TextureName.{parameter_kind, texture_with}
use Rattle.wgsl_syntax.specs.declared.texture_name.TextureParameterKind.{TextureParameterKind}
use Rattle.wgsl_syntax.specs.declared.texture_name.TextureParameterKind.TheVariants as kinds

-- What two readers find is the same, and leaves no more words than there were.
pub record Same {A : Type 0} (words : Words) (found other : Option (A × Words)) : Type 0 where
  pub same : found ≡ other
  pub fewer : (x : A) (rest : Words) → found ≡ Some (x, rest) → length rest ≤ length words

-- the same of up to this number of words
abbrev pub Alike : {A : Type 0} → ℕ → Reader A → Reader A → Type 0
Alike n r s = (words : Words) → length words ≤ n → Same words (r words) (s words)

then_same : {A B : Type 0} (words : Words) (found other : Option (A × Words)) (f g : A → Reader B) → Same words found other
    → ((x : A) (rest : Words) → found ≡ Some (x, rest) → Same rest (f x rest) (g x rest)) → Same words (and_then found f) (and_then other g)
then_same words None other f g h k = record { same = ap (λ o. and_then o g) h.same; fewer = λ x rest e. absurd (cc e) }
then_same words (Some p) other f g h k =
    let b = k p.0 p.1 refl in
    record { same = b.same ∙ ap (λ o. and_then o g) h.same; fewer = λ x rest e. omega (arith, b.fewer x rest e, h.fewer p.0 p.1 refl) }

abbrev found : {A : Type 0} → A → Words → Option (A × Words)
found x words = Some (x, words)

abbrev first_of_found : {A : Type 0} → A → Option (A × Words) → A
first_of_found x None = x
first_of_found x (Some p) = p.0

abbrev rest_of_found : {A : Type 0} → Words → Option (A × Words) → Words
rest_of_found words None = words
rest_of_found words (Some p) = p.1

-- what was found, and the words behind it
pub some_pair : {A : Type 0} (a c : A) (b d : Words) → found a b ≡ found c d → (a ≡ c) × (b ≡ d)
some_pair a c b d e = (ap (first_of_found a) e, ap (rest_of_found b) e)

module _ (n : ℕ) where
  bind : {A B : Type 0} (r s : Reader A) (f g : A → Reader B) → Alike n r s → ((x : A) → Alike n (f x) (g x)) → Alike n (r >>= f) (s >>= g)
  bind r s f g h k words le =
      then_same words (r words) (s words) f g (h words le) (λ x rest e. k x rest (omega (arith, (h words le).fewer x rest e, le)))

  alike_pure : {A : Type 0} (x : A) → Alike n (pure x) (pure x)
  alike_pure x words le = record { same = refl; fewer = λ y rest e. omega (arith, ap length (some_pair x y words rest e).1) }

  alike_word : Alike n a_word a_word
  alike_word [] le = record { same = refl; fewer = λ x rest e. absurd (cc e) }
  alike_word (w ∷ ws) le = record { same = refl; fewer = λ x rest e. omega (arith, ap length (some_pair w x ws rest e).1) }

  alike_means : {A : Type 0} (meaning : Option A) → Alike n (means meaning) (means meaning)
  alike_means None words le = record { same = refl; fewer = λ x rest e. absurd (cc e) }
  alike_means (Some y) words le = alike_pure y words le

  alike_one : {A : Type 0} (meaning : List ℕ → Option A) → Alike n (one meaning) (one meaning)
  alike_one meaning = bind a_word a_word _ _ alike_word (λ w. alike_means (meaning w))

  alike_map : {A B : Type 0} (f : A → B) (r s : Reader A) → Alike n r s → Alike n (f <$> r) (f <$> s)
  alike_map f r s h = bind r s _ _ h (λ x. alike_pure (f x))

  alike_both : {A B C : Type 0} (f : A → B → C) (r : Reader A) (s : Reader B) → Alike n r r → Alike n s s → Alike n (r >>= (λ x. s >>= (λ y. pure (f x y)))) (r >>= (λ x. s >>= (λ y. pure (f x y))))
  alike_both f r s h k = bind r r _ _ h (λ x. bind s s _ _ k (λ y. alike_pure (f x y)))

  alike_or_else : {A B : Type 0} (o : Option A) (f g : A → Reader B) (r s : Reader B) → ((x : A) → o ≡ Some x → Alike n (f x) (g x)) → Alike n r s → Alike n (or_else o f r) (or_else o g s)
  alike_or_else None f g r s h k = k
  alike_or_else (Some x) f g r s h k = h x refl

  alike_if : {A : Type 0} (b : Bool) (r s t u : Reader A) → Alike n r s → Alike n t u → Alike n (cond b r t) (cond b s u)
  alike_if true r s t u h k = h
  alike_if false r s t u h k = k

  alike_times : {A : Type 0} (k : ℕ) (r s : Reader A) → Alike n r s → Alike n (times k r) (times k s)
  alike_times zero r s h = alike_pure []
  alike_times (suc k) r s h = bind r s _ _ h (λ x. bind (times k r) (times k s) _ _ (alike_times k r s h) (λ xs. alike_pure (x ∷ xs)))

  -- each reader of a table
  abbrev AllAlike : {A : Type 0} → List (Reader A × List ℕ) → Type 0
  AllAlike [] = Unit {0}
  AllAlike (row ∷ rows) = Alike n row.0 row.0 × AllAlike rows

  alike_named : {A : Type 0} (rows : List (Reader A × List ℕ)) → AllAlike rows → (w : List ℕ) (r : Reader A) → named rows w ≡ Some r → Alike n r r
  alike_named [] all w r e = absurd (cc e)
  alike_named {A} (row ∷ rows) all w r e = first (bytes_eq w row.1) (alike_named rows all.1 w r) e
    where
      first : (b : Bool) → (named rows w ≡ Some r → Alike n r r) → cond b (Some row.0) (named rows w) ≡ Some r → Alike n r r
      first true later e = let same : row.0 ≡ r = cc e in subst (λ s. Alike n s s) same all.0
      first false later e = later e

  alike_memory : Alike n memory_at memory_at
  unfolding memory_at
  alike_memory = alike_both _ _ _ (alike_one _) (alike_one _)

  alike_layers : AllAlike layers
  alike_layers = (
    alike_map _ _ _ (alike_one _),
    (
      alike_both _ _ _ (alike_one _) (alike_one _),
      (
        alike_map _ _ _ (alike_one _),
        (
          alike_map _ _ _ (alike_one _),
          (alike_pure _, (alike_map _ _ _ alike_memory, (alike_map _ _ _ alike_memory, tt))),
        ),
      ),
    ),
  )

  alike_optional : (w : List ℕ) → Alike n (optional (layer_named w)) (optional (layer_named w))
  unfolding layer_named
  alike_optional w = by (named layers w) refl
    where
      by : (o : Option (Reader _)) → named layers w ≡ o → Alike n (optional o) (optional o)
      by None e = alike_pure None
      by (Some r) e = alike_map Some r r (alike_named layers alike_layers w r e)

  alike_parameters : (kind : TextureParameterKind) → Alike n (parameters_at kind) (parameters_at kind)
  unfolding parameters_at
  alike_parameters kinds.None = alike_pure _
  alike_parameters kinds.Sampled = alike_map _ _ _ (alike_one _)
  alike_parameters kinds.Storage = alike_both _ _ _ (alike_one _) (alike_one _)

  alike_texture : (w : List ℕ) → Alike n (texture_from w) (texture_from w)
  unfolding texture_from
  alike_texture w = bind _ _ _ _ (alike_means _) (λ name. bind _ _ _ _ (alike_parameters (parameter_kind name)) (λ p. alike_means (texture_with name p)))

  alike_rays : AllAlike rays
  alike_rays = (alike_map _ _ _ (alike_one _), (alike_map _ _ _ (alike_one _), tt))

  alike_leaf : (w : List ℕ) → Alike n (leaf_from w) (leaf_from w)
  unfolding leaf_from rays_named
  alike_leaf w = alike_or_else (rays_named w) _ _ _ _ (λ r e. alike_named rays alike_rays w r e)
      (alike_or_else (sampler_named w) _ _ _ _ (λ s e. alike_pure _) (alike_map _ _ _ (alike_texture w)))

  module _ (type other : Reader WgslType) (h : Alike n type other) where
    alike_member : Alike n (member_at type) (member_at other)
    unfolding member_at
    alike_member = bind _ _ _ _ alike_word (λ name. bind _ _ _ _ (alike_one _) (λ size. bind _ _ _ _ (alike_one _) (λ align. bind _ _ _ _ h (λ t. alike_pure _))))

    alike_struct : Alike n (struct_at type) (struct_at other)
    unfolding struct_at
    alike_struct = bind _ _ _ _ alike_word (λ name. bind _ _ _ _ (alike_one _) (λ k. bind _ _ _ _ (alike_times k _ _ alike_member) (λ ms. alike_pure _)))

    alike_other : (w : List ℕ) → Alike n (other_from type w) (other_from other w)
    unfolding other_from
    alike_other w = bind _ _ (inside type w) (inside other w) (alike_optional w) (elim [ Some layer ↦ alike_map _ _ _ h | None ↦ alike_leaf w ])

    pub alike_from : (w : List ℕ) → Alike n (type_from type w) (type_from other w)
    unfolding type_from
    alike_from w = alike_or_else (scalar_named w) _ _ _ _ (λ s e. alike_pure _) (alike_if (bytes_eq w _) _ _ _ _ alike_struct (alike_other w))

none_within : (n : ℕ) → type_within n [] ≡ None
unfolding type_within
none_within zero = refl
none_within (suc n) = refl

alike_within : (k n m : ℕ) → k ≤ n → k ≤ m → Alike k (type_within n) (type_within m)
unfolding type_within
alike_within k n m a b [] le = record { same = none_within n ∙ sym (none_within m); fewer = λ x rest e. let never : None ≡ Some (x, rest) = sym (none_within n) ∙ e in absurd (cc never) }
alike_within zero n m a b (w ∷ ws) le = absurd (omega (arith, le))
alike_within (suc k) zero m a b (w ∷ ws) le = absurd (omega (arith, a))
alike_within (suc k) (suc n) zero a b (w ∷ ws) le = absurd (omega (arith, b))
alike_within (suc k) (suc n) (suc m) a b (w ∷ ws) le =
    let h = alike_from k (type_within n) (type_within m) (alike_within k n m (omega (arith, a)) (omega (arith, b))) w ws (omega (arith, le)) in
    record { same = h.same; fewer = λ x rest e. omega (arith, h.fewer x rest e) }

-- A type begins with a word.
pub type_opens : (words : Words) → type_at words ≡ (a_word >>= type_from type_at) words
unfolding type_at type_within
type_opens [] = refl
type_opens (w ∷ ws) = (alike_from (length ws) (type_within (length ws)) type_at (λ vs le. alike_within (length vs) (length ws) (length vs) le (omega arith) vs (omega arith)) w ws (omega arith)).same
