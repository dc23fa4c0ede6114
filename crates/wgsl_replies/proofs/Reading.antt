-- What is read, from what the functions answer that read its parts; template parameters, one after another.
use Rattle.wgsl_replies.proofs.Common.{◌≡◌, ◌≢◌, ◌+◌, ◌-◌, ◌<◌, ◌≤◌, ◌++◌, ◌∷◌, ℕ, zero, suc, Bool, true, false, List, [], length, set, take, get_or, Option}
use Rattle.wgsl_replies.proofs.Common.{Some, None, Result, IsErrAnd, codes, option_map, refl, sym, ap, subst, ◌∙◌, append_assoc, arith, bytes_eq, append-nil}
use Rattle.wgsl_replies.proofs.Common.{bytes_eq-Decides, Member, members_of, Fail, around, WgslType, scalar, struct, wrapped, scalar_named, long, Gives, Misses}
use Rattle.wgsl_replies.proofs.Common.{Reader, Reads, Words, a_word, all, all_behind, all_within, alone, and_then, last, one, optional, pair, pure, times}
use Rattle.wgsl_replies.proofs.Common.{in_layer, inside, layer_named, member_at, other_from, struct_at, type_at, type_from, cond, false_from_ne_true}
use Rattle.std.proofs.Common.{IfSome}
use Rattle.std.proofs.Math.Seq.{take-suc, take-suc-set}
use Rattle.std.proofs.lemmas.Result.{err_from_is_err_and}
use Rattle.wgsl_syntax.specs.declared.around.Around.{Around}
use Rattle.wgsl_syntax.specs.declared.scalar.Scalar.{Scalar}
use Rattle.wgsl_syntax.specs.declared.scalar.Scalar.TheVariants as scalar_names
use Rattle.wgsl_syntax.specs.Scalar.{scalar_text, scalars}
use Rattle.wgsl_core.specs.declared.error.Fail.TheVariants.{Error, Memory}
use Rattle.wgsl_replies.specs.declared.words.wanted.Misfit.{Misfit}
use Rattle.wgsl_syntax.proofs.Naming.{named_text}
use Rattle.wgsl_replies.proofs.Within.{some_pair, type_opens}
use Rattle.wgsl_rules.specs.types.Signatures.{Parameter}
use Rattle.wgsl_replies.specs.words.Templates.{parameter_from, parameters_at, parameters_within}

misses : {A B : Type 0} (found : Option A) (other : Option B) (e : Fail Misfit) → (other ≡ None → found ≡ None) → Misses e other → Misses e found
misses found other (Error misfit) f none = f none
misses found other (Memory e) f none = tt

module _ {A B C : Type 0} (view : A → B) (other : Option C) (r : Result A (Fail Misfit)) (e : Fail Misfit) (same : IsErrAnd r (λ y. y ≡ e)) (none : Misses e other) where
  -- the exit of a `?`
  pub missed : (found : Option (B × Words)) (left : Words) → (other ≡ None → found ≡ None) → Reads view found r left
  missed found left f =
      let p = err_from_is_err_and r same in
      subst (λ r. Reads view found r left) (sym p.1) (subst (λ e. Misses e found) (sym p.2) (misses found other e f none))

  pub none_given : (found : Option B) → (other ≡ None → found ≡ None) → Gives view found r
  none_given found f =
      let p = err_from_is_err_and r same in
      subst (λ r. Gives view found r) (sym p.1) (subst (λ e. Misses e found) (sym p.2) (misses found other e f none))

-- the same, by what is found
pub reads_as : {A B : Type 0} (view : A → B) (found other : Option (B × Words)) (r : Result A (Fail Misfit)) (left : Words) → found ≡ other → Reads view other r left → Reads view found r left
reads_as view found other r left e h = subst (λ o. Reads view o r left) (sym e) h

-- Types

pub opened : (words : Words) (w : List ℕ) (rest : Words) → a_word words ≡ Some (w, rest) → type_at words ≡ type_from type_at w rest
opened words w rest e = type_opens words ∙ ap (λ o. and_then o (type_from type_at)) e

pub not_opened : (words : Words) → a_word words ≡ None → type_at words ≡ None
not_opened words e = type_opens words ∙ ap (λ o. and_then o (type_from type_at)) e

module _ (layer : Around) (words : Words) where
  pub nothing_in_layer : a_word words ≡ None → in_layer layer type_at words ≡ None
  nothing_in_layer e = ap (λ o. and_then o (λ t. pure (around layer t))) (not_opened words e)

  pub opened_layer : (w : List ℕ) (rest : Words) → a_word words ≡ Some (w, rest) → in_layer layer type_at words ≡ in_layer layer (type_from type_at w) rest
  opened_layer w rest e = ap (λ o. and_then o (λ t. pure (around layer t))) (opened words w rest e)

  pub scalar_in_layer : (w : List ℕ) (rest : Words) (s : Scalar) (t : WgslType) → a_word words ≡ Some (w, rest) → scalar_named w ≡ Some s → t ≡ around layer (scalar s) → in_layer layer type_at words ≡ Some (t, rest)
  unfolding type_from
  scalar_in_layer w rest s t e f is = opened_layer w rest e ∙ rw f (ap (λ u. Some (u, rest)) (sym is))

pub scalar_found : (w : List ℕ) (words : Words) (s : Scalar) → scalar_named w ≡ Some s → type_from type_at w words ≡ Some (scalar s, words)
unfolding type_from
scalar_found w words s e = rw e refl

pub scalar_is : (found : Option Scalar) (w : List ℕ) → found ≡ scalar_named w → IfSome found (λ s. scalar_named w ≡ Some s)
scalar_is None w e = tt
scalar_is (Some s) w e = sym e

-- Layers

pub wrapped-last : (layers : List Around) (layer : Around) (t : WgslType) → wrapped (layers ++ layer ∷ []) t ≡ wrapped layers (around layer t)
wrapped-last [] layer t = refl
wrapped-last (first ∷ layers) layer t = ap (around first) (wrapped-last layers layer t)

-- the last of the layers around the type
pub wrapped-take : (layers : List Around) (n : ℕ) (default : Around) (t : WgslType) → 0 < n → n ≤ length layers → wrapped (take n layers) t ≡ wrapped (take (n - 1) layers) (around (get_or layers (n - 1) default) t)
wrapped-take layers zero default t some within = absurd (omega (arith, some))
wrapped-take layers (suc k) default t some within =
    let before : suc k - 1 ≡ k = omega arith in
    let last : take (suc k) layers ≡ take k layers ++ get_or layers k default ∷ [] = take-suc layers k default (omega (arith, within)) in
    rw before (ap (λ ls. wrapped ls t) last ∙ wrapped-last (take k layers) (get_or layers k default) t)

-- one more layer in the array
pub take_set : (layers : List Around) (n : ℕ) (layer : Around) → n < length layers → take (n + 1) (set layers n layer) ≡ take n layers ++ layer ∷ []
take_set layers n layer within = let e : n + 1 ≡ suc n = omega arith in rw e (take-suc-set layers n layer within)

-- what was found, in these layers
abbrev pub in_layers : List Around → Option (WgslType × Words) → Option (WgslType × Words)
in_layers layers found = and_then found (λ t. pure (wrapped layers t))

in_one_more : (layers : List Around) (layer : Around) (found : Option (WgslType × Words)) → in_layers layers (and_then found (λ t. pure (around layer t))) ≡ in_layers (layers ++ layer ∷ []) found
in_one_more layers layer None = refl
in_one_more layers layer (Some p) = ap (λ t. Some (t, p.1)) (sym (wrapped-last layers layer p.0))

scalar_no_layer : (s : Scalar) → layer_named (scalar_text s) ≡ None
unfolding layer_named
scalar_no_layer scalar_names.Bool = refl
scalar_no_layer _ = refl

struct_no_layer : layer_named (codes "struct") ≡ None
unfolding layer_named
struct_no_layer = refl

named_scalar : (w : List ℕ) (s : Scalar) → scalar_named w ≡ Some s → w ≡ scalar_text s
unfolding scalar_named
named_scalar w s e = named_text scalar_text scalars w s e

-- a word of a layer is neither a scalar nor `struct`
is_other : (w : List ℕ) (now : Words) → layer_named w ≢ None → type_from type_at w now ≡ other_from type_at w now
unfolding type_from
is_other w now some = by (scalar_named w) (bytes_eq w (codes "struct")) refl refl
  where
    by : (o : Option Scalar) (b : Bool) → scalar_named w ≡ o → bytes_eq w (codes "struct") ≡ b → type_from type_at w now ≡ other_from type_at w now
    by (Some s) b e f = absurd (some (ap layer_named (named_scalar w s e) ∙ scalar_no_layer s))
    by None true e f = absurd (some (ap layer_named ((bytes_eq-Decides w (codes "struct")).0 f) ∙ struct_no_layer))
    by None false e f = rw (e, f) refl

abbrev is_layer : (o : Option Around) → Bool
is_layer None = false
is_layer (Some layer) = true

abbrev layer_read : Option Around → Words → Option (Option Around × Words)
layer_read layer words = Some (layer, words)

-- a layer, and none
not_both : (layer : Around) (mid now : Words) → layer_read (Some layer) mid ≡ layer_read None now → ⊥
not_both layer mid now e = let p = (some_pair (Some layer) None mid now e).0 in let b : true ≡ false = ap is_layer p in cc b

layer_found : (w : List ℕ) (now : Words) → optional (layer_named w) now ≢ Some (None, now) → type_from type_at w now ≡ and_then (optional (layer_named w) now) (inside type_at w)
unfolding other_from
layer_found w now some = is_other w now (λ none. some (ap (λ o. optional o now) none))

module _ (layers : List Around) (w : List ℕ) (now : Words) where
  pub no_layer : optional (layer_named w) now ≡ None → in_layers layers (type_from type_at w now) ≡ None
  no_layer e =
      let at = layer_found w now (λ f. absurd (cc (sym e ∙ f))) in
      ap (in_layers layers) (at ∙ ap (λ o. and_then o (inside type_at w)) e)

  module _ (layer : Around) (mid : Words) (e : optional (layer_named w) now ≡ Some (Some layer, mid)) where
    more : in_layers layers (type_from type_at w now) ≡ in_layers (layers ++ layer ∷ []) (type_at mid)
    more =
        let at = layer_found w now (λ f. not_both layer mid now (sym e ∙ f)) in
        ap (in_layers layers) (at ∙ ap (λ o. and_then o (inside type_at w)) e) ∙ in_one_more layers layer (type_at mid)

    pub next_layer : (next : List ℕ) (after : Words) → a_word mid ≡ Some (next, after) → in_layers layers (type_from type_at w now) ≡ in_layers (layers ++ layer ∷ []) (type_from type_at next after)
    next_layer next after f = more ∙ ap (in_layers (layers ++ layer ∷ [])) (opened mid next after f)

    pub nothing_inside : a_word mid ≡ None → in_layers layers (type_from type_at w now) ≡ None
    nothing_inside f = more ∙ ap (in_layers (layers ++ layer ∷ [])) (not_opened mid f)

-- Structs

-- what was read before, and what was found
abbrev pub in_front : {A : Type 0} → List A → Option (List A × Words) → Option (List A × Words)
in_front xs found = and_then found (λ ys. pure (xs ++ ys))

pub front_none : {A : Type 0} (found : Option (List A × Words)) → in_front [] found ≡ found
front_none None = refl
front_none (Some p) = refl

pub front_one : {A : Type 0} (xs : List A) (x : A) (found : Option (List A × Words)) → in_front xs (and_then found (λ ys. pure (x ∷ ys))) ≡ in_front (xs ++ x ∷ []) found
front_one xs x None = refl
front_one xs x (Some p) = ap (λ ys. Some (ys, p.1)) (sym (append_assoc xs (x ∷ []) p.0))

module _ {A : Type 0} (r : Reader A) where
  pub times_start : (n left : ℕ) (now : Words) → left ≡ n → times n r now ≡ in_front [] (times left r now)
  times_start n left now e = sym (front_none (times n r now)) ∙ ap (λ k. in_front [] (times k r now)) (sym e)

  pub times_next : (left fewer : ℕ) (xs : List A) (now : Words) (x : A) (after : Words) (longer : List A) → left ≡ suc fewer → r now ≡ Some (x, after) → longer ≡ xs ++ x ∷ [] → in_front xs (times left r now) ≡ in_front longer (times fewer r after)
  times_next left fewer xs now x after longer e f is =
      ap (λ k. in_front xs (times k r now)) e ∙ (ap (λ o. in_front xs (and_then o (λ x. λ words. and_then (times fewer r words) (λ ys. pure (x ∷ ys))))) f ∙ (front_one xs x (times fewer r after) ∙ ap (λ ys. in_front ys (times fewer r after)) (sym is)))

  pub times_none : (left fewer : ℕ) (xs : List A) (now : Words) → left ≡ suc fewer → r now ≡ None → in_front xs (times left r now) ≡ None
  times_none left fewer xs now e f =
      ap (λ k. in_front xs (times k r now)) e ∙ ap (λ o. in_front xs (and_then o (λ x. λ words. and_then (times fewer r words) (λ ys. pure (x ∷ ys))))) f

  pub times_end : (left : ℕ) (xs : List A) (now : Words) → left ≡ 0 → in_front xs (times left r now) ≡ Some (xs, now)
  times_end left xs now e = ap (λ k. in_front xs (times k r now)) e ∙ ap (λ ys. Some (ys, now)) (append-nil xs)

module _ (words : Words) (name : List ℕ) (mid : Words) (e : a_word words ≡ Some (name, mid)) where
  pub no_count : one long mid ≡ None → struct_at type_at words ≡ None
  unfolding struct_at
  no_count f = rw (e, f) refl

  module _ (n : ℕ) (start : Words) (f : one long mid ≡ Some (n, start)) where
    pub no_members : times n (member_at type_at) start ≡ None → struct_at type_at words ≡ None
    unfolding struct_at
    no_members g = rw (e, f, g) refl

    pub struct_found : (ms : List Member) (after : Words) (t : WgslType) → times n (member_at type_at) start ≡ Some (ms, after) → t ≡ struct name (members_of ms) → struct_at type_at words ≡ Some (t, after)
    unfolding struct_at
    struct_found ms after t g is = rw (e, f, g) (ap (λ u. Some (u, after)) (sym is))

-- All words

pub alone_type : (words : Words) (t : WgslType) (rest : Words) → type_at words ≡ Some (t, rest) → rest ≡ [] → last type_at words ≡ Some t
alone_type words t rest e f = ap alone (e ∙ ap (λ ws. Some (t, ws)) f)

not_alone : (t : WgslType) (rest : Words) → rest ≢ [] → alone (Some (t, rest)) ≡ None
not_alone t [] f = absurd (f refl)
not_alone t (w ∷ ws) f = refl

pub left_over : (words : Words) (t : WgslType) (rest : Words) → type_at words ≡ Some (t, rest) → rest ≢ [] → last type_at words ≡ None
left_over words t rest e f = ap alone e ∙ not_alone t rest f

-- what was read before, and all others
abbrev pub before : List WgslType → Option (List WgslType) → Option (List WgslType)
before ts others = option_map (λ us. ts ++ us) others

-- The types were read, and those in these words are to be.
abbrev pub Half : Words → List WgslType → Words → Type 0
Half start ts now = (n : ℕ) × (length now ≤ n) × (all type_at start ≡ before ts (all_within n type_at now))

before_none : (others : Option (List WgslType)) → before [] others ≡ others
before_none None = refl
before_none (Some ts) = refl

before_one : (ts : List WgslType) (t : WgslType) (others : Option (List WgslType)) → before ts (option_map (λ us. t ∷ us) others) ≡ before (ts ++ t ∷ []) others
before_one ts t None = refl
before_one ts t (Some us) = ap Some (sym (append_assoc ts (t ∷ []) us))

pub all_start : (words : Words) → Half words [] words
unfolding all
all_start words = (length words, omega arith, sym (before_none (all_within (length words) type_at words)))

step : (n : ℕ) (w : List ℕ) (mid : Words) → all_within (suc n) type_at (w ∷ mid) ≡ all_behind (all_within n type_at) (type_from type_at w mid)
step n w mid = ap (all_behind (all_within n type_at)) (opened (w ∷ mid) w mid refl)

pub is_cons : (words : Words) (w : List ℕ) (rest : Words) → a_word words ≡ Some (w, rest) → words ≡ w ∷ rest
is_cons [] w rest e = absurd (cc e)
is_cons (v ∷ vs) w rest e = let p = some_pair v w vs rest e in ap (λ x. x ∷ vs) p.0 ∙ ap (λ xs. w ∷ xs) p.1

pub is_nil : (words : Words) → a_word words ≡ None → words ≡ []
is_nil [] e = refl
is_nil (v ∷ vs) e = absurd (cc e)

module _ (start : Words) (ts : List WgslType) (now : Words) (h : Half start ts now) where
  half_at : (w : List ℕ) (mid : Words) → a_word now ≡ Some (w, mid) → (n : ℕ) × (length mid ≤ n) × (all type_at start ≡ before ts (all_behind (all_within n type_at) (type_from type_at w mid)))
  half_at w mid e = by h.0 (subst (λ ws. length ws ≤ h.0) (is_cons now w mid e) h.1) (subst (λ ws. all type_at start ≡ before ts (all_within h.0 type_at ws)) (is_cons now w mid e) h.2)
    where
      by : (n : ℕ) → length (w ∷ mid) ≤ n → all type_at start ≡ before ts (all_within n type_at (w ∷ mid)) → (n : ℕ) × (length mid ≤ n) × (all type_at start ≡ before ts (all_behind (all_within n type_at) (type_from type_at w mid)))
      by zero le e = absurd (omega (arith, le))
      by (suc n) le e = (n, omega (arith, le), e ∙ ap (before ts) (step n w mid))

  pub half_next : (w : List ℕ) (mid : Words) (t : WgslType) (after : Words) (more : List WgslType) → a_word now ≡ Some (w, mid) → type_from type_at w mid ≡ Some (t, after) → length after ≤ length mid → more ≡ ts ++ t ∷ [] → Half start more after
  half_next w mid t after more e f le is =
      let g = half_at w mid e in
      (g.0, omega (arith, g.1, le), g.2 ∙ (ap (λ o. before ts (all_behind (all_within g.0 type_at) o)) f ∙ (before_one ts t (all_within g.0 type_at after) ∙ ap (λ xs. before xs (all_within g.0 type_at after)) (sym is))))

  pub half_none : (w : List ℕ) (mid : Words) → a_word now ≡ Some (w, mid) → type_from type_at w mid ≡ None → all type_at start ≡ None
  half_none w mid e f = let g = half_at w mid e in g.2 ∙ ap (λ o. before ts (all_behind (all_within g.0 type_at) o)) f

  pub half_end : a_word now ≡ None → all type_at start ≡ Some ts
  half_end e = h.2 ∙ (ap (λ ws. before ts (all_within h.0 type_at ws)) (is_nil now e) ∙ by h.0)
    where
      by : (n : ℕ) → before ts (all_within n type_at []) ≡ Some ts
      by zero = ap Some (append-nil ts)
      by (suc n) = ap Some (append-nil ts)

-- the second of two, behind the first
abbrev second : WgslType → Option (WgslType × Words) → Option ((WgslType × WgslType) × Words)
second t found = and_then found (λ u. pure (t, u))

pub pair_found : (words : Words) (t : WgslType) (mid : Words) (u : WgslType) → type_at words ≡ Some (t, mid) → last type_at mid ≡ Some u → last (pair type_at) words ≡ Some (t, u)
pair_found words t mid u e f = rw e (by (type_at mid) f)
  where
    by : (found : Option (WgslType × Words)) → alone found ≡ Some u → alone (second t found) ≡ Some (t, u)
    by None f = absurd (cc f)
    by (Some (x, [])) f = let same : x ≡ u = cc f in ap (λ u. Some (t, u)) same
    by (Some (x, w ∷ ws)) f = absurd (cc f)

pub no_second : (words : Words) (t : WgslType) (mid : Words) → type_at words ≡ Some (t, mid) → last type_at mid ≡ None → last (pair type_at) words ≡ None
no_second words t mid e f = rw e (by (type_at mid) f)
  where
    by : (found : Option (WgslType × Words)) → alone found ≡ None → alone (second t found) ≡ None
    by None f = refl
    by (Some (x, [])) f = absurd (cc f)
    by (Some (x, w ∷ ws)) f = refl

pub no_first : (words : Words) → type_at words ≡ None → last (pair type_at) words ≡ None
no_first words e = rw e refl

-- The parameters were read, and those in these words are to be.
abbrev pub Part : Words → List Parameter → Words → Type 0
Part start ps now = (n : ℕ) × (length now ≤ n) × (parameters_at start ≡ in_front ps (parameters_within n now))

pub part_start : (words : Words) → Part words [] words
unfolding parameters_at
part_start words = (length words, omega arith, sym (front_none (parameters_within (length words) words)))

-- the rest, behind a word other than `>`
abbrev behind : ℕ → List ℕ → Words → Option (List Parameter × Words)
behind n w mid = and_then (parameter_from w mid) (λ p. λ words. and_then (parameters_within n words) (λ ps. pure (p ∷ ps)))

module _ (start : Words) (ps : List Parameter) (now : Words) (h : Part start ps now) where
  pub part_missing : a_word now ≡ None → parameters_at start ≡ None
  part_missing e = h.2 ∙ (ap (λ ws. in_front ps (parameters_within h.0 ws)) (is_nil now e) ∙ by h.0)
    where
      by : (n : ℕ) → in_front ps (parameters_within n []) ≡ None
      by zero = refl
      by (suc n) = refl

  module _ (w : List ℕ) (mid : Words) (e : a_word now ≡ Some (w, mid)) where
    opened_word : (n : ℕ) × (length mid ≤ n) × (parameters_at start ≡ in_front ps (cond (bytes_eq w (codes ">")) (Some ([], mid)) (behind n w mid)))
    opened_word = by h.0 (subst (λ ws. length ws ≤ h.0) (is_cons now w mid e) h.1) (subst (λ ws. parameters_at start ≡ in_front ps (parameters_within h.0 ws)) (is_cons now w mid e) h.2)
      where
        pick : (n : ℕ) → parameters_within (suc n) (w ∷ mid) ≡ cond (bytes_eq w (codes ">")) (Some ([], mid)) (behind n w mid)
        pick n = by_test (bytes_eq w (codes ">")) refl
          where
            by_test : (b : Bool) → bytes_eq w (codes ">") ≡ b → parameters_within (suc n) (w ∷ mid) ≡ cond (bytes_eq w (codes ">")) (Some ([], mid)) (behind n w mid)
            by_test true f = rw f refl
            by_test false f = rw f refl

        by : (n : ℕ) → length (w ∷ mid) ≤ n → parameters_at start ≡ in_front ps (parameters_within n (w ∷ mid)) → (n : ℕ) × (length mid ≤ n) × (parameters_at start ≡ in_front ps (cond (bytes_eq w (codes ">")) (Some ([], mid)) (behind n w mid)))
        by zero le f = absurd (omega (arith, le))
        by (suc n) le f = (n, omega (arith, le), f ∙ ap (in_front ps) (pick n))

    pub part_end : w ≡ codes ">" → parameters_at start ≡ Some (ps, mid)
    part_end is = opened_word.2 ∙ (ap (λ v. in_front ps (cond (bytes_eq v (codes ">")) (Some ([], mid)) (behind opened_word.0 w mid))) is ∙ ap (λ qs. Some (qs, mid)) (append-nil ps))

    other : w ≢ codes ">" → parameters_at start ≡ in_front ps (behind opened_word.0 w mid)
    other not_end = opened_word.2 ∙ ap (λ b. in_front ps (cond b (Some ([], mid)) (behind opened_word.0 w mid))) (false_from_ne_true _ (λ e. not_end ((bytes_eq-Decides w (codes ">")).0 e)))

    pub part_none : w ≢ codes ">" → parameter_from w mid ≡ None → parameters_at start ≡ None
    part_none not_end f = other not_end ∙ ap (λ o. in_front ps (and_then o (λ p. λ words. and_then (parameters_within opened_word.0 words) (λ ps. pure (p ∷ ps))))) f

    pub part_next : (p : Parameter) (after : Words) (more : List Parameter) → w ≢ codes ">" → parameter_from w mid ≡ Some (p, after) → length after ≤ length mid → more ≡ ps ++ p ∷ [] → Part start more after
    part_next p after more not_end f le is = (
      opened_word.0,
      omega (arith, opened_word.1, le),
      other not_end ∙ (ap (λ o. in_front ps (and_then o (λ p. λ words. and_then (parameters_within opened_word.0 words) (λ ps. pure (p ∷ ps))))) f
          ∙ (front_one ps p (parameters_within opened_word.0 after) ∙ ap (λ qs. in_front qs (parameters_within opened_word.0 after)) (sym is))),
    )
