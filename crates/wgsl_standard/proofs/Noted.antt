-- A note among others.
use Rattle.std.proofs.Common.{◌≡◌, ◌++◌, ◌+◌, ◌∙◌, ℕ, Bool, List, [], ◌∷◌, Some, ap, cond, drop, length, map, refl, subst, sym, take, All, insert}
use Rattle.wgsl_standard.proofs.Common.{prefix_len, drop-map, map-append, take-map, All-append, All-cons, All-drop, All-take, Overload, Operand, AreNotes, note_view, refused, with_note, IsMismatch, is_nearer}
use Rattle.wgsl_standard.specs.declared.explanation.Note.{Note}
use Rattle.wgsl_standard.specs.declared.refusal.Mismatch.{Mismatch}

prefix_seen : {A B : Type 0} (f : A → B) (p : B → Bool) (xs : List A) → prefix_len p (map f xs) ≡ prefix_len (λ x. p (f x)) xs
prefix_seen f p [] = refl
prefix_seen f p (x ∷ xs) = ap (λ n. cond (p (f x)) (1 + n) 0) (prefix_seen f p xs)

inserted : {A B : Type 0} (f : A → B) (xs : List A) (i : ℕ) (x : A) → map f (insert xs i x) ≡ insert (map f xs) i (f x)
inserted f xs i x = map-append f (take i xs) (x ∷ drop i xs) ∙ (ap (λ ys. ys ++ f x ∷ map f (drop i xs)) (sym (take-map f i xs)) ∙ ap (λ ys. take i (map f xs) ++ f x ∷ ys) (sym (drop-map f i xs)))

pub all_inserted : {A : Type 0} (P : A → Type 0) (old new : List A) (i : ℕ) (x : A) → new ≡ insert old i x → All P old → P x → All P new
all_inserted P old new i x e h p = subst (All P) (sym e) (All-append P (take i old) (x ∷ drop i old) (All-take P i old h) (All-cons P x (drop i old) p (All-drop P i old h)))

pub texts_inserted : {A B C : Type 0} (view : A → B) (text : A → C) (line : B → C) (old new : List A) (i : ℕ) (x : A) → new ≡ insert old i x → text x ≡ line (view x)
    → map text old ≡ map line (map view old) → map text new ≡ map line (map view new)
texts_inserted view text line old new i x e h same =
    ap (map text) e ∙ (inserted text old i x ∙ (ap (λ ys. insert ys i (text x)) same ∙ (ap (insert (map line (map view old)) i) h
    ∙ sym (ap (λ ys. map line (map view ys)) e ∙ (ap (map line) (inserted view old i x) ∙ inserted line (map view old) i (view x))))))

-- a note is put behind those that are nearer
pub note_put : (xs : List Operand) (os : List Overload) (o : Overload) (m : Mismatch) (given : ℕ) (old new : List Note) (i : ℕ) (n : Note) → given ≡ length xs → i ≡ prefix_len (λ k. is_nearer given k.mismatch m) old
    → new ≡ insert old i n → note_view n ≡ (o, m) → IsMismatch o xs (Some m) → AreNotes xs os (map note_view old) → AreNotes xs (o ∷ os) (map note_view new)
note_put xs os o m given old new i n g at e v h d =
    let notes = map note_view old in
    let place : i ≡ prefix_len (λ k. is_nearer (length xs) k.1 m) notes = at ∙ (sym (prefix_seen note_view (λ k. is_nearer given k.1 m) old) ∙ ap (λ given. prefix_len (λ k. is_nearer given k.1 m) notes) g) in
    let seen : map note_view new ≡ with_note (length xs) (o, m) notes = ap (map note_view) e ∙ (inserted note_view old i n ∙ (ap (insert notes i) v ∙ ap (λ i. insert notes i (o, m)) place)) in
    subst (AreNotes xs (o ∷ os)) (sym seen) (refused m h d)
