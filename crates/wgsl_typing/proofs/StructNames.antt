-- Structs and the indices of their names.
use Rattle.wgsl_typing.proofs.Common.{ℕ, List, [], ◌∷◌, ◌++◌, Bool, true, false, Option, Some, None, IfSome, cond, ◌≡◌, ◌+◌, ◌<◌, length, slice_get, refl, sym}
use Rattle.wgsl_typing.proofs.Common.{ap, ◌∙◌, arith, length-append, Bor, option_and_then, bytes_eq, get_or_append_left, btree_map_updates_str, Gives}
use Rattle.std.proofs.lemmas.Option.{slice_get-get_or}
use Rattle.std.proofs.Math.Seq.{get_or-append_seam}
use Rattle.wgsl_typing.specs.declared.structs.Declared.{Declared}
use Rattle.wgsl_typing.specs.declared.structs.Structs.{Structs}
use Rattle.wgsl_typing.specs.StructNames.{AreNamed, IsDeclaredAs, index_of}
use Rattle.wgsl_typing.proofs.Indices.{Index}

longer : {A : Type 0} (xs : List A) (x : A) → length (xs ++ x ∷ []) ≡ length xs + 1
longer xs x = length-append xs (x ∷ [])

at_end : {A : Type 0} (xs : List A) (x : A) → slice_get (xs ++ x ∷ []) (length xs) ≡ Some x
at_end xs x = slice_get-get_or (xs ++ x ∷ []) (length xs) x (omega (arith, longer xs x)) ∙ ap Some (get_or-append_seam xs x [] x)

before_end : {A : Type 0} (xs : List A) (x : A) (i : ℕ) → i < length xs → slice_get (xs ++ x ∷ []) i ≡ slice_get xs i
before_end xs x i h =
    slice_get-get_or (xs ++ x ∷ []) i x (omega (arith, longer xs x, h)) ∙ ap Some (get_or_append_left xs (x ∷ []) x i h) ∙ sym (slice_get-get_or xs i x h)

all_before_end : {A : Type 0} (xs : List A) (x : A) (o : Option ℕ) → IfSome o (λ i. i < length xs)
    → option_and_then (slice_get (xs ++ x ∷ [])) o ≡ option_and_then (slice_get xs) o
all_before_end xs x None h = refl
all_before_end xs x (Some i) h = before_end xs x i h

still_there : {A : Type 0} (xs : List A) (x : A) (o : Option ℕ) → IfSome o (λ i. i < length xs) → IfSome o (λ i. i < length (xs ++ x ∷ []))
still_there xs x None h = tt
still_there xs x (Some i) h = let lt : i < length xs = h in omega (arith, longer xs x, lt)

found : (index : ℕ) (old new : Index) (name : Bor (List ℕ)) (other : List ℕ) → Gives name (Some index) old new
    → index_of other new ≡ cond (bytes_eq name.now other) (Some index) (index_of other old)
found index old new name other puts = btree_map_updates_str name.now old new (Some index) puts other

chosen : (b : Bool) (items : List Declared) (d : Declared) (o : Option ℕ) → IfSome o (λ i. i < length items)
    → option_and_then (slice_get (items ++ d ∷ [])) (cond b (Some (length items)) o) ≡ cond b (Some d) (option_and_then (slice_get items) o)
chosen true items d o h = at_end items d
chosen false items d o h = all_before_end items d o h

kept : (b : Bool) (items : List Declared) (d : Declared) (o : Option ℕ) → IfSome o (λ i. i < length items)
    → IfSome (cond b (Some (length items)) o) (λ i. i < length (items ++ d ∷ []))
kept true items d o h = omega (arith, longer items d)
kept false items d o h = still_there items d o h

pub struct_declared : (name : Bor (List ℕ)) (declared : Declared) (index : ℕ) (old new : Structs) → index ≡ length old.declared.items
    → Gives name (Some index) old.names new.names → new.declared.items ≡ old.declared.items ++ declared ∷ [] → AreNamed old → IsDeclaredAs name.now declared old new
struct_declared name declared index old new here puts added are = λ other.
    rw (added, found index old.names new.names name other puts, here) (chosen (bytes_eq name.now other) old.declared.items declared (index_of other old.names) (are other))

pub named_declared : (name : Bor (List ℕ)) (declared : Declared) (index : ℕ) (old new : Structs) → index ≡ length old.declared.items
    → Gives name (Some index) old.names new.names → new.declared.items ≡ old.declared.items ++ declared ∷ [] → AreNamed old → AreNamed new
named_declared name declared index old new here puts added are = λ other.
    rw (added, found index old.names new.names name other puts, here) (kept (bytes_eq name.now other) old.declared.items declared (index_of other old.names) (are other))
