-- What is written at the end of a text: another text, numbers digit by digit, and lists, over values and over what these are seen as.
use Rattle.wgsl_requests.proofs.Shared.{◌≡◌, ◌∙◌, ◌++◌, ℕ, List, [], ◌∷◌, Option, Some, codes, decimal, map, refl, sym, ap, append_assoc, WgslType, listed}
use Rattle.wgsl_requests.proofs.Shared.{parameter_text, template_text, spelling, wgsl_spelling, types_of, value_of, parameter_view, view, «Type», unknown_name}
use Rattle.wgsl_requests.proofs.Shared.{given_type, Operand, WgslCall, loaded, written_view, ◌+◌, ◌<◌, ◌%◌, ◌^◌, Result, Ok, Err, arith, is_ok, OnOk}
use Rattle.wgsl_requests.proofs.Shared.{if◌then◌else◌}
use Rattle.std.proofs.lemmas.List.Folds.{flat_map-map}
use Rattle.wgsl_core.specs.declared.signature.TpltParam.{TpltParam}
use Rattle.wgsl_standard.specs.Meant.{meant}
use Rattle.wgsl_requests.specs.Texts.{no_overload_text, refusal_for, resolution_text, result_text, suggestion, unknown_text}
use Rattle.std.proofs.Common.{◌≤◌, ◌/◌}
use Rattle.std.proofs.lemmas.Fmt.{decimal_digit, decimal_step}

pub listed_seen : {A B : Type 0} (text : B → List ℕ) (f : A → B) (xs : List A) → listed text (map f xs) ≡ listed (λ x. text (f x)) xs
listed_seen text f [] = refl
listed_seen text f (x ∷ xs) = ap (λ rest. text (f x) ++ rest) (flat_map-map (λ y. codes ", " ++ text y) f xs)

pub operand_types : (xs : List Operand) → listed wgsl_spelling (types_of (loaded (map written_view xs))) ≡ listed (λ x. wgsl_spelling (value_of (given_type x.ty))) xs
operand_types xs = listed_seen wgsl_spelling (λ x. x.of_type) (loaded (map written_view xs))
    ∙ listed_seen (λ x. wgsl_spelling x.of_type) (λ x. record { of_type = value_of x.of_type; is_constant = x.is_constant }) (map written_view xs)
    ∙ listed_seen (λ x. wgsl_spelling (value_of x.of_type)) written_view xs

-- the text of a resolution, of which the result is written last

resolution_parts : (old n opened types close r : List ℕ) → (((old ++ (n ++ opened)) ++ types) ++ close) ++ r ≡ old ++ (n ++ opened ++ types ++ close ++ r)
resolution_parts old n opened types close r = simp append_assoc

pub resolution_written : (old opened shown closed : List ℕ) (n : ℕ) (types : List «Type») (r : Option WgslType)
    → opened ≡ old ++ (decimal n ++ codes " (") → shown ≡ opened ++ listed (λ t. wgsl_spelling (view t)) types → closed ≡ shown ++ codes ")"
    → closed ++ result_text r ≡ old ++ resolution_text (n, map view types, r)
resolution_written old opened shown closed n types r a b c =
    let so_far : shown ≡ (old ++ (decimal n ++ codes " (")) ++ listed wgsl_spelling (map view types) = b ∙ ap (λ y. opened ++ y) (sym (listed_seen wgsl_spelling view types)) ∙ ap (λ y. y ++ listed wgsl_spelling (map view types)) a in
    ap (λ y. y ++ result_text r) (c ∙ ap (λ y. y ++ codes ")") so_far)
    ∙ resolution_parts old (decimal n) (codes " (") (listed wgsl_spelling (map view types)) (codes ")") (result_text r)

-- the text of a template, in the parts in which it is written
pub template_written : (old opened shown : List ℕ) (ps : List TpltParam) → opened ≡ old ++ codes "<" → shown ≡ opened ++ listed (λ p. parameter_text (parameter_view p)) ps
    → shown ++ codes ">" ≡ old ++ template_text (Some (map parameter_view ps))
template_written old opened shown ps a b =
    ap (λ y. y ++ codes ">") (b ∙ ap (λ y. y ++ listed (λ p. parameter_text (parameter_view p)) ps) a ∙ ap (λ y. (old ++ codes "<") ++ y) (sym (listed_seen parameter_text parameter_view ps)))
    ∙ parts (listed parameter_text (map parameter_view ps))
  where
    parts : (list : List ℕ) → ((old ++ codes "<") ++ list) ++ codes ">" ≡ old ++ (codes "<" ++ list ++ codes ">")
    parts list = simp append_assoc

-- that nothing has a name, with the name that may be meant

unknown_parts : (old head name tick rest : List ℕ) → (old ++ (head ++ (name ++ tick))) ++ rest ≡ old ++ (head ++ name ++ tick ++ rest)
unknown_parts old head name tick rest = simp append_assoc

pub unknown_written : (old said name : List ℕ) (near : Option (List ℕ)) → near ≡ meant name
    → said ≡ old ++ (codes "nothing has the name `" ++ (name ++ codes "`")) → said ++ suggestion near ≡ old ++ unknown_text name
unknown_written old said name near same a =
    ap (λ y. y ++ suggestion near) a ∙ unknown_parts old (codes "nothing has the name `") name (codes "`") (suggestion near)
    ∙ ap (λ m. old ++ (codes "nothing has the name `" ++ name ++ codes "`" ++ suggestion m)) same

pub refused_unknown : (call : WgslCall) (found : Option (List ℕ)) (name : List ℕ) → found ≡ unknown_name call.callee → found ≡ Some name
    → unknown_text name ≡ no_overload_text call
refused_unknown call found name seen is = ap (λ f. refusal_for f call) (sym is ∙ seen)

-- the text of a refusal, in the parts in which it is written

refusal_parts : (old head name template takes types close : List ℕ) → (((((old ++ head) ++ name) ++ template) ++ takes) ++ types) ++ close ≡ old ++ (head ++ name ++ template ++ takes ++ types ++ close)
refusal_parts old head name template takes types close = simp append_assoc

pub refusal_written : (old first named with taken shown all name template : List ℕ) (xs : List Operand) → first ≡ old ++ codes "no overload of `" → named ≡ first ++ name → with ≡ named ++ template
    → taken ≡ with ++ codes "` takes (" → shown ≡ taken ++ listed (λ x. wgsl_spelling (value_of (given_type x.ty))) xs → all ≡ shown ++ codes ")"
    → all ≡ old ++ (codes "no overload of `" ++ name ++ template ++ codes "` takes (" ++ listed wgsl_spelling (types_of (loaded (map written_view xs))) ++ codes ")")
refusal_written old first named with taken shown all name template xs a b c d e f =
    let types = listed wgsl_spelling (types_of (loaded (map written_view xs))) in
    let so_far : taken ≡ (((old ++ codes "no overload of `") ++ name) ++ template) ++ codes "` takes (" = d ∙ ap (λ y. y ++ codes "` takes (") (c ∙ ap (λ y. y ++ template) (b ∙ ap (λ y. y ++ name) a)) in
    f ∙ ap (λ y. y ++ codes ")") (e ∙ ap (λ y. taken ++ y) (sym (operand_types xs)) ∙ ap (λ y. y ++ types) so_far)
    ∙ refusal_parts old (codes "no overload of `") name template (codes "` takes (") types (codes ")")

-- that a call is refused, with its name, its template and the types of its arguments

call_parts : (old head name template bracket types close tick : List ℕ) → (((((old ++ head) ++ name) ++ template) ++ bracket) ++ types) ++ (close ++ tick)
    ≡ old ++ (head ++ (name ++ template ++ bracket ++ types ++ close) ++ tick)
call_parts old head name template bracket types close tick = simp append_assoc

pub call_written : (old first named with opened shown name template : List ℕ) (ts : List «Type») → first ≡ old ++ codes "invalid function call signature: `" → named ≡ first ++ name
    → with ≡ named ++ template → opened ≡ with ++ codes "(" → shown ≡ opened ++ listed (λ t. spelling (view t)) ts
    → shown ++ codes ")`" ≡ old ++ (codes "invalid function call signature: `" ++ (name ++ template ++ codes "(" ++ listed spelling (map view ts) ++ codes ")") ++ codes "`")
call_written old first named with opened shown name template ts a b c d e =
    let types = listed spelling (map view ts) in
    let so_far : opened ≡ (((old ++ codes "invalid function call signature: `") ++ name) ++ template) ++ codes "(" = d ∙ ap (λ y. y ++ codes "(") (c ∙ ap (λ y. y ++ template) (b ∙ ap (λ y. y ++ name) a)) in
    ap (λ y. y ++ codes ")`") (e ∙ ap (λ y. opened ++ y) (sym (listed_seen spelling view ts)) ∙ ap (λ y. y ++ types) so_far)
    ∙ call_parts old (codes "invalid function call signature: `") name template (codes "(") types (codes ")") (codes "`")

-- what `push_str` writes
pub pushed : {T E : Type 0} → (r : Result T E) (new old text : List ℕ) → new ≡ (if is_ok r then old ++ text else old) → OnOk r (new ≡ old ++ text)
pushed (Ok x) new old text e = e
pushed (Err e) new old text p = tt

-- the last digit, behind those in front of it
pub last_digit : (n : ℕ) (old mid : List ℕ) → 10 ≤ n → n < 2 ^ 64 → mid ≡ old ++ decimal (n / 10) → mid ++ (48 + n % 10) ∷ [] ≡ old ++ decimal n
last_digit n old mid more fits is =
    ap (λ m. m ++ (48 + n % 10) ∷ []) is ∙ (append_assoc old (decimal (n / 10)) ((48 + n % 10) ∷ []) ∙ ap (λ ds. old ++ ds) (sym (decimal_step n more fits)))

-- the only digit
pub one_digit : (n : ℕ) (old mid : List ℕ) → n < 10 → mid ≡ old → mid ++ (48 + n % 10) ∷ [] ≡ old ++ decimal n
one_digit n old mid few is =
    let same : n % 10 ≡ n = omega (arith, few) in
    ap (λ m. m ++ (48 + n % 10) ∷ []) is ∙ ap (λ ds. old ++ ds) (ap (λ k. (48 + k) ∷ []) same ∙ sym (decimal_digit n few))
