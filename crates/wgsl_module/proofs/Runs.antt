-- Events, declarations and bodies one behind the other.
use Rattle.std.proofs.Common.{◌≡◌, ◌∙◌, ◌+◌, ℕ, zero, suc, List, [], ◌∷◌, ◌++◌, ◌<◌, ap, arith, drop, get_or, length, map, option_map, slice_get, subst, sym}
use Rattle.std.proofs.lemmas.Option.{slice_get-map}
use Rattle.wgsl_module.specs.Noted.{Comes, Does}
use Rattle.wgsl_module.specs.States.{KeepsButNames, State, with_names}
use Rattle.wgsl_module.specs.Declarations.{Written, written}
use Rattle.wgsl_module.specs.Runs.{AreBodies, AreDeclarations, AreParameters, IsBodyOf, IsDeclaration, IsParameterIf, is_parameter}
use Rattle.wgsl_module.specs.declared.declaration.Declaration.{Declaration}
use Rattle.wgsl_reader.specs.declared.kind.Kind.{Kind}
use Rattle.wgsl_reader.specs.declared.read.Event.{Event}
use Rattle.wgsl_reader.specs.declared.token.Token.{Token}
use Rattle.wgsl_typing.specs.Words.{kind_at}

body_and_rest : (tokens : List Token) (ws : List Written) (index : ℕ) (s m r : State) → IsBodyOf tokens (slice_get ws index) s m
    → AreBodies tokens (drop (suc index) ws) m r → AreBodies tokens (drop index ws) s r
body_and_rest tokens [] zero s m r body rest = rest ∙ body
body_and_rest tokens [] (suc index) s m r body rest = rest ∙ body
body_and_rest tokens (w ∷ ws) zero s m r body rest = (m, body, rest)
body_and_rest tokens (w ∷ ws) (suc index) s m r body rest = body_and_rest tokens ws index s m r body rest

pub next_body : (tokens : List Token) (ds : List Declaration) (index : ℕ) (s m r : State) → IsBodyOf tokens (option_map written (slice_get ds index)) s m
    → AreBodies tokens (drop (index + 1) (map written ds)) m r → AreBodies tokens (drop index (map written ds)) s r
next_body tokens ds index s m r body rest =
    let next : index + 1 ≡ suc index = omega arith in
    body_and_rest tokens (map written ds) index s m r (subst (λ o. IsBodyOf tokens o s m) (sym (slice_get-map written ds index)) body)
    (subst (λ k. AreBodies tokens (drop k (map written ds)) m r) next rest)

event_and_rest : (tokens : List Token) (events : List Event) (index : ℕ) (d : Event) (s m r : State) → index < length events
    → Does (kind_at tokens (get_or events index d).at) (get_or events index d).mark (get_or events index d).at s m
    → Comes tokens (drop (suc index) events) m r → Comes tokens (drop index events) s r
event_and_rest tokens [] index d s m r inside does rest = absurd (omega (arith, inside))
event_and_rest tokens (e ∷ events) zero d s m r inside does rest = (m, does, rest)
event_and_rest tokens (e ∷ events) (suc index) d s m r inside does rest = event_and_rest tokens events index d s m r (omega (arith, inside)) does rest

pub next_event : (tokens : List Token) (events : List Event) (index : ℕ) (d : Event) (word : Kind) (s m r : State) → index < length events
    → word ≡ kind_at tokens (get_or events index d).at → Does word (get_or events index d).mark (get_or events index d).at s m
    → Comes tokens (drop (index + 1) events) m r → Comes tokens (drop index events) s r
next_event tokens events index d word s m r inside kind does rest =
    let next : index + 1 ≡ suc index = omega arith in
    event_and_rest tokens events index d s m r inside (rw (← kind) does) (subst (λ k. Comes tokens (drop k events) m r) next rest)

parameter_and_rest : (events : List Event) (index : ℕ) (d : Event) (s m r : State) → index < length events
    → IsParameterIf (is_parameter s.stack.context.tokens (get_or events index d).mark (get_or events index d).at) (get_or events index d).at s m
    → AreParameters (drop (suc index) events) m r → AreParameters (drop index events) s r
parameter_and_rest [] index d s m r inside is rest = absurd (omega (arith, inside))
parameter_and_rest (e ∷ events) zero d s m r inside is rest = (m, is, rest)
parameter_and_rest (e ∷ events) (suc index) d s m r inside is rest = parameter_and_rest events index d s m r (omega (arith, inside)) is rest

pub next_parameter : (events : List Event) (index : ℕ) (d : Event) (s m r : State) → index < length events
    → IsParameterIf (is_parameter s.stack.context.tokens (get_or events index d).mark (get_or events index d).at) (get_or events index d).at s m
    → AreParameters (drop (index + 1) events) m r → AreParameters (drop index events) s r
next_parameter events index d s m r inside is rest =
    let next : index + 1 ≡ suc index = omega arith in
    parameter_and_rest events index d s m r inside is (subst (λ k. AreParameters (drop k events) m r) next rest)

pub one_behind_other : (tokens : List Token) (front rest : List Event) (s m r : State) → Comes tokens front s m → Comes tokens rest m r
    → Comes tokens (front ++ rest) s r
one_behind_other tokens [] rest s m r same come = subst (λ k. Comes tokens rest k r) same come
one_behind_other tokens (e ∷ front) rest s m r came come = (came.0, came.1, one_behind_other tokens front rest came.0 m r came.2 come)

-- Declarations

index_and_rest : (tokens : List Token) (ws : List Written) (order : List ℕ) (k d : ℕ) (s m r : State) → k < length order
    → IsDeclaration tokens (get_or order k d) (slice_get ws (get_or order k d)) s m → AreDeclarations tokens ws (drop (suc k) order) m r → AreDeclarations tokens ws (drop k order) s r
index_and_rest tokens ws [] k d s m r inside is rest = absurd (omega (arith, inside))
index_and_rest tokens ws (i ∷ order) zero d s m r inside is rest = (m, is, rest)
index_and_rest tokens ws (i ∷ order) (suc k) d s m r inside is rest = index_and_rest tokens ws order k d s m r (omega (arith, inside)) is rest

pub next_declaration : (tokens : List Token) (ds now : List Declaration) (order : List ℕ) (k d : ℕ) (s m r : State) → now ≡ ds → k < length order
    → IsDeclaration tokens (get_or order k d) (option_map written (slice_get now (get_or order k d))) s m
    → AreDeclarations tokens (map written ds) (drop (k + 1) order) m r → AreDeclarations tokens (map written ds) (drop k order) s r
next_declaration tokens ds now order k d s m r same inside is rest =
    let next : k + 1 ≡ suc k = omega arith in
    let one : option_map written (slice_get now (get_or order k d)) ≡ slice_get (map written ds) (get_or order k d) =
    ap (λ xs. option_map written (slice_get xs (get_or order k d))) same ∙ sym (slice_get-map written ds (get_or order k d)) in
    index_and_rest tokens (map written ds) order k d s m r inside (subst (λ o. IsDeclaration tokens (get_or order k d) o s m) one is)
    (subst (λ j. AreDeclarations tokens (map written ds) (drop j order) m r) next rest)

pub names_alone : (s m r : State) → KeepsButNames s m → KeepsButNames m r → KeepsButNames s r
names_alone s m r first second =
    let behind : State → State = λ q. record q { stack = with_names r.stack.context.names r.stack.context.declared q.stack } in
    second ∙ ap behind first
