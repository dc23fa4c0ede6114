-- Reading takes a token after finitely many steps: each step in between lowers a weight of what is to be read.
use Rattle.std.proofs.Common.{◌≡◌, ◌&&◌, ◌||◌, ℕ, ◌+◌, ◌*◌, ◌<◌, ◌≤◌, Bool, true, false, List, [], ◌∷◌, ◌++◌, Option, Some, None, Bor, cond, length, length-append, max, nat_lt, not, zero, suc, refl, sym, ap, subst, ◌∙◌, arith, IsTrue, if◌then◌else◌, ltb-true}
use Rattle.std.specs.List.{list_all, list_any}
use Rattle.wgsl_reader.proofs.Common.{and_parts, sameb, same_true, the_type as rule_type, Kind, Mark, Rule, Symbol, below}
use Rattle.wgsl_reader.specs.Grammar.{Line, Rows, chosen, chosen_if_any, find, is_chosen, lines_of, production, rules, tables}
use Rattle.wgsl_reader.specs.declared.grammar.Symbol.TheVariants as s
use Rattle.wgsl_reader.proofs.Frames.{below_pushed}

-- all symbols may be empty, if the rules are that may be
abbrev pub all_empty : (Rule → Bool) → List Symbol → Bool
all_empty e [] = true
all_empty e (s.Token kind ∷ symbols) = false
all_empty e (s.Mark mark ∷ symbols) = all_empty e symbols
all_empty e (s.Rule rule ∷ symbols) = e rule && all_empty e symbols

-- what is to be read before a token is certain to come
abbrev pub weight : (Rule → Bool) → (Rule → ℕ) → List Symbol → ℕ
weight e w [] = 0
weight e w (s.Token kind ∷ symbols) = 0
weight e w (s.Mark mark ∷ symbols) = suc (weight e w symbols)
weight e w (s.Rule rule ∷ symbols) = w rule + cond (e rule) (weight e w symbols) 0

abbrev pub lines_or_none : Option (List Line) → List Line
lines_or_none None = []
lines_or_none (Some lines) = lines

-- which rules may be empty, and what they weigh, as found n rules deep

abbrev pub empty_within : ℕ → Rule → Bool
empty_within zero rule = false
empty_within (suc n) rule = list_any (λ line. all_empty (empty_within n) line.1) (lines_or_none (lines_of rule))

abbrev pub heaviest : (List Symbol → ℕ) → List Line → ℕ
heaviest f [] = 0
heaviest f (line ∷ lines) = max (f line.1) (heaviest f lines)

abbrev pub weight_within : ℕ → Rule → ℕ
weight_within zero rule = 0
weight_within (suc n) rule = suc (heaviest (weight (empty_within 6) (weight_within n)) (lines_or_none (lines_of rule)))

unfoldable pub is_empty : Rule → Bool
is_empty rule = empty_within 6 rule

unfoldable pub weighs : Rule → ℕ
weighs rule = weight_within 10 rule

-- a line of a rule weighs less than the rule, and may be empty only if the rule may be
abbrev pub is_light : Rule → List Symbol → Bool
is_light rule symbols = nat_lt (weight is_empty weighs symbols) (weighs rule) && (not (all_empty is_empty symbols) || is_empty rule)

abbrev pub all_light : Rows → Bool
all_light rows = list_all (λ row. list_all (λ line. is_light row.0 line.1) row.1) rows

rules_light : IsTrue (all_light rules)
unfolding tables is_empty weighs
rules_light = refl

-- so each line that is chosen is light

lines_pass : (p : List Symbol → Bool) (next : Kind) (lines : List Line) (symbols : List Symbol) → IsTrue (list_all (λ line. p line.1) lines) → chosen next lines ≡ Some symbols
    → IsTrue (p symbols)
lines_pass p next [] symbols h e = absurd (cc e)
lines_pass p next (line ∷ lines) symbols h e = turn (is_chosen next line.0) (lines_pass p next lines symbols parts.1) e
  where
    parts : IsTrue (p line.1) × IsTrue (list_all (λ line. p line.1) lines)
    parts = and_parts (p line.1) (list_all (λ line. p line.1) lines) h

    turn : (b : Bool) → (chosen next lines ≡ Some symbols → IsTrue (p symbols)) → (if b then Some line.1 else chosen next lines) ≡ Some symbols → IsTrue (p symbols)
    turn true later e = let same : line.1 ≡ symbols = cc e in subst (λ symbols. IsTrue (p symbols)) same parts.0
    turn false later e = later e

rows_pass : (rows : Rows) (rule : Rule) (lines : List Line) → IsTrue (all_light rows) → find rule rows ≡ Some lines → IsTrue (list_all (λ line. is_light rule line.1) lines)
rows_pass [] rule lines h e = absurd (cc e)
rows_pass (row ∷ rows) rule lines h e = turn (sameb rule_type rule row.0) refl (rows_pass rows rule lines parts.1) e
  where
    parts : IsTrue (list_all (λ line. is_light row.0 line.1) row.1) × IsTrue (all_light rows)
    parts = and_parts (list_all (λ line. is_light row.0 line.1) row.1) (all_light rows) h

    turn : (b : Bool) → sameb rule_type rule row.0 ≡ b → (find rule rows ≡ Some lines → IsTrue (list_all (λ line. is_light rule line.1) lines)) → (if b then Some row.1 else find rule rows) ≡ Some lines → IsTrue (list_all (λ line. is_light rule line.1) lines)
    turn true same later e =
        let found : row.1 ≡ lines = cc e in
        subst (λ lines. IsTrue (list_all (λ line. is_light rule line.1) lines)) found
        (subst (λ rule. IsTrue (list_all (λ line. is_light rule line.1) row.1)) (sym (same_true rule_type tt rule row.0 same)) parts.0)
    turn false same later e = later e

light : (rule : Rule) (next : Kind) (symbols : List Symbol) → production rule next ≡ Some symbols → IsTrue (is_light rule symbols)
light rule next symbols e = turn (lines_of rule) refl e
  where
    turn : (o : Option (List Line)) → lines_of rule ≡ o → chosen_if_any next o ≡ Some symbols → IsTrue (is_light rule symbols)
    turn None is e = absurd (cc e)
    turn (Some lines) is e = lines_pass (is_light rule) next lines symbols (rows_pass rules rule lines rules_light is) e

weight_append : (e : Rule → Bool) (w : Rule → ℕ) (a b : List Symbol) → weight e w (a ++ b) ≡ weight e w a + cond (all_empty e a) (weight e w b) 0
weight_append e w [] b = omega arith
weight_append e w (s.Token kind ∷ a) b = refl
weight_append e w (s.Mark mark ∷ a) b = let more = weight_append e w a b in omega (arith, more)
weight_append e w (s.Rule rule ∷ a) b = turn (weight_append e w a b) (e rule)
  where
    turn : weight e w (a ++ b) ≡ weight e w a + cond (all_empty e a) (weight e w b) 0 → (x : Bool) → w rule + cond x (weight e w (a ++ b)) 0 ≡ w rule + cond x (weight e w a) 0 + cond (x && all_empty e a) (weight e w b) 0
    turn more true = omega (arith, more)
    turn more false = omega arith

lower : (x y : Bool) (line rule rest : ℕ) → line < rule → IsTrue (not x || y) → line + cond x rest 0 < rule + cond y rest 0
lower true true line rule rest lt h = omega (arith, lt)
lower true false line rule rest lt h = absurd (cc h)
lower false true line rule rest lt h = omega (arith, lt)
lower false false line rule rest lt h = omega (arith, lt)

-- what the steps up to the next token lower
unfoldable pub left : List Symbol → List (Bor (List Symbol)) → ℕ
left symbols frames = weight is_empty weighs (symbols ++ below frames []) * 2 + length frames

pub popped : (symbols : List Symbol) (frame : Bor (List Symbol)) (frames rest : List (Bor (List Symbol))) → symbols ≡ [] → frames ≡ rest ++ frame ∷ [] → left frame.now rest < left symbols frames
unfolding left
popped symbols frame frames rest none e =
    let same : symbols ++ below frames [] ≡ frame.now ++ below rest [] = rw (none, e) (below_pushed rest frame []) in
    let heavy = ap (weight is_empty weighs) same in
    let more = ap length e ∙ length-append rest (frame ∷ []) in
    omega (arith, heavy, more)

pub marked : (symbols rest : List Symbol) (mark : Mark) (frames : List (Bor (List Symbol))) → symbols ≡ s.Mark mark ∷ rest → left rest frames < left symbols frames
unfolding left
marked symbols rest mark frames e =
    let heavy : weight is_empty weighs (symbols ++ below frames []) ≡ suc (weight is_empty weighs (rest ++ below frames [])) = rw e refl in
    omega (arith, heavy)

-- a line weighs less than the rule for which it stands, in front of the same symbols
pub lighter : (rule : Rule) (next : Kind) (of_rule b : List Symbol) → production rule next ≡ Some of_rule → weight is_empty weighs (of_rule ++ b) < weight is_empty weighs (s.Rule rule ∷ b)
lighter rule next of_rule b found =
    let fits = and_parts (nat_lt (weight is_empty weighs of_rule) (weighs rule)) (not (all_empty is_empty of_rule) || is_empty rule) (light rule next of_rule found) in
    let less = lower (all_empty is_empty of_rule) (is_empty rule) (weight is_empty weighs of_rule) (weighs rule) (weight is_empty weighs b) (ltb-true _ _ fits.0) fits.1 in
    let new = weight_append is_empty weighs of_rule b in
    omega (arith, less, new)

pub opened : (symbols of_rule first : List Symbol) (rule : Rule) (next : Kind) (rest : List Symbol) (frames more : List (Bor (List Symbol))) → symbols ≡ s.Rule rule ∷ rest
    → production rule next ≡ Some of_rule → first ++ below more [] ≡ of_rule ++ (rest ++ below frames []) → length more ≤ length frames + 1 → left first more < left symbols frames
unfolding left
opened symbols of_rule first rule next rest frames more e found all few =
    let b = rest ++ below frames [] in
    let less = lighter rule next of_rule b found in
    let new : weight is_empty weighs (first ++ below more []) ≡ weight is_empty weighs (of_rule ++ b) = ap (weight is_empty weighs) all in
    let old : weight is_empty weighs (symbols ++ below frames []) ≡ weight is_empty weighs (s.Rule rule ∷ b) = rw e refl in
    omega (arith, less, new, old, few)
