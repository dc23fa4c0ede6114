-- The lines that are printed for a name, and which of them is an overload's: its index in a signature, in a note and in a
-- resolved call.
use Rattle.std.specs.Prelude.{ℕ, ◌+◌, ◌≡◌, List, [], ◌∷◌, ◌++◌, Option, Some, None, Bool, false, ◌&&◌, ◌||◌, cond, filter, length, map, slice_get, take}
use Rattle.std.specs.List.{flat_map}
use Rattle.std.specs.Str.{bytes_eq}
use Rattle.wgsl_syntax.specs.Operator.{binary_operators, binary_text, unary_operators, unary_text}
use Rattle.wgsl_syntax.specs.declared.overload.Overload.{Overload}
use Rattle.wgsl_syntax.specs.declared.overload.Pattern.{Pattern}
use Rattle.wgsl_rules.specs.types.Types.{WgslType}
use Rattle.wgsl_rules.specs.standard.Overloads.{patterns_of}
use Rattle.wgsl_rules.specs.standard.Signatures.{is_scalar_or_vector, signature_lines}
use Rattle.wgsl_standard.specs.Callees.{WgslCallee, a_binary, a_constructor, a_function, a_unary, overloads_listed}
use Rattle.wgsl_standard.specs.Explained.{or_none}
use Rattle.wgsl_standard.specs.Texts.{callee_text, first_line_of, is_vector, line_of, lines_listed, name_of, texts_listed}
use Rattle.wgsl_standard.specs.declared.explanation.Note.{Note}
use Rattle.wgsl_standard.specs.declared.signature.Signature.{Signature}

abbrev pub unary_operators_named : List ℕ → List WgslCallee
unary_operators_named name = map a_unary (filter (λ o. bytes_eq name (unary_text o)) unary_operators)

abbrev pub binary_operators_named : List ℕ → List WgslCallee
binary_operators_named name = map a_binary (filter (λ o. bytes_eq name (binary_text o)) binary_operators)

-- A line for each overload of what has the name: the unary operator, the binary one, the built-in function, the constructor.
abbrev pub lines_named : List ℕ → List (List ℕ)
lines_named name = flat_map texts_listed (unary_operators_named name) ++ flat_map texts_listed (binary_operators_named name)
    ++ texts_listed (a_function name) ++ texts_listed (a_constructor name)

-- what stands before it among these: the unary operator before the binary one, as of `-`; no others have one name
abbrev pub callees_before : WgslCallee → List WgslCallee
callees_before (a_binary o) = unary_operators_named (binary_text o)
callees_before callee = []

-- the lines before those of an overload, without a template or with one, behind these others
abbrev pub lines_before : WgslCallee → Bool → List Overload → List (List ℕ)
lines_before callee has_template others = flat_map texts_listed (callees_before callee) ++ cond has_template (lines_listed callee false) []
    ++ signature_lines (name_of callee) has_template others

-- The number of the line of the overload at an index, from 0. One that takes scalars or vectors has two lines, the second
-- for vectors.
abbrev pub line_of_overload : WgslCallee → Bool → ℕ → Bool → ℕ
line_of_overload callee has_template at of_vectors =
    let before = length (lines_before callee has_template (take at (or_none (overloads_listed callee has_template)))) in cond of_vectors (before + 1) before

-- whether the parameters that are scalars or vectors are vectors
abbrev pub are_vectors : List Pattern → List WgslType → Bool
are_vectors (p ∷ ps) (u ∷ us) = (is_scalar_or_vector p && is_vector u) || are_vectors ps us
are_vectors ps us = false

abbrev pub is_of_vectors : Option Overload → List WgslType → Bool
is_of_vectors (Some o) us = are_vectors (patterns_of o) us
is_of_vectors None us = false

-- the line of the overload at an index, for scalars or for vectors as these parameters are
abbrev pub line_of_candidate : WgslCallee → Bool → ℕ → List WgslType → ℕ
line_of_candidate callee has_template at us =
    line_of_overload callee has_template at (is_of_vectors (slice_get (or_none (overloads_listed callee has_template)) at) us)

-- the index of a signature is that of its line
abbrev pub StandsAtIndex : Signature → Type 0
StandsAtIndex s = slice_get (lines_named (callee_text s.callee)) s.index ≡ Some (line_of s)

-- a note speaks of both lines of an overload: its index is that of the first
abbrev pub NoteStandsAtIndex : Note → Type 0
NoteStandsAtIndex n = slice_get (lines_named (callee_text n.signature.callee)) n.signature.index ≡ Some (first_line_of n.signature)
