-- The grammar of WGSL: what a rule stands for, by the kind of the next token. Its rules are constants of the code.
use Rattle.std.specs.Prelude.{Bool, true, List, [], ◌∷◌, ◌++◌, Option, Some, None, if◌then◌else◌, map}
use Rattle.std.specs.Borrow.{Bor}
use denote.Enum.Bare.{sameb}
use Rattle.wgsl_reader.specs.contracts.kind.Kind.{the_type as kind_type}
use Rattle.wgsl_reader.specs.contracts.rule.Rule.{the_type as rule_type}
use Rattle.wgsl_reader.specs.declared.kind.Kind.{Kind}
use Rattle.wgsl_reader.specs.declared.rule.Rule.{Rule}
use Rattle.wgsl_reader.specs.declared.grammar.Symbol.{Symbol}
use Rattle.wgsl_reader.specs.declared.grammar.expressions.TheConstants.{EXPRESSIONS}
use Rattle.wgsl_reader.specs.declared.grammar.statements.TheConstants.{STATEMENTS}
use Rattle.wgsl_reader.specs.declared.grammar.requests.TheConstants.{REQUESTS}
use Rattle.wgsl_reader.specs.declared.grammar.modules.TheConstants.{MODULES}

-- the kind of the next token for which a line is taken, or None for any, and what its rule stands for then
abbrev pub Line : Type 0
Line = Option Kind × List Symbol

abbrev pub line_of : Option Kind × Bor (List Symbol) → Line
line_of line = (line.0, line.1.now)

abbrev pub Rows : Type 0
Rows = List (Rule × List Line)

-- a row, and a table, as the code has it

abbrev pub row_of : Rule × Bor (List (Option Kind × Bor (List Symbol))) → Rule × List Line
row_of row = (row.0, map line_of row.1.now)

abbrev pub rows_of : Bor (List (Rule × Bor (List (Option Kind × Bor (List Symbol))))) → Rows
rows_of rows = map row_of rows.now

-- the tables of expressions, statements, requests and declarations
unfoldable pub tables : List Rows
tables = map (λ rows. map (λ row. (row.0, map (λ line. (line.0, line.1.now)) row.1.now)) rows.now) (EXPRESSIONS ∷ STATEMENTS ∷ REQUESTS ∷ MODULES ∷ [])

abbrev pub all : List Rows → Rows
all [] = []
all (rows ∷ tables) = rows ++ all tables

-- all rules
abbrev pub rules : Rows
rules = all tables

abbrev pub find : Rule → Rows → Option (List Line)
find rule [] = None
find rule (row ∷ rows) = if sameb rule_type rule row.0 then Some row.1 else find rule rows

-- the lines of a rule
abbrev pub lines_of : Rule → Option (List Line)
lines_of rule = find rule rules

abbrev pub is_chosen : Kind → Option Kind → Bool
is_chosen next (Some kind) = sameb kind_type next kind
is_chosen next None = true

-- what the first line stands for that is taken for the next token
abbrev pub chosen : Kind → List Line → Option (List Symbol)
chosen next [] = None
chosen next (line ∷ lines) = if is_chosen next line.0 then Some line.1 else chosen next lines

abbrev pub chosen_if_any : Kind → Option (List Line) → Option (List Symbol)
chosen_if_any next None = None
chosen_if_any next (Some lines) = chosen next lines

-- what a rule stands for if this token is next
abbrev pub production : Rule → Kind → Option (List Symbol)
production rule next = chosen_if_any next (lines_of rule)
