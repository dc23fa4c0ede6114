-- The declarations of a module, and how reading goes on behind one that is misread.
use Rattle.std.specs.Prelude.{ℕ, suc, ◌+◌, ◌-◌, List, [], ◌∷◌, ◌++◌, Bool, true, false, nat_eq, nat_le, not, ◌&&◌, ◌||◌, cond, take, drop, Ok, Err}
use denote.Enum.Bare.{sameb}
use Rattle.wgsl_reader.specs.contracts.kind.Kind.{the_type as kind_type}
use Rattle.wgsl_reader.specs.Reading.{Outcome, ReadAt, next_kind}
use Rattle.wgsl_reader.specs.declared.kind.Kind.{Kind}
use Rattle.wgsl_reader.specs.declared.kind.Kind.TheVariants as k
use Rattle.wgsl_reader.specs.declared.rule.Rule.{Rule}
use Rattle.wgsl_reader.specs.declared.rule.Rule.TheVariants as r
use Rattle.wgsl_reader.specs.declared.grammar.Symbol.TheVariants as s
use Rattle.wgsl_reader.specs.declared.module.Misread.{Misread}
use Rattle.wgsl_reader.specs.declared.read.Event.{Event}

-- How many tokens a declaration has, even if it can't be read: `const a = (1; fn f() {}` are two declarations

abbrev pub is : Kind → Kind → Bool
is kind other = sameb kind_type other kind

-- nothing but a declaration begins with these two: `fn f`
abbrev pub begins_declaration : Kind → Kind → Bool
begins_declaration kind next = (is k.Alias kind || is k.Fn kind || is k.Override kind || is k.Struct kind) && is k.Name next

-- a declaration begins with them, or a statement: `var x`, `var<private>`, `const_assert`
abbrev pub begins_either : Kind → Kind → Bool
begins_either kind next = is k.ConstAssert kind || is k.Const kind && is k.Name next || is k.Var kind && (is k.Name next || is k.OpenTemplate next)

-- what stands in front of it were the attributes: `@id(1) override`, but not `@const fn`
abbrev pub ends_attributes : Kind → Bool
ends_attributes kind = is k.Fn kind || is k.Override kind || is k.Var kind

-- `@const` is an attribute
abbrev pub is_const_attribute : Kind → Kind → Bool
is_const_attribute behind kind = is k.At behind && is k.Const kind

-- The next declaration begins with these two: `;` or `}` is missing in front of them. `braces` are open.
abbrev pub begins_next : ℕ → Bool → Kind → Kind → Bool
begins_next braces in_attributes kind next = not in_attributes && (begins_declaration kind next || nat_eq braces 0 && begins_either kind next)

-- a `;` outside of braces ends a declaration, and so does the `}` of the outermost brace
abbrev pub ends_with : ℕ → Kind → Bool
ends_with braces kind = nat_eq braces 0 && is k.Semicolon kind || nat_le braces 1 && is k.CloseCurly kind

abbrev pub braces_behind : ℕ → Kind → ℕ
braces_behind braces kind = cond (is k.OpenCurly kind) (braces + 1) (cond (is k.CloseCurly kind) (braces - 1) braces)

-- what is left of a declaration, behind a token of this kind
abbrev pub rest_len : ℕ → Bool → Kind → List Kind → ℕ
rest_len braces in_attributes behind [] = 0
rest_len braces in_attributes behind (kind ∷ kinds) =
    cond (begins_next braces (in_attributes || is_const_attribute behind kind) kind (next_kind kinds)) 0
    (cond (ends_with braces kind) 1 (suc (rest_len (braces_behind braces kind) (in_attributes && not (ends_attributes kind)) kind kinds)))

abbrev pub declaration_len : List Kind → ℕ
declaration_len [] = 0
declaration_len (kind ∷ kinds) = cond (ends_with 0 kind) 1 (suc (rest_len (braces_behind 0 kind) (is k.At kind) kind kinds))

-- Directives stand in front of all declarations

abbrev pub is_directive : Kind → Bool
is_directive kind = is k.Enable kind || is k.Requires kind || is k.Diagnostic kind

abbrev pub rule_of : Bool → Rule
rule_of true = r.DirectiveOrDeclaration
rule_of false = r.Declaration

-- what a declaration adds to the events, and to the declarations that are misread

abbrev pub with_read : Outcome → List Event → List Event
with_read (Ok events) more = events ++ more
with_read (Err index) more = more

abbrev pub with_misread : Rule → ℕ → Outcome → List Misread → List Misread
with_misread rule from (Ok events) others = others
with_misread rule from (Err index) others = record { rule = rule; from = from; at = index } ∷ others

-- What is noted in the tokens from an index on, and which declarations are misread. First there may be directives.
pub data ReadsFrom : Bool → ℕ → List Kind → List Event → List Misread → Type 0 where
  none_left : (leading : Bool) (at : ℕ) → ReadsFrom leading at [] [] []
  one_read : {leading : Bool} {at : ℕ} {kind : Kind} {kinds : List Kind} {outcome : Outcome} {more : List Event} {others : List Misread} →
      ReadAt (s.Rule (rule_of leading) ∷ []) at (take (declaration_len (kind ∷ kinds)) (kind ∷ kinds)) outcome
      → ReadsFrom (leading && is_directive kind) (at + declaration_len (kind ∷ kinds)) (drop (declaration_len (kind ∷ kinds)) (kind ∷ kinds)) more others
      → ReadsFrom leading at (kind ∷ kinds) (with_read outcome more) (with_misread (rule_of leading) at outcome others)

-- what is noted in a module, and which of its declarations are misread
abbrev pub ReadsModule : List Kind → List Event → List Misread → Type 0
ReadsModule kinds events misread = ReadsFrom true 0 kinds events misread
