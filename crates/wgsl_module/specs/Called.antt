-- What the bodies of a module's functions call (WGSL, "Function Calls").
use Rattle.std.specs.Prelude.{ℕ, List, [], ◌∷◌, Bool, false, Option, Some, None, cond, drop, slice_get}
use Rattle.std.specs.List.{cons_option}
use Rattle.wgsl_module.specs.Declarations.{Written}
use Rattle.wgsl_module.specs.Named.{Naming, naming}
use Rattle.wgsl_typing.specs.Steps.{is_round}
use Rattle.wgsl_typing.specs.Words.{kind_at, word_at}
use Rattle.wgsl_reader.specs.declared.kind.Kind.{Kind}
use Rattle.wgsl_reader.specs.declared.mark.Mark.{Mark}
use Rattle.wgsl_reader.specs.declared.mark.Mark.TheVariants as m
use Rattle.wgsl_reader.specs.declared.read.Event.{Event}
use Rattle.wgsl_reader.specs.declared.token.Token.{Token}

-- the `(` of a call: a block opens with `{`
abbrev pub is_opening : Mark → Kind → Bool
is_opening m.Open word = is_round word
is_opening other word = false

abbrev pub opens_call : List Token → Option Event → Bool
opens_call tokens None = false
opens_call tokens (Some e) = is_opening e.mark (kind_at tokens e.at)

-- the declaration that is called, if what comes next is the `(` behind its name: what a function declares can't be called
abbrev pub called_at : Naming → Mark → ℕ → Option Event → Option ℕ
called_at n m.Name count next = cond (opens_call n.tokens next) (n.declared (word_at n.text n.tokens count)) None
called_at n other count next = None

-- the declarations that events call, one by one
abbrev pub called_in : Naming → List Event → List ℕ
called_in n [] = []
called_in n (e ∷ events) = cons_option (called_at n e.mark e.at (slice_get events 0)) (called_in n events)

-- those that the body of a declaration calls from an event on
abbrev pub called_from : Naming → Option Written → ℕ → List ℕ
called_from n None at = []
called_from n (Some d) at = called_in n (drop at d.body)

-- those that the body of the one with an index calls, among these of a text
abbrev pub called_by : List ℕ → List Token → List Written → ℕ → List ℕ
called_by text tokens ds index = called_from (naming text tokens ds) (slice_get ds index) 0
