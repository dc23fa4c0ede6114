-- Requests in words, how calls and structs that were read are seen, and what is written for a request.
use Rattle.std.specs.Prelude.{ℕ, List, [], ◌∷◌, Option, Some, None, codes, option_and_then, option_map, map, ◌≡◌, Result, Ok, Err, String, string_bytes}
use Rattle.wgsl_replies.specs.words.Prelude.{named, Signature, WgslType, struct, Members, WgslRequest as Request, rank, common, unary, binary, size, offsets, layout}
use Rattle.wgsl_replies.specs.words.Prelude.{ctor, call, parameter_view, struct_view, view, Fail, Adds, IsAnswer, WgslRequest, Misfit}
use Rattle.wgsl_syntax.specs.declared.rules.RuleSet.TheVariants.{Ported}
use Rattle.wgsl_replies.specs.words.Names.{binary_named, unary_named}
use Rattle.wgsl_replies.specs.words.Reader.{Words, a_word, all, behind, last, one, pair, Misses, words_of}
use Rattle.wgsl_replies.specs.words.Templates.{template_at}
use Rattle.wgsl_replies.specs.words.Types.{type_at}
use Rattle.wgsl_core.specs.declared.ty.StructType.{StructType}
use Rattle.wgsl_replies.specs.declared.words.command.ReadCall.{ReadCall}
use Rattle.wgsl_requests.specs.declared.reply.TextKind.{TextKind}
use Rattle.wgsl_requests.specs.Replies.{IsReplyOf, OfLine, ReplyText, nothing}

abbrev pub of_struct : (List ℕ → Members → Request) → WgslType → Option Request
of_struct ask (struct name ms) = Some (ask name ms)
of_struct ask t = None

-- a name, a template or `-`, and the types of the arguments: `clamp - AbstractInt f32 f32`
unfoldable pub callee : Words → Option Signature
callee words =
    behind (a_word words) (λ name rest.
    behind (template_at rest) (λ template more.
    option_map (λ ts. record { name = name; template = template; arguments = ts }) (all type_at more)))

-- What is asked by the words behind each command.
abbrev pub commands : List ((Words → Option Request) × List ℕ)
commands =
    -- `rank AbstractInt f32`
    ((λ words. option_map (λ p. rank p.0 p.1) (last (pair type_at) words)), codes "rank")
    -- `common AbstractInt f32 f16`
    ∷ ((λ words. option_map (common Ported) (all type_at words)), codes "common")
    -- `unary - vec 3 f32`
    ∷ ((λ words. behind (one unary_named words) (λ o rest. option_map (unary o) (last type_at rest))), codes "unary")
    -- `binary + AbstractInt vec 3 f32`
    ∷ ((λ words. behind (one binary_named words) (λ o rest. option_map (λ p. binary o p.0 p.1) (last (pair type_at) rest))), codes "binary")
    -- `size vec 3 f32`
    ∷ ((λ words. option_map (size Ported) (last type_at words)), codes "size")
    -- `offsets struct S 2 a - - f32 b 16 - vec 3 f32`
    ∷ ((λ words. option_and_then (of_struct (offsets Ported)) (last type_at words)), codes "offsets")
    -- `layout struct S 2 a - - f32 b 16 - vec 3 f32`
    ∷ ((λ words. option_and_then (of_struct (layout Ported)) (last type_at words)), codes "layout")
    -- `ctor array < t f32 n 2 > AbstractInt f32`
    ∷ ((λ words. option_map ctor (callee words)), codes "ctor")
    -- `call clamp - AbstractInt f32 f32`
    ∷ ((λ words. option_map call (callee words)), codes "call")
    ∷ []

abbrev request_by : Option (Words → Option Request) → Words → Option Request
request_by (Some ask) words = ask words
request_by None words = None

unfoldable pub request_from : List ℕ → Words → Option Request
request_from command words = request_by (named commands command) words

-- what these words ask, if they ask anything
abbrev pub request_of : Words → Option Request
request_of [] = None
request_of (command ∷ words) = request_from command words

abbrev pub call_view : ReadCall → Signature
call_view c = record {
  name = c.name.now;
  template = option_map (λ ps. map parameter_view ps.items) c.template;
  arguments = map view c.arguments.items;
}

-- a struct as a type
abbrev pub struct_in : StructType → WgslType
struct_in s = let seen = struct_view s in struct seen.name seen.members

abbrev pub a_struct : WgslType → Option WgslType
a_struct (struct name ms) = Some (struct name ms)
a_struct t = None

-- The answer to the request that was found is written at the end of a text. None was found if the words misfit.
abbrev pub Answers : {Z : Type 0} → Option WgslRequest → String Z → String Z → Result TextKind (Fail Misfit) → Type 0
Answers found old new (Ok kind) = (request : WgslRequest) × (found ≡ Some request) × Adds (IsAnswer request kind) (string_bytes old) (string_bytes new)
Answers found old new (Err e) = Misses e found

-- the reply to words; no words get nothing
abbrev pub IsReplyToWords : Words → ReplyText → Type 0
IsReplyToWords [] reply = reply ≡ nothing
IsReplyToWords (word ∷ words) reply = IsReplyOf (request_of (word ∷ words)) reply

-- the reply to the bytes of a line
abbrev pub IsReplyToLine : List ℕ → ReplyText → Type 0
IsReplyToLine bytes = OfLine (IsReplyToWords (words_of bytes)) bytes
