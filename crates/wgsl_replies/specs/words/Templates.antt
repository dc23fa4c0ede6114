-- Literals and templates in words.
use Rattle.std.specs.Prelude.{ℕ, zero, suc, ℤ, ◌-◌, ◌^◌, ◌&&◌, Bool, true, false, List, [], ◌∷◌, Option, Some, None, codes, drop, if◌then◌else◌, length, nat_lt, neg_ℤ, negsuc, option_and_then, option_map, pos, take, nat_eq, bytes_eq}
use Rattle.std.specs.List.{ends_with}
use Rattle.wgsl_replies.specs.words.Prelude.{all_ascii_digits, digits_value, starts_with_minus, AddressSpace, Parameter, of_type, of_literal, of_enumerant}
use Rattle.wgsl_syntax.specs.declared.address.AddressSpace.TheVariants.{Handle}
use Rattle.wgsl_syntax.specs.declared.enumerant.Enumerant.{Enumerant}
use Rattle.wgsl_syntax.specs.declared.enumerant.Enumerant.TheVariants as enumerants
use Rattle.wgsl_rules.specs.types.Literals.{Literal, bool, abstract_int, i32, u32, i64, u64}
use Rattle.wgsl_replies.specs.words.Names.{access_named, some_flag_named, space_named, texel_named, long, medium}
use Rattle.wgsl_replies.specs.words.Reader.{Reader, ◌>>=◌, ◌<$>◌, a_word, nothing, one, one_of, pure, has_bytes}
use Rattle.wgsl_replies.specs.words.Types.{type_at}

abbrev pub without_minus : List ℕ → List ℕ
without_minus word = if starts_with_minus word then drop 1 word else word

abbrev pub value : List ℕ → ℤ
value word = if starts_with_minus word then neg_ℤ (pos (digits_value 10 (without_minus word))) else pos (digits_value 10 (without_minus word))

-- within this limit on both sides of 0: `-4` and `3` are within 4
abbrev pub within : ℕ → ℤ → Bool
within limit (pos n) = nat_lt n limit
within limit (negsuc n) = nat_lt n limit

-- decimal digits, with a minus in front or without, of a number within this limit
abbrev pub signed_below : ℕ → List ℕ → Option ℤ
signed_below limit word =
    if has_bytes (without_minus word) && all_ascii_digits (without_minus word) && within limit (value word) then Some (value word) else None

-- what is in front of this suffix
abbrev pub before : List ℕ → List ℕ → Option (List ℕ)
before suffix word = if ends_with nat_eq word suffix then Some (take (length word - length suffix) word) else None

abbrev by_suffix : {A : Type 0} → Option (List ℕ) → (List ℕ → Option A) → Option A → Option A
by_suffix (Some digits) read other = read digits
by_suffix None read other = other

-- `-7i`, `7u`, `-7`
unfoldable pub short_number : List ℕ → Option Literal
short_number word =
    by_suffix (before (codes "i") word) (λ ds. option_map i32 (signed_below (2 ^ 31) ds))
    (by_suffix (before (codes "u") word) (λ ds. option_map u32 (medium ds))
    (option_map abstract_int (signed_below (2 ^ 63) word)))

-- also `-7li`, `7lu`: a number has the suffix of its type, or none if it is abstract
unfoldable pub number : List ℕ → Option Literal
number word =
    by_suffix (before (codes "li") word) (λ ds. option_map i64 (signed_below (2 ^ 63) ds))
    (by_suffix (before (codes "lu") word) (λ ds. option_map u64 (long ds)) (short_number word))

-- `true`, `false`, or a number
unfoldable pub literal : List ℕ → Option Literal
literal word = if bytes_eq word (codes "true") then Some (bool true) else (if bytes_eq word (codes "false") then Some (bool false) else number word)

abbrev pub or_named : {A B : Type 0} → (A → B) → Option A → Option B → Option B
or_named made (Some x) other = Some (made x)
or_named made None other = other

abbrev pub but_handle : AddressSpace → Option AddressSpace
but_handle Handle = None
but_handle space = Some space

-- an access mode, an address space other than `handle`, a texel format or a flag
unfoldable pub enumerant_named : List ℕ → Option Enumerant
enumerant_named word =
    or_named enumerants.AccessMode (access_named word)
    (or_named enumerants.AddressSpace (option_and_then but_handle (space_named word))
    (or_named enumerants.TexelFormat (texel_named word)
    (option_map enumerants.AccelerationStructureFlags (some_flag_named word))))

-- What stands behind the letter of a template parameter.
abbrev pub parameters : List (Reader Parameter × List ℕ)
parameters =
    -- `t vec 3 f32`
    (of_type <$> type_at, codes "t")
    -- `n 7u`
    ∷ (of_literal <$> one literal, codes "n")
    -- `e read_write`
    ∷ (of_enumerant <$> one enumerant_named, codes "e")
    ∷ []

unfoldable pub parameter_from : List ℕ → Reader Parameter
parameter_from word = one_of parameters word

-- Parameters up to `>`. A parameter has words, so there are no more parameters than words.
abbrev pub parameters_within : ℕ → Reader (List Parameter)
parameters_within zero = nothing
parameters_within (suc n) = a_word >>= (λ word. if bytes_eq word (codes ">") then pure [] else (do p ← parameter_from word; ps ← parameters_within n; pure (p ∷ ps)))

unfoldable pub parameters_at : Reader (List Parameter)
parameters_at words = parameters_within (length words) words

-- What stands behind the first word of a template: `-` for none, `< t f32 n 4 >`.
abbrev pub templates : List (Reader (Option (List Parameter)) × List ℕ)
templates = (pure None, codes "-") ∷ (Some <$> parameters_at, codes "<") ∷ []

unfoldable pub template_at : Reader (Option (List Parameter))
template_at = a_word >>= one_of templates
