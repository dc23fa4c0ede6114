-- Signs (WGSL, "Syntactic Tokens"): the longest at the front, and how many bytes it has.
use Rattle.std.specs.Prelude.{ℕ, Option, Some, None, nat_eq, cond}
use Rattle.wgsl_reader.specs.declared.kind.Kind.{Kind}
use Rattle.wgsl_reader.specs.declared.kind.Kind.TheVariants as k

abbrev pub Sign : Type 0
Sign = Option (Kind × ℕ)

abbrev pub of : Kind → ℕ → Sign
of kind len = Some (kind, len)

-- brackets, and what stands alone: `(`, `)`, `[`, `]`, `{`, `}`, `@`, `,`, `;`, `:`, `.`, `~`
abbrev pub single : ℕ → Sign
single first =
    cond (nat_eq first 40) (of k.OpenRound 1)
    (cond (nat_eq first 41) (of k.CloseRound 1)
    (cond (nat_eq first 91) (of k.OpenSquare 1)
    (cond (nat_eq first 93) (of k.CloseSquare 1)
    (cond (nat_eq first 123) (of k.OpenCurly 1)
    (cond (nat_eq first 125) (of k.CloseCurly 1)
    (cond (nat_eq first 64) (of k.At 1)
    (cond (nat_eq first 44) (of k.Comma 1)
    (cond (nat_eq first 59) (of k.Semicolon 1)
    (cond (nat_eq first 58) (of k.Colon 1)
    (cond (nat_eq first 46) (of k.Period 1)
    (cond (nat_eq first 126) (of k.Tilde 1) None)))))))))))

-- an operator, or the assignment by it: `*`, `*=`
abbrev pub assigned : Kind → ℕ → Sign
assigned kind second = cond (nat_eq second 61) (of k.OperatorEqual 2) (of kind 1)

-- an operator, the operator twice, or the assignment by it: `&`, `&&`, `&=`
abbrev pub doubled : Kind → Kind → ℕ → ℕ → Sign
doubled kind twice first second = cond (nat_eq second first) (of twice 2) (assigned kind second)

-- `=`, `==`; `!`, `!=`
abbrev pub compared : Kind → Kind → ℕ → Sign
compared kind equal second = cond (nat_eq second 61) (of equal 2) (of kind 1)

-- `-`, `-=`, `->`
abbrev pub minus : ℕ → Sign
minus second = cond (nat_eq second 62) (of k.Arrow 2) (assigned k.Minus second)

-- `<`, `<=`, `<<`, `<<=`
abbrev pub less : ℕ → ℕ → Sign
less second third =
    cond (nat_eq second 60) (cond (nat_eq third 61) (of k.OperatorEqual 3) (of k.ShiftLeft 2)) (compared k.Less k.LessEqual second)

-- `>` alone is a token, since a template list may end with it; so are `+` and `-`, since `1--1` is `1 - -1`. Lists.antt has
-- what joins them: `>=`, `>>`, `>>=`, `++`, `--`.
abbrev pub sign_of : ℕ → ℕ → ℕ → Sign
sign_of first second third =
    cond (nat_eq first 38) (doubled k.And k.AndAnd 38 second)
    (cond (nat_eq first 124) (doubled k.Or k.OrOr 124 second)
    (cond (nat_eq first 43) (assigned k.Plus second)
    (cond (nat_eq first 45) (minus second)
    (cond (nat_eq first 42) (assigned k.Star second)
    (cond (nat_eq first 47) (assigned k.Slash second)
    (cond (nat_eq first 37) (assigned k.Percent second)
    (cond (nat_eq first 94) (assigned k.Xor second)
    (cond (nat_eq first 61) (compared k.Equal k.EqualEqual second)
    (cond (nat_eq first 33) (compared k.Bang k.NotEqual second)
    (cond (nat_eq first 60) (less second third)
    (cond (nat_eq first 62) (of k.Greater 1) (single first))))))))))))
