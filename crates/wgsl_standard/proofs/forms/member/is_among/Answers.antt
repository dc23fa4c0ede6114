use Rattle.std.proofs.Common.{◌∙◌, ne_eqb}
use Rattle.wgsl_standard.proofs.MemberLetters.{first, later, never, nowhere}
use Rattle.wgsl_standard.proofs.forms.member.is_among.Goals as goal

pub returns-then-letters-letter-2 : goal.returns-then-letters-letter-2
returns-then-letters-letter-2 c =
    later 0 c.args.n _ c.args.letter _ c.if-letters-letter.false (λ m.
    first m _ c.args.letter _ c.if-letters-letter-2.true)

pub returns-then-letters-letter-3 : goal.returns-then-letters-letter-3
returns-then-letters-letter-3 c =
    later 1 c.args.n _ c.args.letter _ c.if-letters-letter.false (λ m.
    later 0 m _ c.args.letter _ c.if-letters-letter-2.false (λ m.
    first m _ c.args.letter _ c.if-letters-letter-3.true))

pub returns-then-letters-letter-4 : goal.returns-then-letters-letter-4
returns-then-letters-letter-4 c =
    later 2 c.args.n _ c.args.letter _ c.if-letters-letter.false (λ m.
    later 1 m _ c.args.letter _ c.if-letters-letter-2.false (λ m.
    later 0 m _ c.args.letter _ c.if-letters-letter-3.false (λ m.
    first m _ c.args.letter _ c.if-letters-letter-4.true)))

pub returns-else-letters-letter-4 : goal.returns-else-letters-letter-4
returns-else-letters-letter-4 c =
    ne_eqb c.args.letters.fourth c.args.letter c.if-letters-letter-4.false ∙
    never c.args.n _ c.args.letter _ c.if-letters-letter.false (λ m.
    never m _ c.args.letter _ c.if-letters-letter-2.false (λ m.
    never m _ c.args.letter _ c.if-letters-letter-3.false (λ m.
    never m _ c.args.letter _ c.if-letters-letter-4.false (λ m. nowhere m c.args.letter))))
