-- Which tokens are operators of which level, and which begin an expression or go on with one.
use Rattle.std.specs.Prelude.{Option, Some, None}
use Rattle.lil_text.specs.declared.token.TokenKind.{TokenKind}
use Rattle.lil_text.specs.declared.token.TokenKind.TheVariants as k
use Rattle.lil_text.specs.declared.token.Word.TheVariants as w
use Rattle.lil_text.specs.declared.token.Mark.TheVariants as m
use Rattle.lil_base.specs.declared.operator.{OneOp.OneOp, TwoOp.TwoOp}
use Rattle.lil_base.specs.declared.operator.OneOp.TheVariants as one
use Rattle.lil_base.specs.declared.operator.TwoOp.TheVariants as two

-- between sums
abbrev pub relation : TokenKind → Option TwoOp
relation (k.Mark m.Equal) = Some two.Equal
relation (k.Mark m.Unequal) = Some two.Unequal
relation (k.Mark m.Less) = Some two.Less
relation (k.Mark m.AtMost) = Some two.AtMost
relation (k.Mark m.Greater) = Some two.Greater
relation (k.Mark m.AtLeast) = Some two.AtLeast
relation (k.Word w.In) = Some two.In
relation _ = None

-- between terms
abbrev pub addition : TokenKind → Option TwoOp
addition (k.Mark m.Plus) = Some two.Plus
addition (k.Mark m.Minus) = Some two.Minus
addition (k.Word w.Or) = Some two.Or
addition _ = None

-- between factors
abbrev pub multiplication : TokenKind → Option TwoOp
multiplication (k.Mark m.Times) = Some two.Times
multiplication (k.Mark m.Slash) = Some two.Slash
multiplication (k.Word w.Div) = Some two.Div
multiplication (k.Word w.Mod) = Some two.Mod
multiplication (k.Word w.And) = Some two.And
multiplication _ = None

-- before a term
abbrev pub sign : TokenKind → Option OneOp
sign (k.Mark m.Plus) = Some one.Plus
sign (k.Mark m.Minus) = Some one.Minus
sign _ = None
