-- The kinds of token, and the tokens that a grammar takes.
use Rattle.std.specs.Prelude.{ℕ, Bool, true, false, ◌||◌, ◌&&◌, not, if◌then◌else◌, List, [], ◌∷◌, Option, Some, None}
use Rattle.lil_base.specs.declared.{fault.Place.Place, operator.{OneOp.OneOp, TwoOp.TwoOp}}
use Rattle.lil_text.specs.declared.{token.{Token.Token, TokenKind.TokenKind, Mark.Mark, Word.Word}, tree.Ident.Ident}
use Rattle.lil_text.specs.declared.token.TokenKind.TheVariants as k
use Rattle.lil_text.specs.declared.token.Mark.TheVariants as m
use Rattle.lil_text.specs.declared.token.Word.TheVariants as w
use Rattle.lil_text.specs.Operators
use Rattle.lil_grammar.specs.Steps.{is_mark, is_word, ident_by}

-- ---- kinds of token, and sets of them
pub data Kind : Type 0 where
  mark : Mark → Kind
  word : Word → Kind
  name number code chars finish : Kind

abbrev pub is_of : Kind → TokenKind → Bool
is_of (mark m) t = is_mark m t
is_of (word w) t = is_word w t
is_of name (k.Ident text) = true
is_of number (k.Number v) = true
is_of code (k.CharCode c) = true
is_of chars (k.Chars text) = true
is_of finish k.Finish = true
is_of _ _ = false

-- a token of the kind
abbrev pub sample : Kind → TokenKind
sample (mark m) = k.Mark m
sample (word w) = k.Word w
sample name = k.Ident []
sample number = k.Number 0
sample code = k.CharCode 0
sample chars = k.Chars []
sample finish = k.Finish

abbrev pub Kinds : Type 0
Kinds = List Kind

abbrev pub among : Kinds → TokenKind → Bool
among [] t = false
among (c ∷ []) t = is_of c t
among (c ∷ d ∷ cs) t = is_of c t || among (d ∷ cs) t

-- no kind is in both
abbrev pub apart : Kinds → Kinds → Bool
apart [] ds = true
apart (c ∷ cs) ds = not (among ds (sample c)) && apart cs ds

-- each kind of the first is in the second
abbrev pub part_of : Kinds → Kinds → Bool
part_of [] ds = true
part_of (c ∷ cs) ds = among ds (sample c) && part_of cs ds

-- ---- what a grammar takes as one token, and what it is to a tree. The end of a text is a token of its own.
pub data Terminal : Type 0 where
  mark : Mark → Terminal
  word : Word → Terminal
  name number code chars finish relation addition multiplication sign : Terminal

abbrev pub Value : Terminal → Type 0
Value (mark m) = Place
Value (word w) = Place
Value name = Ident
Value number = Place × ℕ
Value code = Place × ℕ
Value chars = Place × List ℕ
Value finish = Place
Value relation = TwoOp × Place
Value addition = TwoOp × Place
Value multiplication = TwoOp × Place
Value sign = OneOp × Place

abbrev pub placed : {A : Type 0} → Place → Option A → Option (A × Place)
placed p None = None
placed p (Some a) = Some (a, p)

abbrev pub value_by : (x : Terminal) → Place → TokenKind → Option (Value x)
value_by (mark m) p u = if is_mark m u then Some p else None
value_by (word w) p u = if is_word w u then Some p else None
value_by name p u = ident_by p u
value_by number p (k.Number v) = Some (p, v)
value_by code p (k.CharCode c) = Some (p, c)
value_by chars p (k.Chars text) = Some (p, text)
value_by finish p k.Finish = Some p
value_by relation p u = placed p (Operators.relation u)
value_by addition p u = placed p (Operators.addition u)
value_by multiplication p u = placed p (Operators.multiplication u)
value_by sign p u = placed p (Operators.sign u)
value_by _ p u = None

abbrev pub taken_as : (x : Terminal) → Token → Option (Value x)
taken_as x t = value_by x t.place t.what

abbrev pub kinds_of : Terminal → Kinds
kinds_of (mark m) = Kind.mark m ∷ []
kinds_of (word w) = Kind.word w ∷ []
kinds_of name = Kind.name ∷ []
kinds_of number = Kind.number ∷ []
kinds_of code = Kind.code ∷ []
kinds_of chars = Kind.chars ∷ []
kinds_of finish = Kind.finish ∷ []
kinds_of relation = Kind.mark m.Equal ∷ Kind.mark m.Unequal ∷ Kind.mark m.Less ∷ Kind.mark m.AtMost ∷ Kind.mark m.Greater ∷ Kind.mark m.AtLeast ∷ Kind.word w.In ∷ []
kinds_of addition = Kind.mark m.Plus ∷ Kind.mark m.Minus ∷ Kind.word w.Or ∷ []
kinds_of multiplication = Kind.mark m.Times ∷ Kind.mark m.Slash ∷ Kind.word w.Div ∷ Kind.word w.Mod ∷ Kind.word w.And ∷ []
kinds_of sign = Kind.mark m.Plus ∷ Kind.mark m.Minus ∷ []
