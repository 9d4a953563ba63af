-- What a parser reads from, and the steps that every rule is made of.
use Rattle.std.specs.Prelude.{◌≡◌, ◌≢◌, ℕ, zero, suc, length, Bool, true, false, if◌then◌else◌, List, [], ◌∷◌, Option, Some, None, Result, Ok, Err}
use denote.Enum.Bare.{sameb}
use Rattle.lil_base.specs.{declared.fault.Place.Place, Faults.fault}
use Rattle.lil_text.specs.{declared.{token.{Token.Token, TokenKind.TokenKind, Mark.Mark, Word.Word}, tree.Ident.Ident, stop.ReadStop.{ReadStop, TheVariants.{Fault, Memory}}}, Trees.ident}
use Rattle.lil_text.specs.declared.token.TokenKind.TheVariants as k
use Rattle.lil_text.specs.contracts.token.Mark as mark
use Rattle.lil_text.specs.contracts.token.Word as word

-- fault 10, and fault 12
unfoldable pub syntax : Place → ReadStop
syntax p = Fault (fault 10 p)

unfoldable pub nested : Place → ReadStop
nested p = Fault (fault 12 p)

-- what was read and the tokens behind it, or why nothing was
abbrev pub Outcome : Type 0 → Type 0
Outcome A = Result (A × List Token) ReadStop

abbrev pub Parser : Type 0 → Type 0
Parser A = List Token → Outcome A

abbrev pub and_then : {A B : Type 0} → Outcome A → (A → Parser B) → Outcome B
and_then (Ok y) f = f y.0 y.1
and_then (Err e) f = Err e

infixl 10 ◌>>=◌
abbrev pub ◌>>=◌ : {A B : Type 0} → Parser A → (A → Parser B) → Parser B
p >>= f = λ ts. and_then (p ts) f

infixl 10 ◌>>◌
abbrev pub ◌>>◌ : {A B : Type 0} → Parser A → Parser B → Parser B
p >> q = p >>= (λ _. q)

abbrev pub pure : {A : Type 0} → A → Parser A
pure a = λ ts. Ok (a, ts)

abbrev pub first : List Token → Option Token
first [] = None
first (t ∷ ts) = Some t

abbrev pub what : List Token → Option TokenKind
what [] = None
what (t ∷ ts) = Some t.what

unfoldable pub place_of : List Token → Place
place_of [] = record { line = 0; column = 0; offset = 0 }
place_of (t ∷ ts) = t.place

unfoldable pub next : List Token → List Token
next [] = []
next (t ∷ ts) = ts

abbrev pub refuse : {A : Type 0} → Parser A
refuse = λ ts. Err (syntax (place_of ts))

abbrev pub too_deep : {A : Type 0} → Parser A
too_deep = λ ts. Err (nested (place_of ts))

-- ---- by the first token
-- whether the first token is of the kind
unfoldable pub at : (TokenKind → Bool) → List Token → Bool
at test [] = false
at test (t ∷ ts) = test t.what

abbrev pub either_by : {A : Type 0} → Parser A → Parser A → Bool → Parser A
either_by p q true = p
either_by p q false = q

-- the first parser where the first token is of the kind, else the second
abbrev pub either : {A : Type 0} → (TokenKind → Bool) → Parser A → Parser A → Parser A
either test p q = λ ts. either_by p q (at test ts) ts

-- no part may begin here: one that would is nested too deep
abbrev pub shallow : {A : Type 0} → (TokenKind → Bool) → Parser A
shallow test = either test too_deep refuse

-- ---- one token
abbrev pub taken : {A : Type 0} → List Token → Place → Option A → Outcome A
taken rest p None = Err (syntax p)
taken rest p (Some a) = Ok (a, rest)

-- a token that f takes
unfoldable pub token : {A : Type 0} → (Token → Option A) → Parser A
token f [] = refuse []
token f (t ∷ ts) = taken ts t.place (f t)

unfoldable pub same_mark : Mark → Mark → Bool
same_mark = sameb mark.the_type

abbrev pub is_mark : Mark → TokenKind → Bool
is_mark m (k.Mark x) = same_mark x m
is_mark m _ = false

unfoldable pub same_word : Word → Word → Bool
same_word = sameb word.the_type

abbrev pub is_word : Word → TokenKind → Bool
is_word w (k.Word x) = same_word x w
is_word w _ = false

-- a mark or a word, at its place
abbrev pub mark_at : Mark → Token → Option Place
mark_at m t = if is_mark m t.what then Some t.place else None

abbrev pub word_at : Word → Token → Option Place
word_at w t = if is_word w t.what then Some t.place else None

abbrev pub ident_by : Place → TokenKind → Option Ident
ident_by p (k.Ident name) = Some (ident p name)
ident_by p _ = None

abbrev pub ident_at : Token → Option Ident
ident_at t = ident_by t.place t.what

-- ---- repetition, as long as a turn begins. Each turn takes a token, so that the count of tokens is enough turns.
unfoldable pub loop : {S : Type 0} → (TokenKind → Bool) → (S → Parser S) → ℕ → S → Parser S
loop test turn zero s = pure s
loop test turn (suc n) s = either test (turn s >>= loop test turn n) (pure s)

unfoldable pub many : {S : Type 0} → (TokenKind → Bool) → (S → Parser S) → S → Parser S
many test turn s = λ ts. loop test turn (length ts) s ts

-- what a function that parses ensures: the parser's outcome, unless memory fails
abbrev pub Reads : {A : Type 0} → Outcome A → Result A ReadStop → List Token → Type 0
Reads outcome (Ok a) new = outcome ≡ Ok (a, new)
Reads outcome (Err e) new = e ≢ Memory → outcome ≡ Err e

-- the first token, if there is one, is none of these
abbrev pub Not : (TokenKind → Bool) → List Token → Type 0
Not test ts = at test ts ≡ false
