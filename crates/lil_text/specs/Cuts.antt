-- The bytes at which a text is cut into tokens, and the spelling of reserved words.
use Rattle.std.specs.Prelude.{◌≡◌, ℕ, ◌==◌, nat_le, Bool, false, ◌||◌, ◌&&◌, List, [], ◌∷◌, codes, Option, Some, None, if◌then◌else◌}
use Rattle.std.specs.Str.{bytes_eq}
use Rattle.lil_base.specs.Names.{is_digit}
use Rattle.lil_text.specs.declared.token.Word.{Word}
use Rattle.lil_text.specs.declared.token.Word.TheVariants as w

abbrev pub is_blank : ℕ → Bool
is_blank b = (b == 9) || ((b == 10) || ((b == 12) || ((b == 13) || (b == 32))))

-- a byte of the run that a number is: a digit, A to F, or H
abbrev pub is_number_byte : ℕ → Bool
is_number_byte b = is_digit b || ((nat_le 65 b && nat_le b 70) || (b == 72))

-- a text that doesn't go on with such a byte
abbrev pub Stops : (ℕ → Bool) → List ℕ → Type 0
Stops test [] = Unit {0}
Stops test (b ∷ bs) = test b ≡ false

-- the spelling of each reserved word
abbrev pub spelling : Word → List ℕ
spelling w.And = codes "AND"
spelling w.Array = codes "ARRAY"
spelling w.Begin = codes "BEGIN"
spelling w.By = codes "BY"
spelling w.Case = codes "CASE"
spelling w.Const = codes "CONST"
spelling w.Definition = codes "DEFINITION"
spelling w.Div = codes "DIV"
spelling w.Do = codes "DO"
spelling w.Else = codes "ELSE"
spelling w.Elsif = codes "ELSIF"
spelling w.End = codes "END"
spelling w.Exit = codes "EXIT"
spelling w.Export = codes "EXPORT"
spelling w.For = codes "FOR"
spelling w.From = codes "FROM"
spelling w.If = codes "IF"
spelling w.Implementation = codes "IMPLEMENTATION"
spelling w.Import = codes "IMPORT"
spelling w.In = codes "IN"
spelling w.Loop = codes "LOOP"
spelling w.Mod = codes "MOD"
spelling w.Module = codes "MODULE"
spelling w.Not = codes "NOT"
spelling w.Of = codes "OF"
spelling w.Or = codes "OR"
spelling w.Pointer = codes "POINTER"
spelling w.Procedure = codes "PROCEDURE"
spelling w.Qualified = codes "QUALIFIED"
spelling w.Record = codes "RECORD"
spelling w.Repeat = codes "REPEAT"
spelling w.Return = codes "RETURN"
spelling w.Set = codes "SET"
spelling w.Then = codes "THEN"
spelling w.To = codes "TO"
spelling w.TypeWord = codes "TYPE"
spelling w.Until = codes "UNTIL"
spelling w.Var = codes "VAR"
spelling w.While = codes "WHILE"
spelling w.With = codes "WITH"

abbrev pub all_words : List Word
all_words = w.And ∷ w.Array ∷ w.Begin ∷ w.By ∷ w.Case ∷ w.Const ∷ w.Definition ∷ w.Div ∷ w.Do ∷ w.Else ∷ w.Elsif ∷ w.End ∷ w.Exit ∷ w.Export ∷ w.For ∷ w.From ∷ w.If ∷ w.Implementation ∷ w.Import ∷ w.In ∷ w.Loop ∷ w.Mod ∷ w.Module ∷ w.Not ∷ w.Of ∷ w.Or ∷ w.Pointer ∷ w.Procedure ∷ w.Qualified ∷ w.Record ∷ w.Repeat ∷ w.Return ∷ w.Set ∷ w.Then ∷ w.To ∷ w.TypeWord ∷ w.Until ∷ w.Var ∷ w.While ∷ w.With ∷ []

-- the word of a list with this spelling
abbrev pub word_among : List Word → List ℕ → Option Word
word_among [] name = None
word_among (word ∷ words) name = if bytes_eq name (spelling word) then Some word else word_among words name
