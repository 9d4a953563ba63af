-- The tokens of a text: how it is cut from its start into its longest pieces, and which fault stands where no piece begins.
use Rattle.std.specs.Prelude.{◌≡◌, ℕ, ◌+◌, ◌-◌, ◌*◌, ◌<◌, ◌≤◌, ◌==◌, nat_le, Bool, true, false, not, ◌||◌, ◌&&◌, List, [], ◌∷◌, ◌++◌, length, Option, Some, None, if◌then◌else◌}
use Rattle.std.specs.List.{list_all}
use Rattle.lil_base.specs.{Faults.fault, Names.{is_letter, is_digit, is_name_byte}, declared.fault.{Place.Place, SourceFault.SourceFault}}
use Rattle.lil_text.specs.{declared.token.{Token.Token, TokenKind.TokenKind, Word.Word}, Cuts.{is_blank, is_number_byte, Stops, word_among, all_words}}
use Rattle.lil_text.specs.declared.token.TokenKind.TheVariants as k
use Rattle.lil_text.specs.declared.token.Word.TheVariants as w
use Rattle.lil_text.specs.declared.token.Mark.TheVariants as m

-- ---- places
abbrev pub start : Place
start = record { line = 1; column = 1; offset = 0 }

-- the place behind a byte: lines end with byte 10, and columns count from 1
abbrev pub after_byte : Place → ℕ → Place
after_byte p b =
    if b == 10 then record { line = p.line + 1; column = 1; offset = p.offset + 1 }
    else record { line = p.line; column = p.column + 1; offset = p.offset + 1 }

abbrev pub behind : Place → List ℕ → Place
behind p [] = p
behind p (b ∷ bs) = behind (after_byte p b) bs

-- ---- comments
-- `(*` and `*)`
abbrev pub opens : ℕ → ℕ → Bool
opens b c = (b == 40) && (c == 42)

abbrev pub closes : ℕ → ℕ → Bool
closes b c = (b == 42) && (c == 41)

-- the byte begins neither of them
abbrev pub IsAlone : ℕ → List ℕ → Type 0
IsAlone b [] = Unit {0}
IsAlone b (c ∷ cs) = (opens b c ≡ false) × (closes b c ≡ false)

-- the bytes before the rest are the inside of a comment, and the `*)` that closes it; they are paired from left to right
pub data IsInside : List ℕ → List ℕ → Type 0 where
  close : {rest : List ℕ} → IsInside (42 ∷ 41 ∷ rest) rest
  nested : {bs mid rest : List ℕ} → IsInside bs mid → IsInside mid rest → IsInside (40 ∷ 42 ∷ bs) rest
  other : {b : ℕ} {bs rest : List ℕ} → IsAlone b bs → IsInside bs rest → IsInside (b ∷ bs) rest

-- ---- words and names
abbrev pub word_or_name : List ℕ → Option Word → TokenKind
word_or_name name None = k.Ident name
word_or_name name (Some word) = k.Word word

unfoldable pub named : List ℕ → TokenKind
named name = word_or_name name (word_among all_words name)

-- ---- numbers
abbrev pub is_octal_digit : ℕ → Bool
is_octal_digit b = nat_le 48 b && nat_le b 55

abbrev pub is_hex_digit : ℕ → Bool
is_hex_digit b = is_digit b || (nat_le 65 b && nat_le b 70)

abbrev pub digit_value : ℕ → ℕ
digit_value b = if is_digit b then b - 48 else b - 55

-- the number that digits say to a base, behind a number
abbrev pub value_behind : ℕ → ℕ → List ℕ → ℕ
value_behind base n [] = n
value_behind base n (d ∷ ds) = value_behind base (base * n + digit_value d) ds

abbrev pub value : ℕ → List ℕ → ℕ
value base ds = value_behind base 0 ds

-- the longest run of digits and A to F that begins with a digit, with an H that follows it
pub data IsRun : List ℕ → List ℕ → Type 0 where
  plain : {d : ℕ} {ds rest : List ℕ} → is_digit d ≡ true → list_all is_hex_digit ds ≡ true → Stops is_number_byte rest → IsRun (d ∷ ds) rest
  with_h : {d : ℕ} (ds : List ℕ) {rest : List ℕ} → is_digit d ≡ true → list_all is_hex_digit ds ≡ true → IsRun (d ∷ (ds ++ 72 ∷ [])) rest

-- what a run says: digits alone, octal digits with B or C, digits to base 16 with H
pub data Says : List ℕ → TokenKind → Type 0 where
  decimal : {ds : List ℕ} → list_all is_digit ds ≡ true → Says ds (k.Number (value 10 ds))
  octal : (ds : List ℕ) → list_all is_octal_digit ds ≡ true → Says (ds ++ 66 ∷ []) (k.Number (value 8 ds))
  code : (ds : List ℕ) → list_all is_octal_digit ds ≡ true → Says (ds ++ 67 ∷ []) (k.CharCode (value 8 ds))
  hexadecimal : (ds : List ℕ) → list_all is_hex_digit ds ≡ true → Says (ds ++ 72 ∷ []) (k.Number (value 16 ds))

-- a number fits a word, a code a byte
abbrev pub fits : TokenKind → Bool
fits (k.Number n) = nat_le n 65535
fits (k.CharCode n) = nat_le n 255
fits _ = true

-- ---- strings
abbrev pub is_quote : ℕ → Bool
is_quote b = (b == 34) || (b == 39)

-- a byte that ends neither a string with this mark nor a line
abbrev pub goes_on : ℕ → ℕ → Bool
goes_on q b = not ((b == q) || (b == 10))

-- a byte that may stand in a string with this mark
abbrev pub is_string_byte : ℕ → ℕ → Bool
is_string_byte q b = nat_le 32 b && not ((b == q) || (b == 127))

abbrev pub EndsLine : List ℕ → Type 0
EndsLine [] = Unit {0}
EndsLine (b ∷ bs) = b ≡ 10

-- ---- marks
-- of two bytes: `:=`, `..`, `<=`, `>=` and `<>`
abbrev pub pair : ℕ → ℕ → Option TokenKind
pair b c =
    if (b == 58) && (c == 61) then Some (k.Mark m.Becomes)
    else (if (b == 46) && (c == 46) then Some (k.Mark m.Through)
    else (if (b == 60) && (c == 61) then Some (k.Mark m.AtMost)
    else (if (b == 62) && (c == 61) then Some (k.Mark m.AtLeast)
    else (if (b == 60) && (c == 62) then Some (k.Mark m.Unequal) else None))))

-- of one byte
abbrev pub single : ℕ → Option TokenKind
single b =
    if b == 43 then Some (k.Mark m.Plus)
    else (if b == 45 then Some (k.Mark m.Minus)
    else (if b == 42 then Some (k.Mark m.Times)
    else (if b == 47 then Some (k.Mark m.Slash)
    else (if b == 38 then Some (k.Word w.And)
    else (if b == 126 then Some (k.Word w.Not)
    else (if b == 46 then Some (k.Mark m.Dot)
    else (if b == 44 then Some (k.Mark m.Comma)
    else (if b == 59 then Some (k.Mark m.Semicolon)
    else (if b == 40 then Some (k.Mark m.Open)
    else (if b == 41 then Some (k.Mark m.Close)
    else (if b == 91 then Some (k.Mark m.OpenBracket)
    else (if b == 93 then Some (k.Mark m.CloseBracket)
    else (if b == 123 then Some (k.Mark m.OpenBrace)
    else (if b == 125 then Some (k.Mark m.CloseBrace)
    else (if b == 94 then Some (k.Mark m.Arrow)
    else (if b == 61 then Some (k.Mark m.Equal)
    else (if b == 35 then Some (k.Mark m.Unequal)
    else (if b == 60 then Some (k.Mark m.Less)
    else (if b == 62 then Some (k.Mark m.Greater)
    else (if b == 58 then Some (k.Mark m.Colon)
    else (if b == 124 then Some (k.Mark m.Bar) else None)))))))))))))))))))))

-- no mark of two bytes begins with this byte, and no comment
abbrev pub NoPair : ℕ → List ℕ → Type 0
NoPair b [] = Unit {0}
NoPair b (c ∷ cs) = (pair b c ≡ None) × (opens b c ≡ false)

-- ---- pieces
-- the bytes, before the rest of a text, are one piece: a token, or a blank or comment, which are none
pub data IsPiece : List ℕ → List ℕ → Option TokenKind → Type 0 where
  blank : {b : ℕ} {rest : List ℕ} → is_blank b ≡ true → IsPiece (b ∷ []) rest None
  comment : {inside rest : List ℕ} → IsInside (inside ++ rest) rest → IsPiece (40 ∷ 42 ∷ inside) rest None
  name : {b : ℕ} {bs rest : List ℕ} → is_letter b ≡ true → list_all is_name_byte bs ≡ true → Stops is_name_byte rest → length (b ∷ bs) ≤ 64
      → IsPiece (b ∷ bs) rest (Some (named (b ∷ bs)))
  number : {run rest : List ℕ} {what : TokenKind} → IsRun run rest → Says run what → fits what ≡ true → IsPiece run rest (Some what)
  string : {q : ℕ} {bs rest : List ℕ} → is_quote q ≡ true → list_all (is_string_byte q) bs ≡ true → IsPiece (q ∷ (bs ++ q ∷ [])) rest (Some (k.Chars bs))
  mark : {b : ℕ} {rest : List ℕ} {what : TokenKind} → single b ≡ Some what → NoPair b rest → IsPiece (b ∷ []) rest (Some what)
  long_mark : {b c : ℕ} {rest : List ℕ} {what : TokenKind} → pair b c ≡ Some what → IsPiece (b ∷ c ∷ []) rest (Some what)

-- a byte with which no piece begins
abbrev pub BeginsNone : ℕ → Type 0
BeginsNone b = (is_blank b ≡ false) × (is_letter b ≡ false) × (is_digit b ≡ false) × (is_quote b ≡ false) × (single b ≡ None)

-- no piece stands at the place before this text, but a fault
pub data IsFault : Place → List ℕ → SourceFault → Type 0 where
  bad_char : {p : Place} {b : ℕ} {bs : List ℕ} → BeginsNone b → IsFault p (b ∷ bs) (fault 1 p)
  open_comment : {p : Place} {bs : List ℕ} → ((rest : List ℕ) → IsInside bs rest → ⊥) → IsFault p (40 ∷ 42 ∷ bs) (fault 2 p)
  open_string : {p : Place} {q : ℕ} (bs rest : List ℕ) → is_quote q ≡ true → list_all (goes_on q) bs ≡ true → EndsLine rest → IsFault p (q ∷ (bs ++ rest)) (fault 3 p)
  bad_in_string : {p : Place} {q : ℕ} (bs : List ℕ) (b : ℕ) (more rest : List ℕ) → is_quote q ≡ true → list_all (is_string_byte q) bs ≡ true
      → is_string_byte q b ≡ false → list_all (goes_on q) (b ∷ more) ≡ true
      → IsFault p (q ∷ (bs ++ b ∷ (more ++ q ∷ rest))) (fault 1 (behind p (q ∷ bs)))
  bad_number : {p : Place} {run rest : List ℕ} → IsRun run rest → ((what : TokenKind) → Says run what → ⊥) → IsFault p (run ++ rest) (fault 4 p)
  too_large : {p : Place} {run rest : List ℕ} {what : TokenKind} → IsRun run rest → Says run what → fits what ≡ false → IsFault p (run ++ rest) (fault 5 p)
  long_name : {p : Place} {b : ℕ} (bs rest : List ℕ) → is_letter b ≡ true → list_all is_name_byte bs ≡ true → Stops is_name_byte rest → 64 < length (b ∷ bs)
      → IsFault p (b ∷ (bs ++ rest)) (fault 6 p)

-- ---- whole texts
-- the token that a piece at a place is, before others
abbrev pub before : Place → Option TokenKind → List Token → List Token
before p None ts = ts
before p (Some what) ts = record { what = what; place = p } ∷ ts

-- the text at a place is cut into these tokens, up to a place and the text that is left there
pub data CutsTo : Place → List ℕ → List Token → Place → List ℕ → Type 0 where
  here : {p : Place} {text : List ℕ} → CutsTo p text [] p text
  piece : {p q : Place} {text front rest left : List ℕ} {what : Option TokenKind} {ts : List Token}
      → text ≡ front ++ rest → IsPiece front rest what → CutsTo (behind p front) rest ts q left → CutsTo p text (before p what ts) q left

-- the tokens, with Finish behind the last byte
abbrev pub finished : List Token → Place → List Token
finished ts end = ts ++ record { what = k.Finish; place = end } ∷ []

-- the most bytes of a text
abbrev pub longest_text : ℕ
longest_text = 262144

-- the text is cut whole into these tokens
pub data HasTokens : List ℕ → List Token → Type 0 where
  whole : {text : List ℕ} {ts : List Token} {end : Place} → length text ≤ longest_text → CutsTo start text ts end [] → HasTokens text (finished ts end)

-- the text has this fault: it is too long, or it is cut up to a place where the fault stands
pub data HasLexicalFault : List ℕ → SourceFault → Type 0 where
  too_long : {text : List ℕ} → longest_text < length text → HasLexicalFault text (fault 65 start)
  stopped : {text : List ℕ} {ts : List Token} {place : Place} {rest : List ℕ} {f : SourceFault}
      → length text ≤ longest_text → CutsTo start text ts place rest → IsFault place rest f → HasLexicalFault text f
