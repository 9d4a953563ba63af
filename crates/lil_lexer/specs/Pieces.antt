-- What a text begins with, as a function of the text: a token, a blank or comment, or a fault.
use Rattle.std.specs.Prelude.{◌≡◌, ℕ, zero, suc, ◌+◌, ◌-◌, ◌<◌, ◌≤◌, ◌^◌, ◌==◌, ◌&&◌, nat_lt, Bool, false, List, [], ◌∷◌, ◌++◌, length, take, drop, get_or, Option, Some, None, Result, Ok, Err, if◌then◌else◌}
use Rattle.std.specs.List.{list_all, prefix_len}
use Rattle.lil_base.specs.{Names.{is_letter, is_digit, is_name_byte, is_name}, declared.fault.{Place.Place, SourceFault.SourceFault}, Faults.fault}
use Rattle.lil_text.specs.{declared.{token.{TokenKind.TokenKind, Word.Word}, stop.ReadStop.ReadStop}, Cuts.{is_blank, word_among, all_words}, Lexical.{opens, closes, is_octal_digit, is_hex_digit, value, fits, is_quote, goes_on, is_string_byte, pair, single, after_byte, behind, IsPiece, IsFault}}
use Rattle.lil_text.specs.declared.token.TokenKind.TheVariants as k
use Rattle.lil_text.specs.declared.stop.ReadStop.TheVariants as why
use Rattle.lil_lexer.specs.declared.pieces.Piece.{Piece}

-- what code returns, beside an outcome that knows no want of memory
abbrev pub Reads : {A : Type 0} → Result A SourceFault → Result A ReadStop → Type 0
Reads outcome (Ok a) = outcome ≡ Ok a
Reads outcome (Err (why.Fault f)) = outcome ≡ Err f
Reads outcome (Err why.Memory) = Unit {0}

-- so many bytes more keep a place in its numbers
abbrev pub HasRoom : Place → ℕ → Type 0
HasRoom p n = (p.line + n < 2 ^ 32) × (p.column + n < 2 ^ 32) × (p.offset + n < 2 ^ 32)

-- the second place is so many bytes behind the first at most
abbrev pub IsWithin : Place → Place → ℕ → Type 0
IsWithin p q n = (q.line ≤ p.line + n) × (q.column ≤ p.column + n) × (q.offset ≤ p.offset + n)

-- the text begins with this piece
pub record Begins (text : List ℕ) (y : Piece) : Type 0 where
  pub front : List ℕ
  pub rest : List ℕ
  pub cut : text ≡ front ++ rest
  pub len : y.len ≡ length front
  pub is : IsPiece front rest y.what
  pub some : 0 < y.len
  pub within : y.len ≤ length text

-- the text at a place begins with what was found, or the fault stands there
abbrev pub Found : Place → List ℕ → Result Piece ReadStop → Type 0
Found p text (Ok y) = Begins text y
Found p text (Err (why.Fault f)) = IsFault p text f
Found p text (Err why.Memory) = Unit {0}

abbrev pub token : TokenKind → ℕ → Result Piece SourceFault
token what n = Ok (record { what = Some what; len = n })

abbrev pub skipped : ℕ → Result Piece SourceFault
skipped n = Ok (record { what = None; len = n })

abbrev pub begins_with : ℕ → List ℕ → Bool
begins_with b [] = false
begins_with b (c ∷ cs) = c == b

-- ---- comments
-- what is behind a comment, which so many others hold; before is the byte before where it may begin a pair
abbrev pub after_comment : ℕ → ℕ → List ℕ → Option (List ℕ)
after_comment before depth [] = None
after_comment before depth (b ∷ bs) =
    if opens before b then after_comment 0 (suc depth) bs
    else (if closes before b then elim depth [ zero ↦ Some bs | suc d ↦ after_comment 0 d bs ] else after_comment b depth bs)

abbrev pub comment_piece : Place → List ℕ → Option (List ℕ) → Result Piece SourceFault
comment_piece p inside None = Err (fault 2 p)
comment_piece p inside (Some rest) = skipped (length inside - length rest + 2)

-- ---- words and names
abbrev pub word_or_name : List ℕ → Place → Option Word → Result Piece SourceFault
word_or_name name p None = if is_name name then token (k.Ident name) (length name) else Err (fault 6 p)
word_or_name name p (Some word) = token (k.Word word) (length name)

unfoldable pub name_piece : List ℕ → Place → Result Piece SourceFault
name_piece name p = word_or_name name p (word_among all_words name)

-- ---- numbers
unfoldable pub run_len : List ℕ → ℕ
run_len text = let n = prefix_len is_hex_digit text in if begins_with 72 (drop n text) then n + 1 else n

abbrev pub number : ℕ → List ℕ → Option TokenKind
number base ds = Some (k.Number (value base ds))

abbrev pub code : List ℕ → Option TokenKind
code ds = Some (k.CharCode (value 8 ds))

-- what a run says, by its last byte
unfoldable pub says : List ℕ → Option TokenKind
says run =
    let last = get_or run (length run - 1) 0 in
    let digits = take (length run - 1) run in
    if (last == 72) && list_all is_hex_digit digits then number 16 digits
    else (if (last == 66) && list_all is_octal_digit digits then number 8 digits
    else (if (last == 67) && list_all is_octal_digit digits then code digits
    else (if list_all is_digit run then number 10 run else None)))

abbrev pub judged : Place → Option TokenKind → Result TokenKind SourceFault
judged p None = Err (fault 4 p)
judged p (Some what) = if fits what then Ok what else Err (fault 5 p)

abbrev pub with_len : ℕ → Result TokenKind SourceFault → Result Piece SourceFault
with_len n (Ok what) = token what n
with_len n (Err f) = Err f

unfoldable pub number_piece : List ℕ → Place → Result Piece SourceFault
number_piece run p = with_len (length run) (judged p (says run))

-- ---- strings
unfoldable pub line_piece : ℕ → List ℕ → Place → Result Piece SourceFault
line_piece q line p =
    let good = prefix_len (is_string_byte q) line in
    if nat_lt good (length line) then Err (fault 1 (behind (after_byte p q) (take good line))) else token (k.Chars line) (length line + 2)

unfoldable pub string_piece : ℕ → List ℕ → Place → Result Piece SourceFault
string_piece q inner p =
    let n = prefix_len (goes_on q) inner in
    if begins_with q (drop n inner) then line_piece q (take n inner) p else Err (fault 3 p)

-- ---- marks
abbrev pub single_piece : Place → Option TokenKind → Result Piece SourceFault
single_piece p None = Err (fault 1 p)
single_piece p (Some what) = token what 1

abbrev pub pair_piece : ℕ → Place → Option TokenKind → Result Piece SourceFault
pair_piece b p None = single_piece p (single b)
pair_piece b p (Some what) = token what 2

unfoldable pub mark_piece : ℕ → List ℕ → Place → Result Piece SourceFault
mark_piece b [] p = single_piece p (single b)
mark_piece b (c ∷ cs) p = if opens b c then comment_piece p cs (after_comment 0 0 cs) else pair_piece b p (pair b c)

-- ---- the first piece
unfoldable pub piece : List ℕ → Place → Result Piece SourceFault
piece [] p = skipped 0
piece (b ∷ bs) p =
    if is_blank b then skipped 1
    else (if is_letter b then name_piece (take (prefix_len is_name_byte (b ∷ bs)) (b ∷ bs)) p
    else (if is_digit b then number_piece (take (run_len (b ∷ bs)) (b ∷ bs)) p
    else (if is_quote b then string_piece b bs p else mark_piece b bs p)))
