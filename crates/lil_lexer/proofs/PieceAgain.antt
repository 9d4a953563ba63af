-- A piece of the definition is found at the start of its text, and so is a fault.
use Rattle.std.proofs.Common.{◌≡◌, ℕ, ◌+◌, ◌-◌, ◌<◌, ◌≤◌, true, false, cond, ◌==◌, List, [], ◌∷◌, ◌++◌, length, take, Option, Some, None, Ok, Err, refl, ap, sym, ◌∙◌, arith, length-append, append_assoc, append-nil}
use Rattle.std.proofs.lemmas.{Bool.{and_parts, false_from_ne_true, le-ltb, lt-ltb, eq-eqb, Decides.nat_tests}, List.{take_at, Folds.list_all-append}, Slice.Eq.bytes_eq-Decides}
use Rattle.std.specs.{List.list_all, Prelude.nat_lt, Str.bytes_eq}
use Rattle.lil_base.specs.{Names.{is_letter, is_digit, is_name_byte, is_name}, declared.fault.{Place.Place, SourceFault.SourceFault}, Faults.fault}
use Rattle.lil_text.specs.{declared.token.{TokenKind.TokenKind, Word.Word}, Cuts.{Stops, spelling, word_among, all_words}}
use Rattle.lil_text.specs.Lexical.{opens, IsInside, is_quote, goes_on, is_string_byte, EndsLine, pair, single, NoPair, named, IsRun, plain, with_h, Says, fits, IsPiece, blank, comment, name, number, string, mark, long_mark, IsFault, bad_char, open_comment, open_string, bad_in_string, bad_number, too_large, long_name, after_byte, behind}
use Rattle.lil_text.specs.declared.token.TokenKind.TheVariants as k
use Rattle.lil_text.specs.Lexical as lexical
use Rattle.lil_lexer.specs.Pieces.{begins_with, after_comment, comment_piece, name_piece, run_len, says, number_piece, line_piece, string_piece, single_piece, pair_piece, mark_piece, piece, token}
use Rattle.lil_lexer.specs.Pieces as spec
use Rattle.lil_lexer.proofs.{Beginnings.{letter_plain, digit_plain, quote_plain, Plain, single_plain, pair_plain, no_pair}, Comments.{comment_sound, comment_complete}, Runs.{run_length, run_taken, run_left}, Numerals.{says_sound, says_complete, run_complete}}

at_digit : (b : ℕ) (bs : List ℕ) (p : Place) → is_digit b ≡ true → piece (b ∷ bs) p ≡ number_piece (take (run_len (b ∷ bs)) (b ∷ bs)) p
unfolding piece
at_digit b bs p h = let o = digit_plain b h in rw (o.0, o.1, h)

at_mark : (b : ℕ) (bs : List ℕ) (p : Place) → Plain b → piece (b ∷ bs) p ≡ mark_piece b bs p
unfolding piece
at_mark b bs p o = rw (o.0, o.1, o.2, o.3)

-- ---- names
spelled_short : (word : Word) → length (spelling word) ≤ 64
spelled_short word = grind arith

not_spelled : (text : List ℕ) (word : Word) → 64 < length text → bytes_eq text (spelling word) ≡ false
not_spelled text word long = false_from_ne_true (bytes_eq text (spelling word)) (λ e. absurd (omega (arith, ap length ((bytes_eq-Decides text (spelling word)).0 e), spelled_short word, long)))

-- a reserved word is short
no_word : (words : List Word) (text : List ℕ) → 64 < length text → word_among words text ≡ None
no_word [] text long = refl
no_word (word ∷ words) text long = rw (not_spelled text word long, no_word words text long)

is_short : (b : ℕ) (bs : List ℕ) → is_letter b ≡ true → list_all is_name_byte bs ≡ true → length (b ∷ bs) ≤ 64 → is_name (b ∷ bs) ≡ true
is_short b bs is all h = grind (arith, nat_tests)

is_long : (b : ℕ) (bs : List ℕ) → is_letter b ≡ true → list_all is_name_byte bs ≡ true → 64 < length (b ∷ bs) → is_name (b ∷ bs) ≡ false
is_long b bs is all h = grind (arith, nat_tests)

name_at : (b : ℕ) (bs rest : List ℕ) (p : Place) → is_letter b ≡ true → list_all is_name_byte bs ≡ true → Stops is_name_byte rest → piece (b ∷ (bs ++ rest)) p ≡ name_piece (b ∷ bs) p
unfolding piece
name_at b bs rest p is all stops = rw (run_taken is_name_byte (b ∷ bs) rest (rw is all) stops, letter_plain b is, is)

named_again : (text : List ℕ) (p : Place) (o : Option Word) → is_name text ≡ true → spec.word_or_name text p o ≡ token (lexical.word_or_name text o) (length text)
named_again text p None is = rw is
named_again text p (Some word) is = refl

-- ---- numbers
number_at : {run rest : List ℕ} (p : Place) → IsRun run rest → piece (run ++ rest) p ≡ number_piece run p
number_at {run = run} {rest = rest} p h = at h ∙ ap (λ (run : List ℕ). number_piece run p) (take_at run rest (run_len (run ++ rest)) (sym (run_complete h)))
  where
    at : {run rest : List ℕ} → IsRun run rest → piece (run ++ rest) p ≡ number_piece (take (run_len (run ++ rest)) (run ++ rest)) p
    at {rest = rest} (plain {d = d} {ds = ds} is all stops) = at_digit d (ds ++ rest) p is
    at {rest = rest} (with_h {d = d} ds is all) = at_digit d ((ds ++ 72 ∷ []) ++ rest) p is

-- ---- strings
string_goes_on : (q b : ℕ) → is_string_byte q b ≡ true → goes_on q b ≡ true
string_goes_on q b h = grind (arith, nat_tests)

line_goes_on : (q : ℕ) (bs : List ℕ) → list_all (is_string_byte q) bs ≡ true → list_all (goes_on q) bs ≡ true
line_goes_on q [] all = refl
line_goes_on q (b ∷ bs) all = let p = and_parts (is_string_byte q b) (list_all (is_string_byte q) bs) all in rw (string_goes_on q b p.0) (line_goes_on q bs p.1)

string_at : (q : ℕ) (line rest : List ℕ) (p : Place) → is_quote q ≡ true → list_all (goes_on q) line ≡ true → Stops (goes_on q) rest
    → piece (q ∷ (line ++ rest)) p ≡ cond (begins_with q rest) (line_piece q line p) (Err (fault 3 p))
unfolding piece string_piece
string_at q line rest p is all stops =
    let o = quote_plain q is in rw (o.0, o.1, o.2, is, run_left (goes_on q) line rest all stops, run_taken (goes_on q) line rest all stops)

quoted_at : (q : ℕ) (line rest : List ℕ) (p : Place) → is_quote q ≡ true → list_all (goes_on q) line ≡ true → piece (q ∷ (line ++ q ∷ rest)) p ≡ line_piece q line p
quoted_at q line rest p is all =
    let same = eq-eqb q q refl in
    string_at q line (q ∷ rest) p is all (rw same) ∙ rw same

line_again : (q : ℕ) (bs left : List ℕ) (p : Place) → list_all (is_string_byte q) bs ≡ true → Stops (is_string_byte q) left
    → line_piece q (bs ++ left) p ≡ cond (nat_lt (length bs) (length (bs ++ left))) (Err (fault 1 (behind (after_byte p q) bs))) (token (k.Chars (bs ++ left)) (length (bs ++ left) + 2))
unfolding line_piece
line_again q bs left p all stops = rw (run_taken (is_string_byte q) bs left all stops, run_length (is_string_byte q) bs left all stops)

-- the line's end is no mark
line_end : (q : ℕ) (rest : List ℕ) → is_quote q ≡ true → EndsLine rest → Stops (goes_on q) rest × (begins_with q rest ≡ false)
line_end q [] is h = (tt, refl)
line_end q (c ∷ cs) is h = ends c is h
  where
    ends : (c : ℕ) → is_quote q ≡ true → c ≡ 10 → (goes_on q c ≡ false) × ((c == q) ≡ false)
    ends c is h = grind (arith, nat_tests)

-- ---- marks
alone_again : (b : ℕ) (rest : List ℕ) (p : Place) (o : Option TokenKind) → single b ≡ o → NoPair b rest → mark_piece b rest p ≡ single_piece p o
unfolding mark_piece
alone_again b [] p o e alone = rw e
alone_again b (c ∷ cs) p o e alone = rw (alone.1, alone.0, e)

none_from : {A : Type 0} (o : Option A) → ((x : A) → o ≡ Some x → ⊥) → o ≡ None
none_from None never = refl
none_from (Some x) never = absurd (never x refl)

-- ---- pieces
pub piece_again : {front rest : List ℕ} {what : Option TokenKind} → IsPiece front rest what → (p : Place) → piece (front ++ rest) p ≡ Ok (record { what = what; len = length front })
unfolding piece mark_piece name_piece named number_piece
piece_again (blank is) p = rw is
piece_again (comment {inside = inside} {rest = rest} h) p =
    let count : length (inside ++ rest) - length rest + 2 ≡ length (40 ∷ 42 ∷ inside) = omega (arith, length-append inside rest) in
    rw (comment_complete h 0, count)
piece_again (name {b = b} {bs = bs} {rest = rest} is all stops short) p =
    name_at b bs rest p is all stops ∙ named_again (b ∷ bs) p (word_among all_words (b ∷ bs)) (is_short b bs is all short)
piece_again (number h says fit) p = number_at p h ∙ rw (says_complete says, fit)
piece_again (string {q = q} {bs = bs} {rest = rest} is all) p =
    let count : length bs + 2 ≡ length (q ∷ (bs ++ q ∷ [])) = omega (arith, length-append bs (q ∷ [])) in
    rw append_assoc (quoted_at q bs rest p is (line_goes_on q bs all)
    ∙ (rw append-nil at (line_again q bs [] p all tt)) ∙ rw (le-ltb (length bs) (length bs) (omega arith), count))
piece_again (mark {b = b} {rest = rest} {what = what} e alone) p = at_mark b rest p (single_plain b what e) ∙ alone_again b rest p (Some what) e alone
piece_again (long_mark {b = b} {c = c} {rest = rest} {what = what} e) p = let f = pair_plain b c what e in at_mark b (c ∷ rest) p f.0 ∙ rw (f.1, e)

pub fault_again : {p : Place} {text : List ℕ} {f : SourceFault} → IsFault p text f → piece text p ≡ Err f
unfolding piece mark_piece name_piece number_piece
fault_again {p = p} (bad_char {b = b} {bs = bs} h) = at_mark b bs p (h.0, h.1, h.2, h.3) ∙ alone_again b bs p None h.4 (no_pair b bs h.4)
fault_again (open_comment {bs = bs} never) = rw (none_from (after_comment 0 0 bs) (λ rest e. never rest (comment_sound bs rest e)))
fault_again {p = p} (open_string {q = q} bs rest is all ends) = let e = line_end q rest is ends in string_at q bs rest p is all e.0 ∙ rw e.1
fault_again {p = p} (bad_in_string {q = q} bs b more rest is good bad all) =
    let goes : list_all (goes_on q) (bs ++ b ∷ more) ≡ true = rw (list_all-append (goes_on q) bs (b ∷ more), line_goes_on q bs good) all in
    rw (← (append_assoc bs (b ∷ more) (q ∷ rest))) (quoted_at q (bs ++ b ∷ more) rest p is goes
    ∙ (line_again q bs (b ∷ more) p good bad ∙ rw (lt-ltb (length bs) (length (bs ++ b ∷ more)) (omega (arith, length-append bs (b ∷ more))))))
fault_again {p = p} (bad_number {run = run} h none) = number_at p h ∙ rw (none_from (says run) (λ what e. none what (says_sound run what e)))
fault_again {p = p} (too_large h says large) = number_at p h ∙ rw (says_complete says, large)
fault_again {p = p} (long_name {b = b} bs rest is all stops long) = name_at b bs rest p is all stops ∙ rw (no_word all_words (b ∷ bs) long, is_long b bs is all long)
