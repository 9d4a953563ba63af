-- How a text is cut: one way, and up to one place.
use Rattle.std.proofs.Common.{◌≡◌, ℕ, zero, suc, ◌≤◌, cond, List, [], ◌∷◌, ◌++◌, length, take, drop, Option, Some, None, Result, Ok, Err, refl, ap, sym, ◌∙◌, arith, length-append, append-nil, append_assoc, ◌⊎◌, inl, inr, IfOk, ⊎_elim}
use Rattle.std.proofs.lemmas.{Bool.{cases_lt, lt-ltb, le-ltb}, List.{take_at, drop_at}}
use Rattle.std.specs.Prelude.{nat_lt}
use Rattle.lil_base.specs.{declared.fault.{Place.Place, SourceFault.SourceFault}, Faults.fault}
use Rattle.lil_text.specs.{declared.{stop.ReadStop.ReadStop, token.{Token.Token, TokenKind.TokenKind}}, Lexical.{behind, before, start, finished, longest_text, IsPiece, CutsTo, here, piece, HasTokens, whole, HasLexicalFault, too_long, stopped}}
use Rattle.lil_text.specs.declared.stop.ReadStop.TheVariants as why
use Rattle.lil_lexer.specs.{declared.pieces.Piece.Piece, Pieces.Begins}
use Rattle.lil_lexer.specs.Pieces as spec
use Rattle.lil_lexer.proofs.{PieceLaws.{Right, outcome, right, some_bytes}, PieceAgain.{piece_again, fault_again}}

-- ---- one more piece
before_join : (p : Place) (what : Option TokenKind) (ts us : List Token) → before p what (ts ++ us) ≡ before p what ts ++ us
before_join p None ts us = refl
before_join p (Some what) ts us = refl

cut_more : {p q : Place} {text left : List ℕ} {ts : List Token} (front rest : List ℕ) (what : Option TokenKind) → CutsTo p text ts q left → left ≡ front ++ rest → IsPiece front rest what
    → CutsTo p text (ts ++ before q what []) (behind q front) rest
cut_more front rest what here e is = piece e is here
cut_more {q = q} front rest what (piece {p = p} {what = first} {ts = ts} e' is' cut) e is =
    rw (← (before_join p first ts (before q what []))) (piece e' is' (cut_more front rest what cut e is))

-- ---- one way
-- what a text at a place reads as behind other tokens, in so many pieces
abbrev reads : ℕ → List Token → Place → List ℕ → Result (List Token) SourceFault
reads zero ts p text = Ok ts
reads (suc n) ts p text =
    elim (spec.piece text p) [ Err f ↦ Err f | Ok y ↦ elim y.len [ zero ↦ Ok (finished ts p) | suc k ↦ reads n (ts ++ before p y.what []) (behind p (take y.len text)) (drop y.len text) ] ]

read_piece : (n : ℕ) (ts : List Token) (p : Place) (front rest : List ℕ) (what : Option TokenKind) → IsPiece front rest what
    → reads (suc n) ts p (front ++ rest) ≡ reads n (ts ++ before p what []) (behind p front) rest
read_piece n ts p [] rest what is = absurd (omega (arith, some_bytes is))
read_piece n ts p (b ∷ bs) rest what is = rw (reads, piece_again is p, take_at bs rest (length bs) refl, drop_at bs rest (length bs) refl)

read_cut : {p q : Place} {text left : List ℕ} {us : List Token} → CutsTo p text us q left → (n : ℕ) (ts : List Token) → length text ≤ n
    → (m : ℕ) × (length left ≤ m) × (reads (suc n) ts p text ≡ reads (suc m) (ts ++ us) q left)
read_cut here n ts h = (n, h, rw append-nil)
read_cut (piece {front = front} {rest = rest} e is cut) zero ts h = absurd (omega (arith, ap length e, length-append front rest, some_bytes is))
read_cut (piece {p = p} {front = front} {rest = rest} {what = what} {ts = us} e is cut) (suc n) ts h =
    let x = read_cut cut n (ts ++ before p what []) (omega (arith, ap length e, length-append front rest, some_bytes is)) in
    (x.0, x.1, ap (reads (suc (suc n)) ts p) e ∙ (read_piece (suc n) ts p front rest what is ∙ (x.2 ∙ rw (append_assoc, ← (before_join p what [] us)))))

pub reading : List ℕ → Result (List Token) SourceFault
reading text = cond (nat_lt longest_text (length text)) (Err (fault 65 start)) (reads (suc (length text)) [] start text)

pub tokens_read : {text : List ℕ} {ts : List Token} → HasTokens text ts → reading text ≡ Ok ts
unfolding reading spec.piece
tokens_read {text = text} (whole short cut) = rw (le-ltb longest_text (length text) short) (read_cut cut (length text) [] (omega arith)).2

pub fault_read : {text : List ℕ} {f : SourceFault} → HasLexicalFault text f → reading text ≡ Err f
unfolding reading
fault_read {text = text} (too_long over) = rw (lt-ltb longest_text (length text) over)
fault_read {text = text} (stopped short cut h) = rw (le-ltb longest_text (length text) short) ((read_cut cut (length text) [] (omega arith)).2 ∙ rw (reads, fault_again h))

-- a text has its tokens in one way
pub tokens_unique : {text : List ℕ} {ts us : List Token} → HasTokens text ts → HasTokens text us → ts ≡ us
tokens_unique h k = let both = sym (tokens_read h) ∙ tokens_read k in cc

-- and with a fault it has no tokens
pub never_both : {text : List ℕ} {ts : List Token} {f : SourceFault} → HasTokens text ts → HasLexicalFault text f → ⊥
never_both h k = let both = sym (tokens_read h) ∙ fault_read k in absurd (cc)

-- ---- a text has tokens or a fault
abbrev Either : List ℕ → Type 0
Either text = ((ts : List Token) × HasTokens text ts) ⊎ ((f : SourceFault) × HasLexicalFault text f)

cut_on : (text : List ℕ) → length text ≤ longest_text → (n : ℕ) (q : Place) (left : List ℕ) (ts : List Token) → length left ≤ n → CutsTo start text ts q left → Either text
cut_on text short n q [] ts h cut = inl (finished ts q, whole short cut)
cut_on text short zero q (b ∷ bs) ts h cut = absurd (omega (arith, h))
cut_on text short (suc n) q (b ∷ bs) ts h cut =
    (elim (spec.piece (b ∷ bs) q) as (λ o. Right q (b ∷ bs) o → Either text) [
      | Err f ↦ λ is. inr (f, stopped short cut is)
      | Ok y ↦ λ x.
          let less : length x.rest ≤ n = omega (arith, ap length x.cut, length-append x.front x.rest, some_bytes x.is) in
          cut_on text short n (behind q x.front) x.rest (ts ++ before q y.what []) less (cut_more x.front x.rest y.what cut x.cut x.is)
    ]) (right (outcome b bs q))

pub tokens_or_fault : (text : List ℕ) → Either text
tokens_or_fault text = ⊎_elim (λ over. inr (fault 65 start, too_long over)) (λ short. cut_on text short (length text) start text [] (omega arith) here) (cases_lt longest_text (length text))

-- ---- what a reading owes
abbrev pub raised : Result (List Token) SourceFault → Result (List Token) ReadStop
raised (Ok ts) = Ok ts
raised (Err f) = Err (why.Fault f)

pub owes : {text : List ℕ} (r : Result (List Token) ReadStop) → IfOk r (λ ts. HasTokens text ts) → ((f : SourceFault) → r ≡ Err (why.Fault f) → HasLexicalFault text f)
    → {o : Result (List Token) SourceFault} → reading text ≡ o → (r ≡ raised o) ⊎ (r ≡ Err why.Memory)
owes (Ok ts) found fails e = rw (← e, tokens_read found) (inl refl)
owes (Err (why.Fault f)) found fails e = rw (← e, fault_read (fails f refl)) (inl refl)
owes (Err why.Memory) found fails e = inr refl

-- ---- a step of the cut
pub cut_next : {text left front rest : List ℕ} {ts us : List Token} {q r : Place} {y : Piece} → CutsTo start text ts q left → Begins left y → us ≡ ts ++ before q y.what []
    → r ≡ behind q front → front ≡ take y.len left → rest ≡ drop y.len left → CutsTo start text us r rest
cut_next {y = y} cut x tokens place taken left =
    rw (tokens, place, taken, left, x.len, x.cut, take_at x.front x.rest (length x.front) refl, drop_at x.front x.rest (length x.front) refl) (cut_more x.front x.rest y.what cut x.cut x.is)

pub cut_whole : {text left : List ℕ} {ts us : List Token} {q : Place} → length text ≤ longest_text → CutsTo start text ts q left → length left ≡ 0 → us ≡ finished ts q → HasTokens text us
cut_whole {left = []} short cut none e = rw e (whole short cut)
cut_whole {left = b ∷ bs} short cut none e = absurd (omega (arith, none))
