-- A text has no more tokens than bytes, and its end.
use Rattle.std.proofs.Common.{◌≡◌, ℕ, ◌+◌, ◌≤◌, refl, List, [], ◌∷◌, ◌++◌, length, length-append, Option, Some, None, ap, arith}
use Rattle.lil_base.specs.declared.fault.Place.{Place}
use Rattle.lil_text.specs.{declared.token.{Token.Token, TokenKind.TokenKind}, Lexical.{IsRun, IsPiece, CutsTo, HasTokens, before}}
use Rattle.lil_text.specs.declared.token.TokenKind.TheVariants as k
use Rattle.lil_text.specs.Lexical as x

run_some : {run rest : List ℕ} → IsRun run rest → 1 ≤ length run
run_some (x.plain _ _ _) = omega arith
run_some (x.with_h ds _ _) = omega arith

piece_some : {front rest : List ℕ} {o : Option TokenKind} {what : TokenKind} → IsPiece front rest o → o ≡ Some what → 1 ≤ length front
piece_some (x.name _ _ _ _) e = omega arith
piece_some (x.number is says h) e = run_some is
piece_some (x.string _ _) e = omega arith
piece_some (x.mark is _) e = omega arith
piece_some (x.long_mark is) e = omega arith
piece_some _ e = absurd (cc)

one_before : (p : Place) (o : Option TokenKind) (front rest : List ℕ) (ts : List Token) → ((what : TokenKind) → o ≡ Some what → 1 ≤ length front) → length ts ≤ length rest → length (before p o ts) ≤ length (front ++ rest)
one_before p None front rest ts some h = omega (arith, h, length-append front rest)
one_before p (Some what) front rest ts some h = omega (arith, h, some what refl, length-append front rest)

cut_few : {p q : Place} {text left : List ℕ} {ts : List Token} → CutsTo p text ts q left → length ts ≤ length text
cut_few x.here = omega arith
cut_few (x.piece {p = p} {text = text} {front = front} {rest = rest} {what = what} {ts = ts} cut is d) = omega (arith, one_before p what front rest ts (λ w e. piece_some is e) (cut_few d), ap length cut)

pub tokens_few : {text : List ℕ} {ts : List Token} → HasTokens text ts → length ts ≤ 262145
tokens_few (x.whole {ts = ts} {end = end} short d) = omega (arith, short, cut_few d, length-append ts (record { what = k.Finish; place = end } ∷ []))
