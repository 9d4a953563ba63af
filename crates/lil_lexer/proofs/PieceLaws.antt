-- A text begins with a piece of the definition, or a fault stands there; so what is found there is right.
use Rattle.std.proofs.Common.{◌≡◌, ℕ, ◌<◌, Bool, true, false, ◌||◌, ◌==◌, List, [], ◌∷◌, ◌++◌, length, Option, Some, None, Result, Ok, Err, refl, sym, subst, ◌∙◌, ◌⊎◌, inl, inr, ⊎_elim, arith, length-append, append_assoc, append-nil}
use Rattle.std.proofs.lemmas.{Bool.{and_parts, not-false, eqb-true, or_cases, cases_Bool, cases_lt, Decides.nat_tests}, List.Folds.list_all-append}
use Rattle.std.specs.List.{list_all}
use Rattle.lil_base.specs.{Names.{is_letter, is_digit, is_name_byte}, declared.fault.{Place.Place, SourceFault.SourceFault}}
use Rattle.lil_text.specs.{declared.{stop.ReadStop.ReadStop, token.TokenKind.TokenKind}, Cuts.{is_blank, is_number_byte, Stops}}
use Rattle.lil_text.specs.declared.stop.ReadStop.TheVariants as why
use Rattle.lil_text.specs.Lexical.{opens, is_hex_digit, is_quote, goes_on, is_string_byte, pair, single, NoPair, fits, IsRun, plain, with_h, IsPiece, blank, comment, name, number, string, mark, long_mark, IsFault, bad_char, open_comment, open_string, bad_in_string, bad_number, too_large, long_name}
use Rattle.lil_lexer.specs.{declared.pieces.Piece.Piece, Pieces.{after_comment, says, Reads, Begins, Found}}
use Rattle.lil_lexer.specs.Pieces as spec
use Rattle.lil_lexer.proofs.{Beginnings.Plain, Comments.{comment_sound, comment_complete, inside_splits}, Runs.{cut_at}, Numerals.{says_sound, says_complete}, PieceAgain.{piece_again, fault_again}}

pub data Outcome : Place → List ℕ → Type 0 where
  begins : {p : Place} {front rest : List ℕ} {what : Option TokenKind} → IsPiece front rest what → Outcome p (front ++ rest)
  fails : {p : Place} {text : List ℕ} {f : SourceFault} → IsFault p text f → Outcome p text

cases_Option : {A : Type 0} (o : Option A) → (o ≡ None) ⊎ ((x : A) × (o ≡ Some x))
cases_Option None = inl refl
cases_Option (Some x) = inr (x, refl)

-- ---- comments
comment_outcome : (bs : List ℕ) (p : Place) → Outcome p (40 ∷ 42 ∷ bs)
comment_outcome bs p =
    ⊎_elim (λ e. fails (open_comment (λ rest h. let both = sym e ∙ comment_complete h 0 in absurd (cc))))
    (λ x. let h = comment_sound bs x.0 x.1 in let s = inside_splits h in rw s.1 (begins (comment (rw s.1 at h)))) (cases_Option (after_comment 0 0 bs))

-- ---- names
name_outcome : (b : ℕ) (bs rest : List ℕ) (p : Place) → is_letter b ≡ true → list_all is_name_byte bs ≡ true → Stops is_name_byte rest → Outcome p (b ∷ (bs ++ rest))
name_outcome b bs rest p is all stops =
    ⊎_elim (λ long. fails (long_name bs rest is all stops long)) (λ short. begins (name {rest = rest} is all stops short)) (cases_lt 64 (length (b ∷ bs)))

-- ---- numbers
run_outcome : {run rest : List ℕ} (p : Place) → IsRun run rest → Outcome p (run ++ rest)
run_outcome {run = run} p h =
    ⊎_elim (λ e. fails (bad_number h (λ what s. let both = sym e ∙ says_complete s in absurd (cc))))
    (λ x. ⊎_elim (λ fit. begins (number h (says_sound run x.0 x.1) fit)) (λ large. fails (too_large h (says_sound run x.0 x.1) large)) (cases_Bool (fits x.0)))
    (cases_Option (says run))

number_outcome : (d : ℕ) (ds rest : List ℕ) (p : Place) → is_digit d ≡ true → list_all is_hex_digit ds ≡ true → Stops is_hex_digit rest → Outcome p (d ∷ (ds ++ rest))
number_outcome d ds [] p is all stops = run_outcome p (plain {ds = ds} {rest = []} is all tt)
number_outcome d ds (c ∷ cs) p is all stops =
    ⊎_elim (λ e. rw (eqb-true c 72 e, ← (append_assoc ds (72 ∷ []) cs)) (run_outcome p (with_h ds is all)))
    (λ e. run_outcome p (plain {ds = ds} {rest = c ∷ cs} is all (no_number c stops e))) (cases_Bool (c == 72))
  where
    no_number : (c : ℕ) → is_hex_digit c ≡ false → (c == 72) ≡ false → is_number_byte c ≡ false
    no_number c h e = grind (arith, nat_tests)

-- ---- strings
line_outcome : (q : ℕ) (good left rest : List ℕ) (p : Place) → is_quote q ≡ true → list_all (is_string_byte q) good ≡ true → Stops (is_string_byte q) left → list_all (goes_on q) (good ++ left) ≡ true
    → Outcome p (q ∷ ((good ++ left) ++ q ∷ rest))
line_outcome q good [] rest p is all stops goes = rw (append-nil good, ← (append_assoc good (q ∷ []) rest)) (begins (string is all))
line_outcome q good (b ∷ more) rest p is all stops goes =
    let ends = and_parts (list_all (goes_on q) good) (list_all (goes_on q) (b ∷ more)) (rw list_all-append at goes) in
    rw (append_assoc good (b ∷ more) (q ∷ rest)) (fails (bad_in_string good b more rest is all stops ends.1))

string_outcome : (q : ℕ) (bs rest : List ℕ) (p : Place) → is_quote q ≡ true → list_all (goes_on q) bs ≡ true → Stops (goes_on q) rest → Outcome p (q ∷ (bs ++ rest))
string_outcome q bs [] p is all stops = fails (open_string bs [] is all tt)
string_outcome q bs (c ∷ cs) p is all stops =
    let x = cut_at (is_string_byte q) bs in
    let ended : Outcome p (q ∷ (bs ++ q ∷ cs)) =
    subst (λ (bs : List ℕ). Outcome p (q ∷ (bs ++ q ∷ cs))) (sym x.cut) (line_outcome q x.front x.rest cs p is x.all x.stops (rw x.cut at all)) in
    ⊎_elim (λ e. rw (eqb-true c q e) ended) (λ e. fails (open_string bs (c ∷ cs) is all (eqb-true c 10 e))) (or_cases (c == q) (c == 10) (not-false ((c == q) || (c == 10)) stops))

-- ---- marks
single_outcome : (b : ℕ) (bs : List ℕ) (p : Place) → Plain b → NoPair b bs → Outcome p (b ∷ bs)
single_outcome b bs p is alone = ⊎_elim (λ e. fails (bad_char (is.0, is.1, is.2, is.3, e))) (λ x. begins (mark x.1 alone)) (cases_Option (single b))

mark_outcome : (b : ℕ) (bs : List ℕ) (p : Place) → Plain b → Outcome p (b ∷ bs)
mark_outcome b [] p is = single_outcome b [] p is tt
mark_outcome b (c ∷ cs) p is =
    ⊎_elim (λ h. let t = and_parts (b == 40) (c == 42) h in rw (eqb-true b 40 t.0, eqb-true c 42 t.1) (comment_outcome cs p))
    (λ h. ⊎_elim (λ e. single_outcome b (c ∷ cs) p is (e, h)) (λ x. begins (long_mark {rest = cs} x.1)) (cases_Option (pair b c))) (cases_Bool (opens b c))

-- ---- the first piece
pub outcome : (b : ℕ) (bs : List ℕ) (p : Place) → Outcome p (b ∷ bs)
outcome b bs p = go (is_blank b) (is_letter b) (is_digit b) (is_quote b) refl refl refl refl
  where
    cut_by : (test : ℕ → Bool) → ((front rest : List ℕ) → list_all test front ≡ true → Stops test rest → Outcome p (b ∷ (front ++ rest))) → Outcome p (b ∷ bs)
    cut_by test each = let x = cut_at test bs in rw x.cut (each x.front x.rest x.all x.stops)

    go : (t u v w : Bool) → is_blank b ≡ t → is_letter b ≡ u → is_digit b ≡ v → is_quote b ≡ w → Outcome p (b ∷ bs)
    go true u v w is is' is'' is''' = begins (blank is)
    go false true v w is is' is'' is''' = cut_by is_name_byte (λ front rest. name_outcome b front rest p is')
    go false false true w is is' is'' is''' = cut_by is_hex_digit (λ front rest. number_outcome b front rest p is'')
    go false false false true is is' is'' is''' = cut_by (goes_on b) (λ front rest. string_outcome b front rest p is''')
    go false false false false is is' is'' is''' = mark_outcome b bs p (is, is', is'', is''')

abbrev pub Right : Place → List ℕ → Result Piece SourceFault → Type 0
Right p text (Ok y) = Begins text y
Right p text (Err f) = IsFault p text f

run_some : {run rest : List ℕ} → IsRun run rest → 0 < length run
run_some h = grind arith

pub some_bytes : {front rest : List ℕ} {what : Option TokenKind} → IsPiece front rest what → 0 < length front
some_bytes h = grind (arith, run_some)

pub right : {p : Place} {text : List ℕ} → Outcome p text → Right p text (spec.piece text p)
right {p = p} (begins {front = front} {rest = rest} is) =
    rw (piece_again is p) (record {
      front = front;
      rest = rest;
      cut = refl;
      len = refl;
      is = is;
      some = some_bytes is;
      within = omega (arith, length-append front rest);
    })
right (fails h) = rw (fault_again h) h

pub found_of : (text : List ℕ) (p : Place) (r : Result Piece ReadStop) → 0 < length text → Reads (spec.piece text p) r → Found p text r
found_of [] p r h e = absurd (omega arith)
found_of (b ∷ bs) p (Ok y) h e = rw e at (right (outcome b bs p))
found_of (b ∷ bs) p (Err (why.Fault f)) h e = rw e at (right (outcome b bs p))
found_of (b ∷ bs) p (Err why.Memory) h e = tt
