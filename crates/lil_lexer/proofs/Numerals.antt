-- The runs that numbers are, and what they say.
use Rattle.std.proofs.Common.{◌≡◌, ℕ, ◌+◌, ◌-◌, ◌<◌, ◌≤◌, Bool, true, false, cond, ◌&&◌, ◌==◌, List, [], ◌∷◌, ◌++◌, length, take, get_or, Option, Some, None, refl, subst, ◌∙◌, arith, length-append, append_assoc}
use Rattle.std.proofs.lemmas.{Bool.{and_parts, cond_both, eqb-true, Decides.nat_tests}, Grind.common_steps}
use Rattle.std.specs.List.{list_all}
use Rattle.lil_base.specs.Names.{is_digit}
use Rattle.lil_text.specs.{declared.token.TokenKind.TokenKind, Cuts.{is_number_byte, Stops}, Lexical.{is_octal_digit, is_hex_digit, value, IsRun, plain, with_h, Says, decimal, octal, code, hexadecimal}}
use Rattle.lil_text.specs.declared.token.TokenKind.TheVariants as k
use Rattle.lil_lexer.specs.Pieces as spec
use Rattle.lil_lexer.specs.Pieces.{begins_with, run_len, says}
use Rattle.lil_lexer.proofs.Runs.{run_length, run_left}

-- ---- what a run says
abbrev last : List ℕ → ℕ
last run = get_or run (length run - 1) 0

abbrev digits : List ℕ → List ℕ
digits run = take (length run - 1) run

whole : (run : List ℕ) (c : ℕ) → 0 < c → last run ≡ c → digits run ++ c ∷ [] ≡ run
whole run c some e = grind (arith, common_steps)

ends : (ds : List ℕ) (c : ℕ) → (last (ds ++ c ∷ []) ≡ c) × (digits (ds ++ c ∷ []) ≡ ds)
ends ds c = grind (arith, common_steps)

last_digit : (ds : List ℕ) → list_all is_digit ds ≡ true → last ds ≤ 57
last_digit ds all = grind (arith, common_steps, nat_tests)

-- what is told of a run is what it says
abbrev Told : List ℕ → Option TokenKind → Type 0
Told run None = Unit {0}
Told run (Some what) = Says run what

told : (run : List ℕ) → Told run (says run)
unfolding says
told run =
    cond_both _ _ _ (Told run) (λ h. by_last 72 is_hex_digit (λ ds. k.Number (value 16 ds)) hexadecimal (omega arith) h)
    (λ _. cond_both _ _ _ (Told run) (λ h. by_last 66 is_octal_digit (λ ds. k.Number (value 8 ds)) octal (omega arith) h)
    (λ _. cond_both _ _ _ (Told run) (λ h. by_last 67 is_octal_digit (λ ds. k.CharCode (value 8 ds)) code (omega arith) h)
    (λ _. cond_both (list_all is_digit run) (spec.number 10 run) None (Told run) decimal (λ _. tt))))
  where
    by_last : (c : ℕ) (test : ℕ → Bool) (what : List ℕ → TokenKind) → ((ds : List ℕ) → list_all test ds ≡ true → Says (ds ++ c ∷ []) (what ds)) → 0 < c
        → ((last run == c) && list_all test (digits run)) ≡ true → Says run (what (digits run))
    by_last c test what say some h =
        let t = and_parts (last run == c) (list_all test (digits run)) h in
        subst (λ (bs : List ℕ). Says bs (what (digits run))) (whole run c some (eqb-true (last run) c t.0)) (say (digits run) t.1)

pub says_sound : (run : List ℕ) (what : TokenKind) → says run ≡ Some what → Says run what
says_sound run what e = rw e at (told run)

says_decimal : (ds : List ℕ) → list_all is_digit ds ≡ true → last ds ≤ 57 → says ds ≡ Some (k.Number (value 10 ds))
unfolding says
says_decimal ds all low = grind (arith, nat_tests)

pub says_complete : {run : List ℕ} {what : TokenKind} → Says run what → says run ≡ Some what
unfolding says
says_complete (decimal {ds = ds} all) = says_decimal ds all (last_digit ds all)
says_complete (octal ds all) = let e = ends ds 66 in rw (e.0, e.1, all)
says_complete (code ds all) = let e = ends ds 67 in rw (e.0, e.1, all)
says_complete (hexadecimal ds all) = let e = ends ds 72 in rw (e.0, e.1, all)

-- ---- runs
stops_each : (rest : List ℕ) → Stops is_number_byte rest → Stops is_hex_digit rest × (begins_with 72 rest ≡ false)
stops_each [] h = (tt, refl)
stops_each (c ∷ cs) h = each c h
  where
    each : (c : ℕ) → is_number_byte c ≡ false → (is_hex_digit c ≡ false) × ((c == 72) ≡ false)
    each c h = grind (arith, nat_tests)

run_len_is : (ds rest : List ℕ) → list_all is_hex_digit ds ≡ true → Stops is_hex_digit rest → run_len (ds ++ rest) ≡ cond (begins_with 72 rest) (length ds + 1) (length ds)
unfolding run_len
run_len_is ds rest all stops = rw (run_left is_hex_digit ds rest all stops, run_length is_hex_digit ds rest all stops)

pub run_complete : {run rest : List ℕ} → IsRun run rest → run_len (run ++ rest) ≡ length run
run_complete {rest = rest} (plain {d = d} {ds = ds} is all stops) =
    let s = stops_each rest stops in
    run_len_is (d ∷ ds) rest (rw is all) s.0 ∙ rw s.1
run_complete (with_h {d = d} ds {rest = rest} is all) =
    let more : length (d ∷ ds) + 1 ≡ length (d ∷ (ds ++ 72 ∷ [])) = omega (arith, length-append ds (72 ∷ [])) in
    rw append_assoc (run_len_is (d ∷ ds) (72 ∷ rest) (rw is all) refl ∙ more)
