-- Numbers that are bytes, and procedures that get their bodies one behind another.
use Rattle.std.proofs.Common.{◌≡◌, ℕ, zero, suc, ◌+◌, ◌<◌, ◌≤◌, Bool, true, false, List, [], ◌∷◌, ◌++◌, length, map, take, drop, get_or, Option, Some, None, refl, sym, ap, subst, ◌∙◌, arith, append_assoc, append-nil}
use Rattle.std.specs.{Prelude.{◌&&◌, nat_lt}, Option.option_map, List.All}
use Rattle.std.proofs.lemmas.{Bool.Decides.nat_tests, List.{take_more, Elements.All-push}}
use Rattle.lil_types.specs.Types.{Table}
use Rattle.lil_declared.specs.declared.declared.RProc.{RProc}
use Rattle.lil_resolved.specs.{declared.{resolved.{RProcedure.RProcedure, RStmt.RStmt}, shapes.RShape.RShape}, Kinds.Shape, Resolved.Procedure, Views.{heading_of, procedure_of, IsMeasuredHeading}}
use Rattle.lil_forms.specs.Scopes.{both_left, both_right}
use Rattle.lil_check_stmt.specs.Stmts.{Bodies}
use Rattle.lil_check_unit.specs.Modules.{are_bytes, made_of, and_procedure, procedures_from}
use Rattle.lil_check_unit.specs.Whole.{body_of}

-- ---- numbers
map_one : {A B : Type 0} (f : A → B) (xs : List A) (x : A) → map f (xs ++ x ∷ []) ≡ map f xs ++ f x ∷ []
map_one f [] x = refl
map_one f (y ∷ ys) x = ap (λ (zs : List _). f y ∷ zs) (map_one f ys x)

and_none : (c : Bool) → (c && false) ≡ false
and_none true = refl
and_none false = refl

bytes_one : (xs : List ℕ) (x : ℕ) → are_bytes xs ≡ true → x < 255 → are_bytes (xs ++ x ∷ []) ≡ true
bytes_one [] x h low = let is : nat_lt x 255 ≡ true = grind (arith, nat_tests, low) in λ i. is i && true
bytes_one (y ∷ ys) x h low = λ i. both_left (nat_lt y 255) (are_bytes ys) h i && bytes_one ys x (both_right (nat_lt y 255) (are_bytes ys) h) low i

module _ (xs : List ℕ) (i x : ℕ) (inside : i < length xs) (is : x ≡ get_or xs i 0) where
  next_is : take (i + 1) xs ≡ take i xs ++ x ∷ []
  next_is = take_more xs i 0 inside ∙ ap (λ (z : ℕ). take i xs ++ z ∷ []) (sym is)

  pub bytes_next : are_bytes (take i xs) ≡ true → x < 255 → are_bytes (take (i + 1) xs) ≡ true
  bytes_next h low = ap are_bytes next_is ∙ bytes_one (take i xs) x h low

  pub numbers_next : {old new : List ℕ} {y : ℕ} → old ≡ map (λ n. n + 1) (take i xs) → y ≡ x + 1 → new ≡ old ++ y ∷ [] → new ≡ map (λ n. n + 1) (take (i + 1) xs)
  numbers_next {old} {new} {y} so_far one push = push ∙ (λ j. so_far j ++ one j ∷ []) ∙ sym (map_one (λ n. n + 1) (take i xs) x) ∙ ap (map (λ n. n + 1)) (sym next_is)

pub no_byte : (xs : List ℕ) (i x : ℕ) → i < length xs → x ≡ get_or xs i 0 → 255 ≤ x → are_bytes xs ≡ false
no_byte [] i x inside is high = absurd (omega (arith, inside))
no_byte (y ∷ ys) zero x inside is high = let none : nat_lt y 255 ≡ false = grind (arith, nat_tests, is, high) in λ j. none j && are_bytes ys
no_byte (y ∷ ys) (suc i) x inside is high = ap (λ (c : Bool). nat_lt y 255 && c) (no_byte ys i x (omega (arith, inside)) is high) ∙ and_none (nat_lt y 255)

-- ---- procedures: those that are made, and what is left from a number on, by the shapes of their variables
module _ (t : Table) (ts : List RShape) (locals : ℕ → Option (List Shape)) (of : List RProc) (bodies : Bodies) where
  pub record IsSoFar (made : List RProcedure) (p : ℕ) (ds : List RProc) (left : Bodies) : Type 0 where
    pub means : option_map (λ (rest : List Procedure). map (procedure_of ts) made ++ rest) (procedures_from t locals p ds left) ≡ procedures_from t locals 0 of bodies
    pub kept : map body_of made ++ left ≡ bodies
    pub measured : All (IsMeasuredHeading ts) (map heading_of made)

  pub none_made : IsSoFar [] 0 of bodies
  none_made = record { means = same (procedures_from t locals 0 of bodies); kept = refl; measured = λ k d less. absurd (omega (arith, less)) }
    where
      same : (o : Option (List Procedure)) → option_map (λ (rest : List Procedure). [] ++ rest) o ≡ o
      same None = refl
      same (Some ps) = refl

  module _ (made : List RProcedure) (n : ℕ) where
    abbrev behind : Option (List Procedure) → Option (List Procedure)
    behind o = option_map (λ (rest : List Procedure). map (procedure_of ts) made ++ rest) o

    pub one_made : (d : RProc) (ds : List RProc) (b : Option (List RStmt)) (left : Bodies) (p : RProcedure)
        → Some (procedure_of ts p) ≡ made_of t d (locals n) b → body_of p ≡ b → IsMeasuredHeading ts p.heading → IsSoFar made n (d ∷ ds) (b ∷ left) → IsSoFar (made ++ p ∷ []) (n + 1) ds left
    one_made d ds b left p is body measured h = subst (λ (k : ℕ). IsSoFar (made ++ p ∷ []) k ds left) next (record {
      means = by (procedures_from t locals (suc n) ds left) ∙ ap (λ (o : Option Procedure). behind (and_procedure o (procedures_from t locals (suc n) ds left))) is ∙ h.means;
      kept = ap (λ (xs : Bodies). xs ++ left) (map_one body_of made p) ∙ append_assoc (map body_of made) (body_of p ∷ []) left ∙ ap (λ (o : Option (List RStmt)). map body_of made ++ o ∷ left) body ∙ h.kept;
      measured = subst (All (IsMeasuredHeading ts)) (sym (map_one heading_of made p)) (All-push (IsMeasuredHeading ts) (map heading_of made) p.heading h.measured measured);
    })
      where
        next : suc n ≡ n + 1
        next = omega arith

        by : (o : Option (List Procedure)) → option_map (λ (rest : List Procedure). map (procedure_of ts) (made ++ p ∷ []) ++ rest) o ≡ behind (and_procedure (Some (procedure_of ts p)) o)
        by None = refl
        by (Some ps) = ap Some (ap (λ (xs : List Procedure). xs ++ ps) (map_one (procedure_of ts) made p) ∙ append_assoc (map (procedure_of ts) made) (procedure_of ts p ∷ []) ps)

    -- one has no code
    pub not_made : (d : RProc) (ds : List RProc) (b : Option (List RStmt)) (left : Bodies) → None ≡ made_of t d (locals n) b → IsSoFar made n (d ∷ ds) (b ∷ left) → None ≡ procedures_from t locals 0 of bodies
    not_made d ds b left is h = ap (λ (o : Option Procedure). behind (and_procedure o (procedures_from t locals (suc n) ds left))) is ∙ h.means

    pub no_body : (d : RProc) (ds : List RProc) → IsSoFar made n (d ∷ ds) [] → None ≡ procedures_from t locals 0 of bodies
    no_body d ds h = h.means

    pub all_made : IsSoFar made n [] [] → (Some (map (procedure_of ts) made) ≡ procedures_from t locals 0 of bodies) × (map body_of made ≡ bodies)
    all_made h = (ap Some (sym (append-nil (map (procedure_of ts) made))) ∙ h.means, sym (append-nil (map body_of made)) ∙ h.kept)

    pub too_many : (b : Option (List RStmt)) (left : Bodies) → IsSoFar made n [] (b ∷ left) → None ≡ procedures_from t locals 0 of bodies
    too_many b left h = h.means

    -- the next of those that are left
    pub next_left : (d : RProc) (left : Bodies) → n < length of → d ≡ get_or of n d → IsSoFar made n (drop n of) left → IsSoFar made n (d ∷ drop (n + 1) of) left
    next_left d left inside is h =
        let next : suc n ≡ n + 1 = omega arith in
        subst (λ (ds : List RProc). IsSoFar made n ds left) (split of n d inside is ∙ ap (λ (k : ℕ). d ∷ drop k of) next) h
      where
        split : (xs : List RProc) (i : ℕ) (x : RProc) → i < length xs → x ≡ get_or xs i x → drop i xs ≡ x ∷ drop (suc i) xs
        split [] i x inside is = absurd (omega (arith, inside))
        split (y ∷ ys) zero x inside is = ap (λ (z : RProc). z ∷ ys) (sym is)
        split (y ∷ ys) (suc i) x inside is = split ys i x (omega (arith, inside)) is

    pub none_left : (left : Bodies) → length of ≤ n → IsSoFar made n (drop n of) left → IsSoFar made n [] left
    none_left left past h = subst (λ (ds : List RProc). IsSoFar made n ds left) (gone of n past) h
      where
        gone : (xs : List RProc) (i : ℕ) → length xs ≤ i → drop i xs ≡ []
        gone [] zero past = refl
        gone [] (suc i) past = refl
        gone (x ∷ xs) zero past = absurd (omega (arith, past))
        gone (x ∷ xs) (suc i) past = gone xs i (omega (arith, past))
