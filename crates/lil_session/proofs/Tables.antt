-- The table of a module's procedures.
use Rattle.std.proofs.Common.{◌≡◌, ℕ, zero, suc, ◌+◌, ◌<◌, ◌≤◌, List, [], ◌∷◌, ◌++◌, length, map, take, get_or, Option, Some, None, refl, sym, ap, ◌∙◌, subst, arith}
use Rattle.std.specs.List.{All}
use Rattle.std.proofs.lemmas.List.{take_all}
use Rattle.lil_resolved.specs.{declared.{resolved.RProcedure.RProcedure, shapes.RShape.RShape}, Resolved.Procedure, Views.procedure_of}
use Rattle.lil_laws.specs.Loading.{named_entries}

-- one more
one_more : (shapes : List RShape) (ps : List RProcedure) (es : List ℕ) (i : ℕ) (p : RProcedure) (e : ℕ) → i < length ps → length es ≡ length ps → p ≡ get_or ps i p → e ≡ get_or es i 0
    → named_entries (map (procedure_of shapes) (take (suc i) ps)) (take (suc i) es) ≡ named_entries (map (procedure_of shapes) (take i ps)) (take i es) ++ (e, Some p.heading.name) ∷ []
one_more shapes [] es i p e inside many is at = absurd (omega arith)
one_more shapes (q ∷ ps) [] i p e inside many is at = absurd (omega arith)
one_more shapes (q ∷ ps) (f ∷ es) zero p e inside many is at = λ j. (sym at j, Some (ap (λ (r : RProcedure). r.heading.name) (sym is) j)) ∷ []
one_more shapes (q ∷ ps) (f ∷ es) (suc i) p e inside many is at = ap (λ (xs : List (ℕ × Option (List ℕ))). (f, Some q.heading.name) ∷ xs) (one_more shapes ps es i p e (omega arith) (omega arith) is at)

pub table_more : (shapes : List RShape) (ps : List RProcedure) (es : List ℕ) (i : ℕ) (p : RProcedure) (e : ℕ) {before more : List (ℕ × Option (List ℕ))} → i < length ps → length es ≡ length ps → p ≡ get_or ps i p → e ≡ get_or es i 0
    → before ≡ (0, None) ∷ named_entries (map (procedure_of shapes) (take i ps)) (take i es) → more ≡ before ++ (e, Some p.heading.name) ∷ []
    → more ≡ (0, None) ∷ named_entries (map (procedure_of shapes) (take (i + 1) ps)) (take (i + 1) es)
table_more shapes ps es i p e inside many is at so_far push =
    let next : suc i ≡ i + 1 = omega arith in
    push ∙ ap (λ (xs : List (ℕ × Option (List ℕ))). xs ++ (e, Some p.heading.name) ∷ []) so_far
    ∙ ap (λ (xs : List (ℕ × Option (List ℕ))). (0, None) ∷ xs) (sym (one_more shapes ps es i p e inside many is at))
    ∙ ap (λ (n : ℕ). (0, None) ∷ named_entries (map (procedure_of shapes) (take n ps)) (take n es)) next

-- all begin in the code
low_named : (ps : List Procedure) (es : List ℕ) (n : ℕ) → All (λ e. e < n) es → (k : ℕ) (d : ℕ × Option (List ℕ)) → k < length (named_entries ps es) → (get_or (named_entries ps es) k d).0 < n
low_named [] es n h k d less = absurd (omega (arith, less))
low_named (p ∷ ps) [] n h k d less = absurd (omega (arith, less))
low_named (p ∷ ps) (e ∷ es) n h zero d less = h 0 d.0 (omega arith)
low_named (p ∷ ps) (e ∷ es) n h (suc k) d less = low_named ps es n (λ k d less. h (suc k) d (omega (arith, less))) k d (omega (arith, less))

abbrev table_of : List Procedure → List ℕ → List (ℕ × Option (List ℕ))
table_of ps es = (0, None) ∷ named_entries ps es

table_low : (ps : List Procedure) (es : List ℕ) (n : ℕ) → 0 < n → All (λ e. e < n) es → (k : ℕ) (d : ℕ × Option (List ℕ)) → k < length (table_of ps es) → (get_or (table_of ps es) k d).0 < n
table_low ps es n some h zero d less = some
table_low ps es n some h (suc k) d less = low_named ps es n h k d (omega (arith, less))

pub all_low : (table : List (ℕ × Option (List ℕ))) (ps : List Procedure) (es : List ℕ) (n : ℕ) → table ≡ table_of ps es → 0 < n → All (λ e. e < n) es → All (λ (p : ℕ × Option (List ℕ)). p.0 < n) table
all_low table ps es n is some h = subst (λ (t : List (ℕ × Option (List ℕ))). All (λ (p : ℕ × Option (List ℕ)). p.0 < n) t) (sym is) (table_low ps es n some h)

pub named_few : (ps : List Procedure) (es : List ℕ) → length (named_entries ps es) ≤ length ps
named_few [] es = omega arith
named_few (p ∷ ps) [] = omega arith
named_few (p ∷ ps) (e ∷ es) = omega (arith, named_few ps es)

pub table_all : (shapes : List RShape) (ps : List RProcedure) (es : List ℕ) (i : ℕ) {table : List (ℕ × Option (List ℕ))} → length es ≡ length ps → length ps ≤ i → table ≡ (0, None) ∷ named_entries (map (procedure_of shapes) (take i ps)) (take i es)
    → table ≡ (0, None) ∷ named_entries (map (procedure_of shapes) ps) es
table_all shapes ps es i many long is = is ∙ (λ j. (0, None) ∷ named_entries (map (procedure_of shapes) (take_all i ps long j)) (take_all i es (omega (arith, many, long)) j))
