-- The parts of a shape: each lies within the whole, and two that aren't one under the other lie apart.
use Rattle.std.proofs.Common.{◌≡◌, ℕ, zero, suc, ◌+◌, ◌*◌, ◌<◌, ◌≤◌, Bool, true, false, cond, eqb, ltb, Some, None, List, [], ◌∷◌, ◌++◌, refl, sym, ap, ◌∙◌, ◌⊎◌, inl, inr, ⊎_elim, arith}
use Rattle.std.proofs.lemmas.{Bool.{eq-eqb, ne_eqb, lt-ltb, le-ltb, cases_lt, cases_order, Decides.nat_tests}, Nat.row_fits}
use Rattle.lil_resolved.specs.Kinds.{Kind, Shape, Absent, Word, Join, Row, words, is_there, part_at, offset}
use Rattle.lil_meaning.specs.Items.{rest_behind}

pub yes : {A : Type 0} (b : Bool) (x y : A) → b ≡ true → cond b x y ≡ x
yes b x y h = ap (λ (t : Bool). cond t x y) h

pub no : {A : Type 0} (b : Bool) (x y : A) → b ≡ false → cond b x y ≡ y
no b x y h = ap (λ (t : Bool). cond t x y) h

nothing_there : is_there Absent ≡ true → ⊥
nothing_there e = cc

-- an element that is there
pub element : (n x : ℕ) (t : Shape) (p : List ℕ) → is_there (part_at (Row n t) (x ∷ p)) ≡ true → (x < n) × (part_at (Row n t) (x ∷ p) ≡ part_at t p)
element n x t p h = by (cases_lt x n)
  where
    by : (x < n) ⊎ (n ≤ x) → (x < n) × (part_at (Row n t) (x ∷ p) ≡ part_at t p)
    by (inl l) = (l, yes (ltb x n) (part_at t p) Absent (lt-ltb x n l))
    by (inr g) = absurd (nothing_there (ap is_there (sym (no (ltb x n) (part_at t p) Absent (le-ltb x n g))) ∙ h))

-- a part lies within its whole
pub part_fits : (t : Shape) (p : List ℕ) → is_there (part_at t p) ≡ true → offset t p + words (part_at t p) ≤ words t
part_fits t [] h = omega arith
part_fits (Join a b) (zero ∷ p) h = omega (arith, part_fits a p h)
part_fits (Join a b) (suc x ∷ p) h = omega (arith, part_fits b (x ∷ p) h)
part_fits (Row n t) (x ∷ p) h =
    let e = element n x t p h in
    let s : words (part_at (Row n t) (x ∷ p)) ≡ words (part_at t p) = ap words e.1 in
    omega (arith, s, part_fits t p (ap is_there (sym e.1) ∙ h), row_fits x (words t) n (words t) e.0 (omega arith))
part_fits t (x ∷ p) h = cc

-- a part of a part
pub part_append : (t : Shape) (p q : List ℕ) → is_there (part_at t p) ≡ true → part_at t (p ++ q) ≡ part_at (part_at t p) q
part_append t [] q h = refl
part_append (Join a b) (zero ∷ p) q h = part_append a p q h
part_append (Join a b) (suc x ∷ p) q h = part_append b (x ∷ p) q h
part_append (Row n t) (x ∷ p) q h =
    let e = element n x t p h in
    yes (ltb x n) (part_at t (p ++ q)) Absent (lt-ltb x n e.0)
    ∙ part_append t p q (ap is_there (sym e.1) ∙ h)
    ∙ ap (λ (z : Shape). part_at z q) (sym e.1)
part_append t (x ∷ p) q h = cc

pub offset_append : (t : Shape) (p q : List ℕ) → is_there (part_at t p) ≡ true → offset t (p ++ q) ≡ offset t p + offset (part_at t p) q
offset_append t [] q h = omega arith
offset_append (Join a b) (zero ∷ p) q h = offset_append a p q h
offset_append (Join a b) (suc x ∷ p) q h = omega (arith, offset_append b (x ∷ p) q h)
offset_append (Row n t) (x ∷ p) q h =
    let e = element n x t p h in
    omega (arith, offset_append t p q (ap is_there (sym e.1) ∙ h), ap (λ (z : Shape). offset z q) e.1)
offset_append t (x ∷ p) q h = cc

-- a scalar under a place
pub record Inside (t : Shape) (d q : List ℕ) : Type 0 where
  pub rest : List ℕ
  pub is : rest_behind d q ≡ Some rest
  pub at : offset t q ≡ offset t d + offset (part_at t d) rest
  pub part : part_at t q ≡ part_at (part_at t d) rest

-- one beside it
pub record Outside (t : Shape) (d q : List ℕ) : Type 0 where
  pub is : rest_behind d q ≡ None
  pub apart : (offset t q < offset t d) ⊎ (offset t d + words (part_at t d) ≤ offset t q)

eqb_suc : (x y : ℕ) → eqb (suc x) (suc y) ≡ eqb x y
eqb_suc x y = grind (arith, nat_tests)

pub word_long : (t : Shape) (k : Kind) → t ≡ Word k → 1 ≤ words t
word_long t k e = omega (arith, ap words e)

join_no : (a b : Shape) (k : Kind) → Join a b ≡ Word k → ⊥
join_no a b k e = cc

row_no : (n : ℕ) (t : Shape) (k : Kind) → Row n t ≡ Word k → ⊥
row_no n t k e = cc

-- a scalar lies under a place, or in none of its words
pub parts : (t : Shape) (d q : List ℕ) (k : Kind) → is_there (part_at t d) ≡ true → part_at t q ≡ Word k → Inside t d q ⊎ Outside t d q
parts t [] q k h l = inl (record { rest = q; is = refl; at = omega arith; part = refl })
parts (Join a b) (zero ∷ d) [] k h l = absurd (join_no a b k l)
parts (Join a b) (suc x ∷ d) [] k h l = absurd (join_no a b k l)
parts (Join a b) (zero ∷ d) (zero ∷ q) k h l = by (parts a d q k h l)
  where
    by : Inside a d q ⊎ Outside a d q → Inside (Join a b) (zero ∷ d) (zero ∷ q) ⊎ Outside (Join a b) (zero ∷ d) (zero ∷ q)
    by (inl i) = inl (record { rest = i.rest; is = i.is; at = i.at; part = i.part })
    by (inr o) = inr (record { is = o.is; apart = o.apart })
parts (Join a b) (zero ∷ d) (suc y ∷ q) k h l =
    inr (record { is = no (eqb 0 (suc y)) (rest_behind d q) None (ne_eqb 0 (suc y) (λ e. omega arith)); apart = inr (omega (arith, part_fits a d h)) })
parts (Join a b) (suc x ∷ d) (zero ∷ q) k h l =
    inr (record {
      is = no (eqb (suc x) 0) (rest_behind d q) None (ne_eqb (suc x) 0 (λ e. omega arith));
      apart = inl (omega (arith, part_fits a q (ap is_there l), word_long (part_at a q) k l));
    })
parts (Join a b) (suc x ∷ d) (suc y ∷ q) k h l = by (parts b (x ∷ d) (y ∷ q) k h l)
  where
    by : Inside b (x ∷ d) (y ∷ q) ⊎ Outside b (x ∷ d) (y ∷ q) → Inside (Join a b) (suc x ∷ d) (suc y ∷ q) ⊎ Outside (Join a b) (suc x ∷ d) (suc y ∷ q)
    by (inl i) = inl (record { rest = i.rest; is = ap (λ (t : Bool). cond t (rest_behind d q) None) (eqb_suc x y) ∙ i.is; at = omega (arith, i.at); part = i.part })
    by (inr o) = inr (record {
      is = ap (λ (t : Bool). cond t (rest_behind d q) None) (eqb_suc x y) ∙ o.is;
      apart = ⊎_elim (λ (l : offset b (y ∷ q) < offset b (x ∷ d)). inl (omega (arith, l))) (λ (g : offset b (x ∷ d) + words (part_at b (x ∷ d)) ≤ offset b (y ∷ q)). inr (omega (arith, g))) o.apart;
    })
parts (Row n t) (x ∷ d) [] k h l = absurd (row_no n t k l)
parts (Row n t) (x ∷ d) (y ∷ q) k h l = by (parts t d q k there leaf) (cases_order x y)
  where
    first : (x < n) × (part_at (Row n t) (x ∷ d) ≡ part_at t d)
    first = element n x t d h

    second : (y < n) × (part_at (Row n t) (y ∷ q) ≡ part_at t q)
    second = element n y t q (ap is_there l)

    there : is_there (part_at t d) ≡ true
    there = ap is_there (sym first.1) ∙ h

    leaf : part_at t q ≡ Word k
    leaf = sym second.1 ∙ l

    other : (x ≡ y → ⊥) → (y * words t + offset t q < x * words t + offset t d) ⊎ (x * words t + offset t d + words (part_at (Row n t) (x ∷ d)) ≤ y * words t + offset t q)
        → Inside (Row n t) (x ∷ d) (y ∷ q) ⊎ Outside (Row n t) (x ∷ d) (y ∷ q)
    other differ a = inr (record { is = no (eqb x y) (rest_behind d q) None (ne_eqb x y differ); apart = a })

    by : Inside t d q ⊎ Outside t d q → (x ≡ y) ⊎ ((x < y) ⊎ (y < x)) → Inside (Row n t) (x ∷ d) (y ∷ q) ⊎ Outside (Row n t) (x ∷ d) (y ∷ q)
    by (inl i) (inl e) = inl (record {
      rest = i.rest;
      is = yes (eqb x y) (rest_behind d q) None (eq-eqb x y e) ∙ i.is;
      at = omega (arith, i.at, ap (λ (z : ℕ). z * words t) e, ap (λ (z : Shape). offset z i.rest) first.1);
      part = second.1 ∙ i.part ∙ ap (λ (z : Shape). part_at z i.rest) (sym first.1);
    })
    by (inr o) (inl e) = inr (record {
      is = yes (eqb x y) (rest_behind d q) None (eq-eqb x y e) ∙ o.is;
      apart = ⊎_elim (λ (l : offset t q < offset t d). inl (omega (arith, l, ap (λ (z : ℕ). z * words t) e)))
          (λ (g : offset t d + words (part_at t d) ≤ offset t q). inr (omega (arith, g, ap (λ (z : ℕ). z * words t) e, ap words first.1))) o.apart;
    })
    by s (inr (inl l)) = other (λ e. omega arith) (inr (omega (arith, ap words first.1, part_fits t d there, row_fits x (words t) y (words t) l (omega arith))))
    by s (inr (inr g)) = other (λ e. omega arith) (inl (omega (arith, part_fits t q (ap is_there leaf), word_long (part_at t q) k leaf, row_fits y (words t) x (words t) g (omega arith))))
parts t (x ∷ d) q k h l = cc
