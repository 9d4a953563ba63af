-- What stands in the tables of a module: shapes by their numbers.
use Rattle.std.proofs.Common.{◌≡◌, ℕ, zero, suc, ◌+◌, ◌<◌, ◌≤◌, List, [], ◌∷◌, ◌++◌, length, Option, Some, None, refl, sym, ap, ◌∙◌, subst, arith, length-append}
use Rattle.std.specs.Prelude.{slice_get}
use Rattle.std.proofs.lemmas.Option.{none-some, same_Some, slice_get_past}
use Rattle.lil_resolved.specs.{declared.{shapes.RShape.RShape, resolved.{RDeclared.RDeclared, RPassing.RPassing}}, Kinds.{Shape, Absent, words, shape_by, shape_at}, Views.{shape_with, shapes_behind, shapes_of, held_by, shape_declared, IsMeasuredShape, AreMeasured}}
use Rattle.lil_resolved.specs.declared.resolved.RPassing.TheVariants as p

pub get_front : {A : Type 0} (xs ys : List A) (n : ℕ) → n < length xs → slice_get (xs ++ ys) n ≡ slice_get xs n
get_front [] ys n h = absurd (omega arith)
get_front (x ∷ xs) ys zero h = refl
get_front (x ∷ xs) ys (suc n) h = get_front xs ys n (omega arith)

pub get_last : {A : Type 0} (xs : List A) (a : A) → slice_get (xs ++ a ∷ []) (length xs) ≡ Some a
get_last [] a = refl
get_last (x ∷ xs) a = get_last xs a

-- a table keeps its shapes when more come behind them
kept_behind : (before : List Shape) (ts : List RShape) (n : ℕ) → n < length before → shape_at (shapes_behind before ts) n ≡ shape_at before n
kept_behind before [] n h = refl
kept_behind before (t ∷ ts) n h =
    let w = shape_with before t in
    kept_behind (before ++ w ∷ []) ts n (omega (arith, h, length-append before (w ∷ []))) ∙ ap shape_by (get_front before (w ∷ []) n h)

-- what stands at a number, by the shapes with lesser numbers
pub record Entry (table : List Shape) (n : ℕ) (t : RShape) : Type 0 where
  pub early : List Shape
  pub known : length early ≤ n
  pub measured : IsMeasuredShape early t
  pub small : words (shape_with early t) ≤ 32000
  pub is : shape_at table n ≡ shape_with early t
  pub kept : (m : ℕ) → m < length early → shape_at table m ≡ shape_at early m

entry_behind : (before : List Shape) (ts : List RShape) (k : ℕ) (t : RShape) → AreMeasured before ts → slice_get ts k ≡ Some t → Entry (shapes_behind before ts) (length before + k) t
entry_behind before [] k t h e = absurd (none-some t e)
entry_behind before (u ∷ ts) zero t h e =
    let w = shape_with before u in
    let table = shapes_behind (before ++ w ∷ []) ts in
    let last : length before + 0 ≡ length before = omega arith in
    subst (λ (t : RShape). Entry table (length before + 0) t) (same_Some u t e)
    (record {
      early = before;
      known = omega arith;
      measured = h.0;
      small = h.1;
      is = ap (shape_at table) last ∙ kept_behind (before ++ w ∷ []) ts (length before) (omega (arith, length-append before (w ∷ []))) ∙ ap shape_by (get_last before w);
      kept = kept_behind before (u ∷ ts);
    })
entry_behind before (u ∷ ts) (suc k) t h e =
    let w = shape_with before u in
    let next : length (before ++ w ∷ []) + k ≡ length before + suc k = omega (arith, length-append before (w ∷ [])) in
    subst (λ (n : ℕ). Entry (shapes_behind (before ++ w ∷ []) ts) n t) next (entry_behind (before ++ w ∷ []) ts k t h.2 e)

absent_behind : (before : List Shape) (ts : List RShape) (k : ℕ) → slice_get ts k ≡ None → shape_at (shapes_behind before ts) (length before + k) ≡ Absent
absent_behind before [] k e = ap shape_by (slice_get_past before (length before + k) (omega arith))
absent_behind before (u ∷ ts) zero e = absurd (none-some u (sym e))
absent_behind before (u ∷ ts) (suc k) e =
    let w = shape_with before u in
    let next : length before + suc k ≡ length (before ++ w ∷ []) + k = omega (arith, length-append before (w ∷ [])) in
    ap (shape_at (shapes_behind (before ++ w ∷ []) ts)) next ∙ absent_behind (before ++ w ∷ []) ts k e

module _ (ts : List RShape) (n : ℕ) where
  from_first : length {A = Shape} [] + n ≡ n
  from_first = omega arith

  pub entry : (t : RShape) → AreMeasured [] ts → slice_get ts n ≡ Some t → Entry (shapes_of ts) n t
  entry t h e = subst (λ (m : ℕ). Entry (shapes_of ts) m t) from_first (entry_behind [] ts n t h e)

  pub absent : slice_get ts n ≡ None → shape_at (shapes_of ts) n ≡ Absent
  absent e = ap (shape_at (shapes_of ts)) (sym from_first) ∙ absent_behind [] ts n e

-- no shape has more than 32,000 words
pub small_at : (ts : List RShape) (n : ℕ) → AreMeasured [] ts → words (shape_at (shapes_of ts) n) ≤ 32000
small_at ts n h = by (slice_get ts n) refl
  where
    by : (o : Option RShape) → slice_get ts n ≡ o → words (shape_at (shapes_of ts) n) ≤ 32000
    by None e = omega (arith, ap words (absent ts n e))
    by (Some t) e = let found = entry ts n t h e in omega (arith, ap words found.is, found.small)

-- nor does what a variable holds
pub small_declared : (ts : List RShape) (v : RDeclared) → AreMeasured [] ts → words (shape_declared ts v) ≤ 32000
small_declared ts v h = by v.passing (shape_at (shapes_of ts) v.shape) (small_at ts v.shape h)
  where
    by : (p : RPassing) (t : Shape) → words t ≤ 32000 → words (held_by p t) ≤ 32000
    by p.ByValue t h = h
    by p.ByPlace t h = omega arith
    by (p.Open o) t h = omega arith
