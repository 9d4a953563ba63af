-- Spans that are sorted: what is found in them, and one more in its place.
use Rattle.std.proofs.Common.{◌≡◌, ℕ, zero, suc, ◌+◌, ◌<◌, ◌≤◌, ℤ, int_lt, length, Bool, true, false, not, cond, ◌&&◌, ◌||◌, List, [], ◌∷◌, ◌++◌, Option, Some, None, take, drop, get_or, slice_get, insert, arith, refl, sym, ap, subst, ◌∙◌, true≢false}
use Rattle.std.proofs.lemmas.Int.{ints}
use Rattle.lil_types.specs.{declared.table.Span.Span, Types.meets}
use Rattle.lil_check_type.specs.SortedSpans.{has_value_of, AreAbove, AreSorted, below, IsIndex}

-- ---- what lies below what
through : (a b c d : ℤ) → int_lt a b ≡ true → int_lt c b ≡ false → int_lt c d ≡ true → int_lt a d ≡ true
through a b c d h j k = grind (arith, ints)

above_at : (u : Span) (us : List Span) (i : ℕ) (d : Span) → AreAbove u us → i < length us → int_lt u.high (get_or us i d).low ≡ true
above_at u [] i d h l = absurd (omega arith)
above_at u (v ∷ vs) zero d h l = h.0
above_at u (v ∷ vs) (suc i) d h l = above_at u vs i d h.1 (omega arith)

full_at : (us : List Span) (i : ℕ) (d : Span) → AreSorted us → i < length us → int_lt (get_or us i d).high (get_or us i d).low ≡ false
full_at [] i d h l = absurd (omega arith)
full_at (u ∷ us) zero d h l = h.0
full_at (u ∷ us) (suc i) d h l = full_at us i d h.1.1 (omega arith)

-- ---- those below a value come first
pub parted : (us : List Span) (z : ℤ) → AreSorted us → (i j : ℕ) (d : Span) → i ≤ j → j < length us → int_lt (get_or us j d).high z ≡ true → int_lt (get_or us i d).high z ≡ true
parted [] z h i j d m l k = absurd (omega arith)
parted (u ∷ us) z h zero zero d m l k = k
parted (u ∷ us) z h zero (suc j) d m l k = through u.high (get_or us j d).low (get_or us j d).high z (above_at u us j d h.1.0 (omega arith)) (full_at us j d h.1.1 (omega arith)) k
parted (u ∷ us) z h (suc i) zero d m l k = absurd (omega arith)
parted (u ∷ us) z h (suc i) (suc j) d m l k = parted us z h.1.1 i j d (omega arith) (omega arith) k

pub counted : (us : List Span) (z : ℤ) (n : ℕ) → n ≤ length us
    → ((k : ℕ) (d : Span) → 0 ≤ k → k < n → int_lt (get_or us k d).high z ≡ true) × ((k : ℕ) (d : Span) → n ≤ k → k < length us → int_lt (get_or us k d).high z ≡ false)
    → n ≡ below us z
counted [] z n l h = omega arith
counted (u ∷ us) z zero l h = rw (h.1 0 u (omega arith) (omega arith)) refl
counted (u ∷ us) z (suc n) l h =
    rw (h.0 0 u (omega arith) (omega arith)) (ap suc (counted us z n (omega arith) ((λ k d a b. h.0 (suc k) d (omega arith) (omega arith)), (λ k d a b. h.1 (suc k) d (omega arith) (omega arith)))))

-- ---- a value is looked up where those below it end
abbrev pub found : Option Span → Span → Bool
found None s = false
found (Some u) s = meets s u

-- one that lies wholly below the first has no value in any
passed : (s u : Span) (us : List Span) → int_lt s.high u.low ≡ true → int_lt u.high u.low ≡ false → AreAbove u us → has_value_of us s ≡ false
passed s u [] h full above = refl
passed s u (v ∷ vs) h full above = rw (through s.high u.low u.high v.low h full above.0) (passed s u vs h full above.1)

pub looked_up : (us : List Span) (s : Span) → AreSorted us → has_value_of us s ≡ found (slice_get us (below us s.low)) s
looked_up [] s h = refl
looked_up (u ∷ us) s h = by (int_lt u.high s.low) refl (looked_up us s h.1.1)
  where
    ends : (low high : Bool) → int_lt s.high u.low ≡ low → int_lt u.high s.low ≡ high → high ≡ false → (meets s u || has_value_of us s) ≡ meets s u
    ends true high under over past = rw (under, passed s u us under h.0 h.1.0) refl
    ends false high under over past = rw (under, over, past) refl

    low_not : (b : Bool) → (b && false) ≡ false
    low_not true = refl
    low_not false = refl

    by : (b : Bool) → int_lt u.high s.low ≡ b → has_value_of us s ≡ found (slice_get us (below us s.low)) s → (meets s u || has_value_of us s) ≡ found (slice_get (u ∷ us) (cond b (suc (below us s.low)) zero)) s
    by true is later = rw (is, low_not (not (int_lt s.high u.low))) later
    by false is later = ends (int_lt s.high u.low) (int_lt u.high s.low) refl refl is

got : (us : List Span) (n : ℕ) (d : Span) → n < length us → slice_get us n ≡ Some (get_or us n d)
got [] n d l = absurd (omega arith)
got (u ∷ us) zero d l = refl
got (u ∷ us) (suc n) d l = got us n d (omega arith)

past : (us : List Span) (n : ℕ) → length us ≤ n → slice_get us n ≡ None
past [] n l = refl
past (u ∷ us) zero l = absurd (omega arith)
past (u ∷ us) (suc n) l = past us n (omega arith)

pub reached : (us : List Span) (s : Span) (n : ℕ) (d : Span) → AreSorted us → n ≡ below us s.low → n < length us → meets s (get_or us n d) ≡ has_value_of us s
reached us s n d h is inside = ap (λ o. found o s) (sym (got us n d inside)) ∙ ap (λ n. found (slice_get us n) s) is ∙ sym (looked_up us s h)

pub none_reached : (us : List Span) (s : Span) (n : ℕ) → AreSorted us → n ≡ below us s.low → length us ≤ n → false ≡ has_value_of us s
none_reached us s n h is past_all = ap (λ o. found o s) (sym (past us n past_all)) ∙ ap (λ n. found (slice_get us n) s) is ∙ sym (looked_up us s h)

-- ---- one more, in its place
either : (a b c : Bool) → (a || (b || c)) ≡ (b || (a || c))
either true true c = refl
either true false c = refl
either false b c = refl

values_in : (us : List Span) (n : ℕ) (s x : Span) → has_value_of (insert us n s) x ≡ (meets x s || has_value_of us x)
values_in [] zero s x = refl
values_in [] (suc n) s x = refl
values_in (u ∷ us) zero s x = refl
values_in (u ∷ us) (suc n) s x = ap (λ b. meets x u || b) (values_in us n s x) ∙ either (meets x u) (meets x s) (has_value_of us x)

values_end : (us : List Span) (s x : Span) → has_value_of (us ++ s ∷ []) x ≡ (meets x s || has_value_of us x)
values_end [] s x = refl
values_end (u ∷ us) s x = ap (λ b. meets x u || b) (values_end us s x) ∙ either (meets x u) (meets x s) (has_value_of us x)

pub same_values : (us : List Span) (n : ℕ) (s x : Span) → has_value_of (insert us n s) x ≡ has_value_of (us ++ s ∷ []) x
same_values us n s x = values_in us n s x ∙ sym (values_end us s x)

above_in : (u : Span) (us : List Span) (n : ℕ) (s : Span) → int_lt u.high s.low ≡ true → AreAbove u us → AreAbove u (insert us n s)
above_in u [] zero s h above = (h, tt)
above_in u [] (suc n) s h above = (h, tt)
above_in u (v ∷ vs) zero s h above = (h, above)
above_in u (v ∷ vs) (suc n) s h above = (above.0, above_in u vs n s h above.1)

all_above : (s u : Span) (us : List Span) → int_lt s.high u.low ≡ true → int_lt u.high u.low ≡ false → AreAbove u us → AreAbove s us
all_above s u [] h full above = tt
all_above s u (v ∷ vs) h full above = (through s.high u.low u.high v.low h full above.0, all_above s u vs h full above.1)

neither : (a b : Bool) → (a || b) ≡ false → (a ≡ false) × (b ≡ false)
neither true b h = absurd (true≢false h)
neither false b h = (refl, h)

lies_below : (low high : Bool) → high ≡ false → (not low && not high) ≡ false → low ≡ true
lies_below true high is h = refl
lies_below false true is h = sym is
lies_below false false is h = absurd (true≢false h)

pub stays_sorted : (us : List Span) (s : Span) → AreSorted us → int_lt s.high s.low ≡ false → has_value_of us s ≡ false → AreSorted (insert us (below us s.low) s)
stays_sorted [] s h full new = (full, (tt, tt))
stays_sorted (u ∷ us) s h full new = by (int_lt u.high s.low) refl (stays_sorted us s h.1.1 full (neither (meets s u) (has_value_of us s) new).1)
  where
    apart : (meets s u ≡ false) × (has_value_of us s ≡ false)
    apart = neither (meets s u) (has_value_of us s) new

    by : (b : Bool) → int_lt u.high s.low ≡ b → AreSorted (insert us (below us s.low) s) → AreSorted (insert (u ∷ us) (cond b (suc (below us s.low)) zero) s)
    by true is later = (h.0, (above_in u us (below us s.low) s is h.1.0, later))
    by false is later = let lies = lies_below (int_lt s.high u.low) (int_lt u.high s.low) is apart.0 in (full, ((lies, all_above s u us lies h.0 h.1.0), h))

-- ---- the index
pub is_sorted : (apart : Bool) (sorted us : List Span) → IsIndex apart sorted us → apart ≡ true → AreSorted sorted
is_sorted true sorted us h is = h.0
is_sorted false sorted us h is = absurd (true≢false (sym is))

pub finds : (apart : Bool) (sorted us : List Span) (s : Span) → IsIndex apart sorted us → apart ≡ true → has_value_of us s ≡ has_value_of sorted s
finds true sorted us s h is = h.1 s
finds false sorted us s h is = absurd (true≢false (sym is))

pub grows : (apart : Bool) (sorted us more : List Span) (s : Span) → IsIndex apart sorted us → apart ≡ true → AreSorted more
    → ((x : Span) → has_value_of more x ≡ has_value_of (sorted ++ s ∷ []) x) → IsIndex true more (us ++ s ∷ [])
grows apart sorted us more s h is holds same =
    (holds, λ x. values_end us s x ∙ ap (λ b. meets x s || b) (finds apart sorted us x h is) ∙ sym (values_end sorted s x) ∙ sym (same x))

pub all_true : (apart empty twice : Bool) → (apart && (not empty && not twice)) ≡ true → (apart ≡ true) × ((empty ≡ false) × (twice ≡ false))
all_true true true twice h = absurd (true≢false (sym h))
all_true true false true h = absurd (true≢false (sym h))
all_true true false false h = (refl, (refl, refl))
all_true false empty twice h = absurd (true≢false (sym h))
