-- How pieces of code that are emitted one behind another make one piece.
use Rattle.std.proofs.Common.{◌≡◌, ◌≢◌, ℕ, zero, suc, ◌+◌, ◌<◌, ◌≤◌, List, [], ◌∷◌, ◌++◌, take, drop, length, get_or, Option, Some, None, refl, sym, ap, ◌∙◌, subst, arith, append-nil, append_assoc, Result, Ok, Err, OnOk}
use Rattle.std.specs.Prelude.{slice_get, slice_set}
use Rattle.std.proofs.lemmas.{Option.slice_get_within, List.{length-set, take_more}}
use Rattle.lil_resolved.specs.Kinds.{Shape}
use Rattle.lil_table.specs.Rows.{holding}
use Rattle.lil_labels.specs.{declared.buffer.HeldRecord.HeldRecord, Tables.{Tables, shape_held}, Drafts.{Draft, inside, outside, written, numbered, code_of, IsOpen, Final, Fits, Meaning, Adds, Emits, Nothing, Each, Marking, Places, Ends}}

pub emits_none : (d : Draft) → Emits d d Nothing
emits_none d = record { grows = omega arith; same = refl; strings = sym (append-nil d.strings); keeps = λ l h. h; made = omega arith; back = λ x fits. fits; meant = λ x fits low. refl }

-- a piece behind a piece
pub emits_then : {us vs : List ℕ} (a b c : Draft) (T U : Meaning) → Adds us a b T → Adds vs b c U → Adds (us ++ vs) a c (λ x p q. T x p (length b.bytes) × U x (length b.bytes) q)
emits_then {us = us} {vs = vs} a b c T U t u = record {
  grows = omega (arith, t.grows, u.grows);
  same = u.same ∙ t.same;
  strings = u.strings ∙ ap (λ (ws : List ℕ). ws ++ vs) t.strings ∙ append_assoc a.strings us vs;
  keeps = λ l h. u.keeps l (t.keeps l h);
  made = omega (arith, t.made, u.made);
  back = λ x fits. t.back x (u.back x fits);
  meant = λ x fits low. (t.meant x (u.back x fits) low, u.meant x fits (omega (arith, low, t.grows)));
}

-- the same piece with another meaning that follows in a final code that fits
emits_fits : {ws : List ℕ} (a b : Draft) (T U : Meaning) → ((x : Final) → Fits b x → T x (length a.bytes) (length b.bytes) → U x (length a.bytes) (length b.bytes)) → Adds ws a b T → Adds ws a b U
emits_fits a b T U f t = record { grows = t.grows; same = t.same; strings = t.strings; keeps = t.keeps; made = t.made; back = t.back; meant = λ x fits low. f x fits (t.meant x fits low) }

pub emits_as : {ws : List ℕ} (a b : Draft) (T U : Meaning) → ((x : Final) → T x (length a.bytes) (length b.bytes) → U x (length a.bytes) (length b.bytes)) → Adds ws a b T → Adds ws a b U
emits_as a b T U f = emits_fits a b T U (λ x fits. f x)

-- the same piece with the same words of strings, said in another way
pub adds_as : {us vs : List ℕ} (a b : Draft) (T : Meaning) → us ≡ vs → Adds us a b T → Adds vs a b T
adds_as a b T is = subst (λ (ws : List ℕ). Adds ws a b T) is

-- its tables are those of the final code
pub emits_tied : {ws : List ℕ} (a b : Draft) (T : Meaning) → Adds ws a b T → Adds ws a b (λ x p q. T x p q × (x.tables ≡ a.tables))
emits_tied a b T t = emits_fits a b T _ (λ x fits h. (h, fits.same ∙ t.same)) t

-- it lies within the final code
pub emits_within : {ws : List ℕ} (a b : Draft) (T : Meaning) → Adds ws a b T → Adds ws a b (λ x p q. T x p q × (q ≤ length x.code))
emits_within a b T = emits_fits a b T _ (λ x fits h. (h, fits.long))

set_get : (xs : List (Option ℕ)) (l : ℕ) (v : Option ℕ) → l < length xs → slice_get (slice_set xs l v) l ≡ Some v
set_get [] l v h = absurd (omega arith)
set_get (x ∷ xs) zero v h = refl
set_get (x ∷ xs) (suc l) v h = set_get xs l v (omega arith)

set_other : (xs : List (Option ℕ)) (k l : ℕ) (v : Option ℕ) → k ≢ l → slice_get (slice_set xs l v) k ≡ slice_get xs k
set_other [] k l v h = refl
set_other (x ∷ xs) zero zero v h = absurd (h refl)
set_other (x ∷ xs) zero (suc l) v h = refl
set_other (x ∷ xs) (suc k) zero v h = refl
set_other (x ∷ xs) (suc k) (suc l) v h = set_other xs k l v (λ e. h (ap suc e))

-- a label that gets its place has it in each final code
pub ends_here : (b c : Draft) (l : ℕ) → Places b c l → Ends b c l
ends_here b c l put =
    let place : Option ℕ = Some (length b.bytes) in
    let at : (k : ℕ) → slice_get c.places k ≡ slice_get (slice_set b.places l place) k = λ k. ap (λ (ps : List (Option ℕ)). slice_get ps k) put.places in
    let other : (k : ℕ) → k ≢ l → slice_get c.places k ≡ slice_get b.places k = λ k ne. at k ∙ set_other b.places k l place ne in
    let before : (word : ℕ → ℕ) → written word c.bytes c.jumps ≡ written word b.bytes b.jumps = λ word. ap (λ (bs : List ℕ). written word bs c.jumps) put.bytes ∙ ap (written word b.bytes) put.jumps in
    let same : (word numbers : ℕ → ℕ) → code_of c word numbers ≡ code_of b word numbers = λ word numbers.
    ap (λ (bs : List ℕ). numbered numbers bs c.fixups) (before word) ∙ ap (numbered numbers (written word b.bytes b.jumps)) put.fixups in
    record {
      same = put.tables;
      strings = put.strings;
      long = ap length put.bytes;
      keeps = λ k ne h. other k ne ∙ h;
      made = omega (arith, ap (λ (ps : List (Option ℕ)). length ps) put.places, length-set b.places l place);
      back = λ x fits. record {
        same = fits.same ∙ put.tables;
        more = fits.more;
        strings = fits.strings ∙ ap (λ (ws : List ℕ). ws ++ fits.more) put.strings;
        bytes = λ j b low h. fits.bytes j b low (ap (λ (code : List ℕ). slice_get code j) (same x.word x.layout.numbers) ∙ h);
        long = omega (arith, fits.long, ap length put.bytes);
        placed = λ k q h. fits.placed k q (other k (λ (e : k ≡ l). cc (h, e, put.was)) ∙ h);
      };
      named = λ x fits. fits.placed l (length b.bytes) (at l ∙ set_get b.places l place (slice_get_within b.places l None put.was)) ∙ ap x.layout.target (sym (ap length put.bytes));
    }

-- a label that was made in the piece gets its place at the end of it
pub emits_here : {ws : List ℕ} (a b c : Draft) (T : Meaning) (l : ℕ) → Adds ws a b T → ((k : ℕ) → IsOpen a k → k ≢ l) → Ends b c l → Adds ws a c (λ x p q. T x p q × (x.word l ≡ x.layout.target q))
emits_here a b c T l t apart end = record {
  grows = omega (arith, t.grows, end.long);
  same = end.same ∙ t.same;
  strings = end.strings ∙ t.strings;
  keeps = λ k h. end.keeps k (apart k h) (t.keeps k h);
  made = omega (arith, t.made, end.made);
  back = λ x fits. t.back x (end.back x fits);
  meant = λ x fits low. (subst (λ (q : ℕ). T x (length a.bytes) q) (sym end.long) (t.meant x (end.back x fits) low), end.named x fits);
}

-- a piece behind a new label
pub emits_fresh : {ws : List ℕ} (a b c : Draft) (T : Meaning) → Emits a b Nothing → Adds ws b c T → Adds ws a c T
emits_fresh a b c T new t = emits_as a c _ T (λ x h. subst (λ (p : ℕ). T x p (length c.bytes)) (sym h.0) h.1) (emits_then a b c Nothing T new t)

-- a piece behind a label that has its place there
pub emits_mark : {ws : List ℕ} (a b c : Draft) (l : ℕ) (T : Meaning) → Emits a b (Marking l) → Adds ws b c T → Adds ws a c (λ x p q. (x.word l ≡ x.layout.target p) × T x p q)
emits_mark a b c l T mark t = emits_as a c _ _ (λ x h. (h.0.1, subst (λ (p : ℕ). T x p (length c.bytes)) (sym h.0.0) h.1)) (emits_then a b c (Marking l) T mark t)

-- ---- one behind another
each_one : {A : Type 0} (P : A → Meaning) (xs : List A) (a : A) (x : Final) (p m q : ℕ) → Each P xs x p m → P a x m q → Each P (xs ++ a ∷ []) x p q
each_one P [] a x p m q h t = (q, subst (λ (p : ℕ). P a x p q) (sym h) t, refl)
each_one P (b ∷ xs) a x p m q h t = (h.0, h.1, each_one P xs a x h.0 m q h.2 t)

pub each_more : {us vs : List ℕ} {A : Type 0} (P : A → Meaning) (xs ys : List A) (y : A) (a b c : Draft) → ys ≡ xs ++ y ∷ [] → Adds us a b (Each P xs) → Adds vs b c (P y) → Adds (us ++ vs) a c (Each P ys)
each_more {us = us} {vs = vs} P xs ys y a b c is t u =
    subst (λ ys. Adds (us ++ vs) a c (Each P ys)) (sym is)
    (emits_as a c _ (Each P (xs ++ y ∷ [])) (λ x h. each_one P xs y x (length a.bytes) (length b.bytes) (length c.bytes) h.0 h.1) (emits_then a b c _ _ t u))

-- the items before the next one
pub take_next : {X : Type 0} (xs : List X) (i : ℕ) (x : X) → i < length xs → x ≡ get_or xs i x → take (i + 1) xs ≡ take i xs ++ x ∷ []
take_next xs i x inside is = take_more xs i x inside ∙ ap (λ y. take i xs ++ y ∷ []) (sym is)

-- the next of a list
pub each_next : {us vs : List ℕ} {A : Type 0} (P : A → Meaning) (xs : List A) (i : ℕ) (y : A) (a b c : Draft) → i < length xs → y ≡ get_or xs i y → Adds us a b (Each P (take i xs)) → Adds vs b c (P y) → Adds (us ++ vs) a c (Each P (take (i + 1) xs))
each_next P xs i y a b c inside is = each_more P (take i xs) (take (i + 1) xs) y a b c (take_next xs i y inside is)

-- ---- inside of a WITH
-- the same final code, inside of a WITH too
abbrev pub inside_of : HeldRecord → Final → Final
inside_of h x = record {
  tables = record x.tables { held = h ∷ x.tables.held };
  layout = holding x.layout (shape_held x.tables.shapes h) h.word;
  described = record {
    measured = x.described.measured;
    targets = x.described.targets;
    shapes = x.described.shapes;
    offsets = x.described.offsets;
    within = x.described.within;
    words = x.described.words;
    procedures = x.described.procedures;
    chain = x.described.chain;
    each = x.described.each;
    held = ap (λ (ws : List ℕ). h.word ∷ ws) x.described.held;
    held_shapes = ap (λ (ts : List Shape). shape_held x.tables.shapes h ∷ ts) x.described.held_shapes;
  };
  room = x.room;
  word = x.word;
  from = x.from;
  code = x.code;
  cuts = x.cuts;
}

-- a piece that is emitted inside of a WITH means there what it says
pub emits_inside : {ws : List ℕ} (h : HeldRecord) (a b c d : Draft) (T : Meaning) → b ≡ inside h a → Adds ws b c T → d ≡ outside c → Adds ws a d (λ x p q. T (inside_of h x) p q)
emits_inside {ws = ws} h a b c d T enter t leave =
    subst (λ (d : Draft). Adds ws a d (λ x p q. T (inside_of h x) p q)) (sym leave)
    (between (subst (λ (b : Draft). Adds ws b c T) enter t))
  where
    between : Adds ws (inside h a) c T → Adds ws a (outside c) (λ x p q. T (inside_of h x) p q)
    between t =
        let restored : (outside c).tables ≡ a.tables = ap (λ (ts : Tables). record ts { held = drop 1 ts.held }) t.same in
        let within : (x : Final) → Fits (outside c) x → Fits c (inside_of h x) = λ x fits. record {
          same = ap (λ (ts : Tables). record ts { held = h ∷ ts.held }) (fits.same ∙ restored) ∙ sym t.same;
          more = fits.more;
          strings = fits.strings;
          bytes = fits.bytes;
          long = fits.long;
          placed = fits.placed;
        } in
        record {
          grows = t.grows;
          same = restored;
          strings = t.strings;
          keeps = t.keeps;
          made = t.made;
          back = λ x fits.
              let earlier = t.back (inside_of h x) (within x fits) in
              record { same = fits.same ∙ restored; more = earlier.more; strings = earlier.strings; bytes = earlier.bytes; long = earlier.long; placed = earlier.placed };
          meant = λ x fits low. t.meant (inside_of h x) (within x fits) low;
        }

-- what follows from what holds at an Ok
pub with_ok : {T E P Q : Type 0} (r : Result T E) → (P → Q) → OnOk r P → OnOk r Q
with_ok (Ok x) f h = f h
with_ok (Err e) f h = tt
