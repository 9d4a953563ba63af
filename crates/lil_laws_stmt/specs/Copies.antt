-- The copies of open arrays: each becomes a variable of the activation that begins, above its frame.
use Rattle.std.proofs.Common.{◌≡◌, ℕ, suc, ◌+◌, ◌<◌, ◌≤◌, ◌⊎◌, inl, inr, Bool, true, false, eqb, eqb-true, List, [], Some, length, get_or, set, refl, sym, ap, ◌∙◌, subst, ⊎_elim, arith}
use Rattle.std.specs.Prelude.{slice_get, ◌&&◌}
use Rattle.std.proofs.lemmas.{Bool.{ne_eqb, eq-eqb, and_parts, cases_lt}, Option.same_Some}
use Rattle.lil_resolved.specs.Kinds.{Kind, Shape, Absent, Word, Row, Opened, words, is_there, part_at, offset as part_offset, offsets_from}
use Rattle.lil_meaning.specs.Items.{Root, Global, Local, Object, Cells, stored, same_root, Slot, Along}
use Rattle.lil_frames.specs.Words.{spliced}
use Rattle.lil_table.specs.Rows.{copy_code}
use Rattle.lil_match.specs.{Parts.{yes, no, part_fits, word_long}, Splices.{spliced_length, spliced_before, spliced_there, spliced_after}, Homes.{Of, Own, Home, Ours, Mem, mem_shadowed, shadowed, IsWord, is_word_kept, extends_self, lives, same_root_refl}}
use Rattle.lil_laws_stmt.specs.{Births.{adopted, whole_place, mem_adopted}, Locals.{mem_seen, stored_self, of_activation}, Painting.{painted_there, painted_beside}}

-- ---- one copy
module _ (h : Home) (cells : Cells) (store : List ℕ) (mem : Mem h cells store) (a y top w : ℕ) (t : Shape) (ws : List ℕ) (long : length ws ≡ words t) (unborn : h.shape (Local a y) ≡ Absent) (room : top + words t ≤ 65535)
    (free : (i : ℕ) → top ≤ i → i < top + words t → Ours (h.owner i)) (below : w < top) (own : h.owner w ≡ Own) (puts : (q : List ℕ) (k : Kind) → part_at t q ≡ Word k → IsWord h k (cells (Local a y) q) (get_or ws (part_offset t q) 0)) where
  -- it lies there, and the word that had the array's address has its own
  abbrev pub copied : Home
  copied = shadowed (adopted h (Local a y) top t) w top

  abbrev mid : Home
  mid = adopted h (Local a y) top t

  fits : top + length ws ≤ length store
  fits = omega (arith, room, long, mem.long)

  mem_mid : Mem mid cells (spliced store top ws)
  mem_mid =
      mem_seen mid (stored cells (whole_place (Local a y)) (cells (Local a y))) cells (spliced store top ws)
      (mem_adopted h cells store (spliced store top ws) mem (Local a y) top t (cells (Local a y)) unborn room free
      (λ i o. ⊎_elim (λ (z : i < top). spliced_before store top ws i fits z) (λ (z : (top ≤ i) × (top + words t ≤ i)). spliced_after store top ws i fits (omega (arith, z.1, long))) o)
      (λ q k typed.
      let small : part_offset t q < words t = omega (arith, part_fits t q (ap is_there typed), word_long (part_at t q) k typed) in
      subst (IsWord mid k (cells (Local a y) q)) (sym (spliced_there store top ws (part_offset t q) fits (omega (arith, small, long))))
      (is_word_kept h mid (λ o e. object_base o) (λ o e. object_shape o) refl (extends_self h.workspaces) k (cells (Local a y) q) (get_or ws (part_offset t q) 0) (puts q k typed)))
      (spliced_length store top ws fits))
      (λ r q k typed. sym (stored_self cells (Local a y) r q))
    where
      object_base : (o : ℕ) → mid.base (Object o) ≡ h.base (Object o)
      object_base o = refl

      object_shape : (o : ℕ) → mid.shape (Object o) ≡ h.shape (Object o)
      object_shape o = refl

  pub owner_beside : (i : ℕ) → (i < top) ⊎ ((top ≤ i) × (top + words t ≤ i)) → copied.owner i ≡ h.owner i
  owner_beside i o = painted_beside h.owner top (top + words t) (λ j. Of (Local a y)) i o

  pub owner_there : (i : ℕ) → top ≤ i → i < top + words t → copied.owner i ≡ Of (Local a y)
  owner_there i from less = painted_there h.owner top (top + words t) (λ j. Of (Local a y)) i from less

  pub mem_copied : Mem (shadowed (adopted h (Local a y) top t) w top) cells (set (spliced store top ws) w top)
  mem_copied = mem_shadowed mid cells (spliced store top ws) w top (owner_beside w (inl below) ∙ own) (omega (arith, below, room)) mem_mid

  pub shadow_other : (i : ℕ) → (w ≡ i → ⊥) → copied.shadow i ≡ h.shadow i
  shadow_other i apart = no (eqb w i) top (h.shadow i) (ne_eqb w i apart)

  pub shadow_here : copied.shadow w ≡ top
  shadow_here = yes (eqb w w) top (h.shadow w) (eq-eqb w w refl)

  pub base_here : copied.base (Local a y) ≡ top
  base_here = yes (same_root (Local a y) (Local a y)) top (h.base (Local a y)) (same_root_refl (Local a y))

  pub shape_here : copied.shape (Local a y) ≡ t
  shape_here = yes (same_root (Local a y) (Local a y)) t (h.shape (Local a y)) (same_root_refl (Local a y))

  pub base_other : (r : Root) → same_root (Local a y) r ≡ false → copied.base r ≡ h.base r
  base_other r other = no (same_root (Local a y) r) top (h.base r) other

  pub shape_other : (r : Root) → same_root (Local a y) r ≡ false → copied.shape r ≡ h.shape r
  shape_other r other = no (same_root (Local a y) r) t (h.shape r) other

other_local : (a y z : ℕ) → (y ≡ z → ⊥) → same_root (Local a y) (Local a z) ≡ false
other_local a y z apart = by (same_root (Local a y) (Local a z)) refl
  where
    by : (b : Bool) → same_root (Local a y) (Local a z) ≡ b → b ≡ false
    by true e = absurd (apart (eqb-true y z (and_parts (eqb a a) (eqb y z) e).1))
    by false e = refl

foreign : (a y : ℕ) (r : Root) → of_activation a r ≡ false → same_root (Local a y) r ≡ false
foreign a y (Global m x) e = refl
foreign a y (Object o) e = refl
foreign a y (Local b x) e = by (eqb a b) e
  where
    by : (c : Bool) → c ≡ false → (c && eqb y x) ≡ false
    by true e = cc
    by false e = refl

-- a root that lives isn't one that is to come
living_other : (h : Home) (a y : ℕ) (r : Root) → h.shape (Local a y) ≡ Absent → lives h r ≡ true → same_root (Local a y) r ≡ false
living_other h a y (Global m x) none e = refl
living_other h a y (Object o) none e = refl
living_other h a y (Local b x) none e = by (same_root (Local a y) (Local b x)) refl
  where
    by : (c : Bool) → same_root (Local a y) (Local b x) ≡ c → c ≡ false
    by true is =
        let p = and_parts (eqb a b) (eqb y x) is in
        let same : h.shape (Local b x) ≡ Absent = ap (λ (c : ℕ). h.shape (Local c x)) (sym (eqb-true a b p.0)) ∙ ap (λ (z : ℕ). h.shape (Local a z)) (sym (eqb-true y x p.1)) ∙ none in
        let clash : false ≡ true = sym (ap is_there same) ∙ e in cc
    by false is = refl

copied_some : (t : Shape) → copy_code 4 (Opened true t) ≡ [] → ⊥
copied_some t e = cc

same_opened : (t u : Shape) → Opened true t ≡ Opened true u → t ≡ u
same_opened t u e = cc

-- ---- the copies of the parameters before one, whose words lie from a word of the frame on, up to a word above the frame
module _ (x : Home) (cells : Cells) (a lo hi : ℕ) (shapes : List Shape) (slots : List Slot) where
  pub record CopyAt (z : Home) (y off : ℕ) (t : Shape) : Type 0 where
    pub high : ℕ
    pub slot : slice_get slots y ≡ Some (Along (record { root = Local a y; path = [] }) high)
    pub living : z.shape (Local a y) ≡ Row (suc high) t
    pub low : high ≤ 65535
    pub word : z.shadow (lo + off) ≡ z.base (Local a y)
    pub word_high : z.shadow (lo + (off + 1)) ≡ high

  pub record Copying (y0 o top : ℕ) (z : Home) (store : List ℕ) : Type 0 where
    pub mem : Mem z cells store
    pub frame_owner : (i : ℕ) → i < hi → z.owner i ≡ x.owner i
    pub copies_owner : (i : ℕ) → hi ≤ i → i < top → (y : ℕ) × (z.owner i ≡ Of (Local a y))
    pub rest_owner : (i : ℕ) → top ≤ i → z.owner i ≡ x.owner i
    pub other_shadow : (i : ℕ) → (i < lo + 4) ⊎ (lo + o ≤ i) → z.shadow i ≡ x.shadow i
    pub base : (r : Root) → lives x r ≡ true → z.base r ≡ x.base r
    pub shape : (r : Root) → lives x r ≡ true → z.shape r ≡ x.shape r
    pub other_shape : (r : Root) → of_activation a r ≡ false → z.shape r ≡ x.shape r
    pub listed : z.listed ≡ x.listed
    pub workspaces : z.workspaces ≡ x.workspaces
    pub to_come : (y : ℕ) (t : Shape) → y0 ≤ y → slice_get shapes y ≡ Some (Opened true t) → z.shape (Local a y) ≡ Absent
    pub stays : (y off : ℕ) (t : Shape) → y < y0 → slice_get (offsets_from 4 shapes) y ≡ Some off → slice_get shapes y ≡ Some t → copy_code 4 t ≡ [] → (i : ℕ) → off ≤ i → i < off + words t → z.shadow (lo + i) ≡ x.shadow (lo + i)
    pub copies : (y off : ℕ) (t : Shape) → y < y0 → slice_get (offsets_from 4 shapes) y ≡ Some off → slice_get shapes y ≡ Some (Opened true t) → CopyAt z y off t
    pub reached : (y off : ℕ) (t : Shape) → y < y0 → slice_get (offsets_from 4 shapes) y ≡ Some off → slice_get shapes y ≡ Some t → off + words t ≤ o
    pub above : hi ≤ top
    pub begins : 4 ≤ o

  -- none is copied yet
  pub copies_none : (store : List ℕ) → Mem x cells store → ((y : ℕ) (t : Shape) → slice_get shapes y ≡ Some (Opened true t) → x.shape (Local a y) ≡ Absent) → Copying 0 4 hi x store
  copies_none store mem unborn = record {
    mem = mem;
    frame_owner = λ i less. refl;
    copies_owner = λ i from less. absurd (omega (arith, from, less));
    rest_owner = λ i from. refl;
    other_shadow = λ i o. refl;
    base = λ r e. refl;
    shape = λ r e. refl;
    other_shape = λ r e. refl;
    listed = refl;
    workspaces = refl;
    to_come = λ y t le typed. unborn y t typed;
    stays = λ y off t less. absurd (omega (arith, less));
    copies = λ y off t less. absurd (omega (arith, less));
    reached = λ y off t less. absurd (omega (arith, less));
    above = omega arith;
    begins = omega arith;
  }

  -- a parameter that isn't copied
  pub copies_skip : (y0 o top : ℕ) (z : Home) (store : List ℕ) (t : Shape) → Copying y0 o top z store → slice_get (offsets_from 4 shapes) y0 ≡ Some o → slice_get shapes y0 ≡ Some t → copy_code 4 t ≡ [] → Copying (suc y0) (o + words t) top z store
  copies_skip y0 o top z store t r at typed plain = record {
    mem = r.mem;
    frame_owner = r.frame_owner;
    copies_owner = r.copies_owner;
    rest_owner = r.rest_owner;
    other_shadow = λ i o. r.other_shadow i (⊎_elim (λ (l : i < lo + 4). inl l) (λ (g : lo + (_ + words t) ≤ i). inr (omega (arith, g))) o);
    base = r.base;
    shape = r.shape;
    other_shape = r.other_shape;
    listed = r.listed;
    workspaces = r.workspaces;
    to_come = λ y u le is. r.to_come y u (omega (arith, le)) is;
    stays = λ y off u less there is none i from below. ⊎_elim (λ (l : y < y0). r.stays y off u l there is none i from below) (λ (g : y0 ≤ y).
        let same : y ≡ y0 = omega (arith, g, less) in
        let here : off ≡ o = same_Some off o (sym there ∙ ap (slice_get (offsets_from 4 shapes)) same ∙ at) in
        r.other_shadow (lo + i) (inr (omega (arith, from, here)))) (cases_lt y y0);
    copies = λ y off u less there is. ⊎_elim (λ (l : y < y0). r.copies y off u l there is) (λ (g : y0 ≤ y).
        let same : y ≡ y0 = omega (arith, g, less) in
        let clash : t ≡ Opened true u = same_Some t (Opened true u) (sym typed ∙ ap (slice_get shapes) (sym same) ∙ is) in
        absurd (copied_some u (ap (copy_code 4) (sym clash) ∙ plain))) (cases_lt y y0);
    reached = λ y off u less there is. ⊎_elim (λ (l : y < y0). let low = r.reached y off u l there is in omega (arith, low)) (λ (g : y0 ≤ y).
        let same : y ≡ y0 = omega (arith, g, less) in
        let here : off ≡ o = same_Some off o (sym there ∙ ap (slice_get (offsets_from 4 shapes)) same ∙ at) in
        let long : words u ≡ words t = ap words (same_Some u t (sym is ∙ ap (slice_get shapes) same ∙ typed)) in
        omega (arith, here, long)) (cases_lt y y0);
    above = r.above;
    begins = omega (arith, r.begins);
  }

  -- one that is copied
  module _ (y0 o top : ℕ) (z : Home) (store : List ℕ) (t : Shape) (high : ℕ) (ws : List ℕ) (r : Copying y0 o top z store) (at : slice_get (offsets_from 4 shapes) y0 ≡ Some o) (typed : slice_get shapes y0 ≡ Some (Opened true t))
      (slot : slice_get slots y0 ≡ Some (Along (record { root = Local a y0; path = [] }) high)) (small : high ≤ 65535) (long : length ws ≡ words (Row (suc high) t)) (room : top + words (Row (suc high) t) ≤ 65535)
      (free : (i : ℕ) → top ≤ i → i < top + words (Row (suc high) t) → Ours (x.owner i)) (below : lo + (o + 2) ≤ hi) (own : x.owner (lo + o) ≡ Own) (word_high : x.shadow (lo + (o + 1)) ≡ high)
      (puts : (q : List ℕ) (k : Kind) → part_at (Row (suc high) t) q ≡ Word k → IsWord z k (cells (Local a y0) q) (get_or ws (part_offset (Row (suc high) t) q) 0)) where
    abbrev row : Shape
    row = Row (suc high) t

    abbrev pub then : Home
    then = shadowed (adopted z (Local a y0) top (Row (suc high) t)) (lo + o) top

    unborn : z.shape (Local a y0) ≡ Absent
    unborn = r.to_come y0 t (omega arith) typed

    free_now : (i : ℕ) → top ≤ i → i < top + words row → Ours (z.owner i)
    free_now i from less = subst Ours (sym (r.rest_owner i from)) (free i from less)

    low : lo + o < top
    low = omega (arith, below, r.above)

    own_now : z.owner (lo + o) ≡ Own
    own_now = r.frame_owner (lo + o) (omega (arith, below)) ∙ own

    beside : (i : ℕ) → (i < top) ⊎ ((top ≤ i) × (top + words row ≤ i)) → then.owner i ≡ z.owner i
    beside = owner_beside z cells store r.mem a y0 top (lo + o) row ws long unborn room free_now low own_now puts

    shade : (i : ℕ) → (lo + o ≡ i → ⊥) → then.shadow i ≡ z.shadow i
    shade = shadow_other z cells store r.mem a y0 top (lo + o) row ws long unborn room free_now low own_now puts

    based : (q : Root) → same_root (Local a y0) q ≡ false → then.base q ≡ z.base q
    based = base_other z cells store r.mem a y0 top (lo + o) row ws long unborn room free_now low own_now puts

    shaped : (q : Root) → same_root (Local a y0) q ≡ false → then.shape q ≡ z.shape q
    shaped = shape_other z cells store r.mem a y0 top (lo + o) row ws long unborn room free_now low own_now puts

    was_none : (q : Root) → lives x q ≡ true → same_root (Local a y0) q ≡ false
    was_none q e = living_other z a y0 q unborn (alive q e)
      where
        alive : (q : Root) → lives x q ≡ true → lives z q ≡ true
        alive (Global m i) e = refl
        alive (Local b i) e = ap is_there (r.shape (Local b i) e) ∙ e
        alive (Object i) e = ap is_there (r.shape (Object i) e) ∙ e

    earlier : (y off : ℕ) (u : Shape) → y < y0 → slice_get (offsets_from 4 shapes) y ≡ Some off → slice_get shapes y ≡ Some (Opened true u) → CopyAt then y off u
    earlier y off u less there is =
        let one = r.copies y off u less there is in
        let ends : off + 2 ≤ o = r.reached y off (Opened true u) less there is in
        let other = other_local a y0 y (λ e. omega (arith, e, less)) in
        record {
          high = one.high;
          slot = one.slot;
          living = shaped (Local a y) other ∙ one.living;
          low = one.low;
          word = shade (lo + off) (λ e. omega (arith, e, ends)) ∙ one.word ∙ sym (based (Local a y) other);
          word_high = shade (lo + (off + 1)) (λ e. omega (arith, e, ends)) ∙ one.word_high;
        }

    mine : CopyAt then y0 o t
    mine = record {
      high = high;
      slot = slot;
      living = shape_here z cells store r.mem a y0 top (lo + o) row ws long unborn room free_now low own_now puts;
      low = small;
      word = shadow_here z cells store r.mem a y0 top (lo + o) row ws long unborn room free_now low own_now puts ∙ sym (base_here z cells store r.mem a y0 top (lo + o) row ws long unborn room free_now low own_now puts);
      word_high = shade (lo + (o + 1)) (λ e. omega (arith, e)) ∙ r.other_shadow (lo + (o + 1)) (inr (omega arith)) ∙ word_high;
    }

    pub copies_more : Copying (suc y0) (o + 2) (top + words (Row (suc high) t)) (shadowed (adopted z (Local a y0) top (Row (suc high) t)) (lo + o) top) (set (spliced store top ws) (lo + o) top)
    copies_more = record {
      mem = mem_copied z cells store r.mem a y0 top (lo + o) row ws long unborn room free_now low own_now puts;
      frame_owner = λ i less. beside i (inl (omega (arith, less, r.above))) ∙ r.frame_owner i less;
      copies_owner = λ i from less. ⊎_elim (λ (l : i < top). let one = r.copies_owner i from l in (one.0, beside i (inl l) ∙ one.1)) (λ (g : top ≤ i). (y0, owner_there z cells store r.mem a y0 top (lo + o) row ws long unborn room free_now low own_now puts i g less)) (cases_lt i top);
      rest_owner = λ i from. beside i (inr (omega (arith, from), from)) ∙ r.rest_owner i (omega (arith, from));
      other_shadow = λ i o'. ⊎_elim (λ (l : i < lo + 4). shade i (λ e. omega (arith, e, l, r.begins)) ∙ r.other_shadow i (inl l)) (λ (g : lo + (o + 2) ≤ i). shade i (λ e. omega (arith, e, g)) ∙ r.other_shadow i (inr (omega (arith, g)))) o';
      base = λ q e. based q (was_none q e) ∙ r.base q e;
      shape = λ q e. shaped q (was_none q e) ∙ r.shape q e;
      other_shape = λ q e. shaped q (foreign a y0 q e) ∙ r.other_shape q e;
      listed = r.listed;
      workspaces = r.workspaces;
      to_come = λ y u le is. shaped (Local a y) (other_local a y0 y (λ e. omega (arith, e, le))) ∙ r.to_come y u (omega (arith, le)) is;
      stays = λ y off u less there is none i from less_too. ⊎_elim (λ (l : y < y0). let ends = r.reached y off u l there is in shade (lo + i) (λ e. omega (arith, e, ends, less_too)) ∙ r.stays y off u l there is none i from less_too) (λ (g : y0 ≤ y).
          let same : y ≡ y0 = omega (arith, g, less) in
          let clash : u ≡ Opened true t = same_Some u (Opened true t) (sym is ∙ ap (slice_get shapes) same ∙ typed) in
          absurd (copied_some t (ap (copy_code 4) (sym clash) ∙ none))) (cases_lt y y0);
      copies = λ y off u less there is. ⊎_elim (λ (l : y < y0). earlier y off u l there is) (λ (g : y0 ≤ y).
          let same : y ≡ y0 = omega (arith, g, less) in
          let here : off ≡ o = same_Some off o (sym there ∙ ap (slice_get (offsets_from 4 shapes)) same ∙ at) in
          let its : u ≡ t = same_opened u t (same_Some (Opened true u) (Opened true t) (sym is ∙ ap (slice_get shapes) same ∙ typed)) in
          subst (λ (i : ℕ). CopyAt then i off u) (sym same) (subst (λ (i : ℕ). CopyAt then y0 i u) (sym here) (subst (CopyAt then y0 o) (sym its) mine))) (cases_lt y y0);
      reached = λ y off u less there is. ⊎_elim (λ (l : y < y0). let ends = r.reached y off u l there is in omega (arith, ends)) (λ (g : y0 ≤ y).
          let same : y ≡ y0 = omega (arith, g, less) in
          let here : off ≡ o = same_Some off o (sym there ∙ ap (slice_get (offsets_from 4 shapes)) same ∙ at) in
          let two : words u ≡ 2 = ap words (same_Some u (Opened true t) (sym is ∙ ap (slice_get shapes) same ∙ typed)) in
          omega (arith, here, two)) (cases_lt y y0);
      above = omega (arith, r.above);
      begins = omega (arith, r.begins);
    }
