-- The rows of NEW: a block is taken below the limit, and the pointer gets its address.
use Rattle.std.proofs.Common.{◌≡◌, ℕ, zero, suc, ◌+◌, ◌-◌, ◌<◌, ◌≤◌, ◌⊎◌, inl, inr, Bool, true, false, List, [], ◌∷◌, ◌++◌, length, get_or, set, refl, sym, ap, ◌∙◌, subst, ⊎_elim, arith}
use Rattle.std.proofs.lemmas.Bool.{ne_eqb, cases_lt, cases_eq}
use Rattle.lil_resolved.specs.{Kinds.{Objects, OfPointer, ToObject, Shape, Absent, Word, words, is_there, part_at, offset, shape_at}, Resolved.{Designator, New, shape_of}}
use Rattle.lil_meaning.specs.{Items.{Root, Global, Local, Object, Place, Cells, same_root, object_place, stored, alone, zero_in, zeros_under, object_words, Places, NewAt, Do, Item, Value, Fill, Perform, Going, Source, heap_words}, Steps.{next, target_of, made}}
use Rattle.lil_asm.specs.declared.instr.Instr.TheVariants.{Liw}
use Rattle.lil_mcode.specs.{declared.machine.Event.{Event, TheVariants.Went}, Table.{State, going}}
use Rattle.lil_frames.specs.Words.{cleared}
use Rattle.lil_table.specs.Rows.{access_of}
use Rattle.lil_match.specs.{Parts.{yes, no, part_fits, word_long}, Homes.{Of, Free, Home, extends_self, lives, address, shape_there, Refers, zero_is, Mem, mem_stored, same_root_refl}, Costs.shared_cost, Goes.{IsHeap, Shared, Goes}}
use Rattle.lil_match.specs.{Waits.{Setting, frame_of, laid_out, Quiet, AtPlace, Around, Reach, Rows, Designates, placed, Waiting}, Kept.place_lives, Steps.{closed, pushes, located_goes}}
use Rattle.lil_laws_place.specs.Codes.{inside, addressed, leads}
use Rattle.lil_laws_stmt.specs.{Births.{adopted, mem_adopted}, Painting.painted_beside}
use Rattle.lil_laws_stmt.specs.Blocks as block

-- ---- one object more
objects_more : (os : List Shape) (t : Shape) → object_words (os ++ t ∷ []) ≡ object_words os + (2 + words t)
objects_more [] t = omega arith
objects_more (o ∷ os) t = omega (arith, objects_more os t)

last_shape : (os : List Shape) (t : Shape) → shape_at (os ++ t ∷ []) (length os) ≡ t
last_shape [] t = refl
last_shape (o ∷ os) t = last_shape os t

other_shape : (os : List Shape) (t : Shape) (p : ℕ) → (length os ≡ p → ⊥) → shape_at (os ++ t ∷ []) p ≡ shape_at os p
other_shape [] t zero d = absurd (d refl)
other_shape [] t (suc p) d = refl
other_shape (o ∷ os) t zero d = refl
other_shape (o ∷ os) t (suc p) d = other_shape os t p (λ e. d (ap suc e))

unborn : (os : List Shape) → shape_at os (length os) ≡ Absent
unborn [] = refl
unborn (o ∷ os) = unborn os

module _ (ctx : Setting) where
  open ctx use {library, home as h, stack as st}
  open frame_of ctx use {own, piece}
  open laid_out ctx use {layout as l}

  module _ (s : Source) (k : List Item) (m : State) (c : ℕ) (a : Around) (shared : Shared ctx s m) where
    abbrev Rest : Reach
    Rest = Rows ctx k

    pub new_goes : (d : Designator) (n : ℕ) → Waiting ctx (Perform (Do (New d n))) Rest Quiet m.place m.stack c a → Goes ctx s (Perform (Do (New d n)) ∷ k) m (c + 32)
    new_goes d n row =
        let r = row.part.here in
        located_goes ctx s k m c a shared (Perform (Do (New d n)) ∷ k) d (NewAt n) refl (omega arith) r.found r.here (omega (arith, r.shallow, ap length row.part.empty))
        (record { part = placed ctx.stack.frame (New d n) a (λ p q r. r.found) m.place m.stack row.part; then = row.then })

    -- the pointer is there
    module _ (n : ℕ) (place : Place) (d : Designator) (below : List ℕ) (has : Designates ctx d place m.stack below) (row : Waiting ctx (Fill (NewAt n)) Rest (AtPlace d) m.place below c a) where
      -- the new object's number, its shape, and its first word
      abbrev o : ℕ
      o = length s.objects

      abbrev target : Shape
      target = shape_at l.scope.targets n

      abbrev first : ℕ
      first = st.limit - words (shape_at l.scope.targets n)

      abbrev lower : ℕ
      lower = st.limit - (words (shape_at l.scope.targets n) + 2)

      abbrev items : List Item
      items = Value (Places place) ∷ Fill (NewAt n) ∷ k

      abbrev now : Source
      now = record s { items = items; phase = Going }

      -- the instruction that takes the block is next
      abbrev before : ℕ
      before = row.part.amid.here.by.0

      abbrev taking : State
      taking = going m row.part.amid.here.by.0 (words (shape_at l.scope.targets n) ∷ address h place ∷ [])

      -- what the meaning makes is what the layout says
      target_is : target_of library now n ≡ shape_at l.scope.targets n
      target_is =
          let f = shared.standing.known in
          let here = closed ctx k _ _ _ _ _ row.then in
          cc (here, shared.activations_are, f.owner, shared.loaded_are, f.own_targets, f.targets)

      abbrev after : Shape → Source
      after u = made u place k now

      low : address h place + 1 ≤ 65535
      low = omega (arith, inside ctx s m shared (access_of l d) place (shape_of l.scope d) m.stack below has, ap words row.part.amid.here.typed)

      -- the next state has one object more
      more : heap_words (next library now).objects (next library now).workspaces ≡ heap_words s.objects s.workspaces + (words (shape_at l.scope.targets n) + 2)
      more = ap (λ (u : Shape). heap_words (s.objects ++ u ∷ []) s.workspaces) target_is ∙ (let e : heap_words (s.objects ++ target ∷ []) s.workspaces ≡ heap_words s.objects s.workspaces + (words target + 2) = omega (arith, objects_more s.objects target) in e)

      goes_short : m.limit - m.top < words (shape_at l.scope.targets n) + 2 → Goes ctx s items taking (c + 1)
      goes_short less = block.goes_short ctx s items k m c a shared place low (words target) row.part.amid.here.by.0 row.part.amid.here.by.2.0 row.part.amid.here.by.2.1 more (shared_cost ctx s m shared k _ _ _ _ _ row.then) less

      -- ---- with room
      module _ (room : words (shape_at l.scope.targets n) + 2 ≤ m.limit - m.top) where
        roomy : m.top + (words (shape_at l.scope.targets n) + 2) ≤ st.limit
        roomy = block.roomy ctx s items k m c a shared place low (words target) row.part.amid.here.by.0 row.part.amid.here.by.2.0 row.part.amid.here.by.2.1 room

        abbrev is_new : Root → Bool
        is_new r = same_root (Object o) r

        abbrev x : Home
        x = adopted ctx.home (Object (length s.objects)) (ctx.stack.limit - words (shape_at ctx.stack.frame.layout.scope.targets n)) (shape_at ctx.stack.frame.layout.scope.targets n)

        -- a root that lives isn't the new one
        old_root : (r : Root) → lives h r ≡ true → same_root (Object o) r ≡ false
        old_root (Global i j) e = refl
        old_root (Local i j) e = refl
        old_root (Object p) e = ne_eqb o p (λ same. let gone : is_there (h.shape (Object p)) ≡ false = ap is_there (shared.heap.born p ∙ ap (shape_at s.objects) (sym same) ∙ unborn s.objects) in cc)

        base_old : (r : Root) → same_root (Object o) r ≡ false → x.base r ≡ h.base r
        base_old r e = no (same_root (Object o) r) first (h.base r) e

        shape_old : (r : Root) → same_root (Object o) r ≡ false → x.shape r ≡ h.shape r
        shape_old r e = no (same_root (Object o) r) target (h.shape r) e

        base_new : x.base (Object o) ≡ first
        base_new = yes (same_root (Object o) (Object o)) first (h.base (Object o)) (same_root_refl (Object o))

        shape_new : x.shape (Object o) ≡ target
        shape_new = yes (same_root (Object o) (Object o)) target (h.shape (Object o)) (same_root_refl (Object o))

        beside : (i : ℕ) → (h.owner i ≡ Free st.base → ⊥) → (i < first) ⊎ ((first ≤ i) × (st.limit ≤ i))
        beside = block.beside ctx s items k m c a shared place low (words target) row.part.amid.here.by.0 row.part.amid.here.by.2.0 row.part.amid.here.by.2.1 room

        owner_beside : (i : ℕ) → (i < first) ⊎ ((first ≤ i) × (st.limit ≤ i)) → x.owner i ≡ h.owner i
        owner_beside i e = painted_beside h.owner first (first + words target) (λ a. Of (Object o)) i (⊎_elim (λ z. inl z) (λ g. inr (g.0, omega (arith, g.1, roomy))) e)

        -- ---- the block is cleared
        abbrev blank : List ℕ
        blank = cleared m.store (ctx.stack.limit - words (shape_at ctx.stack.frame.layout.scope.targets n)) ctx.stack.limit

        blank_beside : (i : ℕ) → (i < first) ⊎ ((first ≤ i) × (st.limit ≤ i)) → get_or blank i 0 ≡ get_or m.store i 0
        blank_beside = block.blank_beside ctx s items k m c a shared place low (words target) row.part.amid.here.by.0 row.part.amid.here.by.2.0 row.part.amid.here.by.2.1 room

        blank_there : (i : ℕ) → i < words target → get_or blank (first + i) 0 ≡ 0
        blank_there = block.blank_there ctx s items k m c a shared place low (words target) row.part.amid.here.by.0 row.part.amid.here.by.2.0 row.part.amid.here.by.2.1 room

        blank_long : length blank ≡ length m.store
        blank_long = block.blank_long ctx s items k m c a shared place low (words target) row.part.amid.here.by.0 row.part.amid.here.by.2.0 row.part.amid.here.by.2.1 room

        abbrev fresh : Cells
        fresh = stored s.cells (object_place (length s.objects)) (zeros_under (shape_at ctx.stack.frame.layout.scope.targets n))

        mem_blank : Mem x fresh blank
        mem_blank =
            mem_adopted h s.cells m.store blank shared.mem (Object o) first target (zeros_under target) (shared.heap.born o ∙ unborn s.objects) (omega (arith, roomy, shared.standing.high))
            (λ i from below. inr (st.base, shared.standing.room i (omega (arith, from, roomy)) (omega (arith, below, roomy))))
            (λ i e. blank_beside i (⊎_elim (λ z. inl z) (λ g. inr (g.0, omega (arith, g.1, roomy))) e))
            (λ q k is.
            let small : offset target q < words target = omega (arith, part_fits target q (ap is_there is), word_long (part_at target q) k is) in
            zero_is x k (zeros_under target q) (get_or blank (first + offset target q) 0) (ap zero_in is) (blank_there (offset target q) small))
            blank_long

        -- ---- and the pointer gets its address
        alive : lives h place.root ≡ true
        alive = place_lives h place (shape_of l.scope d) has.living has.there

        here_is : (x.base place.root ≡ h.base place.root) × (x.shape place.root ≡ h.shape place.root)
        here_is = (base_old place.root (old_root place.root alive), shape_old place.root (old_root place.root alive))

        address_is : address x place ≡ address h place
        address_is = omega (arith, here_is.0, ap (λ (z : Shape). offset z place.path) here_is.1)

        living : shape_there x place ≡ Word (OfPointer (Objects n))
        living = ap (λ (z : Shape). part_at z place.path) here_is.1 ∙ has.living ∙ row.part.amid.here.typed

        refers : Refers x (OfPointer (Objects n)) (ToObject o)
        refers = (ap is_there shape_new ∙ row.part.amid.here.there, shape_new ∙ ap (λ (ts : List Shape). shape_at ts n) shared.standing.known.targets)

        abbrev store : List ℕ
        store = set blank (address h place) (ctx.stack.limit - words (shape_at ctx.stack.frame.layout.scope.targets n))

        mem : Mem x (stored fresh place (alone (ToObject o))) store
        mem =
            subst (λ (w : ℕ). Mem x (stored fresh place (alone (ToObject o))) (set blank (address h place) w)) base_new
            (subst (λ (z : ℕ). Mem x (stored fresh place (alone (ToObject o))) (set blank z (x.base (Object o)))) address_is
            (mem_stored x fresh blank place (OfPointer (Objects n)) (ToObject o) mem_blank living refl refers))

        heap : IsHeap x.base x.shape x.workspaces (s.objects ++ target ∷ []) s.workspaces lower
        heap = record {
          born = λ p. born p (cases_eq o p);
          above = λ p there. above p there (cases_eq o p);
          apart = λ p q there where' same. apart p q there where' same (cases_eq o p) (cases_eq o q);
          known = shared.heap.known;
          clear = λ w less. omega (arith, shared.heap.clear w less, roomy);
          distinct = shared.heap.distinct;
          rest = omega (arith, objects_more s.objects target, shared.heap.rest, roomy);
        }
          where
            other : (p : ℕ) → (o ≡ p → ⊥) → same_root (Object o) (Object p) ≡ false
            other p d = ne_eqb o p d

            new_at : (p : ℕ) → o ≡ p → x.base (Object p) ≡ first
            new_at p e = ap (λ (i : ℕ). x.base (Object i)) (sym e) ∙ base_new

            there_old : (p : ℕ) → (o ≡ p → ⊥) → is_there (x.shape (Object p)) ≡ true → is_there (h.shape (Object p)) ≡ true
            there_old p d there = ap is_there (sym (shape_old (Object p) (other p d))) ∙ there

            born : (p : ℕ) → (o ≡ p) ⊎ (o ≡ p → ⊥) → x.shape (Object p) ≡ shape_at (s.objects ++ target ∷ []) p
            born p (inl e) = ap (λ (i : ℕ). x.shape (Object i)) (sym e) ∙ shape_new ∙ sym (last_shape s.objects target) ∙ ap (shape_at (s.objects ++ target ∷ [])) e
            born p (inr d) = shape_old (Object p) (other p d) ∙ shared.heap.born p ∙ sym (other_shape s.objects target p d)

            above : (p : ℕ) → is_there (x.shape (Object p)) ≡ true → (o ≡ p) ⊎ (o ≡ p → ⊥) → lower + 2 ≤ x.base (Object p)
            above p there (inl e) = omega (arith, new_at p e, roomy)
            above p there (inr d) = omega (arith, base_old (Object p) (other p d), shared.heap.above p (there_old p d there))

            apart : (p q : ℕ) → is_there (x.shape (Object p)) ≡ true → is_there (x.shape (Object q)) ≡ true → x.base (Object p) ≡ x.base (Object q) → (o ≡ p) ⊎ (o ≡ p → ⊥) → (o ≡ q) ⊎ (o ≡ q → ⊥) → p ≡ q
            apart p q one two same (inl e) (inl f) = sym e ∙ f
            apart p q one two same (inl e) (inr d) = absurd (omega (arith, same, new_at p e, base_old (Object q) (other q d), shared.heap.above q (there_old q d two), roomy))
            apart p q one two same (inr d) (inl f) = absurd (omega (arith, same, new_at q f, base_old (Object p) (other p d), shared.heap.above p (there_old p d one), roomy))
            apart p q one two same (inr d) (inr e) =
                shared.heap.apart p q (there_old p d one) (there_old q e two) (sym (base_old (Object p) (other p d)) ∙ same ∙ base_old (Object q) (other q e))

        goes_roomy : Goes ctx s items taking (c + 1)
        goes_roomy =
            block.goes_roomy ctx s items k m c a shared place low (words target) row.part.amid.here.by.0 row.part.amid.here.by.2.0 row.part.amid.here.by.2.1 room x (stored fresh place (alone (ToObject o))) (s.objects ++ target ∷ []) s.workspaces
            (record {
              base = λ r e. base_old r (old_root r e);
              shape = λ r e. shape_old r (old_root r e);
              listed = refl;
              spaces = extends_self h.workspaces;
              owner = owner_beside;
              shadow = λ i. refl;
              mem = mem;
              heap = heap;
              unborn = shared.unborn;
            })
            (ap (λ (u : Shape). made u place k now) target_is)
            (subst (λ (q : ℕ). Rows ctx k Quiet q [] c a) (sym row.part.amid.here.by.2.2) row.then)

      pub new_at_goes : Goes ctx s (Value (Places place) ∷ Fill (NewAt n) ∷ k) m (c + 32)
      new_at_goes =
          let r = row.part.amid.here in
          addressed ctx s items m shared (access_of l d) place (shape_of l.scope d) m.stack below has (omega (arith, ap length row.part.empty)) m.place r.start (c + 32) (c + 2) (rw row.part.amid.at r.address)
          (leads ctx s items m shared (Liw (words target)) r.start r.by.0 (address h place ∷ below) (words target ∷ address h place ∷ []) (c + 2) (c + 1) r.by.1
          (pushes (words target) r.by.0 (going m r.start (address h place ∷ below)) (omega (arith, ap length row.part.empty))
          ∙ ap (λ (z : List ℕ). let e : Event × State = (Went, going m r.by.0 (words target ∷ address h place ∷ z)) in e) row.part.empty)
          (⊎_elim (λ less. goes_short less) (λ more. goes_roomy more) (cases_lt (m.limit - m.top) (words target + 2)))
          (omega arith))
          (omega arith)
