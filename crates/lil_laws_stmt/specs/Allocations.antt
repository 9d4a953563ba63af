-- The rows of ALLOCATE and DEALLOCATE: a block is taken for a workspace, or the number of words goes, and the address becomes NIL.
use Rattle.std.proofs.Common.{◌≡◌, ℕ, zero, suc, ◌+◌, ◌-◌, ◌<◌, ◌≤◌, ◌⊎◌, inl, inr, Bool, true, false, cond, None, List, [], ◌∷◌, ◌++◌, length, get_or, set, refl, sym, ap, ◌∙◌, subst, ⊎_elim, arith}
use Rattle.std.specs.Prelude.{pos, negsuc}
use Rattle.std.proofs.lemmas.Bool.{cases_lt}
use Rattle.lil_base.specs.Words.{Cardinal}
use Rattle.lil_base.specs.declared.fault.TrapKind.TheVariants as trap
use Rattle.lil_resolved.specs.{Kinds.{Workspaces, Kind, OfWhole, OfPointer, nat_of, takes_value, Scalar, Number, ToWorkspace, Nil, within, scalar_word, ordinal_of, Word}, Resolved.{Designator, Expression, Allocate, shape_of}}
use Rattle.lil_meaning.specs.{Items.{Place, stored, alone, Scalars, Places, AllocateBy, AllocateAt, Do, Item, Value, Fill, Perform, Going, Workspace, Source, workspace_words, heap_words}, Steps.{next, trapped, allocated}, Need.chain_of}
use Rattle.lil_asm.specs.declared.instr.Instr.TheVariants.{Liw, Drp}
use Rattle.lil_mcode.specs.Table.{State, act, going}
use Rattle.lil_frames.specs.Words.{cleared}
use Rattle.lil_table.specs.Rows.{InstrsAt, OnTop, access_of, allocate_code, test_code}
use Rattle.lil_match.specs.{Homes.{Home, Extends, word_for, plain_word, takes_plain, address, Mem, mem_stored, Stays, Turns, mem_turned}, Costs.shared_cost, Goes.{IsHeap, Shared, Goes}, Waits.{Setting, frame_of, laid_out, Quiet, ValueOf, AtPlace, Around, Reach, Rows, Designates, placed, Waiting}, Orders.{instrs_order, expression_stands}}
use Rattle.lil_match.specs.Steps.{closed, operand_exact, pushes, located_goes}
use Rattle.lil_laws_place.specs.Codes.{inside, addressed, leads, tested, stored_goes}
use Rattle.lil_laws_stmt.specs.Painting.{own_free}
use Rattle.lil_laws_stmt.specs.Blocks as block

-- the word of a CARDINAL is its number
cardinal_word : (v : Scalar) → within (OfWhole Cardinal) v ≡ true → scalar_word v ≡ nat_of (ordinal_of v)
cardinal_word (Number (pos n)) e = refl
cardinal_word (Number (negsuc n)) e = cc
cardinal_word v e = cc

-- ---- one workspace more
workspaces_more : (ws : List Workspace) (w : Workspace) → workspace_words (ws ++ w ∷ []) ≡ workspace_words ws + (2 + w.size)
workspaces_more [] w = omega arith
workspaces_more (v ∷ ws) w = omega (arith, workspaces_more ws w)

one_longer : {A : Type 0} (xs : List A) (y : A) → length (xs ++ y ∷ []) ≡ suc (length xs)
one_longer [] y = refl
one_longer (x ∷ xs) y = ap suc (one_longer xs y)

last_address : (xs : List ℕ) (y : ℕ) → get_or (xs ++ y ∷ []) (length xs) 0 ≡ y
last_address [] y = refl
last_address (x ∷ xs) y = last_address xs y

other_address : (xs : List ℕ) (y w : ℕ) → w < length xs → get_or (xs ++ y ∷ []) w 0 ≡ get_or xs w 0
other_address [] y w less = absurd (omega (arith, less))
other_address (x ∷ xs) y zero less = refl
other_address (x ∷ xs) y (suc w) less = other_address xs y w (omega (arith, less))

extended : (xs : List ℕ) (y : ℕ) → Extends (xs ++ y ∷ []) xs
extended xs y w less = (omega (arith, less, one_longer xs y), other_address xs y w less)

module _ (ctx : Setting) where
  open ctx use {library, home as h, stack as st}
  open frame_of ctx use {own, piece}
  open laid_out ctx use {layout as l}

  module _ (s : Source) (k : List Item) (m : State) (c : ℕ) (a : Around) (shared : Shared ctx s m) where
    abbrev Rest : Reach
    Rest = Rows ctx k

    pub allocate_goes : (back : Bool) (d : Designator) (e : Expression) → Waiting ctx (Perform (Do (Allocate back d e))) Rest Quiet m.place m.stack c a → Goes ctx s (Perform (Do (Allocate back d e)) ∷ k) m (c + 32)
    allocate_goes back d e row =
        let r = row.part.here in
        located_goes ctx s k m c a shared (Perform (Do (Allocate back d e)) ∷ k) d (AllocateBy back e) refl (omega arith) r.found r.here (omega (arith, r.shallow, ap length row.part.empty))
        (record { part = placed ctx.stack.frame (Allocate back d e) a (λ p q r. r.found) m.place m.stack row.part; then = row.then })

    -- the place is there: its address, and then the number of words
    pub allocate_by_goes : (back : Bool) (e : Expression) (place : Place) (d : Designator) (below : List ℕ) → Designates ctx d place m.stack below
        → Waiting ctx (Fill (AllocateBy back e)) Rest (AtPlace d) m.place below c a → Goes ctx s (Value (Places place) ∷ Fill (AllocateBy back e) ∷ k) m (c + 32)
    allocate_by_goes back e place d below has row =
        let amid = row.part.amid in
        let r = amid.here in
        let items : List Item = Value (Places place) ∷ Fill (AllocateBy back e) ∷ k in
        let at : State = going m r.start (address h place ∷ below) in
        let value = expression_stands l piece e r.start r.value.middle r.value.value.value in
        let test = instrs_order piece _ r.value.middle r.middle r.value.test value.1 in
        let code = instrs_order piece (allocate_code back) r.middle amid.end r.by (omega (arith, test.0)) in
        addressed ctx s items m shared (access_of l d) place (shape_of l.scope d) m.stack below has (omega (arith, ap length row.part.empty)) m.place r.start (c + 32) c (rw amid.at r.address)
        (operand_exact ctx s k at c a shared items e (AllocateAt back place) refl (omega arith) r.value.middle r.value.value.value (omega (arith, r.value.value.shallow, ap length row.part.empty))
        (omega (arith, test.0, code.0, amid.within))
        (record {
          part = record {
            of = d;
            value = e;
            same = refl;
            amid = record { from = amid.from; end = amid.end; here = r; within = amid.within; at = refl };
            has = record { seen = has.seen; living = has.living ∙ r.typed; there = refl; at = ap (λ (x : List ℕ). address h place ∷ x) row.part.empty };
          };
          then = row.then;
        }))
        (omega arith)

    -- the number of words is there
    module _ (place : Place) (v : Scalar) (j : Kind) (fit : within j v ≡ true) (below : List ℕ) (is : m.stack ≡ word_for h v ∷ below) where
      -- the test of the number
      takes : (back : Bool) → Waiting ctx (Fill (AllocateAt back place)) Rest (ValueOf j) m.place below c a → takes_value (OfWhole Cardinal) j ≡ true
      takes back row = ap (takes_value (OfWhole Cardinal)) row.part.same ∙ row.part.amid.here.takes

      test : (back : Bool) (row : Waiting ctx (Fill (AllocateAt back place)) Rest (ValueOf j) m.place below c a) → InstrsAt piece (test_code (OfWhole Cardinal) j) m.place row.part.amid.here.middle
      test back row = rw (row.part.amid.at, row.part.same) row.part.amid.here.value.test

      -- DEALLOCATE drops it
      module _ (row : Waiting ctx (Fill (AllocateAt true place)) Rest (ValueOf j) m.place below c a) where
        abbrev returning : List Item
        returning = Value (Scalars v) ∷ Fill (AllocateAt true place) ∷ k

        abbrev back_by : Bool → Source
        back_by b = cond b (allocated true (nat_of (ordinal_of v)) place k (record s { items = returning; phase = Going })) (trapped library (record s { items = returning; phase = Going }) trap.Range)

        word_back : m.stack ≡ scalar_word v ∷ below
        word_back = is ∙ ap (λ (w : ℕ). w ∷ below) (plain_word h j v (takes_plain (OfWhole Cardinal) j (takes true row)).1 fit)

        given_back : within (OfWhole Cardinal) v ≡ true → Goes ctx s returning (going m row.part.amid.here.middle m.stack) (c + 3)
        given_back one =
            let r = row.part.amid.here in
            let has = row.part.has in
            leads ctx s returning m shared Drp r.middle r.by.0 m.stack (address h place ∷ []) (c + 3) (c + 2) r.by.1
            (ap (λ (x : List ℕ). act Drp r.by.0 own (going m r.middle x)) (word_back ∙ ap (λ (x : List ℕ). scalar_word v ∷ x) has.at))
            (leads ctx s returning m shared (Liw 0) r.by.0 r.by.2.0 (address h place ∷ []) (0 ∷ address h place ∷ []) (c + 2) (c + 1) r.by.2.1
            (pushes 0 r.by.2.0 (going m r.by.0 (address h place ∷ [])) (omega arith))
            (stored_goes ctx s returning m shared r.by.2.0 (0 ∷ address h place ∷ []) OnTop place (OfPointer Workspaces) (address h place ∷ [])
            (record { seen = has.seen; living = has.living; there = has.there; at = refl })
            refl Nil refl tt refl r.by.2.2.0 r.by.2.2.1 k (ap back_by one) c (c + 1) a
            (subst (λ (q : ℕ). Rows ctx k Quiet q [] c a) (sym r.by.2.2.2) row.then)
            (omega arith))
            (omega arith))
            (omega arith)

        pub deallocate_at_goes : Goes ctx s (Value (Scalars v) ∷ Fill (AllocateAt true place) ∷ k) m (c + 32)
        deallocate_at_goes =
            tested ctx s returning m shared m.place m.stack (OfWhole Cardinal) j v (takes true row) fit below word_back
            row.part.amid.here.middle (c + 32) (c + 3) (test true row) (closed ctx k _ _ _ _ _ row.then)
            (λ out. ap back_by out)
            given_back
            (omega arith)

      -- ALLOCATE takes a block
      module _ (row : Waiting ctx (Fill (AllocateAt false place)) Rest (ValueOf j) m.place below c a) where
        abbrev items : List Item
        items = Value (Scalars v) ∷ Fill (AllocateAt false place) ∷ k

        abbrev now : Source
        now = record s { items = items; phase = Going }

        -- how many words
        abbrev n : ℕ
        n = nat_of (ordinal_of v)

        abbrev workspaces : List Workspace
        workspaces = s.workspaces ++ record { size = nat_of (ordinal_of v); carries = None } ∷ []

        abbrev takes_by : Bool → Source
        takes_by b = cond b (allocated false (nat_of (ordinal_of v)) place k now) (trapped library now trap.Range)

        word : m.stack ≡ scalar_word v ∷ below
        word = is ∙ ap (λ (w : ℕ). w ∷ below) (plain_word h j v (takes_plain (OfWhole Cardinal) j (takes false row)).1 fit)

        low : address h place + 1 ≤ 65535
        low = inside ctx s m shared OnTop place (Word (OfPointer Workspaces)) below [] row.part.has

        module _ (one : within (OfWhole Cardinal) v ≡ true) where
          more : workspace_words workspaces ≡ workspace_words s.workspaces + (2 + n)
          more = workspaces_more s.workspaces (record { size = n; carries = None })

          becomes : next library now ≡ allocated false n place k now
          becomes = ap takes_by one

          abbrev taking : State
          taking = going m row.part.amid.here.middle (nat_of (ordinal_of v) ∷ address h place ∷ [])

          goes_short : m.limit - m.top < n + 2 → Goes ctx s items taking (c + 1)
          goes_short less =
              block.goes_short ctx s items k m c a shared place low n row.part.amid.here.middle row.part.amid.here.by.0 row.part.amid.here.by.1
              (ap (λ (t : Source). heap_words t.objects t.workspaces) becomes ∙ (let e : heap_words s.objects workspaces ≡ heap_words s.objects s.workspaces + (n + 2) = omega (arith, more) in e))
              (let same = ap (chain_of library) becomes in omega (arith, same, shared_cost ctx s m shared k _ _ _ _ _ row.then))
              less

          module _ (room : n + 2 ≤ m.limit - m.top) where
            abbrev first : ℕ
            first = ctx.stack.limit - nat_of (ordinal_of v)

            abbrev lower : ℕ
            lower = ctx.stack.limit - (nat_of (ordinal_of v) + 2)

            abbrev x : Home
            x = record (ctx.home) { workspaces = ctx.home.workspaces ++ (ctx.stack.limit - nat_of (ordinal_of v)) ∷ [] }

            roomy : m.top + (n + 2) ≤ st.limit
            roomy = block.roomy ctx s items k m c a shared place low n row.part.amid.here.middle row.part.amid.here.by.0 row.part.amid.here.by.1 room

            abbrev blank : List ℕ
            blank = cleared m.store (ctx.stack.limit - nat_of (ordinal_of v)) ctx.stack.limit

            blank_beside : (i : ℕ) → (i < first) ⊎ ((first ≤ i) × (st.limit ≤ i)) → get_or blank i 0 ≡ get_or m.store i 0
            blank_beside = block.blank_beside ctx s items k m c a shared place low n row.part.amid.here.middle row.part.amid.here.by.0 row.part.amid.here.by.1 room

            -- the block's words are nobody's
            mem_blank : Mem x s.cells blank
            mem_blank =
                mem_turned h m.store blank h.owner h.shadow x.workspaces (λ i. by i (cases_lt i first) (cases_lt i st.limit)) s.cells shared.mem (extended h.workspaces first)
                (block.blank_long ctx s items k m c a shared place low n row.part.amid.here.middle row.part.amid.here.by.0 row.part.amid.here.by.1 room)
              where
                by : (i : ℕ) → (i < first) ⊎ (first ≤ i) → (i < st.limit) ⊎ (st.limit ≤ i) → Stays h x m.store blank i ⊎ Turns h x blank i
                by i (inl z) e = inl (record { owner = refl; shadow = refl; word = blank_beside i (inl z) })
                by i (inr g) (inr e) = inl (record { owner = refl; shadow = refl; word = blank_beside i (inr (g, e)) })
                by i (inr g) (inl e) =
                    let free = shared.standing.room i (omega (arith, g, roomy)) e in
                    inr (record { before = inr (st.base, free); after = inr (st.base, free); word = λ own. absurd (own_free st.base (sym own ∙ free)) })

            -- the workspace's address
            new_word : get_or x.workspaces (length s.workspaces) 0 ≡ first
            new_word = ap (λ (w : ℕ). get_or x.workspaces w 0) (sym shared.heap.known) ∙ last_address h.workspaces first

            new_lives : length s.workspaces < length x.workspaces
            new_lives = omega (arith, shared.heap.known, one_longer h.workspaces first)

            mem : Mem x (stored s.cells place (alone (ToWorkspace (length s.workspaces)))) (set blank (address h place) first)
            mem =
                subst (λ (w : ℕ). Mem x (stored s.cells place (alone (ToWorkspace (length s.workspaces)))) (set blank (address h place) w)) new_word
                (mem_stored x s.cells blank place (OfPointer Workspaces) (ToWorkspace (length s.workspaces)) mem_blank row.part.has.living refl new_lives)

            heap : IsHeap x.base x.shape x.workspaces s.objects workspaces lower
            heap = record {
              born = shared.heap.born;
              above = λ o there. omega (arith, shared.heap.above o there, roomy);
              apart = shared.heap.apart;
              known = one_longer h.workspaces first ∙ ap suc shared.heap.known ∙ sym (one_longer s.workspaces (record { size = n; carries = None }));
              clear = λ w less. clear w (cases_lt w (length h.workspaces)) less;
              distinct = λ w u less small. distinct w u less small (cases_lt w (length h.workspaces)) (cases_lt u (length h.workspaces));
              rest = omega (arith, more, shared.heap.rest, roomy);
            }
              where
                -- the last one is the new one
                last : (w : ℕ) → length h.workspaces ≤ w → w < length x.workspaces → length h.workspaces ≡ w
                last w more less = omega (arith, more, less, one_longer h.workspaces first)

                last_at : (w : ℕ) → length h.workspaces ≡ w → get_or x.workspaces w 0 ≡ first
                last_at w e = ap (λ (i : ℕ). get_or x.workspaces i 0) (sym e) ∙ last_address h.workspaces first

                clear : (w : ℕ) → (w < length h.workspaces) ⊎ (length h.workspaces ≤ w) → w < length x.workspaces → lower + 2 ≤ get_or x.workspaces w 0
                clear w (inl old) less = omega (arith, other_address h.workspaces first w old, shared.heap.clear w old, roomy)
                clear w (inr new) less = omega (arith, last_at w (last w new less), roomy)

                distinct : (w u : ℕ) → w < length x.workspaces → u < length x.workspaces → (w < length h.workspaces) ⊎ (length h.workspaces ≤ w) → (u < length h.workspaces) ⊎ (length h.workspaces ≤ u)
                    → get_or x.workspaces w 0 ≡ get_or x.workspaces u 0 → w ≡ u
                distinct w u less small (inl old) (inl past) same =
                    shared.heap.distinct w u old past (sym (other_address h.workspaces first w old) ∙ same ∙ other_address h.workspaces first u past)
                distinct w u less small (inl old) (inr new) same =
                    absurd (omega (arith, same, other_address h.workspaces first w old, shared.heap.clear w old, last_at u (last u new small), roomy))
                distinct w u less small (inr new) (inl past) same =
                    absurd (omega (arith, same, other_address h.workspaces first u past, shared.heap.clear u past, last_at w (last w new less), roomy))
                distinct w u less small (inr new) (inr also) same = sym (last w new less) ∙ last u also small

            goes_roomy : Goes ctx s items taking (c + 1)
            goes_roomy =
                block.goes_roomy ctx s items k m c a shared place low n row.part.amid.here.middle row.part.amid.here.by.0 row.part.amid.here.by.1 room x (stored s.cells place (alone (ToWorkspace (length s.workspaces)))) s.objects workspaces
                (record {
                  base = λ r e. refl;
                  shape = λ r e. refl;
                  listed = refl;
                  spaces = extended h.workspaces first;
                  owner = λ i e. refl;
                  shadow = λ i. refl;
                  mem = mem;
                  heap = heap;
                  unborn = shared.unborn;
                })
                becomes
                (subst (λ (q : ℕ). Rows ctx k Quiet q [] c a) (sym row.part.amid.here.by.2) row.then)

          taken : Goes ctx s items (going m row.part.amid.here.middle m.stack) (c + 1)
          taken =
              let w : m.stack ≡ n ∷ address h place ∷ [] = word ∙ ap (λ (z : ℕ). z ∷ below) (cardinal_word v one) ∙ ap (λ (z : List ℕ). n ∷ z) row.part.has.at in
              subst (λ (z : List ℕ). Goes ctx s items (going m row.part.amid.here.middle z) (c + 1)) (sym w)
              (⊎_elim (λ less. goes_short less) (λ more. goes_roomy more) (cases_lt (m.limit - m.top) (n + 2)))

        pub allocate_at_goes : Goes ctx s (Value (Scalars v) ∷ Fill (AllocateAt false place) ∷ k) m (c + 32)
        allocate_at_goes =
            tested ctx s items m shared m.place m.stack (OfWhole Cardinal) j v (takes false row) fit below word
            row.part.amid.here.middle (c + 32) (c + 1) (test false row) (closed ctx k _ _ _ _ _ row.then)
            (λ out. ap takes_by out)
            taken
            (omega arith)
