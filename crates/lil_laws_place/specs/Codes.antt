-- What the instructions do by which code has a place; a value that is tested, and one that is stored.
use Rattle.lil_resolved.specs.Kinds.{OfPointer, OfProcedure, stores_value, same_pointer, same_procedures}
use Rattle.lil_match.specs.Homes.{plain_word, plain_refers, takes_plain}
use Rattle.lil_match.specs.Ranges.{pointers_same, procedures_same}
use Rattle.std.specs.Prelude.{◌||◌}
use Rattle.std.proofs.Common.{◌≡◌, ℕ, zero, suc, Some, ◌+◌, ◌<◌, ◌≤◌, Bool, true, false, cond, List, [], ◌∷◌, set, refl, sym, ap, ◌∙◌, subst, arith, ◌-◌, ◌++◌, length, get_or, take, drop}
use Rattle.lil_base.specs.declared.fault.TrapKind.{TrapKind}
use Rattle.lil_base.specs.declared.fault.TrapKind.TheVariants as trap
use Rattle.lil_resolved.specs.Kinds.{Kind, is_base, takes_value, compared_as, covers, shared, Scalar, within, scalar_word, ordinal_of, Word, OfCharacter, Shape, Row, words, part_at, offset, is_there}
use Rattle.lil_meaning.specs.{Items.{Place, stored, alone, Item, Going, Source, part_of}, Steps.{next, current, trapped}}
use Rattle.lil_mcode.specs.{declared.machine.Event.{Event, TheVariants.{Went, Trap}}, Table.{State, mstep, going, act, on_one, on_two, double_row, frame_out, load_row, address_row, push_row, fetch_row, put_row, store_row, further_row}}
use Rattle.lil_table.specs.Rows.{IsAt, InstrsAt, range_code, test_code, Access, readied, store_code, InData, InFrame, OnTop, Behind, framed, further, address_code, load_code, ready_code, held, again_code, held_twice, under_code}
use Rattle.lil_match.specs.{Goes.{Shared, Goes, Lands}, Running.{Run, running, react}, Parts.yes, Parts.part_fits, Climbs.{first_own, shown_out}, Homes.{Own, word_for, Refers, address, Mem, mem_stored, shape_there, place_inside, part_there}, Waits.{Setting, frame_of, Quiet, Around, Rows, HasPlace, doubled}, Ranges.{has, fits_has, taken_where, takes_base}, Tests.{covered, test_act}}
use Rattle.lil_match.specs.{Steps.{both_trap, advances, at_step, rows_ahead, shared_with, goes_one_within, goes_after, goes_more, pushes}, Splices.block_alone}
use Rattle.std.specs.Prelude.{slice_get}
use Rattle.std.proofs.lemmas.Bool.{lt-ltb, le-leb, and_from}
use Rattle.lil_asm.specs.declared.instr.Instr.{Instr, TheVariants.{Dup, Swp, Lgw, Lag, Lal, Lan, Ldi, Adf, Mov, Mvz}}
use Rattle.lil_frames.specs.Words.{spliced, moved}

top_behind : (o : ℕ) → OnTop ≡ Behind o → ⊥
top_behind o e = cc

module _ (ctx : Setting) where
  open ctx use {home as h}
  open frame_of ctx use {own, piece}

  -- the address of a place is one of the store
  pub inside : (s : Source) (m : State) → Shared ctx s m → (b : Access) (place : Place) (t : Shape) (stack below : List ℕ) → HasPlace ctx b place t stack below → address h place + words t ≤ 65535
  inside s m shared b place t stack below has =
      omega (arith, place_inside h s.cells m.store place shared.mem (ap is_there has.living ∙ has.there), ap words has.living)

  -- ---- in the frame so many static links out
  pub frame_at : (s : Source) (m : State) → Shared ctx s m → (n first : ℕ) → slice_get ctx.stack.frame.display n ≡ Some first → frame_out m.store m.frame n ≡ first
  frame_at s m shared n first shown =
      ap (λ (f : ℕ). frame_out m.store f n) shared.standing.frame_is
      ∙ shown_out h.shadow ctx.activations m.store ctx.stack.frame ctx.stack.callers shared.standing.links
      (λ g among. shared.mem.kept g.at (first_own h.owner ctx.stack.base m.top ctx.stack.frame ctx.stack.callers shared.standing.stands g among)) n first shown

  pub frame_load : (n o q : ℕ) (m : State) → act (load_code (InFrame n o)) q own m ≡ load_row (frame_out m.store m.frame n + o) q m
  frame_load zero o q m = refl
  frame_load (suc n) o q m = refl

  -- one of the machine's own words in that frame is loaded
  pub frame_word : (s : Source) (m : State) → Shared ctx s m → (n o first w : ℕ) → slice_get ctx.stack.frame.display n ≡ Some first → h.owner (first + o) ≡ Own → h.shadow (first + o) ≡ w → first + o ≤ 65535 → (p q : ℕ) (stack : List ℕ) → length stack < 16
      → act (load_code (InFrame n (framed o))) q own (going m p stack) ≡ (Went, going m q (w ∷ stack))
  frame_word s m shared n o first w shown its word low p q stack room =
      let exact : framed o ≡ o = omega (arith, low) in
      frame_load n (framed o) q (going m p stack)
      ∙ ap (λ (b : ℕ). load_row b q (going m p stack)) (let e : frame_out m.store m.frame n + framed o ≡ first + o = omega (arith, frame_at s m shared n first shown, exact) in e)
      ∙ yes _ _ _ (lt-ltb (first + o) 65536 (omega (arith, low)))
      ∙ ap (λ (z : ℕ). push_row z q (going m p stack)) (shared.mem.kept (first + o) its ∙ word)
      ∙ pushes w q (going m p stack) room

  frame_store : (n o q : ℕ) (m : State) → act (store_code (InFrame n o)) q own m ≡ on_one m m.stack (store_row (frame_out m.store m.frame n + o) q m)
  frame_store zero o q m = refl
  frame_store (suc n) o q m = refl

  -- the word that lies there is loaded
  pub loads : (s : Source) (m : State) → Shared ctx s m → (b : Access) (place : Place) (k : Kind) (below : List ℕ) → HasPlace ctx b place (Word k) m.stack below → length below + 1 ≤ 16 → (q : ℕ)
      → act (load_code b) q own m ≡ (Went, going m q (get_or m.store (address h place) 0 ∷ below))
  loads s m shared (InData o) place k below has room q =
      let low = inside s m shared (InData o) place (Word k) m.stack below has in
      yes _ _ _ (lt-ltb (own.base + o) 65536 (omega (arith, low, has.at.0)))
      ∙ ap (λ (a : ℕ). push_row (get_or m.store a 0) q m) (sym has.at.0)
      ∙ pushes (get_or m.store (address h place) 0) q m (omega (arith, room, ap length has.at.1))
      ∙ ap (λ (x : List ℕ). (Went, going m q (get_or m.store (address h place) 0 ∷ x))) has.at.1
  loads s m shared (InFrame n o) place k below has room q =
      let low = inside s m shared (InFrame n o) place (Word k) m.stack below has in
      let at : frame_out m.store m.frame n + o ≡ address h place = ap (λ (f : ℕ). f + o) (frame_at s m shared n has.at.0 has.at.1) ∙ sym has.at.2 in
      frame_load n o q m
      ∙ ap (λ (a : ℕ). load_row a q m) at
      ∙ yes _ _ _ (lt-ltb (address h place) 65536 (omega (arith, low)))
      ∙ pushes (get_or m.store (address h place) 0) q m (omega (arith, room, ap length has.at.3))
      ∙ ap (λ (x : List ℕ). (Went, going m q (get_or m.store (address h place) 0 ∷ x))) has.at.3
  loads s m shared OnTop place k below has room q =
      let low = inside s m shared OnTop place (Word k) m.stack below has in
      let same : address h place + 0 ≡ address h place = omega arith in
      ap (λ (x : List ℕ). on_one m x (fetch_row 0 q m)) has.at
      ∙ yes _ _ _ (lt-ltb (address h place + 0) 65536 (omega (arith, low)))
      ∙ ap (λ (a : ℕ). (Went, going m q (get_or m.store a 0 ∷ below))) same
  loads s m shared (Behind o) place k below has room q =
      let low = inside s m shared (Behind o) place (Word k) m.stack below has in
      ap (λ (x : List ℕ). on_one m x (fetch_row o q m)) has.at.2
      ∙ yes _ _ _ (lt-ltb (has.at.0 + o) 65536 (omega (arith, low, has.at.1)))
      ∙ ap (λ (a : ℕ). (Went, going m q (get_or m.store a 0 ∷ below))) (sym has.at.1)

  -- a word is stored there, where the place is ready for it
  pub puts : (s : Source) (m : State) → Shared ctx s m → (b : Access) (place : Place) (k : Kind) (under : List ℕ) → HasPlace ctx b place (Word k) under [] → readied b ≡ b → (w : ℕ) → m.stack ≡ w ∷ under → (q : ℕ)
      → act (store_code b) q own m ≡ (Went, record m { place = q; stack = []; store = set m.store (address h place) w })
  puts s m shared (InData o) place k under has ready w is q =
      let low = inside s m shared (InData o) place (Word k) under [] has in
      ap (λ (x : List ℕ). on_one m x (store_row (own.base + o) q m)) is
      ∙ yes _ _ _ (lt-ltb (own.base + o) 65536 (omega (arith, low, has.at.0)))
      ∙ ap (λ (a : ℕ). (Went, record m { place = q; stack = under; store = set m.store a w })) (sym has.at.0)
      ∙ ap (λ (x : List ℕ). (Went, record m { place = q; stack = x; store = set m.store (address h place) w })) has.at.1
  puts s m shared (InFrame n o) place k under has ready w is q =
      let low = inside s m shared (InFrame n o) place (Word k) under [] has in
      let at : frame_out m.store m.frame n + o ≡ address h place = ap (λ (f : ℕ). f + o) (frame_at s m shared n has.at.0 has.at.1) ∙ sym has.at.2 in
      frame_store n o q m
      ∙ ap (λ (a : ℕ). on_one m m.stack (store_row a q m)) at
      ∙ ap (λ (x : List ℕ). on_one m x (store_row (address h place) q m)) is
      ∙ yes _ _ _ (lt-ltb (address h place) 65536 (omega (arith, low)))
      ∙ ap (λ (x : List ℕ). (Went, record m { place = q; stack = x; store = set m.store (address h place) w })) has.at.3
  puts s m shared OnTop place k under has ready w is q =
      let low = inside s m shared OnTop place (Word k) under [] has in
      ap (λ (x : List ℕ). on_two m x (put_row q m)) (is ∙ ap (λ (x : List ℕ). w ∷ x) has.at)
      ∙ yes _ _ _ (lt-ltb (address h place) 65536 (omega (arith, low)))
  puts s m shared (Behind o) place k under has ready w is q = absurd (top_behind o ready)

  -- a part of a place
  pub part_has : (s : Source) (m : State) → Shared ctx s m → (b : Access) (place : Place) (t : Shape) (stack below : List ℕ) → HasPlace ctx b place t stack below → (x : ℕ) → is_there (part_at t (x ∷ [])) ≡ true
      → HasPlace ctx (further (offset t (x ∷ [])) b) (part_of place x) (part_at t (x ∷ [])) stack below
  part_has s m shared b place t stack below has x there =
      let part = part_there h place x (ap is_there has.living ∙ has.there) in
      let at : address h (part_of place x) ≡ address h place + offset t (x ∷ []) = omega (arith, part.1, ap (λ (z : Shape). offset z (x ∷ [])) has.living) in
      let living : shape_there h (part_of place x) ≡ part_at t (x ∷ []) = part.0 ∙ ap (λ (z : Shape). part_at z (x ∷ [])) has.living in
      by b has at living
    where
      by : (b : Access) → HasPlace ctx b place t stack below → address h (part_of place x) ≡ address h place + offset t (x ∷ []) → shape_there h (part_of place x) ≡ part_at t (x ∷ [])
          → HasPlace ctx (further (offset t (x ∷ [])) b) (part_of place x) (part_at t (x ∷ [])) stack below
      by (InData o) has at living = record { seen = has.seen; living = living; there = there; at = (omega (arith, at, has.at.0), has.at.1) }
      by (InFrame n o) has at living =
          let low = inside s m shared (InFrame n o) place t stack below has in
          let more = part_fits t (x ∷ []) there in
          let exact : framed (o + offset t (x ∷ [])) ≡ o + offset t (x ∷ []) = omega (arith, low, has.at.2, more) in
          record { seen = has.seen; living = living; there = there; at = (has.at.0, has.at.1, omega (arith, at, has.at.2, exact), has.at.3) }
      by OnTop has at living = record { seen = has.seen; living = living; there = there; at = (address h place, at, has.at) }
      by (Behind o) has at living = record { seen = has.seen; living = living; there = there; at = (has.at.0, omega (arith, at, has.at.1), has.at.2) }

  -- an instruction that changes the place and the expression stack alone
  pub leads : (s : Source) (items : List Item) (m : State) → Shared ctx s m → (i : Instr) (p q : ℕ) (stack to : List ℕ) (budget rest : ℕ) → IsAt piece p i q
      → act i q own (going m p stack) ≡ (Went, going m q to) → Goes ctx s items (going m q to) rest → rest + 1 ≤ budget → Goes ctx s items (going m p stack) budget
  leads s items m shared i p q stack to budget rest at row goes less =
      goes_after ctx s items (going m p stack) (going m q to) budget rest (advances (going m p stack) s.world _ (at_step ctx (going m p stack) shared.program i q at ∙ row)) goes less

  frame_address : (s : Source) (m : State) → Shared ctx s m → (n o : ℕ) (place : Place) (t : Shape) (stack below : List ℕ) → HasPlace ctx (InFrame n o) place t stack below → length below + 1 ≤ 16 → (p q : ℕ)
      → address_row (frame_out m.store m.frame n + o) q (going m p stack) ≡ (Went, going m q (address h place ∷ below))
  frame_address s m shared n o place t stack below has room p q =
      let low = inside s m shared (InFrame n o) place t stack below has in
      ap (λ (a : ℕ). address_row a q (going m p stack)) (ap (λ (f : ℕ). f + o) (frame_at s m shared n has.at.0 has.at.1) ∙ sym has.at.2)
      ∙ yes _ _ _ (lt-ltb (address h place) 65536 (omega (arith, low)))
      ∙ pushes (address h place) q (going m p stack) (omega (arith, room, ap length has.at.3))
      ∙ ap (λ (x : List ℕ). (Went, going m q (address h place ∷ x))) has.at.3

  -- the address of a place comes to the expression stack
  pub addressed : (s : Source) (items : List Item) (m : State) → Shared ctx s m → (b : Access) (place : Place) (t : Shape) (stack below : List ℕ) → HasPlace ctx b place t stack below → length below + 1 ≤ 16
      → (p q budget rest : ℕ) → InstrsAt piece (address_code b) p q → Goes ctx s items (going m q (address h place ∷ below)) rest → rest + 1 ≤ budget → Goes ctx s items (going m p stack) budget
  addressed s items m shared (InData o) place t stack below has room p q budget rest at goes less =
      let low = inside s m shared (InData o) place t stack below has in
      leads s items m shared (Lag o) p at.0 stack (address h place ∷ below) budget rest at.1
      (yes _ _ _ (lt-ltb (own.base + o) 65536 (omega (arith, low, has.at.0)))
      ∙ pushes (own.base + o) at.0 (going m p stack) (omega (arith, room, ap length has.at.1))
      ∙ ap (λ (a : ℕ). (Went, going m at.0 (a ∷ stack))) (sym has.at.0)
      ∙ ap (λ (x : List ℕ). (Went, going m at.0 (address h place ∷ x))) has.at.1)
      (subst (λ (x : ℕ). Goes ctx s items (going m x (address h place ∷ below)) rest) (sym at.2) goes)
      less
  addressed s items m shared (InFrame zero o) place t stack below has room p q budget rest at goes less =
      leads s items m shared (Lal o) p at.0 stack (address h place ∷ below) budget rest at.1
      (frame_address s m shared zero o place t stack below has room p at.0)
      (subst (λ (x : ℕ). Goes ctx s items (going m x (address h place ∷ below)) rest) (sym at.2) goes)
      less
  addressed s items m shared (InFrame (suc n) o) place t stack below has room p q budget rest at goes less =
      leads s items m shared (Lan (suc n) o) p at.0 stack (address h place ∷ below) budget rest at.1
      (frame_address s m shared (suc n) o place t stack below has room p at.0)
      (subst (λ (x : ℕ). Goes ctx s items (going m x (address h place ∷ below)) rest) (sym at.2) goes)
      less
  addressed s items m shared OnTop place t stack below has room p q budget rest at goes less =
      goes_more ctx s items (going m p stack) rest budget
      (subst (λ (x : ℕ). Goes ctx s items (going m x stack) rest) (sym at) (subst (λ (x : List ℕ). Goes ctx s items (going m q x) rest) (sym has.at) goes))
      (omega (arith, less))
  addressed s items m shared (Behind o) place t stack below has room p q budget rest at goes less =
      let low = inside s m shared (Behind o) place t stack below has in
      leads s items m shared (Adf o) p at.0 stack (address h place ∷ below) budget rest at.1
      (ap (λ (x : List ℕ). on_one (going m p stack) x (further_row o at.0 (going m p stack))) has.at.2
      ∙ yes _ _ _ (lt-ltb (has.at.0 + o) 65536 (omega (arith, low, has.at.1)))
      ∙ ap (λ (a : ℕ). (Went, going m at.0 (a ∷ below))) (sym has.at.1))
      (subst (λ (x : ℕ). Goes ctx s items (going m x (address h place ∷ below)) rest) (sym at.2) goes)
      less

  -- as many words as lie at a place are copied to another of the same shape
  pub copied : (s : Source) (m : State) → Shared ctx s m → (to from : Place) (t : Shape) → shape_there h to ≡ t → shape_there h from ≡ t → is_there t ≡ true → (p q : ℕ)
      → let here : State = going m p (address h from ∷ address h to ∷ []) in
      act (Mov (words t)) q own here ≡ (Went, record m { place = q; stack = []; store = spliced m.store (address h to) (take (words t) (drop (address h from) m.store)) })
  copied s m shared to from t living source there p q =
      let low : address h to + words t ≤ 65535 = omega (arith, place_inside h s.cells m.store to shared.mem (ap is_there living ∙ there), ap words living) in
      let high : address h from + words t ≤ 65535 = omega (arith, place_inside h s.cells m.store from shared.mem (ap is_there source ∙ there), ap words source) in
      yes _ _ _ (and_from _ _ (le-leb (address h from + words t) 65536 (omega (arith, high))) (le-leb (address h to + (words t + 0)) 65536 (omega (arith, low))))
      ∙ ap (λ (ws : List ℕ). let r : Event × State = (Went, record m { place = q; stack = []; store = spliced m.store (address h to) ws }) in r) (block_alone m.store (address h from) (words t))

  -- a string comes to an array of as many characters or more, with zeros behind it to the array's end
  pub written : (s : Source) (m : State) → Shared ctx s m → (to : Place) (count : ℕ) (cs : List ℕ) → shape_there h to ≡ Row count (Word OfCharacter) → length cs ≤ count → (from : ℕ)
      → from + length cs ≤ 65535 → (p q : ℕ)
      → let here : State = going m p (from ∷ address h to ∷ []) in
      act (Mvz (length cs) (count - length cs)) q own here
      ≡ (Went, record m { place = q; stack = []; store = spliced m.store (address h to) (moved m.store from (length cs) (count - length cs)) })
  written s m shared to count cs living fits from low p q =
      let high : address h to + words (Row count (Word OfCharacter)) ≤ 65535 = omega (arith, place_inside h s.cells m.store to shared.mem (ap is_there living), ap words living) in
      yes _ _ _ (and_from _ _ (le-leb (from + length cs) 65536 (omega (arith, low))) (le-leb (address h to + (length cs + (count - length cs))) 65536 (omega (arith, high, fits))))

  -- a place is made ready for a store
  pub made_ready : (s : Source) (items : List Item) (m : State) → Shared ctx s m → (b : Access) (place : Place) (t : Shape) (stack below : List ℕ) → HasPlace ctx b place t stack below
      → (p q budget rest : ℕ) → InstrsAt piece (ready_code b) p q → ((under : List ℕ) → HasPlace ctx (readied b) place t under below → Goes ctx s items (going m q under) rest) → rest + 1 ≤ budget
      → Goes ctx s items (going m p stack) budget
  made_ready s items m shared (InData o) place t stack below has p q budget rest at goes less =
      goes_more ctx s items (going m p stack) rest budget (subst (λ (x : ℕ). Goes ctx s items (going m x stack) rest) (sym at) (goes stack has)) (omega (arith, less))
  made_ready s items m shared (InFrame n o) place t stack below has p q budget rest at goes less =
      goes_more ctx s items (going m p stack) rest budget (subst (λ (x : ℕ). Goes ctx s items (going m x stack) rest) (sym at) (goes stack has)) (omega (arith, less))
  made_ready s items m shared OnTop place t stack below has p q budget rest at goes less =
      goes_more ctx s items (going m p stack) rest budget (subst (λ (x : ℕ). Goes ctx s items (going m x stack) rest) (sym at) (goes stack has)) (omega (arith, less))
  made_ready s items m shared (Behind o) place t stack below has p q budget rest at goes less =
      let low = inside s m shared (Behind o) place t stack below has in
      leads s items m shared (Adf o) p at.0 stack (address h place ∷ below) budget rest at.1
      (ap (λ (x : List ℕ). on_one (going m p stack) x (further_row o at.0 (going m p stack))) has.at.2
      ∙ yes _ _ _ (lt-ltb (has.at.0 + o) 65536 (omega (arith, low, has.at.1)))
      ∙ ap (λ (a : ℕ). (Went, going m at.0 (a ∷ below))) (sym has.at.1))
      (subst (λ (x : ℕ). Goes ctx s items (going m x (address h place ∷ below)) rest) (sym at.2)
      (goes (address h place ∷ below) (record { seen = has.seen; living = has.living; there = has.there; at = refl })))
      less

  -- a place that is ready is as it is when it is made ready once more
  pub readied_twice : (b : Access) → readied (readied b) ≡ readied b
  readied_twice (InData o) = refl
  readied_twice (InFrame n o) = refl
  readied_twice OnTop = refl
  readied_twice (Behind o) = refl

  -- the words that a place takes
  pub held_words : (b : Access) (place : Place) (t : Shape) (stack below : List ℕ) → HasPlace ctx b place t stack below → length stack ≡ held b + length below
  held_words (InData o) place t stack below has = omega (arith, ap length has.at.1)
  held_words (InFrame n o) place t stack below has = omega (arith, ap length has.at.3)
  held_words OnTop place t stack below has = omega (arith, ap length has.at)
  held_words (Behind o) place t stack below has = omega (arith, ap length has.at.2)

  pub twice_words : (b : Access) (place : Place) (t : Shape) (once : List ℕ) → HasPlace ctx b place t once [] → length (doubled b once) ≡ held_twice b
  twice_words (InData o) place t once has = ap length has.at.1
  twice_words (InFrame n o) place t once has = ap length has.at.3
  twice_words OnTop place t once has = ap (λ (x : List ℕ). length (x ++ x)) has.at
  twice_words (Behind o) place t once has = ap (λ (x : List ℕ). length (x ++ x)) has.at.2

  -- a place that is ready is kept for a second use
  pub kept_twice : (s : Source) (items : List Item) (m : State) → Shared ctx s m → (b : Access) (place : Place) (t : Shape) (once : List ℕ) → HasPlace ctx b place t once [] → readied b ≡ b
      → (p q budget rest : ℕ) → InstrsAt piece (again_code b) p q → Goes ctx s items (going m q (doubled b once)) rest → rest + 1 ≤ budget → Goes ctx s items (going m p once) budget
  kept_twice s items m shared (InData o) place t once has ready p q budget rest at goes less =
      goes_more ctx s items (going m p once) rest budget (subst (λ (x : ℕ). Goes ctx s items (going m x once) rest) (sym at) goes) (omega (arith, less))
  kept_twice s items m shared (InFrame n o) place t once has ready p q budget rest at goes less =
      goes_more ctx s items (going m p once) rest budget (subst (λ (x : ℕ). Goes ctx s items (going m x once) rest) (sym at) goes) (omega (arith, less))
  kept_twice s items m shared OnTop place t once has ready p q budget rest at goes less =
      leads s items m shared Dup p at.0 once (once ++ once) budget rest at.1
      (ap (λ (x : List ℕ). on_one (going m p x) x (double_row at.0 (going m p x))) has.at
      ∙ ap (λ (x : List ℕ). let e : Event × State = (Went, going m at.0 (x ++ x)) in e) (sym has.at))
      (subst (λ (x : ℕ). Goes ctx s items (going m x (once ++ once)) rest) (sym at.2) goes)
      less
  kept_twice s items m shared (Behind o) place t once has ready p q budget rest at goes less = absurd (top_behind o ready)

  -- the word that lies there comes below a number
  pub brings_under : (s : Source) (items : List Item) (m : State) → Shared ctx s m → (b : Access) (place : Place) (k : Kind) (once : List ℕ) → HasPlace ctx b place (Word k) once [] → readied b ≡ b → (w : ℕ)
      → (p q budget rest : ℕ) → InstrsAt piece (under_code b) p q → Goes ctx s items (going m q (w ∷ get_or m.store (address h place) 0 ∷ once)) rest → rest + 3 ≤ budget
      → Goes ctx s items (going m p (w ∷ doubled b once)) budget
  brings_under s items m shared (InData o) place k once has ready w p q budget rest at goes less =
      let low = inside s m shared (InData o) place (Word k) once [] has in
      let old : ℕ = get_or m.store (address h place) 0 in
      leads s items m shared (Lgw o) p at.0 (w ∷ once) (old ∷ w ∷ once) budget (rest + 1) at.1
      (yes _ _ _ (lt-ltb (own.base + o) 65536 (omega (arith, low, has.at.0)))
      ∙ pushes (get_or m.store (own.base + o) 0) at.0 (going m p (w ∷ once)) (omega (arith, ap length has.at.1))
      ∙ ap (λ (a : ℕ). let e : Event × State = (Went, going m at.0 (get_or m.store a 0 ∷ w ∷ once)) in e) (sym has.at.0))
      (leads s items m shared Swp at.0 at.2.0 (old ∷ w ∷ once) (w ∷ old ∷ once) (rest + 1) rest at.2.1 refl
      (subst (λ (x : ℕ). Goes ctx s items (going m x (w ∷ old ∷ once)) rest) (sym at.2.2) goes)
      (omega arith))
      (omega (arith, less))
  brings_under s items m shared (InFrame n o) place k once has ready w p q budget rest at goes less =
      let low = inside s m shared (InFrame n o) place (Word k) once [] has in
      let old : ℕ = get_or m.store (address h place) 0 in
      let here : State = going m p (w ∷ once) in
      leads s items m shared (load_code (InFrame n o)) p at.0 (w ∷ once) (old ∷ w ∷ once) budget (rest + 1) at.1
      (frame_load n o at.0 here
      ∙ ap (λ (a : ℕ). load_row a at.0 here) (ap (λ (f : ℕ). f + o) (frame_at s m shared n has.at.0 has.at.1) ∙ sym has.at.2)
      ∙ yes _ _ _ (lt-ltb (address h place) 65536 (omega (arith, low)))
      ∙ pushes (get_or m.store (address h place) 0) at.0 here (omega (arith, ap length has.at.3)))
      (leads s items m shared Swp at.0 at.2.0 (old ∷ w ∷ once) (w ∷ old ∷ once) (rest + 1) rest at.2.1 refl
      (subst (λ (x : ℕ). Goes ctx s items (going m x (w ∷ old ∷ once)) rest) (sym at.2.2) goes)
      (omega arith))
      (omega (arith, less))
  brings_under s items m shared OnTop place k once has ready w p q budget rest at goes less =
      let low = inside s m shared OnTop place (Word k) once [] has in
      let a : ℕ = address h place in
      let old : ℕ = get_or m.store (address h place) 0 in
      let same : a + 0 ≡ a = omega arith in
      subst (λ (x : List ℕ). Goes ctx s items (going m p (w ∷ x ++ x)) budget) (sym has.at)
      (leads s items m shared Swp p at.0 (w ∷ a ∷ a ∷ []) (a ∷ w ∷ a ∷ []) budget (rest + 2) at.1 refl
      (leads s items m shared Ldi at.0 at.2.0 (a ∷ w ∷ a ∷ []) (old ∷ w ∷ a ∷ []) (rest + 2) (rest + 1) at.2.1
      (yes _ _ _ (lt-ltb (a + 0) 65536 (omega (arith, low)))
      ∙ ap (λ (x : ℕ). let e : Event × State = (Went, going m at.2.0 (get_or m.store x 0 ∷ w ∷ a ∷ [])) in e) same)
      (leads s items m shared Swp at.2.0 at.2.2.0 (old ∷ w ∷ a ∷ []) (w ∷ old ∷ a ∷ []) (rest + 1) rest at.2.2.1 refl
      (subst (λ (x : ℕ). Goes ctx s items (going m x (w ∷ old ∷ a ∷ [])) rest) (sym at.2.2.2) (subst (λ (x : List ℕ). Goes ctx s items (going m q (w ∷ old ∷ x)) rest) has.at goes))
      (omega arith))
      (omega arith))
      (omega (arith, less)))
  brings_under s items m shared (Behind o) place k once has ready w p q budget rest at goes less = absurd (top_behind o ready)

-- ---- a value that is tested, and one that is stored

module _ (ctx : Setting) where
  open ctx use {library, table, home as h}
  open frame_of ctx use {own, piece, number}

  -- steps of the machine from a place and an expression stack, while the source has these items
  module _ (s : Source) (items : List Item) (m : State) (all : Shared ctx s m) (p : ℕ) (stack : List ℕ) where
    abbrev Now : Source
    Now = record s { items = items; phase = Going }

    abbrev here : State
    here = going m p stack

    -- both sides trap
    pub trap_goes : (kind : TrapKind) (budget : ℕ) (i : Instr) (q : ℕ) → IsAt piece p i q → current items ≡ ctx.stack.frame.activation → next library Now ≡ trapped library Now kind → mstep here ≡ (Trap kind, here) → 1 ≤ budget
        → Goes ctx s items here budget
    trap_goes kind budget i q at close source machine less =
        let run : Run = react (Trap kind) here (running here s.world) in
        goes_one_within ctx s items here budget 0 run (advances here s.world _ machine)
        (subst (λ (t : Source). Lands ctx t.phase t run 0) (sym source)
        (both_trap ctx s items here kind i q all at close))
        (omega (arith, less))

    -- The test that the number of a value is one of the kind's: it traps, or goes on at the place behind it with the same stack.
    pub number_tested : (k j : Kind) (v : Scalar) → is_base j ≡ true → within j v ≡ true → (below : List ℕ) → stack ≡ scalar_word v ∷ below
        → (middle budget rest : ℕ) → InstrsAt piece (test_code k j) p middle → current items ≡ ctx.stack.frame.activation
        → (has k (ordinal_of v) ≡ false → next library Now ≡ trapped library Now trap.Range)
        → (has k (ordinal_of v) ≡ true → Goes ctx s items (going m middle stack) rest) → rest + 1 ≤ budget → Goes ctx s items here budget
    number_tested k j v base fits below is middle budget rest test close traps goes less = by (covers k j) refl test
      where
        by_number : (i : Instr) (q : ℕ) → IsAt piece p i q → mstep here ≡ (let r : Event × State = cond (has k (ordinal_of v)) (Went, going m q stack) (Trap trap.Range, here) in r) → q ≡ middle
            → (b : Bool) → has k (ordinal_of v) ≡ b → Goes ctx s items here budget
        by_number i q at step end true one =
            goes_after ctx s items here (going m q stack) budget rest
            (advances here s.world _ (step ∙ yes _ _ _ one))
            (subst (λ (x : ℕ). Goes ctx s items (going m x stack) rest) (sym end) (goes one))
            less
        by_number i q at step end false none =
            trap_goes trap.Range budget i q at close (traps none)
            (step ∙ ap (λ (b : Bool). let r : Event × State = cond b (Went, going m q stack) (Trap trap.Range, here) in r) none)
            (omega (arith, less))

        by : (b : Bool) → covers k j ≡ b → InstrsAt piece (cond b [] (range_code (compared_as j) (shared k j) ∷ [])) p middle → Goes ctx s items here budget
        by true e at =
            goes_more ctx s items here rest budget (subst (λ (x : ℕ). Goes ctx s items (going m x stack) rest) (sym at) (goes (covered k j (ordinal_of v) e (fits_has j v fits)))) (omega (arith, less))
        by false e (q, at, end) =
            by_number (range_code (compared_as j) (shared k j)) q at (at_step ctx here all.program (range_code (compared_as j) (shared k j)) q at ∙ test_act k j v own here below q base fits is) end (has k (ordinal_of v)) refl

    -- the test of a value that may be stored where one of the kind is wanted
    pub tested : (k j : Kind) (v : Scalar) → takes_value k j ≡ true → within j v ≡ true → (below : List ℕ) → stack ≡ scalar_word v ∷ below
        → (middle budget rest : ℕ) → InstrsAt piece (test_code k j) p middle → current items ≡ ctx.stack.frame.activation
        → (within k v ≡ false → next library Now ≡ trapped library Now trap.Range)
        → (within k v ≡ true → Goes ctx s items (going m middle stack) rest) → rest + 1 ≤ budget → Goes ctx s items here budget
    tested k j v takes fits below is middle budget rest test close traps goes less =
        let same : within k v ≡ has k (ordinal_of v) = taken_where k j v takes fits in
        number_tested k j v (takes_base k j takes) fits below is middle budget rest test close (λ e. traps (same ∙ e)) (λ e. goes (same ∙ e)) less

    -- The same of a value that may be stored: a reference needs none.
    pub stored_tested : (k j : Kind) (v : Scalar) → stores_value k j ≡ true → within j v ≡ true → Refers h j v → (below : List ℕ) → stack ≡ word_for h v ∷ below
        → (middle budget rest : ℕ) → InstrsAt piece (test_code k j) p middle → current items ≡ ctx.stack.frame.activation
        → (within k v ≡ false → next library Now ≡ trapped library Now trap.Range)
        → (within k v ≡ true → Refers h k v → Goes ctx s items (going m middle stack) rest) → rest + 1 ≤ budget → Goes ctx s items here budget
    stored_tested k j v stores fits refers below is middle budget rest test close traps goes less = by (takes_value k j) refl stores
      where
        untested : (i : Kind) → test_code i i ≡ [] → (k ≡ i) → (j ≡ i) → Goes ctx s items here budget
        untested i none one other =
            let same : j ≡ k = other ∙ sym one in
            let stays : p ≡ middle = subst (λ (is : List Instr). InstrsAt piece is p middle) none (subst (λ (y : Kind). InstrsAt piece (test_code y i) p middle) one (subst (λ (y : Kind). InstrsAt piece (test_code k y) p middle) other test)) in
            goes_more ctx s items here rest budget
            (subst (λ (i : ℕ). Goes ctx s items (going m i stack) rest) (sym stays) (goes (ap (λ (i : Kind). within i v) (sym same) ∙ fits) (subst (λ (i : Kind). Refers h i v) same refers)))
            (omega (arith, less))

        same : (b : Bool) → same_pointer k j ≡ b → (b || same_procedures k j) ≡ true → Goes ctx s items here budget
        same true pointers stores = let both = pointers_same k j pointers in untested (OfPointer both.0) refl both.1 both.2
        same false pointers stores = let both = procedures_same k j stores in untested (OfProcedure both.0) refl both.1 both.2

        by : (b : Bool) → takes_value k j ≡ b → (b || (same_pointer k j || same_procedures k j)) ≡ true → Goes ctx s items here budget
        by true takes stores =
            tested k j v takes fits below (is ∙ ap (λ (w : ℕ). w ∷ below) (plain_word h j v (takes_plain k j takes).1 fits)) middle budget rest test close traps
            (λ e. goes e (plain_refers h k v (takes_plain k j takes).0)) less
        by false takes stores = same (same_pointer k j) refl stores

    -- a value of the kind of a place is stored there
    pub stored_goes : (b : Access) (place : Place) (k : Kind) (under : List ℕ) → HasPlace ctx b place (Word k) under [] → readied b ≡ b → (v : Scalar) → within k v ≡ true → Refers h k v
        → stack ≡ word_for h v ∷ under → (end : ℕ) → IsAt piece p (store_code b) end
        → (after : List Item) → next library Now ≡ record s { items = after; cells = stored s.cells place (alone v); phase = Going }
        → (c budget : ℕ) (a : Around) → Rows ctx after Quiet end [] c a → c + 1 ≤ budget → Goes ctx s items here budget
    stored_goes b place k under has ready v fits refers is end at after becomes c budget a rows less =
        let store : List ℕ = set m.store (address h place) (word_for h v) in
        let mem : Mem h (stored s.cells place (alone v)) store = mem_stored h s.cells m.store place k v all.mem has.living fits refers in
        let machine : State = record m { place = end; stack = []; store = store } in
        goes_one_within ctx s items here budget c (running machine s.world)
        (advances here s.world _ (
        at_step ctx here all.program (store_code b) end at
        ∙ puts ctx s here all b place k under has ready (word_for h v) is end
        ))
        (subst (λ (t : Source). Lands ctx t.phase t (running machine s.world) c) (sym becomes)
        (record { machine = machine; is = refl; met = record { shared = shared_with ctx s m all mem; around = a; ahead = rows_ahead ctx after end [] c a rows } }))
        less
