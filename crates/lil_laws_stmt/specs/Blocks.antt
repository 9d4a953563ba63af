-- A block is taken below the stack's limit, and a place gets its address: what NEW and ALLOCATE share.
use Rattle.std.proofs.Common.{◌≡◌, ℕ, ◌+◌, ◌-◌, ◌<◌, ◌≤◌, ◌⊎◌, inl, inr, true, List, [], ◌∷◌, length, get_or, set, refl, sym, ap, ◌∙◌, subst, ⊎_elim, arith}
use Rattle.std.proofs.lemmas.Bool.{lt-ltb, le-ltb, cases_lt}
use Rattle.lil_base.specs.declared.fault.LimitKind.TheVariants as limit
use Rattle.lil_resolved.specs.Kinds.{Shape}
use Rattle.lil_meaning.specs.{Items.{Root, Global, Place, Cells, Item, Going, Workspace, Source, heap_words}, Need.chain_of, Steps.next}
use Rattle.lil_asm.specs.declared.instr.Instr.TheVariants.{Alc}
use Rattle.lil_mcode.specs.{declared.machine.Event.{Event, TheVariants.Went}, Table.{State, stack_of, going, mstep, take_row}}
use Rattle.lil_frames.specs.Words.{zeros, cleared}
use Rattle.lil_table.specs.Rows.{IsAt}
use Rattle.lil_match.specs.{Goes.{OwnWords, IsHeap, IsUnborn, Shared, Lands, Goes}, Running.running, Parts.{yes, no}, Splices.{spliced_length, spliced_before, spliced_there, spliced_after, zeros_length, zeros_word}, Homes.{Fixed, Free, Home, Extends, lives, address, Mem}, Costs.{cost_of, top_low}, Waits.{frames_of, Setting, frame_of, moved, Quiet, Around, Rows}}
use Rattle.lil_match.specs.{Known.{known_kept, each_known, each_comes, each_local}, Kept.{first_words, each_handed, stack_above, stands_kept, chained_kept, rows_kept}, Steps.{advances, at_step, rows_ahead, goes_one_in, goes_full}}
use Rattle.lil_laws_stmt.specs.Painting.{free_fixed}

module _ (ctx : Setting) where
  open ctx use {library, home as h, stack as st}
  open frame_of ctx use {own, piece}

  -- an instruction takes a block of so many words, while the source has these items
  module _ (s : Source) (items k : List Item) (m : State) (c : ℕ) (a : Around) (shared : Shared ctx s m) (place : Place) (low : address (ctx.home) place + 1 ≤ 65535) (words start end : ℕ)
      (row : IsAt (ctx.stack.frame.piece) start Alc end) where
    abbrev now : Source
    now = record s { items = items; phase = Going }

    abbrev taking : State
    taking = going m start (words ∷ address h place ∷ [])

    -- the block's first word, and the limit below it
    abbrev first : ℕ
    first = ctx.stack.limit - words

    abbrev lower : ℕ
    lower = ctx.stack.limit - (words + 2)

    words_here : OwnWords h.owner st.frame m.top
    words_here = first_words h.owner st.base m.top st.frame st.callers shared.standing.stands

    takes : mstep taking ≡ take_row end taking (address h place) words []
    takes = at_step ctx taking shared.program Alc end row

    -- ---- without room
    pub goes_short : heap_words (next library now).objects (next library now).workspaces ≡ heap_words s.objects s.workspaces + (words + 2) → cost_of (ctx.stack.frame ∷ ctx.stack.callers) ≤ chain_of library (next library now) → m.limit - m.top < words + 2
        → Goes ctx s items (going m start (words ∷ address h place ∷ [])) (c + 1)
    goes_short more calls less =
        goes_full ctx s items taking (c + 1) limit.Store
        (takes ∙ yes _ _ _ (lt-ltb (address h place) 65536 (omega (arith, low))) ∙ yes _ _ _ (lt-ltb (m.limit - m.top) (words + 2) less))
        (record { less = omega (arith, calls, more, less, shared.heap.rest, shared.standing.limit_is, shared.standing.low, top_low h.owner st.base m.top st.frame st.callers shared.standing.stands) })
        (omega arith)

    -- ---- with room
    module _ (room : words + 2 ≤ m.limit - m.top) where
      pub roomy : m.top + (words + 2) ≤ st.limit
      roomy = omega (arith, room, shared.standing.limit_is, shared.standing.low)

      -- the block's words were in no use
      was_free : (i : ℕ) → first ≤ i → i < st.limit → h.owner i ≡ Free st.base
      was_free i from less = shared.standing.room i (omega (arith, from, roomy)) less

      pub beside : (i : ℕ) → (h.owner i ≡ Free st.base → ⊥) → (i < first) ⊎ ((first ≤ i) × (st.limit ≤ i))
      beside i used = by (cases_lt i first) (cases_lt i st.limit)
        where
          by : (i < first) ⊎ (first ≤ i) → (i < st.limit) ⊎ (st.limit ≤ i) → (i < first) ⊎ ((first ≤ i) × (st.limit ≤ i))
          by (inl z) e = inl z
          by (inr g) (inl z) = absurd (used (was_free i g z))
          by (inr g) (inr e) = inr (g, e)

      zero_long : length (zeros (st.limit - first)) ≡ words
      zero_long = omega (arith, zeros_length (st.limit - first), roomy)

      fit : first + length (zeros (st.limit - first)) ≤ length m.store
      fit = omega (arith, zero_long, roomy, shared.standing.high, shared.mem.long)

      pub blank_beside : (i : ℕ) → (i < first) ⊎ ((first ≤ i) × (st.limit ≤ i)) → get_or (cleared m.store (ctx.stack.limit - words) ctx.stack.limit) i 0 ≡ get_or m.store i 0
      blank_beside i (inl z) = spliced_before m.store first (zeros (st.limit - first)) i fit z
      blank_beside i (inr g) = spliced_after m.store first (zeros (st.limit - first)) i fit (omega (arith, zero_long, roomy, g.1))

      pub blank_there : (i : ℕ) → i < words → get_or (cleared m.store (ctx.stack.limit - words) ctx.stack.limit) (first + i) 0 ≡ 0
      blank_there i less = spliced_there m.store first (zeros (st.limit - first)) i fit (omega (arith, zero_long, less)) ∙ zeros_word (st.limit - first) i (omega (arith, roomy, less))

      pub blank_long : length (cleared m.store (ctx.stack.limit - words) ctx.stack.limit) ≡ length m.store
      blank_long = spliced_length m.store first (zeros (st.limit - first)) fit

      -- a home and cells after it: what lived lives, and the words beside the block have the owners that they had
      pub record Filled (x : Home) (cells : Cells) (objects : List Shape) (workspaces : List Workspace) : Type 0 where
        pub base : (r : Root) → lives h r ≡ true → x.base r ≡ h.base r
        pub shape : (r : Root) → lives h r ≡ true → x.shape r ≡ h.shape r
        pub listed : x.listed ≡ h.listed
        pub spaces : Extends x.workspaces h.workspaces
        pub owner : (i : ℕ) → (i < first) ⊎ ((first ≤ i) × (st.limit ≤ i)) → x.owner i ≡ h.owner i
        pub shadow : (i : ℕ) → x.shadow i ≡ h.shadow i
        pub mem : Mem x cells (set (cleared m.store (ctx.stack.limit - words) ctx.stack.limit) (address h place) first)
        pub heap : IsHeap x.base x.shape x.workspaces objects workspaces lower
        pub unborn : IsUnborn x.shape ctx.activations

      module _ (x : Home) (cells : Cells) (objects : List Shape) (workspaces : List Workspace) (filled : Filled x cells objects workspaces)
          (becomes : next (ctx.library) (record s { items = items; phase = Going }) ≡ record s { items = k; cells = cells; objects = objects; workspaces = workspaces; phase = Going })
          (then : Rows ctx k Quiet end [] c a) where
        abbrev store : List ℕ
        store = set (cleared m.store (ctx.stack.limit - words) ctx.stack.limit) (address ctx.home place) (ctx.stack.limit - words)

        abbrev machine : State
        machine = record m { place = end; stack = []; limit = m.limit - (words + 2); store = store }

        abbrev moving : Setting
        moving = moved ctx x (ctx.stack.limit - (words + 2))

        fixed_kept : (i : ℕ) → h.owner i ≡ Fixed → (x.owner i ≡ Fixed) × (x.shadow i ≡ h.shadow i)
        fixed_kept i is = (filled.owner i (beside i (λ free. free_fixed st.base (sym free ∙ is))) ∙ is, filled.shadow i)

        takes_it : mstep taking ≡ (Went, machine)
        takes_it =
            takes
            ∙ yes _ _ _ (lt-ltb (address h place) 65536 (omega (arith, low)))
            ∙ no _ _ _ (le-ltb (m.limit - m.top) (words + 2) room)
            ∙ ap (λ (i : ℕ). let e : Event × State = (Went, record m { place = end; stack = []; limit = m.limit - (words + 2); store = set (cleared m.store (i - words) i) (address h place) (i - words) }) in e) shared.standing.limit_is

        based : st.base ≤ m.top
        based = omega (arith, (stack_above ctx (stack_of m) shared.standing).0, words_here.top_is)

        pub goes_roomy : Goes ctx s items (going m start (words ∷ address h place ∷ [])) (c + 1)
        goes_roomy =
            let g = shared.standing in
            goes_one_in ctx s items taking x (record (ctx.stack) { limit = ctx.stack.limit - (words + 2) }) (c + 1) c (running machine s.world)
            (advances taking s.world (Went, machine) takes_it)
            (subst (λ (t : Source). Lands moving t.phase t (running machine s.world) c) (sym becomes)
            (record {
              machine = machine;
              is = refl;
              met = record {
                shared = record {
                  mem = filled.mem;
                  heap = filled.heap;
                  unborn = filled.unborn;
                  program = record { table_is = shared.program.table_is; known = shared.program.known; piece = shared.program.piece; running_is = shared.program.running_is; marked_is = shared.program.marked_is };
                  standing = record {
                    frame_is = g.frame_is;
                    base_is = g.base_is;
                    limit_is = ap (λ (i : ℕ). i - (words + 2)) g.limit_is;
                    bodies_are = g.bodies_are;
                    known = known_kept ctx.library ctx.loaded ctx.table ctx.activations ctx.activations (λ i b e. e) h x (λ n y. filled.base (Global n y) refl) (λ n y. filled.shape (Global n y) refl) filled.listed fixed_kept st.frame g.known;
                    callers = each_known ctx.library ctx.loaded ctx.table ctx.activations ctx.activations (λ i b e. e) h x (λ n y. filled.base (Global n y) refl) (λ n y. filled.shape (Global n y) refl) filled.listed fixed_kept st.callers g.callers;
                    comes = each_comes ctx.library ctx.loaded ctx.table ctx.activations ctx.activations (λ i b e. e) h x (λ n y. filled.base (Global n y) refl) (λ n y. filled.shape (Global n y) refl) filled.listed fixed_kept st.base st.bodies g.comes;
                    stands = stands_kept h.owner x.owner st.base m.top st.frame st.callers (λ i from less. filled.owner i (inl (omega (arith, less, roomy)))) g.stands;
                    links = chained_kept h.shadow x.shadow ctx.activations ctx.activations (λ i b e. e) h.owner st.base m.top st.frame st.callers g.stands (λ i from below. filled.shadow i) g.links;
                    locals = each_local ctx.activations ctx.activations (λ i b e. e) h x (frames_of ctx.stack) (λ r seen. filled.base r) (λ r seen. filled.shape r) g.locals;
                    handed = each_handed ctx.activations ctx.activations (λ i b e. e) h x st.bodies st.base m.top st.frame st.callers g.stands
                        (λ i from less. (filled.owner i (inl (omega (arith, less, words_here.mark, words_here.top_is, roomy))), filled.shadow i)) (λ r seen. filled.base r) (λ r seen. filled.shape r) g.handed;
                    room = λ i from less. filled.owner i (inl (omega (arith, less, roomy))) ∙ g.room i from (omega (arith, less, roomy));
                    based = g.based;
                    low = omega (arith, roomy);
                    high = omega (arith, g.high);
                  };
                  activations_are = shared.activations_are;
                  loaded_are = shared.loaded_are;
                  levels = shared.levels;
                  parked_are = shared.parked_are;
                  kept_are = shared.kept_are;
                };
                around = a;
                ahead = rows_ahead moving k end [] c a
                    (rows_kept k ctx x lower (st.base + 4) (stack_above ctx (stack_of m) g).1 Quiet end [] c a
                    (record { pushed = λ i less. filled.shadow (st.frame.at + (st.frame.layout.frame + i)); shadow = λ i from less. filled.shadow i; base = λ r e. filled.base r; shape = λ r e. filled.shape r; listed = filled.listed; workspaces = filled.spaces })
                    then);
              };
            }))
            (record {
              owner = λ i e. filled.owner i (⊎_elim (λ (z : i < st.base). inl (omega (arith, z, based, roomy))) (λ (z : st.limit ≤ i). inr (omega (arith, z, roomy), z)) e);
              shadow = λ i e. filled.shadow i;
              base = λ r beyond. filled.base r;
              shape = λ r beyond. filled.shape r;
              listed = filled.listed;
              workspaces = filled.spaces;
              fixed = fixed_kept;
            })
            (record { base = refl; limit = omega arith; frames = λ i seen. inl seen })
            (omega arith)
