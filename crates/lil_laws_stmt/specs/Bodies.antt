-- The end of a body that others follow: the next one begins.
use Rattle.std.proofs.Common.{◌≡◌, ℕ, ◌+◌, ◌-◌, ◌<◌, ◌≤◌, ◌⊎◌, inl, inr, Some, List, [], ◌∷◌, length, map, get_or, refl, sym, ap, ◌∙◌, subst, ⊎_elim, arith, eq-eqb}
use Rattle.std.specs.List.{list_any}
use Rattle.std.proofs.lemmas.{Bool.{le-ltb, lt-ltb, cases_lt}, Option.slice_get_within}
use Rattle.lil_base.specs.declared.fault.LimitKind.TheVariants as limit
use Rattle.lil_resolved.specs.{Kinds.{Address, Opened}, Plain.parameter_variable}
use Rattle.lil_meaning.specs.{Items.{Item, Activation, Going, Source, loaded_at}, Need.{HasCalls, copies_of, chain}, Steps.{next as turn}}
use Rattle.lil_asm.specs.declared.instr.Instr.TheVariants.{Ent, Rtn}
use Rattle.lil_mcode.specs.{declared.machine.Event.TheVariants.Went, Table.{Module, State, stack_of, module_at, mstep, end_row, body_row, begun_body, enter_row}}
use Rattle.lil_frames.specs.Words.{zeros, cleared}
use Rattle.lil_table.specs.Rows.{IsAt, framed}
use Rattle.lil_match.specs.{Goes.{IsFree, OwnWords, Linked, Comes, Shared, IsShort, Lands, Goes, number_of}, Running.{running, advanced}, Parts.{yes, no}, Homes.{Own, Fixed, Free, Home, extends_self, Mem, Ours, Stays, Turns, mem_turned, fixed_turned}, Splices.{spliced_length, spliced_before, spliced_after, zeros_length}, Costs.{known_costs, items_cost}}
use Rattle.lil_match.specs.{Waits.{Quiet, locals_in, is_of, outside, Frame, Setting, at_home, with_frames, RowsOf, NextBody}, Known.{or_later, known_kept, each_comes, each_local}, Kept.{all_above, offset_low, rows_kept}, Steps.{advances, at_step, rows_ahead, goes_one_in, goes_full, goes_after}}
use Rattle.lil_laws_stmt.specs.Painting.{own_free, painted, painted_there, painted_beside, Side, Before, Between, Behind', side}

module _ (ctx : Setting) (f b : Frame) (bs : List Frame) where
  abbrev ending : Setting
  ending = with_frames ctx f [] (b ∷ bs)

  abbrev beginning : Setting
  beginning = with_frames ctx b [] bs

  module _ (s : Source) (m : State) (shared : Shared ending s m) (first : List Item) (k : List Item) (becomes : turn ctx.library (record s { items = first; phase = Going }) ≡ record s { items = k; phase = Going }) (c : ℕ) (end : ℕ) (leave : IsAt f.piece m.place Rtn end) (next : NextBody ending b (RowsOf k beginning) c) where
    abbrev h : Home
    h = ctx.home

    abbrev base : ℕ
    base = ctx.stack.base

    abbrev size : ℕ
    size = b.layout.frame

    abbrev mark : List ℕ
    mark = 0 ∷ 0 ∷ 0 ∷ b.number ∷ []

    abbrev begun : State
    begun = begun_body m b.number b.own (map number_of bs)

    abbrev zero_words : List ℕ
    zero_words = zeros (m.base + b.layout.frame - (m.base + 4))

    abbrev entered : State
    entered = record begun { place = next.start; top = m.base + b.layout.frame; store = cleared begun.store begun.top (m.base + b.layout.frame) }

    comes : Comes ctx.library ctx.loaded ctx.table ctx.activations ctx.home ctx.stack.base b
    comes = shared.standing.comes.0

    -- the row of the return, by the room of the next body's mark
    leaving : mstep m ≡ body_row m b.number (map number_of bs) (Some b.own)
    leaving =
        let there : module_at m.modules b.number ≡ Some b.own = ap (λ (ms : List Module). module_at ms b.number) shared.program.table_is ∙ comes.known.known in
        at_step ending m shared.program Rtn end leave
        ∙ yes _ _ _ (eq-eqb m.frame m.base (shared.standing.frame_is ∙ shared.standing.stands.1 ∙ sym shared.standing.base_is))
        ∙ ap (end_row m) shared.standing.bodies_are
        ∙ ap (body_row m b.number (map number_of bs)) there

    leaves : ctx.stack.base + 4 ≤ ctx.stack.limit → advanced (running m s.world) ≡ running begun s.world
    leaves mark_room = advances m s.world _ (leaving ∙ no _ _ _ (le-ltb m.limit (m.base + 4) (omega (arith, shared.standing.limit_is, shared.standing.base_is, mark_room))))

    -- the row of ENT
    entering : mstep begun ≡ enter_row (framed b.layout.frame) next.start begun
    entering =
        at_step beginning begun (record { table_is = shared.program.table_is; known = comes.known.known; piece = comes.known.piece; running_is = refl; marked_is = shared.program.marked_is }) (Ent (framed b.layout.frame)) next.start next.enter

    -- ---- without room
    pub goes_short : ctx.stack.limit < b.at + b.layout.frame → Goes ending s first m (c + 32)
    goes_short less =
        ⊎_elim (λ (none : m.limit < m.base + 4).
        goes_full ending s first m (c + 32) limit.Stack (leaving ∙ yes _ _ _ (lt-ltb m.limit (m.base + 4) none)) shorter (omega arith))
        (λ (some : m.base + 4 ≤ m.limit).
        goes_after ending s first m begun (c + 32) (c + 1) (leaves (omega (arith, shared.standing.limit_is, shared.standing.base_is, some)))
        (goes_full ending s first begun (c + 1) limit.Stack
        (entering
        ∙ no _ _ _ (le-ltb (m.base + framed b.layout.frame) (m.base + 4) (omega (arith, comes.mark)))
        ∙ yes _ _ _ (lt-ltb m.limit (m.base + framed b.layout.frame) (omega (arith, shared.standing.limit_is, shared.standing.base_is, comes.at, less, shared.standing.high, shared.standing.based))))
        shorter (omega arith))
        (omega arith)) (cases_lt m.limit (m.base + 4))
      where
        calls : b.layout.frame ≤ chain ctx.library s.loaded s.activations k
        calls =
            let same : chain ctx.library s.loaded s.activations k ≡ chain ctx.library ctx.loaded ctx.activations k =
            ap (λ (l : List ℕ). chain ctx.library l s.activations k) shared.loaded_are ∙ ap (λ (acts : List Activation). chain ctx.library ctx.loaded acts k) shared.activations_are in
            omega (arith, same, next.idle, items_cost beginning k Quiet next.start [] c (outside b) next.then (known_costs ctx.library ctx.loaded ctx.table ctx.activations ctx.home b comes.known, tt))

        short : IsShort ctx.library ctx.stack.base (record s { items = k; phase = Going })
        short = record { less = omega (arith, less, shared.heap.rest, comes.at, calls) }

        more : HasCalls ctx.library (record s { items = k; phase = Going })
        more = inl (omega (arith, comes.later, slice_get_within ctx.activations b.activation comes.known.its comes.known.runs, ap length shared.activations_are))

        shorter : IsShort ctx.library ctx.stack.base (turn ctx.library (record s { items = first; phase = Going })) × HasCalls ctx.library (turn ctx.library (record s { items = first; phase = Going }))
        shorter = subst (λ (y : Source). IsShort ctx.library ctx.stack.base y × HasCalls ctx.library y) (sym becomes) (short, more)

    -- ---- with room
    module _ (room : b.at + b.layout.frame ≤ ctx.stack.limit) where
      -- the words of the stack are the new frame's, and then in no use
      abbrev x : Home
      x = record (ctx.home) {
        owner = painted (painted ctx.home.owner ctx.stack.base (ctx.stack.base + b.layout.frame) (λ a. Own)) (ctx.stack.base + b.layout.frame) ctx.stack.limit (λ a. Free ctx.stack.base);
        shadow = painted ctx.home.shadow ctx.stack.base (ctx.stack.base + b.layout.frame) (λ a. get_or entered.store a 0);
      }

      words : OwnWords ctx.home.owner f m.top
      words = shared.standing.stands.0

      owner_own : (a : ℕ) → ctx.stack.base ≤ a → a < ctx.stack.base + b.layout.frame → x.owner a ≡ Own
      owner_own a from below =
          painted_beside (painted ctx.home.owner ctx.stack.base (ctx.stack.base + b.layout.frame) (λ a. Own)) (ctx.stack.base + b.layout.frame) ctx.stack.limit (λ a. Free ctx.stack.base) a (inl below)
          ∙ painted_there ctx.home.owner ctx.stack.base (ctx.stack.base + b.layout.frame) (λ a. Own) a from below

      owner_free : (a : ℕ) → ctx.stack.base + b.layout.frame ≤ a → a < ctx.stack.limit → x.owner a ≡ Free ctx.stack.base
      owner_free a from below =
          painted_there (painted ctx.home.owner ctx.stack.base (ctx.stack.base + b.layout.frame) (λ a. Own)) (ctx.stack.base + b.layout.frame) ctx.stack.limit (λ a. Free ctx.stack.base) a from below

      owner_beside : (a : ℕ) → (a < ctx.stack.base) ⊎ (ctx.stack.limit ≤ a) → x.owner a ≡ ctx.home.owner a
      owner_beside a o =
          painted_beside (painted ctx.home.owner ctx.stack.base (ctx.stack.base + b.layout.frame) (λ a. Own)) (ctx.stack.base + b.layout.frame) ctx.stack.limit (λ a. Free ctx.stack.base) a
          (⊎_elim (λ (l : a < ctx.stack.base). inl (omega (arith, l))) (λ (g : ctx.stack.limit ≤ a). inr (omega (arith, g, comes.at, room), g)) o)
          ∙ painted_beside ctx.home.owner ctx.stack.base (ctx.stack.base + b.layout.frame) (λ a. Own) a
          (⊎_elim (λ (l : a < ctx.stack.base). inl l) (λ (g : ctx.stack.limit ≤ a). inr (omega (arith, g, comes.at, room), omega (arith, g, comes.at, room))) o)

      shadow_there : (a : ℕ) → ctx.stack.base ≤ a → a < ctx.stack.base + b.layout.frame → x.shadow a ≡ get_or entered.store a 0
      shadow_there a from below = painted_there ctx.home.shadow ctx.stack.base (ctx.stack.base + b.layout.frame) (λ a. get_or entered.store a 0) a from below

      shadow_beside : (a : ℕ) → (a < ctx.stack.base) ⊎ ((ctx.stack.base ≤ a) × (ctx.stack.base + b.layout.frame ≤ a)) → x.shadow a ≡ ctx.home.shadow a
      shadow_beside a o = painted_beside ctx.home.shadow ctx.stack.base (ctx.stack.base + b.layout.frame) (λ a. get_or entered.store a 0) a o

      -- a body has no variables, and copies nothing
      uncopied : f.copied ≡ 0
      uncopied = sym shared.standing.known.copies ∙ ap (λ (p : ℕ). copies_of (loaded_at ctx.library ctx.loaded f.number) p shared.standing.known.its.slots) next.body

      free : (i : ℕ) → IsFree f i
      free i = ⊎_elim (λ (z : i < 4). inl z) (λ (z : 4 ≤ i). inr (omega (arith, z, next.plain), ⊎_elim (λ (y : i < f.layout.frame). inl y) (λ (y : f.layout.frame ≤ i). inr (omega (arith, y, uncopied))) (cases_lt i f.layout.frame))) (cases_lt i 4)

      -- all words of the stack are ours
      was_ours : (a : ℕ) → ctx.stack.base ≤ a → a < ctx.stack.limit → Ours (ctx.home.owner a)
      was_ours a from below =
          ⊎_elim (λ (l : a < m.top).
          inl (ap ctx.home.owner (let e : a ≡ f.at + (a - f.at) = omega (arith, from, shared.standing.stands.1) in e) ∙ words.own (a - f.at) (free (a - f.at)) (omega (arith, from, l, shared.standing.stands.1))))
          (λ (g : m.top ≤ a). inr (ctx.stack.base, shared.standing.room a g below)) (cases_lt a m.top)

      based : (m.base ≡ ctx.stack.base) × (m.base + b.layout.frame < 65536)
      based = (shared.standing.base_is, omega (arith, shared.standing.base_is, comes.at, room, shared.standing.high))

      mark_long : length begun.store ≡ 65536
      mark_long = spliced_length m.store m.base mark (omega (arith, shared.mem.long, based.1, comes.mark)) ∙ shared.mem.long

      zero_long : length zero_words ≡ m.base + b.layout.frame - (m.base + 4)
      zero_long = zeros_length (m.base + b.layout.frame - (m.base + 4))

      long : length entered.store ≡ 65536
      long = spliced_length begun.store (m.base + 4) zero_words (omega (arith, mark_long, zero_long, based.1, comes.mark)) ∙ mark_long

      stays : (a : ℕ) → (a < ctx.stack.base) ⊎ (ctx.stack.base + b.layout.frame ≤ a) → get_or entered.store a 0 ≡ get_or m.store a 0
      stays a (inl l) =
          spliced_before begun.store (m.base + 4) zero_words a (omega (arith, mark_long, zero_long, based.1, comes.mark)) (omega (arith, l, based.0))
          ∙ spliced_before m.store m.base mark a (omega (arith, shared.mem.long, based.1, comes.mark)) (omega (arith, l, based.0))
      stays a (inr g) =
          spliced_after begun.store (m.base + 4) zero_words a (omega (arith, mark_long, zero_long, based.1, comes.mark)) (omega (arith, zero_long, g, based.0, comes.mark))
          ∙ spliced_after m.store m.base mark a (omega (arith, shared.mem.long, based.1, comes.mark)) (omega (arith, g, based.0, comes.mark))

      each : (a : ℕ) → Stays h x m.store entered.store a ⊎ Turns h x entered.store a
      each a = by (side ctx.stack.base (ctx.stack.base + b.layout.frame) a) (cases_lt a ctx.stack.limit)
        where
          by : Side ctx.stack.base (ctx.stack.base + b.layout.frame) a → (a < ctx.stack.limit) ⊎ (ctx.stack.limit ≤ a) → Stays h x m.store entered.store a ⊎ Turns h x entered.store a
          by (Before l) o = inl (record { owner = owner_beside a (inl l); shadow = shadow_beside a (inl l); word = stays a (inl l) })
          by (Between g l) o = inr (record { before = was_ours a g (omega (arith, l, comes.at, room)); after = inl (owner_own a g l); word = λ own. sym (shadow_there a g l) })
          by (Behind' g l) (inl o) = inr (record { before = was_ours a g o; after = inr (ctx.stack.base, owner_free a l o); word = λ own. absurd (own_free ctx.stack.base (sym own ∙ owner_free a l o)) })
          by (Behind' g l) (inr o) = inl (record { owner = owner_beside a (inr o); shadow = shadow_beside a (inr (g, l)); word = stays a (inr l) })

      mem : Mem x s.cells entered.store
      mem = mem_turned h m.store entered.store x.owner x.shadow h.workspaces each s.cells shared.mem (extends_self h.workspaces) (long ∙ sym shared.mem.long)

      fixed_kept : (a : ℕ) → ctx.home.owner a ≡ Fixed → (x.owner a ≡ Fixed) × (x.shadow a ≡ ctx.home.shadow a)
      fixed_kept = fixed_turned h m.store entered.store x.owner x.shadow h.workspaces each

      exact : framed b.layout.frame ≡ b.layout.frame
      exact = omega (arith, room, shared.standing.high)

      enters : advanced (running begun s.world) ≡ running entered s.world
      enters =
          advances begun s.world (Went, entered) (
          entering
          ∙ ap (λ (n : ℕ). enter_row n next.start begun) exact
          ∙ no _ _ _ (le-ltb (m.base + b.layout.frame) (m.base + 4) (omega (arith, comes.mark)))
          ∙ no _ _ _ (le-ltb m.limit (m.base + b.layout.frame) (omega (arith, shared.standing.limit_is, shared.standing.base_is, comes.at, room)))
          )

      pub goes_next : Goes ending s first m (c + 32)
      goes_next =
          let g = shared.standing in
          goes_after ending s first m begun (c + 32) (c + 1) (leaves (omega (arith, comes.at, comes.mark, room)))
          (goes_one_in ending s first begun x (record (ctx.stack) { frame = b; callers = []; bodies = bs }) (c + 1) c (running entered s.world) enters
          (subst (λ (y : Source). Lands (record ending { home = x; stack = record (ctx.stack) { frame = b; callers = []; bodies = bs } }) y.phase y (running entered s.world) c) (sym becomes)
          (record {
            machine = entered;
            is = refl;
            met = record {
              shared = record {
                mem = mem;
                heap = shared.heap;
                unborn = shared.unborn;
                program = record { table_is = shared.program.table_is; known = comes.known.known; piece = comes.known.piece; running_is = refl; marked_is = shared.program.marked_is };
                standing = record {
                  frame_is = g.base_is ∙ sym comes.at;
                  base_is = g.base_is;
                  limit_is = g.limit_is;
                  bodies_are = refl;
                  known = known_kept ctx.library ctx.loaded ctx.table ctx.activations ctx.activations (λ i b e. e) h x (λ n y. refl) (λ n y. refl) refl fixed_kept b comes.known;
                  callers = tt;
                  comes = each_comes ctx.library ctx.loaded ctx.table ctx.activations ctx.activations (λ i b e. e) h x (λ n y. refl) (λ n y. refl) refl fixed_kept ctx.stack.base bs g.comes.1;
                  stands = (record { mark = omega (arith, comes.mark, next.bare); top_is = omega (arith, comes.at, g.base_is, next.idle); own = λ i z l. owner_own (b.at + i) (omega (arith, comes.at)) (omega (arith, l, g.base_is)); mine = λ i l. inl (owner_own (b.at + i) (omega (arith, comes.at)) (omega (arith, l, g.base_is))) }, comes.at);
                  links = subst (λ (es : List ℕ). Linked x.shadow ctx.activations b.activation b.number b.at b.display es []) (sym comes.chain) comes.display;
                  locals = each_local ctx.activations ctx.activations (λ i b e. e) h x (b ∷ bs) (λ r s e. refl) (λ r s e. refl) g.locals.2;
                  handed = (
                    λ y o t at typed there. absurd (let low = offset_low 4 (locals_in b) y o (Address t) at (parameter_variable b.layout.scope 0 y (Address t) typed) in omega (arith, low.0, low.1, next.bare)),
                    λ y o copied t at typed there. absurd (let low = offset_low 4 (locals_in b) y o (Opened copied t) at (parameter_variable b.layout.scope 0 y (Opened copied t) typed) in omega (arith, low.0, low.1, next.bare)),
                    tt,
                  );
                  room = λ a from below. owner_free a (omega (arith, from, g.base_is)) below;
                  based = g.based;
                  low = omega (arith, g.base_is, comes.at, room);
                  high = g.high;
                };
                activations_are = shared.activations_are;
                loaded_are = shared.loaded_are;
                levels = shared.levels;
                parked_are = shared.parked_are;
                kept_are = shared.kept_are;
              };
              around = outside b;
              ahead = rows_ahead (at_home beginning x) k next.start [] c (outside b)
                  (rows_kept k beginning x ctx.stack.limit (base + 4) (omega (arith, comes.at), (all_above ending (stack_of m) g).1) Quiet next.start [] c (outside b)
                  (record { pushed = λ i less. absurd (omega (arith, less, next.idle)); shadow = λ a from below. absurd (omega (arith, from, below, comes.at, next.bare)); base = λ r e l. refl; shape = λ r e l. refl; listed = refl; workspaces = extends_self h.workspaces })
                  next.then);
            };
          }))
          (record {
            owner = λ a o. owner_beside a o;
            shadow = λ a o. shadow_beside a (⊎_elim (λ (l : a < ctx.stack.base). inl l) (λ (g : ctx.stack.limit ≤ a). inr (omega (arith, g, comes.at, room), omega (arith, g, comes.at, room))) o);
            base = λ r b e. refl;
            shape = λ r b e. refl;
            listed = refl;
            workspaces = extends_self h.workspaces;
            fixed = fixed_kept;
          })
          (record { base = refl; limit = omega arith; frames = λ a seen. inl (or_later (is_of a f) (list_any (is_of a) (b ∷ bs)) seen) })
          (omega arith))
          (omega arith)
