-- One step of the source from steps of the machine, and the activation at hand from any row.
use Rattle.lil_resolved.specs.Kinds.{all_words}
use Rattle.std.proofs.Common.{◌≡◌, ℕ, zero, suc, ◌+◌, ◌<◌, Option, Some, None, Bool, List, [], ◌∷◌, ◌++◌, length, true, ⊎_elim, refl, sym, ap, ◌∙◌, subst, arith, ◌≤◌, inl, inr}
use Rattle.std.specs.Prelude.{slice_get}
use Rattle.std.proofs.lemmas.{Option.same_Some, Bool.lt-ltb}
use Rattle.lil_base.specs.declared.fault.{TrapKind.TrapKind, LimitKind.LimitKind}
use Rattle.lil_resolved.specs.{Kinds.{Shape, is_there}, Resolved.{Designator, Arguments, Expression, kind_of}, Sizes.{depth, place_depth}}
use Rattle.lil_meaning.specs.{Items.{Global, Place, Datum, loaded_at, Called, Pass, PassPlace, PassAll, PassArray, Calling, Callee, Passing, Spelling, Turns, Holding, End, Item, Perform, Activation, Going, Source, Cells, Root, Local, Object, Hole, Evaluate, PlaceOf, Fill}, World.{all_closed, World}, Steps.{current, held_in, owner_of, procedure_of, procedure_name, trap_at, trapped, next}}
use Rattle.lil_mcode.specs.{declared.machine.Event.{Event, TheVariants.{Trap, Went, Limit}}, Table.{Kept, State, Module, module_at, mstep, act, fetched, performed, going, push_row}}
use Rattle.lil_table.specs.Rows.{holding, loop_place, IsAt, PlaceAt, ExpressionAt}
use Rattle.lil_match.specs.{Goes.{IsNamed, Shared, IsTrapped, IsProgram, GoesOn, Lands, IsStill, beyond, Touches, Succeeds, Short, IsFull, Grows, Goes}, Running.{running, react, Run, mrun, advanced}, Homes.{address, shape_there, Home, extends_self, lives, Mem}, Kept.{sees_laid, sees_pushed, loops_behind}}
use Rattle.lil_match.specs.{Waits.{stutter, Frame, own_words, Setting, frames_of, inside_with, pushing, Pending, saved_words, sees, Mode, Around, RowsOf, Rows, HoldingWaits, Stack, frame_of, laid_out, at_home, Quiet, ValueOf, AtPlace, Reach, Jumps, AfterJumps, Ahead, ItemWaits}, Parts.yes}
use Rattle.lil_base.specs.declared.fault.LimitKind.TheVariants as limit
use Rattle.lil_asm.specs.{declared.instr.Instr.{Instr, TheVariants.Jmp}, Stretches.{stretch_short, IsInside, decoded_inside}}

-- ---- the activation at hand, from any row

-- items that have rows end with the end of the running frame's activation
pub closed : (ctx : Setting) (k : List Item) (t : Mode) (p : ℕ) (stack : List ℕ) (c : ℕ) (a : Around) → Rows ctx k t p stack c a → current k ≡ ctx.stack.frame.activation
closed ctx [] t p stack c a r = absurd r
closed ctx (Perform (Turns x kind z step left body) ∷ k) t p stack c a r = ⊎_elim (λ b. closed ctx k _ _ _ _ _ b.then) (λ n. closed ctx k _ _ _ _ _ n.then) r.there
closed ctx (Perform (Holding place) ∷ k) t p stack c a r = closed r.there.before k _ _ _ _ _ r.there.then ∙ sym (ap (λ (c : Setting). c.stack.frame.activation) r.there.is)
closed ctx (Perform (End n) ∷ k) t p stack c a r = r.there.activation
closed ctx (Fill (Pass (Called q) kind done left) ∷ k) t p stack c a r =
    let w = r.there.pending in
    closed w.before k _ w.after _ w.later w.outer w.then ∙ sym (ap (λ (c : Setting). c.stack.frame.activation) w.is)
closed ctx (Fill (PassPlace (Called q) done left) ∷ k) t p stack c a r =
    let w = r.there.pending in
    closed w.before k _ w.after _ w.later w.outer w.then ∙ sym (ap (λ (c : Setting). c.stack.frame.activation) w.is)
closed ctx (Fill (PassAll (Called q) done left) ∷ k) t p stack c a r =
    let w = r.there.pending in
    closed w.before k _ w.after _ w.later w.outer w.then ∙ sym (ap (λ (c : Setting). c.stack.frame.activation) w.is)
closed ctx (Fill (PassArray (Called q) high done left) ∷ k) t p stack c a r =
    let w = r.there.pending in
    closed w.before k _ w.after _ w.later w.outer w.then ∙ sym (ap (λ (c : Setting). c.stack.frame.activation) w.is)
closed ctx (Fill (Calling given) ∷ k) t p stack c a r = let w = r.there in closed w.before k _ w.after _ _ w.outer w.then ∙ sym (ap (λ (c : Setting). c.stack.frame.activation) w.is)
closed ctx (i ∷ k) t p stack c a r = closed ctx k _ _ _ _ _ r.there.then

-- so do those of a call's arguments
pub pending_closed : (ctx : Setting) (k : List Item) (q : Callee) (done : List Datum) (next : List Shape) (left : Arguments) (p c : ℕ) (a : Around) → Pending ctx q done next left (RowsOf k) p c a → current k ≡ ctx.stack.frame.activation
pending_closed ctx k q done next left p c a w = closed w.before k _ w.after _ w.later w.outer w.then ∙ sym (ap (λ (c : Setting). c.stack.frame.activation) w.is)

-- the place that a WITH around holds, whose address stands in a word of the frame
pub record Held (ctx : Setting) (place : Place) (shape : Shape) (word : ℕ) : Type 0 where
  pub seen : sees (frames_of ctx.stack) place.root ≡ true
  pub living : shape_there ctx.home place ≡ shape
  pub there : is_there shape ≡ true
  pub address : ctx.home.shadow (ctx.stack.frame.at + word) ≡ address ctx.home place
  pub free : 4 + own_words ctx.stack.frame ≤ word
  pub low : word < ctx.stack.frame.layout.frame

pub record HeldHere (ctx : Setting) (there : Option Place) (shape : Shape) (word : ℕ) : Type 0 where
  pub place : Place
  pub found : there ≡ Some place
  pub held : Held ctx place shape word

-- a WITH more around
held_inside : (ctx before : Setting) (place : Place) (shape t : Shape) (n word : ℕ) → ctx ≡ inside_with before t n → Held before place shape word → Held ctx place shape word
held_inside ctx before place shape t n word is h =
    subst (λ (c : Setting). Held c place shape word) (sym is)
    (record {
      seen = sees_laid before.stack.frame (holding before.stack.frame.layout t n) (before.stack.callers ++ before.stack.bodies) place.root ∙ h.seen;
      living = h.living;
      there = h.there;
      address = h.address;
      free = h.free;
      low = h.low;
    })

-- during a call's arguments
held_pushed : (ctx before : Setting) (place : Place) (shape : Shape) (n word : ℕ) → ctx ≡ pushing before n → Held before place shape word → Held ctx place shape word
held_pushed ctx before place shape n word is h =
    subst (λ (c : Setting). Held c place shape word) (sym is)
    (record {
      seen = sees_pushed before.stack.frame (n + before.stack.frame.pushed) (before.stack.callers ++ before.stack.bodies) place.root ∙ h.seen;
      living = h.living;
      there = h.there;
      address = h.address;
      free = h.free;
      low = h.low;
    })

held_pending : (ctx : Setting) (k : List Item) (q : Callee) (done : List Datum) (next : List Shape) (left : Arguments) (p c : ℕ) (a : Around) → Pending ctx q done next left (RowsOf k) p c a → (w word : ℕ) (shape : Shape)
    → slice_get ctx.stack.frame.layout.held w ≡ Some word → slice_get ctx.stack.frame.layout.scope.held w ≡ Some shape
    → ((y : Setting) (t : Mode) (p : ℕ) (stack : List ℕ) (c : ℕ) (a : Around) → Rows y k t p stack c a → slice_get y.stack.frame.layout.held w ≡ Some word → slice_get y.stack.frame.layout.scope.held w ≡ Some shape → HeldHere y (held_in k w) shape word)
    → HeldHere ctx (held_in k w) shape word
held_pending ctx k q done next left p c a r w word shape at typed rest =
    let h = rest r.before _ r.after _ r.later r.outer r.then (sym (ap (λ (y : Setting). slice_get y.stack.frame.layout.held w) r.is) ∙ at) (sym (ap (λ (y : Setting). slice_get y.stack.frame.layout.scope.held w) r.is) ∙ typed) in
    record { place = h.place; found = h.found; held = held_pushed ctx r.before h.place shape (saved_words r.resumed + (4 + all_words r.shapes)) word r.is h.held }

no_word : (word : ℕ) → None ≡ Some word → ⊥
no_word word e = cc

none_in : (xs : List ℕ) (w word : ℕ) → xs ≡ [] → slice_get xs w ≡ Some word → ⊥
none_in [] w word e h = no_word word h
none_in (x ∷ xs) w word e h = cc

pub held_here : (ctx : Setting) (k : List Item) (t : Mode) (p : ℕ) (stack : List ℕ) (c : ℕ) (a : Around) → Rows ctx k t p stack c a → (w word : ℕ) (shape : Shape)
    → slice_get ctx.stack.frame.layout.held w ≡ Some word → slice_get ctx.stack.frame.layout.scope.held w ≡ Some shape → HeldHere ctx (held_in k w) shape word
held_here ctx [] t p stack c a r w word shape at typed = absurd r
held_here ctx (Perform (Turns x kind z step left body) ∷ k) t p stack c a r w word shape at typed =
    ⊎_elim (λ b. held_here ctx k _ _ _ _ _ b.then w word shape at typed) (λ n. held_here ctx k _ _ _ _ _ n.then w word shape at typed) r.there
held_here ctx (Perform (Holding place) ∷ k) t p stack c a r w word shape at typed =
    by (λ v at typed. held_here r.there.before k _ _ _ _ _ r.there.then v word shape at typed) w at typed
  where
    y : HoldingWaits ctx place (RowsOf k) t r.start stack r.later a
    y = r.there

    held_is : ctx.stack.frame.layout.held ≡ loop_place r.there.outer.taken ∷ r.there.before.stack.frame.layout.held
    held_is = ap (λ (c : Setting). c.stack.frame.layout.held) r.there.is

    scope_is : ctx.stack.frame.layout.scope.held ≡ r.there.shape ∷ r.there.before.stack.frame.layout.scope.held
    scope_is = ap (λ (c : Setting). c.stack.frame.layout.scope.held) r.there.is

    by : ((v : ℕ) → slice_get r.there.before.stack.frame.layout.held v ≡ Some word → slice_get r.there.before.stack.frame.layout.scope.held v ≡ Some shape → HeldHere r.there.before (held_in k v) shape word)
        → (w : ℕ) → slice_get ctx.stack.frame.layout.held w ≡ Some word → slice_get ctx.stack.frame.layout.scope.held w ≡ Some shape → HeldHere ctx (held_in (Perform (Holding place) ∷ k) w) shape word
    by inner zero at typed =
        let word_is : loop_place y.outer.taken ≡ word = same_Some (loop_place y.outer.taken) word (sym (ap (λ (l : List ℕ). slice_get l 0) held_is) ∙ at) in
        let shape_is : r.there.shape ≡ shape = same_Some r.there.shape shape (sym (ap (λ (l : List Shape). slice_get l 0) scope_is) ∙ typed) in
        record {
          place = place;
          found = refl;
          held = record {
            seen = y.seen;
            living = y.living ∙ shape_is;
            there = sym (ap is_there shape_is) ∙ y.there;
            address = ap (λ (z : ℕ). ctx.home.shadow (ctx.stack.frame.at + z)) (sym word_is) ∙ y.word;
            free = omega (arith, word_is, loops_behind k y.before _ _ _ _ y.outer y.then, ap (λ (c : Setting). own_words c.stack.frame) y.is);
            low = omega (arith, word_is, y.room, ap (λ (c : Setting). c.stack.frame.layout.frame) y.is);
          };
        }
    by inner (suc v) at typed =
        let h = inner v (sym (ap (λ (l : List ℕ). slice_get l (suc v)) held_is) ∙ at) (sym (ap (λ (l : List Shape). slice_get l (suc v)) scope_is) ∙ typed) in
        record { place = h.place; found = h.found; held = held_inside ctx y.before h.place shape y.shape (loop_place y.outer.taken) word y.is h.held }
held_here ctx (Perform (End n) ∷ k) t p stack c a r w word shape at typed = absurd (none_in ctx.stack.frame.layout.held w word r.there.free at)
held_here ctx (Fill (Pass (Called q) kind done left) ∷ k) t p stack c a r w word shape at typed =
    held_pending ctx k q done _ left _ _ a r.there.pending w word shape at typed (λ y t p stack c a rows at typed. held_here y k t p stack c a rows w word shape at typed)
held_here ctx (Fill (PassPlace (Called q) done left) ∷ k) t p stack c a r w word shape at typed =
    held_pending ctx k q done _ left _ _ a r.there.pending w word shape at typed (λ y t p stack c a rows at typed. held_here y k t p stack c a rows w word shape at typed)
held_here ctx (Fill (PassAll (Called q) done left) ∷ k) t p stack c a r w word shape at typed =
    held_pending ctx k q done _ left _ _ a r.there.pending w word shape at typed (λ y t p stack c a rows at typed. held_here y k t p stack c a rows w word shape at typed)
held_here ctx (Fill (PassArray (Called q) high done left) ∷ k) t p stack c a r w word shape at typed =
    held_pending ctx k q done _ left _ _ a r.there.pending w word shape at typed (λ y t p stack c a rows at typed. held_here y k t p stack c a rows w word shape at typed)
held_here ctx (Fill (Calling given) ∷ k) t p stack c a r w word shape at typed =
    let v = r.there in
    let h = held_here v.before k _ v.after _ _ v.outer v.then w word shape (sym (ap (λ (y : Setting). slice_get y.stack.frame.layout.held w) v.is) ∙ at) (sym (ap (λ (y : Setting). slice_get y.stack.frame.layout.scope.held w) v.is) ∙ typed) in
    record { place = h.place; found = h.found; held = held_pushed ctx v.before h.place shape (saved_words v.resumed) word v.is h.held }
held_here ctx (i ∷ k) t p stack c a r w word shape at typed = held_here ctx k _ _ _ _ _ r.there.then w word shape at typed

-- an instruction of the running frame's code is one of its module's
pub stands_inside : (ctx : Setting) {modules : List Module} {number : ℕ} {marked : Bool} → IsProgram ctx modules number marked → (p : ℕ) (i : Instr) (q : ℕ) → IsAt ctx.stack.frame.piece p i q
    → IsInside ctx.stack.frame.entry ctx.stack.frame.after ctx.stack.frame.own.code p (i, q)
stands_inside ctx g p i q there =
    let f = ctx.stack.frame in
    decoded_inside ctx.stack.frame.entry ctx.stack.frame.after ctx.stack.frame.own.code p (i, q) g.piece.within (subst (λ (code : List ℕ). IsAt code p i q) g.piece.is there)

pub inside_own : (ctx : Setting) {modules : List Module} {number : ℕ} {marked : Bool} → IsProgram ctx modules number marked → (to : ℕ) → to < length ctx.stack.frame.piece → to < length ctx.stack.frame.own.code
inside_own ctx g to less = omega (arith, less, ap length g.piece.is, stretch_short ctx.stack.frame.entry ctx.stack.frame.after ctx.stack.frame.own.code)

module _ (ctx : Setting) where
  open ctx use {library, loaded, stack as st}

  -- a trap that both sides give: the meaning names the module at hand
  pub both_trap : (s : Source) (k : List Item) (m : State) (kind : TrapKind) (i : Instr) (q : ℕ) → Shared ctx s m → IsAt st.frame.piece m.place i q → current k ≡ st.frame.activation
      → IsTrapped ctx (trap_at library (record s { items = k; phase = Going }) kind) (trapped library (record s { items = k; phase = Going }) kind) (react (Trap kind) m (running m s.world))
  both_trap s k m kind i q shared there close =
      let f = shared.standing.known in
      let place = stands_inside ctx shared.program m.place i q there in
      let here : Option Activation = slice_get ctx.activations st.frame.activation in
      let at : slice_get s.activations (current k) ≡ here =
      ap (slice_get s.activations) close ∙ ap (λ (l : List Activation). slice_get l st.frame.activation) shared.activations_are in
      record {
        is_left = record { finish = refl; first = shared.levels.none; world = ap (λ (below : List Kept). all_closed (suc (length below)) s.world) shared.levels.none_below };
        table_is = shared.program.table_is;
        running_is = shared.program.running_is;
        known = f.known;
        name = cc (at, f.owner, shared.loaded_are, f.named);
        procedure =
            subst (IsNamed st.frame)
            (let same : procedure_name (loaded_at library loaded st.frame.number) st.frame.procedure ≡ procedure_name (loaded_at library s.loaded (owner_of (slice_get s.activations (current k)))) (procedure_of (slice_get s.activations (current k))) = cc (at, f.owner, f.called, shared.loaded_are) in same)
            f.entered;
        low = place.low;
        high = place.high;
      }

-- a step of the machine, as its row says
pub advances : (m : State) (w : World) (r : Event × State) → mstep m ≡ r → advanced (running m w) ≡ react r.0 r.1 (running m w)
advances m w r e = ap (λ (x : Event × State). react x.0 x.1 (running m w)) e

pub pushes : (w q : ℕ) (m : State) → length m.stack < 16 → push_row w q m ≡ (Went, going m q (w ∷ m.stack))
pushes w q m room = yes _ _ _ (lt-ltb (length m.stack) 16 room)

-- activations that stay
pub grows_self : (acts : List Activation) → Grows acts acts
grows_self acts i a e = e

-- a stack that stays
-- the roots that are none of their variables don't hang on what is pushed
pub beyond_pushed : (f : Frame) (n : ℕ) (fs : List Frame) (r : Root) → beyond (record f { pushed = n } ∷ fs) r ≡ beyond (f ∷ fs) r
beyond_pushed f n fs (Global m x) = refl
beyond_pushed f n fs (Local a x) = refl
beyond_pushed f n fs (Object o) = refl

pub succeeds_self : (y : Stack) (acts : List Activation) → Succeeds y y acts
succeeds_self y acts = record { base = refl; limit = omega arith; frames = λ a seen. inl seen }

-- a home that stays
pub untouched : (h : Home) (fs : List Frame) (low high : ℕ) → Touches h h fs low high
untouched h fs low high = record { owner = λ a o. refl; shadow = λ a o. refl; base = λ r b e. refl; shape = λ r b e. refl; listed = refl; workspaces = extends_self h.workspaces; fixed = λ a e. (e, refl) }

-- what lives stays
live_on : (h g : Home) (fs : List Frame) (low high : ℕ) → Touches h g fs low high → (r : Root) → beyond fs r ≡ true → lives h r ≡ true → lives g r ≡ true
live_on h g fs low high t (Global m x) b e = refl
live_on h g fs low high t (Local a x) b e = ap is_there (t.shape (Local a x) b e) ∙ e
live_on h g fs low high t (Object o) b e = ap is_there (t.shape (Object o) b e) ∙ e

pub touched : (h g i : Home) (fs : List Frame) (low high : ℕ) → Touches h g fs low high → Touches g i fs low high → Touches h i fs low high
touched h g i fs low high first second = record {
  owner = λ a o. second.owner a o ∙ first.owner a o;
  shadow = λ a o. second.shadow a o ∙ first.shadow a o;
  base = λ r b e. second.base r b (live_on h g fs low high first r b e) ∙ first.base r b e;
  shape = λ r b e. second.shape r b (live_on h g fs low high first r b e) ∙ first.shape r b e;
  listed = second.listed ∙ first.listed;
  workspaces = λ w less. let one = first.workspaces w less in let two = second.workspaces w one.0 in (two.0, two.1 ∙ one.1);
  fixed = λ a e. let one = first.fixed a e in let two = second.fixed a one.0 in (two.0, two.1 ∙ one.1);
}

module _ (ctx : Setting) where
  open ctx use {library, table, home as h, stack as st}
  open frame_of ctx use {own, piece}
  open laid_out ctx use {layout as l}

  -- the row of the instruction at hand
  pub at_step : (m : State) → IsProgram ctx m.modules m.running m.marked → (i : Instr) (q : ℕ) → IsAt piece m.place i q → mstep m ≡ act i q own m
  at_step m g i q e =
      yes m.marked (fetched m (module_at m.modules m.running)) (Limit limit.Stack, m) g.marked_is
      ∙ ap (fetched m) (ap (λ (ms : List Module). module_at ms m.running) g.table_is ∙ ap (module_at table) g.running_is ∙ g.known)
      ∙ ap (performed m own) (stands_inside ctx g m.place i q e).there

  -- a row to which no jump leads
  pub at_once : (row : Reach) (t : Mode) (p : ℕ) (stack : List ℕ) (c : ℕ) (a : Around) → row t p stack c a → AfterJumps piece row t p stack c a
  at_once row t p stack c a r = record { start = p; jumps = 0; later = c; way = refl; there = r; count = omega arith }

  -- one more jump before
  pub rows_jump : (k : List Item) (t : Mode) (p to gap : ℕ) (stack : List ℕ) (c : ℕ) (a : Around) → IsAt piece p (Jmp to) gap → to < length piece
      → Rows ctx k t to stack c a → Rows ctx k t p stack (suc c) a
  rows_jump [] t p to gap stack c a jump within r = absurd r
  rows_jump (i ∷ k) t p to gap stack c a jump within r =
      record { start = r.start; jumps = suc r.jumps; later = r.later; way = (to, gap, jump, within, r.way); there = r.there; count = omega (arith, r.count) }

  pub rows_ahead : (k : List Item) (p : ℕ) (stack : List ℕ) (c : ℕ) (a : Around) → Rows ctx k Quiet p stack c a → Ahead ctx k Quiet p stack c a
  rows_ahead [] p stack c a r = absurd r
  rows_ahead (Perform (Passing (Called q) done left) ∷ k) p stack c a r = absurd r.there.part
  rows_ahead (Perform (Spelling (Called q) cs todo done left) ∷ k) p stack c a r = absurd r.there.part
  rows_ahead (i ∷ k) p stack c a r = r

  -- other cells, in another store
  pub shared_with : (s : Source) (m : State) → Shared ctx s m → {cells : Cells} {store : List ℕ} → Mem h cells store → Shared ctx (record s { cells = cells }) (record m { store = store })
  shared_with s m shared mem =
      record { mem = mem; heap = shared.heap; unborn = shared.unborn; program = shared.program; standing = shared.standing; activations_are = shared.activations_are; parked_are = shared.parked_are; kept_are = shared.kept_are; loaded_are = shared.loaded_are; levels = shared.levels }

  -- the source goes on with these items, and the machine from that place
  pub lands_on : (s : Source) (m : State) → Shared ctx s m → (k : List Item) (q : ℕ) (stack : List ℕ) (c : ℕ) (a : Around)
      → Ahead ctx k Quiet q stack c a
      → GoesOn ctx (record s { items = k; phase = Going }) (running (going m q stack) s.world) c
  lands_on s m shared k q stack c a ahead = record {
    machine = going m q stack;
    is = refl;
    met = record { shared = shared; around = a; ahead = ahead };
  }

  abbrev pub LandsIn : Home → Stack → Source → List Item → Run → ℕ → Type 0
  LandsIn x y s k run c =
      Lands (record ctx { home = x; stack = y }) (next library (record s { items = k; phase = Going })).phase (next library (record s { items = k; phase = Going })) run c

  abbrev pub LandsAt : Source → List Item → Run → ℕ → Type 0
  LandsAt s k run c =
      Lands ctx (next library (record s { items = k; phase = Going })).phase (next library (record s { items = k; phase = Going })) run c

  -- within a budget, and so within a larger one
  pub goes_more : (s : Source) (k : List Item) (m : State) (less more : ℕ) → Goes ctx s k m less → less ≤ more → Goes ctx s k m more
  goes_more s k m less more g rises =
      record { steps = g.steps; later = g.later; activations = g.activations; home = g.home; stack = g.stack; quiet = g.quiet; lands = g.lands; touch = g.touch; same = g.same; grown = g.grown; cost = omega (arith, g.cost, rises); falls = g.falls }

  -- from other items that stutter no less, and whose step is the same
  pub goes_as : (s : Source) (i k : List Item) (m : State) (budget : ℕ) → next library (record s { items = k; phase = Going }) ≡ next library (record s { items = i; phase = Going }) → stutter i ≤ stutter k
      → Goes ctx s i m budget → Goes ctx s k m budget
  goes_as s i k m budget step no_less g = record {
    steps = g.steps;
    later = g.later;
    activations = g.activations;
    home = g.home;
    stack = g.stack;
    quiet = g.quiet;
    lands = ⊎_elim (λ l. inl (subst (λ (t : Source). Lands (record ctx { activations = g.activations; home = g.home; stack = g.stack }) t.phase t (mrun g.steps (running m s.world)) g.later) (sym step) l))
        (λ f. inr (record { kind = f.kind; finish = f.finish; world = f.world; short = subst (λ (t : Source). Short library st.base t f.kind) (sym step) f.short })) g.lands;
    touch = g.touch;
    same = g.same;
    grown = g.grown;
    cost = g.cost;
    falls = λ none. (let less = subst (λ (t : Source). stutter t.items < stutter i) (sym step) (g.falls none) in omega (arith, less, no_less));
  }

  -- no step of the machine
  pub goes_none_within : (s : Source) (k : List Item) (m : State) (budget c : ℕ) → LandsAt s k (running m s.world) c → c ≤ budget
      → stutter (next library (record s { items = k; phase = Going })).items < stutter k → Goes ctx s k m budget
  goes_none_within s k m budget c lands less falls = record {
    steps = 0;
    later = c;
    quiet = λ i less. absurd (omega arith);
    activations = ctx.activations;
    home = h;
    stack = st;
    lands = inl lands;
    grown = grows_self ctx.activations;
    touch = untouched h (frames_of st) st.base st.limit;
    same = succeeds_self st ctx.activations;
    cost = omega (arith, less);
    falls = λ e. falls;
  }

  -- the same with steps to spare
  pub goes_none : (s : Source) (k : List Item) (m : State) (spare c : ℕ) → LandsAt s k (running m s.world) c → stutter (next library (record s { items = k; phase = Going })).items < stutter k → Goes ctx s k m (c + spare)
  goes_none s k m spare c lands falls = goes_none_within s k m (c + spare) c lands (omega arith) falls

  -- no step of the machine: an expression is to come, and then a hole
  pub operand_exact : (s : Source) (k : List Item) (m : State) (c : ℕ) (a : Around) → Shared ctx s m → (items : List Item) (e : Expression) (o : Hole)
      → next library (record s { items = items; phase = Going }) ≡ record s { items = Evaluate e ∷ Fill o ∷ k; phase = Going } → stutter (Evaluate e ∷ Fill o ∷ k) < stutter items → (middle : ℕ)
      → ExpressionAt l piece e m.place middle → length m.stack + depth e ≤ 16 → middle < length piece → ItemWaits ctx (Fill o) k (RowsOf k) (ValueOf (kind_of e)) middle m.stack c a → Goes ctx s items m c
  operand_exact s k m c a shared items e o becomes lighter middle here shallow within row =
      goes_none_within s items m c c
      (subst (λ (y : Source). Lands ctx y.phase y (running m s.world) c) (sym becomes)
      (lands_on s m shared (Evaluate e ∷ Fill o ∷ k) m.place m.stack c a
      (at_once _ Quiet m.place m.stack c a
      (record { part = record { end = middle; here = here; shallow = shallow; within = within }; then = at_once _ _ middle m.stack c a row }))))
      (omega arith)
      (subst (λ (y : Source). stutter y.items < stutter items) (sym becomes) lighter)

  pub operand_goes : (s : Source) (k : List Item) (m : State) (c : ℕ) (a : Around) → Shared ctx s m → (items : List Item) (e : Expression) (o : Hole)
      → next library (record s { items = items; phase = Going }) ≡ record s { items = Evaluate e ∷ Fill o ∷ k; phase = Going } → stutter (Evaluate e ∷ Fill o ∷ k) < stutter items → (middle : ℕ)
      → ExpressionAt l piece e m.place middle → length m.stack + depth e ≤ 16 → middle < length piece → ItemWaits ctx (Fill o) k (RowsOf k) (ValueOf (kind_of e)) middle m.stack c a → Goes ctx s items m (c + 32)
  operand_goes s k m c a shared items e o becomes lighter middle here shallow within row =
      goes_more s items m c (c + 32) (operand_exact s k m c a shared items e o becomes lighter middle here shallow within row) (omega arith)

  -- no step of the machine: a place is to come, and then a hole
  pub located_goes : (s : Source) (k : List Item) (m : State) (c : ℕ) (a : Around) → Shared ctx s m → (items : List Item) (d : Designator) (o : Hole)
      → next library (record s { items = items; phase = Going }) ≡ record s { items = PlaceOf d ∷ Fill o ∷ k; phase = Going } → stutter (PlaceOf d ∷ Fill o ∷ k) < stutter items → (found : ℕ)
      → PlaceAt l piece d m.place found → length m.stack + place_depth d ≤ 16 → ItemWaits ctx (Fill o) k (RowsOf k) (AtPlace d) found m.stack c a → Goes ctx s items m (c + 32)
  located_goes s k m c a shared items d o becomes lighter found here shallow row =
      goes_none_within s items m (c + 32) c
      (subst (λ (y : Source). Lands ctx y.phase y (running m s.world) c) (sym becomes)
      (lands_on s m shared (PlaceOf d ∷ Fill o ∷ k) m.place m.stack c a
      (at_once _ Quiet m.place m.stack c a
      (record { part = record { end = found; here = here; shallow = shallow }; then = at_once _ _ found m.stack c a row }))))
      (omega arith)
      (subst (λ (y : Source). stutter y.items < stutter items) (sym becomes) lighter)

  abbrev pub LandsWith : List Activation → Home → Stack → Source → List Item → Run → ℕ → Type 0
  LandsWith acts x y s k run c =
      Lands (record ctx { activations = acts; home = x; stack = y }) (next library (record s { items = k; phase = Going })).phase (next library (record s { items = k; phase = Going })) run c

  -- one step, to another home and stack, with more activations
  pub goes_one_grown : (s : Source) (k : List Item) (m : State) (acts : List Activation) (x : Home) (y : Stack) (budget c : ℕ) (run : Run) → advanced (running m s.world) ≡ run → LandsWith acts x y s k run c
      → Touches h x (frames_of st) st.base st.limit → Succeeds y st ctx.activations → Grows acts ctx.activations → c + 1 ≤ budget → Goes ctx s k m budget
  goes_one_grown s k m acts x y budget c run e lands touch same grown less = record {
    steps = 1;
    later = c;
    activations = acts;
    home = x;
    stack = y;
    quiet = quiet;
    lands = inl (subst (λ (r : Run). LandsWith acts x y s k r c) (sym e) lands);
    touch = touch;
    same = same;
    grown = grown;
    cost = omega (arith, less);
    falls = λ e. absurd (omega arith);
  }
    where
      quiet : (i : ℕ) → i < 1 → IsStill s.world (mrun i (running m s.world))
      quiet zero less = record { world = refl; finish = refl }
      quiet (suc i) less = absurd (omega arith)

  -- one step, to another home and stack
  pub goes_one_in : (s : Source) (k : List Item) (m : State) (x : Home) (y : Stack) (budget c : ℕ) (run : Run) → advanced (running m s.world) ≡ run → LandsIn x y s k run c
      → Touches h x (frames_of st) st.base st.limit → Succeeds y st ctx.activations → c + 1 ≤ budget → Goes ctx s k m budget
  goes_one_in s k m x y budget c run e lands touch same less = goes_one_grown s k m ctx.activations x y budget c run e lands touch same (grows_self ctx.activations) less

  -- one step
  pub goes_one_within : (s : Source) (k : List Item) (m : State) (budget c : ℕ) (run : Run) → advanced (running m s.world) ≡ run → LandsAt s k run c → c + 1 ≤ budget
      → Goes ctx s k m budget
  goes_one_within s k m budget c run e lands less = goes_one_in s k m h st budget c run e lands (untouched h (frames_of st) st.base st.limit) (succeeds_self st ctx.activations) less

  -- the same with steps to spare
  pub goes_one : (s : Source) (k : List Item) (m : State) (spare c : ℕ) (run : Run) → advanced (running m s.world) ≡ run → LandsAt s k run c → Goes ctx s k m (c + (1 + spare))
  goes_one s k m spare c run e lands = goes_one_within s k m (c + (1 + spare)) c run e lands (omega arith)

  -- one step to a limit
  pub goes_full : (s : Source) (k : List Item) (m : State) (budget : ℕ) (kind : LimitKind) → mstep m ≡ (Limit kind, m)
      → Short library st.base (next library (record s { items = k; phase = Going })) kind → 1 ≤ budget → Goes ctx s k m budget
  goes_full s k m budget kind e short less = record {
    steps = 1;
    later = 0;
    activations = ctx.activations;
    home = h;
    stack = st;
    quiet = quiet;
    lands = inr (subst (λ (r : Run). IsFull library st.base (record s { items = k; phase = Going }) (next library (record s { items = k; phase = Going })) r) (sym (advances m s.world (Limit kind, m) e)) (record { kind = kind; finish = refl; world = refl; short = short }));
    touch = untouched h (frames_of st) st.base st.limit;
    same = succeeds_self st ctx.activations;
    grown = grows_self ctx.activations;
    cost = omega (arith, less);
    falls = λ e. absurd (omega arith);
  }
    where
      quiet : (i : ℕ) → i < 1 → IsStill s.world (mrun i (running m s.world))
      quiet zero less = record { world = refl; finish = refl }
      quiet (suc i) less = absurd (omega arith)

  -- one step that shows nothing, and then what goes from there, in another home
  pub goes_after_in : (s : Source) (k : List Item) (m n : State) (x : Home) (budget rest : ℕ) → advanced (running m s.world) ≡ running n s.world
      → Touches h x (frames_of st) st.base st.limit → Goes (at_home ctx x) s k n rest → rest + 1 ≤ budget → Goes ctx s k m budget
  goes_after_in s k m n x budget rest e first g less = record {
    steps = suc g.steps;
    later = g.later;
    quiet = quiet;
    activations = g.activations;
    home = g.home;
    stack = g.stack;
    lands = ⊎_elim (λ l. inl (subst (λ (r : Run). LandsWith g.activations g.home g.stack s k (mrun g.steps r) g.later) (sym e) l))
        (λ f. inr (subst (λ (r : Run). IsFull library st.base (record s { items = k; phase = Going }) (next library (record s { items = k; phase = Going })) (mrun g.steps r)) (sym e) f)) g.lands;
    grown = g.grown;
    touch = touched h x g.home (frames_of st) st.base st.limit first g.touch;
    same = g.same;
    cost = omega (arith, less, g.cost);
    falls = λ e. absurd (omega arith);
  }
    where
      quiet : (i : ℕ) → i < suc g.steps → IsStill s.world (mrun i (running m s.world))
      quiet zero less = record { world = refl; finish = refl }
      quiet (suc i) less = subst (λ (r : Run). IsStill s.world (mrun i r)) (sym e) (g.quiet i (omega arith))

  -- the same where more words are pushed then
  pub goes_after_pushed : (s : Source) (k : List Item) (m n : State) (x : Home) (w : ℕ) (budget rest : ℕ) → advanced (running m s.world) ≡ running n s.world
      → Touches h x (frames_of st) st.base st.limit → Goes (pushing (at_home ctx x) w) s k n rest → rest + 1 ≤ budget → Goes ctx s k m budget
  goes_after_pushed s k m n x w budget rest e first g less =
      goes_after_in s k m n x budget rest e first (record {
        steps = g.steps;
        later = g.later;
        quiet = g.quiet;
        activations = g.activations;
        home = g.home;
        stack = g.stack;
        lands = g.lands;
        grown = g.grown;
        touch = record {
          owner = g.touch.owner;
          shadow = g.touch.shadow;
          base = λ r away e. g.touch.base r (beyond_pushed st.frame (w + st.frame.pushed) (st.callers ++ st.bodies) r ∙ away) e;
          shape = λ r away e. g.touch.shape r (beyond_pushed st.frame (w + st.frame.pushed) (st.callers ++ st.bodies) r ∙ away) e;
          listed = g.touch.listed;
          workspaces = g.touch.workspaces;
          fixed = g.touch.fixed;
        };
        same = record { base = g.same.base; limit = g.same.limit; frames = g.same.frames };
        cost = g.cost;
        falls = g.falls;
      }) less

  pub goes_after : (s : Source) (k : List Item) (m n : State) (budget rest : ℕ) → advanced (running m s.world) ≡ running n s.world
      → Goes ctx s k n rest → rest + 1 ≤ budget → Goes ctx s k m budget
  goes_after s k m n budget rest e g less = goes_after_in s k m n h budget rest e (untouched h (frames_of st) st.base st.limit) g less

  -- a jump of the machine
  pub jumps_to : (m : State) (w : World) → IsProgram ctx m.modules m.running m.marked → (to gap : ℕ) → IsAt piece m.place (Jmp to) gap → to < length piece
      → advanced (running m w) ≡ running (going m to m.stack) w
  jumps_to m w g to gap e within = advances m w _ (at_step m g (Jmp to) gap e ∙ yes _ _ _ (lt-ltb to (length own.code) (inside_own ctx g to within)))

  -- jumps, and then what goes from where they lead
  pub jumped : (s : Source) (k : List Item) (j : ℕ) (m : State) (start budget rest : ℕ) → IsProgram ctx m.modules m.running m.marked → Jumps piece j m.place start
      → Goes ctx s k (going m start m.stack) rest → rest + j ≤ budget → Goes ctx s k m budget
  jumped s k zero m start budget rest g way goes less =
      goes_more s k m rest budget (subst (λ (p : ℕ). Goes ctx s k (going m p m.stack) rest) (sym way) goes) (omega (arith, less))
  jumped s k (suc j) m start budget rest g way goes less =
      goes_after s k m (going m way.0 m.stack) budget (rest + j)
      (jumps_to m s.world g way.0 way.1 way.2 way.3)
      (jumped s k j (going m way.0 m.stack) start (rest + j) rest g way.4 goes (omega arith))
      (omega (arith, less))
