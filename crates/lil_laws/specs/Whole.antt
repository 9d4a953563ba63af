-- Whole runs: after any number of steps, the machine has shown what some state of the meaning has.
use Rattle.std.proofs.Common.{◌≡◌, ◌≢◌, ℕ, zero, suc, ◌+◌, ◌-◌, ◌*◌, ◌<◌, ◌≤◌, List, [], length, Option, Some, None, refl, sym, ap, ◌∙◌, subst, ⊎_elim, arith, zero-add, suc-add}
use Rattle.std.specs.Prelude.{slice_get}
use Rattle.std.proofs.lemmas.Bool.{cases_lt}
use Rattle.lil_base.specs.declared.fault.{TrapKind.TrapKind, LimitKind.LimitKind, TrapAt.TrapAt}
use Rattle.lil_resolved.specs.Resolved.{Resolved}
use Rattle.lil_meaning.specs.{World.{World, closing, closings_left, all_closed}, Closings.{none_left, all_none, all_some, fewer_left, some_left, closing_shuts}, Items.{Item, Activation, Level, Phase, Going, Closing, Ended, Trapped, Source}, Steps.{next, by_phase, left_by, over, over_by}, Runs.after}
use Rattle.lil_mcode.specs.Table.{Module, State, module_at, mstep}
use Rattle.lil_match.specs.{Goes.{IsApart, IsNamed, Shared, Lands, IsStill, Short, IsFull, Goes}, Running.{Finish, Running, Finished, TrappedBy, Limited, Broken, Run, mrun, running, react, advanced, unless_over}, Homes.Home, Waits.{stutter, Frame, Stack, Setting, Quiet, Around, Ahead}, Resting.{EachRests, each_rests}}
use Rattle.lil_laws.specs.Each.{each_step}

-- a state that has trapped, in the code of a procedure of the module of the table that runs
pub record TrapsIn (table : List Module) (k : TrapKind) (machine : State) (p : Phase) : Type 0 where
  pub table_is : machine.modules ≡ table
  pub own : Module
  pub known : module_at table machine.running ≡ Some own
  pub number : ℕ
  pub name : Option (List ℕ)
  pub entry : ℕ
  pub after : ℕ
  pub there : slice_get own.procedures number ≡ Some (entry, name)
  pub apart : IsApart own.procedures number entry after
  pub low : entry ≤ machine.place
  pub high : machine.place < after
  pub is : p ≡ Trapped (record { kind = k; «module» = own.name; procedure = name })

-- what is said of the source by how the run stands, where a limit comes only from such states
abbrev pub Claims : List Module → (LimitKind → Source → Type 0) → State → Source → Finish → Type 0
Claims table limits machine t Running = t.phase ≡ Going
Claims table limits machine t Finished = t.phase ≡ Ended
Claims table limits machine t (TrappedBy k) = TrapsIn table k machine t.phase
Claims table limits machine t (Limited k) = limits k t
Claims table limits machine t Broken = ⊥

-- The run has the world of the source's state, and is over only where the source is, in the same way, but at a limit.
pub record Agrees (table : List Module) (limits : LimitKind → Source → Type 0) (t : Source) (run : Run) : Type 0 where
  pub world : run.world ≡ t.world
  pub claims : Claims table limits run.machine t run.finish

pub claimed : {table : List Module} {limits : LimitKind → Source → Type 0} {t : Source} {run : Run} (f : Finish) → Agrees table limits t run → run.finish ≡ f → Claims table limits run.machine t f
claimed {table} {limits} {t} {run} f a is = subst (λ (x : Finish). Claims table limits run.machine t x) is a.claims

agree : (table : List Module) (limits : LimitKind → Source → Type 0) (t : Source) (run : Run) (f : Finish) → run.world ≡ t.world → run.finish ≡ f → Claims table limits run.machine t f → Agrees table limits t run
agree table limits t run f w is claims = record { world = w; claims = subst (λ (x : Finish). Claims table limits run.machine t x) (sym is) claims }

pub mrun_add : (i n j : ℕ) (run : Run) → n ≡ i + j → mrun n run ≡ mrun j (mrun i run)
mrun_add zero n j run e = let same : n ≡ j = omega arith in ap (λ (x : ℕ). mrun x run) same
mrun_add (suc i) zero j run e = absurd (omega arith)
mrun_add (suc i) (suc n) j run e = mrun_add i n j (advanced run) (omega arith)

pub run_rests : (n : ℕ) (run : Run) → advanced run ≡ run → mrun n run ≡ run
run_rests zero run e = refl
run_rests (suc n) run e = ap (mrun n) e ∙ run_rests n run e

pub run_over : (run : Run) (f : Finish) → run.finish ≡ f → f ≢ Running → advanced run ≡ run
run_over run Running e d = absurd (d refl)
run_over run _ e d = ap (λ (f : Finish). unless_over f run (react (mstep run.machine).0 (mstep run.machine).1 run)) e

pub source_rests : (library : List Resolved) (n : ℕ) (s : Source) → next library s ≡ s → after library n s ≡ s
source_rests library zero s e = refl
source_rests library (suc n) s e = ap (after library n) e ∙ source_rests library n s e

pub ended_rests : (library : List Resolved) (s : Source) → s.phase ≡ Ended → next library s ≡ s
ended_rests library s e = ap (λ (p : Phase). by_phase library p s) e

pub trapped_rests : (library : List Resolved) (s : Source) (t : TrapAt) → s.phase ≡ Trapped t → next library s ≡ s
trapped_rests library s t e = ap (λ (p : Phase). by_phase library p s) e

-- n steps and then k
pub after_sum : (library : List Resolved) (n k : ℕ) (s : Source) → after library (n + k) s ≡ after library k (after library n s)
after_sum library zero k s = ap (λ (i : ℕ). after library i s) (zero-add k)
after_sum library (suc n) k s = ap (λ (i : ℕ). after library i s) (suc-add n k) ∙ after_sum library n k (next library s)

-- ---- the closings of the first level
-- a step that closes something, and the last one
one_closed : (library : List Resolved) (end : Option TrapAt) (s : Source) (v : World) → s.phase ≡ Closing end → s.waiting ≡ [] → closing 1 s.world ≡ Some v → next library s ≡ record s { world = v; phase = Closing end }
one_closed library end s v e first is =
    ap (λ (p : Phase). by_phase library p s) e ∙ ap (λ (l : List Level). left_by end (closing (suc (length l)) s.world) s) first ∙ ap (λ (o : Option World). left_by end o s) is

none_closed : (library : List Resolved) (end : Option TrapAt) (s : Source) → s.phase ≡ Closing end → s.waiting ≡ [] → closing 1 s.world ≡ None → next library s ≡ record s { phase = over_by end }
none_closed library end s e first is =
    ap (λ (p : Phase). by_phase library p s) e ∙ ap (λ (l : List Level). left_by end (closing (suc (length l)) s.world) s) first ∙ ap (λ (o : Option World). left_by end o s) is
    ∙ ap (λ (l : List Level). over l end s) first

-- so many steps close all that is open, and the level is over
pub record IsClosed (library : List Resolved) (end : Option TrapAt) (s : Source) : Type 0 where
  pub steps : ℕ
  pub is : after library steps s ≡ record s { world = all_closed 1 s.world; phase = over_by end }

is_closed : (library : List Resolved) (end : Option TrapAt) (n : ℕ) (s : Source) → s.phase ≡ Closing end → s.waiting ≡ [] → closings_left 1 s.world ≡ n → IsClosed library end s
is_closed library end zero s e first left =
    let none : closing 1 s.world ≡ None = some_left 1 s.world left in
    record {
      steps = 1;
      is = none_closed library end s e first none ∙ ap (λ (w : World). let t : Source = record s { world = w; phase = over_by end } in t) (sym (all_none 1 s.world none));
    }
is_closed library end (suc n) s e first left = by (closing 1 s.world) refl (λ v is. is_closed library end n (record s { world = v; phase = Closing end }) refl first (fewer_left 1 s.world v n is left))
  where
    by : (o : Option World) → closing 1 s.world ≡ o → ((v : World) → closing 1 s.world ≡ Some v → IsClosed library end (record s { world = v; phase = Closing end })) → IsClosed library end s
    by None is rest = absurd (omega (arith, none_left 1 s.world is, left))
    by (Some v) is rest =
        let r = rest v is in
        record {
          steps = suc r.steps;
          is = ap (after library r.steps) (one_closed library end s v e first is) ∙ r.is
              ∙ ap (λ (w : World). let t : Source = record s { world = w; phase = over_by end } in t) (sym (all_some 1 s.world v is));
        }

over_rests : (library : List Resolved) (end : Option TrapAt) (s : Source) → s.phase ≡ over_by end → next library s ≡ s
over_rests library None s e = ended_rests library s e
over_rests library (Some t) s e = trapped_rests library s t e

-- closings show nothing
pub closed_screen : (library : List Resolved) (end : Option TrapAt) (n : ℕ) (s : Source) → s.phase ≡ Closing end → s.waiting ≡ [] → (after library n s).world.screen ≡ s.world.screen
closed_screen library end zero s e first = refl
closed_screen library end (suc n) s e first = by (closing 1 s.world) refl (λ v. closed_screen library end n (record s { world = v; phase = Closing end }) refl first)
  where
    by : (o : Option World) → closing 1 s.world ≡ o → ((v : World) → (after library n (record s { world = v; phase = Closing end })).world.screen ≡ v.screen) → (after library n (next library s)).world.screen ≡ s.world.screen
    by None is rest =
        let closed : Source = record s { phase = over_by end } in
        ap (λ (t : Source). (after library n t).world.screen) (none_closed library end s e first is)
        ∙ ap (λ (t : Source). t.world.screen) (source_rests library n closed (over_rests library end closed refl))
    by (Some v) is rest = ap (λ (t : Source). (after library n t).world.screen) (one_closed library end s v e first is) ∙ rest v ∙ (closing_shuts 1 s.world v is).screen

-- the same with limits from more states
pub agrees_more : (table : List Module) (limits more : LimitKind → Source → Type 0) (t : Source) (run : Run) → ((k : LimitKind) → limits k t → more k t) → Agrees table limits t run → Agrees table more t run
agrees_more table limits more t run wider a = record { world = a.world; claims = by run.finish a.claims }
  where
    by : (f : Finish) → Claims table limits run.machine t f → Claims table more run.machine t f
    by (Limited k) e = wider k e
    by Running e = e
    by Finished e = e
    by (TrappedBy k) e = e
    by Broken e = e

pub still_agrees : (table : List Module) (limits : LimitKind → Source → Type 0) (s : Source) (k : List Item) (run : Run) → IsStill s.world run → Agrees table limits (record s { items = k; phase = Going }) run
still_agrees table limits s k run h = agree table limits (record s { items = k; phase = Going }) run Running h.world h.finish refl

trapped_agrees : (table : List Module) (limits : LimitKind → Source → Type 0) (s : Source) (run : Run) (t : TrapAt) (frame : Frame) → s.phase ≡ Trapped t → run.finish ≡ TrappedBy t.kind → run.world ≡ s.world
    → run.machine.modules ≡ table → module_at table run.machine.running ≡ Some frame.own → t.«module» ≡ frame.own.name → IsNamed frame t.procedure → frame.entry ≤ run.machine.place → run.machine.place < frame.after → Agrees table limits s run
trapped_agrees table limits s run t frame over f w same_table known named procedure low high =
    agree table limits s run (TrappedBy t.kind) w f
    (record {
      table_is = same_table;
      own = frame.own;
      known = known;
      number = frame.procedure;
      name = t.procedure;
      entry = frame.entry;
      after = frame.after;
      there = procedure.there;
      apart = procedure.apart;
      low = low;
      high = high;
      is = over ∙ ap (λ (x : List ℕ). Trapped (record t { «module» = x })) named;
    })

-- a run that met no limit
abbrev pub Unlimited : Run → Type 0
Unlimited run = (k : LimitKind) → run.finish ≢ Limited k

module _ (ctx : Setting) where
  open ctx use {library, table}

  -- the setting with the home and the stack that a step has come to
  abbrev at : List Activation → Home → Stack → Setting
  at acts x y = record ctx { activations = acts; home = x; stack = y }

  -- a limit comes only where the next state needs more than the store has
  abbrev pub limits : LimitKind → Source → Type 0
  limits k t = Short library ctx.stack.base (next library t) k

  -- a matched state, with all stacks that don't run
  abbrev Matched : List Activation → Home → Stack → Source → List Item → State → ℕ → Around → Type 0
  Matched acts x y s k m c a =
      EachRests (at acts x y) ctx.parked ctx.kept × Shared (at acts x y) s m × Ahead (at acts x y) k Quiet m.place m.stack c a × (y.base ≡ ctx.stack.base)

  -- After so many steps of the machine, from a state of the meaning with so many jumps owed: some later state agrees, one that is far
  -- enough.
  pub record Follows (s : Source) (run : Run) (steps c : ℕ) : Type 0 where
    pub n : ℕ
    pub agrees : Agrees table limits (after library n s) (mrun steps run)
    pub far : Unlimited (mrun steps run) → steps < 32 * n + 32 + c

  -- where both are over, they stay
  over_follows : (s : Source) (run : Run) (steps c : ℕ) → Agrees table limits s run → next library s ≡ s → advanced run ≡ run → Follows s run steps c
  over_follows s run steps c a rs rr = record {
    n = steps;
    agrees =
        subst (λ (t : Source). Agrees table limits t (mrun steps run)) (sym (source_rests library steps s rs))
        (subst (λ (r : Run). Agrees table limits s r) (sym (run_rests steps run rr)) a);
    far = λ u. omega arith;
  }

  -- the same from an earlier state of the source
  later_follows : (s t : Source) (run : Run) (steps c n : ℕ) → after library n s ≡ t → Follows t run steps c → Follows s run steps c
  later_follows s t run steps c n is f = record {
    n = n + f.n;
    agrees = subst (λ (x : Source). Agrees table limits x (mrun steps run)) (sym (after_sum library n f.n s ∙ ap (after library f.n) is)) f.agrees;
    far = λ u. omega (arith, f.far u);
  }

  -- what is claimed of so many steps, from each matched state whose items have a property
  abbrev Claim : ℕ → (List Item → Type 0) → Type 0
  Claim steps P =
      (acts : List Activation) (x : Home) (y : Stack) (s : Source) (k : List Item) (m : State) (c : ℕ) (a : Around) → Matched acts x y s k m c a → P k → Follows (record s { items = k; phase = Going }) (running m s.world) steps c

  landed : (steps : ℕ) (P : List Item → Type 0) → Claim steps P → (acts : List Activation) (x : Home) (y : Stack) → EachRests (at acts x y) ctx.parked ctx.kept → y.base ≡ ctx.stack.base → (p : Phase) (s : Source) (run : Run) (c : ℕ) → s.phase ≡ p
      → Lands (at acts x y) p s run c → P s.items → Follows s run steps c
  landed steps P claim acts x y rests based Going s run c e lands has =
      let same : record s { items = s.items; phase = Going } ≡ s = ap (λ (p : Phase). let t : Source = record s { phase = p } in t) (sym e) in
      subst (λ (t : Source). Follows t run steps c) same
      (subst (λ (r : Run). Follows (record s { items = s.items; phase = Going }) r steps c) (sym lands.is)
      (claim acts x y s s.items lands.machine c lands.met.around (rests, lands.met.shared, lands.met.ahead, based) has))
  landed steps P claim acts x y rests based Ended s run c e lands has =
      over_follows s run steps c (agree table limits s run Finished lands.world lands.finish e) (ended_rests library s e) (run_over run Finished lands.finish (λ f. cc))
  landed steps P claim acts x y rests based (Closing None) s run c e lands has =
      let closed : Source = record s { world = all_closed 1 s.world; phase = Ended } in
      let is = is_closed library None (closings_left 1 s.world) s e lands.first refl in
      later_follows s closed run steps c is.steps is.is
      (over_follows closed run steps c (agree table limits closed run Finished lands.world lands.finish refl) (ended_rests library closed refl) (run_over run Finished lands.finish (λ f. cc)))
  landed steps P claim acts x y rests based (Closing (Some t)) s run c e lands has =
      let closed : Source = record s { world = all_closed 1 s.world; phase = Trapped t } in
      let gone = lands.is_left in
      let is = is_closed library (Some t) (closings_left 1 s.world) s e gone.first refl in
      later_follows s closed run steps c is.steps is.is
      (over_follows closed run steps c
      (trapped_agrees table limits closed run t y.frame refl gone.finish gone.world lands.table_is (ap (module_at table) lands.running_is ∙ lands.known) lands.name lands.procedure lands.low lands.high)
      (trapped_rests library closed t refl) (run_over run (TrappedBy t.kind) gone.finish (λ g. cc)))
  landed steps P claim acts x y rests based (Trapped t) s run c e lands has = absurd lands

  abbrev At : Source → List Item → Source
  At s k = record s { items = k; phase = Going }

  module _ (acts : List Activation) (x : Home) (y : Stack) (s : Source) (k : List Item) (m : State) (c : ℕ) (g : Goes (at acts x y) s k m (c + 32)) where
    -- fewer steps than those of this step of the source
    short : (steps : ℕ) → steps < g.steps → Follows (At s k) (running m s.world) steps c
    short steps less = record {
      n = 0;
      agrees = still_agrees table limits s k (mrun steps (running m s.world)) (g.quiet steps less);
      far = λ u. omega (arith, g.cost);
    }

    -- what follows from the next state of the source follows from this one
    longer : (steps rest : ℕ) → steps ≡ g.steps + rest → Follows (next library (At s k)) (mrun g.steps (running m s.world)) rest g.later → Follows (At s k) (running m s.world) steps c
    longer steps rest e f = record {
      n = suc f.n;
      agrees = subst (λ (r : Run). Agrees table limits (after library f.n (next library (At s k))) r) (sym (mrun_add g.steps steps rest (running m s.world) e)) f.agrees;
      far = λ u. omega (arith, f.far (subst Unlimited (mrun_add g.steps steps rest (running m s.world) e) u), g.cost);
    }

    -- a limit that was met
    full : (steps : ℕ) → IsFull library y.base (At s k) (next library (At s k)) (mrun g.steps (running m s.world)) → y.base ≡ ctx.stack.base → g.steps ≤ steps
        → Follows (At s k) (running m s.world) steps c
    full steps f based more =
        let over : Run = mrun g.steps (running m s.world) in
        let stays : mrun steps (running m s.world) ≡ over =
        mrun_add g.steps steps (steps - g.steps) (running m s.world) (omega (arith, more)) ∙ run_rests (steps - g.steps) (mrun g.steps (running m s.world)) (run_over (mrun g.steps (running m s.world)) (Limited f.kind) f.finish (λ e. cc)) in
        let finish : (mrun steps (running m s.world)).finish ≡ Limited f.kind = ap (λ (r : Run). r.finish) stays ∙ f.finish in
        record {
          n = 0;
          agrees = agree table limits (At s k) (mrun steps (running m s.world)) (Limited f.kind) (ap (λ (r : Run). r.world) stays ∙ f.world) finish (subst (λ (n : ℕ). Short library n (next library (At s k)) f.kind) based f.short);
          far = λ u. absurd (u f.kind finish);
        }

  -- one step of the source, and the rest by fewer steps or by less that stutters
  turn : (steps : ℕ) (acts : List Activation) (x : Home) (y : Stack) (s : Source) (k : List Item) (m : State) (c : ℕ) (a : Around) → ((rest : ℕ) → rest < steps → Claim rest (λ i. Unit {0})) → Claim steps (λ i. stutter i < stutter k)
      → Matched acts x y s k m c a → Follows (At s k) (running m s.world) steps c
  turn steps acts x y s k m c a fewer lighter met =
      ⊎_elim (λ less. short acts x y s k m c g steps less) (λ more. ⊎_elim (λ lands. by_lands more lands) (λ f. full acts x y s k m c g steps f met.3 more) g.lands) (cases_lt steps g.steps)
    where
      g : Goes (at acts x y) s k m (c + 32)
      g = each_step (at acts x y) s m c a met.1 k met.2

      rests : EachRests (at g.activations g.home g.stack) ctx.parked ctx.kept
      rests = each_rests (at acts x y) g.activations g.home g.stack g.grown g.touch g.same ctx.parked ctx.kept met.0

      based : g.stack.base ≡ ctx.stack.base
      based = g.same.base ∙ met.3

      by_lands : g.steps ≤ steps → Lands (at g.activations g.home g.stack) (next library (At s k)).phase (next library (At s k)) (mrun g.steps (running m s.world)) g.later → Follows (At s k) (running m s.world) steps c
      by_lands more lands =
          ⊎_elim (λ (some : 0 < g.steps).
          longer acts x y s k m c g steps (steps - g.steps) (omega (arith, more))
          (landed (steps - g.steps) (λ i. Unit {0}) (fewer (steps - g.steps) (omega (arith, more, some))) g.activations g.home g.stack rests based (next library (At s k)).phase (next library (At s k)) (mrun g.steps (running m s.world)) g.later refl lands tt))
          (λ (none : g.steps ≤ 0).
          longer acts x y s k m c g steps steps (omega (arith, none))
          (landed steps (λ i. stutter i < stutter k) lighter g.activations g.home g.stack rests based (next library (At s k)).phase (next library (At s k)) (mrun g.steps (running m s.world)) g.later refl lands (g.falls (omega (arith, none)))))
          (cases_lt 0 g.steps)

  -- by the number of steps, and for each by how long the items can stutter
  inner : (bound : ℕ) → ((steps : ℕ) → steps ≤ bound → Claim steps (λ i. Unit {0})) → (most : ℕ) (steps : ℕ) → steps ≤ suc bound → Claim steps (λ i. stutter i < most)
  inner bound outer zero steps le acts x y s k m c a met has = absurd (omega arith)
  inner bound outer (suc most) steps le acts x y s k m c a met has =
      turn steps acts x y s k m c a (λ rest less. outer rest (omega arith))
      (λ acts' x' y' s' k' m' c' a' met' has'. inner bound outer most steps le acts' x' y' s' k' m' c' a' met' (omega arith)) met

  outer : (bound : ℕ) (steps : ℕ) → steps ≤ bound → Claim steps (λ i. Unit {0})
  outer zero steps le acts x y s k m c a met has =
      let e : 0 ≡ steps = omega arith in
      subst (λ (n : ℕ). Follows (At s k) (running m s.world) n c) e
      (record { n = 0; agrees = still_agrees table limits s k (running m s.world) (record { world = refl; finish = refl }); far = λ u. omega arith })
  outer (suc bound) steps le acts x y s k m c a met has = inner bound (outer bound) (suc (stutter k)) steps le acts x y s k m c a met (omega arith)

  -- from a matched state the machine shows what the source means
  pub follows : (s : Source) (k : List Item) (m : State) (steps c : ℕ) (a : Around) → EachRests ctx ctx.parked ctx.kept → Shared ctx s m → Ahead ctx k Quiet m.place m.stack c a
      → Follows (At s k) (running m s.world) steps c
  follows s k m steps c a rests shared ahead = outer steps steps (omega arith) ctx.activations ctx.home ctx.stack s k m c a (rests, shared, ahead, refl) tt
