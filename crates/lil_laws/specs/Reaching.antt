-- A run shows all that the meaning does, unless it meets a limit.
use Rattle.std.proofs.Common.{◌≡◌, ◌⊎◌, inl, inr, ⊎_elim, ℕ, zero, suc, ◌+◌, ◌≤◌, Option, Some, None, List, refl, sym, ap, ◌∙◌, subst, arith}
use Rattle.lil_base.specs.declared.fault.{LimitKind.LimitKind, TrapAt.TrapAt}
use Rattle.lil_resolved.specs.Resolved.{Resolved}
use Rattle.lil_meaning.specs.{World.World, Closings.all_screen, Items.{Item, Activation, Phase, Going, Closing, Ended, Trapped, Source}, Steps.next, Runs.after}
use Rattle.lil_mcode.specs.Table.{State}
use Rattle.lil_match.specs.{Goes.{Shared, Lands, IsLeft}, Running.{Finish, Finished, TrappedBy, Limited, Run, mrun, running}, Homes.Home, Waits.{Stack, Setting, Quiet, Around, Ahead}, Resting.{EachRests, each_rests}}
use Rattle.lil_laws.specs.{Each.each_step, Whole.{mrun_add, source_rests, ended_rests, closed_screen}}

-- After some number of steps the run has shown what the source has after n: it has come to that state, or to an earlier one at a limit.
pub record Reaches (library : List Resolved) (s : Source) (run : Run) (n : ℕ) : Type 0 where
  pub state : ℕ
  pub within : state ≤ n
  pub steps : ℕ
  pub screen : (mrun steps run).world.screen ≡ (after library state s).world.screen
  pub all : (state ≡ n) ⊎ ((k : LimitKind) × ((mrun steps run).finish ≡ Limited k))

module _ (library : List Resolved) where
  -- a run that has shown all
  at_once : (s : Source) (run : Run) (n : ℕ) → run.world.screen ≡ (after library n s).world.screen → Reaches library s run n
  at_once s run n is = record { state = n; within = omega arith; steps = 0; screen = is; all = inl refl }

  -- the same of a run from which another comes by some steps
  pub reaches_before : (s : Source) (run later : Run) (steps n : ℕ) → mrun steps run ≡ later → Reaches library s later n → Reaches library s run n
  reaches_before s run later steps n is r =
      let all : mrun (steps + r.steps) run ≡ mrun r.steps later = mrun_add steps (steps + r.steps) r.steps run refl ∙ ap (mrun r.steps) is in
      record {
        state = r.state;
        within = r.within;
        steps = steps + r.steps;
        screen = ap (λ (x : Run). x.world.screen) all ∙ r.screen;
        all = ⊎_elim (λ same. inl same) (λ l. inr (l.0, ap (λ (x : Run). x.finish) all ∙ l.1)) r.all;
      }

  -- the same of the state before
  reaches_next : (s : Source) (run : Run) (n : ℕ) → Reaches library (next library s) run n → Reaches library s run (suc n)
  reaches_next s run n r = record {
    state = suc r.state;
    within = omega (arith, r.within);
    steps = r.steps;
    screen = r.screen;
    all = ⊎_elim (λ same. inl (ap suc same)) (λ l. inr l) r.all;
  }

module _ (ctx : Setting) where
  open ctx use {library}

  -- the setting with the home and the stack that a step has come to
  abbrev at : List Activation → Home → Stack → Setting
  at acts x y = record ctx { activations = acts; home = x; stack = y }

  abbrev At : Source → List Item → Source
  At s k = record s { items = k; phase = Going }

  -- a matched state, with all stacks that don't run
  abbrev Matched : List Activation → Home → Stack → Source → List Item → State → ℕ → Around → Type 0
  Matched acts x y s k m c a = EachRests (at acts x y) ctx.parked ctx.kept × Shared (at acts x y) s m × Ahead (at acts x y) k Quiet m.place m.stack c a

  -- the closings of a run that has ended show nothing
  closed_there : (n : ℕ) (end : Option TrapAt) (f : Finish) (s : Source) (run : Run) → s.phase ≡ Closing end → IsLeft f s run → Reaches library s run n
  closed_there n end f s run e gone = at_once library s run n (ap (λ (w : World). w.screen) gone.world ∙ all_screen 1 s.world ∙ sym (closed_screen library end n s e gone.first))

  abbrev Claim : ℕ → Type 0
  Claim n = (acts : List Activation) (x : Home) (y : Stack) (s : Source) (k : List Item) (m : State) (c : ℕ) (a : Around) → Matched acts x y s k m c a → Reaches library (At s k) (running m s.world) n

  reaches_landed : (n : ℕ) → Claim n → (acts : List Activation) (x : Home) (y : Stack) → EachRests (at acts x y) ctx.parked ctx.kept → (p : Phase) (s : Source) (run : Run) (c : ℕ) → s.phase ≡ p → Lands (at acts x y) p s run c → Reaches library s run n
  reaches_landed n claim acts x y rests Going s run c e lands =
      let same : At s s.items ≡ s = ap (λ (p : Phase). let t : Source = record s { phase = p } in t) (sym e) in
      subst (λ (t : Source). Reaches library t run n) same
      (subst (λ (r : Run). Reaches library (At s s.items) r n) (sym lands.is)
      (claim acts x y s s.items lands.machine c lands.met.around (rests, lands.met.shared, lands.met.ahead)))
  reaches_landed n claim acts x y rests Ended s run c e lands =
      at_once library s run n (ap (λ (w : World). w.screen) lands.world ∙ ap (λ (t : Source). t.world.screen) (sym (source_rests library n s (ended_rests library s e))))
  reaches_landed n claim acts x y rests (Closing None) s run c e lands = closed_there n None Finished s run e lands
  reaches_landed n claim acts x y rests (Closing (Some t)) s run c e lands = closed_there n (Some t) (TrappedBy t.kind) s run e lands.is_left
  reaches_landed n claim acts x y rests (Trapped t) s run c e lands = absurd lands

  reaches_in : (n : ℕ) → Claim n
  reaches_in zero acts x y s k m c a met = at_once library (At s k) (running m s.world) 0 refl
  reaches_in (suc n) acts x y s k m c a met =
      let g = each_step (at acts x y) s m c a met.1 k met.2 in
      let run : Run = mrun g.steps (running m s.world) in
      ⊎_elim (λ lands.
      reaches_before library (At s k) (running m s.world) run g.steps (suc n) refl
      (reaches_next library (At s k) run n
      (reaches_landed n (reaches_in n) g.activations g.home g.stack (each_rests (at acts x y) g.activations g.home g.stack g.grown g.touch g.same ctx.parked ctx.kept met.0) (next library (At s k)).phase (next library (At s k)) run g.later refl lands)))
      (λ f. full s k m n g.steps f.kind f.world f.finish) g.lands
    where
      full : (s : Source) (k : List Item) (m : State) (n steps : ℕ) (kind : LimitKind) → (mrun steps (running m s.world)).world ≡ s.world → (mrun steps (running m s.world)).finish ≡ Limited kind
          → Reaches library (At s k) (running m s.world) (suc n)
      full s k m n steps kind world finish = record { state = 0; within = omega arith; steps = steps; screen = ap (λ (w : World). w.screen) world; all = inr (kind, finish) }

  -- from a matched state the machine shows all that the source means, unless it meets a limit
  pub reaches : (n : ℕ) (s : Source) (k : List Item) (m : State) (c : ℕ) (a : Around) → EachRests ctx ctx.parked ctx.kept → Shared ctx s m → Ahead ctx k Quiet m.place m.stack c a
      → Reaches library (At s k) (running m s.world) n
  reaches n s k m c a rests shared ahead = reaches_in n ctx.activations ctx.home ctx.stack s k m c a (rests, shared, ahead)
