-- What the run of a translation shows, and how it ends.
use Rattle.std.proofs.Common.{◌≡◌, ◌≢◌, ℕ, zero, suc, ◌+◌, ◌*◌, true, ◌<◌, ◌≤◌, Option, Some, None, List, [], ◌∷◌, ◌++◌, refl, sym, ap, ◌∙◌, subst, ◌⊎◌, inl, inr, ⊎_elim, arith, append_assoc}
use Rattle.std.proofs.lemmas.{Bool.cases_lt, List.{append-nil, append_cancel_left}, Option.same_Some}
use Rattle.std.specs.{Ordering.nat_cmp, Cmp.Lexicographic.slice_cmp, FinMap.from_entries}
use Rattle.lil_base.specs.declared.fault.{LimitKind.LimitKind, TrapKind.TrapKind, TrapAt.TrapAt}
use Rattle.lil_resolved.specs.{Resolved.Resolved, Sizes.{IsSmall, module_strings}}
use Rattle.lil_meaning.specs.{World.World, Items.{Phase, Going, Trapped, Source}, Runs.{begun, state_of}}
use Rattle.lil_volume.specs.Told.{followed_by, FollowedByPrefix}
use Rattle.lil_mcode.specs.{declared.machine.Event.Event, Table.{Module, State, module_at, mstep}, Calls.{Machine, IsRunning, names_of}}
use Rattle.std.specs.Prelude.{slice_get, option_and_then}
use Rattle.lil_session.specs.{declared.{run.Ending.Ending, status.Status.Status}, Running.{finish_of, HasRun, IsCut, IsRefused}, Loaded.{IsIn, IsTrapOf, EndingAnswers, IsPossible}, Outcome.{cuts, settled, EndsSo, MeansAnswer, IsRunAnswer, Blames}, Headline.{Shows, Allowed, IsOver}}
use Rattle.lil_session.specs.declared.run.Ending.TheVariants as ending
use Rattle.lil_session.specs.declared.status.Status.TheVariants as a
use Rattle.lil_table.specs.Rows.{Translates}
use Rattle.lil_base.specs.declared.fault.LimitKind.TheVariants as limit
use Rattle.lil_match.specs.Goes.{IsApart}
use Rattle.lil_match.specs.Running.{Finish, Running, Finished, TrappedBy, Limited, Broken, Run, mrun, running, react, advanced, unless_over}
use Rattle.lil_laws.specs.{Loading.IsSpent, Whole.{TrapsIn, claimed, mrun_add}, Reaching.Reaches, Alone.{table, own, own_traps, begins, loaded_state, correct, reached, alone_traps}}
use Rattle.lil_session.proofs.{Screens.{next_piece, later_grows}, Pieces.nothing_first, Cuts.{later_grown, ends_later, whole_piece}, Enough.enough, Counting.{machine_end, machine_cut}}

-- some world in which nothing was shown
some_world : World
some_world = record { keys = []; screen = []; files = from_entries {R = slice_cmp nat_cmp} []; writes = []; streams = []; channels = [] }

some_blank : some_world.screen ≡ []
unfolding some_world
some_blank = refl

-- a request that is refused would have added its piece
refused_adds : {old new : Option (List ℕ)} (run : Run) → run.finish ≡ Running → (refused : IsRefused run.machine old new) → (advanced run).world.screen ≡ run.world.screen ++ refused.piece
refused_adds run goes refused =
    ap (λ (f : Finish). (unless_over f run (react (mstep run.machine).0 (mstep run.machine).1 run)).world.screen) goes
    ∙ ap (λ (r : Event × State). (react r.0 r.1 run).world.screen) refused.step
    ∙ ap (λ (l : List ℕ). run.world.screen ++ l) (sym refused.its)

-- the procedure whose code has a place, and in whose code no other one begins, runs there
runs_apart : (ps : List (ℕ × Option (List ℕ))) (place q number entry after : ℕ) (name : Option (List ℕ)) → IsRunning ps place q → slice_get ps number ≡ Some (entry, name) → IsApart ps number entry after → entry ≤ place → place < after → q ≡ number
runs_apart ps place q number entry after name r there apart low high =
    let found = r.some number entry name there low in
    ⊎_elim (λ (same : q ≡ number). same) (λ (o : (found.0 < entry) ⊎ (after ≤ found.0)). ⊎_elim (λ (less : found.0 < entry). absurd (omega (arith, less, found.4))) (λ (more : after ≤ found.0). absurd (omega (arith, more, found.3, high))) o) (apart q found.0 found.1 found.2)

limited_kind : (p : Resolved) (strings : List ℕ) (k : LimitKind) (t : Source) → IsSpent p strings k t → (k ≡ limit.Stack) ⊎ (k ≡ limit.Store)
limited_kind p strings k t spent = ⊎_elim (λ stack. inl stack.0) (λ store. inr store) spent.kind

module _ (p : Resolved) (entries code : List ℕ) (small : IsSmall p (module_strings p)) (t : Translates p (module_strings p) entries code) where
  abbrev start : State
  start = begins p (module_strings p) entries code small t

  abbrev its : List Module
  its = table p (module_strings p) entries code small t

  module _ (machine : Machine) (k : TrapKind) (e : Phase) (at : machine.at_module ≡ machine.state.running) (at_place : machine.at_place ≡ machine.state.place) (r : TrapsIn its k machine.state e) where
    -- the machine looked last at the one module that is loaded
    known : module_at machine.state.modules machine.at_module ≡ Some (own p (module_strings p) entries code small t)
    known =
        ap (λ (x : List Module). module_at x machine.at_module) r.table_is ∙ ap (module_at its) at ∙ r.known ∙ ap (λ (m : Module). Some m) (sym (own_traps p (module_strings p) entries code small t k machine.state e r))

    is_in : IsIn machine (own p (module_strings p) entries code small t)
    is_in = record { known = known; entry = 0; name = None; first = refl }

    -- the trap of the procedure there is the one with which the meaning ends
    one_trap : (u : TrapAt) → IsTrapOf machine k u → e ≡ Trapped u
    one_trap u it =
        let its_own = own p (module_strings p) entries code small t in
        let same_own = own_traps p (module_strings p) entries code small t k machine.state e r in
        let table_is : r.own.procedures ≡ its_own.procedures = ap (λ (m : Module). m.procedures) (sym same_own) in
        let q : it.procedure ≡ r.number = runs_apart r.own.procedures machine.at_place it.procedure r.number r.entry r.after r.name
        (subst (λ (ps : List (ℕ × Option (List ℕ))). IsRunning ps machine.at_place it.procedure) (sym table_is) (it.runs its_own known)) r.there r.apart (omega (arith, at_place, r.low)) (omega (arith, at_place, r.high)) in
        let names : names_of machine.state.modules machine.at_module it.procedure ≡ Some (p.name, r.name) =
        ap (λ (o : Option Module). option_and_then (λ (x : Module). option_and_then (λ (e : ℕ × Option (List ℕ)). Some (x.name, e.1)) (slice_get x.procedures it.procedure)) o) known
        ∙ ap (λ (n : ℕ). option_and_then (λ (e : ℕ × Option (List ℕ)). Some (p.name, e.1)) (slice_get its_own.procedures n)) q
        ∙ ap (λ (ps : List (ℕ × Option (List ℕ))). option_and_then (λ (e : ℕ × Option (List ℕ)). Some (p.name, e.1)) (slice_get ps r.number)) (sym table_is)
        ∙ ap (option_and_then (λ (e : ℕ × Option (List ℕ)). Some (p.name, e.1))) r.there in
        let same = same_Some (p.name, r.name) (u.«module», u.procedure) (sym names ∙ it.names) in
        alone_traps p (module_strings p) entries code small t k machine.state e r
        ∙ ap (λ (x : TrapKind). Trapped (record { kind = x; «module» = p.name; procedure = r.name })) (sym it.same)
        ∙ ap (λ (x : List ℕ × Option (List ℕ)). Trapped (record { kind = u.kind; «module» = x.0; procedure = x.1 })) same

  module _ (steps : ℕ) (old new : Option (List ℕ)) (machine : Machine) where
    -- where the machine looked last, after a trap
    abbrev Looked : Ending → Type 0
    Looked e = (k : TrapKind) → e ≡ ending.Trapped k → (machine.at_module ≡ machine.state.running) × (machine.at_place ≡ machine.state.place)

    abbrev Ran : Ending → World → Type 0
    Ran e w = HasRun start machine.state steps (finish_of e) old new w

    -- a trap of the run is one of the meaning
    traps : (k : TrapKind) (w : World) → Ran (ending.Trapped k) w → TrapsIn its k machine.state (state_of p w (correct p (module_strings p) entries code small t w steps).n).phase
    traps k w ran =
        let c = correct p (module_strings p) entries code small t w steps in
        subst (λ (m : State). TrapsIn its k m (state_of p w c.n).phase) (sym ran.machine) (claimed (TrappedBy k) c.agrees (sym ran.finish))

    -- of the limits those of words alone come, and bad code never
    pub possible : (e : Ending) → ((w : World) → w.screen ≡ [] → Ran e w) → Looked e → IsPossible machine e
    possible (ending.Trapped k) ran at =
        (own p (module_strings p) entries code small t, is_in machine k (state_of p some_world (correct p (module_strings p) entries code small t some_world steps).n).phase (at k refl).0 (at k refl).1 (traps k some_world (ran some_world some_blank)))
    possible (ending.Limited k) ran at =
        let c = correct p (module_strings p) entries code small t some_world steps in
        limited_kind p (module_strings p) k (state_of p some_world c.n) (claimed (Limited k) c.agrees (sym (ran some_world some_blank).finish))
    possible ending.Broken ran at = absurd (claimed Broken (correct p (module_strings p) entries code small t some_world steps).agrees (sym (ran some_world some_blank).finish))
    possible _ ran at = tt

    -- the phase that the meaning has come to
    abbrev there : World → Phase
    there w = (state_of p w (correct p (module_strings p) entries code small t w steps).n).phase

    allowed : (e : Ending) (s : Status) (w : World) → Ran e w → EndingAnswers machine e s → Looked e → Allowed s (there w)
    allowed ending.Done s w ran is at = subst (λ (y : Status). Allowed y (there w)) (sym is) (claimed Finished (correct p (module_strings p) entries code small t w steps).agrees (sym ran.finish))
    allowed (ending.Trapped k) s w ran (inl memory) at = subst (λ (y : Status). Allowed y (there w)) (sym memory) tt
    allowed (ending.Trapped k) s w ran (inr (u, is, it)) at = subst (λ (y : Status). Allowed y (there w)) (sym is) (one_trap machine k (there w) (at k refl).0 (at k refl).1 (traps k w ran) u it)
    allowed (ending.Limited k) s w ran is at = subst (λ (y : Status). Allowed y (there w)) (sym is) tt
    allowed ending.Spent s w ran is at = subst (λ (y : Status). Allowed y (there w)) (sym is) (claimed Running (correct p (module_strings p) entries code small t w steps).agrees (sym ran.finish))
    allowed _ s w ran is at = absurd is

    no_fault : (e : Ending) (s : Status) → EndingAnswers machine e s → s ≢ a.ScreenFault
    no_fault (ending.Trapped k) s (inl memory) f = let e = sym memory ∙ f in cc
    no_fault (ending.Trapped k) s (inr (u, is, it)) f = let e = sym is ∙ f in cc
    no_fault ending.Broken s is f = is
    no_fault _ s is f = let e = sym is ∙ f in cc

    stops : (e : Ending) (s : Status) (w : World) → Ran e w → EndingAnswers machine e s → s ≡ a.Memory → IsOver (there w)
    stops ending.Done s w ran is memory = absurd (let e = sym is ∙ memory in cc)
    stops (ending.Trapped k) s w ran is memory = subst IsOver (sym (alone_traps p (module_strings p) entries code small t k machine.state (there w) (traps k w ran))) tt
    stops (ending.Limited k) s w ran is memory = absurd (let e = sym is ∙ memory in cc)
    stops ending.Spent s w ran is memory = absurd (let e = sym is ∙ memory in cc)
    stops _ s w ran is memory = absurd is

    -- where the budget is spent, that is far enough
    far : (e : Ending) (s : Status) (w : World) → Ran e w → EndingAnswers machine e s → s ≡ a.StepsSpent → (m : ℕ) → 32 * m + 64 ≤ steps
        → (m ≤ (correct p (module_strings p) entries code small t w steps).n) × ((state_of p w m).phase ≡ Going)
    far ending.Spent s w ran is spent m le = enough p (module_strings p) entries code small t w steps (sym ran.finish) m le
    far (ending.Trapped k) s w ran (inl memory) spent m le = absurd (let e = sym memory ∙ spent in cc)
    far (ending.Trapped k) s w ran (inr (u, is, it)) spent m le = absurd (let e = sym is ∙ spent in cc)
    far ending.Broken s w ran is spent m le = absurd is
    far _ s w ran is spent m le = absurd (let e = sym is ∙ spent in cc)

    -- what is shown is what a state of the meaning has shown, and the answer is that state's
    pub shows_end : (e : Ending) (s : Status) (w : World) → Ran e w → EndingAnswers machine e s → Looked e → Shows p w steps old new s
    shows_end e s w ran is at =
        let c = correct p (module_strings p) entries code small t w steps in
        record {
          n = c.n;
          shown = record {
            whole = λ _. ran.shown ∙ ap (λ (x : World). followed_by old x.screen) c.agrees.world;
            cut = λ fault. absurd (no_fault e s is fault);
            ends = allowed e s w ran is at;
            stops = λ memory. inr (stops e s w ran is memory);
            far = far e s w ran is;
            machine =
                machine_end p entries code small t steps old new w machine e s
                (subst (λ (x : State). HasRun x machine.state steps (finish_of e) old new w) (sym (loaded_state p (module_strings p) entries code small t)) ran) is;
          };
        }

    -- a settled answer is the end of the meaning, unless the run was cut short
    pub means_end : (e : Ending) (s : Status) (w : World) → Ran e w → EndingAnswers machine e s → Looked e → settled s ≡ true → (cuts s ≡ true) ⊎ MeansAnswer p w s
    means_end ending.Done s w ran is at ok =
        let c = correct p (module_strings p) entries code small t w steps in
        inr (record { steps = c.n; ends = subst (λ (x : Phase). EndsSo x s) (sym (claimed Finished c.agrees (sym ran.finish))) is })
    means_end (ending.Trapped k) s w ran (inl memory) at ok = absurd (let e = ap settled memory in cc)
    means_end (ending.Trapped k) s w ran (inr (u, is, it)) at ok =
        inr (record { steps = (correct p (module_strings p) entries code small t w steps).n; ends = subst (λ (x : Phase). EndsSo x s) (sym (one_trap machine k (there w) (at k refl).0 (at k refl).1 (traps k w ran) u it)) is })
    means_end (ending.Limited k) s w ran is at ok = inl (ap cuts is)
    means_end ending.Spent s w ran is at ok = inl (ap cuts is)
    means_end _ s w ran is at ok = absurd is

    pub kind_end : (e : Ending) (s : Status) → IsPossible machine e → EndingAnswers machine e s → IsRunAnswer s
    kind_end (ending.Trapped k) s can (inl memory) = subst IsRunAnswer (sym memory) tt
    kind_end (ending.Trapped k) s can (inr (u, is, it)) = subst IsRunAnswer (sym is) tt
    kind_end (ending.Limited k) s can is = subst IsRunAnswer (sym is) can
    kind_end ending.Broken s can is = absurd is
    kind_end _ s can is = subst IsRunAnswer (sym is) tt

    pub blames_end : (e : Ending) (s : Status) (before now : ℕ) → EndingAnswers machine e s → now ≡ before → Blames a.ScreenFault before now s
    blames_end e s before now is same = record {
      later = omega (arith, same);
      rose = λ f. absurd (no_fault e s is f);
      quiet = inl same;
    }

  -- what is shown where the screen failed: an empty piece is refused behind all that was shown
  module _ (steps : ℕ) (old new : Option (List ℕ)) (w : World) (cut : IsCut start steps old new w) where
    abbrev from : Run
    from = running start w

    abbrev first : Source
    first = begun (p ∷ []) (0 ∷ []) (1 ∷ []) w

    abbrev run : Run
    run = mrun cut.done from

    abbrev so_far : ℕ
    so_far = (correct p (module_strings p) entries code small t w cut.done).n

    abbrev shown : List ℕ
    shown = (state_of p w so_far).world.screen

    at : run.world.screen ≡ shown
    at = ap (λ (x : World). x.screen) (correct p (module_strings p) entries code small t w cut.done).agrees.world

    cut_at : (n : ℕ) (piece : List ℕ) → (state_of p w (suc n)).world.screen ≡ (state_of p w n).world.screen ++ piece
        → FollowedByPrefix (followed_by old (state_of p w n).world.screen) piece new → Shows p w steps old new a.ScreenFault
    cut_at n piece adds prefix = record {
      n = n;
      shown = record {
        whole = λ differs. absurd (differs refl);
        cut = λ _. record { piece = piece; adds = adds; prefix = prefix };
        ends = tt;
        stops = λ memory. cc;
        far = λ spent. cc;
        machine =
            machine_cut p entries code small t steps old new w n
            (subst (λ (x : State). IsCut x steps old new w) (sym (loaded_state p (module_strings p) entries code small t)) cut);
      };
    }

    -- No limit is met before the state that adds something behind what was shown: the run has shown a piece there.
    came : (m b : ℕ) (rest : List ℕ) → (state_of p w m).world.screen ≡ shown → (mrun (suc cut.done) from).world.screen ≡ shown ++ b ∷ rest → (r : Reaches (p ∷ []) first from (suc m))
        → (mrun r.steps from).world.screen ≡ (state_of p w (suc m)).world.screen
    came m b rest before behind r = by r.all (cases_lt m r.state)
      where
        there : r.state ≡ suc m → (mrun r.steps from).world.screen ≡ (state_of p w (suc m)).world.screen
        there same = r.screen ∙ ap (λ (n : ℕ). (state_of p w n).world.screen) same

        less : (k : LimitKind) → (mrun r.steps from).finish ≡ Limited k → r.state ≤ m → ⊥
        less k limited le =
            let later : cut.done < r.steps = ends_later from cut.done r.steps (Limited k) (λ e. cc) limited cut.finish in
            let more = later_grown from (suc cut.done) r.steps (omega (arith, later)) in
            let g = later_grows (p ∷ []) r.state m first le in
            let run_shown : (state_of p w r.state).world.screen ≡ (shown ++ b ∷ rest) ++ more.0 = sym r.screen ∙ more.1 ∙ ap (λ (l : List ℕ). l ++ more.0) behind in
            let both : shown ++ [] ≡ shown ++ (b ∷ rest ++ (more.0 ++ g.piece)) =
            append-nil shown ∙ sym before ∙ g.adds ∙ ap (λ (l : List ℕ). l ++ g.piece) run_shown ∙ append_assoc (shown ++ b ∷ rest) more.0 g.piece ∙ append_assoc shown (b ∷ rest) (more.0 ++ g.piece) in
            let clash : [] ≡ b ∷ rest ++ (more.0 ++ g.piece) = append_cancel_left shown [] (b ∷ rest ++ (more.0 ++ g.piece)) both in
            cc

        by : (r.state ≡ suc m) ⊎ ((k : LimitKind) × ((mrun r.steps from).finish ≡ Limited k)) → (m < r.state) ⊎ (r.state ≤ m) → (mrun r.steps from).world.screen ≡ (state_of p w (suc m)).world.screen
        by (inl same) order = there same
        by (inr limited) (inl far) = there (omega (arith, far, r.within))
        by (inr (k, limited)) (inr le) = absurd (less k limited le)

    by_piece : (piece : List ℕ) → (mrun (suc cut.done) from).world.screen ≡ shown ++ piece → FollowedByPrefix (followed_by old run.world.screen) piece new → Shows p w steps old new a.ScreenFault
    by_piece [] behind prefix =
        let more = later_grows (p ∷ []) so_far (suc so_far) first (omega arith) in
        cut_at so_far more.piece more.adds (nothing_first (followed_by old shown) new more.piece (subst (λ (l : List ℕ). FollowedByPrefix (followed_by old l) [] new) at prefix))
    by_piece (b ∷ rest) behind prefix =
        let piece : List ℕ = b ∷ rest in
        let d = correct p (module_strings p) entries code small t w (suc cut.done) in
        let f = next_piece (p ∷ []) first so_far d.n piece (λ e. cc) (ap (λ (x : World). x.screen) (sym d.agrees.world) ∙ behind) in
        let r = reached p (module_strings p) entries code small t w (suc f.m) in
        let is : f.first ≡ piece = whole_piece from cut.done r.steps shown piece f.first f.rest at behind f.whole f.some (came f.m b rest f.before behind r ∙ f.behind) in
        cut_at f.m piece (f.behind ∙ ap (λ (l : List ℕ). l ++ f.first) (sym f.before) ∙ ap (λ (l : List ℕ). (state_of p w f.m).world.screen ++ l) is)
        (subst (λ (l : List ℕ). FollowedByPrefix (followed_by old l) piece new) (at ∙ sym f.before) prefix)

    pub shows_cut : Shows p w steps old new a.ScreenFault
    shows_cut =
        let next_run : mrun (suc cut.done) from ≡ advanced run = mrun_add cut.done (suc cut.done) 1 from (omega arith) in
        let behind : (mrun (suc cut.done) from).world.screen ≡ shown ++ cut.refused.piece =
        ap (λ (r : Run). r.world.screen) next_run ∙ refused_adds run cut.finish cut.refused ∙ ap (λ (l : List ℕ). l ++ cut.refused.piece) at in
        by_piece cut.refused.piece behind cut.refused.prefix
