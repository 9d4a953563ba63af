-- What the machine did, by the answer of its run.
use Rattle.std.proofs.Common.{◌≡◌, ◌≢◌, inl, inr, ℕ, true, false, List, [], Option, refl, sym, ap, ◌∙◌, subst, arith}
use Rattle.lil_base.specs.declared.fault.{LimitKind.LimitKind, TrapKind.TrapKind}
use Rattle.lil_resolved.specs.{Resolved.Resolved, Sizes.{IsSmall, module_strings}}
use Rattle.lil_meaning.specs.{World.World, Items.Phase, Runs.state_of}
use Rattle.lil_mcode.specs.{Table.State, Calls.Machine}
use Rattle.lil_session.specs.{declared.{run.Ending.Ending, status.Status.Status}, Running.{finish_of, HasRun, IsCut}, Loaded.EndingAnswers, Outcome.settled, Counted.{IsEnd, FinishAnswers, MachineRan, MachineAnswers}, Headline.{Allowed, IsOver}, Report.is_fixed}
use Rattle.lil_session.specs.declared.run.Ending.TheVariants as ending
use Rattle.lil_session.specs.declared.status.Status.TheVariants as a
use Rattle.lil_table.specs.Rows.{Translates}
use Rattle.lil_match.specs.Running.{Finish, Running, TrappedBy, Limited, mrun, running}
use Rattle.lil_laws.specs.{Loading.{IsSpent, loaded}, Whole.claimed, Alone.{loaded_state, correct}}

module _ (p : Resolved) (entries code : List ℕ) (small : IsSmall p (module_strings p)) (t : Translates p (module_strings p) entries code) (steps : ℕ) (old new : Option (List ℕ)) (w : World) where
  abbrev start : State
  start = (loaded p (module_strings p) entries code).state

  -- the state of the meaning that the run has come to
  abbrev so_far : ℕ
  so_far = (correct p (module_strings p) entries code small t w steps).n

  -- a limit comes only where that state comes to it
  spent_at : (k : LimitKind) → (mrun steps (running start w)).finish ≡ Limited k → IsSpent p (module_strings p) k (state_of p w so_far)
  spent_at k is =
      let same = ap (λ (s : State). (mrun steps (running s w)).finish) (loaded_state p (module_strings p) entries code small t) in
      claimed (Limited k) (correct p (module_strings p) entries code small t w steps).agrees (sym same ∙ is)

  same_limit : (k j : LimitKind) → a.Limit k ≡ a.Limit j → Limited k ≡ Limited j
  same_limit k j is = cc

  -- a run that took its budget or came to its end
  ran_all : (end : State) (f : Finish) (s : Status) → HasRun start end steps f old new w → FinishAnswers s steps steps f → (f ≡ Running → settled s ≡ true → s ≡ a.StepsSpent) → ((k : LimitKind) → s ≡ a.Limit k → f ≡ Limited k) → s ≢ a.ScreenFault
      → MachineRan p w so_far steps old new s
  ran_all end f s ran fits spent full no_cut = record {
    entries = entries;
    code = code;
    translates = t;
    done = steps;
    within = omega arith;
    finish = subst (λ (x : Finish). FinishAnswers s steps steps x) ran.finish fits;
    shown = λ _. ran.shown;
    cut = λ is. absurd (no_cut is);
    spent = λ on. spent (ran.finish ∙ on);
    limited = λ k is. spent_at k (sym ran.finish ∙ full k is);
  }

  pub machine_end : (machine : Machine) (e : Ending) (s : Status) → HasRun start machine.state steps (finish_of e) old new w → EndingAnswers machine e s → MachineAnswers p w so_far steps old new s
  machine_end machine ending.Done s ran is =
      subst (λ (x : Status). MachineAnswers p w so_far steps old new x) (sym is) (ran_all machine.state (finish_of ending.Done) a.Done ran refl (λ goes ok. cc) (λ k is. cc) (λ is. cc))
  machine_end machine (ending.Trapped k) s ran (inl memory) =
      subst (λ (x : Status). MachineAnswers p w so_far steps old new x) (sym memory) (inr (ran_all machine.state (finish_of (ending.Trapped k)) a.Memory ran tt (λ goes ok. cc) (λ k is. cc) (λ is. cc)))
  machine_end machine (ending.Trapped k) s ran (inr (u, is, it)) =
      subst (λ (x : Status). MachineAnswers p w so_far steps old new x) (sym is)
      (ran_all machine.state (finish_of (ending.Trapped k)) (a.Trapped u) ran (ap (λ (x : TrapKind). TrappedBy x) (sym it.same)) (λ goes ok. cc) (λ k is. cc) (λ is. cc))
  machine_end machine (ending.Limited k) s ran is =
      subst (λ (x : Status). MachineAnswers p w so_far steps old new x) (sym is)
      (ran_all machine.state (finish_of (ending.Limited k)) (a.Limit k) ran refl (λ goes ok. cc) (λ j is. same_limit k j is) (λ is. cc))
  machine_end machine ending.Spent s ran is =
      subst (λ (x : Status). MachineAnswers p w so_far steps old new x) (sym is) (ran_all machine.state (finish_of ending.Spent) a.StepsSpent ran (refl, refl) (λ goes ok. refl) (λ k is. cc) (λ is. cc))
  machine_end machine _ s ran is = absurd is

  -- a run that the screen stopped: its request failed
  pub machine_cut : (n : ℕ) → IsCut start steps old new w → MachineAnswers p w n steps old new a.ScreenFault
  machine_cut n cut = record {
    entries = entries;
    code = code;
    translates = t;
    done = cut.done;
    within = (let less = cut.within in omega (arith, less));
    finish = (cut.within, cut.finish);
    shown = λ differs. absurd (differs refl);
    cut = λ is. cut.refused;
    spent = λ goes ok. cc;
    limited = λ k is. cc;
  }

-- an answer whose lines failed, or that wanted memory for them, comes from the same run
module _ (p : Resolved) (w : World) (n steps : ℕ) (old new : Option (List ℕ)) where
  pub ran_settled : (s : Status) → settled s ≡ true → MachineAnswers p w n steps old new s → MachineRan p w n steps old new s
  ran_settled a.Done is ran = ran
  ran_settled (a.Trapped t) is ran = ran
  ran_settled (a.Limit k) is ran = ran
  ran_settled a.StepsSpent is ran = ran
  ran_settled a.VolumeFault is ran = cc
  ran_settled a.ScreenFault is ran = cc
  ran_settled a.ReportFault is ran = cc
  ran_settled a.Memory is ran = cc
  ran_settled _ is ran = absurd ran

  -- memory is wanted for the lines of a trap alone: those of Done, of a limit and of a spent budget are fixed
  pub ran_memory : (s : Status) → is_fixed s ≡ false → MachineAnswers p w n steps old new s → MachineRan p w n steps old new a.Memory
  ran_memory (a.Trapped t) made ran = record {
    entries = ran.entries;
    code = ran.code;
    translates = ran.translates;
    done = ran.done;
    within = ran.within;
    finish = subst IsEnd (sym ran.finish) tt;
    shown = λ _. ran.shown (λ fault. cc);
    cut = λ is. cc;
    spent = λ goes ok. cc;
    limited = λ k is. cc;
  }
  ran_memory a.Done made ran = cc
  ran_memory (a.Limit k) made ran = cc
  ran_memory a.StepsSpent made ran = cc
  ran_memory a.ScreenFault made ran = cc
  ran_memory a.Memory made ran = cc
  ran_memory a.VolumeFault made ran = cc
  ran_memory a.ReportFault made ran = cc
  ran_memory _ made ran = absurd ran

  -- and the meaning is over there
  pub over_where : (s : Status) (e : Phase) → is_fixed s ≡ false → MachineAnswers p w n steps old new s → Allowed s e → IsOver e
  over_where (a.Trapped t) e made ran allowed = subst IsOver (sym allowed) tt
  over_where a.Done e made ran allowed = cc
  over_where (a.Limit k) e made ran allowed = cc
  over_where a.StepsSpent e made ran allowed = cc
  over_where a.ScreenFault e made ran allowed = cc
  over_where a.Memory e made ran allowed = cc
  over_where a.VolumeFault e made ran allowed = cc
  over_where a.ReportFault e made ran allowed = cc
  over_where _ e made ran allowed = absurd ran
