-- A run, step by step.
use Rattle.std.proofs.Common.{◌≡◌, ◌≢◌, ℕ, zero, suc, ◌+◌, ◌-◌, ◌<◌, option_and_then, Option, Some, None, Result, Ok, Err, OnErr, List, [], ◌++◌, refl, sym, ap, ◌∙◌, subst, arith}
use Rattle.lil_meaning.specs.World.{World}
use Rattle.lil_volume.specs.{Told.followed_by, Laws.{followed_twice, followed_nothing}}
use Rattle.lil_mcode.specs.{Table.{State, mstep}, Going.{went, next, gone}, declared.machine.Event.{Event, TheVariants.{Went, Request, LevelEnded, Trap, Limit, BadCode}}}
use Rattle.lil_session.specs.{declared.run.Ending.Ending, Running.{finish_of, finish_by, IsStep, IsRefused, HasRun, IsCut}}
use Rattle.lil_session.specs.declared.run.Ending.TheVariants as ending
use Rattle.lil_match.specs.{Running.{Finish, Running, Run, mrun, running, advanced}, Steps.advances}
use Rattle.lil_laws.specs.Whole.{mrun_add, run_rests, run_over}

pub on_err : {T E P : Type 0} (r : Result T E) → P → OnErr r P
on_err (Ok x) p = tt
on_err (Err e) p = p

-- how far a run has come, and what was shown of it
abbrev pub Come : State → State → ℕ → Option (List ℕ) → Option (List ℕ) → World → Type 0
Come from s k old mid w = (v : World) × (mrun k (running from w) ≡ running s v) × (mid ≡ followed_by old v.screen)

pub come_first : (s : State) (old : Option (List ℕ)) (w : World) → w.screen ≡ [] → Come s s 0 old old w
come_first s old w e = (w, refl, sym (ap (followed_by old) e ∙ followed_nothing old))

turned : (from s : State) (k : ℕ) (w v : World) (r : Run) → mrun k (running from w) ≡ running s v → advanced (running s v) ≡ r → mrun (k + 1) (running from w) ≡ r
turned from s k w v r at step = mrun_add k (k + 1) 1 (running from w) refl ∙ ap advanced at ∙ step

more_shown : (old mid new : Option (List ℕ)) (v v' : World) (piece : List ℕ) → mid ≡ followed_by old v.screen → v'.screen ≡ v.screen ++ piece → new ≡ followed_by mid piece → new ≡ followed_by old v'.screen
more_shown old mid new v v' piece before adds shown =
    shown ∙ ap (λ (o : Option (List ℕ)). followed_by o piece) before ∙ followed_twice old v.screen piece ∙ ap (followed_by old) (sym adds)

pub come_next : (from s t : State) (k : ℕ) (old mid new : Option (List ℕ)) (w : World) → Come from s k old mid w → ((v : World) → IsStep s t Running mid new v) → Come from t (k + 1) old new w
come_next from s t k old mid new w come step =
    let one = step come.0 in (
      one.world,
      turned from s k w come.0 (running t one.world) come.1 one.run,
      more_shown old mid new come.0 one.world one.piece come.2 one.adds one.shown,
    )

pub run_ends : (from s t : State) (k steps : ℕ) (f : Finish) (old mid new : Option (List ℕ)) (w : World) → k < steps → f ≢ Running → Come from s k old mid w → ((v : World) → IsStep s t f mid new v) → HasRun from t steps f old new w
run_ends from s t k steps f old mid new w less over come step =
    let one = step come.0 in
    let r : Run = record { machine = t; world = one.world; finish = f } in
    let there : mrun (k + 1) (running from w) ≡ r = turned from s k w come.0 r come.1 one.run in
    let all : mrun steps (running from w) ≡ r =
    mrun_add (k + 1) steps (steps - (k + 1)) (running from w) (omega arith) ∙ ap (mrun (steps - (k + 1))) there ∙ run_rests (steps - (k + 1)) r (run_over r f refl over) in
    record {
      machine = sym (ap (λ (x : Run). x.machine) all);
      finish = sym (ap (λ (x : Run). x.finish) all);
      shown = more_shown old mid new come.0 one.world one.piece come.2 one.adds one.shown ∙ sym (ap (λ (x : Run). followed_by old x.world.screen) all);
    }

pub run_spent : (from s : State) (k steps : ℕ) (old mid : Option (List ℕ)) (w : World) → k ≡ steps → Come from s k old mid w → HasRun from s steps Running old mid w
run_spent from s k steps old mid w same come =
    let all : mrun steps (running from w) ≡ running s come.0 = ap (λ (n : ℕ). mrun n (running from w)) (sym same) ∙ come.1 in
    record {
      machine = sym (ap (λ (x : Run). x.machine) all);
      finish = sym (ap (λ (x : Run). x.finish) all);
      shown = come.2 ∙ sym (ap (λ (x : Run). followed_by old x.world.screen) all);
    }

pub run_cut : (from s : State) (k steps : ℕ) (old mid new : Option (List ℕ)) (w : World) → k < steps → Come from s k old mid w → IsRefused s mid new → IsCut from steps old new w
run_cut from s k steps old mid new w less come refused = record {
  done = k;
  within = omega arith;
  finish = ap (λ (r : Run). r.finish) come.1;
  refused =
      subst (λ (r : Run). IsRefused r.machine (followed_by old r.world.screen) new) (sym come.1)
      (subst (λ (o : Option (List ℕ)). IsRefused s o new) come.2 refused);
}

pub ending_over : (e : Ending) → Some e ≢ Some ending.Spent → finish_of e ≢ Running
ending_over ending.Spent d = λ f. d refl
ending_over _ d = λ f. cc

-- what is said of an optional ending, at the one that it is
pub ap_some : (o : Option Ending) (e : Ending) → o ≡ Some e → o ≢ Some ending.Spent → Some e ≢ Some ending.Spent
ap_some o e is d f = d (is ∙ f)

pub step_as : (o : Option Ending) (e : Ending) → o ≡ Some e → (s t : State) (old new : Option (List ℕ)) → ((w : World) → IsStep s t (finish_by o) old new w) → (w : World) → IsStep s t (finish_of e) old new w
step_as o e is s t old new step w = subst (λ (x : Option Ending). IsStep s t (finish_by x) old new w) is (step w)

pub step_goes : (o : Option Ending) → o ≡ None → (s t : State) (old new : Option (List ℕ)) → ((w : World) → IsStep s t (finish_by o) old new w) → (w : World) → IsStep s t Running old new w
step_goes o is s t old new step w = subst (λ (x : Option Ending). IsStep s t (finish_by x) old new w) is (step w)

pub is_none : {A : Type 0} (o : Option A) → ((x : A) → o ≢ Some x) → o ≡ None
is_none None h = refl
is_none (Some x) h = absurd (h x refl)

-- steps that only go on, in any world

went_is : (e : Event) (t u : State) → went e t ≡ Some u → ◌≡◌ {A = Event × State} (e, t) (Went, u)
went_is Went t u h = cc
went_is (Request r) t u h = cc
went_is LevelEnded t u h = cc
went_is (Trap k) t u h = cc
went_is (Limit k) t u h = cc
went_is BadCode t u h = cc

goes_on : (s : State) (o : Option State) (u : State) → option_and_then next o ≡ Some u → (t : State) × (o ≡ Some t) × (mstep t ≡ (Went, u))
goes_on s None u h = cc
goes_on s (Some t) u h = (t, refl, went_is (mstep t).0 (mstep t).1 u h)

some_is : (s u : State) → Some s ≡ Some u → s ≡ u
some_is s u h = cc

gone_runs : (n : ℕ) (s u : State) (w : World) → gone n s ≡ Some u → mrun n (running s w) ≡ running u w
gone_runs zero s u w h = ap (λ (x : State). running x w) (some_is s u h)
gone_runs (suc n) s u w h =
    let x = goes_on s (gone n s) u h in
    let e : suc n ≡ n + 1 = omega arith in
    ap (λ (k : ℕ). mrun k (running s w)) e ∙ turned s x.0 n w w (running u w) (gone_runs n s x.0 w x.1) (advances x.0 w (Went, u) x.2)

pub come_gone : (from s u : State) (k n : ℕ) (old mid : Option (List ℕ)) (w : World) → Come from s k old mid w → gone n s ≡ Some u → Come from u (k + n) old mid w
come_gone from s u k n old mid w come h = (
  come.0,
  mrun_add k (k + n) n (running from w) refl ∙ ap (mrun n) come.1 ∙ gone_runs n s u come.0 h,
  come.2,
)
