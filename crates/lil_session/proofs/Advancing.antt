-- One step of a run, as it is shown.
use Rattle.std.proofs.Common.{◌≡◌, ℕ, Option, List, [], refl, sym, ap, ◌∙◌, subst}
use Rattle.std.proofs.lemmas.List.{append-nil}
use Rattle.lil_meaning.specs.{World.{World, serve, piece_of, all_closed}, Closings.all_screen}
use Rattle.lil_volume.specs.{Told.{followed_by, FollowedByPrefix}, Laws.followed_nothing}
use Rattle.lil_mcode.specs.{declared.machine.Event.{Event, TheVariants.Request}, Table.{State, mstep}}
use Rattle.lil_base.specs.declared.request.Request as request
use Rattle.lil_asm.specs.Requests.{request_words}
use Rattle.lil_session.specs.Running.{IsStep, IsRefused}
use Rattle.lil_match.specs.{Running.{Finish, Running, Run, running, react, arguments, taken, level_of, left}, Steps.advances}

-- a step that shows nothing
pub step_quiet : (s t : State) (e : Event) (f : Finish) (old : Option (List ℕ)) → mstep s ≡ (e, t) → ((w : World) → react e t (running s w) ≡ record { machine = t; world = w; finish = f }) → (w : World) → IsStep s t f old old w
step_quiet s t e f old step reacts w = record {
  world = w;
  run = advances s w (e, t) step ∙ reacts w;
  piece = [];
  adds = sym (append-nil w.screen);
  shown = sym (followed_nothing old);
}

-- a step with which the run ends: what is open is closed, and nothing is shown
pub step_left : (s t : State) (e : Event) (f : Finish) (old : Option (List ℕ)) → mstep s ≡ (e, t) → ((w : World) → react e t (running s w) ≡ left f t (running s w)) → (w : World) → IsStep s t f old old w
step_left s t e f old step reacts w = record {
  world = all_closed (level_of t) w;
  run = advances s w (e, t) step ∙ reacts w;
  piece = [];
  adds = all_screen (level_of t) w ∙ sym (append-nil w.screen);
  shown = sym (followed_nothing old);
}

-- a step whose request was served
pub step_writes : (s t t' : State) (q : request.Request) (old new : Option (List ℕ)) → mstep s ≡ (Request q, t) → t' ≡ taken (request_words q) t
    → new ≡ followed_by old (piece_of q (arguments q t)) → (w : World) → IsStep s t' Running old new w
step_writes s t t' q old new step is shown w =
    let v : World = (serve (level_of t) q (arguments q t) w).0 in
    let after : State → Run = λ x. record { machine = x; world = v; finish = Running } in
    record {
      world = v;
      run = advances s w (Request q, t) step ∙ ap after (sym is);
      piece = piece_of q (arguments q t);
      adds = refl;
      shown = shown;
    }

-- a step whose piece was refused
pub step_refused : (s t : State) (q : request.Request) (old new : Option (List ℕ)) → mstep s ≡ (Request q, t)
    → FollowedByPrefix old (piece_of q (arguments q t)) new → IsRefused s old new
step_refused s t q old new step prefix = record {
  request = q;
  asked = t;
  step = step;
  piece = piece_of q (arguments q t);
  its = refl;
  prefix = prefix;
}

-- the same step, whose event is known
pub as_event : (s t : State) (e f : Event) → mstep s ≡ (e, t) → e ≡ f → mstep s ≡ (f, t)
as_event s t e f h i = subst (λ (x : Event). mstep s ≡ (x, t)) i h
