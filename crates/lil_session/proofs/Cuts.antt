-- The piece that one step of the machine shows is that of one step of the meaning.
use Rattle.std.proofs.Common.{◌≡◌, ◌≢◌, ◌⊎◌, inl, inr, ℕ, zero, suc, ◌-◌, ◌<◌, ◌≤◌, List, [], ◌∷◌, ◌++◌, refl, sym, ap, ◌∙◌, arith, append_assoc}
use Rattle.std.proofs.lemmas.{Bool.cases_lt, List.{append-nil, append_cancel_left}}
use Rattle.lil_meaning.specs.{World.piece_of, Closings.all_screen}
use Rattle.lil_mcode.specs.{declared.machine.Event.{Event, TheVariants.{Went, Request, LevelEnded, Trap}}, Table.{State, mstep}}
use Rattle.lil_match.specs.Running.{Finish, Running, Finished, Run, react, unless_over, advanced, mrun, arguments, level_of}
use Rattle.lil_laws.specs.Whole.{mrun_add, run_rests, run_over}

-- what is shown later is what was shown before, and more
abbrev Grown : List ℕ → List ℕ → Type 0
Grown old new = (more : List ℕ) × (new ≡ old ++ more)

react_grown : (e : Event) (s : State) (run : Run) → Grown run.world.screen (react e s run).world.screen
react_grown (Request r) s run = (piece_of r (arguments r s), refl)
react_grown Went s run = ([], sym (append-nil run.world.screen))
react_grown LevelEnded s run = ([], all_screen (level_of s) run.world ∙ sym (append-nil run.world.screen))
react_grown (Trap k) s run = ([], all_screen (level_of s) run.world ∙ sym (append-nil run.world.screen))
react_grown _ s run = ([], sym (append-nil run.world.screen))

unless_grown : (f : Finish) (run new : Run) → Grown run.world.screen new.world.screen → Grown run.world.screen (unless_over f run new).world.screen
unless_grown Running run new more = more
unless_grown Finished run new more = ([], sym (append-nil run.world.screen))
unless_grown _ run new more = ([], sym (append-nil run.world.screen))

mrun_grown : (n : ℕ) (run : Run) → Grown run.world.screen (mrun n run).world.screen
mrun_grown zero run = ([], sym (append-nil run.world.screen))
mrun_grown (suc n) run =
    let one = unless_grown run.finish run (react (mstep run.machine).0 (mstep run.machine).1 run) (react_grown (mstep run.machine).0 (mstep run.machine).1 run) in
    let rest = mrun_grown n (advanced run) in
    (one.0 ++ rest.0, rest.1 ∙ ap (λ (l : List ℕ). l ++ rest.0) one.1 ∙ append_assoc run.world.screen one.0 rest.0)

-- what a run has shown later
pub later_grown : (run : Run) (n k : ℕ) → n ≤ k → Grown (mrun n run).world.screen (mrun k run).world.screen
later_grown run n k le =
    let more = mrun_grown (k - n) (mrun n run) in
    let later : mrun k run ≡ mrun (k - n) (mrun n run) = mrun_add n k (k - n) run (omega arith) in
    (more.0, ap (λ (r : Run). r.world.screen) later ∙ more.1)

-- a run that went on has met its end later
pub ends_later : (run : Run) (n k : ℕ) (f : Finish) → f ≢ Running → (mrun k run).finish ≡ f → (mrun n run).finish ≡ Running → n < k
ends_later run n k f over ended goes = by_order (cases_lt n k)
  where
    by_order : (n < k) ⊎ (k ≤ n) → n < k
    by_order (inl less) = less
    by_order (inr le) =
        let stays : mrun n run ≡ mrun k run = mrun_add k n (n - k) run (omega arith) ∙ run_rests (n - k) (mrun k run) (run_over (mrun k run) f ended over) in
        absurd (over (sym ended ∙ ap (λ (r : Run). r.finish) (sym stays) ∙ goes))

none_first : (xs ys : List ℕ) → [] ≡ xs ++ ys → xs ≡ []
none_first [] ys e = refl
none_first (x ∷ xs) ys e = cc

-- A piece that one step shows isn't shown in parts: where the run has shown its beginning after some number of steps, that is the whole.
pub whole_piece : (run : Run) (n k : ℕ) (shown piece first rest : List ℕ) → (mrun n run).world.screen ≡ shown → (mrun (suc n) run).world.screen ≡ shown ++ piece
    → piece ≡ first ++ rest → first ≢ [] → (mrun k run).world.screen ≡ shown ++ first → first ≡ piece
whole_piece run n k shown piece first rest at behind whole some there = by_order (cases_lt n k)
  where
    by_order : (n < k) ⊎ (k ≤ n) → first ≡ piece
    by_order (inl less) =
        let more = later_grown run (suc n) k (omega arith) in
        let both : shown ++ first ≡ shown ++ (piece ++ more.0) = sym there ∙ more.1 ∙ ap (λ (l : List ℕ). l ++ more.0) behind ∙ append_assoc shown piece more.0 in
        let longer : first ≡ piece ++ more.0 = append_cancel_left shown first (piece ++ more.0) both in
        let none : [] ≡ more.0 ++ rest =
        append_cancel_left piece [] (more.0 ++ rest) (append-nil piece ∙ whole ∙ ap (λ (l : List ℕ). l ++ rest) longer ∙ append_assoc piece more.0 rest) in
        longer ∙ ap (λ (l : List ℕ). piece ++ l) (none_first more.0 rest none) ∙ append-nil piece
    by_order (inr less) =
        let more = later_grown run k n less in
        let both : shown ++ [] ≡ shown ++ (first ++ more.0) = append-nil shown ∙ sym at ∙ more.1 ∙ ap (λ (l : List ℕ). l ++ more.0) there ∙ append_assoc shown first more.0 in
        absurd (some (none_first first more.0 (append_cancel_left shown [] (first ++ more.0) both)))
