-- A budget of steps is spent only where the meaning goes on for long enough.
use Rattle.std.proofs.Common.{◌≡◌, ℕ, zero, suc, ◌+◌, ◌*◌, ◌≤◌, Option, Some, None, List, [], ◌∷◌, refl, sym, ap, ◌∙◌, arith}
use Rattle.lil_resolved.specs.{Resolved.Resolved, Sizes.IsSmall}
use Rattle.lil_base.specs.declared.fault.TrapAt.{TrapAt}
use Rattle.lil_meaning.specs.{World.{World, closing}, Items.{Level, Phase, Going, Closing, Source}, Steps.{next, by_phase, level_of, left_by, over, over_by}, Runs.{after, begun, state_of}}
use Rattle.lil_table.specs.Rows.{Translates}
use Rattle.lil_match.specs.Running.{Running, mrun, running}
use Rattle.lil_laws.specs.{Whole.claimed, Alone.{begins, correct}, Serves.after_first}

-- a state that goes on came from one that went on
going_before : (library : List Resolved) (s : Source) (p : Phase) → s.waiting ≡ [] → s.phase ≡ p → (next library s).phase ≡ Going → p ≡ Going
going_before library s Going none e h = refl
going_before library s (Closing end) none e h = absurd (by (closing (level_of s) s.world) (ap (λ (x : Phase). (by_phase library x s).phase) (sym e) ∙ h))
  where
    over_not : (end : Option TrapAt) → over_by end ≡ Going → ⊥
    over_not None e = cc
    over_not (Some t) e = cc

    by : (o : Option World) → (left_by end o s).phase ≡ Going → ⊥
    by (Some w) h = let clash : Closing end ≡ Going = h in cc
    by None h = over_not end (ap (λ (l : List Level). (over l end s).phase) (sym none) ∙ h)
going_before library s _ none e h = let at = ap (λ (x : Phase). (by_phase library x s).phase) (sym e) in sym e ∙ (at ∙ h)

going_first : (library : List Resolved) (n : ℕ) (s : Source) → s.waiting ≡ [] → (after library n s).phase ≡ Going → s.phase ≡ Going
going_first library zero s none h = h
going_first library (suc n) s none h = going_before library s s.phase none refl (going_first library n (next library s) (after_first library 1 s none) h)

going_until : (library : List Resolved) (m n : ℕ) (s : Source) → s.waiting ≡ [] → m ≤ n → (after library n s).phase ≡ Going → (after library m s).phase ≡ Going
going_until library zero n s none le h = going_first library n s none h
going_until library (suc m) zero s none le h = absurd (omega arith)
going_until library (suc m) (suc n) s none le h = going_until library m n (next library s) (after_first library 1 s none) (omega arith) h

module _ (p : Resolved) (strings entries code : List ℕ) (small : IsSmall p strings) (t : Translates p strings entries code) where
  -- where the machine runs on after a budget, the meaning has come at least as far as the budget is enough for, and went on there
  pub enough : (w : World) (steps : ℕ) → (mrun steps (running (begins p strings entries code small t) w)).finish ≡ Running → (m : ℕ) → 32 * m + 64 ≤ steps
      → (m ≤ (correct p strings entries code small t w steps).n) × ((state_of p w m).phase ≡ Going)
  enough w steps runs m le =
      let c = correct p strings entries code small t w steps in
      let within : m ≤ c.n = omega (arith, le, c.far (λ k e. let r = runs in cc)) in
      (within, going_until (p ∷ []) m c.n (begun (p ∷ []) (0 ∷ []) (1 ∷ []) w) refl within (claimed Running c.agrees runs))
