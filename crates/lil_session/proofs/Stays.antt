-- After its end the meaning of a program stays, so two ends of it are the same.
use Rattle.std.proofs.Common.{◌≡◌, ◌⊎◌, inl, inr, ℕ, ◌+◌, ◌-◌, ◌<◌, ◌≤◌, List, [], ◌∷◌, refl, sym, ◌∙◌, ap, subst, arith}
use Rattle.std.proofs.lemmas.Bool.{cases_lt}
use Rattle.lil_resolved.specs.Resolved.{Resolved}
use Rattle.lil_meaning.specs.{World.World, Items.{Phase, Ended, Trapped, Source}, Steps.{by_phase, next}, Runs.{begun, state_of}}
use Rattle.lil_laws.specs.Whole.{after_sum, source_rests}
use Rattle.lil_session.specs.{declared.status.Status.Status, Outcome.EndsSo}

still_at : (library : List Resolved) (s : Source) (e : Phase) (answer : Status) → s.phase ≡ e → EndsSo e answer → next library s ≡ s
still_at library s Ended answer is ends = ap (λ (e : Phase). by_phase library e s) is
still_at library s (Trapped t) answer is ends = ap (λ (e : Phase). by_phase library e s) is
still_at library s _ answer is ends = absurd ends

same_end : (e : Phase) (x y : Status) → EndsSo e x → EndsSo e y → x ≡ y
same_end Ended x y one other = one ∙ sym other
same_end (Trapped t) x y one other = one ∙ sym other
same_end _ x y one other = absurd one

later_end : (p : Resolved) (w : World) (n k : ℕ) (x y : Status) → EndsSo (state_of p w n).phase x → EndsSo (state_of p w (n + k)).phase y → x ≡ y
later_end p w n k x y one other =
    let s : Source = state_of p w n in
    let still : next (p ∷ []) s ≡ s = still_at (p ∷ []) s s.phase x refl one in
    let same : state_of p w (n + k) ≡ s = after_sum (p ∷ []) n k (begun (p ∷ []) (0 ∷ []) (1 ∷ []) w) ∙ source_rests (p ∷ []) k s still in
    same_end s.phase x y one (subst (λ (t : Source). EndsSo t.phase y) same other)

pub ends_agree : (p : Resolved) (w : World) (n m : ℕ) (x y : Status) → EndsSo (state_of p w n).phase x → EndsSo (state_of p w m).phase y → x ≡ y
ends_agree p w n m x y one other = by_order (cases_lt n m)
  where
    by_order : (n < m) ⊎ (m ≤ n) → x ≡ y
    by_order (inl before) =
        let sum : m ≡ n + (m - n) = omega arith in
        later_end p w n (m - n) x y one (subst (λ (i : ℕ). EndsSo (state_of p w i).phase y) sum other)
    by_order (inr before) =
        let sum : n ≡ m + (n - m) = omega arith in
        sym (later_end p w m (n - m) y x other (subst (λ (i : ℕ). EndsSo (state_of p w i).phase x) sum one))
