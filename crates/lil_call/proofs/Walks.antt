-- Walks whose list is used up.
use Rattle.std.proofs.Common.{◌≡◌, List, [], ◌∷◌, Option, subst, ap, sym, ◌∙◌}
use Rattle.lil_report.specs.{declared.report.Fault.Fault, Told.{Row, tell, after, Said, walk}, Laws.tell_append}

-- from a with xs left it comes to what it comes to from b with ys left
pub record Ahead {S X : Type 0} (f : S → X → S × List Row) (a : S) (xs : List X) (r : Option Fault) (b : S) (ys : List X) (s : Option Fault) : Type 0 where
  pub value : (walk f a xs).0 ≡ (walk f b ys).0
  pub told : tell r (walk f a xs).1 ≡ tell s (walk f b ys).1

module _ {S X : Type 0} (f : S → X → S × List Row) where
  step : (b : S) (y : X) (zs : List X) (s : Option Fault) (c : S) (u : Option Fault) → Said (f b y) s c u → Ahead f b (y ∷ zs) s c zs u
  unfolding after
  step b y zs s c u h = record {
    value = ap (λ c. (walk f c zs).0) (sym h.value);
    told = tell_append s (f b y).1 (walk f (f b y).0 zs).1 ∙ (λ i. tell (sym h.told i) (walk f (sym h.value i) zs).1);
  }

  pub ahead_more : (a : S) (xs : List X) (r : Option Fault) (b : S) (ys : List X) (s : Option Fault) (y : X) (zs : List X) (c : S) (u : Option Fault)
      → Ahead f a xs r b ys s → ys ≡ y ∷ zs → Said (f b y) s c u → Ahead f a xs r c zs u
  ahead_more a xs r b ys s y zs c u h e g =
      let now : Ahead f a xs r b (y ∷ zs) s = subst (λ ys. Ahead f a xs r b ys s) e h in
      let then : Ahead f b (y ∷ zs) s c zs u = step b y zs s c u g in
      record { value = now.value ∙ then.value; told = now.told ∙ then.told }

  pub ahead_end : (a : S) (xs : List X) (r : Option Fault) (b : S) (ys : List X) (s : Option Fault) → Ahead f a xs r b ys s → ys ≡ [] → Said (walk f a xs) r b s
  unfolding tell
  ahead_end a xs r b ys s h e =
      let now : Ahead f a xs r b [] s = subst (λ ys. Ahead f a xs r b ys s) e h in
      record { value = sym now.value; told = sym now.told }
