-- Steps of walks, in a form that tactics find.
use Rattle.std.proofs.Common.{◌≡◌, List, [], ◌∷◌, ◌++◌, arith}
use Rattle.std.proofs.lemmas.Grind.{common_steps}
use Rattle.lil_report.specs.{Told.{Row, after, walk}, Laws.tell_append}

pub walk_snoc : {S X : Type 0} (f : S → X → S × List Row) (s : S) (xs : List X) (x : X) → walk f s (xs ++ x ∷ []) ≡ ((f (walk f s xs).0 x).0, (walk f s xs).1 ++ (f (walk f s xs).0 x).1)
unfolding after
walk_snoc f s [] x = grind (arith, common_steps)
walk_snoc f s (y ∷ ys) x = grind (arith, common_steps, walk_snoc f (f s y).0 ys x)

pub ruleset walk_steps = (common_steps, walk_snoc, tell_append)
