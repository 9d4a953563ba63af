-- Nothing of the procedures of a text is left out of its module.
use Rattle.std.specs.Prelude.{◌≤◌, List, [], ◌∷◌, Option, Some, None}
use Rattle.lil_resolved.specs.declared.resolved.{RProcedure.RProcedure, RStmt.RStmt}
use Rattle.lil_check_stmt.specs.{Texts.Texts, Whole.{extent, text_extent}}

-- nothing is left out: procedures have bodies that keep all of their texts
abbrev pub AreKept : Texts → List RProcedure → Type 0
AreKept [] [] = Unit {0}
AreKept [] (p ∷ ps) = ⊥
AreKept (None ∷ ts) ps = ⊥
AreKept (Some ss ∷ ts) [] = ⊥
AreKept (Some ss ∷ ts) (p ∷ ps) = (text_extent ss ≤ extent p.body) × AreKept ts ps

-- the bodies of procedures as they are stated
abbrev pub body_of : RProcedure → Option (List RStmt)
body_of p = Some p.body
