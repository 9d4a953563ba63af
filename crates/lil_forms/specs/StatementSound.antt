-- Statements of a text that are sound, alone and behind one another.
use Rattle.std.proofs.Common.{◌≡◌, Bool, List, [], ◌∷◌, sym, subst}
use Rattle.lil_resolved.specs.{Kinds.Scope, Resolved.{Statement, Statements, Empty, Then}, Sound.{IsSoundStatement, IsSoundBody}, Views.{statement_of, statements_of}, declared.resolved.RStmt.RStmt}
use Rattle.lil_resolved.specs.Views as views
use Rattle.lil_shapes.specs.ListLaws.{AllFine}

module _ (ts : Scope) (looping : Bool) where
  -- what a statement is inside of a LOOP, or not, is sound
  abbrev pub StatementSound : RStmt → Type 0
  StatementSound x = IsSoundBody ts looping (statement_of x)

  abbrev pub AllSound : List RStmt → Type 0
  AllSound xs = AllFine StatementSound xs

  behind_sound : (a c : Statements) → IsSoundBody ts looping a → IsSoundBody ts looping c → IsSoundBody ts looping (views.joined a c)
  behind_sound Empty c h j = j
  behind_sound (Then x xs) c h j = (h.0, behind_sound xs c h.1 j)

  pub body_sound : (xs : List RStmt) → AllSound xs → IsSoundBody ts looping (statements_of xs)
  body_sound [] h = tt
  body_sound (x ∷ xs) h = behind_sound (statement_of x) (statements_of xs) h.0 (body_sound xs h.1)

  -- a form of one statement
  pub made_sound : (x : RStmt) (y : Statement) → statement_of x ≡ Then y Empty → IsSoundStatement ts looping y → StatementSound x
  made_sound x y is h = subst (IsSoundBody ts looping) (sym is) (h, tt)
