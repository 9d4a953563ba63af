-- The module that what is declared and stated makes.
use Rattle.std.specs.Prelude.{ℕ, suc, ◌+◌, nat_le, nat_lt, ◌&&◌, Bool, true, List, [], ◌∷◌, length, map, Option, Some, None, if◌then◌else◌}
use Rattle.lil_types.specs.Types.{Table}
use Rattle.lil_declared.specs.declared.declared.{RProc.RProc, RVar.RVar}
use Rattle.lil_resolved.specs.{Resolved.{Statements, Procedure, Resolved}, Kinds.{Kind, Shape, all_words}, Sizes.module_strings, Views.statements_of, declared.resolved.RStmt.RStmt}
use Rattle.lil_scope.specs.{Names.locals_in, declared.env.Env.Env}
use Rattle.lil_kinds.specs.Forms.{arity, result}
use Rattle.lil_forms.specs.Values.{returned}
use Rattle.lil_check_stmt.specs.declared.stmt.Stated.{Stated}
use Rattle.lil_shapes.specs.{Measured.variable_name, Pointers.targets, Shaping.{all_some, lying, shapes, variables_by}, Signatures.signatures}

-- the statements of a block stand in no WITH
abbrev pub in_no_with : Env → Env
in_no_with e = record e { withs = [] }

-- the words of a module's variables and strings
abbrev pub module_words : Resolved → ℕ
module_words m = all_words m.variables + length (module_strings m)

-- a module that has at most 32,000 of them
abbrev pub with_room : Resolved → Option Resolved
with_room m = if nat_le (module_words m) 32000 then Some m else None

-- the kind of what it returns, where it is a function
abbrev pub result_by : Table → RProc → Option Kind
result_by t q = returned t (result t q.sort)

-- a procedure, whose number and those of the procedures around it are bytes in the code, and from 1
abbrev pub are_bytes : List ℕ → Bool
are_bytes [] = true
are_bytes (n ∷ ns) = nat_lt n 255 && are_bytes ns

abbrev pub procedure_with : Table → RProc → List Shape → List RStmt → Procedure
procedure_with t q locals ss = record { name = q.name; around = map (λ n. n + 1) q.around; locals = locals; parameters = arity t q.sort; result = result_by t q; body = statements_of ss }

abbrev pub made_of : Table → RProc → Option (List Shape) → Option (List RStmt) → Option Procedure
made_of t q (Some locals) (Some ss) = if are_bytes q.around then Some (procedure_with t q locals ss) else None
made_of t q _ _ = None

abbrev pub and_procedure : Option Procedure → Option (List Procedure) → Option (List Procedure)
and_procedure None ps = None
and_procedure (Some p) None = None
and_procedure (Some p) (Some ps) = Some (p ∷ ps)

-- what lies in the variables of a procedure, by its number
abbrev pub locals_laid : List Shape → List (List RVar) → ℕ → Option (List Shape)
locals_laid types ls p = all_some (map (lying types) (locals_in ls p))

-- procedures from a number on with their bodies, in the order of their headings: none where one has no code
abbrev pub procedures_from : Table → (ℕ → Option (List Shape)) → ℕ → List RProc → List (Option (List RStmt)) → Option (List Procedure)
procedures_from t locals p [] [] = Some []
procedures_from t locals p (q ∷ qs) (b ∷ bs) = and_procedure (made_of t q (locals p) b) (procedures_from t locals (suc p) qs bs)
procedures_from t locals p _ _ = None

-- by the types, the variables of the module, the procedures and their variables
module _ (t : Table) (vs : List RVar) (qs : List RProc) (ls : List (List RVar)) where
  abbrev pub module_with : List ℕ → (types variables : List Shape) → List Procedure → Statements → Resolved
  module_with n types ts ps ss = record { name = n; targets = targets t types; signatures = signatures t types; names = map variable_name vs; variables = ts; procedures = ps; body = ss }

  -- where its variables lie, and its strings behind them
  abbrev pub with_variables : List ℕ → List Shape → Option (List Shape) → List Procedure → List RStmt → Option Resolved
  with_variables n types None ps ss = None
  with_variables n types (Some ts) ps ss = with_room (module_with n types ts ps (statements_of ss))

  abbrev pub with_procedures : List ℕ → List Shape → Option (List Procedure) → List RStmt → Option Resolved
  with_procedures n types None ss = None
  with_procedures n types (Some ps) ss = with_variables n types (variables_by (Some types) vs) ps ss

  abbrev pub laid_out : List ℕ → Option (List Shape) → List (Option (List RStmt)) → List RStmt → Option Resolved
  laid_out n None bodies ss = None
  laid_out n (Some types) bodies ss = with_procedures n types (procedures_from t (locals_laid types ls) 0 qs bodies) ss

  -- none where a form has no code
  abbrev pub assembled_by : List ℕ → List (Option (List RStmt)) → Option (List RStmt) → Option Resolved
  assembled_by n bodies None = None
  assembled_by n bodies (Some ss) = laid_out n (shapes t) bodies ss

-- the module of a name that what is declared and stated makes
abbrev pub assembled : Env → List ℕ → Stated → Option Resolved
assembled e n b = assembled_by e.types e.variables e.procedures e.locals n b.procedures b.body
