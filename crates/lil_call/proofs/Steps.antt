-- One part of a call after the other.
use Rattle.std.proofs.Common.{◌≡◌, ℕ, max, Bool, true, false, ◌&&◌, List, length, Option, None, Result, Ok, IfOk, subst, ap, sym, ◌∙◌}
use Rattle.std.proofs.lemmas.Result.{IfOk-weaker}
use Rattle.lil_base.specs.declared.fault.Place.{Place}
use Rattle.lil_types.specs.Types.{Table}
use Rattle.lil_declared.specs.declared.standard.Standard.{Standard}
use Rattle.lil_resolved.specs.declared.resolved.RStmt.{RStmt}
use Rattle.lil_report.specs.{declared.report.Fault.Fault, Told.{Row, after, Said}, Laws.{said_after, said_as, said_to, said_map, said_pure}}
use Rattle.lil_kinds.specs.{Forms.result, declared.found.Found.Found}
use Rattle.lil_forms.specs.Places.{located_in}
use Rattle.lil_call.specs.{declared.{call.{Argument.Argument, Callee.Callee}, passing.Passed.Passed, routines.Invoked.Invoked}, Passing.{nothing_passed, arguments_mean}}
use Rattle.lil_call.specs.Procedures.{standard_node, function_if, function_mean, of_all, ordinal_node, converted, converted_if, kept_if, procedure_if, procedure_mean, by_all, variable_node, operand_node, deep_node, done_if, variable_statement, operand_statement, with_variable, with_operand}
use Rattle.lil_call.specs.Calls.{is_resident, heading_node, depth_node, passed_if, routine_mean, call_found, routine_value, call_statement, routine_statement, value_of, statement_of}

-- a part whose value is known, and what is built on that value
said_at : {A B : Type 0} (m : A × List Row) (k : A → B × List Row) (x : A) {a : A} {b : B} {r s u : Option Fault} → Said m r a s → a ≡ x → Said (k x) s b u → Said (after m k) r b u
said_at m k x {b = b} {s = s} {u = u} h e g = said_after m k h (subst (λ a. Said (k a) s b u) (sym e) g)

module _ (t : Table) (p : Place) (of : Standard) where
  -- ---- functions
  pub is_function : (xs : List Argument) (n : ℕ) {b : Bool} {o : Option Found} {r s u : Option Fault}
      → n ≡ length xs → Said (standard_node p true of n) r b s → b ≡ true → Said (of_all t p of xs) s o u → Said (function_mean t p of xs) r o u
  is_function xs n {b = b} {r = r} {s = s} e h i g = said_at (standard_node p true of (length xs)) (function_if t p of xs) true (subst (λ n. Said (standard_node p true of n) r b s) e h) i g

  pub no_function : (xs : List Argument) (n : ℕ) {b : Bool} {r s : Option Fault}
      → n ≡ length xs → Said (standard_node p true of n) r b s → b ≡ false → Said (function_mean t p of xs) r None s
  no_function xs n {b = b} {r = r} {s = s} e h i = said_at (standard_node p true of (length xs)) (function_if t p of xs) false (subst (λ n. Said (standard_node p true of n) r b s) e h) i (said_pure None s)

  pub is_converted : (at : Place) (sort : ℕ) (x : Found) {is : Bool} {o q : Option Found} {r s u : Option Fault}
      → Said (ordinal_node t at sort) r is s → Said (converted t p of sort x) s o u → q ≡ kept_if is o → Said (after (ordinal_node t at sort) (converted_if t p of sort x)) r q u
  is_converted at sort x {is = is} h g e = said_after (ordinal_node t at sort) (converted_if t p of sort x) h (said_to (said_map (kept_if is) g) e)

  -- ---- procedures
  pub is_procedure : (xs : List Argument) (n : ℕ) {b : Bool} {o : Option RStmt} {r s u : Option Fault}
      → n ≡ length xs → Said (standard_node p false of n) r b s → b ≡ true → Said (by_all t p of xs) s o u → Said (procedure_mean t p of xs) r o u
  is_procedure xs n {b = b} {r = r} {s = s} e h i g = said_at (standard_node p false of (length xs)) (procedure_if t p of xs) true (subst (λ n. Said (standard_node p false of n) r b s) e h) i g

  pub no_procedure : (xs : List Argument) (n : ℕ) {b : Bool} {r s : Option Fault}
      → n ≡ length xs → Said (standard_node p false of n) r b s → b ≡ false → Said (procedure_mean t p of xs) r None s
  no_procedure xs n {b = b} {r = r} {s = s} e h i = said_at (standard_node p false of (length xs)) (procedure_if t p of xs) false (subst (λ n. Said (standard_node p false of n) r b s) e h) i (said_pure None s)

  pub is_changed : (x : Found) {a b : Bool} {q : Option RStmt} {r s u : Option Fault} (c : Bool) (v : Option RStmt)
      → Said (variable_node t of x) r a s → Said (deep_node p x.depth) s b u → c ≡ (a && b) → v ≡ variable_statement t of (located_in x.form) → q ≡ done_if c v
      → Said (with_variable t p of x) r q u
  is_changed x {a = a} c v h g i j e =
      said_after (variable_node t of x) _ h
      (said_to (said_map (λ b. done_if (a && b) (variable_statement t of (located_in x.form))) g) (e ∙ (λ n. done_if (i n) (j n))))

  pub is_joined : (x y : Found) {a b c : Bool} {q : Option RStmt} {r s u w : Option Fault} (d : Bool) (depth : ℕ) (v : Option RStmt)
      → Said (variable_node t of x) r a s → Said (operand_node t of x.kind y) s b u → Said (deep_node p depth) u c w → depth ≡ max x.depth y.depth
      → d ≡ (a && (b && c)) → v ≡ operand_statement t of (located_in x.form) y → q ≡ done_if d v
      → Said (with_operand t p of x y) r q w
  is_joined x y {a = a} {b = b} {c = c} {u = u} {w = w} d depth v h g l m i j e =
      said_after (variable_node t of x) _ h
      (said_after (operand_node t of x.kind y) _ g
      (said_to (said_map (λ c. done_if (a && (b && c)) (operand_statement t of (located_in x.form) y)) (subst (λ n. Said (deep_node p n) u c w) m l)) (e ∙ (λ n. done_if (i n) (j n)))))

-- ---- calls of procedures
module _ (t : Table) (p : Place) (v : Invoked) where
  pub is_routine_call : (wanted : Bool) (xs : List Argument) (n : ℕ) (is : Bool) (start : Passed) {b : Bool} {q : Passed} {o : Option Passed} {r s u w : Option Fault}
      → n ≡ length xs → Said (heading_node t p wanted v.sort n) r b s → b ≡ true → is ≡ is_resident v.target → start ≡ nothing_passed v.depth
      → Said (arguments_mean t is v.sort start xs) s q u → Said (depth_node p q) u o w → Said (routine_mean t p wanted v xs) r o w
  is_routine_call wanted xs n is start {b = b} {q = q} {r = r} {s = s} {u = u} e h i k j g l =
      said_at (heading_node t p wanted v.sort (length xs)) (passed_if t p v xs) true (subst (λ n. Said (heading_node t p wanted v.sort n) r b s) e h) i
      (said_after (arguments_mean t (is_resident v.target) v.sort (nothing_passed v.depth) xs) (depth_node p) (subst (λ z. Said z s q u) (λ n. arguments_mean t (k n) v.sort (j n) xs) g) l)

  pub no_routine_call : (wanted : Bool) (xs : List Argument) (n : ℕ) {b : Bool} {r s : Option Fault}
      → n ≡ length xs → Said (heading_node t p wanted v.sort n) r b s → b ≡ false → Said (routine_mean t p wanted v xs) r None s
  no_routine_call wanted xs n {b = b} {r = r} {s = s} e h i =
      said_at (heading_node t p wanted v.sort (length xs)) (passed_if t p v xs) false (subst (λ n. Said (heading_node t p wanted v.sort n) r b s) e h) i (said_pure None s)

  -- what the arguments come to beside w, which is v
  pub is_value_call : {E : Type 0} (xs : List Argument) (q : Result (Option Passed) E) (w : Invoked) {s : Option Passed} {o : Option Found} {r u : Option Fault} (sort : Option ℕ)
      → IfOk q (λ s. Said (routine_mean t p true v xs) r s u) → q ≡ Ok s → w ≡ v → sort ≡ result t w.sort → o ≡ call_found t p w.target sort s → Said (routine_value t p v xs) r o u
  is_value_call xs q w {s = s} {r = r} {u = u} sort h is same i e =
      said_to (said_map (call_found t p v.target (result t v.sort)) (subst (λ q. IfOk q (λ s. Said (routine_mean t p true v xs) r s u)) is h))
      (e ∙ ap (λ sort. call_found t p w.target sort s) i ∙ ap (λ (v : Invoked). call_found t p v.target (result t v.sort) s) same)

  pub is_statement_call : {E : Type 0} (xs : List Argument) (q : Result (Option Passed) E) (w : Invoked) {s : Option Passed} {o : Option RStmt} {r u : Option Fault}
      → IfOk q (λ s. Said (routine_mean t p false v xs) r s u) → q ≡ Ok s → w ≡ v → o ≡ call_statement w s → Said (routine_statement t p v xs) r o u
  is_statement_call xs q w {s = s} {r = r} {u = u} h is same e =
      said_to (said_map (call_statement v) (subst (λ q. IfOk q (λ s. Said (routine_mean t p false v xs) r s u)) is h)) (e ∙ ap (λ (v : Invoked). call_statement v s) same)

-- ---- what is called
module _ (t : Table) (p : Place) (xs : List Argument) where
  pub value_as : {E : Type 0} (c d : Callee) (v w : Invoked) (q : Result (Option Found) E) (r s : Option Fault)
      → c ≡ d → v ≡ w → value_of t p d xs ≡ routine_value t p w xs → IfOk q (λ o. Said (routine_value t p v xs) r o s) → IfOk q (λ o. Said (value_of t p c xs) r o s)
  value_as c d v w q r s e i h = IfOk-weaker q (λ o. Said (routine_value t p v xs) r o s) (λ o. Said (value_of t p c xs) r o s)
      (λ o g. said_as (ap (λ c. value_of t p c xs) e ∙ h ∙ ap (λ v. routine_value t p v xs) (sym i)) g)

  pub statement_as : {E : Type 0} (c d : Callee) (v w : Invoked) (q : Result (Option RStmt) E) (r s : Option Fault)
      → c ≡ d → v ≡ w → statement_of t p d xs ≡ routine_statement t p w xs → IfOk q (λ o. Said (routine_statement t p v xs) r o s) → IfOk q (λ o. Said (statement_of t p c xs) r o s)
  statement_as c d v w q r s e i h = IfOk-weaker q (λ o. Said (routine_statement t p v xs) r o s) (λ o. Said (statement_of t p c xs) r o s)
      (λ o g. said_as (ap (λ c. statement_of t p c xs) e ∙ h ∙ ap (λ v. routine_statement t p v xs) (sym i)) g)
