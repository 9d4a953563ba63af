-- What holds of all outcomes that a row can have holds of each step.
use Rattle.std.proofs.Common.{◌≡◌, ℕ, ◌+◌, ◌≤◌, Bool, true, false, cond, if◌then◌else◌, Option, Some, None, Result, Ok, Err, List, [], ◌∷◌, refl}
use Rattle.std.proofs.lemmas.Bool.{leb-true}
use Rattle.std.specs.Prelude.{ℤ, ◌&&◌, nat_le, length}
use Rattle.lil_base.specs.{declared.fault.{ArithFault.ArithFault, TrapKind.TrapKind, LimitKind.LimitKind}}
use Rattle.lil_asm.specs.declared.instr.Instr.{Instr}
use Rattle.lil_asm.specs.declared.instr.Instr.TheVariants.{Liw}
use Rattle.lil_asm.specs.{Bytes.decoded, Requests.request_words}
use Rattle.lil_base.specs.declared.request.Request as request
use Rattle.lil_mcode.specs.{declared.machine.Event.{Event, TheVariants.{Went, Request, LevelEnded, Trap, Limit, BadCode}}}
use Rattle.lil_mcode.specs.Table.{Module, State, module_at, going, bad, mstep, act, fetched, performed, result_row, on_one, on_two, on_three, chosen_row, begun_row, trap_row, array_lies, request_row, end_row, body_row, called_row, based_row}

-- a property that each outcome of a row at s has: it goes on, with a mark if there was one, asks with its words on the stack and its array
-- in the store, or changes nothing
pub record Holds (s : State) (P : Event × State → Type 0) : Type 0 where
  pub on : (t : State) → t.marked ≡ s.marked → P (Went, t)
  pub asked : (r : request.Request) (q : ℕ) → request_words r ≤ length s.stack → array_lies r s.stack ≡ true → P (Request r, going s q s.stack)
  pub trap : (k : TrapKind) → P (Trap k, s)
  pub limit : (k : LimitKind) → P (Limit k, s)
  pub bad : P (BadCode, s)
  pub ended : P (LevelEnded, s)

module _ (s : State) (P : Event × State → Type 0) (p : Holds s P) where
  either : (b : Bool) (x y : Event × State) → P x → P y → P (cond b x y)
  either true x y f g = f
  either false x y f g = g

  result_has : (q : ℕ) (rest : List ℕ) (r : Result ℤ ArithFault) → P (result_row s q rest r)
  result_has q rest (Ok z) = p.on _ refl
  result_has q rest (Err e) = p.trap _

  one_has : (stack : List ℕ) (f : ℕ → List ℕ → Event × State) → ((x : ℕ) (rest : List ℕ) → P (f x rest)) → P (on_one s stack f)
  one_has [] f m = p.bad
  one_has (x ∷ rest) f m = m x rest

  two_has : (stack : List ℕ) (f : ℕ → ℕ → List ℕ → Event × State) → ((x y : ℕ) (rest : List ℕ) → P (f x y rest)) → P (on_two s stack f)
  two_has (y ∷ x ∷ rest) f m = m x y rest
  two_has [] f m = p.bad
  two_has (y ∷ []) f m = p.bad

  three_has : (stack : List ℕ) (f : ℕ → ℕ → ℕ → List ℕ → Event × State) → ((x y z : ℕ) (rest : List ℕ) → P (f x y z rest)) → P (on_three s stack f)
  three_has (z ∷ y ∷ x ∷ rest) f m = m x y z rest
  three_has [] f m = p.bad
  three_has (z ∷ []) f m = p.bad
  three_has (z ∷ y ∷ []) f m = p.bad

  chosen_has : (m : Module) (rest : List ℕ) (t : Option ℕ) → P (chosen_row m s rest t)
  chosen_has m rest None = p.bad
  chosen_has m rest (Some t) = search (either, p.on, p.bad)

  begun_has : (m : Module) (at t q a k : ℕ) (rest : List ℕ) (n : Option ℕ) → P (begun_row m at t q s a k rest n)
  begun_has m at t q a k rest None = search (either, p.on, p.bad)
  begun_has m at t q a k rest (Some n) = search (either, p.on, p.bad)

  trap_has : (k : Option TrapKind) → P (trap_row s k)
  trap_has None = p.bad
  trap_has (Some k) = p.trap _

  words_stay : (r : request.Request) (q : ℕ) (there lies : Bool) → nat_le (request_words r) (length s.stack) ≡ there → array_lies r s.stack ≡ lies
      → P (if there && lies then (Request r, going s q s.stack) else bad s)
  words_stay r q true true h l = p.asked r q (leb-true (request_words r) (length s.stack) h) l
  words_stay r q true false h l = p.bad
  words_stay r q false lies h l = p.bad

  request_has : (q : ℕ) (r : Option request.Request) → P (request_row q s r)
  request_has q None = p.bad
  request_has q (Some r) = words_stay r q (nat_le (request_words r) (length s.stack)) (array_lies r s.stack) refl refl

  body_has : (b : ℕ) (bodies : List ℕ) (m : Option Module) → P (body_row s b bodies m)
  body_has b bodies None = p.bad
  body_has b bodies (Some m) = search (either, p.on, p.limit)

  end_has : (bodies : List ℕ) → P (end_row s bodies)
  end_has [] = p.ended
  end_has (b ∷ bodies) = body_has b bodies (module_at s.modules b)

  called_has : (n at q : ℕ) (e : Option ℕ) → P (called_row n at q s e)
  called_has n at q None = p.bad
  called_has n at q (Some e) = p.on _ refl

  based_has : (base : Option ℕ) (w : ℕ) (f : ℕ → Event × State) → ((a : ℕ) → P (f a)) → P (based_row base w s f)
  based_has None w f m = p.bad
  based_has (Some base) w f m = m (base + w)

  act_has : (i : Instr) (q : ℕ) (m : Module) → P (act i q m s)
  act_has (Liw w) q m = search (either, p.on, p.bad)
  act_has _ q m = search (either, one_has, two_has, three_has, result_has, chosen_has, begun_has, trap_has, request_has, end_has, called_has, based_has, p.on, p.trap, p.limit, p.bad) depth 9

  performed_has : (m : Module) (o : Option (Instr × ℕ)) → P (performed s m o)
  performed_has m None = p.bad
  performed_has m (Some d) = act_has d.0 d.1 m

  fetched_has : (o : Option Module) → P (fetched s o)
  fetched_has None = p.bad
  fetched_has (Some m) = performed_has m (decoded m.code s.place)

  pub step_has : P (mstep s)
  step_has = either s.marked _ _ (fetched_has (module_at s.modules s.running)) (p.limit _)
