-- What one step of the meaning changes of the world, of the levels and of the activations.
use Rattle.std.proofs.Common.{◌≡◌, ◌⊎◌, inl, inr, ℕ, zero, suc, Bool, true, false, if◌then◌else◌, List, [], ◌∷◌, Result, Ok, Err, Option, Some, None, length, ◌≤◌, refl, sym, ap, arith, ◌∙◌, option_and_then}
use Rattle.std.specs.Prelude.{ℤ, pos, map, slice_get}
use Rattle.lil_base.specs.{Words.{Cardinal, between}, declared.fault.{TrapKind.TrapKind, TrapAt.TrapAt}}
use Rattle.lil_base.specs.declared.request.Request as request
use Rattle.lil_resolved.specs.{Kinds.{Kind, OfWhole, nat_of, Scalar, ToObject, ToProcedure, Nil, within, value_with, ordinal_of}, Resolved.{Named, OfLevel, Designator, Variable, Handed, Along, Held, Expression, Taken, High, Arguments, NoMore, Also, ByValue, OfPlace, OfAll, OfArray, OfText, OfOpened, Spelled, Statement, Exit, Statements, Procedure, procedure_by, Resolved, counted_as}}
use Rattle.lil_meaning.specs.{Items.{Place, got, loaded_at, Receiver, Requested, callee_number, callee_owner, Called, Datum, Scalars, Places, Hole, Get, AlongAt, StoreAt, ChangeAt, OneOf, RightOf, ApplyTo, Pass, Returning, End, Pick, Task, Do, Passing, Spelling, Item, Value, Evaluate, PlaceOf, Fill, Perform, Activation, Level, Phase, Going, Closing, Source}, Need.{HasCalls, awaits_value}, World.{World, Given, serve, closing}}
use Rattle.lil_meaning.specs.Steps.{next, value_called, spelled, end_reached, activation_result, by_phase, first, given, fill, filled, filled_place, pointed, performed, did, entered, owner_of, procedures_of, current, turned_at, turned_with, turned_on, variable_place, array_of, indexed, measured, handed_on, picked, allocated, found_at, placed, received, passed_on, evaluated, answered, applied, one_applied, function_value, chosen, stored_with, value_of, changed, whole_of, given_of, level_of, over, left_by, leave}
use Rattle.lil_meaning.specs.Runs.{after}
use Rattle.lil_meaning.specs.Items as items

-- no module of the library has procedures
abbrev pub HasNone : List Resolved → Type 0
HasNone library = (loaded : List ℕ) (n : ℕ) → procedures_of (loaded_at library loaded n) ≡ []

-- the world stays, or a request was served, or something was closed
abbrev pub Turns : Source → Source → Type 0
Turns s t =
    (t.world ≡ s.world)
    ⊎ (((r : request.Request) × (given : List Given) × (t.world ≡ (serve (level_of s) r given s.world).0))
    ⊎ ((level : ℕ) × (closing level s.world ≡ Some t.world)))

-- and where no level waits, none does then, nor does an activation begin without procedures
pub record Serves (library : List Resolved) (s t : Source) : Type 0 where
  pub world : Turns s t
  pub first : s.waiting ≡ [] → t.waiting ≡ []
  pub same : HasNone library → s.waiting ≡ [] → t.activations ≡ s.activations

still : {library : List Resolved} {s t : Source} → t.world ≡ s.world → t.waiting ≡ s.waiting → t.activations ≡ s.activations → Serves library s t
still world levels activations = record { world = inl world; first = λ none. levels ∙ none; same = λ bare none. activations }

none_by : (n : ℕ) → procedure_by {A = Procedure} [] n ≡ None
none_by zero = refl
none_by (suc n) = refl

choice_serves : {library : List Resolved} (s : Source) (test : Bool) (x y : Source) → Serves library s x → Serves library s y → Serves library s (if test then x else y)
choice_serves s true x y f g = f
choice_serves s false x y f g = g

module _ (library : List Resolved) (s : Source) where
  answered_serves : (r : Result Scalar TrapKind) (k : List Item) → Serves library s (answered library r k s)
  answered_serves (Ok v) k = still refl refl refl
  answered_serves (Err t) k = still refl refl refl

  stored_serves : (p : Place) (r : Result Scalar TrapKind) (k : List Item) → Serves library s (stored_with library p r k s)
  stored_serves p (Ok v) k = still refl refl refl
  stored_serves p (Err t) k = still refl refl refl

  picked_serves : (o : Option Statements) (k : List Item) → Serves library s (picked library o k s)
  picked_serves None k = still refl refl refl
  picked_serves (Some body) k = still refl refl refl

  turned_at_serves : (o : Option Place) (v : Scalar) (body : Statements) (k : List Item) → Serves library s (turned_at o v body k s)
  turned_at_serves None v body k = still refl refl refl
  turned_at_serves (Some p) v body k = still refl refl refl

  valued_serves : (o : Option Scalar) (x : Named) (body : Statements) (k : List Item) → Serves library s (turned_with library o x body k s)
  valued_serves None x body k = still refl refl refl
  valued_serves (Some v) x body k = turned_at_serves (variable_place s x) v body k

  turned_serves : (x : Named) (kind : Kind) (z step : ℤ) (left : ℕ) (body : Statements) (k : List Item) → Serves library s (turned_on library x kind z step left body k s)
  turned_serves x kind z step zero body k = still refl refl refl
  turned_serves x kind z step (suc left) body k = valued_serves (value_with kind z) x body _

  allocated_serves : (back : Bool) (n : ℕ) (p : Place) (k : List Item) → Serves library s (allocated back n p k s)
  allocated_serves false n p k = still refl refl refl
  allocated_serves true n p k = still refl refl refl

  value_serves : (v : Scalar) (given : Arguments) (k : List Item) → Serves library s (value_called library v given k s)
  value_serves (ToProcedure m p) given k = still refl refl refl
  value_serves Nil given k = still refl refl refl
  value_serves _ given k = still refl refl refl

  filled_serves : (h : Hole) (v : Scalar) (k : List Item) → Serves library s (filled library h v k s)
  filled_serves (items.IndexAt p kind) v k = choice_serves s (within kind v) _ _ (still refl refl refl) (still refl refl refl)
  filled_serves (AlongAt p high) v k = choice_serves s (between (pos 0) (ordinal_of v) (pos high)) _ _ (still refl refl refl) (still refl refl refl)
  filled_serves (StoreAt p kind) v k = choice_serves s (within kind v) _ _ (still refl refl refl) (still refl refl refl)
  filled_serves (ChangeAt down p kind) v k = stored_serves p (value_of kind (changed down (counted_as kind) (ordinal_of (got s.cells p)) (whole_of v))) k
  filled_serves (OneOf o kind) v k = answered_serves (one_applied o kind v) k
  filled_serves (RightOf o kind u) v k = answered_serves (applied o kind u v) k
  filled_serves (ApplyTo f) v k = answered_serves (function_value f v) k
  filled_serves (items.MemberOf u kind) v k = choice_serves s (within kind v) _ _ (still refl refl refl) (still refl refl refl)
  filled_serves (items.MembersFrom u kind f) v k = choice_serves s (within kind v) _ _ (still refl refl refl) (still refl refl refl)
  filled_serves (items.MembersTo u kind low) v k = choice_serves s (within kind v) _ _ (still refl refl refl) (still refl refl refl)
  filled_serves (items.MemberAt out p kind) v k = choice_serves s (within kind v) _ _ (still refl refl refl) (still refl refl refl)
  filled_serves (items.AllocateAt back p) v k = choice_serves s (within (OfWhole Cardinal) v) _ _ (allocated_serves back (nat_of (ordinal_of v)) p k) (still refl refl refl)
  filled_serves (Pass r kind done left) v k = choice_serves s (within kind v) _ _ (still refl refl refl) (still refl refl refl)
  filled_serves (Returning kind) v k = choice_serves s (within kind v) _ _ (still refl refl refl) (still refl refl refl)
  filled_serves (items.Calling given) v k = value_serves v given k
  filled_serves (Pick arms) v k = picked_serves (chosen arms (ordinal_of v)) k
  filled_serves _ v k = still refl refl refl

  pointed_serves : (v : Scalar) (k : List Item) → Serves library s (pointed library v k s)
  pointed_serves (ToObject o) k = still refl refl refl
  pointed_serves _ k = still refl refl refl

  placed_fill : (h : Hole) (p : Place) (k : List Item) → Serves library s (filled_place library h p k s)
  placed_fill Get p k = still refl refl refl
  placed_fill items.Pointed p k = pointed_serves (got s.cells p) k
  placed_fill _ p k = still refl refl refl

  fill_serves : (d : Datum) (h : Hole) (k : List Item) → Serves library s (fill library d h k s)
  fill_serves (Scalars v) h k = filled_serves h v k
  fill_serves (Places p) h k = placed_fill h p k
  fill_serves _ h k = still refl refl refl

  entered_serves : (o : Option Procedure) (a : Procedure → Activation) (done : List Datum) (k : List Item) → (HasNone library → o ≡ None) → Serves library s (entered o a done k s)
  entered_serves None a done k none = still refl refl refl
  entered_serves (Some q) a done k none = record { world = inl refl; first = λ e. e; same = λ bare e. (let clash = none bare in cc) }

  did_serves : (t : Statement) (k : List Item) → Serves library s (did library t k s)
  did_serves Exit k = still refl refl refl
  did_serves _ k = still refl refl refl

  received_serves : (r : Receiver) (done : List Datum) (k : List Item) → Serves library s (received library r done k s)
  received_serves (Requested r) done k = record { world = inr (inl (r, map (given_of s.cells) done, refl)); first = λ none. none; same = λ bare none. refl }
  received_serves (Called q) done k =
      let owner : ℕ = callee_owner (owner_of (slice_get s.activations (current k))) q in
      entered_serves (procedure_by (procedures_of (loaded_at library s.loaded owner)) (callee_number q)) _ done k (λ bare. ap (λ (ps : List Procedure). procedure_by ps (callee_number q)) (bare s.loaded owner) ∙ none_by (callee_number q))

  handed_serves : (o : Option (Place × ℕ)) (r : Receiver) (done : List Datum) (left : Arguments) (k : List Item) → Serves library s (handed_on o r done left k s)
  handed_serves None r done left k = still refl refl refl
  handed_serves (Some o) r done left k = still refl refl refl

  indexed_serves : (o : Option (Place × ℕ)) (e : Expression) (k : List Item) → Serves library s (indexed o e k s)
  indexed_serves None e k = still refl refl refl
  indexed_serves (Some o) e k = still refl refl refl

  measured_serves : (o : Option (Place × ℕ)) (k : List Item) → Serves library s (measured o k s)
  measured_serves None k = still refl refl refl
  measured_serves (Some o) k = still refl refl refl

  passed_serves : (r : Receiver) (done : List Datum) (left : Arguments) (k : List Item) → Serves library s (passed_on library r done left k s)
  passed_serves r done NoMore k = received_serves r done k
  passed_serves r done (Also (ByValue kind e) left) k = still refl refl refl
  passed_serves r done (Also (OfPlace d) left) k = still refl refl refl
  passed_serves r done (Also (OfAll d) left) k = still refl refl refl
  passed_serves r done (Also (OfArray copied d high) left) k = still refl refl refl
  passed_serves r done (Also (OfText cs) left) k = still refl refl refl
  passed_serves r done (Also (OfOpened copied n x) left) k = handed_serves (array_of s n x) r done left k
  passed_serves r done (Also (Spelled cs count) left) k = still refl refl refl

  spelled_serves : (r : Receiver) (cs : List ℕ) (todo : ℕ) (done : List Datum) (left : Arguments) (k : List Item) → Serves library s (spelled r cs todo done left k s)
  spelled_serves r cs zero done left k = still refl refl refl
  spelled_serves r cs (suc todo) done left k = still refl refl refl

  ended_serves : (o : Option Kind) (k : List Item) → Serves library s (end_reached library o k s)
  ended_serves None k = still refl refl refl
  ended_serves (Some kind) k = still refl refl refl

  performed_serves : (t : Task) (k : List Item) → Serves library s (performed library t k s)
  performed_serves (Do t) k = did_serves t k
  performed_serves (Passing r done left) k = passed_serves r done left k
  performed_serves (Spelling r cs todo done left) k = spelled_serves r cs todo done left k
  performed_serves (End a) k = ended_serves (activation_result library s.loaded (slice_get s.activations a)) k
  performed_serves (items.Turns x kind z step left body) k = turned_serves x kind z step left body k
  performed_serves _ k = still refl refl refl

  given_serves : (d : Datum) (i : Item) (k : List Item) → Serves library s (given library d i k s)
  given_serves d (Fill h) k = fill_serves d h k
  given_serves d _ k = still refl refl refl

  evaluated_serves : (e : Expression) (k : List Item) → Serves library s (evaluated e k s)
  evaluated_serves (Taken d kind) k = still refl refl refl
  evaluated_serves (High n x) k = measured_serves (array_of s n x) k
  evaluated_serves _ k = still refl refl refl

  found_serves : (o : Option Place) (k : List Item) → Serves library s (found_at o k s)
  found_serves None k = still refl refl refl
  found_serves (Some p) k = still refl refl refl

  placed_serves : (d : Designator) (k : List Item) → Serves library s (placed d k s)
  placed_serves (Variable v) k = found_serves (variable_place s v) k
  placed_serves (Handed n x) k = found_serves (variable_place s (OfLevel n x)) k
  placed_serves (Along n x e) k = indexed_serves (array_of s n x) e k
  placed_serves (Held w) k = found_serves _ k
  placed_serves _ k = still refl refl refl

  over_serves : (ls : List Level) (end : Option TrapAt) → s.waiting ≡ ls → Serves library s (over ls end s)
  over_serves [] end e = still refl refl refl
  over_serves (l ∷ ls) end e = record { world = inl refl; first = λ none. (let clash : l ∷ ls ≡ [] = sym e ∙ none in cc); same = λ bare none. (let clash : l ∷ ls ≡ [] = sym e ∙ none in cc) }

  left_serves : (end : Option TrapAt) (o : Option World) → closing (level_of s) s.world ≡ o → Serves library s (left_by end o s)
  left_serves end None e = over_serves s.waiting end refl
  left_serves end (Some w) e = record { world = inr (inr (level_of s, e)); first = λ none. none; same = λ bare none. refl }

  leave_serves : (end : Option TrapAt) → Serves library s (leave end s)
  leave_serves end = left_serves end (closing (level_of s) s.world) refl

  first_serves : (k : List Item) → Serves library s (first library k s)
  first_serves [] = leave_serves None
  first_serves (Value d ∷ []) = still refl refl refl
  first_serves (Value d ∷ i ∷ k) = given_serves d i k
  first_serves (Evaluate e ∷ k) = evaluated_serves e k
  first_serves (PlaceOf d ∷ k) = placed_serves d k
  first_serves (Fill h ∷ k) = still refl refl refl
  first_serves (Perform t ∷ k) = performed_serves t k

  phase_serves : (p : Phase) → Serves library s (by_phase library p s)
  phase_serves Going = first_serves s.items
  phase_serves (Closing end) = leave_serves end
  phase_serves _ = still refl refl refl

  pub next_serves : Serves library s (next library s)
  next_serves = phase_serves s.phase

-- no level comes to wait
pub after_first : (library : List Resolved) (n : ℕ) (s : Source) → s.waiting ≡ [] → (after library n s).waiting ≡ []
after_first library zero s none = none
after_first library (suc n) s none = after_first library n (next library s) ((next_serves library s).first none)

-- where no module has procedures, no activation begins
pub after_same : (library : List Resolved) → HasNone library → (n : ℕ) (s : Source) → s.waiting ≡ [] → (after library n s).activations ≡ s.activations
after_same library bare zero s none = refl
after_same library bare (suc n) s none = let one = next_serves library s in after_same library bare n (next library s) (one.first none) ∙ one.same bare none

-- and no call is at hand, but where the value of what is called is to come
pub none_called : (library : List Resolved) → HasNone library → (t : Source) → length t.activations ≤ 1 → awaits_value t.items ≡ false → HasCalls library t → ⊥
none_called library bare t few none (inl more) = omega (arith, few, more)
none_called library bare t few none (inr (inr awaits)) = let clash : false ≡ true = sym none ∙ awaits in cc
none_called library bare t few none (inr (inl c)) =
    none_there (sym (ap (λ (ps : List Procedure). procedure_by ps (callee_number c.callee)) (bare t.loaded (callee_owner (owner_of (slice_get t.activations (current t.items))) c.callee)) ∙ none_by (callee_number c.callee)) ∙ c.there)
  where
    none_there : None ≡ Some c.its → ⊥
    none_there e = cc

-- a module without procedures that is loaded alone
pub none_alone : (p : Resolved) → p.procedures ≡ [] → HasNone (p ∷ [])
none_alone p bare loaded zero = refl
none_alone p bare loaded (suc n) = by (slice_get loaded n)
  where
    by : (o : Option ℕ) → procedures_of (option_and_then (slice_get (p ∷ [])) o) ≡ []
    by None = refl
    by (Some zero) = bare
    by (Some (suc i)) = refl
