-- What the calls at hand need of the stack.
use Rattle.std.specs.Prelude.{ℕ, zero, suc, Bool, true, false, ◌+◌, ◌*◌, ◌<◌, ◌≡◌, ◌⊎◌, List, [], ◌∷◌, length, Option, Some, None, slice_get}
use Rattle.lil_resolved.specs.{Kinds.{Shape, Opened, words}, Resolved.{Procedure, Resolved, procedure_by}, Sizes.frame_words}
use Rattle.lil_meaning.specs.{Items.{loaded_at, Callee, callee_number, callee_owner, Receiver, Requested, Called, Hole, Pass, PassPlace, PassAll, PassArray, Calling, Task, Passing, Spelling, End, Item, Evaluate, Fill, Perform, Slot, Here, At, Along, Activation, Source}, Steps.{current, owner_of, procedures_of}}

-- how many words the frame of a procedure takes
abbrev pub frame_by : Option Procedure → ℕ
frame_by None = 0
frame_by (Some q) = frame_words q.locals q.body

abbrev pub frame_of : Option Resolved → ℕ → ℕ
frame_of None p = 0
frame_of (Some m) zero = frame_words [] m.body
frame_of (Some m) (suc n) = frame_by (slice_get m.procedures n)

-- how many words the copies of its open arrays take
abbrev pub copy_words : Slot → Shape → ℕ
copy_words Here t = 0
copy_words (At p) t = 0
copy_words (Along p high) (Opened true t) = suc high * words t
copy_words (Along p high) _ = 0

abbrev pub copies_words : List Shape → List Slot → ℕ
copies_words [] slots = 0
copies_words (t ∷ ts) [] = 0
copies_words (t ∷ ts) (slot ∷ slots) = copy_words slot t + copies_words ts slots

abbrev pub locals_by : Option Procedure → List Shape
locals_by None = []
locals_by (Some q) = q.locals

abbrev pub copies_of : Option Resolved → (p : ℕ) → List Slot → ℕ
copies_of m p slots = copies_words (locals_by (procedure_by (procedures_of m) p)) slots

-- a call takes its frame, the copies, a whole expression stack and its length
abbrev pub cost : List Resolved → List ℕ → Option Activation → ℕ
cost library loaded None = 0
cost library loaded (Some a) = frame_of (loaded_at library loaded a.owner) a.procedure + copies_of (loaded_at library loaded a.owner) a.procedure a.slots + 17

-- no other call is around that of a body
abbrev pub unless_body : ℕ → ℕ → ℕ
unless_body zero rest = 0
unless_body (suc p) rest = rest

abbrev pub with_callers : Option Activation → ℕ → ℕ
with_callers None rest = 0
with_callers (Some a) rest = unless_body a.procedure rest

-- what takes the arguments that an item is about
abbrev pub hole_receiver : Hole → Option Receiver
hole_receiver (Pass r k done left) = Some r
hole_receiver (PassPlace r done left) = Some r
hole_receiver (PassAll r done left) = Some r
hole_receiver (PassArray r high done left) = Some r
hole_receiver _ = None

abbrev pub task_receiver : Task → Option Receiver
task_receiver (Passing r done left) = Some r
task_receiver (Spelling r cs todo done left) = Some r
task_receiver _ = None

abbrev pub receiver_of : Item → Option Receiver
receiver_of (Fill h) = hole_receiver h
receiver_of (Perform t) = task_receiver t
receiver_of _ = None

-- a call takes the same from the start of its arguments on
abbrev pub pending_cost : List Resolved → List ℕ → (here : ℕ) → Option Receiver → ℕ
pending_cost library loaded here None = 0
pending_cost library loaded here (Some (Requested r)) = 0
pending_cost library loaded here (Some (Called c)) = frame_of (loaded_at library loaded (callee_owner here c)) (callee_number c) + 17

-- what all calls take whose arguments or ends are left; before that the words that are saved for one whose value is to come
abbrev pub chain : List Resolved → List ℕ → List Activation → List Item → ℕ
chain library loaded acts [] = 0
chain library loaded acts (Perform (End a) ∷ k) = cost library loaded (slice_get acts a) + with_callers (slice_get acts a) (chain library loaded acts k)
chain library loaded acts (Fill (Calling given) ∷ k) = 17 + chain library loaded acts k
chain library loaded acts (i ∷ k) = pending_cost library loaded (owner_of (slice_get acts (current k))) (receiver_of i) + chain library loaded acts k

-- the same of a state
abbrev pub chain_of : List Resolved → Source → ℕ
chain_of library s = chain library s.loaded s.activations s.items

-- ---- whether a call has begun
-- what is called where an argument or the begin comes next
abbrev pub next_called : List Item → Option Callee
next_called (Perform (Passing (Called c) done left) ∷ k) = Some c
next_called (Perform (Spelling (Called c) cs todo done left) ∷ k) = Some c
next_called _ = None

pub record IsCalling (library : List Resolved) (s : Source) : Type 0 where
  pub callee : Callee
  pub its : Procedure
  pub is : next_called s.items ≡ Some callee
  pub there : procedure_by (procedures_of (loaded_at library s.loaded (callee_owner (owner_of (slice_get s.activations (current s.items))) callee))) (callee_number callee) ≡ Some its

-- the value of what is called is to come
abbrev pub awaits_value : List Item → Bool
awaits_value (Evaluate e ∷ Fill (Calling given) ∷ k) = true
awaits_value _ = false

-- there is an activation behind the first one, or one of a procedure that is there, or of one that is a value, is to come
abbrev pub HasCalls : List Resolved → Source → Type 0
HasCalls library s = (1 < length s.activations) ⊎ (IsCalling library s ⊎ (awaits_value s.items ≡ true))
