-- What names stand for in a list of blocks. A block is a list of names, in the order of declaration, each with what it stands for
-- and the place where it is bound.
use Rattle.std.specs.Prelude.{ℕ, ◌+◌, ◌-◌, is_none, slice_get, slice_set, nat_lt, length, Bool, not, List, [], ◌∷◌, ◌++◌, Option, Some, None, if◌then◌else◌, nat_eq, ◌==◌, ◌&&◌}
use Rattle.std.specs.{Cmp.Lexicographic.pointwise, List.{list_all, list_any}, declared.{vec.Vec.Vec, alloc.Global.Global}}
use Rattle.lil_base.specs.Names.{is_name}
use Rattle.lil_base.specs.declared.fault.{Place.Place, FaultKind.TheVariants.Twice}
use Rattle.lil_text.specs.declared.tree.Ident.{Ident}
use Rattle.lil_types.specs.Types.{Table, is_untold_type}
use Rattle.lil_report.specs.Told.{Row, row}
use Rattle.lil_declared.specs.declared.declared.{RProc.RProc, RVar.RVar}
use Rattle.lil_scope.specs.declared.{thing.{Bound.Bound, Entry.Entry, ExternalProcedure.ExternalProcedure, Thing.Thing}, entering.Around.Around, env.{Env.Env, Wait.Wait}, scope.Scopes.Scopes}
use Rattle.lil_scope.specs.declared.thing.Thing.TheVariants as t

abbrev pub same : List ℕ → List ℕ → Bool
same a b = pointwise nat_eq a b

abbrev pub Names : Type 0
Names = List (List ℕ × Entry)

-- a name's entry in one block
abbrev pub entry_in : List (List ℕ × Entry) → List ℕ → Option Entry
entry_in [] n = None
entry_in (e ∷ es) n = if same n e.0 then Some e.1 else entry_in es n

-- a block's names are names
abbrev pub are_names : List (List ℕ × Entry) → Bool
are_names b = list_all (λ e. is_name e.0) b

-- what a block holds, as an index of names has it
abbrev pub seen : Vec ℕ Global × Entry → List ℕ × Entry
seen p = (p.0.items, p.1)

abbrev pub bound_of : List ℕ × Entry → Bound
bound_of e = record { name = e.0; entry = e.1 }

abbrev pub thing_of : Option Entry → Option Thing
thing_of None = None
thing_of (Some e) = Some e.thing

abbrev pub place_of : Option Entry → Option Place
place_of None = None
place_of (Some e) = Some e.place

-- what a name stands for in one block
abbrev pub look_in : List (List ℕ × Entry) → List ℕ → Option Thing
look_in b n = thing_of (entry_in b n)

-- where a name is bound in one block
abbrev pub place_in : List (List ℕ × Entry) → List ℕ → Option Place
place_in b n = place_of (entry_in b n)

abbrev pub inner_or : Option Thing → Option Thing → Option Thing
inner_or None o = o
inner_or (Some t) o = Some t

abbrev pub block_by : Option (List (List ℕ × Entry)) → List (List ℕ × Entry)
block_by None = []
block_by (Some b) = b

abbrev pub block_at : List (List (List ℕ × Entry)) → ℕ → List (List ℕ × Entry)
block_at bs k = block_by (slice_get bs k)

-- the innermost block that has the name speaks
abbrev pub find_in : List (List (List ℕ × Entry)) → List ℕ → List ℕ → Option Thing
find_in bs [] n = None
find_in bs (k ∷ ks) n = inner_or (find_in bs ks n) (look_in (block_at bs k) n)

abbrev pub find : Scopes → List ℕ → Option Thing
find s n = inner_or (look_in (block_at s.blocks s.inner) n) (find_in s.blocks s.outer n)

-- what a name of a module stands for, by the number of the module's block
abbrev pub member : Scopes → ℕ → List ℕ → Option Thing
member s k n = look_in (block_at s.blocks k) n

-- a name that stands in the block isn't bound there again
unfoldable pub is_new : List (List ℕ × Entry) → List ℕ → Bool
is_new b n = is_none (entry_in b n)

abbrev pub entry : Thing → Place → Entry
entry t p = record { thing = t; place = p }

abbrev pub bound : List (List ℕ × Entry) → List ℕ → Entry → List (List ℕ × Entry)
bound b n e = if is_new b n then b ++ (n, e) ∷ [] else b

abbrev pub bound_at : List (List (List ℕ × Entry)) → ℕ → List ℕ → Entry → List (List (List ℕ × Entry))
bound_at bs k n e = if nat_lt k (length bs) then slice_set bs k (bound (block_at bs k) n e) else bs

-- a name that stands in the block stands for another thing from now on
abbrev pub rebound : List (List ℕ × Entry) → List ℕ → Entry → List (List ℕ × Entry)
rebound [] n x = []
rebound (e ∷ es) n x = if same n e.0 then (e.0, x) ∷ es else e ∷ rebound es n x

abbrev pub rebound_at : List (List (List ℕ × Entry)) → ℕ → List ℕ → Entry → List (List (List ℕ × Entry))
rebound_at bs k n x = if nat_lt k (length bs) then slice_set bs k (rebound (block_at bs k) n x) else bs

abbrev pub with_blocks : Env → List (List (List ℕ × Entry)) → Env
with_blocks e bs = record e { scopes = record e.scopes { blocks = bs } }

-- the place that comes later in the text
abbrev pub later : Place → Place → Place
later p q = if nat_lt p.offset q.offset then q else p

abbrev pub later_of : Place → Option Place → Place
later_of p None = p
later_of p (Some q) = later p q

-- ---- 21 Twice: a name bound in a block where it stands before, at the one of both that comes later in the text
unfoldable pub bind_at : ℕ → Env → Ident → Thing → Env × List Row
bind_at k e i t = (
  with_blocks e (bound_at e.scopes.blocks k i.name (entry t i.place)),
  row (not (is_new (block_at e.scopes.blocks k) i.name)) (later_of i.place (place_in (block_at e.scopes.blocks k) i.name)) Twice ∷ [],
)

-- a name bound in the block at hand
abbrev pub bind : Env → Ident → Thing → Env × List Row
bind e i t = bind_at e.scopes.inner e i t

-- ---- an implementation module begins with the names of its own definition, which stand in no text: they have the offset 0. Its
-- procedures and its opaque types await to be declared again
abbrev pub is_in_no_text : Place → Bool
is_in_no_text p = p.offset == 0

abbrev pub procedure_of : Thing → Option ExternalProcedure
procedure_of (t.ExternalProcedure p) = Some p
procedure_of _ = None

abbrev pub type_of : Thing → Option ℕ
type_of (t.Type n) = Some n
type_of _ = None

abbrev pub procedure_awaited : Option Entry → Option ExternalProcedure
procedure_awaited None = None
procedure_awaited (Some e) = if is_in_no_text e.place then procedure_of e.thing else None

abbrev pub untold_in : Table → Option ℕ → Option ℕ
untold_in types None = None
untold_in types (Some n) = if is_untold_type types n then Some n else None

abbrev pub type_awaited : Table → Option Entry → Option ℕ
type_awaited types None = None
type_awaited types (Some e) = if is_in_no_text e.place then untold_in types (type_of e.thing) else None

-- a name's entry in the block at hand
abbrev pub entry_here : Env → List ℕ → Option Entry
entry_here e n = entry_in (block_at e.scopes.blocks e.scopes.inner) n

-- the procedure of the definition that awaits its heading
unfoldable pub awaited_procedure : Env → List ℕ → Option ExternalProcedure
awaited_procedure e n = procedure_awaited (entry_here e n)

-- the opaque type of the definition that awaits its declaration
unfoldable pub awaited_type : Env → List ℕ → Option ℕ
awaited_type e n = type_awaited e.types (entry_here e n)

-- the name stands for another thing in the block at hand from now on
abbrev pub rebind : Env → Ident → Thing → Env
rebind e i x = with_blocks e (rebound_at e.scopes.blocks e.scopes.inner i.name (entry x i.place))

-- ---- pointers whose target their block declares later: nothing lies behind them until its declarations end, in the blocks
-- inside of it neither
-- the names of the types that a block declares, each once
abbrev pub is_among : List (List ℕ) → List ℕ → Bool
is_among ns n = list_any (same n) ns

abbrev pub and_name : List (List ℕ) → List ℕ → List (List ℕ)
and_name ns n = if is_among ns n then ns else ns ++ n ∷ []

-- a type of this name isn't declared in the block yet, and will be
abbrev pub is_later : Env → List ℕ → Bool
is_later e n = is_none (look_in (block_at e.scopes.blocks e.scopes.inner) n) && is_among e.coming n

abbrev pub is_wait_for : ℕ → Wait → Bool
is_wait_for p w = w.pointer == p && w.later

abbrev pub waits_for : Env → ℕ → Bool
waits_for e p = list_any (is_wait_for p) e.waits

-- ---- blocks: one begun without names, entered, and left for the block around
abbrev pub with_block : Env → Env
with_block e = with_blocks e (e.scopes.blocks ++ [] ∷ [])

-- a block and variables for the next procedure, without any yet
abbrev pub begun : Env → Env
begun e = record (with_block e) { locals = e.locals ++ [] ∷ [] }

-- how many blocks are around the one at hand: 0 for that of the standard names, 1 for the module's
abbrev pub level : Env → ℕ
level e = length e.scopes.outer

-- the blocks around the one at hand, and that too, the outermost first
abbrev pub visible : Env → List ℕ
visible e = e.scopes.outer ++ e.scopes.inner ∷ []

-- the block of a procedure, where it has a number
abbrev pub inside : ℕ → Option RProc → Env → Env
inside n None e = record e { coming = []; withs = [] }
inside n (Some q) e = record e { scopes = record e.scopes { outer = q.outer; inner = q.block }; coming = []; withs = []; procedure = Some n }

abbrev pub entered : ℕ → Env → Env
entered n e = inside n (slice_get e.procedures n) e

-- what was declared inside, and the block at hand as it was in e
abbrev pub outside : Env → Env → Env
outside e f = record f { scopes = record f.scopes { outer = e.scopes.outer; inner = e.scopes.inner }; coming = e.coming; withs = e.withs; procedure = e.procedure }

-- what stands around a block, and the block at hand again
abbrev pub around : Env → Around
around e = record { outer = e.scopes.outer; inner = e.scopes.inner; coming = e.coming; withs = e.withs; procedure = e.procedure }

abbrev pub back : Around → Env → Env
back a f = record f { scopes = record f.scopes { outer = a.outer; inner = a.inner }; coming = a.coming; withs = a.withs; procedure = a.procedure }

-- ---- calls: the procedure at hand and those around it by their numbers, the innermost first
abbrev pub around_of : Option RProc → List ℕ
around_of None = []
around_of (Some q) = q.around

abbrev pub chain_by : List RProc → Option ℕ → List ℕ
chain_by ps None = []
chain_by ps (Some n) = n ∷ around_of (slice_get ps n)

abbrev pub chain : Env → List ℕ
chain e = chain_by e.procedures e.procedure

-- how many procedures out of the one at hand another one is declared, by its level: 0 for those of the module
abbrev pub levels_out : Env → ℕ → ℕ
levels_out e at = if nat_lt 1 at then level e + 1 - at else 0

-- ---- variables of procedures, by the procedures' numbers: none where there is no such procedure
abbrev pub locals_by : Option (List RVar) → List RVar
locals_by None = []
locals_by (Some vs) = vs

abbrev pub locals_in : List (List RVar) → ℕ → List RVar
locals_in ls p = locals_by (slice_get ls p)

abbrev pub locals_at : Env → ℕ → List RVar
locals_at e p = locals_in e.locals p

-- one more of a procedure, where it is there
abbrev pub with_local : List (List RVar) → ℕ → RVar → List (List RVar)
with_local ls p v = if nat_lt p (length ls) then slice_set ls p (locals_in ls p ++ v ∷ []) else ls

-- those of an owner: a procedure, or the module
abbrev pub variables_of : Env → Option ℕ → List RVar
variables_of e None = e.variables
variables_of e (Some p) = locals_at e p

-- how many procedures out of the one at hand a variable of a procedure is declared, by its level
abbrev pub variable_levels : Env → ℕ → ℕ
variable_levels e at = level e - at
