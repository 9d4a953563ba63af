-- Matched states: the code at hand does the items that are left, the store has the cells, and frames stand one over another. One step of
-- the source leads from one to the next.
use Rattle.std.proofs.Common.{◌≡◌, ℕ, suc, ◌+◌, ◌<◌, ◌≤◌, ◌⊎◌, Bool, true, false, not, Option, Some, None, List, [], ◌∷◌, ◌++◌, length, get_or, map, take}
use Rattle.std.specs.{Prelude.slice_get, List.list_any}
use Rattle.lil_base.specs.declared.fault.{LimitKind.LimitKind, TrapAt.TrapAt}
use Rattle.lil_base.specs.declared.fault.LimitKind.TheVariants as limit
use Rattle.lil_resolved.specs.{Resolved.{Procedure, Resolved, procedure_by, outline_of}, Sizes.frame_words, Kinds.{result_here, Shape, Absent, Row, Address, Opened, is_there, shape_at, offsets_from}}
use Rattle.lil_meaning.specs.{Items.{Root, Global, Local, Object, Place, Here, At, Along, Cells, targets_of, loaded_at, Item, Activation, Workspace, Parked, Level, Phase, Going, Closing, Ended, Trapped, Source, heap_words}, World.{World, all_closed}, Need.{frame_of, copies_of, chain_of, HasCalls}, Steps.{next, owner_of, procedure_of, result_by, procedures_of, surrounding, name_of, procedure_name}}
use Rattle.lil_mcode.specs.Table.{Module, StackRegisters, Kept, State, stack_of, module_at}
use Rattle.lil_asm.specs.Stretches.{stretch}
use Rattle.lil_table.specs.Rows.{Layout, FramedRow, exactly}
use Rattle.lil_match.specs.{Running.{Finish, Running, Finished, TrappedBy, Limited, Run, mrun, running}, Homes.{Owner, Of, Own, Fixed, Free, Home, address, shape_there, Extends, lives, Mem}, Waits.{stutter, Frame, locals_in, parameters_in, own_words, top_of, frames_of, is_of, sees, Stack, Setting, Quiet, Around, Ahead}}

-- a run that has shown no more, and goes on
pub record IsStill (w : World) (run : Run) : Type 0 where
  pub world : run.world ≡ w
  pub finish : run.finish ≡ Running

-- a word of a frame or above it that is none of its variables' or copies'
abbrev pub IsFree : Frame → ℕ → Type 0
IsFree f i = (i < 4) ⊎ ((4 + own_words f ≤ i) × ((i < f.layout.frame) ⊎ (f.layout.frame + f.copied ≤ i)))

-- A frame's words, and those of its copies and its pending calls above it, are the machine's own, or those of its variables behind the mark.
pub record OwnWords (owner : ℕ → Owner) (f : Frame) (top : ℕ) : Type 0 where
  pub mark : 4 + own_words f ≤ f.layout.frame
  pub top_is : top ≡ top_of f
  pub own : (i : ℕ) → IsFree f i → f.at + i < top → owner (f.at + i) ≡ Own
  pub mine : (i : ℕ) → f.at + i < top → (owner (f.at + i) ≡ Own) ⊎ ((x : ℕ) × (owner (f.at + i) ≡ Of (Local f.activation x)))

-- frames stand one over another, the lowest at the base
abbrev pub Stands : (ℕ → Owner) → ℕ → ℕ → Frame → List Frame → Type 0
Stands owner base top f [] = OwnWords owner f top × (f.at ≡ base)
Stands owner base top f (g ∷ gs) = OwnWords owner f top × Stands owner base f.at g gs

abbrev pub number_of : Frame → ℕ
number_of f = f.number

-- no other procedure of a table begins in the code of one
abbrev pub IsApart : List (ℕ × Option (List ℕ)) → (p entry after : ℕ) → Type 0
IsApart procedures p entry after = (k e : ℕ) (name : Option (List ℕ)) → slice_get procedures k ≡ Some (e, name) → (k ≡ p) ⊎ ((e < entry) ⊎ (after ≤ e))

-- a frame's code is a stretch of that of its module
pub record IsPiece (f : Frame) : Type 0 where
  pub is : f.piece ≡ stretch f.entry f.after f.own.code
  pub within : f.after ≤ length f.own.code

-- it is that of a procedure of the module's table, which has this name
pub record IsNamed (f : Frame) (name : Option (List ℕ)) : Type 0 where
  pub there : slice_get f.own.procedures f.procedure ≡ Some (f.entry, name)
  pub apart : IsApart f.own.procedures f.procedure f.entry f.after

-- ---- activations and their frames
-- the first list has all that the second has, by the same numbers
abbrev pub Grows : (more activations : List Activation) → Type 0
Grows more activations = (i : ℕ) (a : Activation) → slice_get activations i ≡ Some a → slice_get more i ≡ Some a

abbrev pub Among : Frame → List Frame → Type 0
Among f [] = ⊥
Among f (g ∷ gs) = (f ≡ g) ⊎ Among f gs

-- The activation around one whose frame begins at a word is that of procedure e, with others around it: it has one of the frames, and that
-- word says where.
pub record LinkedTo (shadow : ℕ → ℕ) (activations : List Activation) (a number at : ℕ) (shown : List ℕ) (e : ℕ) (es : List ℕ) (gs : List Frame) : Type 0 where
  pub to : Frame
  pub among : Among to gs
  pub outer : surrounding activations a ≡ Some to.activation
  pub owner : to.number ≡ number
  pub chain : to.layout.scope.chain ≡ e ∷ es
  pub word : shadow at ≡ to.at
  pub display : shown ≡ at ∷ to.display

-- none is around a procedure of the module
abbrev pub Linked : (ℕ → ℕ) → List Activation → (a number at : ℕ) → (display chain : List ℕ) → List Frame → Type 0
Linked shadow activations a number at display [] gs = display ≡ []
Linked shadow activations a number at display (p ∷ []) gs = display ≡ at ∷ []
Linked shadow activations a number at display (p ∷ e ∷ es) gs = LinkedTo shadow activations a number at display e es gs

abbrev pub Chained : (ℕ → ℕ) → List Activation → Frame → List Frame → Type 0
Chained shadow activations f [] = Linked shadow activations f.activation f.number f.at f.display f.layout.scope.chain []
Chained shadow activations f (g ∷ gs) = Linked shadow activations f.activation f.number f.at f.display f.layout.scope.chain (g ∷ gs) × Chained shadow activations g gs

-- what a layout says of the module alone, and layouts in one module
abbrev pub module_part : Layout → Layout
module_part l = record l { scope = record (l.scope) { held = []; chain = [] }; held = []; frame = 0; target = exactly }

abbrev pub IsPart : Layout → Layout → Type 0
IsPart l m = module_part m ≡ module_part l

-- the layout of a procedure's frame, and its code at its entry
pub record Entered (own : Module) (l : Layout) (p : ℕ) (its : Procedure) : Type 0 where
  pub inner : Layout
  pub part : IsPart l inner
  pub frame : inner.frame ≡ frame_words its.locals its.body
  pub chain : inner.scope.chain ≡ p ∷ its.around
  pub free : inner.held ≡ []
  pub entry : ℕ
  pub there : slice_get own.procedures p ≡ Some (entry, Some its.name)
  pub after : ℕ
  pub within : after ≤ length own.code
  pub apart : IsApart own.procedures p entry after
  pub code : FramedRow (record inner { target = exactly }) (stretch entry after own.code) its.result its.locals (take its.parameters its.locals) its.body entry after

abbrev pub HasCodes : Module → List Procedure → Layout → Type 0
HasCodes own ps l = (p : ℕ) (its : Procedure) → procedure_by ps p ≡ Some its → Entered own l p its

module _ (activations : List Activation) (h : Home) where
  -- the activation of a frame has its variables, each in a slot of its own, which live in its frame behind the mark
  pub record HasLocals (f : Frame) : Type 0 where
    pub its : Activation
    pub runs : slice_get activations f.activation ≡ Some its
    pub variables : (x offset : ℕ) (t : Shape) → slice_get (offsets_from 4 (locals_in f)) x ≡ Some offset → slice_get (locals_in f) x ≡ Some t → is_there t ≡ true
        → (slice_get its.slots x ≡ Some Here) × (h.shape (Local f.activation x) ≡ t) × (h.base (Local f.activation x) ≡ f.at + offset)

  -- frames have different activations
  abbrev pub EachLocal : List Frame → Type 0
  EachLocal [] = Unit {0}
  EachLocal (f ∷ fs) = HasLocals f × (list_any (is_of f.activation) fs ≡ false) × EachLocal fs

  -- what was handed in for a VAR parameter is a place that the frames below can name, and a word of the frame has its address
  pub record HandedIn (f : Frame) (under : List Frame) (x offset : ℕ) (t : Shape) : Type 0 where
    pub its : Activation
    pub runs : slice_get activations f.activation ≡ Some its
    pub place : Place
    pub slot : slice_get its.slots x ≡ Some (At place)
    pub seen : sees under place.root ≡ true
    pub living : shape_there h place ≡ t
    pub own : h.owner (f.at + offset) ≡ Own
    pub word : h.shadow (f.at + offset) ≡ address h place

  abbrev pub HasHanded : Frame → List Frame → Type 0
  HasHanded f under = (x offset : ℕ) (t : Shape) → slice_get (offsets_from 4 (locals_in f)) x ≡ Some offset → slice_get (parameters_in f) x ≡ Some (Address t) → is_there t ≡ true → HandedIn f under x offset t

  -- an open array is a place that the frame and those below can name, and words of the frame have its address and the number of its last element
  pub record OpenedIn (f : Frame) (under : List Frame) (x offset : ℕ) (t : Shape) : Type 0 where
    pub its : Activation
    pub runs : slice_get activations f.activation ≡ Some its
    pub place : Place
    pub high : ℕ
    pub slot : slice_get its.slots x ≡ Some (Along place high)
    pub seen : sees (f ∷ under) place.root ≡ true
    pub living : shape_there h place ≡ Row (suc high) t
    pub low : high ≤ 65535
    pub own : h.owner (f.at + offset) ≡ Own
    pub own_high : h.owner (f.at + (offset + 1)) ≡ Own
    pub word : h.shadow (f.at + offset) ≡ address h place
    pub word_high : h.shadow (f.at + (offset + 1)) ≡ high

  abbrev pub HasOpened : Frame → List Frame → Type 0
  HasOpened f under =
      (x offset : ℕ) (copied : Bool) (t : Shape) → slice_get (offsets_from 4 (locals_in f)) x ≡ Some offset → slice_get (parameters_in f) x ≡ Some (Opened copied t) → is_there t ≡ true → OpenedIn f under x offset t

  -- those of each frame, where these bodies are to run behind them
  abbrev pub EachHanded : List Frame → List Frame → Type 0
  EachHanded [] bodies = Unit {0}
  EachHanded (f ∷ fs) bodies = HasHanded f (fs ++ bodies) × HasOpened f (fs ++ bodies) × EachHanded fs bodies

module _ (library : List Resolved) (loaded : List ℕ) (table : List Module) (activations : List Activation) (h : Home) where
  -- A frame's module is loaded, its activation runs in it, and its variables live where its layout says. The words of its strings, behind
  -- the variables, never change. What it lists is what the home says.
  pub record IsKnown (f : Frame) : Type 0 where
    pub known : module_at table f.number ≡ Some f.own
    pub named : name_of (loaded_at library loaded f.number) ≡ f.own.name
    pub its : Activation
    pub runs : slice_get activations f.activation ≡ Some its
    pub owner : owner_of (slice_get activations f.activation) ≡ f.number
    pub called : procedure_of (slice_get activations f.activation) ≡ f.procedure
    pub entered : IsNamed f (procedure_name (loaded_at library loaded f.number) f.procedure)
    pub piece : IsPiece f
    pub size : f.layout.frame ≡ frame_of (loaded_at library loaded f.number) f.procedure
    pub copies : copies_of (loaded_at library loaded f.number) f.procedure its.slots ≡ f.copied
    pub returns : result_here f.layout.scope ≡ result_by (loaded_at library loaded f.number) f.procedure
    pub procedures : f.layout.scope.procedures ≡ map outline_of (procedures_of (loaded_at library loaded f.number))
    pub codes : HasCodes f.own (procedures_of (loaded_at library loaded f.number)) f.layout
    pub variables : (x offset : ℕ) (t : Shape) → slice_get f.layout.offsets x ≡ Some offset → slice_get f.layout.scope.variables x ≡ Some t
        → (h.shape (Global f.number x) ≡ t) × (h.base (Global f.number x) ≡ f.own.base + offset)
    pub strings : (i : ℕ) → i < length f.layout.strings
        → (h.owner (f.own.base + (f.layout.words + i)) ≡ Fixed) × (h.shadow (f.own.base + (f.layout.words + i)) ≡ get_or f.layout.strings i 0)
    pub inside : f.own.base + (f.layout.words + length f.layout.strings) ≤ 65535
    pub targets : f.layout.scope.targets ≡ h.listed.targets
    pub own_targets : targets_of (loaded_at library loaded f.number) ≡ h.listed.targets
    pub signatures : f.layout.scope.signatures ≡ h.listed.signatures
    pub outlines : f.layout.scope.procedures ≡ h.listed.procedures
    pub here : f.number ≡ h.listed.number
    pub number : f.layout.numbers 0 ≡ f.number

  abbrev pub EachKnown : List Frame → Type 0
  EachKnown [] = Unit {0}
  EachKnown (f ∷ fs) = IsKnown f × EachKnown fs

  -- a body that is to run stands at the stack's base, and isn't the first
  pub record Comes (low : ℕ) (b : Frame) : Type 0 where
    pub known : IsKnown b
    pub later : 0 < b.activation
    pub at : b.at ≡ low
    pub mark : 4 ≤ b.layout.frame
    pub chain : b.layout.scope.chain ≡ []
    pub display : b.display ≡ []

  abbrev pub EachComes : ℕ → List Frame → Type 0
  EachComes low [] = Unit {0}
  EachComes low (b ∷ bs) = Comes low b × EachComes low bs

-- Objects and workspaces lie above a limit, each with two words below it; no two objects begin at one word, nor do two workspaces. They take
-- what lies above the limit.
pub record IsHeap (base : Root → ℕ) (shape : Root → Shape) (addresses : List ℕ) (objects : List Shape) (workspaces : List Workspace) (limit : ℕ) : Type 0 where
  pub born : (o : ℕ) → shape (Object o) ≡ shape_at objects o
  pub above : (o : ℕ) → is_there (shape (Object o)) ≡ true → limit + 2 ≤ base (Object o)
  pub apart : (o p : ℕ) → is_there (shape (Object o)) ≡ true → is_there (shape (Object p)) ≡ true → base (Object o) ≡ base (Object p) → o ≡ p
  pub known : length addresses ≡ length workspaces
  pub clear : (w : ℕ) → w < length addresses → limit + 2 ≤ get_or addresses w 0
  pub distinct : (w v : ℕ) → w < length addresses → v < length addresses → get_or addresses w 0 ≡ get_or addresses v 0 → w ≡ v
  pub rest : limit + heap_words objects workspaces ≡ 65535

-- variables live in activations alone that there are
abbrev pub IsUnborn : (Root → Shape) → List Activation → Type 0
IsUnborn shape activations = (a x : ℕ) → length activations ≤ a → shape (Local a x) ≡ Absent

-- no level waits: the running one is the first
pub record IsFirst (waiting : List Level) (below : List Kept) : Type 0 where
  pub none : waiting ≡ []
  pub none_below : below ≡ []

-- the run has come to its end, with the same world
pub record IsEnded (s : Source) (run : Run) : Type 0 where
  pub finish : run.finish ≡ Finished
  pub world : run.world ≡ s.world

-- or the level is still to be closed, which the machine has done
pub record IsLeft (f : Finish) (s : Source) (run : Run) : Type 0 where
  pub finish : run.finish ≡ f
  pub first : s.waiting ≡ []
  pub world : run.world ≡ all_closed 1 s.world

module _ (ctx : Setting) where
  open ctx use {library, loaded, table, activations, home as h, stack as st}

  -- the registers of a stack are those of its frames
  pub record Standing (r : StackRegisters) : Type 0 where
    pub frame_is : r.frame ≡ st.frame.at
    pub base_is : r.base ≡ st.base
    pub limit_is : r.limit ≡ st.limit
    pub bodies_are : r.bodies ≡ map number_of st.bodies
    pub known : IsKnown library loaded table activations h st.frame
    pub callers : EachKnown library loaded table activations h st.callers
    pub comes : EachComes library loaded table activations h st.base st.bodies
    pub stands : Stands h.owner st.base r.top st.frame st.callers
    pub links : Chained h.shadow activations st.frame st.callers
    pub locals : EachLocal activations h (frames_of st)
    pub handed : EachHanded activations h (st.frame ∷ st.callers) st.bodies
    pub room : (a : ℕ) → r.top ≤ a → a < st.limit → h.owner a ≡ Free st.base
    pub based : 1 ≤ st.base
    pub low : r.top ≤ st.limit
    pub high : st.limit ≤ 65535

  -- the module of the running frame runs
  pub record IsProgram (modules : List Module) (number : ℕ) (marked : Bool) : Type 0 where
    pub table_is : modules ≡ table
    pub known : module_at table st.frame.number ≡ Some st.frame.own
    pub piece : IsPiece st.frame
    pub running_is : number ≡ st.frame.number
    pub marked_is : marked ≡ true

  -- what stays while the place, the expression stack and the items change
  pub record IsShared (numbers : List ℕ) (cells : Cells) (activations' : List Activation) (parked : List Parked) (waiting : List Level) (objects : List Shape)
      (workspaces : List Workspace) (modules : List Module) (kept below : List Kept) (marked : Bool) (store : List ℕ) (stack : StackRegisters) : Type 0 where
    pub mem : Mem h cells store
    pub heap : IsHeap h.base h.shape h.workspaces objects workspaces st.limit
    pub unborn : IsUnborn h.shape activations
    pub program : IsProgram modules stack.running marked
    pub standing : Standing stack
    pub loaded_are : numbers ≡ loaded
    pub activations_are : activations' ≡ activations
    pub parked_are : parked ≡ ctx.parked
    pub kept_are : kept ≡ ctx.kept
    pub levels : IsFirst waiting below

  abbrev pub Shared : Source → State → Type 0
  Shared s m = IsShared s.loaded s.cells s.activations s.parked s.waiting s.objects s.workspaces m.modules m.parked m.waiting m.marked m.store (stack_of m)

  -- with so many jumps owed
  pub record IsMatched (s : Source) (k : List Item) (m : State) (c : ℕ) : Type 0 where
    pub shared : Shared s m
    pub around : Around
    pub ahead : Ahead ctx k Quiet m.place m.stack c around

  pub record GoesOn (s : Source) (run : Run) (c : ℕ) : Type 0 where
    pub machine : State
    pub is : run ≡ running machine s.world
    pub met : IsMatched s s.items machine c

  -- a trap in the procedure of the running frame
  pub record IsTrapped (t : TrapAt) (s : Source) (run : Run) : Type 0 where
    pub is_left : IsLeft (TrappedBy t.kind) s run
    pub table_is : run.machine.modules ≡ table
    pub running_is : run.machine.running ≡ st.frame.number
    pub known : module_at table st.frame.number ≡ Some st.frame.own
    pub name : t.«module» ≡ st.frame.own.name
    pub procedure : IsNamed st.frame t.procedure
    pub low : st.frame.entry ≤ run.machine.place
    pub high : run.machine.place < st.frame.after

  -- the machine has come to where the source is, with so many jumps owed
  abbrev pub Lands : Phase → Source → Run → ℕ → Type 0
  Lands Going s run c = GoesOn s run c
  Lands (Closing None) s run c = IsLeft Finished s run
  Lands (Closing (Some t)) s run c = IsTrapped t s run
  Lands Ended s run c = IsEnded s run
  Lands (Trapped t) s run c = ⊥

-- What a state of the source needs is more than the store has: what lies below the stack, the calls with an expression stack each, and the
-- objects.
pub record IsShort (library : List Resolved) (base : ℕ) (t : Source) : Type 0 where
  pub less : 65535 < base + chain_of library t + heap_words t.objects t.workspaces

-- the limit of the stack comes only at a call, or at a body behind another
abbrev pub Short : List Resolved → (base : ℕ) → Source → LimitKind → Type 0
Short library base t limit.Stack = IsShort library base t × HasCalls library t
Short library base t limit.Store = IsShort library base t
Short library base t _ = ⊥

-- the machine met a limit, with the same world
pub record IsFull (library : List Resolved) (base : ℕ) (s t : Source) (run : Run) : Type 0 where
  pub kind : LimitKind
  pub finish : run.finish ≡ Limited kind
  pub world : run.world ≡ s.world
  pub short : Short library base t kind

-- no variable of these frames
abbrev pub beyond : List Frame → Root → Bool
beyond fs (Local a x) = not (list_any (is_of a) fs)
beyond fs r = true

-- What a step of the stack of these frames between two words may change: the words between them and their owners, but those that never
-- change, and no root or workspace that lives, but the frames' variables.
pub record Touches (h h' : Home) (fs : List Frame) (low high : ℕ) : Type 0 where
  pub owner : (a : ℕ) → (a < low) ⊎ (high ≤ a) → h'.owner a ≡ h.owner a
  pub shadow : (a : ℕ) → (a < low) ⊎ (high ≤ a) → h'.shadow a ≡ h.shadow a
  pub base : (r : Root) → beyond fs r ≡ true → lives h r ≡ true → h'.base r ≡ h.base r
  pub shape : (r : Root) → beyond fs r ≡ true → lives h r ≡ true → h'.shape r ≡ h.shape r
  pub listed : h'.listed ≡ h.listed
  pub workspaces : Extends h'.workspaces h.workspaces
  pub fixed : (a : ℕ) → h.owner a ≡ Fixed → (h'.owner a ≡ Fixed) × (h'.shadow a ≡ h.shadow a)

-- a stack comes from another one: its limit doesn't rise, and its frames are of the other's activations, or of new ones
pub record Succeeds (next stack : Stack) (activations : List Activation) : Type 0 where
  pub base : next.base ≡ stack.base
  pub limit : next.limit ≤ stack.limit
  pub frames : (a : ℕ) → list_any (is_of a) (frames_of next) ≡ true → (list_any (is_of a) (frames_of stack) ≡ true) ⊎ (length activations ≤ a)

-- One step of the source, in so many steps of the machine, with so many jumps owed then, both within a budget, or else a limit. The world changes in
-- the last step alone; the home changes between the stack's base and its limit alone, and the limit doesn't rise.
pub record Goes (ctx : Setting) (s : Source) (k : List Item) (m : State) (budget : ℕ) : Type 0 where
  pub steps : ℕ
  pub later : ℕ
  pub activations : List Activation
  pub home : Home
  pub stack : Stack
  pub quiet : (i : ℕ) → i < steps → IsStill s.world (mrun i (running m s.world))
  pub lands : Lands (record ctx { activations = activations; home = home; stack = stack }) (next ctx.library (record s { items = k; phase = Going })).phase (next ctx.library (record s { items = k; phase = Going })) (mrun steps (running m s.world)) later
      ⊎ IsFull ctx.library ctx.stack.base (record s { items = k; phase = Going }) (next ctx.library (record s { items = k; phase = Going })) (mrun steps (running m s.world))
  pub touch : Touches ctx.home home (frames_of ctx.stack) ctx.stack.base ctx.stack.limit
  pub same : Succeeds stack ctx.stack ctx.activations
  pub grown : Grows activations ctx.activations
  pub cost : steps + later ≤ budget
  pub falls : steps ≡ 0 → stutter (next ctx.library (record s { items = k; phase = Going })).items < stutter k
