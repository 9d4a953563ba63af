-- What is around the running frame's WITHs: the same but for the records that its layout holds.
use Rattle.std.proofs.Common.{◌≡◌, ℕ, ◌+◌, ◌<◌, ◌≤◌, ◌⊎◌, inl, inr, Some, List, [], ◌∷◌, ◌++◌, length, get_or, refl, sym, ap, ◌∙◌, subst, ⊎_elim, arith}
use Rattle.std.specs.Prelude.{slice_get}
use Rattle.lil_resolved.specs.{Kinds.{result_here, Shape, all_words, locals_at, parameters_at, offsets_from}, Resolved.{Procedure, Resolved}}
use Rattle.lil_meaning.specs.{Items.{Root, Global, Local, Object, Item, Activation, Source, loaded_at}, Need.{frame_of, copies_of}, Steps.{result_by, owner_of, procedure_of, procedures_of, procedure_name}}
use Rattle.lil_mcode.specs.Table.{Module, State, StackRegisters, stack_of}
use Rattle.lil_table.specs.Rows.{Layout, holding}
use Rattle.lil_match.specs.{Homes.Home, Goes.{IsNamed, IsPiece, OwnWords, Stands, Linked, Chained, IsPart, module_part, HasCodes, IsKnown, Standing, EachLocal, EachHanded, beyond, Shared, Goes}, Waits.{Frame, Setting, inside_with}, Kept.sees_laid}

-- the running frame with another layout
abbrev pub with_layout : Setting → Layout → Setting
with_layout ctx l = record ctx { stack = record (ctx.stack) { frame = record (ctx.stack.frame) { layout = l } } }

-- layouts that differ in the records of WITHs alone
abbrev pub plain : Layout → Layout
plain l = record l { scope = record (l.scope) { held = [] }; held = [] }

abbrev pub IsAlike : Layout → Layout → Type 0
IsAlike l m = plain m ≡ plain l

-- the codes of procedures are those of any layout in the module
pub codes_part : (own : Module) (ps : List Procedure) (l m : Layout) → IsPart l m → HasCodes own ps l → HasCodes own ps m
codes_part own ps l m part codes p its is =
    let e = codes p its is in
    record { inner = e.inner; part = e.part ∙ sym part; frame = e.frame; chain = e.chain; free = e.free; entry = e.entry; there = e.there; after = e.after; within = e.within; apart = e.apart; code = e.code }

-- what is known of a frame is known of another one of the module
module _ (library : List Resolved) (loaded : List ℕ) (table : List Module) (acts more : List Activation) (h : Home) (f : Frame) (m : Layout) (activation procedure entry after : ℕ) (piece : List ℕ) (at pushed copied : ℕ) (display : List ℕ) (back : ℕ) (part : IsPart f.layout m) where
  abbrev other : Frame
  other = record { activation = activation; number = f.number; procedure = procedure; own = f.own; entry = entry; after = after; piece = piece; layout = m; at = at; pushed = pushed; copied = copied; display = display; back = back }

  strings : m.strings ≡ f.layout.strings
  strings = ap (λ (y : Layout). y.strings) part

  words : m.words ≡ f.layout.words
  words = ap (λ (y : Layout). y.words) part

  pub known_part : (its : Activation) → slice_get more activation ≡ Some its → owner_of (slice_get more activation) ≡ f.number → procedure_of (slice_get more activation) ≡ procedure
      → IsNamed other (procedure_name (loaded_at library loaded f.number) procedure) → IsPiece other → m.frame ≡ frame_of (loaded_at library loaded f.number) procedure → copies_of (loaded_at library loaded f.number) procedure its.slots ≡ copied → result_here m.scope ≡ result_by (loaded_at library loaded f.number) procedure → IsKnown library loaded table acts h f
      → IsKnown library loaded table more h other
  known_part its runs owner called entered its_piece size copies_are returns k = record {
    known = k.known;
    named = k.named;
    its = its;
    runs = runs;
    owner = owner;
    called = called;
    entered = entered;
    piece = its_piece;
    size = size;
    copies = copies_are;
    returns = returns;
    procedures = ap (λ (y : Layout). y.scope.procedures) part ∙ k.procedures;
    codes = codes_part f.own (procedures_of (loaded_at library loaded f.number)) f.layout m part k.codes;
    variables = λ x o t at typed. k.variables x o t (ap (λ (y : Layout). slice_get y.offsets x) (sym part) ∙ at) (ap (λ (y : Layout). slice_get y.scope.variables x) (sym part) ∙ typed);
    strings = λ i less.
        let old = k.strings i (omega (arith, less, ap length strings)) in
        let at : f.own.base + (f.layout.words + i) ≡ f.own.base + (m.words + i) = omega (arith, words) in
        (ap h.owner (sym at) ∙ old.0, ap h.shadow (sym at) ∙ old.1 ∙ ap (λ (ws : List ℕ). get_or ws i 0) (sym strings));
    inside = omega (arith, k.inside, words, ap length strings);
    targets = ap (λ (y : Layout). y.scope.targets) part ∙ k.targets;
    own_targets = k.own_targets;
    signatures = ap (λ (y : Layout). y.scope.signatures) part ∙ k.signatures;
    outlines = ap (λ (y : Layout). y.scope.procedures) part ∙ k.outlines;
    here = k.here;
    number = ap (λ (y : Layout). y.numbers 0) part ∙ k.number;
  }

-- the roots that are none of their variables don't hang on a layout
beyond_laid : (f : Frame) (l : Layout) (fs : List Frame) (r : Root) → beyond (record f { layout = l } ∷ fs) r ≡ beyond (f ∷ fs) r
beyond_laid f l fs (Global m x) = refl
beyond_laid f l fs (Local a x) = refl
beyond_laid f l fs (Object o) = refl

module _ (ctx : Setting) (m : Layout) (alike : IsAlike ctx.stack.frame.layout m) where
  abbrev f : Frame
  f = ctx.stack.frame

  same_frame : m.frame ≡ ctx.stack.frame.layout.frame
  same_frame = ap (λ (y : Layout). y.frame) alike

  same_chain : m.scope.chain ≡ ctx.stack.frame.layout.scope.chain
  same_chain = ap (λ (y : Layout). y.scope.chain) alike

  same_locals : locals_at m.scope 0 ≡ locals_at (ctx.stack.frame.layout.scope) 0
  same_locals = ap (λ (y : Layout). locals_at y.scope 0) alike

  known_laid : IsKnown ctx.library ctx.loaded ctx.table ctx.activations ctx.home ctx.stack.frame → IsKnown ctx.library ctx.loaded ctx.table ctx.activations ctx.home (record (ctx.stack.frame) { layout = m })
  known_laid k = known_part ctx.library ctx.loaded ctx.table ctx.activations ctx.activations ctx.home f m f.activation f.procedure f.entry f.after f.piece f.at f.pushed f.copied f.display f.back (ap module_part alike) k.its k.runs k.owner k.called (record { there = k.entered.there; apart = k.entered.apart }) (record { is = k.piece.is; within = k.piece.within }) (same_frame ∙ k.size) k.copies (ap (λ (y : Layout). result_here y.scope) alike ∙ k.returns) k

  words_laid : (top : ℕ) → OwnWords ctx.home.owner ctx.stack.frame top → OwnWords ctx.home.owner (record (ctx.stack.frame) { layout = m }) top
  words_laid top w = record {
    mark = omega (arith, w.mark, same_frame, ap all_words same_locals);
    top_is = omega (arith, w.top_is, same_frame);
    own = λ i free. w.own i (⊎_elim (λ (z : i < 4). inl z) (λ (z : (4 + all_words (locals_at m.scope 0) ≤ i) × ((i < m.frame) ⊎ (m.frame + f.copied ≤ i))). inr (omega (arith, z.0, ap all_words same_locals), ⊎_elim (λ (y : i < m.frame). inl (omega (arith, y, same_frame))) (λ (y : m.frame + f.copied ≤ i). inr (omega (arith, y, same_frame))) z.1)) free);
    mine = w.mine;
  }

  locals_laid : (fs : List Frame) → EachLocal ctx.activations ctx.home (ctx.stack.frame ∷ fs) → EachLocal ctx.activations ctx.home (record (ctx.stack.frame) { layout = m } ∷ fs)
  locals_laid fs e = (
    record {
      its = e.0.its;
      runs = e.0.runs;
      variables = λ x o t at typed. e.0.variables x o t (ap (λ (ts : List Shape). slice_get (offsets_from 4 ts) x) (sym same_locals) ∙ at) (ap (λ (ts : List Shape). slice_get ts x) (sym same_locals) ∙ typed);
    },
    e.1,
    e.2,
  )

  same_parameters : parameters_at m.scope 0 ≡ parameters_at (ctx.stack.frame.layout.scope) 0
  same_parameters = ap (λ (y : Layout). parameters_at y.scope 0) alike

  handed_laid : (gs bs : List Frame) → EachHanded ctx.activations ctx.home (ctx.stack.frame ∷ gs) bs → EachHanded ctx.activations ctx.home (record (ctx.stack.frame) { layout = m } ∷ gs) bs
  handed_laid gs bs e = (
    λ x o t at typed there.
        let l = e.0 x o t (ap (λ (ts : List Shape). slice_get (offsets_from 4 ts) x) (sym same_locals) ∙ at) (ap (λ (ts : List Shape). slice_get ts x) (sym same_parameters) ∙ typed) there in
        record { its = l.its; runs = l.runs; place = l.place; slot = l.slot; seen = l.seen; living = l.living; own = l.own; word = l.word },
    λ x o copied t at typed there.
        let l = e.1 x o copied t (ap (λ (ts : List Shape). slice_get (offsets_from 4 ts) x) (sym same_locals) ∙ at) (ap (λ (ts : List Shape). slice_get ts x) (sym same_parameters) ∙ typed) there in
        record { its = l.its; runs = l.runs; place = l.place; high = l.high; slot = l.slot; seen = sees_laid f m (gs ++ bs) l.place.root ∙ l.seen; living = l.living; low = l.low; own = l.own; own_high = l.own_high; word = l.word; word_high = l.word_high },
    e.2,
  )

  stands_laid : (base top : ℕ) (gs : List Frame) → Stands ctx.home.owner base top ctx.stack.frame gs → Stands ctx.home.owner base top (record (ctx.stack.frame) { layout = m }) gs
  stands_laid base top [] s = (words_laid top s.0, s.1)
  stands_laid base top (y ∷ gs) s = (words_laid top s.0, s.1)

  links_laid : (gs : List Frame) → Chained ctx.home.shadow ctx.activations ctx.stack.frame gs → Chained ctx.home.shadow ctx.activations (record (ctx.stack.frame) { layout = m }) gs
  links_laid [] c = subst (λ (es : List ℕ). Linked ctx.home.shadow ctx.activations f.activation f.number f.at f.display es []) (sym same_chain) c
  links_laid (y ∷ gs) c = (subst (λ (es : List ℕ). Linked ctx.home.shadow ctx.activations f.activation f.number f.at f.display es (y ∷ gs)) (sym same_chain) c.0, c.1)

  standing_laid : (r : StackRegisters) → Standing ctx r → Standing (with_layout ctx m) r
  standing_laid r s = record {
    frame_is = s.frame_is;
    base_is = s.base_is;
    limit_is = s.limit_is;
    bodies_are = s.bodies_are;
    known = known_laid s.known;
    callers = s.callers;
    comes = s.comes;
    stands = stands_laid ctx.stack.base r.top ctx.stack.callers s.stands;
    links = links_laid ctx.stack.callers s.links;
    locals = locals_laid (ctx.stack.callers ++ ctx.stack.bodies) s.locals;
    handed = handed_laid ctx.stack.callers ctx.stack.bodies s.handed;
    room = s.room;
    based = s.based;
    low = s.low;
    high = s.high;
  }

  -- what stays while items change
  pub shared_laid : (s : Source) (x : State) → Shared ctx s x → Shared (with_layout ctx m) s x
  shared_laid s x shared = record {
    mem = shared.mem;
    heap = shared.heap;
    unborn = shared.unborn;
    program = record { table_is = shared.program.table_is; known = shared.program.known; piece = record { is = shared.program.piece.is; within = shared.program.piece.within }; running_is = shared.program.running_is; marked_is = shared.program.marked_is };
    standing = standing_laid (stack_of x) shared.standing;
    loaded_are = shared.loaded_are;
    activations_are = shared.activations_are;
    parked_are = shared.parked_are;
    kept_are = shared.kept_are;
    levels = shared.levels;
  }

  -- a step from one is a step from the other
  pub goes_laid : (s : Source) (k : List Item) (x : State) (budget : ℕ) → Goes ctx s k x budget → Goes (with_layout ctx m) s k x budget
  goes_laid s k x budget y = record {
    steps = y.steps;
    later = y.later;
    activations = y.activations;
    home = y.home;
    stack = y.stack;
    quiet = y.quiet;
    lands = y.lands;
    touch = record {
      owner = y.touch.owner;
      shadow = y.touch.shadow;
      base = λ r b. y.touch.base r (sym (beyond_laid f m (ctx.stack.callers ++ ctx.stack.bodies) r) ∙ b);
      shape = λ r b. y.touch.shape r (sym (beyond_laid f m (ctx.stack.callers ++ ctx.stack.bodies) r) ∙ b);
      listed = y.touch.listed;
      workspaces = y.touch.workspaces;
      fixed = y.touch.fixed;
    };
    same = record { base = y.same.base; limit = y.same.limit; frames = y.same.frames };
    grown = y.grown;
    cost = y.cost;
    falls = y.falls;
  }

-- what is around
pub record IsAround (before ctx : Setting) : Type 0 where
  pub layout : Layout
  pub is : ctx ≡ with_layout before layout
  pub alike : IsAlike before.stack.frame.layout layout

pub around_self : (ctx : Setting) → IsAround ctx ctx
around_self ctx = record { layout = ctx.stack.frame.layout; is = refl; alike = refl }

pub around_more : (before mid ctx : Setting) (t : Shape) (n : ℕ) → ctx ≡ inside_with mid t n → IsAround before mid → IsAround before ctx
around_more before mid ctx t n is a = record {
  layout = holding a.layout t n;
  is = is ∙ ap (λ (c : Setting). inside_with c t n) a.is;
  alike = a.alike;
}

pub shared_around : (before ctx : Setting) → IsAround before ctx → (s : Source) (x : State) → Shared ctx s x → Shared before s x
shared_around before ctx a s x shared =
    shared_laid (with_layout before a.layout) before.stack.frame.layout (sym a.alike) s x (subst (λ (c : Setting). Shared c s x) a.is shared)

pub goes_around : (before ctx : Setting) → IsAround before ctx → (s : Source) (k : List Item) (x : State) (budget : ℕ) → Goes before s k x budget → Goes ctx s k x budget
goes_around before ctx a s k x budget g = subst (λ (c : Setting). Goes c s k x budget) (sym a.is) (goes_laid before a.layout a.alike s k x budget g)
