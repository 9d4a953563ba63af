-- Words of a call that go above the running frame: its mark, and its arguments.
use Rattle.lil_resolved.specs.Kinds.{Kind, Scalar, Absent, Blank, Join, Row, Opened, words, is_there, part_at, offset as part_offset, all_words}
use Rattle.lil_meaning.specs.Items.{Place, Wholes, Opens, Texts, under}
use Rattle.lil_match.specs.Homes.{IsWord, is_word_kept, address, shape_there}
use Rattle.lil_match.specs.Parts.{part_append, offset_append as part_offset_append, part_fits, word_long}
use Rattle.lil_table.specs.Rows.{given_words, copy_code, copies_code}
use Rattle.lil_resolved.specs.Resolved.{Resolved, Arguments}
use Rattle.lil_meaning.specs.Items.{Activation, Item, Callee}
use Rattle.lil_mcode.specs.Table.{Module}
use Rattle.std.proofs.Common.{append_assoc, true, false}
use Rattle.std.proofs.lemmas.List.{length-append}
use Rattle.lil_match.specs.Waits.{Around, RowsOf, call_code, Pending, saved_words, top_of}
use Rattle.lil_table.specs.Rows.{IsAt, framed}
use Rattle.lil_resolved.specs.Sound.{parameters_given}
use Rattle.std.proofs.Common.{◌≡◌, ℕ, ◌+◌, ◌<◌, ◌≤◌, ◌⊎◌, inl, inr, List, [], ◌∷◌, ◌++◌, length, get_or, refl, sym, ap, ◌∙◌, subst, ⊎_elim, arith}
use Rattle.lil_resolved.specs.Kinds.{Shape, Word, Address}
use Rattle.lil_meaning.specs.Items.{Local, Datum, Scalars, Places, Source}
use Rattle.lil_mcode.specs.Table.{State, stack_of}
use Rattle.lil_frames.specs.Words.{spliced}
use Rattle.lil_match.specs.{Homes.{Own, Of, Fixed, Free, Home, Mem, Stays, Turns, mem_turned, extends_self}, Splices.{spliced_length, spliced_before, spliced_there, spliced_after}, Goes.{IsFree, OwnWords, Stands, Chained, EachHanded, EachLocal, IsKnown, Shared, Touches}, Laid.known_part}
use Rattle.lil_match.specs.{Waits.{Frame, frames_of, Setting, at_home, pushing, GivenWords, AllGiven}, Known.{known_kept, each_known, each_comes, each_local}, Kept.{Keeps, EachAbove, sees_pushed, each_handed, first_words, stack_above, stands_kept, chained_kept}}
use Rattle.lil_laws_stmt.specs.Painting.{free_fixed, painted, painted_there, painted_beside, Side, Before, Between, Behind', side}

pub none_under : (x : ℕ) (q : List ℕ) (k j : Kind) → part_at (Word k) (x ∷ q) ≡ Word j → ⊥
none_under x q k j e = (let gone : Absent ≡ Word j = e in cc)

pub same_kind : (k j : Kind) → Word k ≡ Word j → k ≡ j
same_kind k j e = cc

-- a setting in which so many words are pushed
abbrev pub with_pushed : Setting → ℕ → Setting
with_pushed before n = record before { stack = record (before.stack) { frame = record (before.stack.frame) { pushed = n } } }

-- what was given doesn't hang on what is pushed
pub words_pushed : (ctx : Setting) (n : ℕ) (t : Shape) (d : Datum) (at : ℕ) → GivenWords ctx t d at → GivenWords (pushing ctx n) t d at
words_pushed ctx n t (Scalars v) at r = record { there = r.there; cells = r.cells }
words_pushed ctx n t (Wholes u) at r = record { there = r.there; cells = r.cells }
words_pushed ctx n t (Places place) at r =
    record { to = r.to; is = r.is; seen = sees_pushed ctx.stack.frame (n + ctx.stack.frame.pushed) (ctx.stack.callers ++ ctx.stack.bodies) place.root ∙ r.seen; living = r.living; there = r.there; word = r.word }
words_pushed ctx n t (Opens place high) at r =
    record { copied = r.copied; to = r.to; is = r.is; seen = sees_pushed ctx.stack.frame (n + ctx.stack.frame.pushed) (ctx.stack.callers ++ ctx.stack.bodies) place.root ∙ r.seen; living = r.living; there = r.there; low = r.low; word = r.word; word_high = r.word_high }
words_pushed ctx n t (Texts cs) at r = record { is = r.is; offset = r.offset; text = r.text; word = r.word; word_high = r.word_high }

given_pushed : (ctx : Setting) (n : ℕ) (ts : List Shape) (ds : List Datum) (at : ℕ) → AllGiven ctx ts ds at → AllGiven (pushing ctx n) ts ds at
given_pushed ctx n [] [] at r = r
given_pushed ctx n (t ∷ ts) (d ∷ ds) at r = (words_pushed ctx n t d at r.0, given_pushed ctx n ts ds (at + words t) r.1)
given_pushed ctx n ts ds at r = absurd r

-- one more was given
given_more : (ctx : Setting) (ts : List Shape) (ds : List Datum) (at : ℕ) (t : Shape) (d : Datum) → AllGiven ctx ts ds at → GivenWords ctx t d (at + all_words ts) → AllGiven ctx (ts ++ t ∷ []) (ds ++ d ∷ []) at
given_more ctx [] [] at t d r one = (subst (GivenWords ctx t d) (let e : at + 0 ≡ at = omega arith in e) one, tt)
given_more ctx (u ∷ ts) (e ∷ ds) at t d r one =
    (r.0, given_more ctx ts ds (at + words u) t d r.1 (subst (GivenWords ctx t d) (let f : at + (words u + all_words ts) ≡ at + words u + all_words ts = omega arith in f) one))
given_more ctx ts ds at t d r one = absurd r

more_words : (ts : List Shape) (t : Shape) → all_words (ts ++ t ∷ []) ≡ all_words ts + words t
more_words [] t = omega arith
more_words (u ∷ ts) t = omega (arith, more_words ts t)

-- ---- the same frame, with other words of calls above it
module _ (f : Frame) (n more : ℕ) where
  abbrev before : Frame
  before = record f { pushed = n }

  abbrev after : Frame
  after = record f { pushed = more }

  pub known_repushed : (library : List Resolved) (loaded : List ℕ) (table : List Module) (acts : List Activation) (h : Home) → IsKnown library loaded table acts h (record f { pushed = n }) → IsKnown library loaded table acts h (record f { pushed = more })
  known_repushed library loaded table acts h k =
      known_part library loaded table acts acts h before f.layout f.activation f.procedure f.entry f.after f.piece f.at more f.copied f.display f.back refl k.its k.runs k.owner k.called (record { there = k.entered.there; apart = k.entered.apart }) (record { is = k.piece.is; within = k.piece.within }) k.size k.copies k.returns k

  pub links_repushed : (shadow : ℕ → ℕ) (acts : List Activation) (gs : List Frame) → Chained shadow acts (record f { pushed = n }) gs → Chained shadow acts (record f { pushed = more }) gs
  links_repushed shadow acts [] c = c
  links_repushed shadow acts (g ∷ gs) c = (c.0, c.1)

  pub locals_repushed : (acts : List Activation) (h : Home) (fs : List Frame) → EachLocal acts h (record f { pushed = n } ∷ fs) → EachLocal acts h (record f { pushed = more } ∷ fs)
  locals_repushed acts h fs e = (record { its = e.0.its; runs = e.0.runs; variables = e.0.variables }, e.1, e.2)

  pub handed_repushed : (acts : List Activation) (h : Home) (gs bs : List Frame) → EachHanded acts h (record f { pushed = n } ∷ gs) bs → EachHanded acts h (record f { pushed = more } ∷ gs) bs
  handed_repushed acts h gs bs e = (
    λ y o t at typed there. let l = e.0 y o t at typed there in record { its = l.its; runs = l.runs; place = l.place; slot = l.slot; seen = l.seen; living = l.living; own = l.own; word = l.word },
    λ y o copied t at typed there. let l = e.1 y o copied t at typed there in record { its = l.its; runs = l.runs; place = l.place; high = l.high; slot = l.slot; seen = sees_pushed f more (gs ++ bs) l.place.root ∙ sym (sees_pushed f n (gs ++ bs) l.place.root) ∙ l.seen; living = l.living; low = l.low; own = l.own; own_high = l.own_high; word = l.word; word_high = l.word_high },
    e.2,
  )

module _ (ctx : Setting) (s : Source) (m : State) (shared : Shared ctx s m) (ws : List ℕ) (room : m.top + length ws ≤ ctx.stack.limit) where
  open ctx use {home as h, stack as st}

  abbrev new : List ℕ
  new = spliced m.store m.top ws

  -- they are the machine's own
  abbrev pub taking : Home
  taking = record (ctx.home) {
    owner = painted ctx.home.owner m.top (m.top + length ws) (λ i. Own);
    shadow = painted ctx.home.shadow m.top (m.top + length ws) (λ i. get_or (spliced m.store m.top ws) i 0);
  }

  mine_first : OwnWords h.owner st.frame m.top
  mine_first = first_words h.owner st.base m.top st.frame st.callers shared.standing.stands

  above : (ctx.stack.base ≤ ctx.stack.frame.at) × EachAbove (ctx.stack.base + 4) (frames_of ctx.stack)
  above = stack_above ctx (stack_of m) shared.standing

  abbrev Beside : ℕ → Type 0
  Beside i = (i < m.top) ⊎ ((m.top ≤ i) × (m.top + length ws ≤ i))

  fits : m.top + length ws ≤ length m.store
  fits = omega (arith, room, shared.standing.high, shared.mem.long)

  pub pushed_long : length (spliced m.store m.top ws) ≡ length m.store
  pushed_long = spliced_length m.store m.top ws fits

  stays : (i : ℕ) → Beside i → get_or new i 0 ≡ get_or m.store i 0
  stays i (inl z) = spliced_before m.store m.top ws i fits z
  stays i (inr z) = spliced_after m.store m.top ws i fits z.1

  owner_there : (i : ℕ) → m.top ≤ i → i < m.top + length ws → taking.owner i ≡ Own
  owner_there i from below = painted_there ctx.home.owner m.top (m.top + length ws) (λ j. Own) i from below

  owner_beside : (i : ℕ) → Beside i → taking.owner i ≡ ctx.home.owner i
  owner_beside i o = painted_beside ctx.home.owner m.top (m.top + length ws) (λ j. Own) i o

  pub shadow_beside : (i : ℕ) → (i < m.top) ⊎ ((m.top ≤ i) × (m.top + length ws ≤ i)) → taking.shadow i ≡ ctx.home.shadow i
  shadow_beside i o = painted_beside ctx.home.shadow m.top (m.top + length ws) (λ j. get_or (spliced m.store m.top ws) j 0) i o

  -- each is what the machine has put there
  pub shadow_pushed : (i : ℕ) → i < length ws → taking.shadow (m.top + i) ≡ get_or ws i 0
  shadow_pushed i less = painted_there ctx.home.shadow m.top (m.top + length ws) (λ j. get_or (spliced m.store m.top ws) j 0) (m.top + i) (omega arith) (omega (arith, less)) ∙ spliced_there m.store m.top ws i fits less

  was_free : (i : ℕ) → m.top ≤ i → i < m.top + length ws → ctx.home.owner i ≡ Free ctx.stack.base
  was_free i from below = shared.standing.room i from (omega (arith, below, room))

  each : (i : ℕ) → Stays h taking m.store new i ⊎ Turns h taking new i
  each i = by (side m.top (m.top + length ws) i)
    where
      by : Side m.top (m.top + length ws) i → Stays h taking m.store new i ⊎ Turns h taking new i
      by (Before z) = inl (record { owner = owner_beside i (inl z); shadow = shadow_beside i (inl z); word = stays i (inl z) })
      by (Between z y) = inr (record { before = inr (ctx.stack.base, was_free i z y); after = inl (owner_there i z y); word = λ own. sym (painted_there ctx.home.shadow m.top (m.top + length ws) (λ j. get_or (spliced m.store m.top ws) j 0) i z y) })
      by (Behind' z y) = inl (record { owner = owner_beside i (inr (z, y)); shadow = shadow_beside i (inr (z, y)); word = stays i (inr (z, y)) })

  mem : Mem taking s.cells new
  mem = mem_turned h m.store new taking.owner taking.shadow h.workspaces each s.cells shared.mem (extends_self h.workspaces) pushed_long

  fixed_kept : (i : ℕ) → ctx.home.owner i ≡ Fixed → (taking.owner i ≡ Fixed) × (taking.shadow i ≡ ctx.home.shadow i)
  fixed_kept i is = by (side m.top (m.top + length ws) i)
    where
      by : Side m.top (m.top + length ws) i → (taking.owner i ≡ Fixed) × (taking.shadow i ≡ ctx.home.shadow i)
      by (Before z) = (owner_beside i (inl z) ∙ is, shadow_beside i (inl z))
      by (Between z y) = absurd (free_fixed ctx.stack.base (sym (was_free i z y) ∙ is))
      by (Behind' z y) = (owner_beside i (inr (z, y)) ∙ is, shadow_beside i (inr (z, y)))

  -- the running frame with them
  abbrev taller : Frame
  taller = record (ctx.stack.frame) { pushed = length ws + ctx.stack.frame.pushed }

  known : IsKnown ctx.library ctx.loaded ctx.table ctx.activations taking taller
  known =
      known_repushed ctx.stack.frame ctx.stack.frame.pushed (length ws + ctx.stack.frame.pushed) ctx.library ctx.loaded ctx.table ctx.activations taking
      (known_kept ctx.library ctx.loaded ctx.table ctx.activations ctx.activations (λ i b e. e) h taking (λ n y. refl) (λ n y. refl) refl fixed_kept ctx.stack.frame shared.standing.known)

  own_taller : OwnWords taking.owner taller (m.top + length ws)
  own_taller = record {
    mark = mine_first.mark;
    top_is = omega (arith, mine_first.top_is);
    own = λ i free less. by i (side m.top (m.top + length ws) (ctx.stack.frame.at + i)) free less;
    mine = λ i less. mine i (side m.top (m.top + length ws) (ctx.stack.frame.at + i)) less;
  }
    where
      by : (i : ℕ) → Side m.top (m.top + length ws) (ctx.stack.frame.at + i) → IsFree ctx.stack.frame i → ctx.stack.frame.at + i < m.top + length ws → taking.owner (ctx.stack.frame.at + i) ≡ Own
      by i (Before z) free less = owner_beside (ctx.stack.frame.at + i) (inl z) ∙ mine_first.own i free z
      by i (Between z y) free less = owner_there (ctx.stack.frame.at + i) z y
      by i (Behind' z y) free less = absurd (omega (arith, y, less))

      mine : (i : ℕ) → Side m.top (m.top + length ws) (ctx.stack.frame.at + i) → ctx.stack.frame.at + i < m.top + length ws → (taking.owner (ctx.stack.frame.at + i) ≡ Own) ⊎ ((x : ℕ) × (taking.owner (ctx.stack.frame.at + i) ≡ Of (Local ctx.stack.frame.activation x)))
      mine i (Before z) less = ⊎_elim (λ own. inl (owner_beside (ctx.stack.frame.at + i) (inl z) ∙ own)) (λ one. inr (one.0, owner_beside (ctx.stack.frame.at + i) (inl z) ∙ one.1)) (mine_first.mine i z)
      mine i (Between z y) less = inl (owner_there (ctx.stack.frame.at + i) z y)
      mine i (Behind' z y) less = absurd (omega (arith, y, less))

  stands : (gs : List Frame) → Stands ctx.home.owner ctx.stack.base m.top ctx.stack.frame gs → Stands taking.owner ctx.stack.base (m.top + length ws) taller gs
  stands [] s = (own_taller, s.1)
  stands (g ∷ gs) s = (own_taller, stands_kept h.owner taking.owner ctx.stack.base ctx.stack.frame.at g gs (λ i from below. owner_beside i (inl (omega (arith, below, mine_first.top_is)))) s.1)

  -- THE law of pushed words: all stands as before, with them
  pub shared_pushed : Shared (pushing (at_home ctx (record (ctx.home) {
    owner = painted ctx.home.owner m.top (m.top + length ws) (λ i. Own);
    shadow = painted ctx.home.shadow m.top (m.top + length ws) (λ i. get_or (spliced m.store m.top ws) i 0);
  })) (length ws)) s (record m { top = m.top + length ws; store = spliced m.store m.top ws })
  shared_pushed =
      let g = shared.standing in
      record {
        mem = mem;
        heap = shared.heap;
        unborn = shared.unborn;
        program = record { table_is = shared.program.table_is; known = shared.program.known; piece = record { is = shared.program.piece.is; within = shared.program.piece.within }; running_is = shared.program.running_is; marked_is = shared.program.marked_is };
        standing = record {
          frame_is = g.frame_is;
          base_is = g.base_is;
          limit_is = g.limit_is;
          bodies_are = g.bodies_are;
          known = known;
          callers = each_known ctx.library ctx.loaded ctx.table ctx.activations ctx.activations (λ i b e. e) h taking (λ n y. refl) (λ n y. refl) refl fixed_kept st.callers g.callers;
          comes = each_comes ctx.library ctx.loaded ctx.table ctx.activations ctx.activations (λ i b e. e) h taking (λ n y. refl) (λ n y. refl) refl fixed_kept st.base st.bodies g.comes;
          stands = stands ctx.stack.callers g.stands;
          links = links_repushed ctx.stack.frame ctx.stack.frame.pushed (length ws + ctx.stack.frame.pushed) taking.shadow ctx.activations ctx.stack.callers (chained_kept h.shadow taking.shadow ctx.activations ctx.activations (λ i b e. e) h.owner st.base m.top st.frame st.callers g.stands (λ i from below. shadow_beside i (inl (omega (arith, below, mine_first.mark, mine_first.top_is)))) g.links);
          locals = locals_repushed ctx.stack.frame ctx.stack.frame.pushed (length ws + ctx.stack.frame.pushed) ctx.activations taking (ctx.stack.callers ++ ctx.stack.bodies) (each_local ctx.activations ctx.activations (λ i b e. e) h taking (frames_of ctx.stack) (λ r seen e. refl) (λ r seen e. refl) g.locals);
          handed = handed_repushed ctx.stack.frame ctx.stack.frame.pushed (length ws + ctx.stack.frame.pushed) ctx.activations taking ctx.stack.callers ctx.stack.bodies (each_handed ctx.activations ctx.activations (λ i b e. e) h taking st.bodies st.base m.top st.frame st.callers g.stands
              (λ i from below. let away : Beside i = inl (omega (arith, below, mine_first.mark, mine_first.top_is)) in (owner_beside i away, shadow_beside i away)) (λ r seen e. refl) (λ r seen e. refl) g.handed);
          room = λ i from below. owner_beside i (inr (omega (arith, from), from)) ∙ g.room i (omega (arith, from)) below;
          based = g.based;
          low = room;
          high = g.high;
        };
        activations_are = shared.activations_are;
        loaded_are = shared.loaded_are;
        levels = shared.levels;
        parked_are = shared.parked_are;
        kept_are = shared.kept_are;
      }

  pub touches_pushed : Touches ctx.home taking (frames_of ctx.stack) ctx.stack.base ctx.stack.limit
  touches_pushed = record {
    owner = λ i o. owner_beside i (⊎_elim (λ (z : i < ctx.stack.base). inl (omega (arith, z, above.0, mine_first.top_is))) (λ (z : ctx.stack.limit ≤ i). inr (omega (arith, z, room), omega (arith, z, room))) o);
    shadow = λ i o. shadow_beside i (⊎_elim (λ (z : i < ctx.stack.base). inl (omega (arith, z, above.0, mine_first.top_is))) (λ (z : ctx.stack.limit ≤ i). inr (omega (arith, z, room), omega (arith, z, room))) o);
    base = λ r away e. refl;
    shape = λ r away e. refl;
    listed = refl;
    workspaces = extends_self h.workspaces;
    fixed = fixed_kept;
  }

  -- the words below the topmost one stay
  pub keeps_pushed : (n : ℕ) → n ≤ ctx.stack.frame.layout.frame → Keeps ctx.home taking (frames_of ctx.stack) (ctx.stack.base + 4) (ctx.stack.frame.at + n)
  keeps_pushed n less = record {
    pushed = λ i small. shadow_beside (ctx.stack.frame.at + (ctx.stack.frame.layout.frame + i)) (inl (omega (arith, small, mine_first.top_is)));
    shadow = λ i from below. shadow_beside i (inl (omega (arith, below, less, mine_first.top_is)));
    base = λ r seen e. refl;
    shape = λ r seen e. refl;
    listed = refl;
    workspaces = extends_self h.workspaces;
  }

-- how many instructions copy what a parameter is given
copy_long : (o n : ℕ) (t : Shape) → length (copy_code o t) ≡ length (copy_code n t)
copy_long o n Absent = refl
copy_long o n (Word k) = refl
copy_long o n Blank = refl
copy_long o n (Join t u) = refl
copy_long o n (Row i t) = refl
copy_long o n (Address t) = refl
copy_long o n (Opened false t) = refl
copy_long o n (Opened true t) = refl

pub copy_once : (o : ℕ) (t : Shape) → length (copy_code o t) ≤ 1
copy_once o Absent = omega arith
copy_once o (Word k) = omega arith
copy_once o Blank = omega arith
copy_once o (Join t u) = omega arith
copy_once o (Row i t) = omega arith
copy_once o (Address t) = omega arith
copy_once o (Opened false t) = omega arith
copy_once o (Opened true t) = omega arith

codes_more : (o : ℕ) (ts : List Shape) (t : Shape) → length (copies_code o (ts ++ t ∷ [])) ≡ length (copies_code o ts) + length (copy_code 4 t)
codes_more o [] t = omega (arith, length-append (copy_code o t) [], copy_long o 4 t)
codes_more o (u ∷ ts) t = omega (arith, length-append (copy_code o u) (copies_code (o + words u) (ts ++ t ∷ [])), length-append (copy_code o u) (copies_code (o + words u) ts), codes_more (o + words u) ts t)

-- the next argument was pushed
pub pending_more : (ctx : Setting) (k : List Item) (q : Callee) (done : List Datum) (t : Shape) (d : Datum) (left : Arguments) (p c : ℕ) (a : Around) → Pending ctx q done (t ∷ []) left (RowsOf k) p c a → GivenWords ctx t d (top_of ctx.stack.frame)
    → Pending (pushing ctx (words t)) q (done ++ d ∷ []) [] left (RowsOf k) p (length (copy_code 4 t) + c) a
pending_more ctx k q done t d left p c a w word =
    let long : all_words (w.shapes ++ t ∷ []) ≡ all_words w.shapes + words t = more_words w.shapes t in
    let top : top_of ctx.stack.frame ≡ top_of w.before.stack.frame + saved_words w.resumed + 4 + all_words w.shapes =
    omega (arith, ap (λ (y : Setting). y.stack.frame.at) w.is, ap (λ (y : Setting). y.stack.frame.layout.frame) w.is, ap (λ (y : Setting). y.stack.frame.pushed) w.is) in
    record {
      before = w.before;
      shapes = w.shapes ++ t ∷ [];
      resumed = w.resumed;
      is = ap (λ (y : Setting). pushing y (words t)) w.is
          ∙ ap (λ (n : ℕ). record (w.before) { stack = record (w.before.stack) { frame = record (w.before.stack.frame) { pushed = n } } }) (let e : words t + ((saved_words w.resumed + (4 + all_words w.shapes)) + w.before.stack.frame.pushed) ≡ (saved_words w.resumed + (4 + all_words (w.shapes ++ t ∷ []))) + w.before.stack.frame.pushed = omega (arith, long) in e);
      saved = w.saved;
      returns = w.returns;
      after = w.after;
      restore = w.restore;
      outer = w.outer;
      around = w.around;
      later = w.later;
      count = omega (arith, w.count, codes_more 4 w.shapes t);
      may = w.may;
      here = w.here;
      takes = w.takes ∙ sym (append_assoc w.shapes (t ∷ []) (parameters_given ctx.stack.frame.layout.scope left));
      room = omega (arith, w.room, long);
      link = w.link;
      value = w.value;
      given = given_pushed ctx (words t) (w.shapes ++ t ∷ []) (done ++ d ∷ []) (top_of w.before.stack.frame + saved_words w.resumed + 4)
          (given_more ctx w.shapes done (top_of w.before.stack.frame + saved_words w.resumed + 4) t d w.given (subst (GivenWords ctx t d) top word));
      middle = w.middle;
      arguments = w.arguments;
      end = w.end;
      call = subst (λ (n : ℕ). IsAt ctx.stack.frame.piece w.middle (call_code q (framed n)) w.end)
          (let e : all_words w.shapes + ((words t + 0) + given_words ctx.stack.frame.layout.scope left) ≡ all_words (w.shapes ++ t ∷ []) + (0 + given_words ctx.stack.frame.layout.scope left) = omega (arith, long) in e) w.call;
      within = w.within;
      then = w.then;
    }

-- a scalar whose word was pushed
pub alone_given : (ctx : Setting) (s : Source) (m : State) (shared : Shared ctx s m) (w : ℕ) (room : m.top + length (w ∷ []) ≤ ctx.stack.limit) (k : Kind) (v : Scalar) → IsWord ctx.home k v w
    → (taking ctx s m shared (w ∷ []) room).shadow (top_of ctx.stack.frame) ≡ w → GivenWords (at_home ctx (taking ctx s m shared (w ∷ []) room)) (Word k) (Scalars v) (top_of ctx.stack.frame)
alone_given ctx s m shared w room k v word top = record { there = refl; cells = cells }
  where
    cells : (q : List ℕ) (j : Kind) → part_at (Word k) q ≡ Word j → IsWord (taking ctx s m shared (w ∷ []) room) j v ((taking ctx s m shared (w ∷ []) room).shadow (top_of ctx.stack.frame + part_offset (Word k) q))
    cells [] j e =
        let there : w ≡ (taking ctx s m shared (w ∷ []) room).shadow (top_of ctx.stack.frame + 0) = sym top ∙ ap (taking ctx s m shared (w ∷ []) room).shadow (let f : top_of ctx.stack.frame ≡ top_of ctx.stack.frame + 0 = omega arith in f) in
        is_word_kept ctx.home (taking ctx s m shared (w ∷ []) room) (λ o e. refl) (λ o e. refl) refl (extends_self ctx.home.workspaces) j v _
        (subst (λ (z : Kind). IsWord ctx.home z v ((taking ctx s m shared (w ∷ []) room).shadow (top_of ctx.stack.frame + 0))) (same_kind k j e) (subst (IsWord ctx.home k v) there word))
    cells (x ∷ q) j e = absurd (none_under x q k j e)

-- all scalars of a place whose words were pushed
pub block_given : (ctx : Setting) (s : Source) (m : State) (shared : Shared ctx s m) (place : Place) (t : Shape) → shape_there ctx.home place ≡ t → is_there t ≡ true → (ws : List ℕ) (room : m.top + length ws ≤ ctx.stack.limit) → length ws ≡ words t
    → ((i : ℕ) → i < words t → get_or ws i 0 ≡ get_or m.store (address ctx.home place + i) 0) → GivenWords (at_home ctx (taking ctx s m shared ws room)) t (Wholes (under s.cells place)) (top_of ctx.stack.frame)
block_given ctx s m shared place t living there ws room long same = record {
  there = there;
  cells = λ q k is.
      let x : Home = taking ctx s m shared ws room in
      let h : Home = ctx.home in
      let top = first_words h.owner ctx.stack.base m.top ctx.stack.frame ctx.stack.callers shared.standing.stands in
      let alive : is_there (part_at (h.shape place.root) place.path) ≡ true = ap is_there living ∙ there in
      let typed : part_at (h.shape place.root) (place.path ++ q) ≡ Word k = part_append (h.shape place.root) place.path q alive ∙ ap (λ (z : Shape). part_at z q) living ∙ is in
      let old = shared.mem.holds place.root (place.path ++ q) k typed in
      let small : part_offset t q < words t = omega (arith, part_fits t q (ap is_there is), word_long (part_at t q) k is) in
      let at : address h place + part_offset t q ≡ h.base place.root + part_offset (h.shape place.root) (place.path ++ q) =
      omega (arith, part_offset_append (h.shape place.root) place.path q alive, ap (λ (z : Shape). part_offset z q) living) in
      let word : get_or m.store (h.base place.root + part_offset (h.shape place.root) (place.path ++ q)) 0 ≡ x.shadow (top_of ctx.stack.frame + part_offset t q) =
      sym (
      ap x.shadow (let e : top_of ctx.stack.frame + part_offset t q ≡ m.top + part_offset t q = omega (arith, top.top_is) in e)
      ∙ shadow_pushed ctx s m shared ws room (part_offset t q) (omega (arith, small, long))
      ∙ same (part_offset t q) small
      ∙ ap (λ (i : ℕ). get_or m.store i 0) at
      ) in
      is_word_kept h x (λ o e. refl) (λ o e. refl) refl (extends_self h.workspaces) k (under s.cells place q) _ (subst (IsWord h k (under s.cells place q)) word old);
}
