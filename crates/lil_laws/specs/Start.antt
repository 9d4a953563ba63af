-- From loaded modules, whose bodies run one behind another.
use Rattle.std.proofs.Common.{◌≡◌, ℕ, zero, suc, ◌+◌, ◌-◌, ◌*◌, ◌<◌, ◌≤◌, inl, false, Option, Some, None, List, [], ◌∷◌, length, map, get_or, refl, sym, ap, ◌∙◌, subst, arith}
use Rattle.std.specs.Prelude.{slice_get, option_map}
use Rattle.std.specs.List.{list_any}
use Rattle.std.proofs.lemmas.{Bool.{le-ltb, ne_eqb}, Option.none-some}
use Rattle.lil_resolved.specs.{Kinds.{all_words, shape_by, shape_at}, Resolved.{Resolved, procedure_by, outline_of}, Sizes.frame_words}
use Rattle.lil_meaning.specs.{Items.{loaded_at, variables_of, targets_of, Item, Perform, End, Activation, Source, doing}, World.World, Need.frame_of, Steps.{owner_of, procedure_of, result_by, procedures_of, name_of}, Runs.{begun, bodies, body_of, body_activations, src}}
use Rattle.lil_asm.specs.{declared.instr.Instr.TheVariants.{Rtn}, Stretches.{stretch, decoded_inside}}
use Rattle.lil_mcode.specs.{declared.machine.Event.TheVariants.Went, Table.{State, enter_row, fetched, performed}}
use Rattle.lil_frames.specs.Words.{zeros, cleared}
use Rattle.lil_asm.specs.declared.instr.Instr.TheVariants.{Ent}
use Rattle.lil_table.specs.Rows.{lone_number, alone, IsAt, framed, in_procedure, layout_of}
use Rattle.lil_match.specs.{Goes.{IsKnown, EachComes, HasLocals, EachLocal, Shared}, Running.{Run, mrun, running, advanced}, Parts.no, Homes.{Listed, Home}, Waits.{Frame, is_of, Setting, Quiet, outside, RowsOf, Rows, Ahead, Behind}, Steps.{advances, at_once, rows_ahead}, Orders.instr_within, Splices.{spliced_length, spliced_before, zeros_length}}
use Rattle.lil_laws_stmt.specs.Control.{body_rows}
use Rattle.lil_laws.specs.{Loading.{Compiled, text_of, data_end, entry_for, table_from, numbers_from, data_placed, image}, Placing.{place_from, variable_from, text_at, table_there, variable_offset, HasData, data_length, has_data, string_fixed, strings_low, home, above, owner_own, owner_free, mem}}
use Rattle.lil_laws.specs.{Entries.{body_within, body_apart, entry_row}, Whole.{Unlimited, Agrees, limits, still_agrees, follows}, Reaching.{Reaches, reaches_before, reaches}}

-- one of the modules, whose body runs
pub record Body (os : List Compiled) : Type 0 where
  pub index : ℕ
  pub its : Compiled
  pub there : slice_get os index ≡ Some its

module _ (os : List Compiled) where
  abbrev pub number : Body os → ℕ
  number b = suc b.index

  abbrev pub frame_for : ℕ → Body os → Frame
  frame_for a b = record {
    activation = a;
    number = suc b.index;
    procedure = 0;
    own = entry_for b.its (place_from 1 os b.index);
    entry = 0;
    after = b.its.translates.middle;
    piece = stretch 0 b.its.translates.middle b.its.code;
    layout = layout_of alone b.its.strings b.its.text;
    at = data_end 1 os;
    pushed = 0;
    copied = 0;
    display = [];
    back = 0;
  }

  abbrev pub frames : ℕ → List (Body os) → List Frame
  frames a [] = []
  frames a (b ∷ bs) = frame_for a b ∷ frames (suc a) bs

  abbrev library : List Resolved
  library = map text_of os

  abbrev loaded : List ℕ
  loaded = numbers_from 0 os

  text : (b : Body os) → loaded_at library loaded (suc b.index) ≡ Some b.its.text
  text b = text_at os b.index ∙ ap (option_map text_of) b.there

  module _ (all : List Activation) (h : Home) where
    abbrev setting : Frame → List Frame → Setting
    setting f bs = record {
      library = library;
      loaded = loaded;
      table = table_from 1 os;
      activations = all;
      parked = [];
      kept = [];
      home = h;
      stack = record { base = data_end 1 os; limit = 65535; frame = f; callers = []; bodies = bs };
    }

    -- the code of bodies does what is left to do
    body_at : (a : ℕ) (b : Body os) (bs : List (Body os)) → Behind (setting (frame_for a b) (frames (suc a) bs)) (bodies library loaded (suc a) (map number bs)) (RowsOf (bodies library loaded (suc a) (map number bs))) 0 [] (frames (suc a) bs)
        → Rows (setting (frame_for a b) (frames (suc a) bs)) (bodies library loaded a (map number (b ∷ bs))) Quiet b.its.translates.body.start [] 0 (outside (frame_for a b))
    body_at a b bs behind =
        let t = b.its.translates.body in
        let ctx = setting (frame_for a b) (frames (suc a) bs) in
        let rest : List Item = Perform (End a) ∷ bodies library loaded (suc a) (map number bs) in
        subst (λ (o : Option Resolved). Rows ctx (doing (body_of o) rest) Quiet t.start [] 0 (outside (frame_for a b))) (sym (text b))
        (body_rows ctx b.its.text.body rest t.start t.end 0 (outside (frame_for a b)) t.body (instr_within (stretch 0 b.its.translates.middle b.its.code) t.end Rtn b.its.translates.middle t.leave)
        (at_once ctx _ Quiet t.end [] 0 (outside (frame_for a b))
        (record { quiet = refl; empty = refl; activation = refl; alone = refl; free = refl; idle = refl; end = b.its.translates.middle; leave = t.leave; behind = behind })))

    rows_of : (a : ℕ) (b : Body os) (bs : List (Body os)) → Rows (setting (frame_for a b) (frames (suc a) bs)) (bodies library loaded a (map number (b ∷ bs))) Quiet b.its.translates.body.start [] 0 (outside (frame_for a b))
    rows_of a b [] = body_at a b [] (refl, refl)
    rows_of a b (c ∷ bs) =
        body_at a b (c ∷ bs)
        (record {
          body = refl;
          low = omega arith;
          plain = refl;
          bare = refl;
          idle = refl;
          start = c.its.translates.body.start;
          enter = subst (λ (q : ℕ). IsAt (frame_for (suc a) c).piece 0 (Ent (framed (frame_words [] c.its.text.body))) q) c.its.translates.body.copies c.its.translates.body.enter;
          then = rows_of (suc a) c bs;
        })

  -- the module lists what the home says
  pub record IsListed (listed : Listed) (i : ℕ) (o : Compiled) : Type 0 where
    pub targets : o.text.targets ≡ listed.targets
    pub signatures : o.text.signatures ≡ listed.signatures
    pub procedures : map outline_of o.text.procedures ≡ listed.procedures
    pub number : suc i ≡ listed.number
    pub lone : suc i ≡ lone_number

  abbrev pub Listing : Listed → Type 0
  Listing listed = (i : ℕ) (o : Compiled) → slice_get os i ≡ Some o → IsListed listed i o

  module _ (listed : Listed) (same : Listing listed) (all : List Activation) (size : ℕ) (store : List ℕ) (room : data_end 1 os ≤ 65535) (placed : HasData 1 os store) where
    abbrev h : Home
    h = home listed os size store

    known : (a : ℕ) (b : Body os) → slice_get all a ≡ Some (record { owner = suc b.index; procedure = 0; outer = None; slots = [] }) → IsKnown library loaded (table_from 1 os) all h (frame_for a b)
    known a b runs = record {
      known = table_there 1 os b.index b.its b.there;
      named = ap name_of (text b);
      its = record { owner = suc b.index; procedure = 0; outer = None; slots = [] };
      runs = runs;
      owner = ap owner_of runs;
      called = ap procedure_of runs;
      entered = record { there = refl; apart = body_apart b.its };
      piece = record { is = refl; within = body_within b.its };
      size = sym (ap (λ (m : Option Resolved). frame_of m 0) (text b));
      copies = refl;
      returns = ap (λ (m : Option Resolved). result_by m 0) (sym (text b));
      procedures = ap (λ (m : Option Resolved). map outline_of (procedures_of m)) (sym (text b));
      codes = λ p q there.
          let e = entry_row b.its p q (ap (λ (m : Option Resolved). procedure_by (procedures_of m) p) (sym (text b)) ∙ there) in
          record {
            inner = in_procedure (layout_of alone b.its.strings b.its.text) p q;
            part = refl;
            frame = refl;
            chain = refl;
            free = refl;
            entry = e.entry;
            there = e.there;
            after = e.after;
            within = e.within;
            apart = e.apart;
            code = e.row;
          };
      variables = λ x o t offset shape. (
        ap (λ (m : Option Resolved). shape_at (variables_of m) x) (text b) ∙ ap shape_by shape,
        ap (λ (p : Option Compiled). variable_from (place_from 1 os b.index) (variables_of (option_map text_of p)) x) b.there
            ∙ ap (λ (n : ℕ). variable_from n b.its.text.variables x) (let e : place_from 1 os b.index ≡ place_from 1 os b.index + 0 = omega arith in e)
            ∙ variable_offset b.its.text.variables (place_from 1 os b.index) 0 x o offset,
      );
      strings = λ i less. (string_fixed listed os size store b.index i b.its b.there less, placed.strings_at b.index b.its b.there i less);
      inside = omega (arith, strings_low listed os size store b.index b.its b.there, room);
      targets = (same b.index b.its b.there).targets;
      own_targets = ap targets_of (text b) ∙ (same b.index b.its b.there).targets;
      signatures = (same b.index b.its b.there).signatures;
      outlines = (same b.index b.its b.there).procedures;
      here = (same b.index b.its b.there).number;
      number = sym (same b.index b.its b.there).lone;
    }

    each_comes : (a : ℕ) (bs : List (Body os)) → 0 < a → ((i : ℕ) → slice_get all (a + i) ≡ slice_get (body_activations (map number bs)) i)
        → EachComes library loaded (table_from 1 os) all h (data_end 1 os) (frames a bs)
    each_comes a [] later runs = tt
    each_comes a (b ∷ bs) later runs = (
      record { known = known a b (ap (slice_get all) (let e : a ≡ a + 0 = omega arith in e) ∙ runs 0); later = later; at = refl; mark = omega arith; chain = refl; display = refl },
      each_comes (suc a) bs (omega arith) (λ i. ap (slice_get all) (let e : suc a + i ≡ a + suc i = omega arith in e) ∙ runs (suc i)),
    )

    -- bodies have no variables
    no_locals : (a : ℕ) (b : Body os) → slice_get all a ≡ Some (record { owner = suc b.index; procedure = 0; outer = None; slots = [] }) → HasLocals all h (frame_for a b)
    no_locals a b runs = record { its = record { owner = suc b.index; procedure = 0; outer = None; slots = [] }; runs = runs; variables = λ x o t at. absurd (none-some o at) }

    later_ones : (a n : ℕ) (bs : List (Body os)) → a < n → list_any (is_of a) (frames n bs) ≡ false
    later_ones a n [] less = refl
    later_ones a n (b ∷ bs) less = cc (ne_eqb n a (λ e. omega (arith, e, less)), later_ones a (suc n) bs (omega (arith, less)))

    each_bare : (a : ℕ) (bs : List (Body os)) → ((i : ℕ) → slice_get all (a + i) ≡ slice_get (body_activations (map number bs)) i) → EachLocal all h (frames a bs)
    each_bare a [] runs = tt
    each_bare a (b ∷ bs) runs = (
      no_locals a b (ap (slice_get all) (let e : a ≡ a + 0 = omega arith in e) ∙ runs 0),
      later_ones a (suc a) bs (omega arith),
      each_bare (suc a) bs (λ i. ap (slice_get all) (let e : suc a + i ≡ a + suc i = omega arith in e) ∙ runs (suc i)),
    )

-- these bodies run in their order, and the first one's frame has room
module _ (os : List Compiled) (listed : Listed) (same : Listing os listed) (b : Body os) (bs : List (Body os)) (room : data_end 1 os + frame_words [] b.its.text.body ≤ 65535) where
  abbrev pub begins : State
  begins = image os (suc b.index) (map (number os) bs)

  abbrev end : ℕ
  end = data_end 1 os

  abbrev size : ℕ
  size = frame_words [] b.its.text.body

  abbrev mark : List ℕ
  mark = 0 ∷ 0 ∷ 0 ∷ suc b.index ∷ []

  data_fits : data_end 1 os ≤ length (zeros 65536)
  data_fits = omega (arith, room, zeros_length 65536)

  placed_length : length (data_placed (zeros 65536) 1 os) ≡ 65536
  placed_length = data_length (zeros 65536) 1 os data_fits ∙ zeros_length 65536

  -- the first body is entered: the words of its FORs are zero
  pub entered : List ℕ
  entered = cleared begins.store (end + 4) (end + size)

  abbrev entered_at : State
  entered_at = record begins { place = b.its.translates.body.start; top = end + size; store = entered }

  begins_length : length begins.store ≡ 65536
  begins_length = spliced_length (data_placed (zeros 65536) 1 os) end mark (omega (arith, placed_length, room)) ∙ placed_length

  fresh_length : length (zeros (end + size - (end + 4))) ≡ end + size - (end + 4)
  fresh_length = zeros_length (end + size - (end + 4))

  entered_length : length entered ≡ 65536
  unfolding entered
  entered_length = spliced_length begins.store (end + 4) (zeros (end + size - (end + 4))) (omega (arith, begins_length, fresh_length, room)) ∙ begins_length

  data_stays : (a : ℕ) → a < data_end 1 os → get_or entered a 0 ≡ get_or (data_placed (zeros 65536) 1 os) a 0
  unfolding entered
  data_stays a less =
      spliced_before begins.store (end + 4) (zeros (end + size - (end + 4))) a (omega (arith, begins_length, fresh_length, room)) (omega (arith, less))
      ∙ spliced_before (data_placed (zeros 65536) 1 os) end mark a (omega (arith, placed_length, room)) less

  placed : HasData 1 os entered
  placed =
      let old = has_data (zeros 65536) 1 os data_fits in
      record {
        zero_at = λ n o e i less. data_stays (place_from 1 os n + i) (omega (arith, strings_low listed os size entered n o e, less)) ∙ old.zero_at n o e i less;
        strings_at = λ n o e i less.
            data_stays (place_from 1 os n + (all_words o.text.variables + i)) (omega (arith, strings_low listed os size entered n o e, less)) ∙ old.strings_at n o e i less;
      }

  abbrev order : List ℕ
  order = map (number os) (b ∷ bs)

  abbrev first : World → Source
  first w = begun (map text_of os) (numbers_from 0 os) order w

  abbrev items : List Item
  items = bodies (map text_of os) (numbers_from 0 os) 0 order

  abbrev pub ctx : Setting
  ctx = setting os (body_activations order) (home listed os size entered) (frame_for os 0 b) (frames os 1 bs)

  shared : (w : World) → Shared ctx (first w) entered_at
  shared w = record {
    mem = mem listed os size entered (omega (arith, room)) entered_length placed;
    heap = record { born = λ o. refl; above = λ o there. cc; apart = λ o p there. cc; known = refl; clear = λ w less. omega (arith, less); distinct = λ w v less. omega (arith, less); rest = omega arith };
    unborn = λ a x past. refl;
    program = record { table_is = refl; known = table_there 1 os b.index b.its b.there; piece = record { is = refl; within = body_within b.its }; running_is = refl; marked_is = refl };
    standing = record {
      frame_is = refl;
      base_is = refl;
      limit_is = refl;
      bodies_are = numbers 1 bs;
      known = known os listed same (body_activations order) size entered (omega (arith, room)) placed 0 b refl;
      callers = tt;
      comes = each_comes os listed same (body_activations order) size entered (omega (arith, room)) placed 1 bs (omega arith) (λ i. ap (slice_get (body_activations order)) (let e : 1 + i ≡ suc i = omega arith in e));
      stands = (record { mark = omega arith; top_is = omega arith; own = λ i free l. owner_own listed os size entered (end + i) (omega arith) (omega (arith, l)); mine = λ i l. inl (owner_own listed os size entered (end + i) (omega arith) (omega (arith, l))) }, refl);
      links = refl;
      locals = each_bare os listed same (body_activations order) size entered (omega (arith, room)) placed 0 (b ∷ bs) (λ i. ap (slice_get (body_activations order)) (let e : 0 + i ≡ i = omega arith in e));
      handed = (λ y o t at. absurd (none-some o at), λ y o copied t at. absurd (none-some o at), tt);
      room = λ a from below. owner_free listed os size entered a (omega (arith, from));
      based = above listed os size entered;
      low = omega (arith, room);
      high = omega arith;
    };
    loaded_are = refl;
    activations_are = refl;
    parked_are = refl;
    kept_are = refl;
    levels = record { none = refl; none_below = refl };
  }
    where
      numbers : (a : ℕ) (cs : List (Body os)) → map (number os) cs ≡ map Rattle.lil_match.specs.Goes.number_of (frames os a cs)
      numbers a [] = refl
      numbers a (c ∷ cs) = ap (λ (ns : List ℕ). suc c.index ∷ ns) (numbers (suc a) cs)

  enters : (w : World) → advanced (running begins w) ≡ running entered_at w
  unfolding entered
  enters w =
      advances begins w (Went, entered_at) (
      ap (fetched begins) (table_there 1 os b.index b.its b.there)
      ∙ ap (performed begins (entry_for b.its (place_from 1 os b.index))) (decoded_inside 0 b.its.translates.middle b.its.code 0 _ (body_within b.its) b.its.translates.body.enter).there
      ∙ ap (λ (n : ℕ). enter_row n b.its.translates.body.begun begins) (let e : framed size ≡ size = omega (arith, room) in e)
      ∙ ap (λ (q : ℕ). enter_row size q begins) b.its.translates.body.copies
      ∙ no _ _ _ (le-ltb (end + size) (end + 4) (omega arith))
      ∙ no _ _ _ (le-ltb 65535 (end + size) room)
      )

  ahead : Ahead ctx items Quiet b.its.translates.body.start [] 0 (outside (frame_for os 0 b))
  ahead = rows_ahead ctx items b.its.translates.body.start [] 0 (outside (frame_for os 0 b)) (rows_of os (body_activations order) (home listed os size entered) 0 b bs)

  abbrev pub state_after : World → ℕ → Source
  state_after w n = src (map text_of os) (numbers_from 0 os) (map (number os) (b ∷ bs)) w n

  -- after any number of steps the run agrees with some state of the meaning
  pub record Correct (w : World) (steps : ℕ) : Type 0 where
    pub n : ℕ
    pub agrees : Agrees (table_from 1 os) (limits ctx) (state_after w n) (mrun steps (running begins w))
    pub far : Unlimited (mrun steps (running begins w)) → steps < 32 * n + 33

  pub correct : (w : World) (steps : ℕ) → Correct w steps
  correct w zero = record { n = 0; agrees = still_agrees (table_from 1 os) (limits ctx) (first w) items (running begins w) (record { world = refl; finish = refl }); far = λ u. omega arith }
  correct w (suc steps) =
      let f = follows ctx (first w) items entered_at steps 0 (outside (frame_for os 0 b)) tt (shared w) ahead in
      record {
        n = f.n;
        agrees = subst (λ (r : Run). Agrees (table_from 1 os) (limits ctx) (state_after w f.n) (mrun steps r)) (sym (enters w)) f.agrees;
        far = λ u. omega (arith, f.far (subst (λ (r : Run). Unlimited (mrun steps r)) (enters w) u));
      }

  -- each state of the meaning has shown what the run has shown after some number of steps, unless that meets a limit
  pub reached : (w : World) (n : ℕ) → Reaches (map text_of os) (first w) (running begins w) n
  reached w n = reaches_before (map text_of os) (first w) (running begins w) (running entered_at w) 1 n (enters w) (reaches ctx n (first w) items entered_at 0 (outside (frame_for os 0 b)) tt (shared w) ahead)
