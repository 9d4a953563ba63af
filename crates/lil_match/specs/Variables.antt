-- Where the variables are that items name: those of the module at hand, and those of the procedures at hand and around it.
use Rattle.lil_resolved.specs.Kinds.{parameters_of, parameters_at}
use Rattle.lil_resolved.specs.Plain.{parameter_variable}
use Rattle.lil_match.specs.Waits.{parameters_in}
use Rattle.std.proofs.Common.{◌≡◌, ℕ, zero, suc, ◌+◌, ◌<◌, ◌≤◌, inl, inr, Bool, true, ◌||◌, Option, Some, None, List, [], ◌∷◌, ◌++◌, length, map, drop, refl, sym, ap, ◌∙◌, subst, arith, eq-eqb}
use Rattle.std.specs.{Prelude.{slice_get, option_and_then}, List.list_any}
use Rattle.std.proofs.lemmas.Option.{none-some, slice_get_within}
use Rattle.lil_resolved.specs.{Kinds.{Shape, Row, Address, Opened, Outline, is_there, procedure_by, locals_of, locals_at, offsets_from}, Resolved.{Named, OfModule, OfLevel, Resolved, variable_at, outline_of}}
use Rattle.lil_meaning.specs.{Items.{Root, Global, Local, Slot, Here, At, Along, Place, Activation, Source, loaded_at}, Steps.{current, owner_of, procedures_of, slots_of, slot_place, local_place, slot_array, local_array, array_of, level_out, variable_place}}
use Rattle.lil_mcode.specs.Table.{Module, State}
use Rattle.lil_table.specs.Rows.{access_at, offset_at, framed}
use Rattle.lil_match.specs.{Homes.{Owner, Own, Home, address, shape_there}, Waits.{Frame, frames_of, locals_in, own_words, is_of, sees, Setting, HasPlace}, Known.{or_later, sees_more}, Goes.{Stands, Among, IsKnown, EachKnown, HasLocals, EachLocal, HasHanded, HasOpened, EachHanded, Shared}, Climbs.{Climbs, climbs, first_own}, Kept.{first_words, offset_low}}

-- ---- frames
known_among : (library : List Resolved) (loaded : List ℕ) (table : List Module) (acts : List Activation) (h : Home) (fs : List Frame) (g : Frame) → EachKnown library loaded table acts h fs → Among g fs → IsKnown library loaded table acts h g
known_among library loaded table acts h [] g e m = absurd m
known_among library loaded table acts h (f ∷ fs) g e (inl same) = subst (IsKnown library loaded table acts h) (sym same) e.0
known_among library loaded table acts h (f ∷ fs) g e (inr m) = known_among library loaded table acts h fs g e.1 m

local_among : (acts : List Activation) (h : Home) (fs bs : List Frame) (g : Frame) → EachLocal acts h (fs ++ bs) → Among g fs → HasLocals acts h g
local_among acts h [] bs g e m = absurd m
local_among acts h (f ∷ fs) bs g e (inl same) = subst (HasLocals acts h) (sym same) e.0
local_among acts h (f ∷ fs) bs g e (inr m) = local_among acts h fs bs g e.2 m

first_of : (a b : Bool) → a ≡ true → (a || b) ≡ true
first_of true b e = refl
first_of a b e = cc

seen_among : (fs bs : List Frame) (g : Frame) → Among g fs → list_any (is_of g.activation) (fs ++ bs) ≡ true
seen_among [] bs g m = absurd m
seen_among (f ∷ fs) bs g (inl same) = first_of (is_of g.activation f) (list_any (is_of g.activation) (fs ++ bs)) (eq-eqb f.activation g.activation (ap (λ (y : Frame). y.activation) (sym same)))
seen_among (f ∷ fs) bs g (inr m) = or_later (is_of g.activation f) (list_any (is_of g.activation) (fs ++ bs)) (seen_among fs bs g m)

-- what was handed in to one of the frames
record HandedAmong (acts : List Activation) (h : Home) (fs bs : List Frame) (g : Frame) : Type 0 where
  under : List Frame
  handed : HasHanded acts h g under
  opened : HasOpened acts h g under
  more : (r : Root) → sees under r ≡ true → sees (fs ++ bs) r ≡ true
  around : (r : Root) → sees (g ∷ under) r ≡ true → sees (fs ++ bs) r ≡ true

handed_among : (acts : List Activation) (h : Home) (fs bs : List Frame) (g : Frame) → EachHanded acts h fs bs → Among g fs → HandedAmong acts h fs bs g
handed_among acts h [] bs g e m = absurd m
handed_among acts h (f ∷ fs) bs g e (inl same) = record { under = fs ++ bs; handed = subst (λ (y : Frame). HasHanded acts h y (fs ++ bs)) (sym same) e.0; opened = subst (λ (y : Frame). HasOpened acts h y (fs ++ bs)) (sym same) e.1; more = λ r s. sees_more f (fs ++ bs) r s; around = λ r s. subst (λ (y : Frame). sees (y ∷ (fs ++ bs)) r ≡ true) same s }
handed_among acts h (f ∷ fs) bs g e (inr m) =
    let one = handed_among acts h fs bs g e.2 m in
    record { under = one.under; handed = one.handed; opened = one.opened; more = λ r s. sees_more f (fs ++ bs) r (one.more r s); around = λ r s. sees_more f (fs ++ bs) r (one.around r s) }

-- the variables of a frame lie below the topmost word
frame_low : (owner : ℕ → Owner) (base top : ℕ) (f : Frame) (gs : List Frame) → Stands owner base top f gs → (g : Frame) → Among g (f ∷ gs) → g.at + (4 + own_words g) ≤ top
frame_low owner base top f [] s g (inl same) = subst (λ (y : Frame). y.at + (4 + own_words y) ≤ top) (sym same) (omega (arith, s.0.mark, s.0.top_is))
frame_low owner base top f [] s g (inr m) = absurd m
frame_low owner base top f (y ∷ gs) s g (inl same) = subst (λ (y : Frame). y.at + (4 + own_words y) ≤ top) (sym same) (omega (arith, s.0.mark, s.0.top_is))
frame_low owner base top f (y ∷ gs) s g (inr m) = omega (arith, frame_low owner base f.at y gs s.1 g m, s.0.top_is)

-- ---- the variables of a procedure around are those of its frame
dropped : (xs : List ℕ) (n : ℕ) → slice_get (drop n xs) 0 ≡ slice_get xs n
dropped [] zero = refl
dropped [] (suc n) = refl
dropped (x ∷ xs) zero = refl
dropped (x ∷ xs) (suc n) = dropped xs n

same_out : (f to : Frame) (n : ℕ) → to.layout.scope.procedures ≡ f.layout.scope.procedures → to.layout.scope.chain ≡ drop n f.layout.scope.chain
    → option_and_then (procedure_by to.layout.scope.procedures) (slice_get to.layout.scope.chain 0) ≡ option_and_then (procedure_by f.layout.scope.procedures) (slice_get f.layout.scope.chain n)
same_out f to n procedures chain =
    ap (λ (ps : List Outline). option_and_then (procedure_by ps) (slice_get to.layout.scope.chain 0)) procedures
    ∙ ap (λ (o : Option ℕ). option_and_then (procedure_by f.layout.scope.procedures) o) (ap (λ (xs : List ℕ). slice_get xs 0) chain ∙ dropped f.layout.scope.chain n)

-- one that is there is of a procedure at hand
level_low : (ps : List Outline) (chain : List ℕ) (n x : ℕ) (t : Shape) → slice_get (locals_of (option_and_then (procedure_by ps) (slice_get chain n))) x ≡ Some t → n < length chain
level_low ps chain n x t typed = by (slice_get chain n) refl typed
  where
    by : (o : Option ℕ) → slice_get chain n ≡ o → slice_get (locals_of (option_and_then (procedure_by ps) o)) x ≡ Some t → n < length chain
    by None e typed = absurd (none-some t typed)
    by (Some p) e typed = slice_get_within chain n p e

framed_low : (n : ℕ) → n ≤ 65535 → framed n ≡ n
framed_low n h = omega (arith, h)

module _ (ctx : Setting) where
  open ctx use {home as h, stack as st}

  -- a word of the running frame, as instructions say it
  pub framed_here : (s : Source) (m : State) → Shared ctx s m → (n : ℕ) → n ≤ ctx.stack.frame.layout.frame → framed n ≡ n
  framed_here s m shared n less =
      let words = first_words h.owner st.base m.top st.frame st.callers shared.standing.stands in
      framed_low n (omega (arith, less, words.top_is, shared.standing.low, shared.standing.high))

  -- the frame so many levels out
  pub out_of : (s : Source) (m : State) → Shared ctx s m → (i : ℕ) → i < length ctx.stack.frame.layout.scope.chain → Climbs ctx.activations m.store ctx.stack.frame ctx.stack.callers i
  out_of s m shared i less =
      climbs h.shadow ctx.activations m.store st.frame st.callers shared.standing.links
      (λ g among. shared.mem.kept g.at (first_own h.owner st.base m.top st.frame st.callers shared.standing.stands g among)) i less

  -- its procedure is that of the layout
  outline_out : (s : Source) (m : State) → Shared ctx s m → (n : ℕ) (up : Climbs ctx.activations m.store ctx.stack.frame ctx.stack.callers n)
      → option_and_then (procedure_by up.to.layout.scope.procedures) (slice_get up.to.layout.scope.chain 0) ≡ option_and_then (procedure_by ctx.stack.frame.layout.scope.procedures) (slice_get ctx.stack.frame.layout.scope.chain n)
  outline_out s m shared n up =
      let f = ctx.stack.frame in
      let known = known_among ctx.library ctx.loaded ctx.table ctx.activations h (f ∷ st.callers) up.to (shared.standing.known, shared.standing.callers) up.among in
      same_out f up.to n (known.procedures ∙ ap (λ (i : ℕ). map outline_of (procedures_of (loaded_at ctx.library ctx.loaded i))) up.owner ∙ sym shared.standing.known.procedures) up.chain

  -- what a slot of its activation means
  found_out : (s : Source) (m : State) → Shared ctx s m → current s.items ≡ ctx.stack.frame.activation → (n x : ℕ) (up : Climbs ctx.activations m.store ctx.stack.frame ctx.stack.callers n) (its : Activation) → slice_get ctx.activations up.to.activation ≡ Some its
      → (slot : Slot) → slice_get its.slots x ≡ Some slot → variable_place s (OfLevel n x) ≡ slot_place up.to.activation x (Some slot)
  found_out s m shared close n x up its runs slot is =
      ap (λ (a : ℕ). local_place s.activations (level_out s.activations a n) x) close
      ∙ ap (λ (acts : List Activation). local_place acts (level_out acts ctx.stack.frame.activation n) x) shared.activations_are
      ∙ ap (λ (a : Option ℕ). local_place ctx.activations a x) up.level
      ∙ ap (λ (o : Option Activation). slot_place up.to.activation x (slice_get (slots_of o) x)) runs
      ∙ ap (slot_place up.to.activation x) is

  -- a variable has a place, which code has where the layout says
  pub record VariableHere (s : Source) (v : Named) (offset : ℕ) (t : Shape) (stack : List ℕ) : Type 0 where
    pub place : Place
    pub found : variable_place s v ≡ Some place
    pub has : HasPlace ctx (access_at v offset) place t stack stack

  module _ (s : Source) (m : State) (shared : Shared ctx s m) (close : current s.items ≡ ctx.stack.frame.activation) (offset : ℕ) (t : Shape) (there : is_there t ≡ true) (stack : List ℕ) where
    of_level : (n x : ℕ) → slice_get (offsets_from 4 (locals_at ctx.stack.frame.layout.scope n)) x ≡ Some offset → slice_get (locals_at ctx.stack.frame.layout.scope n) x ≡ Some t → VariableHere s (OfLevel n x) offset t stack
    of_level n x at typed =
        let f = ctx.stack.frame in
        let up = out_of s m shared n (level_low f.layout.scope.procedures f.layout.scope.chain n x t typed) in
        let same : locals_in up.to ≡ locals_at f.layout.scope n = ap locals_of (outline_out s m shared n up) in
        let its = local_among ctx.activations h (f ∷ st.callers) st.bodies up.to shared.standing.locals up.among in
        let v = its.variables x offset t (ap (λ (ts : List Shape). slice_get (offsets_from 4 ts) x) same ∙ at) (ap (λ (ts : List Shape). slice_get ts x) same ∙ typed) there in
        let low = shared.mem.inside (Local up.to.activation x) in
        let exact : framed offset ≡ offset = framed_low offset (omega (arith, low, v.2)) in
        record {
          place = record { root = Local up.to.activation x; path = [] };
          found = found_out s m shared close n x up its.its its.runs Here v.0;
          has = record {
            seen = seen_among (f ∷ st.callers) st.bodies up.to up.among;
            living = v.1;
            there = there;
            at = (up.to.at, up.shown, omega (arith, v.2, exact), refl);
          };
        }

    pub variable_here : (v : Named) → offset_at ctx.stack.frame.layout v ≡ Some offset → variable_at ctx.stack.frame.layout.scope v ≡ Some t → VariableHere s v offset t stack
    variable_here (OfLevel n x) at typed = of_level n x at typed
    variable_here (OfModule x) at typed =
        let here : owner_of (slice_get s.activations (current s.items)) ≡ st.frame.number =
        ap (λ (a : ℕ). owner_of (slice_get s.activations a)) close
        ∙ ap (λ (l : List Activation). owner_of (slice_get l st.frame.activation)) shared.activations_are
        ∙ shared.standing.known.owner in
        let v = shared.standing.known.variables x offset t at typed in
        let own : Place = record { root = Global st.frame.number x; path = [] } in
        record {
          place = own;
          found = ap (λ (n : ℕ). Some (record { root = Global n x; path = [] })) here;
          has = record { seen = refl; living = v.0; there = there; at = (omega (arith, v.1), refl) };
        }

  -- what was handed in for a VAR parameter is a place, and a word of its procedure's frame has the address
  pub record HandedHere (s : Source) (n x offset : ℕ) (t : Shape) : Type 0 where
    pub place : Place
    pub found : variable_place s (OfLevel n x) ≡ Some place
    pub first : ℕ
    pub shown : slice_get ctx.stack.frame.display n ≡ Some first
    pub own : h.owner (first + offset) ≡ Own
    pub word : h.shadow (first + offset) ≡ address h place
    pub seen : sees (frames_of ctx.stack) place.root ≡ true
    pub living : shape_there h place ≡ t
    pub low : first + offset ≤ 65535

  pub handed_here : (s : Source) (m : State) → Shared ctx s m → current s.items ≡ ctx.stack.frame.activation → (n x offset : ℕ) (t : Shape) → offset_at ctx.stack.frame.layout (OfLevel n x) ≡ Some offset
      → slice_get (parameters_at ctx.stack.frame.layout.scope n) x ≡ Some (Address t) → is_there t ≡ true → HandedHere s n x offset t
  handed_here s m shared close n x offset t at typed there =
      let f = ctx.stack.frame in
      let up = out_of s m shared n (level_low f.layout.scope.procedures f.layout.scope.chain n x (Address t) (parameter_variable f.layout.scope n x (Address t) typed)) in
      let outline = outline_out s m shared n up in
      let same : locals_in up.to ≡ locals_at f.layout.scope n = ap locals_of outline in
      let one = handed_among ctx.activations h (f ∷ st.callers) st.bodies up.to shared.standing.handed up.among in
      let here = ap (λ (ts : List Shape). slice_get (offsets_from 4 ts) x) same ∙ at in
      let typed_here : slice_get (parameters_in up.to) x ≡ Some (Address t) = ap (λ (o : Option Outline). slice_get (parameters_of o) x) outline ∙ typed in
      let v = one.handed x offset t here typed_here there in
      let low = offset_low 4 (locals_in up.to) x offset (Address t) here (parameter_variable up.to.layout.scope 0 x (Address t) typed_here) in
      record {
        place = v.place;
        found = found_out s m shared close n x up v.its v.runs (At v.place) v.slot;
        first = up.to.at;
        shown = up.shown;
        own = v.own;
        word = v.word;
        seen = one.more v.place.root v.seen;
        living = v.living;
        low = omega (arith, low.1, frame_low h.owner st.base m.top f st.callers shared.standing.stands up.to up.among, shared.standing.low, shared.standing.high);
      }

  -- an open array that is a parameter is a place with the number of its last element, and words of its procedure's frame have both
  pub record OpenedHere (s : Source) (n x offset : ℕ) (t : Shape) : Type 0 where
    pub place : Place
    pub high : ℕ
    pub found : array_of s n x ≡ Some (place, high)
    pub first : ℕ
    pub shown : slice_get ctx.stack.frame.display n ≡ Some first
    pub own : h.owner (first + offset) ≡ Own
    pub own_high : h.owner (first + (offset + 1)) ≡ Own
    pub word : h.shadow (first + offset) ≡ address h place
    pub word_high : h.shadow (first + (offset + 1)) ≡ high
    pub seen : sees (frames_of ctx.stack) place.root ≡ true
    pub living : shape_there h place ≡ Row (suc high) t
    pub last : high ≤ 65535
    pub low : first + (offset + 1) ≤ 65535

  array_out : (s : Source) (m : State) → Shared ctx s m → current s.items ≡ ctx.stack.frame.activation → (n x : ℕ) (up : Climbs ctx.activations m.store ctx.stack.frame ctx.stack.callers n) (its : Activation) → slice_get ctx.activations up.to.activation ≡ Some its
      → (slot : Slot) → slice_get its.slots x ≡ Some slot → array_of s n x ≡ slot_array (Some slot)
  array_out s m shared close n x up its runs slot is =
      ap (λ (a : ℕ). local_array s.activations (level_out s.activations a n) x) close
      ∙ ap (λ (acts : List Activation). local_array acts (level_out acts ctx.stack.frame.activation n) x) shared.activations_are
      ∙ ap (λ (a : Option ℕ). local_array ctx.activations a x) up.level
      ∙ ap (λ (o : Option Activation). slot_array (slice_get (slots_of o) x)) runs
      ∙ ap slot_array is

  pub opened_here : (s : Source) (m : State) → Shared ctx s m → current s.items ≡ ctx.stack.frame.activation → (n x offset : ℕ) (copied : Bool) (t : Shape) → offset_at ctx.stack.frame.layout (OfLevel n x) ≡ Some offset
      → slice_get (parameters_at ctx.stack.frame.layout.scope n) x ≡ Some (Opened copied t) → is_there t ≡ true → OpenedHere s n x offset t
  opened_here s m shared close n x offset copied t at typed there =
      let f = ctx.stack.frame in
      let up = out_of s m shared n (level_low f.layout.scope.procedures f.layout.scope.chain n x (Opened copied t) (parameter_variable f.layout.scope n x (Opened copied t) typed)) in
      let outline = outline_out s m shared n up in
      let same : locals_in up.to ≡ locals_at f.layout.scope n = ap locals_of outline in
      let one = handed_among ctx.activations h (f ∷ st.callers) st.bodies up.to shared.standing.handed up.among in
      let here = ap (λ (ts : List Shape). slice_get (offsets_from 4 ts) x) same ∙ at in
      let typed_here : slice_get (parameters_in up.to) x ≡ Some (Opened copied t) = ap (λ (o : Option Outline). slice_get (parameters_of o) x) outline ∙ typed in
      let v = one.opened x offset copied t here typed_here there in
      let low = offset_low 4 (locals_in up.to) x offset (Opened copied t) here (parameter_variable up.to.layout.scope 0 x (Opened copied t) typed_here) in
      record {
        place = v.place;
        high = v.high;
        found = array_out s m shared close n x up v.its v.runs (Along v.place v.high) v.slot;
        first = up.to.at;
        shown = up.shown;
        own = v.own;
        own_high = v.own_high;
        word = v.word;
        word_high = v.word_high;
        seen = one.around v.place.root v.seen;
        living = v.living;
        last = v.low;
        low = omega (arith, low.1, frame_low h.owner st.base m.top f st.callers shared.standing.stands up.to up.among, shared.standing.low, shared.standing.high);
      }
