-- What is left stays where homes agree on what it speaks of: this carries rows and frames over every change of the machine's own words.
use Rattle.lil_meaning.specs.Items.{Under, alone}
use Rattle.lil_match.specs.Parts.{part_fits, word_long}
use Rattle.lil_match.specs.Homes.{IsWord}
use Rattle.std.proofs.Common.{◌≡◌, ℕ, zero, suc, ◌+◌, ◌<◌, ◌≤◌, inl, inr, true, eqb, List, [], ◌∷◌, ◌++◌, set, get_or, refl, sym, ap, ◌∙◌, subst, ⊎_elim, arith}
use Rattle.std.proofs.lemmas.{Bool.{ne_eqb}, Option.{none-some, same_Some}}
use Rattle.std.specs.Prelude.{Option, Some, None, slice_get}
use Rattle.lil_resolved.specs.{Kinds.{Workspaces, Kind, OfCharacter, OfSet, OfPointer, Scalar, within, Shape, Absent, Word, Row, Address, Opened, words as size, is_there, part_at, offset, element_of, all_words, offsets_from}, Resolved.{Resolved, Arguments, kind_of, shape_of}, Plain.parameter_variable}
use Rattle.lil_meaning.specs.Items.{Root, Global, Local, Object, Place, Datum, Scalars, Places, Wholes, Opens, Texts, Callee, callee_levels, Requested, Called, IndexAt, AlongAt, StoreAt, CopyFrom, ChangeAt, RightOf, MemberOf, MembersFrom, MembersTo, MemberAt, AllocateAt, Pass, PassPlace, PassAll, PassArray, Calling, LimitOf, Passing, Looping, Turns, Holding, End, Item, Value, Fill, Perform, Activation, Source}
use Rattle.lil_meaning.specs.Steps.{outer_of, surrounding}
use Rattle.lil_mcode.specs.Table.{Module, StackRegisters, State, stack_of}
use Rattle.lil_table.specs.Rows.{Layout, holding, Access, OnTop, loop_place}
use Rattle.lil_match.specs.{Parts.no, Homes.{word_for, word_kept, refers_kept, is_word_kept, Refers, plain_refers, takes_plain, Extends, extends_self, lives, address, shape_there, Owner, Own, Fixed, own_fixed, Home, mem_shadowed, shadowed, replaced}}
use Rattle.lil_match.specs.{Waits.{Mode, Quiet, ValueOf, AtPlace, Reach, AfterJumps, Onward, Part, Around, Frame, own_words, locals_in, top_of, outside, frames_of, Setting, at_home, renewed, inside_with, pushing, with_frames, ArrayOn, DatumOn, DataOn, IsLink, GivenAll, GivenWords, AllGiven, HasValue, Pending, CallingWaits, Resumed, AStatement, AValue, AreSaved, saved_words, sees, TurnsTask, Reaches, HasPlace, HasSet, needs, Behind, RowsOf, Rows}, Known.{known_kept, each_known, each_comes, sees_more, each_local}}
use Rattle.lil_match.specs.Goes.{OwnWords, Stands, Grows, Linked, Chained, HasHanded, HasOpened, EachHanded, EachComes, Standing, Shared, Touches}

-- the words that pending calls have put above the running frame stay
abbrev pub PushedKept : Home → Home → List Frame → Type 0
PushedKept h x [] = Unit {0}
PushedKept h x (f ∷ fs) = (i : ℕ) → i < f.pushed → x.shadow (f.at + (f.layout.frame + i)) ≡ h.shadow (f.at + (f.layout.frame + i))

-- homes that agree on the roots that live and that frames can name, and on the machine's own words from one place to another
pub record Keeps (h x : Home) (fs : List Frame) (low top : ℕ) : Type 0 where
  pub pushed : PushedKept h x fs
  pub shadow : (a : ℕ) → low ≤ a → a < top → x.shadow a ≡ h.shadow a
  pub base : (r : Root) → sees fs r ≡ true → lives h r ≡ true → x.base r ≡ h.base r
  pub shape : (r : Root) → sees fs r ≡ true → lives h r ≡ true → x.shape r ≡ h.shape r
  pub listed : x.listed ≡ h.listed
  pub workspaces : Extends x.workspaces h.workspaces

-- frames whose own words but their marks lie from a place on
abbrev pub EachAbove : ℕ → List Frame → Type 0
EachAbove low [] = Unit {0}
EachAbove low (f ∷ fs) = (low ≤ f.at + 4) × EachAbove low fs

pub keeps_under : (h x : Home) (f : Frame) (fs : List Frame) (low top less : ℕ) → less ≤ top → PushedKept h x fs → Keeps h x (f ∷ fs) low top → Keeps h x fs low less
keeps_under h x f fs low top less le pushed keeps = record {
  pushed = pushed;
  shadow = λ a from below. keeps.shadow a from (omega (arith, le, below));
  base = λ r e. keeps.base r (sees_more f fs r e);
  shape = λ r e. keeps.shape r (sees_more f fs r e);
  listed = keeps.listed;
  workspaces = keeps.workspaces;
}

pub keeps_lower : (h x : Home) (fs : List Frame) (low top less : ℕ) → less ≤ top → Keeps h x fs low top → Keeps h x fs low less
keeps_lower h x fs low top less le keeps =
    record { pushed = keeps.pushed; shadow = λ a from below. keeps.shadow a from (omega (arith, le, below)); base = keeps.base; shape = keeps.shape; listed = keeps.listed; workspaces = keeps.workspaces }

-- where something lies, its root lives
root_there : (t : Shape) (p : List ℕ) → is_there (part_at t p) ≡ true → is_there t ≡ true
root_there Absent [] e = e
root_there Absent (i ∷ p) e = e
root_there (Address to) [] e = e
root_there (Address to) (i ∷ p) e = e
root_there (Opened copied to) [] e = e
root_there (Opened copied to) (i ∷ p) e = e
root_there t p e = refl

pub place_lives : (h : Home) (place : Place) (t : Shape) → shape_there h place ≡ t → is_there t ≡ true → lives h place.root ≡ true
place_lives h place t living there = by place.root (ap is_there living ∙ there)
  where
    by : (r : Root) → is_there (part_at (h.shape r) place.path) ≡ true → lives h r ≡ true
    by (Global m x) e = refl
    by (Local a x) e = root_there (h.shape (Local a x)) place.path e
    by (Object o) e = root_there (h.shape (Object o)) place.path e

-- a part that is met in another home, and leads to the same
pub record IsMet (w v : Part) (r : w.Here) : Type 0 where
  pub part : v.Here
  pub onto : w.onto r ≡ v.onto part

module _ (ctx : Setting) (acts : List Activation) (x : Home) (n low top : ℕ) (keeps : Keeps ctx.home x (frames_of ctx.stack) low top) where
  open ctx use {home as h}

  place_kept : (b : Access) (place : Place) (t : Shape) (stack below : List ℕ) → HasPlace ctx b place t stack below → HasPlace (renewed ctx acts x n) b place t stack below
  place_kept b place t stack below r =
      let alive = place_lives h place t r.living r.there in
      let same = keeps.shape place.root r.seen alive in
      let at : address h place ≡ address x place = omega (arith, keeps.base place.root r.seen alive, ap (λ (t : Shape). offset t place.path) same) in
      record {
        seen = r.seen;
        living = ap (λ (t : Shape). part_at t place.path) same ∙ r.living;
        there = r.there;
        at = subst (λ (a : ℕ). Reaches ctx.stack.frame.own.base ctx.stack.frame.display b a stack below) at r.at;
      }

  -- the word of a value, and what it refers to
  word : (k : Kind) (v : Scalar) → within k v ≡ true → Refers h k v → word_for h v ≡ word_for x v
  word = word_kept h x (λ o e. keeps.base (Object o) refl e) (λ o e. keeps.shape (Object o) refl e) keeps.listed keeps.workspaces

  refers : (k : Kind) (v : Scalar) → Refers h k v → Refers x k v
  refers = refers_kept h x (λ o e. keeps.base (Object o) refl e) (λ o e. keeps.shape (Object o) refl e) keeps.listed keeps.workspaces

  set_kept : (u : Scalar) (stack below : List ℕ) → HasSet ctx u stack below → HasSet (renewed ctx acts x n) u stack below
  set_kept u stack below r = record { fits = r.fits; is = r.is ∙ ap (λ (w : ℕ). w ∷ below) (word OfSet u r.fits tt) }

  array_kept : (t : Shape) (place : Place) (high : ℕ) (stack below : List ℕ) → ArrayOn ctx t place high stack below → ArrayOn (renewed ctx acts x n) t place high stack below
  array_kept t place high stack below r =
      let has = place_kept OnTop place (Row (suc high) t) (address h place ∷ below) below r.has in
      record { has = record { seen = has.seen; living = has.living; there = has.there; at = refl }; low = r.low; is = r.is ∙ ap (λ (s : List ℕ). high ∷ s) has.at }

  datum_kept : (d : Datum) (stack below : List ℕ) → DatumOn ctx d stack below → DatumOn (renewed ctx acts x n) d stack below
  datum_kept (Scalars v) stack below r = r
  datum_kept (Opens place high) stack below r = array_kept (Word OfCharacter) place high stack below r
  datum_kept (Texts cs) stack below r = record { offset = r.offset; text = r.text; is = r.is }
  datum_kept (Places place) stack below r = absurd r
  datum_kept (Wholes u) stack below r = absurd r

  data_kept : (ds : List Datum) (stack below : List ℕ) → DataOn ctx ds stack below → DataOn (renewed ctx acts x n) ds stack below
  data_kept [] stack below r = r
  data_kept (d ∷ ds) stack below r = (r.0, datum_kept d r.0 below r.1, data_kept ds stack r.0 r.2)

  -- what was given for a parameter
  under_given : (t : Shape) (u : Under) (at : ℕ) → ((i : ℕ) → i < size t → x.shadow (at + i) ≡ h.shadow (at + i)) → GivenAll ctx t u at → GivenAll (renewed ctx acts x n) t u at
  under_given t u at same r = record {
    there = r.there;
    cells = λ q k is.
        let small : offset t q < size t = omega (arith, part_fits t q (ap is_there is), word_long (part_at t q) k is) in
        subst (IsWord x k (u q)) (sym (same (offset t q) small))
        (is_word_kept h x (λ o e. keeps.base (Object o) refl e) (λ o e. keeps.shape (Object o) refl e) keeps.listed keeps.workspaces k (u q) (h.shadow (at + offset t q)) (r.cells q k is));
  }

  pub words_given : (t : Shape) (d : Datum) (at : ℕ) → ((i : ℕ) → i < size t → x.shadow (at + i) ≡ h.shadow (at + i)) → GivenWords ctx t d at → GivenWords (renewed ctx acts x n) t d at
  words_given t (Scalars v) at same r = under_given t (alone v) at same r
  words_given t (Wholes u) at same r = under_given t u at same r
  words_given t (Places place) at same r =
      let alive = place_lives h place r.to r.living r.there in
      let kept = keeps.shape place.root r.seen alive in
      let moved : address h place ≡ address x place = omega (arith, keeps.base place.root r.seen alive, ap (λ (t : Shape). offset t place.path) kept) in
      let first : x.shadow at ≡ h.shadow at = ap x.shadow (let e : at ≡ at + 0 = omega arith in e) ∙ same 0 (omega (arith, ap size r.is)) ∙ ap h.shadow (let e : at + 0 ≡ at = omega arith in e) in
      record { to = r.to; is = r.is; seen = r.seen; living = ap (λ (t : Shape). part_at t place.path) kept ∙ r.living; there = r.there; word = first ∙ r.word ∙ moved }
  words_given t (Opens place high) at same r =
      let alive = place_lives h place (Row (suc high) r.to) r.living refl in
      let kept = keeps.shape place.root r.seen alive in
      let moved : address h place ≡ address x place = omega (arith, keeps.base place.root r.seen alive, ap (λ (t : Shape). offset t place.path) kept) in
      let first : x.shadow at ≡ h.shadow at = ap x.shadow (let e : at ≡ at + 0 = omega arith in e) ∙ same 0 (omega (arith, ap size r.is)) ∙ ap h.shadow (let e : at + 0 ≡ at = omega arith in e) in
      record { copied = r.copied; to = r.to; is = r.is; seen = r.seen; living = ap (λ (t : Shape). part_at t place.path) kept ∙ r.living; there = r.there; low = r.low; word = first ∙ r.word ∙ moved; word_high = same 1 (omega (arith, ap size r.is)) ∙ r.word_high }
  words_given t (Texts cs) at same r =
      let first : x.shadow at ≡ h.shadow at = ap x.shadow (let e : at ≡ at + 0 = omega arith in e) ∙ same 0 (omega (arith, ap size r.is)) ∙ ap h.shadow (let e : at + 0 ≡ at = omega arith in e) in
      record { is = r.is; offset = r.offset; text = r.text; word = first ∙ r.word; word_high = same 1 (omega (arith, ap size r.is)) ∙ r.word_high }

  pub all_given : (ts : List Shape) (ds : List Datum) (at : ℕ) → ((i : ℕ) → i < all_words ts → x.shadow (at + i) ≡ h.shadow (at + i)) → AllGiven ctx ts ds at → AllGiven (renewed ctx acts x n) ts ds at
  all_given [] [] at same r = r
  all_given (t ∷ ts) (d ∷ ds) at same r = (
    words_given t d at (λ i less. same i (omega (arith, less))) r.0,
    all_given ts ds (at + size t) (λ i less. let e : at + size t + i ≡ at + (size t + i) = omega arith in ap x.shadow e ∙ same (size t + i) (omega (arith, less)) ∙ ap h.shadow (sym e)) r.1,
  )
  all_given ts ds at same r = absurd r

  met : (t : Mode) (i : Item) (p : ℕ) (stack : List ℕ) (a : Around) → (r : (needs ctx t i p stack a).Here) → IsMet (needs ctx t i p stack a) (needs (renewed ctx acts x n) t i p stack a) r
  met Quiet (Value (Scalars v)) p stack a r =
      record {
        part = record { kind = r.kind; fits = r.fits; refers = refers r.kind v r.refers; below = r.below; is = r.is ∙ ap (λ (w : ℕ). w ∷ r.below) (word r.kind v r.fits r.refers) };
        onto = refl;
      }
  met Quiet (Value (Places place)) p stack a r =
      record { part = record { of = r.of; below = r.below; has = place_kept _ place _ stack r.below r.has }; onto = refl }
  met (ValueOf j) (Fill (IndexAt place k)) p stack a r =
      record { part = record { of = r.of; index = r.index; same = r.same; from = r.from; below = r.below; did = r.did; at = r.at; has = place_kept OnTop place _ stack r.below r.has }; onto = refl }
  met (ValueOf j) (Fill (AlongAt place high)) p stack a r =
      record { part = record { n = r.n; x = r.x; index = r.index; same = r.same; from = r.from; below = r.below; did = r.did; at = r.at; on = array_kept r.did.here.opened.element place high stack r.below r.on }; onto = refl }
  met (AtPlace d) (Fill (CopyFrom to)) p stack a r =
      record { part = record { of = r.of; amid = r.amid; has = place_kept OnTop to _ stack [] r.has }; onto = refl }
  met (ValueOf j) (Fill (MemberAt out place k)) p stack a r =
      record { part = record { of = r.of; value = r.value; same = r.same; amid = r.amid; has = place_kept OnTop place (Word OfSet) stack [] r.has }; onto = refl }
  met (ValueOf j) (Fill (AllocateAt back place)) p stack a r =
      record { part = record { of = r.of; value = r.value; same = r.same; amid = r.amid; has = place_kept OnTop place (Word (OfPointer Workspaces)) stack [] r.has }; onto = refl }
  met (ValueOf j) (Fill (MemberOf u k)) p stack a r =
      record { part = record { to = r.to; below = r.below; row = r.row; set = set_kept u stack r.below r.set }; onto = refl }
  met (ValueOf j) (Fill (MembersFrom u k f)) p stack a r =
      record { part = record { to = r.to; below = r.below; row = r.row; set = set_kept u stack r.below r.set }; onto = refl }
  met (ValueOf j) (Fill (MembersTo u k v)) p stack a r =
      record {
        part = record {
          to = r.to;
          first = r.first;
          below = r.below;
          row = r.row;
          low_fits = r.low_fits;
          under = r.under;
          is = r.is ∙ ap (λ (w : ℕ). w ∷ r.under) (word k v r.low_fits (plain_refers h k v (takes_plain k _ r.row.did.here.takes_last).0));
          set = set_kept u r.under r.below r.set;
        };
        onto = refl;
      }
  met (ValueOf j) (Fill (RightOf o k u)) p stack a r =
      record { part = record { left = r.left; below = r.below; row = r.row; fits = r.fits; refers = refers k u r.refers; is = r.is ∙ ap (λ (w : ℕ). w ∷ r.below) (word k u r.fits r.refers) }; onto = refl }
  met (ValueOf j) (Fill (StoreAt place k)) p stack a r =
      record { part = record { of = r.of; value = r.value; same = r.same; amid = r.amid; has = place_kept _ place (Word k) stack [] r.has }; onto = refl }
  met (ValueOf j) (Fill (ChangeAt down place k)) p stack a r =
      record { part = record { of = r.of; value = r.value; same = r.same; amid = r.amid; once = r.once; has = place_kept _ place (Word k) r.once [] r.has; twice = r.twice }; onto = refl }
  met (ValueOf j) (Fill (LimitOf i k v step body)) p stack a r =
      let from : Kind = kind_of r.first in
      let plain = plain_refers h from v (takes_plain k from r.row.did.here.takes).1 in
      record { part = record { first = r.first; row = r.row; fits = r.fits; is = r.is ∙ ap (λ (w : ℕ). w ∷ []) (word from v r.fits plain) }; onto = refl }
  met (ValueOf j) (Fill (Pass (Requested q) k done left)) p stack a r =
      record { part = record { takes = r.takes; on = data_kept done stack [] r.on; tested = r.tested; test = r.test; rest = r.rest }; onto = refl }
  met (AtPlace d) (Fill (PassArray (Requested q) high done left)) p stack a r =
      record {
        part = record { rows = r.rows; low = r.low; room = r.room; on = data_kept done stack [] r.on; start = r.start; last = r.last; address = r.address; by = r.by; rest = r.rest };
        onto = refl;
      }
  met Quiet (Perform (Passing (Requested q) done left)) p stack a r =
      record { part = record { on = data_kept done stack [] r.on; rest = r.rest }; onto = refl }
  met t i p stack a r = record { part = r; onto = refl }

-- the roots that frames can name don't hang on a layout
pub sees_laid : (f : Frame) (l : Layout) (fs : List Frame) (r : Root) → sees (record f { layout = l } ∷ fs) r ≡ sees (f ∷ fs) r
sees_laid f l fs (Global m x) = refl
sees_laid f l fs (Local a x) = refl
sees_laid f l fs (Object o) = refl

-- homes that agree inside of a WITH agree around it, and on less
keeps_around : (ctx before : Setting) (x : Home) (shape : Shape) (n low top less : ℕ) → ctx ≡ inside_with before shape n → less ≤ top → Keeps ctx.home x (frames_of ctx.stack) low top
    → Keeps before.home x (frames_of before.stack) low less
keeps_around ctx before x shape n low top less is le keeps =
    let inner = subst (λ (c : Setting). Keeps c.home x (frames_of c.stack) low top) is keeps in
    let same = sees_laid before.stack.frame (holding before.stack.frame.layout shape n) (before.stack.callers ++ before.stack.bodies) in
    record {
      pushed = inner.pushed;
      shadow = λ a from below. inner.shadow a from (omega (arith, le, below));
      base = λ r e. inner.base r (same r ∙ e);
      shape = λ r e. inner.shape r (same r ∙ e);
      listed = inner.listed;
      workspaces = inner.workspaces;
    }

-- the roots that frames can name don't hang on what is pushed
pub sees_pushed : (f : Frame) (n : ℕ) (fs : List Frame) (r : Root) → sees (record f { pushed = n } ∷ fs) r ≡ sees (f ∷ fs) r
sees_pushed f n fs (Global m x) = refl
sees_pushed f n fs (Local a x) = refl
sees_pushed f n fs (Object o) = refl

-- homes that agree during a call's arguments agree around it
keeps_before : (ctx before : Setting) (x : Home) (more low top : ℕ) → ctx ≡ pushing before more → Keeps ctx.home x (frames_of ctx.stack) low (ctx.stack.frame.at + top) → Keeps before.home x (frames_of before.stack) low (before.stack.frame.at + top)
keeps_before ctx before x more low top is keeps =
    let inner = subst (λ (c : Setting). Keeps c.home x (frames_of c.stack) low (c.stack.frame.at + top)) is keeps in
    let same = sees_pushed before.stack.frame (more + before.stack.frame.pushed) (before.stack.callers ++ before.stack.bodies) in
    record {
      pushed = λ i less. inner.pushed i (omega (arith, less));
      shadow = inner.shadow;
      base = λ r e. inner.base r (same r ∙ e);
      shape = λ r e. inner.shape r (same r ∙ e);
      listed = inner.listed;
      workspaces = inner.workspaces;
    }

-- and where fewer words are pushed
pub keeps_fewer : (h x : Home) (f : Frame) (n : ℕ) (fs : List Frame) (low top : ℕ) → n ≤ f.pushed → Keeps h x (f ∷ fs) low top → Keeps h x (record f { pushed = n } ∷ fs) low top
keeps_fewer h x f n fs low top fewer keeps = record {
  pushed = λ i less. keeps.pushed i (omega (arith, less, fewer));
  shadow = keeps.shadow;
  base = λ r e. keeps.base r (sym (sees_pushed f n fs r) ∙ e);
  shape = λ r e. keeps.shape r (sym (sees_pushed f n fs r) ∙ e);
  listed = keeps.listed;
  workspaces = keeps.workspaces;
}

-- what the rows of items give in another home
abbrev pub Stays : List Item → Setting → List Activation → Home → (limit low : ℕ) → Type 0
Stays k ctx acts x n low =
    (t : Mode) (p : ℕ) (stack : List ℕ) (c : ℕ) (a : Around) → Keeps ctx.home x (frames_of ctx.stack) low (ctx.stack.frame.at + loop_place a.taken)
    → Rows ctx k t p stack c a → Rows (renewed ctx acts x n) k t p stack c a

abbrev pub Again : List Item → Setting → List Activation → Home → (limit low : ℕ) → Type 0
Again k ctx acts x n low = EachAbove low (frames_of ctx.stack) → Stays k ctx acts x n low

-- saved words stay where all words there do
pub saved_kept : (old new : ℕ → ℕ) (r : Resumed) (at : ℕ) → ((i : ℕ) → i < saved_words r → new (at + i) ≡ old (at + i)) → AreSaved old r at → AreSaved new r at
saved_kept old new AStatement at same saved = tt
saved_kept old new (AValue k ws) at same saved = (saved.0, λ i less. same i less ∙ saved.1 i less)

behind_kept : (k : List Item) (acts : List Activation) (rows : (ctx : Setting) (x : Home) (n low : ℕ) → Again k ctx acts x n low) (ctx : Setting) (x : Home) (n low c : ℕ) → EachAbove low (frames_of ctx.stack)
    → Keeps ctx.home x (frames_of ctx.stack) low (ctx.stack.frame.at + 4) → Behind ctx k (RowsOf k) c ctx.stack.callers ctx.stack.bodies
    → Behind (renewed ctx acts x n) k (RowsOf k) c ctx.stack.callers ctx.stack.bodies
behind_kept k acts rows ctx x n low c above keeps r = by ctx.stack.callers ctx.stack.bodies above keeps r
  where
    by : (gs bs : List Frame) → EachAbove low (ctx.stack.frame ∷ (gs ++ bs)) → Keeps ctx.home x (ctx.stack.frame ∷ (gs ++ bs)) low (ctx.stack.frame.at + 4) → Behind ctx k (RowsOf k) c gs bs
        → Behind (renewed ctx acts x n) k (RowsOf k) c gs bs
    by (g ∷ gs) bs above keeps r =
        let from : low ≤ ctx.stack.frame.at + 1 = omega (arith, r.under, above.1.0) in
        record {
          before = r.before;
          called = r.called;
          resumed = r.resumed;
          returns = r.returns;
          under_saved = r.under_saved;
          pushed_is = r.pushed_is;
          saved = saved_kept ctx.home.shadow x.shadow r.resumed (g.at + (g.layout.frame + r.under_saved))
              (λ i less. let e : g.at + (g.layout.frame + r.under_saved) + i ≡ g.at + (g.layout.frame + (r.under_saved + i)) = omega arith in ap x.shadow e ∙ keeps.shadow (g.at + (g.layout.frame + (r.under_saved + i))) (omega (arith, above.1.0, r.mark)) (omega (arith, less, r.pushed, r.pushed_is)) ∙ ap ctx.home.shadow (sym e)) r.saved;
          after = r.after;
          restore = r.restore;
          within = r.within;
          outer = r.outer;
          under = r.under;
          mark = r.mark;
          pushed = r.pushed;
          frame = keeps.shadow (ctx.stack.frame.at + 1) from (omega arith) ∙ r.frame;
          place = keeps.shadow (ctx.stack.frame.at + 2) (omega (arith, from)) (omega arith) ∙ r.place;
          module' = keeps.shadow (ctx.stack.frame.at + 3) (omega (arith, from)) (omega arith) ∙ r.module';
          then = rows (with_frames ctx (record g { pushed = r.under_saved }) gs bs) x n low above.1 _ r.after _ c r.outer
              (keeps_fewer ctx.home x g r.under_saved (gs ++ bs) low (g.at + loop_place r.outer.taken) (omega (arith, r.pushed_is))
              (keeps_under ctx.home x ctx.stack.frame (g ∷ (gs ++ bs)) low (ctx.stack.frame.at + 4) (g.at + loop_place r.outer.taken) (omega (arith, r.under))
              (λ i less. keeps.shadow (g.at + (g.layout.frame + i)) (omega (arith, above.1.0, r.mark)) (omega (arith, less, r.pushed))) keeps)) r.then;
        }
    by [] (b ∷ bs) above keeps r =
        record {
          body = r.body;
          low = r.low;
          plain = r.plain;
          bare = r.bare;
          idle = r.idle;
          start = r.start;
          enter = r.enter;
          then = rows (with_frames ctx b [] bs) x n low above.1 Quiet r.start [] c (outside b)
              (keeps_under ctx.home x ctx.stack.frame (b ∷ bs) low (ctx.stack.frame.at + 4) (b.at + loop_place (own_words b)) (omega (arith, r.low, r.bare)) (λ i less. absurd (omega (arith, less, r.idle))) keeps) r.then;
        }
    by [] [] above keeps r = r

pub pending_kept : (k : List Item) (acts : List Activation) (rows : (ctx : Setting) (x : Home) (n low : ℕ) → Again k ctx acts x n low) (ctx : Setting) (x : Home) (n low : ℕ) → EachAbove low (frames_of ctx.stack)
    → (q : Callee) (done : List Datum) (next : List Shape) (left : Arguments) (p c : ℕ) (a : Around) → Keeps ctx.home x (frames_of ctx.stack) low (ctx.stack.frame.at + loop_place a.taken)
    → Pending ctx q done next left (RowsOf k) p c a → Pending (renewed ctx acts x n) q done next left (RowsOf k) p c a
pending_kept k acts rows ctx x n low above q done next left p c a keeps w =
    let top : ℕ = top_of w.before.stack.frame in
    let under : ℕ = w.before.stack.frame.pushed in
    let below : ℕ = saved_words w.resumed in
    let same : (i : ℕ) → i < below + (4 + all_words w.shapes) → x.shadow (top + i) ≡ ctx.home.shadow (top + i) =
    λ i less.
    let e : top + i ≡ ctx.stack.frame.at + (ctx.stack.frame.layout.frame + (under + i)) =
    omega (arith, ap (λ (c : Setting). c.stack.frame.at) w.is, ap (λ (c : Setting). c.stack.frame.layout.frame) w.is) in
    ap x.shadow e ∙ keeps.pushed (under + i) (omega (arith, less, ap (λ (c : Setting). c.stack.frame.pushed) w.is)) ∙ ap ctx.home.shadow (sym e) in
    record {
      before = renewed w.before acts x n;
      shapes = w.shapes;
      resumed = w.resumed;
      is = ap (λ (c : Setting). renewed c acts x n) w.is;
      saved = saved_kept ctx.home.shadow x.shadow w.resumed top (λ i less. same i (omega (arith, less))) w.saved;
      outer = w.outer;
      around = w.around;
      later = w.later;
      count = w.count;
      may = w.may;
      here = w.here;
      returns = w.returns;
      takes = w.takes;
      room = w.room;
      link = subst (IsLink ctx.stack.frame.display (callee_levels q)) (sym (same below (omega arith))) w.link;
      value = subst (HasValue q) (sym (let e : top + below + 3 ≡ top + (below + 3) = omega arith in ap x.shadow e ∙ same (below + 3) (omega arith) ∙ ap ctx.home.shadow (sym e))) w.value;
      given = all_given ctx acts x n low (ctx.stack.frame.at + loop_place a.taken) keeps w.shapes done (top + below + 4)
          (λ i less. let e : top + below + 4 + i ≡ top + (below + (4 + i)) = omega arith in ap x.shadow e ∙ same (below + (4 + i)) (omega (arith, less)) ∙ ap ctx.home.shadow (sym e)) w.given;
      middle = w.middle;
      arguments = w.arguments;
      end = w.end;
      call = w.call;
      after = w.after;
      restore = w.restore;
      within = w.within;
      then = rows w.before x n low (subst (λ (c : Setting). EachAbove low (frames_of c.stack)) w.is above) _ w.after _ w.later w.outer
          (subst (λ (t : ℕ). Keeps w.before.home x (frames_of w.before.stack) low (w.before.stack.frame.at + loop_place t)) (ap (λ (o : Around). o.taken) w.around)
          (keeps_before ctx w.before x (below + (4 + all_words w.shapes)) low (loop_place a.taken) w.is keeps))
          w.then;
    }

-- so does what waits for the value of what is called
calling_kept : (k : List Item) (acts : List Activation) (rows : (ctx : Setting) (x : Home) (n low : ℕ) → Again k ctx acts x n low) (ctx : Setting) (x : Home) (n low : ℕ) → EachAbove low (frames_of ctx.stack)
    → (given : Arguments) (t : Mode) (p : ℕ) (stack : List ℕ) (c : ℕ) (a : Around) → Keeps ctx.home x (frames_of ctx.stack) low (ctx.stack.frame.at + loop_place a.taken)
    → CallingWaits ctx given (RowsOf k) t p stack c a → CallingWaits (renewed ctx acts x n) given (RowsOf k) t p stack c a
calling_kept k acts rows ctx x n low above given t p stack c a keeps w =
    let top : ℕ = top_of w.before.stack.frame in
    let under : ℕ = w.before.stack.frame.pushed in
    let same : (i : ℕ) → i < saved_words w.resumed → x.shadow (top + i) ≡ ctx.home.shadow (top + i) =
    λ i less.
    let e : top + i ≡ ctx.stack.frame.at + (ctx.stack.frame.layout.frame + (under + i)) =
    omega (arith, ap (λ (c : Setting). c.stack.frame.at) w.is, ap (λ (c : Setting). c.stack.frame.layout.frame) w.is) in
    ap x.shadow e ∙ keeps.pushed (under + i) (omega (arith, less, ap (λ (c : Setting). c.stack.frame.pushed) w.is)) ∙ ap ctx.home.shadow (sym e) in
    record {
      kind = w.kind;
      mode = w.mode;
      empty = w.empty;
      before = renewed w.before acts x n;
      resumed = w.resumed;
      is = ap (λ (c : Setting). renewed c acts x n) w.is;
      saved = saved_kept ctx.home.shadow x.shadow w.resumed top same w.saved;
      outer = w.outer;
      around = w.around;
      end = w.end;
      here = w.here;
      after = w.after;
      restore = w.restore;
      within = w.within;
      then = rows w.before x n low (subst (λ (c : Setting). EachAbove low (frames_of c.stack)) w.is above) _ w.after _ c w.outer
          (subst (λ (t : ℕ). Keeps w.before.home x (frames_of w.before.stack) low (w.before.stack.frame.at + loop_place t)) (ap (λ (o : Around). o.taken) w.around)
          (keeps_before ctx w.before x (saved_words w.resumed) low (loop_place a.taken) w.is keeps))
          w.then;
    }

-- the jumps before a row are those before another one
jumps_same : (code : List ℕ) (row other : Reach) (t : Mode) (p : ℕ) (stack : List ℕ) (c : ℕ) (a : Around) (r : AfterJumps code row t p stack c a) → other t r.start stack r.later a → AfterJumps code other t p stack c a
jumps_same code row other t p stack c a r there = record { start = r.start; jumps = r.jumps; later = r.later; way = r.way; there = there; count = r.count }

-- THE law of what is left to do
pub rows_renewed : (k : List Item) (ctx : Setting) (acts : List Activation) (x : Home) (n low : ℕ) → Again k ctx acts x n low
rows_renewed [] ctx acts x n low above t p stack c a keeps r = absurd r
rows_renewed (Perform (Looping body) ∷ k) ctx acts x n low above t p stack c a keeps r =
    let w = r.there in
    jumps_same ctx.stack.frame.piece _ _ t p stack c a r (record {
      quiet = w.quiet;
      empty = w.empty;
      outer = w.outer;
      top = w.top;
      end = w.end;
      is = w.is;
      back = w.back;
      again = w.again;
      within = w.within;
      then = rows_renewed k ctx acts x n low above Quiet w.end [] r.later w.outer
          (keeps_lower ctx.home x (frames_of ctx.stack) low (ctx.stack.frame.at + loop_place a.taken) (ctx.stack.frame.at + loop_place w.outer.taken) (omega (arith, ap (λ (o : Around). o.taken) w.is)) keeps)
          w.then;
    })
rows_renewed (Perform (Turns v kind z step left body) ∷ k) ctx acts x n low above t p stack c a keeps r =
    jumps_same ctx.stack.frame.piece _ _ t p stack c a r (by (rows_renewed k ctx acts x n low above) r.there)
  where
    at : ℕ
    at = ctx.stack.frame.at

    by : Stays k ctx acts x n low → TurnsTask ctx v kind z step left body (Rows ctx k) t r.start stack r.later a
        → TurnsTask (renewed ctx acts x n) v kind z step left body (Rows (renewed ctx acts x n) k) t r.start stack r.later a
    by rest (inl w) = inl (record {
      quiet = w.quiet;
      from = w.from;
      takes = w.takes;
      limit = w.limit;
      fits = w.fits;
      limit_fits = w.limit_fits;
      stack_is = w.stack_is;
      count = w.count;
      end = w.end;
      turns = w.turns;
      within = w.within;
      then = rest Quiet w.end [] r.later a keeps w.then;
    })
    by rest (inr w) =
        let inner : a.taken ≡ 3 + w.outer.taken = ap (λ (o : Around). o.taken) w.around in
        let word : (i : ℕ) → i < 3 → x.shadow (ctx.stack.frame.at + loop_place w.outer.taken + i) ≡ ctx.home.shadow (ctx.stack.frame.at + loop_place w.outer.taken + i) =
        λ i less. keeps.shadow (ctx.stack.frame.at + loop_place w.outer.taken + i) (omega (arith, above.0)) (omega (arith, inner, less)) in
        inr (record {
          quiet = w.quiet;
          empty = w.empty;
          outer = w.outer;
          around = w.around;
          words = record {
            now = w.words.now;
            now_is = keeps.shadow (ctx.stack.frame.at + loop_place w.outer.taken) (omega (arith, above.0)) (omega (arith, inner)) ∙ w.words.now_is;
            left_is = word 1 (omega arith) ∙ w.words.left_is;
            step_is = word 2 (omega arith) ∙ w.words.step_is;
          };
          small = w.small;
          next_is = w.next_is;
          fit = w.fit;
          turn = w.turn;
          end = w.end;
          round = w.round;
          at = w.at;
          within = w.within;
          then = rest Quiet w.end [] r.later w.outer
              (keeps_lower ctx.home x (frames_of ctx.stack) low (ctx.stack.frame.at + loop_place a.taken) (ctx.stack.frame.at + loop_place w.outer.taken) (omega (arith, inner)) keeps)
              w.then;
        })
rows_renewed (Perform (Holding place) ∷ k) ctx acts x n low above t p stack c a keeps r =
    let w = r.there in
    let inner : a.taken ≡ suc w.outer.taken = ap (λ (o : Around). o.taken) w.around in
    let alive = place_lives ctx.home place w.shape w.living w.there in
    let same = keeps.shape place.root w.seen alive in
    let at : address ctx.home place ≡ address x place = omega (arith, keeps.base place.root w.seen alive, ap (λ (t : Shape). offset t place.path) same) in
    let outer : EachAbove low (frames_of w.before.stack) = subst (λ (c : Setting). EachAbove low (frames_of c.stack)) w.is above in
    let frame : ctx.stack.frame.at ≡ w.before.stack.frame.at = ap (λ (c : Setting). c.stack.frame.at) w.is in
    jumps_same ctx.stack.frame.piece _ _ t p stack c a r (record {
      quiet = w.quiet;
      empty = w.empty;
      outer = w.outer;
      around = w.around;
      before = renewed w.before acts x n;
      shape = w.shape;
      is = ap (λ (c : Setting). renewed c acts x n) w.is;
      room = w.room;
      seen = w.seen;
      living = ap (λ (t : Shape). part_at t place.path) same ∙ w.living;
      there = w.there;
      word = keeps.shadow (ctx.stack.frame.at + loop_place w.outer.taken) (omega (arith, above.0)) (omega (arith, inner)) ∙ w.word ∙ at;
      then = rows_renewed k w.before acts x n low outer Quiet r.start [] r.later w.outer
          (keeps_around ctx w.before x w.shape (loop_place w.outer.taken) low (ctx.stack.frame.at + loop_place a.taken) (w.before.stack.frame.at + loop_place w.outer.taken) w.is
          (omega (arith, inner, frame)) keeps)
          w.then;
    })
rows_renewed (Perform (End e) ∷ k) ctx acts x n low above t p stack c a keeps r =
    let w = r.there in
    jumps_same ctx.stack.frame.piece _ _ t p stack c a r (record {
      quiet = w.quiet;
      empty = w.empty;
      activation = w.activation;
      alone = w.alone;
      free = w.free;
      idle = w.idle;
      end = w.end;
      leave = w.leave;
      behind = behind_kept k acts (λ y z i l. rows_renewed k y acts z i l) ctx x n low r.later above
          (keeps_lower ctx.home x (frames_of ctx.stack) low (ctx.stack.frame.at + loop_place a.taken) (ctx.stack.frame.at + 4) (omega arith) keeps) w.behind;
    })
rows_renewed (Fill (Pass (Called q) kind done left) ∷ k) ctx acts x n low above t p stack c a keeps r =
    let w = r.there in
    jumps_same ctx.stack.frame.piece _ _ t p stack c a r (record {
      from = w.from;
      mode = w.mode;
      empty = w.empty;
      stores = w.stores;
      tested = w.tested;
      test = w.test;
      start = w.start;
      push = w.push;
      pending = pending_kept k acts (λ y z i l. rows_renewed k y acts z i l) ctx x n low above q done (Word kind ∷ []) left w.start r.later a keeps w.pending;
    })
rows_renewed (Fill (Calling given) ∷ k) ctx acts x n low above t p stack c a keeps r =
    let w = r.there in
    jumps_same ctx.stack.frame.piece _ _ t p stack c a r (calling_kept k acts (λ y z i l. rows_renewed k y acts z i l) ctx x n low above given t r.start stack r.later a keeps w)
rows_renewed (Fill (PassPlace (Called q) done left) ∷ k) ctx acts x n low above t p stack c a keeps r =
    let w = r.there in
    jumps_same ctx.stack.frame.piece _ _ t p stack c a r (record {
      of = w.of;
      mode = w.mode;
      empty = w.empty;
      tested = w.tested;
      address = w.address;
      start = w.start;
      push = w.push;
      pending = pending_kept k acts (λ y z i l. rows_renewed k y acts z i l) ctx x n low above q done (Address (shape_of ctx.stack.frame.layout.scope w.of) ∷ []) left w.start r.later a keeps w.pending;
    })
rows_renewed (Fill (PassAll (Called q) done left) ∷ k) ctx acts x n low above t p stack c a keeps r =
    let w = r.there in
    jumps_same ctx.stack.frame.piece _ _ t p stack c a r (record {
      of = w.of;
      mode = w.mode;
      empty = w.empty;
      tested = w.tested;
      address = w.address;
      start = w.start;
      push = w.push;
      pending = pending_kept k acts (λ y z i l. rows_renewed k y acts z i l) ctx x n low above q done (shape_of ctx.stack.frame.layout.scope w.of ∷ []) left w.start r.later a keeps w.pending;
    })
rows_renewed (Fill (PassArray (Called q) high done left) ∷ k) ctx acts x n low above t p stack c a keeps r =
    let w = r.there in
    jumps_same ctx.stack.frame.piece _ _ t p stack c a r (record {
      of = w.of;
      mode = w.mode;
      empty = w.empty;
      rows = w.rows;
      there = w.there;
      low = w.low;
      tested = w.tested;
      address = w.address;
      first = w.first;
      by = w.by;
      start = w.start;
      push = w.push;
      copied = w.copied;
      pending = pending_kept k acts (λ y z i l. rows_renewed k y acts z i l) ctx x n low above q done (Opened w.copied (element_of (shape_of ctx.stack.frame.layout.scope w.of)) ∷ []) left w.start r.later a keeps w.pending;
    })
rows_renewed (i ∷ k) ctx acts x n low above t p stack c a keeps r =
    let m = met ctx acts x n low (ctx.stack.frame.at + loop_place a.taken) keeps t i r.start stack a r.there.part in
    jumps_same ctx.stack.frame.piece _ _ t p stack c a r (record {
      part = m.part;
      then = subst (λ (o : Onward). Rows (renewed ctx acts x n) k o.mode o.place o.stack r.later a) m.onto
          (rows_renewed k ctx acts x n low above _ _ _ r.later a keeps r.there.then);
    })

-- the same with the same activations
pub rows_kept : (k : List Item) (ctx : Setting) (x : Home) (n low : ℕ) → Again k ctx (ctx.activations) x n low
rows_kept k ctx x n low = rows_renewed k ctx (ctx.activations) x n low

-- ---- frames
pub first_words : (owner : ℕ → Owner) (base top : ℕ) (f : Frame) (gs : List Frame) → Stands owner base top f gs → OwnWords owner f top
first_words owner base top f [] s = s.0
first_words owner base top f (g ∷ gs) s = s.0

pub stands_above : (owner : ℕ → Owner) (base top : ℕ) (f : Frame) (gs bs : List Frame) → Stands owner base top f gs → EachAbove (base + 4) bs → (base ≤ f.at) × EachAbove (base + 4) (f ∷ (gs ++ bs))
stands_above owner base top f [] bs s above = (omega (arith, s.1), (omega (arith, s.1), above))
stands_above owner base top f (g ∷ gs) bs s above =
    let r = stands_above owner base f.at g gs bs s.1 above in
    let w = first_words owner base f.at g gs s.1 in
    (omega (arith, r.0, w.top_is), (omega (arith, r.0, w.top_is), r.1))

-- frames stand as long as their words are the machine's own
words_kept : (owner new : ℕ → Owner) (base top : ℕ) (f : Frame) → base ≤ f.at → ((a : ℕ) → base ≤ a → a < top → new a ≡ owner a) → OwnWords owner f top → OwnWords new f top
words_kept owner new base top f low same w = record {
  mark = w.mark;
  top_is = w.top_is;
  own = λ i free l. same (f.at + i) (omega (arith, low)) l ∙ w.own i free l;
  mine = λ i l. let here = same (f.at + i) (omega (arith, low)) l in ⊎_elim (λ own. inl (here ∙ own)) (λ one. inr (one.0, here ∙ one.1)) (w.mine i l);
}

pub stands_kept : (owner new : ℕ → Owner) (base top : ℕ) (f : Frame) (gs : List Frame) → ((a : ℕ) → base ≤ a → a < top → new a ≡ owner a) → Stands owner base top f gs → Stands new base top f gs
stands_kept owner new base top f [] same s = (words_kept owner new base top f (omega (arith, s.1)) same s.0, s.1)
stands_kept owner new base top f (g ∷ gs) same s =
    let w = first_words owner base top f (g ∷ gs) s in (
      words_kept owner new base top f (stands_above owner base top f (g ∷ gs) [] s tt).0 same s.0,
      stands_kept owner new base f.at g gs (λ a from below. same a from (omega (arith, below, w.top_is))) s.1,
    )

comes_above : (library : List Resolved) (loaded : List ℕ) (table : List Module) (activations : List Activation) (h : Home) (low : ℕ) (bs : List Frame)
    → EachComes library loaded table activations h low bs → EachAbove (low + 4) bs
comes_above library loaded table activations h low [] c = tt
comes_above library loaded table activations h low (b ∷ bs) c = (omega (arith, c.0.at), comes_above library loaded table activations h low bs c.1)

pub all_above : (ctx : Setting) (r : StackRegisters) → Standing ctx r → EachAbove (ctx.stack.base + 4) ctx.stack.bodies
all_above ctx r s = comes_above ctx.library ctx.loaded ctx.table ctx.activations ctx.home ctx.stack.base ctx.stack.bodies s.comes

pub stack_above : (ctx : Setting) (r : StackRegisters) → Standing ctx r → (ctx.stack.base ≤ ctx.stack.frame.at) × EachAbove (ctx.stack.base + 4) (frames_of ctx.stack)
stack_above ctx r s = stands_above ctx.home.owner ctx.stack.base r.top ctx.stack.frame ctx.stack.callers ctx.stack.bodies s.stands (all_above ctx r s)

-- the words of the FORs and WITHs around lie behind those of the variables
pending_behind : (ctx : Setting) (q : Callee) (done : List Datum) (next : List Shape) (left : Arguments) (k : List Item) (p c : ℕ) (a : Around) → Pending ctx q done next left (RowsOf k) p c a
    → ((y : Setting) (t : Mode) (p : ℕ) (stack : List ℕ) (c : ℕ) (a : Around) → Rows y k t p stack c a → own_words y.stack.frame ≤ a.taken) → own_words ctx.stack.frame ≤ a.taken
pending_behind ctx q done next left k p c a w rest =
    omega (arith, rest w.before _ w.after _ w.later w.outer w.then, ap (λ (o : Around). o.taken) w.around, ap (λ (y : Setting). own_words y.stack.frame) w.is)

pub loops_behind : (k : List Item) (ctx : Setting) (t : Mode) (p : ℕ) (stack : List ℕ) (c : ℕ) (a : Around) → Rows ctx k t p stack c a → own_words ctx.stack.frame ≤ a.taken
loops_behind [] ctx t p stack c a r = absurd r
loops_behind (Perform (Looping body) ∷ k) ctx t p stack c a r = omega (arith, ap (λ (o : Around). o.taken) r.there.is, loops_behind k ctx _ _ _ _ r.there.outer r.there.then)
loops_behind (Perform (Turns n kind z step left body) ∷ k) ctx t p stack c a r =
    ⊎_elim (λ w. loops_behind k ctx _ _ _ _ _ w.then) (λ w. omega (arith, ap (λ (o : Around). o.taken) w.around, loops_behind k ctx _ _ _ _ w.outer w.then)) r.there
loops_behind (Perform (Holding place) ∷ k) ctx t p stack c a r =
    omega (arith, ap (λ (o : Around). o.taken) r.there.around, loops_behind k r.there.before _ _ _ _ r.there.outer r.there.then, ap (λ (c : Setting). own_words c.stack.frame) r.there.is)
loops_behind (Perform (End n) ∷ k) ctx t p stack c a r = omega (arith, ap (λ (o : Around). o.taken) r.there.alone)
loops_behind (Fill (Pass (Called q) kind done left) ∷ k) ctx t p stack c a r = pending_behind ctx q done _ left k _ _ a r.there.pending (λ y t p stack c a. loops_behind k y t p stack c a)
loops_behind (Fill (PassPlace (Called q) done left) ∷ k) ctx t p stack c a r = pending_behind ctx q done _ left k _ _ a r.there.pending (λ y t p stack c a. loops_behind k y t p stack c a)
loops_behind (Fill (PassAll (Called q) done left) ∷ k) ctx t p stack c a r = pending_behind ctx q done _ left k _ _ a r.there.pending (λ y t p stack c a. loops_behind k y t p stack c a)
loops_behind (Fill (PassArray (Called q) high done left) ∷ k) ctx t p stack c a r = pending_behind ctx q done _ left k _ _ a r.there.pending (λ y t p stack c a. loops_behind k y t p stack c a)
loops_behind (Fill (Calling given) ∷ k) ctx t p stack c a r =
    let w = r.there in omega (arith, loops_behind k w.before _ w.after _ _ w.outer w.then, ap (λ (o : Around). o.taken) w.around, ap (λ (y : Setting). own_words y.stack.frame) w.is)
loops_behind (i ∷ k) ctx t p stack c a r = loops_behind k ctx _ _ _ _ _ r.there.then

-- the words of copies lie below those of pending calls
pending_above : (ctx : Setting) (q : Callee) (done : List Datum) (next : List Shape) (left : Arguments) (k : List Item) (p c : ℕ) (a : Around) → Pending ctx q done next left (RowsOf k) p c a
    → ((y : Setting) (t : Mode) (p : ℕ) (stack : List ℕ) (c : ℕ) (a : Around) → Rows y k t p stack c a → y.stack.frame.copied ≤ y.stack.frame.pushed) → ctx.stack.frame.copied ≤ ctx.stack.frame.pushed
pending_above ctx q done next left k p c a w rest =
    omega (arith, rest w.before _ w.after _ w.later w.outer w.then, ap (λ (y : Setting). y.stack.frame.copied) w.is, ap (λ (y : Setting). y.stack.frame.pushed) w.is)

pub copies_below : (k : List Item) (ctx : Setting) (t : Mode) (p : ℕ) (stack : List ℕ) (c : ℕ) (a : Around) → Rows ctx k t p stack c a → ctx.stack.frame.copied ≤ ctx.stack.frame.pushed
copies_below [] ctx t p stack c a r = absurd r
copies_below (Perform (Looping body) ∷ k) ctx t p stack c a r = copies_below k ctx _ _ _ _ r.there.outer r.there.then
copies_below (Perform (Turns n kind z step left body) ∷ k) ctx t p stack c a r = ⊎_elim (λ w. copies_below k ctx _ _ _ _ _ w.then) (λ w. copies_below k ctx _ _ _ _ w.outer w.then) r.there
copies_below (Perform (Holding place) ∷ k) ctx t p stack c a r =
    omega (arith, copies_below k r.there.before _ _ _ _ r.there.outer r.there.then, ap (λ (y : Setting). y.stack.frame.copied) r.there.is, ap (λ (y : Setting). y.stack.frame.pushed) r.there.is)
copies_below (Perform (End n) ∷ k) ctx t p stack c a r = omega (arith, r.there.idle)
copies_below (Fill (Pass (Called q) kind done left) ∷ k) ctx t p stack c a r = pending_above ctx q done _ left k _ _ a r.there.pending (λ y t p stack c a. copies_below k y t p stack c a)
copies_below (Fill (PassPlace (Called q) done left) ∷ k) ctx t p stack c a r = pending_above ctx q done _ left k _ _ a r.there.pending (λ y t p stack c a. copies_below k y t p stack c a)
copies_below (Fill (PassAll (Called q) done left) ∷ k) ctx t p stack c a r = pending_above ctx q done _ left k _ _ a r.there.pending (λ y t p stack c a. copies_below k y t p stack c a)
copies_below (Fill (PassArray (Called q) high done left) ∷ k) ctx t p stack c a r = pending_above ctx q done _ left k _ _ a r.there.pending (λ y t p stack c a. copies_below k y t p stack c a)
copies_below (Fill (Calling given) ∷ k) ctx t p stack c a r =
    let w = r.there in omega (arith, copies_below k w.before _ w.after _ _ w.outer w.then, ap (λ (y : Setting). y.stack.frame.copied) w.is, ap (λ (y : Setting). y.stack.frame.pushed) w.is)
copies_below (i ∷ k) ctx t p stack c a r = copies_below k ctx _ _ _ _ _ r.there.then

-- and in the frame
pub pending_fits : (ctx : Setting) (q : Callee) (done : List Datum) (next : List Shape) (left : Arguments) (k : List Item) (p c : ℕ) (a : Around) → 4 + own_words ctx.stack.frame ≤ ctx.stack.frame.layout.frame
    → Pending ctx q done next left (RowsOf k) p c a → ((y : Setting) (t : Mode) (p : ℕ) (stack : List ℕ) (c : ℕ) (a : Around) → 4 + own_words y.stack.frame ≤ y.stack.frame.layout.frame → Rows y k t p stack c a → loop_place a.taken ≤ y.stack.frame.layout.frame)
    → loop_place a.taken ≤ ctx.stack.frame.layout.frame
pending_fits ctx q done next left k p c a mark w rest =
    let frame : ctx.stack.frame.layout.frame ≡ w.before.stack.frame.layout.frame = ap (λ (y : Setting). y.stack.frame.layout.frame) w.is in
    let words : own_words ctx.stack.frame ≡ own_words w.before.stack.frame = ap (λ (y : Setting). own_words y.stack.frame) w.is in
    omega (arith, rest w.before _ w.after _ w.later w.outer (omega (arith, mark, frame, words)) w.then, ap (λ (o : Around). o.taken) w.around, frame)

pub loops_fit : (k : List Item) (ctx : Setting) (t : Mode) (p : ℕ) (stack : List ℕ) (c : ℕ) (a : Around) → 4 + own_words ctx.stack.frame ≤ ctx.stack.frame.layout.frame → Rows ctx k t p stack c a
    → loop_place a.taken ≤ ctx.stack.frame.layout.frame
loops_fit [] ctx t p stack c a mark r = absurd r
loops_fit (Perform (Looping body) ∷ k) ctx t p stack c a mark r =
    omega (arith, ap (λ (o : Around). o.taken) r.there.is, loops_fit k ctx _ _ _ _ r.there.outer mark r.there.then)
loops_fit (Perform (Turns n kind z step left body) ∷ k) ctx t p stack c a mark r =
    ⊎_elim (λ w. loops_fit k ctx _ _ _ _ _ mark w.then) (λ w. omega (arith, ap (λ (o : Around). o.taken) w.around, w.round.room)) r.there
loops_fit (Perform (Holding place) ∷ k) ctx t p stack c a mark r =
    omega (arith, ap (λ (o : Around). o.taken) r.there.around, r.there.room, ap (λ (c : Setting). c.stack.frame.layout.frame) r.there.is)
loops_fit (Perform (End n) ∷ k) ctx t p stack c a mark r = omega (arith, ap (λ (o : Around). o.taken) r.there.alone, mark)
loops_fit (Fill (Pass (Called q) kind done left) ∷ k) ctx t p stack c a mark r = pending_fits ctx q done _ left k _ _ a mark r.there.pending (λ y t p stack c a. loops_fit k y t p stack c a)
loops_fit (Fill (PassPlace (Called q) done left) ∷ k) ctx t p stack c a mark r = pending_fits ctx q done _ left k _ _ a mark r.there.pending (λ y t p stack c a. loops_fit k y t p stack c a)
loops_fit (Fill (PassAll (Called q) done left) ∷ k) ctx t p stack c a mark r = pending_fits ctx q done _ left k _ _ a mark r.there.pending (λ y t p stack c a. loops_fit k y t p stack c a)
loops_fit (Fill (PassArray (Called q) high done left) ∷ k) ctx t p stack c a mark r = pending_fits ctx q done _ left k _ _ a mark r.there.pending (λ y t p stack c a. loops_fit k y t p stack c a)
loops_fit (Fill (Calling given) ∷ k) ctx t p stack c a mark r =
    let w = r.there in
    let frame : ctx.stack.frame.layout.frame ≡ w.before.stack.frame.layout.frame = ap (λ (y : Setting). y.stack.frame.layout.frame) w.is in
    let words : own_words ctx.stack.frame ≡ own_words w.before.stack.frame = ap (λ (y : Setting). own_words y.stack.frame) w.is in
    omega (arith, loops_fit k w.before _ w.after _ _ w.outer (omega (arith, mark, frame, words)) w.then, ap (λ (o : Around). o.taken) w.around, frame)
loops_fit (i ∷ k) ctx t p stack c a mark r = loops_fit k ctx _ _ _ _ _ mark r.there.then

-- activations stay linked as long as the first words of their frames stay
linked_kept : (old new : ℕ → ℕ) (acts more : List Activation) → Grows more acts → (a number at : ℕ) (display es : List ℕ) (gs : List Frame) → new at ≡ old at → Linked old acts a number at display es gs → Linked new more a number at display es gs
linked_kept old new acts more grows a number at display [] gs same l = l
linked_kept old new acts more grows a number at display (p ∷ []) gs same l = l
linked_kept old new acts more grows a number at display (p ∷ e ∷ es) gs same l =
    record { to = l.to; among = l.among; outer = outer_kept (slice_get acts a) refl l.outer; owner = l.owner; chain = l.chain; word = same ∙ l.word; display = l.display }
  where
    outer_kept : (o : Option Activation) → slice_get acts a ≡ o → outer_of o ≡ Some l.to.activation → surrounding more a ≡ Some l.to.activation
    outer_kept None e f = cc
    outer_kept (Some b) e f = ap outer_of (grows a b e) ∙ f

pub chained_kept : (old new : ℕ → ℕ) (acts more : List Activation) → Grows more acts → (owner : ℕ → Owner) (base top : ℕ) (f : Frame) (gs : List Frame) → Stands owner base top f gs
    → ((a : ℕ) → base ≤ a → a ≤ f.at → new a ≡ old a) → Chained old acts f gs → Chained new more f gs
chained_kept old new acts more grows owner base top f [] stands same c =
    linked_kept old new acts more grows f.activation f.number f.at f.display f.layout.scope.chain [] (same f.at (stands_above owner base top f [] [] stands tt).0 (omega arith)) c
chained_kept old new acts more grows owner base top f (g ∷ gs) stands same c =
    let low = first_words owner base f.at g gs stands.1 in (
      linked_kept old new acts more grows f.activation f.number f.at f.display f.layout.scope.chain (g ∷ gs) (same f.at (stands_above owner base top f (g ∷ gs) [] stands tt).0 (omega arith)) c.0,
      chained_kept old new acts more grows owner base f.at g gs stands.1 (λ a from below. same a from (omega (arith, below, low.top_is))) c.1,
    )

-- ---- what was handed in stays where the words of frames and their variables do
pub offset_low : (k : ℕ) (ts : List Shape) (x offset : ℕ) (t : Shape) → slice_get (offsets_from k ts) x ≡ Some offset → slice_get ts x ≡ Some t → (k ≤ offset) × (offset + size t ≤ k + all_words ts)
offset_low k [] x offset t at typed = absurd (none-some t typed)
offset_low k (u ∷ ts) zero offset t at typed =
    let here = same_Some k offset at in
    (omega (arith, here), omega (arith, here, ap size (same_Some u t typed)))
offset_low k (u ∷ ts) (suc x) offset t at typed =
    let rest = offset_low (k + size u) ts x offset t at typed in
    (omega (arith, rest.0), omega (arith, rest.1))

module _ (activations more : List Activation) (grows : Grows more activations) (h x : Home) (bodies : List Frame) where
  handed_kept : (f : Frame) (under : List Frame) → ((i : ℕ) → 4 ≤ i → i < 4 + own_words f → (x.owner (f.at + i) ≡ h.owner (f.at + i)) × (x.shadow (f.at + i) ≡ h.shadow (f.at + i)))
      → ((r : Root) → sees under r ≡ true → lives h r ≡ true → x.base r ≡ h.base r) → ((r : Root) → sees under r ≡ true → lives h r ≡ true → x.shape r ≡ h.shape r) → HasHanded activations h f under → HasHanded more x f under
  handed_kept f under same base shape handed y o t at typed there =
      let l = handed y o t at typed there in
      let low = offset_low 4 (locals_in f) y o (Address t) at (parameter_variable f.layout.scope 0 y (Address t) typed) in
      let word = same o low.0 (omega (arith, low.1)) in
      let alive = place_lives h l.place t l.living there in
      let kept = shape l.place.root l.seen alive in
      let moved : address h l.place ≡ address x l.place = omega (arith, base l.place.root l.seen alive, ap (λ (t : Shape). offset t l.place.path) kept) in
      record {
        its = l.its;
        runs = grows f.activation l.its l.runs;
        place = l.place;
        slot = l.slot;
        seen = l.seen;
        living = ap (λ (t : Shape). part_at t l.place.path) kept ∙ l.living;
        own = word.0 ∙ l.own;
        word = word.1 ∙ l.word ∙ moved;
      }

  opened_kept : (f : Frame) (under : List Frame) → ((i : ℕ) → 4 ≤ i → i < 4 + own_words f → (x.owner (f.at + i) ≡ h.owner (f.at + i)) × (x.shadow (f.at + i) ≡ h.shadow (f.at + i)))
      → ((r : Root) → sees (f ∷ under) r ≡ true → lives h r ≡ true → x.base r ≡ h.base r) → ((r : Root) → sees (f ∷ under) r ≡ true → lives h r ≡ true → x.shape r ≡ h.shape r) → HasOpened activations h f under → HasOpened more x f under
  opened_kept f under same base shape opened y o copied t at typed there =
      let l = opened y o copied t at typed there in
      let low = offset_low 4 (locals_in f) y o (Opened copied t) at (parameter_variable f.layout.scope 0 y (Opened copied t) typed) in
      let word = same o low.0 (omega (arith, low.1)) in
      let word_high = same (o + 1) (omega (arith, low.0)) (omega (arith, low.1)) in
      let alive = place_lives h l.place (Row (suc l.high) t) l.living refl in
      let kept = shape l.place.root l.seen alive in
      let moved : address h l.place ≡ address x l.place = omega (arith, base l.place.root l.seen alive, ap (λ (t : Shape). offset t l.place.path) kept) in
      record {
        its = l.its;
        runs = grows f.activation l.its l.runs;
        place = l.place;
        high = l.high;
        slot = l.slot;
        seen = l.seen;
        living = ap (λ (t : Shape). part_at t l.place.path) kept ∙ l.living;
        low = l.low;
        own = word.0 ∙ l.own;
        own_high = word_high.0 ∙ l.own_high;
        word = word.1 ∙ l.word ∙ moved;
        word_high = word_high.1 ∙ l.word_high;
      }

  pub each_handed : (base top : ℕ) (f : Frame) (gs : List Frame) → Stands h.owner base top f gs → ((a : ℕ) → base ≤ a → a < f.at + (4 + own_words f) → (x.owner a ≡ h.owner a) × (x.shadow a ≡ h.shadow a))
      → ((r : Root) → sees (f ∷ (gs ++ bodies)) r ≡ true → lives h r ≡ true → x.base r ≡ h.base r) → ((r : Root) → sees (f ∷ (gs ++ bodies)) r ≡ true → lives h r ≡ true → x.shape r ≡ h.shape r)
      → EachHanded activations h (f ∷ gs) bodies → EachHanded more x (f ∷ gs) bodies
  each_handed base top f [] stands same bases shapes e = (
    handed_kept f bodies (λ i from below. same (f.at + i) (omega (arith, stands.1)) (omega (arith, below))) (λ r s. bases r (sees_more f bodies r s)) (λ r s. shapes r (sees_more f bodies r s)) e.0,
    opened_kept f bodies (λ i from below. same (f.at + i) (omega (arith, stands.1)) (omega (arith, below))) bases shapes e.1,
    tt,
  )
  each_handed base top f (g ∷ gs) stands same bases shapes e =
      let low = first_words h.owner base f.at g gs stands.1 in (
        handed_kept f (g ∷ (gs ++ bodies)) (λ i from below. same (f.at + i) (omega (arith, (stands_above h.owner base top f (g ∷ gs) [] stands tt).0)) (omega (arith, below)))
            (λ r s. bases r (sees_more f (g ∷ (gs ++ bodies)) r s)) (λ r s. shapes r (sees_more f (g ∷ (gs ++ bodies)) r s)) e.0,
        opened_kept f (g ∷ (gs ++ bodies)) (λ i from below. same (f.at + i) (omega (arith, (stands_above h.owner base top f (g ∷ gs) [] stands tt).0)) (omega (arith, below))) bases shapes e.1,
        each_handed base f.at g gs stands.1 (λ a from below. same a from (omega (arith, below, low.top_is, low.mark))) (λ r s. bases r (sees_more f (g ∷ (gs ++ bodies)) r s)) (λ r s. shapes r (sees_more f (g ∷ (gs ++ bodies)) r s)) e.2,
      )

-- ---- one of the running frame's own words behind its variables is set
module _ (ctx : Setting) (s : Source) (m : State) (shared : Shared ctx s m) (i w : ℕ) (free : 4 + own_words ctx.stack.frame ≤ i) (less : i < ctx.stack.frame.layout.frame) where
  open ctx use {home as h, stack as st}

  abbrev at : ℕ
  at = st.frame.at + i

  words : OwnWords h.owner st.frame m.top
  words = first_words h.owner st.base m.top st.frame st.callers shared.standing.stands

  pub own_word : h.owner (st.frame.at + i) ≡ Own
  own_word = words.own i (inr (free, inl less)) (omega (arith, words.top_is, less))

  pub own_inside : (st.base ≤ st.frame.at + i) × (st.frame.at + i < st.limit)
  own_inside = (omega (arith, (stack_above ctx (stack_of m) shared.standing).0), omega (arith, words.top_is, less, shared.standing.low))

  -- it lies in the store, which has what the home says
  pub own_low : m.frame + i < 65536
  own_low = omega (arith, shared.standing.frame_is, own_inside.1, shared.standing.high)

  pub own_read : get_or m.store (m.frame + i) 0 ≡ ctx.home.shadow (ctx.stack.frame.at + i)
  own_read = ap (λ (f : ℕ). get_or m.store (f + i) 0) shared.standing.frame_is ∙ shared.mem.kept (st.frame.at + i) own_word

  other_word : (a : ℕ) → (at ≡ a → ⊥) → replaced h.shadow at w a ≡ h.shadow a
  other_word a d = no (eqb at a) w (h.shadow a) (ne_eqb at a d)

  fixed_kept : (a : ℕ) → h.owner a ≡ Fixed → (h.owner a ≡ Fixed) × (replaced h.shadow at w a ≡ h.shadow a)
  fixed_kept a e = (e, other_word a (λ same. own_fixed (sym own_word ∙ ap h.owner same ∙ e)))

  pub shared_shadowed : Shared (at_home ctx (shadowed ctx.home (ctx.stack.frame.at + i) w)) s (record m { store = set m.store (ctx.stack.frame.at + i) w })
  shared_shadowed =
      let g = shared.standing in
      record {
        mem = mem_shadowed h s.cells m.store at w own_word (omega (arith, own_inside.1, g.high)) shared.mem;
        loaded_are = shared.loaded_are;
        levels = shared.levels;
        heap = shared.heap;
        unborn = shared.unborn;
        program = record { table_is = shared.program.table_is; known = shared.program.known; piece = shared.program.piece; running_is = shared.program.running_is; marked_is = shared.program.marked_is };
        standing = record {
          frame_is = g.frame_is;
          base_is = g.base_is;
          limit_is = g.limit_is;
          bodies_are = g.bodies_are;
          known = known_kept ctx.library ctx.loaded ctx.table ctx.activations ctx.activations (λ i b e. e) h (shadowed h at w) (λ n y. refl) (λ n y. refl) refl fixed_kept st.frame g.known;
          callers = each_known ctx.library ctx.loaded ctx.table ctx.activations ctx.activations (λ i b e. e) h (shadowed h at w) (λ n y. refl) (λ n y. refl) refl fixed_kept st.callers g.callers;
          comes = each_comes ctx.library ctx.loaded ctx.table ctx.activations ctx.activations (λ i b e. e) h (shadowed h at w) (λ n y. refl) (λ n y. refl) refl fixed_kept st.base st.bodies g.comes;
          stands = g.stands;
          links = chained_kept h.shadow (replaced h.shadow at w) ctx.activations ctx.activations (λ j b e. e) h.owner st.base m.top st.frame st.callers g.stands (λ a from below. other_word a (λ e. omega (arith, e, below, free))) g.links;
          locals = each_local ctx.activations ctx.activations (λ i b e. e) h (shadowed h at w) (frames_of st) (λ r s e. refl) (λ r s e. refl) g.locals;
          handed = each_handed ctx.activations ctx.activations (λ i b e. e) h (shadowed h at w) st.bodies st.base m.top st.frame st.callers g.stands (λ a from below. (refl, other_word a (λ e. omega (arith, e, below, free)))) (λ r s e. refl) (λ r s e. refl) g.handed;
          room = g.room;
          based = g.based;
          low = g.low;
          high = g.high;
        };
        activations_are = shared.activations_are;
        parked_are = shared.parked_are;
        kept_are = shared.kept_are;
      }

  pub touches_shadowed : Touches ctx.home (shadowed ctx.home (ctx.stack.frame.at + i) w) (frames_of ctx.stack) ctx.stack.base ctx.stack.limit
  touches_shadowed = record {
    owner = λ a o. refl;
    shadow = λ a o. other_word a (λ e. ⊎_elim (λ (l : a < st.base). omega (arith, own_inside.0, e, l)) (λ (g : st.limit ≤ a). omega (arith, own_inside.1, e, g)) o);
    base = λ r b e. refl;
    shape = λ r b e. refl;
    listed = refl;
    workspaces = extends_self h.workspaces;
    fixed = fixed_kept;
  }

  -- rows speak of the words below their FORs' and WITHs'
  pub rows_shadowed : (k : List Item) (t : Mode) (p : ℕ) (stack : List ℕ) (c : ℕ) (a : Around) → loop_place a.taken ≤ i → Rows ctx k t p stack c a
      → Rows (at_home ctx (shadowed ctx.home (ctx.stack.frame.at + i) w)) k t p stack c a
  rows_shadowed k t p stack c a below r =
      rows_kept k ctx (shadowed h at w) st.limit (st.base + 4) (stack_above ctx (stack_of m) shared.standing).1 t p stack c a
      (record {
        pushed = λ j small. other_word (ctx.stack.frame.at + (ctx.stack.frame.layout.frame + j)) (λ e. omega (arith, e, less));
        shadow = λ b from under. other_word b (λ e. omega (arith, e, under, below));
        base = λ q e f. refl;
        shape = λ q e f. refl;
        listed = refl;
        workspaces = extends_self h.workspaces;
      })
      r
