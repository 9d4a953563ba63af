-- The rows of requests and of their arguments.
use Rattle.std.proofs.Common.{◌≡◌, ℕ, zero, suc, ◌+◌, ◌-◌, ◌%◌, ◌<◌, ◌≤◌, Bool, true, false, cond, List, [], ◌∷◌, ◌++◌, length, map, reverse, get_or, take, drop, inl, inr, ◌⊎◌, refl, sym, ap, ◌∙◌, subst, arith, append_assoc}
use Rattle.std.specs.Prelude.{Option, nat_le, nat_lt, ◌||◌}
use Rattle.std.proofs.lemmas.{Bool.{le-leb, leb-true, lt-ltb, cases_lt, and_from}, List.{map-append, append-nil, reverse-append, take_all, drop_all, drop_more}}
use Rattle.lil_base.specs.declared.fault.TrapKind.TheVariants as trap
use Rattle.lil_base.specs.{Requests.{request_number, request_found, takes_array}, declared.request.Request.{Request, TheVariants.{Write, WriteString, WriteLn, WriteCard, WriteInt, WriteOct, WriteHex}}}
use Rattle.lil_asm.specs.{Requests.request_words, declared.instr.Instr.TheVariants.{Liw, Lag, Svc}}
use Rattle.lil_resolved.specs.{Kinds.{Kind, OfWhole, OfTruth, OfCharacter, OfEnumeration, OfSet, OfPointer, OfProcedure, OfRange, is_plain, takes_value, stores_value, Scope, Scalar, Character, within, scalar_word, Shape, Absent, Word, Row, words, is_there, part_at, offset, along, shape_by}, Resolved.{Designator, Argument, Arguments, NoMore, Also, ByValue, OfPlace, OfAll, OfArray, OfText, OfOpened, Spelled, kind_of, shape_of}, Sizes.argument_words, Sound.{request_parameters, parameter_of, parameters_given, is_text}}
use Rattle.lil_resolved.specs.Resolved as resolved
use Rattle.lil_meaning.specs.{Items.{Place, part_of, got, Datum, Scalars, Places, Wholes, Opens, Texts, Requested, Pass, PassArray, Do, Passing, Item, Value, PlaceOf, Fill, Perform, Going, Source}, World.{World, Given, Single, Characters, characters_at, array_at, given_by, serve}, Steps.{trapped, with_items, handed_on, character_of, characters_from, as_array, given_of, level_of}}
use Rattle.lil_mcode.specs.Table.{State, going, array_lies, request_row}
use Rattle.lil_table.specs.Rows.{IsAt, ArgumentsAt, HasText, text_words, arguments_words, access_of}
use Rattle.lil_match.specs.{Goes.{Shared, Goes, Lands}, Running.{Running, Run, running}, Parts.{yes, no}, Homes.{Home, text_character, word_for, plain_word, takes_plain, address, shape_there, place_inside, part_there}, Waits.stutter}
use Rattle.lil_match.specs.{Waits.{Setting, frame_of, laid_out, Quiet, ValueOf, AtPlace, Around, Reach, Rows, Designates, is_open, is_array, AreTaken, TakesAll, DatumOn, DataOn, LeftPart, Waiting}, Orders.{instr_within, arguments_within}, Steps.{closed, advances, at_step, at_once, pushes, rows_ahead, lands_on, goes_none, goes_none_within, goes_one, operand_goes}}
use Rattle.lil_laws_place.specs.{Codes.{leads, addressed, tested}, Opens.words_loaded}
use Rattle.lil_match.specs.Variables.{opened_here}
use Rattle.lil_laws_stmt.specs.{Strings.{string_low, string_word}, Tasks.value_within}

-- ---- which arguments are arrays
-- one of those that are left is at hand
forms_more : (ts : Scope) (r : Request) (done : List Bool) (x : Argument) (left : Arguments) → TakesAll ts r done (Also x left) → TakesAll ts r (done ++ is_open (parameter_of ts x) ∷ []) left
forms_more ts r done x left t =
    record { same = t.same ∙ sym (append_assoc done (is_open (parameter_of ts x) ∷ []) (map is_open (parameters_given ts left))); taken = t.taken.1; served = t.served.1 }

forms_done : (ts : Scope) (r : Request) (done : List Datum) (d : Datum) (left : Arguments) → TakesAll ts r (map is_array done ++ is_array d ∷ []) left → TakesAll ts r (map is_array (done ++ d ∷ [])) left
forms_done ts r done d left t = subst (λ (bs : List Bool). TakesAll ts r bs left) (sym (map-append is_array done (d ∷ []))) t

-- WriteString takes one array, and no other request takes any
abbrev AreSingle : List Bool → Type 0
AreSingle [] = Unit {0}
AreSingle (b ∷ bs) = (b ≡ false) × AreSingle bs

forms_are : (r : Request) → (takes_array r ≡ true → map is_open (request_parameters r) ≡ true ∷ []) × (takes_array r ≡ false → AreSingle (map is_open (request_parameters r)))
forms_are Write = (λ h. cc, λ h. (refl, tt))
forms_are WriteString = (λ h. refl, λ h. cc)
forms_are WriteLn = (λ h. cc, λ h. tt)
forms_are WriteCard = (λ h. cc, λ h. (refl, (refl, tt)))
forms_are WriteInt = (λ h. cc, λ h. (refl, (refl, tt)))
forms_are WriteOct = (λ h. cc, λ h. (refl, (refl, tt)))
forms_are WriteHex = (λ h. cc, λ h. (refl, (refl, tt)))

only : (b : Bool) → (b || false) ≡ true → b ≡ true
only true e = refl
only false e = e

-- each takes values that are no references, and open arrays
all_taken : (r : Request) → AreTaken (request_parameters r)
all_taken Write = (refl, tt)
all_taken WriteString = (refl, tt)
all_taken WriteLn = tt
all_taken WriteCard = (refl, (refl, tt))
all_taken WriteInt = (refl, (refl, tt))
all_taken WriteOct = (refl, (refl, tt))
all_taken WriteHex = (refl, (refl, tt))

-- where no reference is wanted, what may be stored is what is taken
taken_plain : (k j : Kind) → is_plain k ≡ true → stores_value k j ≡ true → takes_value k j ≡ true
taken_plain (OfPointer to) j plain stores = cc
taken_plain (OfProcedure n) j plain stores = cc
taken_plain (OfWhole t) j plain stores = only (takes_value (OfWhole t) j) stores
taken_plain OfTruth j plain stores = only (takes_value OfTruth j) stores
taken_plain OfCharacter j plain stores = only (takes_value OfCharacter j) stores
taken_plain (OfEnumeration n) j plain stores = only (takes_value (OfEnumeration n) j) stores
taken_plain OfSet j plain stores = only (takes_value OfSet j) stores
taken_plain (OfRange base low high) j plain stores = only (takes_value (OfRange base low high) j) stores

-- ---- what arguments that are done give
-- the characters of a string at an address
text_at : (store cs : List ℕ) (a i n : ℕ) → is_text cs ≡ true → i + n ≡ length cs → ((j : ℕ) → j < length cs → get_or store (a + j) 0 ≡ get_or cs j 0) → characters_at store (a + i) n ≡ drop i cs
text_at store cs a i zero text long same = sym (drop_all i cs (omega (arith, long)))
text_at store cs a i (suc n) text long same =
    let here : get_or store (a + i) 0 % 256 ≡ get_or cs i 0 =
    ap (λ (w : ℕ). w % 256) (same i (omega (arith, long))) ∙ (let small = leb-true (get_or cs i 0) 255 (text_character cs i text) in omega (arith, small)) in
    ap (λ (c : ℕ). c ∷ characters_at store (suc (a + i)) n) here
    ∙ ap (λ (b : ℕ). get_or cs i 0 ∷ characters_at store b n) (let e : suc (a + i) ≡ a + (i + 1) = omega arith in e)
    ∙ ap (λ (x : List ℕ). get_or cs i 0 ∷ x) (text_at store cs a (i + 1) n text (omega (arith, long)) same)
    ∙ sym (drop_more cs i 0 (omega (arith, long)))

text_first : (cs : List ℕ) → 0 < length cs → drop 0 cs ≡ as_array cs
text_first [] some = absurd (omega (arith, some))
text_first (c ∷ cs) some = refl

-- a word that holds a character
character_word : (h : Home) (v : Scalar) → within OfCharacter v ≡ true → word_for h v % 256 ≡ character_of v
character_word h (Character c) e = let small = leb-true c 255 e in omega (arith, small)
character_word h v e = cc

module _ (ctx : Setting) where
  open ctx use {library, table, home as h}
  open frame_of ctx use {own, piece, number}
  open laid_out ctx use {layout as l}

  -- one more datum above the others
  data_more : (ds : List Datum) (d : Datum) (below old new : List ℕ) → DataOn ctx ds old below → DatumOn ctx d new old → DataOn ctx (ds ++ d ∷ []) new below
  data_more [] d below old new r e = (new, subst (DatumOn ctx d new) r e, refl)
  data_more (x ∷ ds) d below old new r e = (r.0, r.1, data_more ds d r.0 old new r.2 e)

  -- the first of those that are left is at hand, and is done
  abbrev left_more : (r : Request) (done : List Bool) (x : Argument) (left : Arguments) (count p : ℕ) (y : LeftPart ctx.stack.frame r done (Also x left) count p)
      → LeftPart ctx.stack.frame r (done ++ is_open (parameter_of l.scope x) ∷ []) left (argument_words x + count) y.given.middle
  left_more r done x left count p y = record {
    middle = y.middle;
    given = y.given.then;
    forms = forms_more l.scope r done x left y.forms;
    serve = record { words = y.serve.words ∙ (let e : count + (argument_words x + arguments_words left) ≡ argument_words x + count + arguments_words left = omega arith in e); end = y.serve.end; by = y.serve.by; within = y.serve.within };
  }

  abbrev left_done : (r : Request) (done : List Datum) (d : Datum) (left : Arguments) (count more p : ℕ) → count ≡ more → LeftPart ctx.stack.frame r (map is_array done ++ is_array d ∷ []) left count p
      → LeftPart ctx.stack.frame r (map is_array (done ++ d ∷ [])) left more p
  left_done r done d left count more p e y = record {
    middle = y.middle;
    given = subst (λ (n : ℕ). ArgumentsAt l piece n left p y.middle) e y.given;
    forms = forms_done l.scope r done d left y.forms;
    serve = record { words = y.serve.words ∙ ap (λ (n : ℕ). n + arguments_words left) e; end = y.serve.end; by = y.serve.by; within = y.serve.within };
  }

  module _ (s : Source) (m : State) (shared : Shared ctx s m) where
    -- words alone
    words_given : (ds : List Datum) (stack below : List ℕ) → AreSingle (map is_array ds) → DataOn ctx ds stack below
        → map Single (reverse stack) ≡ map Single (reverse below) ++ map (given_of s.cells) ds
    words_given [] stack below single on = ap (λ (x : List ℕ). map Single (reverse x)) on ∙ sym (append-nil (map Single (reverse below)))
    words_given (Scalars v ∷ ds) stack below single on =
        words_given ds stack on.0 single.1 on.2
        ∙ ap (λ (x : List ℕ). map Single (reverse x) ++ map (given_of s.cells) ds) on.1
        ∙ ap (λ (x : List ℕ). map Single x ++ map (given_of s.cells) ds) (reverse-append (scalar_word v ∷ []) below)
        ∙ ap (λ (x : List Given). x ++ map (given_of s.cells) ds) (map-append Single (reverse below) (scalar_word v ∷ []))
        ∙ append_assoc (map Single (reverse below)) (Single (scalar_word v) ∷ []) (map (given_of s.cells) ds)
    words_given (Opens place high ∷ ds) stack below single on = let clash : true ≡ false = single.0 in cc
    words_given (Texts cs ∷ ds) stack below single on = let clash : true ≡ false = single.0 in cc
    words_given (Places place ∷ ds) stack below single on = absurd on.1
    words_given (Wholes u ∷ ds) stack below single on = absurd on.1

    -- the characters of an array from an element on, so many
    array_given : (place : Place) (high i n : ℕ) → shape_there h place ≡ Row (suc high) (Word OfCharacter) → i + n ≡ suc high
        → characters_at m.store (address h place + i) n ≡ characters_from s.cells place i n
    array_given place high i zero living long = refl
    array_given place high i (suc n) living long =
        let there : is_there (shape_there h place) ≡ true = ap is_there living in
        let part = part_there h place i there in
        let element : shape_there h (part_of place i) ≡ Word OfCharacter = part.0 ∙ ap (λ (t : Shape). part_at t (i ∷ [])) living ∙ yes (nat_lt i (suc high)) (Word OfCharacter) Absent (lt-ltb i (suc high) (omega (arith, long))) in
        let cell = shared.mem.holds place.root (place.path ++ i ∷ []) OfCharacter element in
        let at : address h place + i ≡ address h (part_of place i) = omega (arith, part.1, ap (λ (t : Shape). offset t (i ∷ [])) living) in
        let here : get_or m.store (address h place + i) 0 % 256 ≡ character_of (got s.cells (part_of place i)) =
        ap (λ (x : ℕ). get_or m.store x 0 % 256) at ∙ ap (λ (w : ℕ). w % 256) cell.word ∙ character_word h (got s.cells (part_of place i)) cell.fits in
        ap (λ (c : ℕ). c ∷ characters_at m.store (suc (address h place + i)) n) here
        ∙ ap (λ (b : ℕ). character_of (got s.cells (part_of place i)) ∷ characters_at m.store b n) (let e : suc (address h place + i) ≡ address h place + suc i = omega arith in e)
        ∙ ap (λ (x : List ℕ). character_of (got s.cells (part_of place i)) ∷ x) (array_given place high (suc i) n living (omega (arith, long)))

    string_given : (cs : List ℕ) (offset : ℕ) → HasText l cs offset → characters_at m.store (own.base + offset) (suc (text_words cs - 1)) ≡ as_array cs
    string_given cs offset text = by cs text (cases_lt 0 (length cs))
      where
        by : (cs : List ℕ) → HasText l cs offset → (0 < length cs) ⊎ (length cs ≤ 0) → characters_at m.store (own.base + offset) (suc (text_words cs - 1)) ≡ as_array cs
        by cs text (inl some) =
            ap (characters_at m.store (own.base + offset)) (let e : suc (text_words cs - 1) ≡ length cs = omega (arith, some) in e)
            ∙ ap (λ (b : ℕ). characters_at m.store b (length cs)) (let e : own.base + offset ≡ own.base + offset + 0 = omega arith in e)
            ∙ text_at m.store cs (own.base + offset) 0 (length cs) text.text (omega arith) (λ j less. string_word ctx s m shared cs offset text j (omega (arith, less)))
            ∙ text_first cs some
        by [] text (inr none) =
            ap (λ (w : ℕ). w % 256 ∷ []) (ap (λ (b : ℕ). get_or m.store b 0) (let e : own.base + offset ≡ own.base + offset + 0 = omega arith in e) ∙ string_word ctx s m shared [] offset text 0 (omega arith))
        by (c ∷ cs) text (inr none) = absurd (omega (arith, none))

    -- one array, as WriteString takes it
    one_array : (r : Request) (d : Datum) (stack : List ℕ) → takes_array r ≡ true → is_array d ≡ true → DatumOn ctx d stack []
        → (Characters (array_at m.store (reverse stack)) ≡ given_of s.cells d) × (array_lies r stack ≡ true)
    one_array r (Opens place high) stack array e on =
        let low : address h place + words (Row (suc high) (Word OfCharacter)) ≤ 65535 = omega (arith, place_inside h s.cells m.store place shared.mem (ap is_there on.has.living), ap words on.has.living) in (
          ap (λ (x : List ℕ). Characters (array_at m.store (reverse x))) on.is
              ∙ ap (λ (b : ℕ). Characters (characters_at m.store b (suc high))) (let e : address h place ≡ address h place + 0 = omega arith in e)
              ∙ ap Characters (array_given place high 0 (suc high) on.has.living (omega arith)),
          ap (array_lies r) on.is ∙ yes (takes_array r) _ _ array ∙ le-leb (address h place + high) 65535 (omega (arith, low)),
        )
    one_array r (Texts cs) stack array e on =
        let low = string_low ctx s m shared cs on.offset on.text in (
          ap (λ (x : List ℕ). Characters (array_at m.store (reverse x))) on.is ∙ ap Characters (string_given cs on.offset on.text),
          ap (array_lies r) on.is ∙ yes (takes_array r) _ _ array ∙ le-leb (own.base + on.offset + (text_words cs - 1)) 65535 (omega (arith, low)),
        )
    one_array r (Scalars v) stack array e on = cc
    one_array r (Places place) stack array e on = cc
    one_array r (Wholes u) stack array e on = cc

    -- what a request finds is what its arguments give
    pub record IsGiven (r : Request) (done : List Datum) : Type 0 where
      pub same : given_by r m.store (reverse m.stack) ≡ map (given_of s.cells) done
      pub lies : array_lies r m.stack ≡ true

    other_lies : (r : Request) (stack : List ℕ) → takes_array r ≡ false → array_lies r stack ≡ true
    other_lies r [] e = refl
    other_lies r (high ∷ []) e = refl
    other_lies r (high ∷ address ∷ rest) e = no (takes_array r) _ _ e

    all_given : (r : Request) (done : List Datum) → DataOn ctx done m.stack [] → TakesAll l.scope r (map is_array done) NoMore → IsGiven r done
    all_given r done on forms = by (takes_array r) refl
      where
        are : map is_open (request_parameters r) ≡ map is_array done
        are = forms.same ∙ append-nil (map is_array done)

        only : (ds : List Datum) (stack : List ℕ) → takes_array r ≡ true → map is_array ds ≡ true ∷ [] → DataOn ctx ds stack [] → (Characters (array_at m.store (reverse stack)) ∷ [] ≡ map (given_of s.cells) ds) × (array_lies r stack ≡ true)
        only [] stack array e on = cc
        only (d ∷ []) stack array e on =
            let one = one_array r d stack array (let first : is_array d ≡ true = cc in first) (subst (λ (x : List ℕ). DatumOn ctx d x []) (sym on.2) on.1) in
            (ap (λ (g : Given). g ∷ []) one.0, one.1)
        only (d ∷ f ∷ ds) stack array e on = cc

        by : (b : Bool) → takes_array r ≡ b → IsGiven r done
        by true array =
            let y = only done m.stack array (sym are ∙ (forms_are r).0 array) on in
            record { same = yes (takes_array r) _ _ array ∙ y.0; lies = y.1 }
        by false other = record {
          same = no (takes_array r) _ _ other ∙ words_given done m.stack [] (subst AreSingle are ((forms_are r).1 other)) on;
          lies = other_lies r m.stack other;
        }

  module _ (s : Source) (k : List Item) (m : State) (c : ℕ) (a : Around) (shared : Shared ctx s m) where
    abbrev Rest : Reach
    Rest = Rows ctx k

    pub request_goes : (r : Request) (given : Arguments) → Waiting ctx (Perform (Do (resolved.Request r given))) Rest Quiet m.place m.stack c a
        → Goes ctx s (Perform (Do (resolved.Request r given)) ∷ k) m (c + 32)
    request_goes r given row =
        let none : length m.stack ≡ 0 = ap length row.part.empty in
        goes_none ctx s (Perform (Do (resolved.Request r given)) ∷ k) m 32 c
        (lands_on ctx s m shared (Perform (Passing (Requested r) [] given) ∷ k) m.place m.stack c a
        (at_once ctx _ Quiet m.place m.stack c a
        (record {
          part = record {
            on = row.part.empty;
            rest = record {
              middle = row.part.here.middle;
              given = subst (λ (n : ℕ). ArgumentsAt l piece n given m.place row.part.here.middle) (sym none) row.part.here.arguments;
              forms = record { same = ap (map is_open) row.part.here.takes; taken = subst AreTaken row.part.here.takes (all_taken r); served = row.part.here.served };
              serve = record { words = row.part.here.words ∙ (let e : arguments_words given ≡ length m.stack + arguments_words given = omega (arith, none) in e); end = row.part.end; by = row.part.here.by; within = row.part.within };
            };
          };
          then = row.then;
        })))
        (omega arith)

    -- behind an argument of so many words
    abbrev Passed : Request → List Datum → Argument → Arguments → Type 0
    Passed r done x left = Waiting ctx (Perform (Passing (Requested r) done (Also x left))) Rest Quiet m.place m.stack c a

    pub passing_goes : (r : Request) (done : List Datum) (x : Argument) (left : Arguments) → Passed r done x left → Goes ctx s (Perform (Passing (Requested r) done (Also x left)) ∷ k) m (c + 32)
    passing_goes r done (ByValue kind e) left row =
        let rest = row.part.rest in
        let value = rest.given.here in
        let behind = arguments_within l piece (1 + length m.stack) left rest.given.middle rest.middle rest.given.then (instr_within piece rest.middle (Svc (request_number r)) rest.serve.end rest.serve.by) in
        operand_goes ctx s k m c a shared (Perform (Passing (Requested r) done (Also (ByValue kind e) left)) ∷ k) e (Pass (Requested r) kind done left) refl (omega arith) value.middle value.value.value
        value.value.shallow
        (value_within ctx (length m.stack) e kind m.place rest.given.middle value behind)
        (record {
          part = record {
            takes = taken_plain kind (kind_of e) rest.forms.taken.0 value.stores;
            on = row.part.on;
            tested = rest.given.middle;
            test = value.test;
            rest = left_more r (map is_array done) (ByValue kind e) left (length m.stack) m.place rest;
          };
          then = row.then;
        })
    passing_goes r done (OfPlace d) left row = absurd row.part.rest.forms.served.0
    passing_goes r done (OfAll d) left row = absurd row.part.rest.forms.served.0
    passing_goes r done (Spelled cs count) left row = absurd row.part.rest.forms.served.0
    passing_goes r done (OfArray copied d high) left row =
        let rest = row.part.rest in
        let y = rest.given.here in
        goes_none ctx s (Perform (Passing (Requested r) done (Also (OfArray copied d high) left)) ∷ k) m 32 c
        (lands_on ctx s m shared (PlaceOf d ∷ Fill (PassArray (Requested r) high done left) ∷ k) m.place m.stack c a
        (at_once ctx _ Quiet m.place m.stack c a
        (record {
          part = record { end = y.found; here = y.here; shallow = y.shallow };
          then = at_once ctx _ (AtPlace d) y.found m.stack c a
              (record {
                part = record {
                  rows = y.rows ∙ ap (Row (suc high)) rest.forms.taken.0;
                  low = y.low;
                  room = y.room;
                  on = row.part.on;
                  start = y.start;
                  last = rest.given.middle;
                  address = y.address;
                  by = subst (λ (q : ℕ). IsAt piece y.start (Liw high) q) y.by.2 y.by.1;
                  rest = left_more r (map is_array done) (OfArray copied d high) left (length m.stack) m.place rest;
                };
                then = row.then;
              });
        })))
        (omega arith)
    passing_goes r done (OfText cs) left row =
        let rest = row.part.rest in
        let y = rest.given.here in
        let from : ℕ = own.base + y.offset in
        let stack : List ℕ = (text_words cs - 1) ∷ from ∷ m.stack in
        let low = string_low ctx s m shared cs y.offset y.text in
        let after : List Item = Perform (Passing (Requested r) (done ++ Texts cs ∷ []) left) ∷ k in
        let items : List Item = Perform (Passing (Requested r) done (Also (OfText cs) left)) ∷ k in
        let here : State = going m rest.given.middle stack in
        let count : 2 + length m.stack ≡ length stack = omega arith in
        leads ctx s items m shared (Lag y.offset) m.place y.start m.stack (from ∷ m.stack) (c + 32) (c + 1) y.address
        (yes _ _ _ (lt-ltb (own.base + y.offset) 65536 (omega (arith, low))) ∙ pushes from y.start m (omega (arith, y.room)))
        (leads ctx s items m shared (Liw (text_words cs - 1)) y.start rest.given.middle (from ∷ m.stack) stack (c + 1) c (subst (λ (q : ℕ). IsAt piece y.start (Liw (text_words cs - 1)) q) y.by.2 y.by.1)
        (pushes (text_words cs - 1) rest.given.middle (going m y.start (from ∷ m.stack)) (omega (arith, y.room)))
        (goes_none_within ctx s items here c c
        (lands_on ctx s m shared after rest.given.middle stack c a
        (at_once ctx _ Quiet rest.given.middle stack c a
        (record {
          part = record {
            on = data_more done (Texts cs) [] m.stack stack row.part.on (record { offset = y.offset; text = y.text; is = refl });
            rest = left_done r done (Texts cs) left (2 + length m.stack) (length stack) rest.given.middle count (left_more r (map is_array done) (OfText cs) left (length m.stack) m.place rest);
          };
          then = row.then;
        })))
        (omega arith)
        (omega arith))
        (omega arith))
        (omega arith)
    passing_goes r done (OfOpened copied n x) left row =
        let rest = row.part.rest in
        let y = rest.given.here in
        let o = y.opened in
        let items : List Item = Perform (Passing (Requested r) done (Also (OfOpened copied n x) left)) ∷ k in
        let now : Source = record s { items = items; phase = Going } in
        let z = opened_here ctx now m shared (closed ctx k _ _ _ _ _ row.then) n x o.offset o.copied o.element o.at o.typed o.there in
        let stack : List ℕ = z.high ∷ address h z.place ∷ m.stack in
        let after : List Item = Perform (Passing (Requested r) (done ++ Opens z.place z.high ∷ []) left) ∷ k in
        let here : State = going m rest.given.middle stack in
        let count : 2 + length m.stack ≡ length stack = omega arith in
        let element : o.element ≡ Word OfCharacter = sym (ap (λ (t : Option Shape). along (shape_by t)) o.typed) ∙ rest.forms.taken.0 in
        let becomes : Option (Place × ℕ) → Source = λ t. handed_on t (Requested r) done left k now in
        let falls : stutter after < stutter items = omega arith in
        words_loaded ctx s k m c a shared items n x o.offset o.element z m.place rest.given.middle m.stack (c + 32) c (omega (arith, y.room)) (y.start, y.first, y.by)
        (goes_none_within ctx s items here c c
        (subst (λ (t : Source). Lands ctx t.phase t (running here s.world) c) (sym (ap becomes z.found))
        (lands_on ctx s m shared after rest.given.middle stack c a
        (at_once ctx _ Quiet rest.given.middle stack c a
        (record {
          part = record {
            on = data_more done (Opens z.place z.high) [] m.stack stack row.part.on
                (record { has = record { seen = z.seen; living = z.living ∙ ap (Row (suc z.high)) element; there = refl; at = refl }; low = z.last; is = refl });
            rest = left_done r done (Opens z.place z.high) left (2 + length m.stack) (length stack) rest.given.middle count (left_more r (map is_array done) (OfOpened copied n x) left (length m.stack) m.place rest);
          };
          then = row.then;
        }))))
        (omega arith)
        (subst (λ (t : Source). stutter t.items < stutter items) (sym (ap becomes z.found)) falls))
        (omega arith)

    -- an array is there: its address, and the number of its last element
    pub pass_array_goes : (r : Request) (high : ℕ) (done : List Datum) (left : Arguments) (place : Place) (d : Designator) (below : List ℕ) → Designates ctx d place m.stack below
        → Waiting ctx (Fill (PassArray (Requested r) high done left)) Rest (AtPlace d) m.place below c a → Goes ctx s (Value (Places place) ∷ Fill (PassArray (Requested r) high done left) ∷ k) m (c + 32)
    pass_array_goes r high done left place d below has row =
        let y = row.part in
        let items : List Item = Value (Places place) ∷ Fill (PassArray (Requested r) high done left) ∷ k in
        let after : List Item = Perform (Passing (Requested r) (done ++ Opens place high ∷ []) left) ∷ k in
        let stack : List ℕ = high ∷ address h place ∷ below in
        let count : 2 + length below ≡ length stack = omega arith in
        addressed ctx s items m shared (access_of l d) place (shape_of l.scope d) m.stack below has (omega (arith, y.room)) m.place y.start (c + 32) (c + 1) y.address
        (leads ctx s items m shared (Liw high) y.start y.last (address h place ∷ below) stack (c + 1) c y.by
        (pushes high y.last (going m y.start (address h place ∷ below)) (omega (arith, y.room)))
        (goes_none_within ctx s items (going m y.last stack) c c
        (lands_on ctx s m shared after y.last stack c a
        (at_once ctx _ Quiet y.last stack c a
        (record {
          part = record {
            on = data_more done (Opens place high) [] below stack y.on
                (record { has = record { seen = has.seen; living = has.living ∙ y.rows; there = refl; at = refl }; low = y.low; is = refl });
            rest = left_done r done (Opens place high) left (2 + length below) (length stack) y.last count y.rest;
          };
          then = row.then;
        })))
        (omega arith)
        (omega arith))
        (omega arith))
        (omega arith)

    pub pass_goes : (r : Request) (to : Kind) (done : List Datum) (left : Arguments) (v : Scalar) (kind : Kind) → within kind v ≡ true → (below : List ℕ) → m.stack ≡ word_for h v ∷ below
        → Waiting ctx (Fill (Pass (Requested r) to done left)) Rest (ValueOf kind) m.place below c a → Goes ctx s (Value (Scalars v) ∷ Fill (Pass (Requested r) to done left) ∷ k) m (c + 32)
    pass_goes r to done left v kind fit below is row =
        let items : List Item = Value (Scalars v) ∷ Fill (Pass (Requested r) to done left) ∷ k in
        let now : Source = record s { items = items; phase = Going } in
        let after : List Item = Perform (Passing (Requested r) (done ++ Scalars v ∷ []) left) ∷ k in
        let becomes : Bool → Source = λ b. cond b (with_items now after) (trapped library now trap.Range) in
        let stack_is : m.stack ≡ scalar_word v ∷ below = is ∙ ap (λ (w : ℕ). w ∷ below) (plain_word h kind v (takes_plain to kind row.part.takes).1 fit) in
        let count : 1 + length below ≡ length m.stack = omega (arith, ap length stack_is) in
        let falls : stutter after < stutter items = omega arith in
        tested ctx s items m shared m.place m.stack to kind v row.part.takes fit below stack_is
        row.part.tested (c + 32) c row.part.test (closed ctx k _ _ _ _ _ row.then)
        (λ out. ap becomes out)
        (λ one.
        goes_none_within ctx s items (going m row.part.tested m.stack) c c
        (subst (λ (t : Source). Lands ctx t.phase t (running (going m row.part.tested m.stack) s.world) c) (sym (ap becomes one))
        (lands_on ctx s m shared after row.part.tested m.stack c a
        (at_once ctx _ Quiet row.part.tested m.stack c a
        (record {
          part = record {
            on = data_more done (Scalars v) [] below m.stack row.part.on stack_is;
            rest = left_done r done (Scalars v) left (1 + length below) (length m.stack) row.part.tested count row.part.rest;
          };
          then = row.then;
        }))))
        (omega arith)
        (subst (λ (t : Source). stutter t.items < stutter items) (sym (ap becomes one)) falls))
        (omega arith)

    pub serve_goes : (r : Request) (done : List Datum) → Waiting ctx (Perform (Passing (Requested r) done NoMore)) Rest Quiet m.place m.stack c a
        → Goes ctx s (Perform (Passing (Requested r) done NoMore) ∷ k) m (c + 32)
    serve_goes r done row =
        let count : ℕ = request_words r in
        let all : count ≡ length m.stack = omega (arith, row.part.rest.serve.words) in
        let by = subst (λ (p : ℕ). IsAt piece p (Svc (request_number r)) row.part.rest.serve.end) (sym row.part.rest.given) row.part.rest.serve.by in
        let enough : nat_le count (length m.stack) ≡ true = le-leb count (length m.stack) (omega arith) in
        let none_left : drop count m.stack ≡ [] = drop_all count m.stack (omega arith) in
        let y = all_given s m shared r done row.part.on row.part.rest.forms in
        let given : given_by r m.store (reverse (take count m.stack)) ≡ map (given_of s.cells) done =
        ap (λ (x : List ℕ). given_by r m.store (reverse x)) (take_all count m.stack (omega arith)) ∙ y.same in
        let machine : State = record m { place = row.part.rest.serve.end; stack = [] } in
        let w : World = (serve (level_of s) r (map (given_of s.cells) done) s.world).0 in
        let at : List ℕ → List Given → Run = λ x given. record { machine = record m { place = row.part.rest.serve.end; stack = x }; world = (serve (level_of s) r given s.world).0; finish = Running } in
        goes_one ctx s (Perform (Passing (Requested r) done NoMore) ∷ k) m 31 c (running machine w)
        (advances m s.world _ (
        at_step ctx m shared.program (Svc (request_number r)) row.part.rest.serve.end by
        ∙ ap (request_row row.part.rest.serve.end m) (request_found r)
        ∙ yes _ _ _ (and_from _ _ enough y.lies)
        )
        ∙ ap (λ (x : List ℕ). at x (given_by r m.store (reverse (take count m.stack)))) none_left
        ∙ ap (at []) given)
        (record {
          machine = machine;
          is = refl;
          met = record {
            shared = shared;
            around = a;
            ahead = rows_ahead ctx k row.part.rest.serve.end [] c a row.then;
          };
        })
