-- What the words of strings are, and the rows of a string that goes to an array.
use Rattle.std.proofs.Common.{◌≡◌, ℕ, ◌+◌, ◌-◌, ◌<◌, ◌≤◌, List, [], ◌∷◌, length, get_or, take, drop, refl, sym, ap, ◌∙◌, ⊎_elim, arith, length-append, length-drop}
use Rattle.std.proofs.lemmas.{Bool.{cases_lt, lt-ltb}, List.{get_or-take, get_or_append_left, get_or-append_right, get_or-drop, get_or_past, length-take-le}}
use Rattle.lil_resolved.specs.{Resolved.{Designator, Text, shape_of}}
use Rattle.lil_meaning.specs.Items.{Place, stored, text_under, Places, TextTo, Do, Item, Value, Fill, Perform, Source}
use Rattle.lil_asm.specs.declared.instr.Instr.TheVariants.{Lag, Mvz}
use Rattle.lil_mcode.specs.Table.{State, act, going}
use Rattle.lil_frames.specs.Words.{spliced, zeros, moved}
use Rattle.lil_table.specs.Rows.{HasText, text_words, access_of}
use Rattle.lil_match.specs.{Goes.{Shared, Goes}, Running.running, Parts.yes, Splices.{zeros_length, zeros_word}, Homes.{address, Mem, mem_written}, Waits.{Setting, frame_of, laid_out, Quiet, AtPlace, Around, Reach, Rows, Designates, placed, Waiting}, Steps.{advances, at_step, pushes, rows_ahead, shared_with, goes_one, located_goes}}
use Rattle.lil_laws_place.specs.Codes.{leads, addressed, written}

module _ (ctx : Setting) where
  open ctx use {home as h}
  open frame_of ctx use {own, piece}
  open laid_out ctx use {layout as l}

  -- a string's words lie in the store
  pub string_low : (s : Source) (m : State) → Shared ctx s m → (cs : List ℕ) (offset : ℕ) → HasText l cs offset → own.base + offset + text_words cs ≤ 65535
  string_low s m shared cs offset text = omega (arith, shared.standing.known.inside, text.is, text.inside)

  -- each is its character
  pub string_word : (s : Source) (m : State) → Shared ctx s m → (cs : List ℕ) (offset : ℕ) → HasText l cs offset → (i : ℕ) → i < text_words cs → get_or m.store (own.base + offset + i) 0 ≡ get_or cs i 0
  string_word s m shared cs offset text i less =
      let at : own.base + offset + i ≡ own.base + (l.words + (text.at + i)) = omega (arith, text.is) in
      let word = shared.standing.known.strings (text.at + i) (omega (arith, less, text.inside)) in
      ap (λ (a : ℕ). get_or m.store a 0) at ∙ shared.mem.fixed (own.base + (l.words + (text.at + i))) word.0 ∙ word.1 ∙ text.words i less

  module _ (s : Source) (k : List Item) (m : State) (c : ℕ) (a : Around) (shared : Shared ctx s m) where
    abbrev Rest : Reach
    Rest = Rows ctx k

    pub text_goes : (d : Designator) (cs : List ℕ) → Waiting ctx (Perform (Do (Text d cs))) Rest Quiet m.place m.stack c a → Goes ctx s (Perform (Do (Text d cs)) ∷ k) m (c + 32)
    text_goes d cs row =
        let r = row.part.here in
        located_goes ctx s k m c a shared (Perform (Do (Text d cs)) ∷ k) d (TextTo cs) refl (omega arith) r.found r.here (omega (arith, r.shallow, ap length row.part.empty))
        (record { part = placed ctx.stack.frame (Text d cs) a (λ p q r. r.found) m.place m.stack row.part; then = row.then })

    -- the words that come to an array are those of the string, and zeros behind them
    front_long : (cs : List ℕ) (offset : ℕ) → HasText l cs offset → length (take (length cs) (drop (own.base + offset) m.store)) ≡ length cs
    front_long cs offset text =
        length-take-le (length cs) (drop (own.base + offset) m.store) (omega (arith, length-drop (own.base + offset) m.store, shared.mem.long, string_low s m shared cs offset text))

    moved_long : (cs : List ℕ) (offset count : ℕ) → HasText l cs offset → length cs ≤ count → length (moved m.store (own.base + offset) (length cs) (count - length cs)) ≡ count
    moved_long cs offset count text fits =
        omega (
          arith,
          length-append (take (length cs) (drop (own.base + offset) m.store)) (zeros (count - length cs)),
          front_long cs offset text,
          zeros_length (count - length cs),
          fits,
        )

    moved_word : (cs : List ℕ) (offset count : ℕ) → HasText l cs offset → (i : ℕ) → i < count → get_or (moved m.store (own.base + offset) (length cs) (count - length cs)) i 0 ≡ get_or cs i 0
    moved_word cs offset count text i less =
        let front : List ℕ = take (length cs) (drop (own.base + offset) m.store) in
        let long : length (take (length cs) (drop (own.base + offset) m.store)) ≡ length cs = front_long cs offset text in
        ⊎_elim
        (λ (l : i < length cs).
        get_or_append_left front (zeros (count - length cs)) 0 i (omega (arith, long, l))
        ∙ get_or-take (length cs) (drop (own.base + offset) m.store) i 0 l
        ∙ get_or-drop (own.base + offset) m.store i 0
        ∙ string_word s m shared cs offset text i (omega (arith, l)))
        (λ (g : length cs ≤ i).
        get_or-append_right front (zeros (count - length cs)) (length cs) i 0 long g
        ∙ zeros_word (count - length cs) (i - length cs) (omega (arith, less, g))
        ∙ sym (get_or_past cs i 0 g))
        (cases_lt i (length cs))

    -- the array is there
    pub text_to_goes : (cs : List ℕ) (place : Place) (d : Designator) (below : List ℕ) → Designates ctx d place m.stack below
        → Waiting ctx (Fill (TextTo cs)) Rest (AtPlace d) m.place below c a → Goes ctx s (Value (Places place) ∷ Fill (TextTo cs) ∷ k) m (c + 32)
    text_to_goes cs place d below has row =
        let amid = row.part.amid in
        let r = amid.here in
        let items : List Item = Value (Places place) ∷ Fill (TextTo cs) ∷ k in
        let from : ℕ = own.base + r.offset in
        let low : own.base + r.offset + text_words cs ≤ 65535 = string_low s m shared cs r.offset r.text in
        let ws : List ℕ = moved m.store (own.base + r.offset) (length cs) (r.count - length cs) in
        let here : State = going m r.last (from ∷ address h place ∷ below) in
        let store : List ℕ = spliced m.store (address h place) ws in
        let machine : State = record m { place = amid.end; stack = []; store = store } in
        let mem : Mem h (stored s.cells place (text_under cs)) store =
        mem_written h s.cells m.store place r.count cs ws shared.mem (has.living ∙ r.rows) r.text.text (moved_long cs r.offset r.count r.text r.fits) (λ i less. moved_word cs r.offset r.count r.text i less) in
        addressed ctx s items m shared (access_of l d) place (shape_of l.scope d) m.stack below has (omega (arith, ap length row.part.empty)) m.place r.start (c + 32) (c + 2) (rw amid.at r.address)
        (leads ctx s items m shared (Lag r.offset) r.start r.last (address h place ∷ below) (from ∷ address h place ∷ below) (c + 2) (c + 1) r.source
        (yes _ _ _ (lt-ltb (own.base + r.offset) 65536 (omega (arith, low)))
        ∙ pushes from r.last (going m r.start (address h place ∷ below)) (omega (arith, ap length row.part.empty)))
        (goes_one ctx s items here 0 c (running machine s.world)
        (advances here s.world _ (
        at_step ctx here shared.program (Mvz (length cs) (r.count - length cs)) amid.end r.by
        ∙ ap (λ (x : List ℕ). act (Mvz (length cs) (r.count - length cs)) amid.end own (going m r.last (from ∷ address h place ∷ x))) row.part.empty
        ∙ written ctx s m shared place r.count cs (has.living ∙ r.rows) r.fits from (omega (arith, low)) r.last amid.end
        ))
        (record {
          machine = machine;
          is = refl;
          met = record { shared = shared_with ctx s m shared mem; around = a; ahead = rows_ahead ctx k amid.end [] c a row.then };
        }))
        (omega arith))
        (omega arith)
