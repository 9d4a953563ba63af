-- What was given for parameters, as the words, slots and cells of the activation that begins.
use Rattle.std.proofs.Common.{◌≡◌, ℕ, zero, suc, ◌+◌, ◌<◌, ◌≤◌, ◌⊎◌, inl, inr, Bool, true, false, None, Some, List, [], ◌∷◌, ◌++◌, length, map, get_or, refl, sym, ap, ◌∙◌, subst, arith}
use Rattle.std.specs.Prelude.{slice_get, option_map}
use Rattle.std.proofs.lemmas.Option.{none-some, same_Some, slice_get-map}
use Rattle.lil_resolved.specs.Kinds.{Kind, OfCharacter, Shape, Absent, Word, Blank, Join, Row, Address, Opened, words, is_there, part_at, offset as part_offset, all_words, offsets_from}
use Rattle.lil_meaning.specs.{Items.{Slot, Cells, Local, Place, Under, Datum, Scalars, Places, Wholes, Opens, Texts, Here, At, Along, begun, alone, zero_in}, Steps.{own_slot, slot_of, slots_by}, Need.{copy_words, copies_words}}
use Rattle.lil_table.specs.Rows.{copy_code}
use Rattle.lil_match.specs.{Parts.{part_fits, word_long}, Homes.{IsWord, address, shape_there, zero_is}, Waits.{Setting, sees, frames_of, GivenAll, GivenText, GivenWords, AllGiven}, Kept.offset_low}

no_place : (t : Shape) → is_there (Address t) ≡ true → ⊥
no_place t e = (let clash : false ≡ true = e in cc)

no_array : (copied : Bool) (t : Shape) → is_there (Opened copied t) ≡ true → ⊥
no_array copied t e = (let clash : false ≡ true = e in cc)

same_element : (c d : Bool) (t u : Shape) → Opened c t ≡ Opened d u → t ≡ u
same_element c d t u e = cc

not_lent : (t u : Shape) → Opened true t ≡ Opened false u → ⊥
not_lent t u e = cc

no_target : (c : Bool) (t u : Shape) → Opened c t ≡ Address u → ⊥
no_target c t u e = cc

no_opened : (c : Bool) (t u : Shape) → Address u ≡ Opened c t → ⊥
no_opened c t u e = cc

same_target : (t u : Shape) → Address t ≡ Address u → t ≡ u
same_target t u e = cc

module _ (ctx : Setting) where
  -- as many as parameters
  pub given_many : (ts : List Shape) (ds : List Datum) (at : ℕ) → AllGiven ctx ts ds at → length ts ≡ length ds
  given_many [] [] at r = refl
  given_many (t ∷ ts) (d ∷ ds) at r = omega (arith, given_many ts ds (at + words t) r.1)
  given_many ts ds at r = absurd r

  -- ---- slots
  slot_here : (ts : List Shape) (x : ℕ) (t : Shape) → slice_get ts x ≡ Some t → slice_get (map own_slot ts) x ≡ Some Here
  slot_here ts x t e = slice_get-map own_slot ts x ∙ ap (option_map own_slot) e

  here_of : (own : Place) (t : Shape) (d : Datum) (at : ℕ) → GivenWords ctx t d at → is_there t ≡ true → Some (slot_of own t d) ≡ Some Here
  here_of own t (Scalars v) at r there = refl
  here_of own t (Wholes u) at r there = refl
  here_of own t (Places place) at r there = absurd (no_place r.to (sym (ap is_there r.is) ∙ there))
  here_of own t (Opens place high) at r there = absurd (no_array r.copied r.to (sym (ap is_there r.is) ∙ there))
  here_of own t (Texts cs) at r there = absurd (no_array true (Word OfCharacter) (sym (ap is_there r.is) ∙ there))

  -- of a variable that has cells
  pub slots_here : (a x : ℕ) (ts : List Shape) (ds : List Datum) (rest : List Shape) (at y : ℕ) (t : Shape) → AllGiven ctx ts ds at → slice_get (ts ++ rest) y ≡ Some t → is_there t ≡ true → slice_get (slots_by a x ds (ts ++ rest)) y ≡ Some Here
  slots_here a x [] [] rest at y t r typed there = slot_here rest y t typed
  slots_here a x (u ∷ ts) (d ∷ ds) rest at zero t r typed there = here_of (record { root = Local a x; path = [] }) u d at r.0 (ap is_there (same_Some u t typed) ∙ there)
  slots_here a x (u ∷ ts) (d ∷ ds) rest at (suc y) t r typed there = slots_here a (suc x) ts ds rest (at + words u) y t r.1 typed there
  slots_here a x ts ds rest at y t r typed there = absurd r

  -- ---- lists that are longer
  pub slice_more : (ts rest : List Shape) (y : ℕ) (t : Shape) → slice_get ts y ≡ Some t → slice_get (ts ++ rest) y ≡ Some t
  slice_more [] rest y t e = absurd (none-some t e)
  slice_more (u ∷ ts) rest zero t e = e
  slice_more (u ∷ ts) rest (suc y) t e = slice_more ts rest y t e

  pub offsets_more : (n : ℕ) (ts rest : List Shape) (y o : ℕ) → slice_get (offsets_from n ts) y ≡ Some o → slice_get (offsets_from n (ts ++ rest)) y ≡ Some o
  offsets_more n [] rest y o e = absurd (none-some o e)
  offsets_more n (u ∷ ts) rest zero o e = e
  offsets_more n (u ∷ ts) rest (suc y) o e = offsets_more (n + words u) ts rest y o e

  pub slots_more : (a x : ℕ) (ts : List Shape) (ds : List Datum) (rest : List Shape) (at y : ℕ) (v : Slot) → AllGiven ctx ts ds at → slice_get (slots_by a x ds ts) y ≡ Some v → slice_get (slots_by a x ds (ts ++ rest)) y ≡ Some v
  slots_more a x [] [] rest at y v r e = absurd (none-some v e)
  slots_more a x (t ∷ ts) (d ∷ ds) rest at zero v r e = e
  slots_more a x (t ∷ ts) (d ∷ ds) rest at (suc y) v r e = slots_more a (suc x) ts ds rest (at + words t) y v r.1 e
  slots_more a x ts ds rest at y v r e = absurd r

  own_short : (ts : List Shape) → copies_words ts (map own_slot ts) ≡ 0
  own_short [] = refl
  own_short (t ∷ ts) = omega (arith, own_short ts)

  -- parameters alone are copied
  pub copies_same : (a x : ℕ) (ts : List Shape) (ds : List Datum) (rest : List Shape) (at : ℕ) → AllGiven ctx ts ds at → copies_words (ts ++ rest) (slots_by a x ds (ts ++ rest)) ≡ copies_words ts (slots_by a x ds ts)
  copies_same a x [] [] rest at r = own_short rest
  copies_same a x (t ∷ ts) (d ∷ ds) rest at r = omega (arith, copies_same a (suc x) ts ds rest (at + words t) r.1)
  copies_same a x ts ds rest at r = absurd r

  there_code : (o : ℕ) (t : Shape) → is_there t ≡ true → copy_code o t ≡ []
  there_code o Absent e = cc
  there_code o (Word k) e = refl
  there_code o Blank e = refl
  there_code o (Join t u) e = refl
  there_code o (Row n t) e = refl
  there_code o (Address t) e = cc
  there_code o (Opened copied t) e = cc

  -- what was given for a parameter that isn't copied
  pub record IsPlain (own : Place) (t : Shape) (d : Datum) : Type 0 where
    pub code : (o : ℕ) → copy_code o t ≡ []
    pub short : copy_words (slot_of own t d) t ≡ 0

  -- or for one that is
  pub record IsArray (place : Place) (high : ℕ) (at : ℕ) (t : Shape) : Type 0 where
    pub to : Shape
    pub is : t ≡ Opened true to
    pub living : shape_there ctx.home place ≡ Row (suc high) to
    pub seen : sees (frames_of ctx.stack) place.root ≡ true
    pub low : high ≤ 65535
    pub word : ctx.home.shadow at ≡ address ctx.home place
    pub word_high : ctx.home.shadow (at + 1) ≡ high

  abbrev pub IsCopied : Shape → Datum → ℕ → Type 0
  IsCopied t (Scalars v) at = ⊥
  IsCopied t (Places place) at = ⊥
  IsCopied t (Wholes u) at = ⊥
  IsCopied t (Opens place high) at = IsArray place high at t
  IsCopied t (Texts cs) at = GivenText ctx t cs at

  pub given_form : (own : Place) (t : Shape) (d : Datum) (at : ℕ) → GivenWords ctx t d at → IsPlain own t d ⊎ IsCopied t d at
  given_form own t (Scalars v) at r = inl (record { code = λ o. there_code o t r.there; short = refl })
  given_form own t (Wholes u) at r = inl (record { code = λ o. there_code o t r.there; short = refl })
  given_form own t (Places place) at r = inl (record { code = λ o. ap (copy_code o) r.is; short = refl })
  given_form own t (Opens place high) at r = by r.copied r.is
    where
      by : (b : Bool) → t ≡ Opened b r.to → IsPlain own t (Opens place high) ⊎ IsCopied t (Opens place high) at
      by false is = inl (record { code = λ o. ap (copy_code o) is; short = ap (λ (z : Shape). copy_words (slot_of own z (Opens place high)) z) is })
      by true is = inr (record { to = r.to; is = is; living = r.living; seen = r.seen; low = r.low; word = r.word; word_high = r.word_high })
  given_form own t (Texts cs) at r = inr r

  -- of a place that was handed in, whose address lies where the parameter does
  pub record HandedWord (a x : ℕ) (ts : List Shape) (ds : List Datum) (rest : List Shape) (at : ℕ) (y : ℕ) (t : Shape) : Type 0 where
    pub place : Place
    pub slot : slice_get (slots_by a x ds (ts ++ rest)) y ≡ Some (At place)
    pub seen : sees (frames_of ctx.stack) place.root ≡ true
    pub living : shape_there ctx.home place ≡ t
    pub there : is_there t ≡ true
    pub word : ctx.home.shadow at ≡ address ctx.home place

  place_of : (a x : ℕ) (u : Shape) (us : List Shape) (d : Datum) (ds : List Datum) (rest : List Shape) (at : ℕ) (t : Shape) → GivenWords ctx u d at → u ≡ Address t → HandedWord a x (u ∷ us) (d ∷ ds) rest at 0 t
  place_of a x u us (Scalars v) ds rest at t r e = absurd (no_place t (sym (ap is_there e) ∙ r.there))
  place_of a x u us (Wholes w) ds rest at t r e = absurd (no_place t (sym (ap is_there e) ∙ r.there))
  place_of a x u us (Places place) ds rest at t r e =
      let same : r.to ≡ t = same_target r.to t (sym r.is ∙ e) in
      record { place = place; slot = refl; seen = r.seen; living = r.living ∙ same; there = sym (ap is_there same) ∙ r.there; word = r.word }
  place_of a x u us (Opens place high) ds rest at t r e = absurd (no_target r.copied r.to t (sym r.is ∙ e))
  place_of a x u us (Texts cs) ds rest at t r e = absurd (no_target true (Word OfCharacter) t (sym r.is ∙ e))

  pub handed_word : (a x : ℕ) (ts : List Shape) (ds : List Datum) (rest : List Shape) (from n y o : ℕ) (t : Shape) → AllGiven ctx ts ds (from + n) → slice_get (offsets_from n (ts ++ rest)) y ≡ Some o → slice_get ts y ≡ Some (Address t) → HandedWord a x ts ds rest (from + o) y t
  handed_word a x [] [] rest from n y o t r at typed = absurd (none-some (Address t) typed)
  handed_word a x (u ∷ ts) (d ∷ ds) rest from n zero o t r at typed =
      subst (λ (i : ℕ). HandedWord a x (u ∷ ts) (d ∷ ds) rest (from + i) 0 t) (same_Some n o at) (place_of a x u ts d ds rest (from + n) t r.0 (same_Some u (Address t) typed))
  handed_word a x (u ∷ ts) (d ∷ ds) rest from n (suc y) o t r at typed =
      let one = handed_word a (suc x) ts ds rest from (n + words u) y o t (subst (AllGiven ctx ts ds) (let e : from + n + words u ≡ from + (n + words u) = omega arith in e) r.1) at typed in
      record { place = one.place; slot = one.slot; seen = one.seen; living = one.living; there = one.there; word = one.word }
  handed_word a x ts ds rest from n y o t r at typed = absurd r

  -- of an open array that isn't copied, whose address and last number lie there
  pub record OpenedWords (a x : ℕ) (ts : List Shape) (ds : List Datum) (rest : List Shape) (at : ℕ) (y : ℕ) (t : Shape) : Type 0 where
    pub place : Place
    pub high : ℕ
    pub slot : slice_get (slots_by a x ds (ts ++ rest)) y ≡ Some (Along place high)
    pub seen : sees (frames_of ctx.stack) place.root ≡ true
    pub living : shape_there ctx.home place ≡ Row (suc high) t
    pub low : high ≤ 65535
    pub word : ctx.home.shadow at ≡ address ctx.home place
    pub word_high : ctx.home.shadow (at + 1) ≡ high

  array_of : (a x : ℕ) (u : Shape) (us : List Shape) (d : Datum) (ds : List Datum) (rest : List Shape) (at : ℕ) (t : Shape) → GivenWords ctx u d at → u ≡ Opened false t → OpenedWords a x (u ∷ us) (d ∷ ds) rest at 0 t
  array_of a x u us (Scalars v) ds rest at t r e = absurd (no_array false t (sym (ap is_there e) ∙ r.there))
  array_of a x u us (Wholes w) ds rest at t r e = absurd (no_array false t (sym (ap is_there e) ∙ r.there))
  array_of a x u us (Places place) ds rest at t r e = absurd (no_opened false t r.to (sym r.is ∙ e))
  array_of a x u us (Opens place high) ds rest at t r e =
      let same : r.to ≡ t = same_element r.copied false r.to t (sym r.is ∙ e) in
      record { place = place; high = high; slot = ap (λ (z : Shape). Some (slot_of (record { root = Local a x; path = [] }) z (Opens place high))) e; seen = r.seen; living = r.living ∙ ap (Row (suc high)) same; low = r.low; word = r.word; word_high = r.word_high }
  array_of a x u us (Texts cs) ds rest at t r e = absurd (not_lent (Word OfCharacter) t (sym r.is ∙ e))

  pub opened_words : (a x : ℕ) (ts : List Shape) (ds : List Datum) (rest : List Shape) (from n y o : ℕ) (t : Shape) → AllGiven ctx ts ds (from + n) → slice_get (offsets_from n (ts ++ rest)) y ≡ Some o → slice_get ts y ≡ Some (Opened false t) → OpenedWords a x ts ds rest (from + o) y t
  opened_words a x [] [] rest from n y o t r at typed = absurd (none-some (Opened false t) typed)
  opened_words a x (u ∷ ts) (d ∷ ds) rest from n zero o t r at typed =
      subst (λ (i : ℕ). OpenedWords a x (u ∷ ts) (d ∷ ds) rest (from + i) 0 t) (same_Some n o at) (array_of a x u ts d ds rest (from + n) t r.0 (same_Some u (Opened false t) typed))
  opened_words a x (u ∷ ts) (d ∷ ds) rest from n (suc y) o t r at typed =
      let one = opened_words a (suc x) ts ds rest from (n + words u) y o t (subst (AllGiven ctx ts ds) (let e : from + n + words u ≡ from + (n + words u) = omega arith in e) r.1) at typed in
      record { place = one.place; high = one.high; slot = one.slot; seen = one.seen; living = one.living; low = one.low; word = one.word; word_high = one.word_high }
  opened_words a x ts ds rest from n y o t r at typed = absurd r

  -- a parameter's words lie among those of the parameters
  pub given_low : (ts rest : List Shape) (n y o : ℕ) (t : Shape) → slice_get (offsets_from n (ts ++ rest)) y ≡ Some o → slice_get ts y ≡ Some t → (n ≤ o) × (o + words t ≤ n + all_words ts)
  given_low [] rest n y o t at typed = absurd (none-some t typed)
  given_low (u ∷ ts) rest n zero o t at typed = let here = same_Some n o at in (omega (arith, here), omega (arith, here, ap words (same_Some u t typed)))
  given_low (u ∷ ts) rest n (suc y) o t at typed = let low = given_low ts rest (n + words u) y o t at typed in (omega (arith, low.0), omega (arith, low.1))

  -- ---- cells, as the words of a store from a word on
  module _ (cells : Cells) (store : List ℕ) (from : ℕ) where
    under_cells : (u : Under) (t : Shape) (n o : ℕ) (q : List ℕ) (j : Kind) → GivenAll ctx t u (from + n) → n ≡ o → ((i : ℕ) → i < words t → get_or store (from + n + i) 0 ≡ ctx.home.shadow (from + n + i)) → part_at t q ≡ Word j
        → IsWord ctx.home j (u q) (get_or store (from + o + part_offset t q) 0)
    under_cells u t n o q j r same there is =
        let small : part_offset t q < words t = omega (arith, part_fits t q (ap is_there is), word_long (part_at t q) j is) in
        subst (IsWord ctx.home j (u q)) (sym (ap (λ (i : ℕ). get_or store (from + i + part_offset t q) 0) (sym same) ∙ there (part_offset t q) small)) (r.cells q j is)

    first_cells : (t : Shape) (d : Datum) (n o : ℕ) (q : List ℕ) (j : Kind) → GivenWords ctx t d (from + n) → n ≡ o → ((i : ℕ) → i < words t → get_or store (from + n + i) 0 ≡ ctx.home.shadow (from + n + i)) → is_there t ≡ true → part_at t q ≡ Word j
        → IsWord ctx.home j (begun cells (Some d) t q) (get_or store (from + o + part_offset t q) 0)
    first_cells t (Scalars v) n o q j r same there lives is = under_cells (alone v) t n o q j r same there is
    first_cells t (Wholes u) n o q j r same there lives is = under_cells u t n o q j r same there is
    first_cells t (Places place) n o q j r same there lives is = absurd (no_place r.to (sym (ap is_there r.is) ∙ lives))
    first_cells t (Opens place high) n o q j r same there lives is = absurd (no_array r.copied r.to (sym (ap is_there r.is) ∙ lives))
    first_cells t (Texts cs) n o q j r same there lives is = absurd (no_array true (Word OfCharacter) (sym (ap is_there r.is) ∙ lives))

    pub given_cells : (ts : List Shape) (ds : List Datum) (rest : List Shape) (n : ℕ) → AllGiven ctx ts ds (from + n) → ((i : ℕ) → i < all_words ts → get_or store (from + n + i) 0 ≡ ctx.home.shadow (from + n + i))
        → ((i : ℕ) → from + n + all_words ts ≤ i → i < from + n + all_words ts + all_words rest → get_or store i 0 ≡ 0) → (y o : ℕ) (t : Shape) (q : List ℕ) (j : Kind) → slice_get (offsets_from n (ts ++ rest)) y ≡ Some o → slice_get (ts ++ rest) y ≡ Some t → is_there t ≡ true → part_at t q ≡ Word j
        → IsWord ctx.home j (begun cells (slice_get ds y) t q) (get_or store (from + o + part_offset t q) 0)
    given_cells [] [] rest n r same zeros y o t q j at typed there is =
        let low = offset_low n rest y o t at typed in
        let small : part_offset t q < words t = omega (arith, part_fits t q (ap is_there is), word_long (part_at t q) j is) in
        zero_is ctx.home j (begun cells None t q) (get_or store (from + o + part_offset t q) 0) (ap zero_in is) (zeros (from + o + part_offset t q) (omega (arith, low.0)) (omega (arith, low.1, small)))
    given_cells (u ∷ ts) (d ∷ ds) rest n r same zeros zero o t q j at typed there is =
        let one : u ≡ t = same_Some u t typed in
        subst (λ (z : Shape). IsWord ctx.home j (begun cells (Some d) z q) (get_or store (from + o + part_offset z q) 0)) one
        (first_cells u d n o q j r.0 (same_Some n o at) (λ i less. same i (omega (arith, less))) (ap is_there one ∙ there) (ap (λ (z : Shape). part_at z q) one ∙ is))
    given_cells (u ∷ ts) (d ∷ ds) rest n r same zeros (suc y) o t q j at typed there is =
        given_cells ts ds rest (n + words u) (subst (AllGiven ctx ts ds) (let e : from + n + words u ≡ from + (n + words u) = omega arith in e) r.1)
        (λ i less.
        let e : from + (n + words u) + i ≡ from + n + (words u + i) = omega arith in
        ap (λ (z : ℕ). get_or store z 0) e ∙ same (words u + i) (omega (arith, less)) ∙ ap ctx.home.shadow (sym e))
        (λ i low high. zeros i (omega (arith, low)) (omega (arith, high)))
        y o t q j at typed there is
    given_cells ts ds rest n r same zeros y o t q j at typed there is = absurd r
