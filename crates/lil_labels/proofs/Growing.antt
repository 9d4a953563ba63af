-- Labels and strings that are added to a draft.
use Rattle.std.proofs.Common.{◌≡◌, ℕ, zero, suc, ◌+◌, ◌%◌, ◌<◌, ◌≤◌, true, List, [], ◌∷◌, ◌++◌, length, get_or, Option, Some, None, refl, sym, ap, ◌∙◌, subst, arith, length-append, append-nil, append_assoc}
use Rattle.std.specs.Prelude.{slice_get}
use Rattle.std.proofs.lemmas.{Option.slice_get_within, List.{get_or_append_left, get_or-append-add}}
use Rattle.lil_resolved.specs.{Sound.is_text, Sizes.words_of}
use Rattle.lil_table.specs.Rows.{Layout, HasText, text_words}
use Rattle.lil_labels.specs.{declared.buffer.{Jump.Jump, Fixup.Fixup}, Entries.{get_front, get_last}, Tables.Tables, Drafts.{Draft, Adds, Emits, Nothing, Makes, Saying}}

-- ---- labels
module _ (tables : Tables) (strings bytes : List ℕ) (places more : List (Option ℕ)) (js : List Jump) (fs : List Fixup) (old : Draft) (view : record { tables = tables; strings = strings; bytes = bytes; places = places; jumps = js; fixups = fs } ≡ old) (is : more ≡ places ++ None ∷ []) where
  abbrev labelled : Draft
  labelled = record { tables = tables; strings = strings; bytes = bytes; places = more; jumps = js; fixups = fs }

  kept : (l : ℕ) (o : Option ℕ) → slice_get places l ≡ Some o → slice_get more l ≡ Some o
  kept l o h = ap (λ (ps : List (Option ℕ)). slice_get ps l) is ∙ get_front places (None ∷ []) l (slice_get_within places l o h) ∙ h

  pub label_emits : Emits old labelled Nothing
  label_emits =
      subst (λ (d : Draft). Emits d labelled Nothing) view
      (record {
        grows = omega arith;
        same = refl;
        strings = sym (append-nil strings);
        keeps = λ l h. kept l None h;
        made = omega (arith, ap (λ (ps : List (Option ℕ)). length ps) is, length-append places (None ∷ []));
        back = λ x fits. record { same = fits.same; more = fits.more; strings = fits.strings; bytes = fits.bytes; long = fits.long; placed = λ l q h. fits.placed l q (kept l (Some q) h) };
        meant = λ x fits low. refl;
      })

  pub label_made : (l : ℕ) → l ≡ length places → Makes old labelled l
  label_made l e =
      subst (λ (d : Draft). Makes d labelled l) view
      (record {
        is = e;
        fresh = ap (slice_get more) e ∙ ap (λ (ps : List (Option ℕ)). slice_get ps (length places)) is ∙ get_last places None;
        apart = λ k h same. let within = slice_get_within places k None h in omega (arith, within, same, e);
      })

-- ---- strings
words_long : (cs : List ℕ) → length (words_of cs) ≡ text_words cs
words_long [] = refl
words_long (c ∷ cs) = omega arith

words_same : (cs : List ℕ) (i : ℕ) → i < text_words cs → get_or (words_of cs) i 0 ≡ get_or cs i 0
words_same [] zero h = refl
words_same [] (suc i) h = refl
words_same (c ∷ cs) i h = refl

text_stands : (l : Layout) (strings more cs : List ℕ) (offset : ℕ) → l.words + length l.strings ≤ 65535 → l.strings ≡ strings ++ (words_of cs ++ more) → offset ≡ (l.words + length strings) % 65536 → is_text cs ≡ true → HasText l cs offset
text_stands l strings more cs offset room begins is sound =
    let ws = words_of cs in
    let inside : length strings + text_words cs ≤ length l.strings = omega (arith, ap (λ (xs : List ℕ). length xs) begins, length-append strings (ws ++ more), length-append ws more, words_long cs) in
    record {
      text = sound;
      at = length strings;
      is = omega (arith, is, room, inside);
      inside = inside;
      words = λ i h.
          ap (λ (xs : List ℕ). get_or xs (length strings + i) 0) begins
          ∙ get_or-append-add strings (ws ++ more) i 0
          ∙ get_or_append_left ws more 0 i (omega (arith, h, words_long cs))
          ∙ words_same cs i h;
    }

module _ (tables : Tables) (strings bytes all : List ℕ) (places : List (Option ℕ)) (js : List Jump) (fs : List Fixup) (old : Draft) (view : record { tables = tables; strings = strings; bytes = bytes; places = places; jumps = js; fixups = fs } ≡ old) where
  abbrev said : Draft
  said = record { tables = tables; strings = all; bytes = bytes; places = places; jumps = js; fixups = fs }

  pub string_says : (cs ws : List ℕ) (offset : ℕ) → ws ≡ words_of cs → all ≡ strings ++ ws → offset ≡ (tables.words + length strings) % 65536 → Adds (words_of cs) old said (Saying cs offset)
  string_says cs ws offset made is lies =
      let grown : all ≡ strings ++ words_of cs = is ∙ ap (λ (ws : List ℕ). strings ++ ws) made in
      subst (λ (d : Draft). Adds (words_of cs) d said (Saying cs offset)) view
      (record {
        grows = omega arith;
        same = refl;
        strings = grown;
        keeps = λ l h. h;
        made = omega arith;
        back = λ x fits. record {
          same = fits.same;
          more = words_of cs ++ fits.more;
          strings = fits.strings ∙ ap (λ (ws : List ℕ). ws ++ fits.more) grown ∙ append_assoc strings (words_of cs) fits.more;
          bytes = fits.bytes;
          long = fits.long;
          placed = fits.placed;
        };
        meant = λ x fits low. (
          refl,
          text_stands x.layout strings fits.more cs offset x.room
              (fits.strings ∙ ap (λ (ws : List ℕ). ws ++ fits.more) grown ∙ append_assoc strings (words_of cs) fits.more)
              (lies ∙ ap (λ (n : ℕ). (n + length strings) % 65536) (sym (x.described.words ∙ ap (λ (ts : Tables). ts.words) fits.same))),
        );
      })
