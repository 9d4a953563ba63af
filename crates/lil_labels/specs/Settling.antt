-- Words that are written over bytes.
use Rattle.std.proofs.Common.{◌≡◌, ℕ, ◌+◌, ◌/◌, ◌%◌, ◌<◌, ◌≤◌, List, [], ◌∷◌, ◌++◌, length, Option, refl, sym, ap, ◌∙◌, subst, arith, length-append, append_assoc}
use Rattle.std.specs.Prelude.{slice_set}
use Rattle.std.proofs.{lemmas.List.{length-set, set-append_left}, Math.Seq.set-append_seam}
use Rattle.lil_labels.specs.{declared.buffer.{Jump.Jump, Fixup.Fixup}, Drafts.{Draft, AreInside, AreFixed, IsSound, with_word, written, code_of}, Fixing.{numbered_long, fixed_more, fixed_one}}

with_word_long : (bytes : List ℕ) (at w : ℕ) → length (with_word bytes at w) ≡ length bytes
with_word_long bytes at w = length-set (slice_set bytes at (w / 256)) (at + 1) (w % 256) ∙ length-set bytes at (w / 256)

-- they change no length
pub written_long : (word : ℕ → ℕ) (bytes : List ℕ) (js : List Jump) → length (written word bytes js) ≡ length bytes
written_long word bytes [] = refl
written_long word bytes (j ∷ js) = written_long word (with_word bytes j.at (word j.label)) js ∙ with_word_long bytes j.at (word j.label)

pub code_long : (d : Draft) (word numbers : ℕ → ℕ) → length (code_of d word numbers) ≡ length d.bytes
code_long d word numbers = numbered_long numbers (written word d.bytes d.jumps) d.fixups ∙ written_long word d.bytes d.jumps

with_word_before : (bytes more : List ℕ) (at w : ℕ) → at + 2 ≤ length bytes → with_word (bytes ++ more) at w ≡ with_word bytes at w ++ more
with_word_before bytes more at w inside =
    let second : at + 1 < length (slice_set bytes at (w / 256)) = omega (arith, length-set bytes at (w / 256)) in
    ap (λ (b : List ℕ). slice_set b (at + 1) (w % 256)) (set-append_left bytes more at (w / 256) (omega arith))
    ∙ set-append_left (slice_set bytes at (w / 256)) more (at + 1) (w % 256) second

pub inside_more : (m n : ℕ) (js : List Jump) → m ≤ n → AreInside m js → AreInside n js
inside_more m n [] le h = tt
inside_more m n (j ∷ js) le h = (omega (arith, h.0), inside_more m n js le h.1)

inside_one : (n : ℕ) (js : List Jump) (j : Jump) → j.at + 2 ≤ n → AreInside n js → AreInside n (js ++ j ∷ [])
inside_one n [] j le h = (le, tt)
inside_one n (i ∷ js) j le h = (h.0, inside_one n js j le h.1)

-- jumps in a part leave what stands behind it
pub written_before : (word : ℕ → ℕ) (bytes more : List ℕ) (js : List Jump) → AreInside (length bytes) js → written word (bytes ++ more) js ≡ written word bytes js ++ more
written_before word bytes more [] h = refl
written_before word bytes more (j ∷ js) h =
    let w = word j.label in
    let inside = inside_more (length bytes) (length (with_word bytes j.at w)) js (omega (arith, with_word_long bytes j.at w)) h.1 in
    ap (λ (b : List ℕ). written word b js) (with_word_before bytes more j.at w h.0) ∙ written_before word (with_word bytes j.at w) more js inside

written_one : (word : ℕ → ℕ) (bytes : List ℕ) (js : List Jump) (j : Jump) → written word bytes (js ++ j ∷ []) ≡ with_word (written word bytes js) j.at (word j.label)
written_one word bytes [] j = refl
written_one word bytes (i ∷ js) j = written_one word (with_word bytes i.at (word i.label)) js j

over_last : (ys : List ℕ) (a b w at : ℕ) → at ≡ length ys → with_word (ys ++ a ∷ b ∷ []) at w ≡ ys ++ w / 256 ∷ w % 256 ∷ []
over_last ys a b w at is =
    let high = w / 256 in
    let low = w % 256 in
    let next : at + 1 ≡ length (ys ++ high ∷ []) = omega (arith, length-append ys (high ∷ [])) in
    ap (λ (n : ℕ). slice_set (slice_set (ys ++ a ∷ b ∷ []) n high) (at + 1) low) is
    ∙ ap (λ (c : List ℕ). slice_set c (at + 1) low) (set-append_seam ys a (b ∷ []) high ∙ sym (append_assoc ys (high ∷ []) (b ∷ [])))
    ∙ ap (λ (n : ℕ). slice_set ((ys ++ high ∷ []) ++ b ∷ []) n low) next
    ∙ set-append_seam (ys ++ high ∷ []) b [] low
    ∙ append_assoc ys (high ∷ []) (low ∷ [])

-- a jump over the last two of some bytes more
pub written_last : (word : ℕ → ℕ) (bytes front : List ℕ) (a b : ℕ) (js : List Jump) (j : Jump) → AreInside (length bytes) js → j.at + 2 ≡ length (bytes ++ (front ++ a ∷ b ∷ []))
    → written word (bytes ++ (front ++ a ∷ b ∷ [])) (js ++ j ∷ []) ≡ written word bytes js ++ (front ++ word j.label / 256 ∷ word j.label % 256 ∷ [])
written_last word bytes front a b js j h is =
    let w = word j.label in
    let code = written word bytes js in
    let at : j.at ≡ length (code ++ front) = omega (arith, length-append bytes (front ++ a ∷ b ∷ []), length-append front (a ∷ b ∷ []), length-append code front, written_long word bytes js) in
    written_one word (bytes ++ (front ++ a ∷ b ∷ [])) js j
    ∙ ap (λ (c : List ℕ). with_word c j.at w) (written_before word bytes (front ++ a ∷ b ∷ []) js h ∙ sym (append_assoc code front (a ∷ b ∷ [])))
    ∙ over_last (code ++ front) a b w j.at at
    ∙ append_assoc code front (w / 256 ∷ w % 256 ∷ [])

-- ---- the invariant
pub sound_more : (m n : ℕ) (places : List (Option ℕ)) (js : List Jump) (fs : List Fixup) → m ≤ n → IsSound m places js fs → IsSound n places js fs
sound_more m n places js fs le h = record { inside = inside_more m n js le h.inside; behind = λ l q at. omega (arith, h.behind l q at); fixed = fixed_more 0 m n fs le h.fixed }

pub sound_one : (n : ℕ) (places : List (Option ℕ)) (js ks : List Jump) (j : Jump) (fs : List Fixup) → j.at + 2 ≤ n → ks ≡ js ++ j ∷ [] → IsSound n places js fs → IsSound n places ks fs
sound_one n places js ks j fs le e h = record { inside = subst (AreInside n) (sym e) (inside_one n js j le h.inside); behind = h.behind; fixed = h.fixed }

-- a fixup more, behind the bytes before
pub sound_fixed : (m n : ℕ) (places : List (Option ℕ)) (js : List Jump) (fs gs : List Fixup) (f : Fixup) → m ≤ f.at → f.at + 2 ≤ n → f.number ≡ 0 → gs ≡ fs ++ f ∷ [] → IsSound m places js fs → IsSound n places js gs
sound_fixed m n places js fs gs f low high own e h =
    let more = sound_more m n places js fs (omega (arith, low, high)) h in
    record { inside = more.inside; behind = more.behind; fixed = subst (AreFixed 0 n) (sym e) (fixed_one 0 m n fs f (omega arith) low high own h.fixed) }
