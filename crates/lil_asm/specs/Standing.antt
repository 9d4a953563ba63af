-- The bytes of an instruction decode to it, wherever they stand.
use Rattle.std.proofs.Common.{◌≡◌, ℕ, zero, suc, ◌+◌, ◌*◌, ◌/◌, ◌%◌, ◌<◌, ◌≤◌, Some, List, [], ◌∷◌, ◌++◌, length, refl, ap, ◌∙◌, subst, arith, append_assoc, length-append}
use Rattle.std.specs.Prelude.{true, nat_lt, slice_get}
use Rattle.std.proofs.{Math.Seq.get_or-append_seam, lemmas.{Bool.{le-leb, lt-ltb, ltb-true}, Option.slice_get-get_or}}
use Rattle.lil_asm.specs.{Bytes.{row_0, row_2, row_3, row_4, row_5, row_6, row_7, decoded, bytes_of, entry_bytes, Sayable}, declared.instr.Instr.Instr}
use Rattle.lil_asm.specs.declared.instr.Instr.TheVariants.{Lis, Cas}
use Rattle.lil_asm.specs.Bytes.{Entry}

-- these bytes stand in the code from place p on
abbrev pub HasBytes : List ℕ → ℕ → List ℕ → Type 0
HasBytes code p [] = Unit {0}
HasBytes code p (b ∷ bytes) = (slice_get code p ≡ Some b) × HasBytes code (p + 1) bytes

-- what was appended stands where the old code ended
pub appended_has : (bytes old : List ℕ) → HasBytes (old ++ bytes) (length old) bytes
appended_has [] old = tt
appended_has (b ∷ bytes) old =
    let inside : length old < length (old ++ b ∷ bytes) = omega (arith, length-append old (b ∷ bytes)) in
    let first = slice_get-get_or (old ++ b ∷ bytes) (length old) b inside ∙ ap Some (get_or-append_seam old b bytes b) in
    let behind : length (old ++ b ∷ []) ≡ length old + 1 = omega (arith, length-append old (b ∷ [])) in
    let rest = subst (λ (code : List ℕ). HasBytes code (length (old ++ b ∷ [])) bytes) (append_assoc old (b ∷ []) bytes) (appended_has bytes (old ++ b ∷ [])) in
    (first, subst (λ (p : ℕ). HasBytes (old ++ b ∷ bytes) p bytes) behind rest)

-- bytes stand in any code that agrees on their places
pub has_in : (bytes code final : List ℕ) (p : ℕ) → HasBytes code p bytes → ((i : ℕ) → p ≤ i → i < p + length bytes → slice_get final i ≡ slice_get code i) → HasBytes final p bytes
has_in [] code final p h a = tt
has_in (b ∷ bytes) code final p h a =
    (a p (omega arith) (omega arith) ∙ h.0, has_in bytes code final (p + 1) h.1 (λ i from to. a i (omega arith) (omega arith)))

-- what is read so many places behind the first of these bytes
byte_read : (bytes code : List ℕ) (p : ℕ) → HasBytes code p bytes → (k : ℕ) → nat_lt k (length bytes) ≡ true → slice_get code (p + k) ≡ slice_get bytes k
byte_read [] code p h k short = let none : k < 0 = ltb-true k 0 short in absurd (omega arith)
byte_read (b ∷ bytes) code p h zero short = let same : p + 0 ≡ p = omega arith in rw same (h.0)
byte_read (b ∷ bytes) code p h (suc k) short =
    let same : p + suc k ≡ p + 1 + k = omega arith in
    rw same (byte_read bytes code (p + 1) h.1 k (lt-ltb k (length bytes) (let l : suc k < suc (length bytes) = ltb-true (suc k) (suc (length bytes)) short in omega arith)))

low_read : (bytes code : List ℕ) (p : ℕ) → HasBytes code p bytes → (k : ℕ) → nat_lt (k + 1) (length bytes) ≡ true → slice_get code (p + k + 1) ≡ slice_get bytes (k + 1)
low_read bytes code p h k short = let same : p + k + 1 ≡ p + (k + 1) = omega arith in rw same (byte_read bytes code p h (k + 1) short)

halves : (w : ℕ) → w / 256 * 256 + w % 256 ≡ w
halves w = omega arith

-- an instruction's bytes decode to it
pub decodes : (i : Instr) (code : List ℕ) (p : ℕ) → Sayable i → HasBytes code p (bytes_of i) → decoded code p ≡ Some (i, p + length (bytes_of i))
unfolding decoded row_0 row_2 row_3 row_4 row_5 row_6 row_7
decodes (Lis n) code p s h =
    let digit : (0x10 + n % 16) / 16 ≡ 1 = omega arith in
    let word : (0x10 + n % 16) % 16 ≡ n = omega arith in
    rw (h.0, digit, word) refl
decodes (Cas n t) code p s h = absurd s
decodes i code p s h = simp (h.0, low_read (bytes_of i) code p h, byte_read (bytes_of i) code p h, halves)

-- the bytes of CASE decode to it where its entries lie within the code
pub cas_decodes : (n t : ℕ) (code : List ℕ) (p : ℕ) → HasBytes code p (bytes_of (Cas n t)) → p + 5 + 6 * n ≤ length code → decoded code p ≡ Some (Cas n t, p + 5)
unfolding decoded row_7
cas_decodes n t code p h room =
    let bytes = bytes_of (Cas n t) in
    simp (h.0, low_read bytes code p h, byte_read bytes code p h, halves, le-leb (p + 5 + 6 * n) (length code) room)

-- the bytes of an entry of CAS say it
pub entry_stands : (code : List ℕ) (p low high target : ℕ) → HasBytes code p (entry_bytes low high target) → Entry code p low high target
entry_stands code p low high target h =
    let bytes = entry_bytes low high target in
    record {
      low_at = simp (h.0, h.1.0, halves);
      high_at = simp (low_read bytes code p h, byte_read bytes code p h, halves);
      target_at = simp (low_read bytes code p h, byte_read bytes code p h, halves);
    }
