-- Numbers of modules that are written over bytes.
use Rattle.std.proofs.Common.{◌≡◌, ℕ, zero, suc, ◌+◌, ◌-◌, ◌<◌, ◌≤◌, List, [], ◌∷◌, ◌++◌, length, get_or, Some, refl, ap, ◌∙◌, subst, arith}
use Rattle.std.specs.{Prelude.{slice_get, slice_set, slice_index}, List.{All, Sorted.IsStrictlyIncreasing}}
use Rattle.std.proofs.lemmas.{Option.slice_get-get_or, List.{length-set, get_or-set_same, get_or-set_other, set-set, set_comm, set-append_left, set-append_right}}
use Rattle.lil_table.specs.Patching.{patched}
use Rattle.lil_labels.specs.{declared.buffer.Fixup.Fixup, Drafts.{AreFixed, AreWithin, numbered, places_of}}

-- they change no length
pub numbered_long : (numbers : ℕ → ℕ) (bytes : List ℕ) (fs : List Fixup) → length (numbered numbers bytes fs) ≡ length bytes
numbered_long numbers bytes [] = refl
numbered_long numbers bytes (f ∷ fs) = numbered_long numbers (slice_set bytes f.at (numbers f.number)) fs ∙ length-set bytes f.at (numbers f.number)

pub fixed_more : (from m n : ℕ) (fs : List Fixup) → m ≤ n → AreFixed from m fs → AreFixed from n fs
fixed_more from m n [] le h = tt
fixed_more from m n (f ∷ fs) le h = (h.0, omega (arith, h.1, le), h.2, fixed_more (suc f.at) m n fs le h.3)

-- one more behind those that lie in fewer bytes
pub fixed_one : (from m n : ℕ) (fs : List Fixup) (f : Fixup) → from ≤ f.at → m ≤ f.at → f.at + 2 ≤ n → f.number ≡ 0 → AreFixed from m fs → AreFixed from n (fs ++ f ∷ [])
fixed_one from m n [] f first low high own h = (first, high, own, tt)
fixed_one from m n (g ∷ fs) f first low high own h = (h.0, omega (arith, h.1, low, high), h.2, fixed_one (suc g.at) m n fs f (omega (arith, h.1, low)) low high own h.3)

-- each by its number in the list
pub fixed_within : (from n : ℕ) (fs : List Fixup) (k : ℕ) (d : Fixup) → AreFixed from n fs → k < length fs → (get_or fs k d).at + 2 ≤ n
fixed_within from n [] k d h inside = absurd (omega arith)
fixed_within from n (f ∷ fs) zero d h inside = h.1
fixed_within from n (f ∷ fs) (suc k) d h inside = fixed_within (suc f.at) n fs k d h.3 (omega arith)

pub fixed_lie : (from n : ℕ) (fs : List Fixup) → AreFixed from n fs → AreWithin n fs
fixed_lie from n [] h = tt
fixed_lie from n (f ∷ fs) h = (omega (arith, h.1), fixed_lie (suc f.at) n fs h.3)

-- fixups in a part leave what stands behind it
pub numbered_before : (numbers : ℕ → ℕ) (from : ℕ) (bytes more : List ℕ) (fs : List Fixup) → AreFixed from (length bytes) fs → numbered numbers (bytes ++ more) fs ≡ numbered numbers bytes fs ++ more
numbered_before numbers from bytes more [] h = refl
numbered_before numbers from bytes more (f ∷ fs) h =
    let n = numbers f.number in
    let rest = fixed_more (suc f.at) (length bytes) (length (slice_set bytes f.at n)) fs (omega (arith, length-set bytes f.at n)) h.3 in
    ap (λ (b : List ℕ). numbered numbers b fs) (set-append_left bytes more f.at n (omega (arith, h.1))) ∙ numbered_before numbers (suc f.at) (slice_set bytes f.at n) more fs rest

numbered_one : (numbers : ℕ → ℕ) (bytes : List ℕ) (fs : List Fixup) (f : Fixup) → numbered numbers bytes (fs ++ f ∷ []) ≡ slice_set (numbered numbers bytes fs) f.at (numbers f.number)
numbered_one numbers bytes [] f = refl
numbered_one numbers bytes (g ∷ fs) f = numbered_one numbers (slice_set bytes g.at (numbers g.number)) fs f

-- a fixup over the second of some bytes more
pub numbered_last : (numbers : ℕ → ℕ) (bytes : List ℕ) (a b : ℕ) (more : List ℕ) (fs : List Fixup) (f : Fixup) → AreFixed 0 (length bytes) fs → f.at ≡ length bytes + 1
    → numbered numbers (bytes ++ a ∷ b ∷ more) (fs ++ f ∷ []) ≡ numbered numbers bytes fs ++ a ∷ numbers f.number ∷ more
numbered_last numbers bytes a b more fs f h is =
    let code = numbered numbers bytes fs in
    let long = numbered_long numbers bytes fs in
    let n = numbers f.number in
    let second : f.at - length code ≡ 1 = omega (arith, is, long) in
    numbered_one numbers (bytes ++ a ∷ b ∷ more) fs f
    ∙ ap (λ (c : List ℕ). slice_set c f.at n) (numbered_before numbers 0 bytes (a ∷ b ∷ more) fs h)
    ∙ set-append_right code (a ∷ b ∷ more) (length code) f.at n refl (omega (arith, is, long))
    ∙ ap (λ (k : ℕ). code ++ slice_set (a ∷ b ∷ more) k n) second

-- ---- code whose fixups have the numbers that they say, and loading puts others there
-- a byte before the fixups stays, and may be written before them too
below_same : (numbers : ℕ → ℕ) (from n : ℕ) (bytes : List ℕ) (fs : List Fixup) (p : ℕ) → AreFixed from n fs → p < from → get_or (numbered numbers bytes fs) p 0 ≡ get_or bytes p 0
below_same numbers from n bytes [] p h low = refl
below_same numbers from n bytes (f ∷ fs) p h low =
    below_same numbers (suc f.at) n (slice_set bytes f.at (numbers f.number)) fs p h.3 (omega (arith, h.0, low))
    ∙ get_or-set_other bytes f.at p (numbers f.number) 0 (λ e. omega (arith, e, h.0, low))

below_set : (numbers : ℕ → ℕ) (from n : ℕ) (bytes : List ℕ) (fs : List Fixup) (p v : ℕ) → AreFixed from n fs → p < from → slice_set (numbered numbers bytes fs) p v ≡ numbered numbers (slice_set bytes p v) fs
below_set numbers from n bytes [] p v h low = refl
below_set numbers from n bytes (f ∷ fs) p v h low =
    below_set numbers (suc f.at) n (slice_set bytes f.at (numbers f.number)) fs p v h.3 (omega (arith, h.0, low))
    ∙ ap (λ (b : List ℕ). numbered numbers b fs) (set_comm bytes f.at p (numbers f.number) v (λ e. omega (arith, e, h.0, low)))

fixed_set : (from : ℕ) (bytes : List ℕ) (at v : ℕ) (fs : List Fixup) → AreFixed from (length bytes) fs → AreFixed from (length (slice_set bytes at v)) fs
fixed_set from bytes at v fs = fixed_more from (length bytes) (length (slice_set bytes at v)) fs (omega (arith, length-set bytes at v))

-- numbers as they are
abbrev pub as_said : ℕ → ℕ
as_said n = n

first_said : (f : Fixup) (bytes : List ℕ) (fs : List Fixup) → f.at + 2 ≤ length bytes → AreFixed (suc f.at) (length bytes) fs → get_or (numbered as_said (slice_set bytes f.at f.number) fs) f.at 0 ≡ f.number
first_said f bytes fs inside h =
    below_same as_said (suc f.at) (length bytes) (slice_set bytes f.at f.number) fs f.at h (omega arith)
    ∙ get_or-set_same bytes f.at f.number 0 (omega (arith, inside))

-- what a function of the numbers puts there makes the code with its numbers
pub patched_numbers : (numbers : ℕ → ℕ) (from : ℕ) (bytes : List ℕ) (fs : List Fixup) → AreFixed from (length bytes) fs → patched numbers (numbered as_said bytes fs) (places_of fs) ≡ numbered numbers bytes fs
patched_numbers numbers from bytes [] h = refl
patched_numbers numbers from bytes (f ∷ fs) h =
    let code = numbered as_said (slice_set bytes f.at f.number) fs in
    let n = numbers f.number in
    ap (λ (b : ℕ). patched numbers (slice_set code f.at (numbers b)) (places_of fs)) (first_said f bytes fs h.1 h.3)
    ∙ ap (λ (c : List ℕ). patched numbers c (places_of fs))
    (below_set as_said (suc f.at) (length bytes) (slice_set bytes f.at f.number) fs f.at n h.3 (omega arith)
    ∙ ap (λ (b : List ℕ). numbered as_said b fs) (set-set bytes f.at f.number n))
    ∙ patched_numbers numbers (suc f.at) (slice_set bytes f.at n) fs (fixed_set (suc f.at) bytes f.at n fs h.3)

-- the fixups' places rise
pub fixups_rise : (from n : ℕ) (fs : List Fixup) → AreFixed from n fs → IsStrictlyIncreasing (places_of fs)
fixups_rise from n [] h k less = absurd (omega (arith, less))
fixups_rise from n (f ∷ []) h k less = absurd (omega (arith, less))
fixups_rise from n (f ∷ g ∷ fs) h zero less = omega (arith, h.3.0)
fixups_rise from n (f ∷ g ∷ fs) h (suc k) less =
    let all = places_of (f ∷ g ∷ fs) in
    let next : suc (k + 1) ≡ suc k + 1 = omega arith in
    subst (λ (j : ℕ). slice_index all (suc k) < slice_index all j) next (fixups_rise (suc f.at) n (g ∷ fs) h.3 k (omega (arith, less)))

-- and the byte at each is 0
pub names_itself : (from : ℕ) (bytes : List ℕ) (fs : List Fixup) → AreFixed from (length bytes) fs → All (λ p. slice_get (numbered as_said bytes fs) p ≡ Some 0) (places_of fs)
names_itself from bytes [] h k d less = absurd (omega (arith, less))
names_itself from bytes (f ∷ fs) h zero d less =
    let first = slice_set bytes f.at f.number in
    let long = numbered_long as_said first fs in
    slice_get-get_or (numbered as_said first fs) f.at 0 (omega (arith, h.1, long, length-set bytes f.at f.number)) ∙ ap Some (first_said f bytes fs h.1 h.3 ∙ h.2)
names_itself from bytes (f ∷ fs) h (suc k) d less = names_itself (suc f.at) (slice_set bytes f.at f.number) fs (fixed_set (suc f.at) bytes f.at f.number fs h.3) k d (omega (arith, less))
