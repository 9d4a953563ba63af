-- Formats of files as data. Three functions on them say which values have a spelling, what it is, and how bytes are read.
use Rattle.std.specs.Prelude.{◌≡◌, ℕ, nat_eq, ◌<◌, Bool, true, false, ◌==◌, List, [], ◌∷◌, ◌++◌, length, Option, Some, Ok, Err, ⊤}
use Rattle.std.specs.Cmp.Lexicographic.{pointwise}
use Rattle.lil_format.specs.declared.stop.Stop.TheVariants.{Left}
use Rattle.lil_format.specs.FieldLaws.{such_some, Coded, coded_law, coded_by}
use Rattle.lil_format.specs.Reading.{Parser, and_then, such, Width, limit, number_bytes, number_in, run_in, text_in, many}
use Rattle.std.proofs.Common.{sym}

pub data Format : Type 0 → Type 1 where
  -- no bytes
  give : {A : Type 0} → A → Format A
  -- a number that has a value; each value has one number
  number : {A : Type 0} → (w : Width) → (value : ℕ → Option A) → (code : A → ℕ) → ((n : ℕ) (a : A) → n < limit w → value n ≡ Some a → code a ≡ n) → Format A
  -- a length that keeps a rule, and so many bytes that keep another
  text : Width → (ℕ → Bool) → (List ℕ → Bool) → Format (List ℕ)
  -- bytes that always stand there, before another format
  ◌▸◌ : {A : Type 0} → List ℕ → Format A → Format A
  -- one format, and behind it another by the first's value
  ◌>>=◌ : {A B : Type 0} → Format A → (A → Format B) → Format (A × B)
  -- a count that keeps a rule, and so many parts, each by the count and the parts before it
  list : {A : Type 0} → Width → (ℕ → Bool) → (ℕ → List A → Format A) → Format (List A)
  -- a number that keeps a rule, and a format by it; each value has the number of its format
  cases : {A : Type 0} → Width → (ℕ → Bool) → (A → ℕ) → (ℕ → Format A) → Format A
  -- the values of a format in another form
  shape : {A B : Type 0} → (to : A → B) → (back : B → A) → ((a : A) → back (to a) ≡ a) → Format A → Format B

infixr 20 ◌▸◌
infixl 10 ◌>>=◌
-- ---- parts of a list, each by those before it
abbrev pub each_fits : {A : Type 0} → (List A → A → Type 0) → List A → List A → Type 0
each_fits fits done [] = ⊤
each_fits fits done (a ∷ xs) = fits done a × each_fits fits (done ++ a ∷ []) xs

abbrev pub each_spelled : {A : Type 0} → (List A → A → List ℕ) → List A → List A → List ℕ
each_spelled spell done [] = []
each_spelled spell done (a ∷ xs) = spell done a ++ each_spelled spell (done ++ a ∷ []) xs

-- ---- the values that have a spelling
unfoldable pub Fits : {A : Type 0} → Format A → A → Type 0
Fits (give x) a = a ≡ x
Fits (number w value code law) a = (value (code a) ≡ Some a) × (code a < limit w)
Fits (text w long ok) t = (long (length t) ≡ true) × (length t < limit w) × (ok t ≡ true)
Fits (front ▸ f) a = Fits f a
Fits (f >>= g) ab = Fits f ab.0 × Fits (g ab.0) ab.1
Fits (list w long each) xs = (long (length xs) ≡ true) × (length xs < limit w) × each_fits (λ done. Fits (each (length xs) done)) [] xs
Fits (cases w ok tag arm) a = (ok (tag a) ≡ true) × (tag a < limit w) × Fits (arm (tag a)) a
Fits (shape to back law f) b = (to (back b) ≡ b) × Fits f (back b)

-- ---- the spelling of such a value
unfoldable pub spelling : {A : Type 0} → Format A → A → List ℕ
spelling (give x) a = []
spelling (number w value code law) a = number_bytes w (code a)
spelling (text w long ok) t = number_bytes w (length t) ++ t
spelling (front ▸ f) a = front ++ spelling f a
spelling (f >>= g) ab = spelling f ab.0 ++ spelling (g ab.0) ab.1
spelling (list w long each) xs = number_bytes w (length xs) ++ each_spelled (λ done. spelling (each (length xs) done)) [] xs
spelling (cases w ok tag arm) a = number_bytes w (tag a) ++ spelling (arm (tag a)) a
spelling (shape to back law f) b = spelling f (back b)

-- ---- reading
abbrev pub same : List ℕ → List ℕ → Bool
same a b = pointwise nat_eq a b

abbrev pub is_end : List ℕ → Bool
is_end [] = true
is_end (b ∷ bs) = false

abbrev pub nothing : Unit {0}
nothing = tt

-- these bytes, which are one field
abbrev pub letters_in : List ℕ → Parser (Unit {0})
letters_in front = λ bs. and_then (run_in (length front) (same front) bs) (λ run rest. Ok (nothing, rest))

-- a value that has its format's number
abbrev pub tagged : {A : Type 0} → Bool → A → Parser A
tagged true a = λ rest. Ok (a, rest)
tagged false a = λ rest. Err (Left 0)

unfoldable pub reads : {A : Type 0} → Format A → Parser A
reads (give x) = λ bs. Ok (x, bs)
reads (number w value code law) = number_in w value
reads (text w long ok) = text_in w long ok
reads (front ▸ f) = λ bs. and_then (letters_in front bs) (λ u. reads f)
reads (f >>= g) = λ bs. and_then (reads f bs) (λ a mid. and_then (reads (g a) mid) (λ b rest. Ok ((a, b), rest)))
reads (list w long each) = λ bs. and_then (number_in w (such long) bs) (λ n. many (λ done. reads (each n done)) n [])
reads (cases w ok tag arm) = λ bs. and_then (number_in w (such ok) bs) (λ n mid. and_then (reads (arm n) mid) (λ a. tagged (tag a == n) a))
reads (shape to back law f) = λ bs. and_then (reads f bs) (λ a rest. Ok (to a, rest))

-- the bytes are the one spelling of a value
abbrev pub IsFile : {A : Type 0} → Format A → List ℕ → A → Type 0
IsFile f bs a = Fits f a × (bs ≡ spelling f a)

-- ---- words for tables
abbrev pub any : ℕ → Bool
any n = true

abbrev pub any_text : List ℕ → Bool
any_text t = true

abbrev pub number_such : Width → (ℕ → Bool) → Format ℕ
number_such w ok = number w (such ok) (λ n. n) (λ n a l e. sym (such_some ok n a e).1)

abbrev pub plain : Width → Format ℕ
plain w = number_such w any

-- parts that don't ask for those before
abbrev pub list_of : {A : Type 0} → Width → (ℕ → Bool) → Format A → Format (List A)
list_of w long f = list w long (λ n done. f)

-- one of the values of a table, by its number
abbrev pub one_of : {A : Type 0} → (w : Width) → (code : A → ℕ) → (table : List (ℕ × A)) → Coded code table → Format A
one_of w code table law = number w (coded_by table) code (λ n a l e. coded_law code table law n a e)
