-- What is read from bytes: a value and the bytes behind it, or how many bytes are left from the fault on.
use Rattle.std.specs.Prelude.{◌≡◌, ◌≢◌, ℕ, zero, suc, ◌+◌, ◌*◌, ◌-◌, min, nat_lt, Bool, if◌then◌else◌, List, [], ◌∷◌, ◌++◌, length, take, drop, Option, Some, None, Result, Ok, Err, ⊤}
use Rattle.lil_base.specs.Fields.{bytes16, bytes32}
use Rattle.lil_base.specs.declared.fault.FormatStop.{FormatStop}
use Rattle.lil_base.specs.declared.fault.FormatStop.TheVariants as file
use Rattle.lil_format.specs.declared.stop.Stop.{Stop}
use Rattle.lil_format.specs.declared.stop.Stop.TheVariants.{Left, Memory}

abbrev pub Outcome : Type 0 → Type 0
Outcome A = Result (A × List ℕ) Stop

abbrev pub Parser : Type 0 → Type 0
Parser A = List ℕ → Outcome A

-- first one part, then another by what the first is
abbrev pub and_then : {A B : Type 0} → Outcome A → (A → Parser B) → Outcome B
and_then (Ok got) next = next got.0 got.1
and_then (Err stop) next = Err stop

-- a value, where it keeps a rule
abbrev pub such : {A : Type 0} → (A → Bool) → A → Option A
such ok a = if ok a then Some a else None

-- ---- fields: one that isn't whole is a fault at the end of all bytes, one that breaks a rule a fault at its own first byte
abbrev pub ruled : {A : Type 0} → ℕ → List ℕ → Option A → Outcome A
ruled here rest None = Err (Left here)
ruled here rest (Some a) = Ok (a, rest)

abbrev pub field : {A B : Type 0} → (B → Option A) → ℕ → Option (B × List ℕ) → Outcome A
field value here None = Err (Left 0)
field value here (Some got) = ruled here got.1 (value got.0)

-- how many bytes a number has
pub data Width : Type 0 where
  u1 u2 u4 : Width

-- the first number that is too great
abbrev pub limit : Width → ℕ
limit u1 = 256
limit u2 = 65536
limit u4 = 4294967296

-- a number's bytes, the highest first
abbrev pub number_bytes : Width → ℕ → List ℕ
number_bytes u1 n = n ∷ []
number_bytes u2 n = bytes16 n
number_bytes u4 n = bytes32 n

abbrev pub number_of : Width → List ℕ → Option (ℕ × List ℕ)
number_of u1 (a ∷ rest) = Some (a, rest)
number_of u2 (a ∷ b ∷ rest) = Some (a * 256 + b, rest)
number_of u4 (a ∷ b ∷ c ∷ d ∷ rest) = Some (((a * 256 + b) * 256 + c) * 256 + d, rest)
number_of _ _ = None

abbrev pub run_of : ℕ → List ℕ → Option (List ℕ × List ℕ)
run_of size bs = if nat_lt (length bs) size then None else Some (take size bs, drop size bs)

-- a number that has a value
abbrev pub number_in : {A : Type 0} → Width → (ℕ → Option A) → Parser A
number_in w value = λ bs. field value (length bs) (number_of w bs)

-- so many bytes that keep a rule
abbrev pub run_in : ℕ → (List ℕ → Bool) → Parser (List ℕ)
run_in size ok = λ bs. field (such ok) (length bs) (run_of size bs)

-- a length that keeps a rule, and so many bytes that keep another
abbrev pub text_in : Width → (ℕ → Bool) → (List ℕ → Bool) → Parser (List ℕ)
text_in w long ok = λ bs. and_then (number_in w (such long) bs) (λ size. run_in size ok)

-- so many parts behind those that are done, each by those before it
unfoldable pub many : {A : Type 0} → (List A → Parser A) → ℕ → List A → Parser (List A)
many each zero done bs = Ok (done, bs)
many each (suc n) done bs = and_then (each done bs) (λ a. many each n (done ++ a ∷ []))

-- ---- what a function that reads a part ensures of its result and of the bytes behind it
abbrev pub Reads : {A : Type 0} → Outcome A → Result A Stop → List ℕ → Type 0
Reads outcome (Ok a) new = outcome ≡ Ok (a, new)
Reads outcome (Err stop) new = stop ≢ Memory → outcome ≡ Err stop

-- ---- whole files, to the last byte: the value, or the offset of the fault, which a file of less than 2 ^ 32 bytes has
abbrev pub offset : ℕ → ℕ → ℕ
offset size left = min (size - left) 4294967295

abbrev pub ended : {A : Type 0} → ℕ → A → List ℕ → Result A ℕ
ended size a [] = Ok a
ended size a (b ∷ bs) = Err (offset size (length (b ∷ bs)))

abbrev pub whole : {A : Type 0} → List ℕ → Outcome A → Result A ℕ
whole bs (Ok got) = ended (length bs) got.0 got.1
whole bs (Err (Left n)) = Err (offset (length bs) n)
whole bs (Err Memory) = Err 0

-- what a function that reads a file ensures
abbrev pub ReadsFile : {A : Type 0} → Result A ℕ → Result A FormatStop → Type 0
ReadsFile outcome (Ok a) = outcome ≡ Ok a
ReadsFile outcome (Err (file.Fault at)) = outcome ≡ Err at
ReadsFile outcome (Err file.Memory) = ⊤
