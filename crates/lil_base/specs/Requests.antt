-- Requests of programs to the system: the number of each in the code, and whether it takes an array.
use Rattle.std.specs.Prelude.{ℕ, ◌==◌, Bool, true, false, List, [], ◌∷◌, Option, Some, None, if◌then◌else◌}
use Rattle.std.proofs.Common.{◌≡◌, refl}
use Rattle.lil_base.specs.declared.request.Request.{Request, TheVariants.{Write, WriteString, WriteLn, WriteCard, WriteInt, WriteOct, WriteHex}}

abbrev pub request_number : Request → ℕ
request_number Write = 2
request_number WriteString = 3
request_number WriteLn = 4
request_number WriteCard = 5
request_number WriteInt = 6
request_number WriteOct = 7
request_number WriteHex = 8

-- all requests
abbrev pub requests : List Request
requests = Write ∷ WriteString ∷ WriteLn ∷ WriteCard ∷ WriteInt ∷ WriteOct ∷ WriteHex ∷ []

abbrev pub first_with : ℕ → List Request → Option Request
first_with n [] = None
first_with n (r ∷ rs) = if n == request_number r then Some r else first_with n rs

-- the request with a number, if one has it
abbrev pub request_with : ℕ → Option Request
request_with n = first_with n requests

-- each request is one of them, and its number is no other's
pub request_found : (r : Request) → request_with (request_number r) ≡ Some r
request_found Write = refl
request_found WriteString = refl
request_found WriteLn = refl
request_found WriteCard = refl
request_found WriteInt = refl
request_found WriteOct = refl
request_found WriteHex = refl

-- whether it takes an open array of characters, and nothing else
abbrev pub takes_array : Request → Bool
takes_array WriteString = true
takes_array _ = false
