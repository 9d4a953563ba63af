-- The format of object files. Each rule stands at the field where it is tested.
use Rattle.std.proofs.Common.{refl}
use Rattle.std.specs.Prelude.{ℕ, ◌+◌, ◌-◌, max, nat_lt, nat_le, ◌==◌, Bool, true, false, not, ◌&&◌, List, [], ◌∷◌, length, slice_get, Option, Some, None, codes}
use Rattle.std.specs.List.{list_all}
use Rattle.lil_format.specs.Reading.{u1, u2, u4}
use Rattle.lil_format.specs.Format.{Format, give, text, ◌▸◌, ◌>>=◌, list, shape, any, any_text, number_such, plain, list_of, one_of}
use Rattle.lil_format.specs.declared.name.Wanted.{Wanted}
use Rattle.lil_format.specs.Names.{name, wanted}
use Rattle.lil_object.specs.declared.object.{ProcedureEntry.{ProcedureEntry}, DataString.{DataString}, Head.{Head}, Contents.{Contents}, Object.{Object}}
use Rattle.lil_object.specs.declared.object.ObjectKind.{ObjectKind, TheVariants.{Program, Implementation}}

-- ---- the head. The key is 0 for programs alone
abbrev pub kind_code : ObjectKind → ℕ
kind_code Program = 1
kind_code Implementation = 2

abbrev pub kind_table : List (ℕ × ObjectKind)
kind_table = (1, Program) ∷ (2, Implementation) ∷ []

unfoldable pub kind : Format ObjectKind
kind = one_of u1 kind_code kind_table (refl, (refl, tt))

abbrev pub key_fits : ObjectKind → ℕ → Bool
key_fits Program k = k == 0
key_fits Implementation k = not (k == 0)

abbrev pub few_imports : ℕ → Bool
few_imports n = nat_le n 60

unfoldable pub imports : Format (List Wanted)
imports = list_of u1 few_imports wanted

abbrev pub few_words : ℕ → Bool
few_words n = nat_le n 32000

abbrev pub head_of : ObjectKind × (List ℕ × (ℕ × (List Wanted × ℕ))) → Head
head_of p = record { kind = p.0; name = p.1.0; key = record { 0 = p.1.1.0 }; imports = p.1.1.1.0; data_words = p.1.1.1.1 }

unfoldable pub head : Format Head
head = shape head_of (λ h. (h.kind, (h.name, (h.key.0, (h.imports, h.data_words))))) (λ p. refl) do
  k ← kind
  n ← name
  key ← number_such u4 (key_fits k)
  ws ← imports
  number_such u2 few_words

-- ---- procedures. The first is the body, which has 0 in place of a name
abbrev pub text_in : Option (List ℕ) → List ℕ
text_in None = []
text_in (Some t) = t

unfoldable pub no_name : Format (Option (List ℕ))
no_name = (0 ∷ []) ▸ give None

unfoldable pub some_name : Format (Option (List ℕ))
some_name = shape Some text_in (λ t. refl) name

abbrev pub procedure_name : List ProcedureEntry → Format (Option (List ℕ))
procedure_name [] = no_name
procedure_name (p ∷ ps) = some_name

unfoldable pub procedure : List ProcedureEntry → Format ProcedureEntry
procedure ps = shape (λ p. record { entry = p.0; name = p.1 }) (λ p. (p.entry, p.name)) (λ p. refl) (plain u2 >>= λ e. procedure_name ps)

abbrev pub some_procedures : ℕ → Bool
some_procedures n = nat_le 1 n && nat_le n 251

unfoldable pub procedures : Format (List ProcedureEntry)
procedures = list u1 some_procedures (λ n done. procedure done)

-- ---- code. Its length is above each entry
abbrev pub above_entries : List ProcedureEntry → ℕ → Bool
above_entries ps n = list_all (λ p. nat_lt p.entry n) ps

abbrev pub code_long : List ProcedureEntry → ℕ → Bool
code_long ps n = nat_le 1 n && (nat_le n 32767 && above_entries ps n)

unfoldable pub code : List ProcedureEntry → Format (List ℕ)
code ps = text u2 (code_long ps) any_text

-- ---- fixups. They rise, and the byte of the code at each is an import's number from 1, or 0 for the module itself
abbrev pub last_of : List ℕ → Option ℕ
last_of places = slice_get places (length places - 1)

abbrev pub is_above : Option ℕ → ℕ → Bool
is_above None place = true
is_above (Some before) place = nat_lt before place

abbrev pub names_module : ℕ → Option ℕ → Bool
names_module imported None = false
names_module imported (Some b) = nat_le b imported

abbrev pub fixup_fits : ℕ → List ℕ → List ℕ → ℕ → Bool
fixup_fits imported bytes done place = is_above (last_of done) place && names_module imported (slice_get bytes place)

unfoldable pub fixups : ℕ → List ℕ → Format (List ℕ)
fixups imported bytes = list u2 any (λ n done. number_such u2 (fixup_fits imported bytes done))

-- ---- strings. Each lies in the data, and the empty one has a word too
abbrev pub string_long : ℕ → ℕ → ℕ → Bool
string_long words offset n = nat_le (offset + max n 1) words

unfoldable pub string : ℕ → Format DataString
string words = shape (λ p. record { offset = p.0; text = p.1 }) (λ s. (s.offset, s.text)) (λ p. refl) do
  o ← plain u2
  text u2 (string_long words o) any_text

unfoldable pub strings : ℕ → Format (List DataString)
strings words = list_of u2 any (string words)

-- ---- the source text
abbrev pub text_long : ℕ → Bool
text_long n = nat_le n 262144

unfoldable pub source_text : Format (List ℕ)
source_text = text u4 text_long any_text

-- ---- the file
abbrev pub contents_of : List ProcedureEntry × (List ℕ × (List ℕ × (List DataString × List ℕ))) → Contents
contents_of p = record { procedures = p.0; code = p.1.0; fixups = p.1.1.0; strings = p.1.1.1.0; text = p.1.1.1.1 }

unfoldable pub contents : Head → Format Contents
contents h = shape contents_of (λ c. (c.procedures, (c.code, (c.fixups, (c.strings, c.text))))) (λ p. refl) do
  ps ← procedures
  bytes ← code ps
  places ← fixups (length h.imports) bytes
  ss ← strings h.data_words
  source_text

unfoldable pub object : Format Object
object = codes "LOBJ" ▸ (1 ∷ []) ▸ shape (λ p. record { head = p.0; contents = p.1 }) (λ o. (o.head, o.contents)) (λ p. refl) do
  h ← head
  contents h
