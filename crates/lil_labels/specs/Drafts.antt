-- Code that is being written with labels. What is said of it holds in each final code that begins with it, whatever words its labels have, and
-- under whatever numbers modules are loaded.
use Rattle.std.specs.Prelude.{◌≡◌, ◌≢◌, ℕ, suc, ◌+◌, ◌*◌, ◌/◌, ◌%◌, ◌<◌, ◌≤◌, true, List, [], ◌∷◌, ◌++◌, drop, length, map, Option, Some, None, slice_get, slice_set}
use Rattle.lil_asm.specs.{declared.instr.Instr.{Instr, TheVariants.{Liw, Jmp, Jpf, Jan, Jor, Cas, Fri, Frn}}, Bytes.{Entry, Sayable}}
use Rattle.lil_resolved.specs.{declared.{resolved.{RDeclared.RDeclared, RHeading.RHeading}, shapes.RShape.RShape}, Kinds.procedure_word, Sound.is_text}
use Rattle.lil_table.specs.Rows.{Layout, Span, IsAt, InstrsAt, HasText}
use Rattle.lil_labels.specs.{declared.buffer.{HeldRecord.HeldRecord, Jump.Jump, Fixup.Fixup, Aim.Aim}, Tables.{Tables, Describe}}
use Rattle.lil_labels.specs.declared.buffer.Aim.TheVariants as aim

-- the tables of the module, the words of the strings, the bytes, the place of each label that has one, the jumps, and the bytes that are to hold
-- numbers of modules
pub record Draft : Type 0 where
  pub tables : Tables
  pub strings : List ℕ
  pub bytes : List ℕ
  pub places : List (Option ℕ)
  pub jumps : List Jump
  pub fixups : List Fixup

abbrev pub empty : List RShape → List ℕ → List RDeclared → ℕ → List RHeading → Draft
empty shapes targets variables words procedures = record { tables = record { shapes = shapes; targets = targets; variables = variables; words = words; procedures = procedures; own = None; held = [] }; strings = []; bytes = []; places = []; jumps = []; fixups = [] }

-- in a procedure, by its number from 0 on, or in the body
abbrev pub in_procedure : Option ℕ → Draft → Draft
in_procedure own d = record d { tables = record d.tables { own = own } }

-- inside of a WITH too
abbrev pub inside : HeldRecord → Draft → Draft
inside h d = record d { tables = record d.tables { held = h ∷ d.tables.held } }

-- outside of the innermost WITH
abbrev pub outside : Draft → Draft
outside d = record d { tables = record d.tables { held = drop 1 d.tables.held } }

-- the jumps lie in so many bytes
abbrev pub AreInside : ℕ → List Jump → Type 0
AreInside n [] = Unit {0}
AreInside n (j ∷ js) = (j.at + 2 ≤ n) × AreInside n js

-- the fixups rise from a place on, lie in so many bytes, each with a byte behind it, and name the module itself
abbrev pub AreFixed : (from n : ℕ) → List Fixup → Type 0
AreFixed from n [] = Unit {0}
AreFixed from n (f ∷ fs) = (from ≤ f.at) × (f.at + 2 ≤ n) × (f.number ≡ 0) × AreFixed (suc f.at) n fs

-- the fixups lie in so many bytes
abbrev pub AreWithin : ℕ → List Fixup → Type 0
AreWithin n [] = Unit {0}
AreWithin n (f ∷ fs) = (f.at < n) × AreWithin n fs

-- the bytes, the labels, the jumps and the fixups go together
pub record IsSound (n : ℕ) (places : List (Option ℕ)) (jumps : List Jump) (fixups : List Fixup) : Type 0 where
  pub inside : AreInside n jumps
  pub behind : (l q : ℕ) → slice_get places l ≡ Some (Some q) → q ≤ n
  pub fixed : AreFixed 0 n fixups

-- the bytes with a word written over two of them
abbrev pub with_word : List ℕ → ℕ → ℕ → List ℕ
with_word bytes at w = slice_set (slice_set bytes at (w / 256)) (at + 1) (w % 256)

-- the bytes where each jump has the word of its label
abbrev pub written : (ℕ → ℕ) → List ℕ → List Jump → List ℕ
written word bytes [] = bytes
written word bytes (j ∷ js) = written word (with_word bytes j.at (word j.label)) js

-- the bytes where each fixup has the number of its module
abbrev pub numbered : (ℕ → ℕ) → List ℕ → List Fixup → List ℕ
numbered numbers bytes [] = bytes
numbered numbers bytes (f ∷ fs) = numbered numbers (slice_set bytes f.at (numbers f.number)) fs

abbrev pub code_of : Draft → (word numbers : ℕ → ℕ) → List ℕ
code_of d word numbers = numbered numbers (written word d.bytes d.jumps) d.fixups

-- where the fixups lie
abbrev pub place_of : Fixup → ℕ
place_of f = f.at

abbrev pub places_of : List Fixup → List ℕ
places_of fs = map place_of fs

-- the label has no place yet
abbrev pub IsOpen : Draft → ℕ → Type 0
IsOpen d l = slice_get d.places l ≡ Some None

-- A final code from a place on, the tables that describe its layout, and the word that each label has there. The offsets of its data are
-- words. Numbers up to that of its bytes are written cut to 16 bits, where they aren't lower.
pub record Final : Type 0 where
  pub tables : Tables
  pub layout : Layout
  pub described : Describe tables layout
  pub room : layout.words + length layout.strings ≤ 65535
  pub word : ℕ → ℕ
  pub from : ℕ
  pub code : List ℕ
  pub cuts : (n : ℕ) → n ≤ length code → layout.target n ≡ n % 65536

-- code has these bytes from a place on
abbrev pub HasFrom : ℕ → List ℕ → List ℕ → Type 0
HasFrom from code bytes = (j b : ℕ) → from ≤ j → slice_get bytes j ≡ Some b → slice_get code j ≡ Some b

-- the final code has the bytes of this one, of the same module, its strings begin with these, and its labels have their places
pub record Fits (d : Draft) (x : Final) : Type 0 where
  pub same : x.tables ≡ d.tables
  pub more : List ℕ
  pub strings : x.layout.strings ≡ d.strings ++ more
  pub bytes : HasFrom x.from x.code (code_of d x.word x.layout.numbers)
  pub long : length d.bytes ≤ length x.code
  pub placed : (l q : ℕ) → slice_get d.places l ≡ Some (Some q) → x.word l ≡ x.layout.target q

-- what is said of a final code from one place to another
abbrev pub Meaning : Type 1
Meaning = Final → Span

-- What was added means this in each final code that begins before it, has these words of strings, and places no label that was made before.
pub record Adds (words : List ℕ) (old new : Draft) (T : Meaning) : Type 0 where
  pub grows : length old.bytes ≤ length new.bytes
  pub same : new.tables ≡ old.tables
  pub strings : new.strings ≡ old.strings ++ words
  pub keeps : (l : ℕ) → IsOpen old l → IsOpen new l
  pub made : length old.places ≤ length new.places
  pub back : (x : Final) → Fits new x → Fits old x
  pub meant : (x : Final) → Fits new x → x.from ≤ length old.bytes → T x (length old.bytes) (length new.bytes)

-- what has no strings
abbrev pub Emits : Draft → Draft → Meaning → Type 0
Emits old new T = Adds [] old new T

abbrev pub Nothing : Meaning
Nothing x p q = p ≡ q

-- no code, and a string that lies from an offset on in the data
abbrev pub Saying : List ℕ → ℕ → Meaning
Saying cs offset x p q = (p ≡ q) × (is_text cs ≡ true → HasText x.layout cs offset)

-- an instruction, by the words of labels
abbrev pub Doing : ((ℕ → ℕ) → Instr) → Meaning
Doing i x p q = IsAt x.code p (i x.word) q

-- a procedure of the module as a value
abbrev pub Naming : ℕ → Meaning
Naming i x p q = IsAt x.code p (Liw (procedure_word (x.layout.numbers 0) i)) q

abbrev pub AreSayable : List Instr → Type 0
AreSayable [] = Unit {0}
AreSayable (i ∷ is) = Sayable i × AreSayable is

-- instructions one behind another
abbrev pub DoingAll : List Instr → Meaning
DoingAll is x p q = InstrsAt x.code is p q

-- one behind another
abbrev pub Each : {A : Type 0} → (A → Meaning) → List A → Meaning
Each P [] x p q = p ≡ q
Each P (a ∷ rest) x p q = (m : ℕ) × P a x p m × Each P rest x m q

-- CAS, which stands there where the code has its entries
pub record ChoiceAt (code : List ℕ) (count other p q : ℕ) : Type 0 where
  pub behind : q ≡ p + 5
  pub at : q + 6 * count ≤ length code → IsAt code p (Cas count other) q

abbrev pub Choosing : ℕ → ℕ → Meaning
Choosing count label x p q = ChoiceAt x.code count (x.word label) p q

-- a label at a place
abbrev pub Marking : ℕ → Meaning
Marking l x p q = (p ≡ q) × (x.word l ≡ x.layout.target p)

-- an entry of CAS
pub record EntryAt (code : List ℕ) (low high target p q : ℕ) : Type 0 where
  pub entry : Entry code p low high target
  pub behind : q ≡ p + 6

abbrev pub Entering : ℕ → ℕ → ℕ → Meaning
Entering low high label x p q = EntryAt x.code low high (x.word label) p q

-- a new label, which no open one was
pub record Makes (old new : Draft) (l : ℕ) : Type 0 where
  pub is : l ≡ length old.places
  pub fresh : IsOpen new l
  pub apart : (k : ℕ) → IsOpen old k → k ≢ l

-- an open label gets the place of the end
pub record Places (old new : Draft) (l : ℕ) : Type 0 where
  pub tables : new.tables ≡ old.tables
  pub strings : new.strings ≡ old.strings
  pub bytes : new.bytes ≡ old.bytes
  pub jumps : new.jumps ≡ old.jumps
  pub fixups : new.fixups ≡ old.fixups
  pub places : new.places ≡ slice_set old.places l (Some (length old.bytes))
  pub was : IsOpen old l

-- no code, at the end of which a label has its place, in each final code
pub record Ends (old new : Draft) (l : ℕ) : Type 0 where
  pub same : new.tables ≡ old.tables
  pub strings : new.strings ≡ old.strings
  pub long : length new.bytes ≡ length old.bytes
  pub keeps : (k : ℕ) → k ≢ l → IsOpen old k → IsOpen new k
  pub made : length old.places ≤ length new.places
  pub back : (x : Final) → Fits new x → Fits old x
  pub named : (x : Final) → Fits new x → x.word l ≡ x.layout.target (length new.bytes)

-- the instruction that leads to a label, with its word
abbrev pub aimed : Aim → ℕ → Instr
aimed aim.Always w = Jmp w
aimed aim.IfFalse w = Jpf w
aimed aim.And w = Jan w
aimed aim.Or w = Jor w
aimed (aim.Enter o s) w = Fri o s w
aimed (aim.Turn o) w = Frn o w

-- the word of a label: its place, cut to 16 bits
abbrev pub word_in : Option (Option ℕ) → ℕ
word_in (Some (Some q)) = q % 65536
word_in o = 0

abbrev pub settled_word : List (Option ℕ) → ℕ → ℕ
settled_word places l = word_in (slice_get places l)

-- one jump more, over the last two bytes
pub record Notes (old new : Draft) (l : ℕ) : Type 0 where
  pub tables : new.tables ≡ old.tables
  pub strings : new.strings ≡ old.strings
  pub bytes : new.bytes ≡ old.bytes
  pub places : new.places ≡ old.places
  pub at : ℕ
  pub is : at + 2 ≡ length old.bytes
  pub jumps : new.jumps ≡ old.jumps ++ record { label = l; at = at } ∷ []
  pub fixups : new.fixups ≡ old.fixups
