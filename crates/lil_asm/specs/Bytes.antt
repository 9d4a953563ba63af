-- The byte table: which instruction stands at a place of a module's code, and which bytes an instruction has.
use Rattle.std.specs.Prelude.{◌≡◌, ℕ, ◌+◌, ◌*◌, ◌/◌, ◌%◌, ◌<◌, nat_le, List, [], ◌∷◌, ◌++◌, length, Option, Some, None, option_and_then, slice_get, if◌then◌else◌, ◌==◌}
use Rattle.lil_base.specs.Fields.{bytes16}
use Rattle.lil_asm.specs.declared.instr.Instr.{Instr}
use Rattle.lil_asm.specs.declared.instr.Instr.TheVariants.{Liw, Lib, Dup, Drp, Swp, Lis, Llw, Llb, Slw, Slb, Lgw, Lgb, Sgw, Sgb, Lew, Sew, Lnw, Snw, Lal, Lag, Lae, Lan, Ldi, Sti, Ldf, Adf, Mov, Mvz, Nlt, Ixc, Ixo, Rgc, Rgi, Cap, Adc, Sbc, Mlc, Dvc, Mdc, Adi, Sbi, Mli, Dvi, Mdi, Ngi, Abi, Uni, Dif, Its, Sym, Sin, Spn, Icl, Ecl, Sle, Not, Equ, Neq, Lsc, Lec, Lsi, Lei, Sav, Mrk, Mrf, Psh, Psm, Cll, Clx, Clf, Ent, Cpy, Rtn, Rst, Jmp, Jpf, Jan, Jor, Jms, Jfs, Cas, Fri, Frn, Trp, Alc, Npr, Trf, Svc}

infixl 10 ◌>>=◌
abbrev pub ◌>>=◌ : {A B : Type 0} → Option A → (A → Option B) → Option B
o >>= f = option_and_then f o

-- two bytes, the higher first
abbrev pub word_at : List ℕ → ℕ → Option ℕ
word_at code p = do
  high ← slice_get code p
  low ← slice_get code (p + 1)
  Some (high * 256 + low)

abbrev pub with_byte : (ℕ → Instr) → List ℕ → ℕ → Option (Instr × ℕ)
with_byte make code p = do
  b ← slice_get code (p + 1)
  Some (make b, p + 2)

abbrev pub with_word : (ℕ → Instr) → List ℕ → ℕ → Option (Instr × ℕ)
with_word make code p = do
  w ← word_at code (p + 1)
  Some (make w, p + 3)

abbrev pub with_two_words : (ℕ → ℕ → Instr) → List ℕ → ℕ → Option (Instr × ℕ)
with_two_words make code p = do
  v ← word_at code (p + 1)
  w ← word_at code (p + 3)
  Some (make v w, p + 5)

-- two words, one behind the other
abbrev pub two_words_at : List ℕ → ℕ → Option (ℕ × ℕ)
two_words_at code p = do
  v ← word_at code p
  w ← word_at code (p + 2)
  Some (v, w)

-- a byte, and a word behind it
abbrev pub byte_word_at : List ℕ → ℕ → Option (ℕ × ℕ)
byte_word_at code p = do
  n ← slice_get code p
  w ← word_at code (p + 1)
  Some (n, w)

abbrev pub with_byte_word : (ℕ → ℕ → Instr) → List ℕ → ℕ → Option (Instr × ℕ)
with_byte_word make code p = do
  n ← slice_get code (p + 1)
  w ← word_at code (p + 2)
  Some (make n w, p + 4)

-- a call of another module's procedure: two bytes and a word
abbrev pub with_call : List ℕ → ℕ → Option (Instr × ℕ)
with_call code p = do
  m ← slice_get code (p + 1)
  n ← slice_get code (p + 2)
  a ← word_at code (p + 3)
  Some (Clx m n a, p + 5)

-- the head of a loop: a word, a byte and a word
abbrev pub with_loop : List ℕ → ℕ → Option (Instr × ℕ)
with_loop code p = do
  o ← word_at code (p + 1)
  s ← slice_get code (p + 3)
  t ← word_at code (p + 4)
  Some (Fri o s t, p + 6)

-- CASE: how many entries it has and the other place, where its entries, of six bytes each, lie whole in the code behind them
abbrev pub with_entries : List ℕ → ℕ → Option (Instr × ℕ)
with_entries code p = do
  n ← word_at code (p + 1)
  t ← word_at code (p + 3)
  if nat_le (p + 5 + 6 * n) (length code) then Some (Cas n t, p + 5) else None

-- the rows of the first bytes with one higher digit
unfoldable pub row_0 : ℕ → List ℕ → ℕ → Option (Instr × ℕ)
row_0 b code p =
    if b == 0x01 then with_word Liw code p
    else (if b == 0x02 then with_byte Lib code p
    else (if b == 0x03 then Some (Dup, p + 1)
    else (if b == 0x04 then Some (Drp, p + 1)
    else (if b == 0x05 then Some (Swp, p + 1)
    else None))))

unfoldable pub row_2 : ℕ → List ℕ → ℕ → Option (Instr × ℕ)
row_2 b code p =
    if b == 0x20 then with_word Llw code p
    else (if b == 0x21 then with_byte Llb code p
    else (if b == 0x22 then with_word Slw code p
    else (if b == 0x23 then with_byte Slb code p
    else (if b == 0x24 then with_word Lgw code p
    else (if b == 0x25 then with_byte Lgb code p
    else (if b == 0x26 then with_word Sgw code p
    else (if b == 0x27 then with_byte Sgb code p
    else (if b == 0x28 then with_byte_word Lew code p
    else (if b == 0x29 then with_byte_word Sew code p
    else (if b == 0x2a then with_byte_word Lnw code p
    else (if b == 0x2b then with_byte_word Snw code p
    else (if b == 0x2c then with_word Lal code p
    else (if b == 0x2d then with_word Lag code p
    else (if b == 0x2e then with_byte_word Lae code p
    else (if b == 0x2f then with_byte_word Lan code p
    else None)))))))))))))))

unfoldable pub row_3 : ℕ → List ℕ → ℕ → Option (Instr × ℕ)
row_3 b code p =
    if b == 0x30 then Some (Ldi, p + 1)
    else (if b == 0x31 then Some (Sti, p + 1)
    else (if b == 0x32 then with_word Ldf code p
    else (if b == 0x33 then with_word Adf code p
    else (if b == 0x34 then with_word Mov code p
    else (if b == 0x35 then with_two_words Mvz code p
    else (if b == 0x36 then Some (Nlt, p + 1)
    else (if b == 0x37 then with_two_words Ixc code p
    else (if b == 0x38 then with_word Ixo code p
    else (if b == 0x39 then with_two_words Rgc code p
    else (if b == 0x3a then with_two_words Rgi code p
    else (if b == 0x3b then Some (Cap, p + 1)
    else None)))))))))))

unfoldable pub row_4 : ℕ → ℕ → Option (Instr × ℕ)
row_4 b p =
    if b == 0x40 then Some (Adc, p + 1)
    else (if b == 0x41 then Some (Sbc, p + 1)
    else (if b == 0x42 then Some (Mlc, p + 1)
    else (if b == 0x43 then Some (Dvc, p + 1)
    else (if b == 0x44 then Some (Mdc, p + 1)
    else (if b == 0x45 then Some (Adi, p + 1)
    else (if b == 0x46 then Some (Sbi, p + 1)
    else (if b == 0x47 then Some (Mli, p + 1)
    else (if b == 0x48 then Some (Dvi, p + 1)
    else (if b == 0x49 then Some (Mdi, p + 1)
    else (if b == 0x4a then Some (Ngi, p + 1)
    else (if b == 0x4b then Some (Abi, p + 1)
    else None)))))))))))

unfoldable pub row_5 : ℕ → ℕ → Option (Instr × ℕ)
row_5 b p =
    if b == 0x50 then Some (Uni, p + 1)
    else (if b == 0x51 then Some (Dif, p + 1)
    else (if b == 0x52 then Some (Its, p + 1)
    else (if b == 0x53 then Some (Sym, p + 1)
    else (if b == 0x54 then Some (Sin, p + 1)
    else (if b == 0x55 then Some (Spn, p + 1)
    else (if b == 0x56 then Some (Icl, p + 1)
    else (if b == 0x57 then Some (Ecl, p + 1)
    else (if b == 0x58 then Some (Sle, p + 1)
    else (if b == 0x59 then Some (Not, p + 1)
    else (if b == 0x5a then Some (Equ, p + 1)
    else (if b == 0x5b then Some (Neq, p + 1)
    else (if b == 0x5c then Some (Lsc, p + 1)
    else (if b == 0x5d then Some (Lec, p + 1)
    else (if b == 0x5e then Some (Lsi, p + 1)
    else (if b == 0x5f then Some (Lei, p + 1)
    else None)))))))))))))))

unfoldable pub row_6 : ℕ → List ℕ → ℕ → Option (Instr × ℕ)
row_6 b code p =
    if b == 0x60 then Some (Sav, p + 1)
    else (if b == 0x61 then with_byte Mrk code p
    else (if b == 0x62 then Some (Mrf, p + 1)
    else (if b == 0x63 then Some (Psh, p + 1)
    else (if b == 0x64 then with_word Psm code p
    else (if b == 0x65 then with_byte_word Cll code p
    else (if b == 0x66 then with_call code p
    else (if b == 0x67 then with_word Clf code p
    else (if b == 0x68 then with_word Ent code p
    else (if b == 0x69 then with_two_words Cpy code p
    else (if b == 0x6a then Some (Rtn, p + 1)
    else (if b == 0x6b then with_byte Rst code p
    else None)))))))))))

unfoldable pub row_7 : ℕ → List ℕ → ℕ → Option (Instr × ℕ)
row_7 b code p =
    if b == 0x70 then with_word Jmp code p
    else (if b == 0x71 then with_word Jpf code p
    else (if b == 0x72 then with_word Jan code p
    else (if b == 0x73 then with_word Jor code p
    else (if b == 0x74 then with_byte Jms code p
    else (if b == 0x75 then with_byte Jfs code p
    else (if b == 0x76 then with_entries code p
    else (if b == 0x77 then with_loop code p
    else (if b == 0x78 then with_two_words Frn code p
    else (if b == 0x79 then with_byte Trp code p
    else (if b == 0x7a then Some (Alc, p + 1)
    else (if b == 0x7b then Some (Npr, p + 1)
    else (if b == 0x7c then Some (Trf, p + 1)
    else (if b == 0x7d then with_byte Svc code p
    else None)))))))))))))

-- the row of a first byte, by its higher digit and then by itself
abbrev pub row_of_digit : ℕ → ℕ → List ℕ → ℕ → Option (Instr × ℕ)
row_of_digit d b code p =
    if d == 0 then row_0 b code p
    else (if d == 1 then Some (Lis (b % 16), p + 1)
    else (if d == 2 then row_2 b code p
    else (if d == 3 then row_3 b code p
    else (if d == 4 then row_4 b p
    else (if d == 5 then row_5 b p
    else (if d == 6 then row_6 b code p
    else (if d == 7 then row_7 b code p
    else None)))))))

abbrev pub row : ℕ → List ℕ → ℕ → Option (Instr × ℕ)
row b code p = row_of_digit (b / 16) b code p

-- the instruction whose bytes stand at a place, and the place behind it
unfoldable pub decoded : List ℕ → ℕ → Option (Instr × ℕ)
decoded code p = do
  b ← slice_get code p
  row b code p

-- a first byte with a byte, and with one or two words
abbrev pub byte_bytes : ℕ → ℕ → List ℕ
byte_bytes b n = b ∷ n ∷ []

abbrev pub word_bytes : ℕ → ℕ → List ℕ
word_bytes b w = b ∷ bytes16 w

abbrev pub two_word_bytes : ℕ → ℕ → ℕ → List ℕ
two_word_bytes b v w = b ∷ bytes16 v ++ bytes16 w

abbrev pub byte_word_bytes : ℕ → ℕ → ℕ → List ℕ
byte_word_bytes b n w = byte_bytes b n ++ bytes16 w

-- a call of another module's procedure
abbrev pub call_bytes : ℕ → ℕ → ℕ → List ℕ
call_bytes m n a = byte_bytes 0x66 m ++ word_bytes n a

-- the head of a loop
abbrev pub loop_bytes : ℕ → ℕ → ℕ → List ℕ
loop_bytes o s t = word_bytes 0x77 o ++ word_bytes s t

-- the bytes of an instruction
abbrev pub bytes_of : Instr → List ℕ
bytes_of (Liw w) = word_bytes 0x01 w
bytes_of (Lib n) = byte_bytes 0x02 n
bytes_of Dup = 0x03 ∷ []
bytes_of Drp = 0x04 ∷ []
bytes_of Swp = 0x05 ∷ []
bytes_of (Lis n) = (0x10 + n % 16) ∷ []
bytes_of (Llw w) = word_bytes 0x20 w
bytes_of (Llb n) = byte_bytes 0x21 n
bytes_of (Slw w) = word_bytes 0x22 w
bytes_of (Slb n) = byte_bytes 0x23 n
bytes_of (Lgw w) = word_bytes 0x24 w
bytes_of (Lgb n) = byte_bytes 0x25 n
bytes_of (Sgw w) = word_bytes 0x26 w
bytes_of (Sgb n) = byte_bytes 0x27 n
bytes_of (Lew n w) = byte_word_bytes 0x28 n w
bytes_of (Sew n w) = byte_word_bytes 0x29 n w
bytes_of (Lnw n w) = byte_word_bytes 0x2a n w
bytes_of (Snw n w) = byte_word_bytes 0x2b n w
bytes_of (Lal w) = word_bytes 0x2c w
bytes_of (Lag w) = word_bytes 0x2d w
bytes_of (Lae n w) = byte_word_bytes 0x2e n w
bytes_of (Lan n w) = byte_word_bytes 0x2f n w
bytes_of Ldi = 0x30 ∷ []
bytes_of Sti = 0x31 ∷ []
bytes_of (Ldf w) = word_bytes 0x32 w
bytes_of (Adf w) = word_bytes 0x33 w
bytes_of (Mov w) = word_bytes 0x34 w
bytes_of (Mvz v w) = two_word_bytes 0x35 v w
bytes_of Nlt = 0x36 ∷ []
bytes_of (Ixc v w) = two_word_bytes 0x37 v w
bytes_of (Ixo w) = word_bytes 0x38 w
bytes_of (Rgc v w) = two_word_bytes 0x39 v w
bytes_of (Rgi v w) = two_word_bytes 0x3a v w
bytes_of Cap = 0x3b ∷ []
bytes_of Adc = 0x40 ∷ []
bytes_of Sbc = 0x41 ∷ []
bytes_of Mlc = 0x42 ∷ []
bytes_of Dvc = 0x43 ∷ []
bytes_of Mdc = 0x44 ∷ []
bytes_of Adi = 0x45 ∷ []
bytes_of Sbi = 0x46 ∷ []
bytes_of Mli = 0x47 ∷ []
bytes_of Dvi = 0x48 ∷ []
bytes_of Mdi = 0x49 ∷ []
bytes_of Ngi = 0x4a ∷ []
bytes_of Abi = 0x4b ∷ []
bytes_of Uni = 0x50 ∷ []
bytes_of Dif = 0x51 ∷ []
bytes_of Its = 0x52 ∷ []
bytes_of Sym = 0x53 ∷ []
bytes_of Sin = 0x54 ∷ []
bytes_of Spn = 0x55 ∷ []
bytes_of Icl = 0x56 ∷ []
bytes_of Ecl = 0x57 ∷ []
bytes_of Sle = 0x58 ∷ []
bytes_of Not = 0x59 ∷ []
bytes_of Equ = 0x5a ∷ []
bytes_of Neq = 0x5b ∷ []
bytes_of Lsc = 0x5c ∷ []
bytes_of Lec = 0x5d ∷ []
bytes_of Lsi = 0x5e ∷ []
bytes_of Lei = 0x5f ∷ []
bytes_of Sav = 0x60 ∷ []
bytes_of (Mrk n) = byte_bytes 0x61 n
bytes_of Mrf = 0x62 ∷ []
bytes_of Psh = 0x63 ∷ []
bytes_of (Psm w) = word_bytes 0x64 w
bytes_of (Cll n w) = byte_word_bytes 0x65 n w
bytes_of (Clx m n a) = call_bytes m n a
bytes_of (Clf w) = word_bytes 0x67 w
bytes_of (Ent w) = word_bytes 0x68 w
bytes_of (Cpy v w) = two_word_bytes 0x69 v w
bytes_of Rtn = 0x6a ∷ []
bytes_of (Rst n) = byte_bytes 0x6b n
bytes_of (Jmp w) = word_bytes 0x70 w
bytes_of (Jpf w) = word_bytes 0x71 w
bytes_of (Jan w) = word_bytes 0x72 w
bytes_of (Jor w) = word_bytes 0x73 w
bytes_of (Jms n) = byte_bytes 0x74 n
bytes_of (Jfs n) = byte_bytes 0x75 n
bytes_of (Cas v w) = two_word_bytes 0x76 v w
bytes_of (Fri o s t) = loop_bytes o s t
bytes_of (Frn v w) = two_word_bytes 0x78 v w
bytes_of (Trp n) = byte_bytes 0x79 n
bytes_of Alc = 0x7a ∷ []
bytes_of Npr = 0x7b ∷ []
bytes_of Trf = 0x7c ∷ []
bytes_of (Svc n) = byte_bytes 0x7d n

-- An instruction whose bytes alone say it: the operand of LIS has just four bits, and CASE has entries behind its bytes.
abbrev pub Sayable : Instr → Type 0
Sayable (Lis n) = n < 16
Sayable (Cas n t) = ⊥
Sayable i = Unit {0}

-- an entry of CAS: a range and the place for the words in it
abbrev pub entry_bytes : ℕ → ℕ → ℕ → List ℕ
entry_bytes low high target = bytes16 low ++ (bytes16 high ++ bytes16 target)

-- what stands in an entry
pub record Entry (code : List ℕ) (p low high target : ℕ) : Type 0 where
  pub low_at : word_at code p ≡ Some low
  pub high_at : word_at code (p + 2) ≡ Some high
  pub target_at : word_at code (p + 4) ≡ Some target
