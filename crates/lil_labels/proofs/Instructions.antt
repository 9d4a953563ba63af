-- Instructions that are added one behind another.
use Rattle.std.proofs.Common.{ℕ, zero, suc, ◌<◌, List, [], ◌∷◌, length, get_or, arith}
use Rattle.lil_asm.specs.{declared.instr.Instr.Instr, Bytes.Sayable}
use Rattle.lil_table.specs.Rows.{InstrsAt}
use Rattle.lil_labels.specs.Drafts.{Meaning, AreSayable}

-- with some behind it, it is all of them
abbrev pub Expecting : List Instr → List Instr → Meaning
Expecting rest all x p q = (r : ℕ) → InstrsAt x.code rest q r → InstrsAt x.code all p r

pub sayable_in : (is : List Instr) (n : ℕ) (i : Instr) → n < length is → AreSayable is → Sayable (get_or is n i)
sayable_in [] n i inside h = absurd (omega arith)
sayable_in (j ∷ is) zero i inside h = h.0
sayable_in (j ∷ is) (suc n) i inside h = sayable_in is n i (omega arith) h.1
