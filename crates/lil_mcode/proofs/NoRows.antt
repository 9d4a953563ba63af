-- Bytes with which no instruction begins, and rows that aren't built: all of them are bad code.
use Rattle.std.proofs.Common.{◌≡◌, ◌≢◌, ℕ, ◌≤◌, Bool, true, false, if◌then◌else◌, List, Option, Some, None, option_and_then, refl, arith}
use Rattle.std.proofs.lemmas.Bool.{Decides.nat_tests}
use Rattle.lil_asm.specs.{declared.instr.Instr.{Instr}, Bytes.{row, row_0, row_2, row_3, row_4, row_5, row_6, row_7}}
use Rattle.lil_mcode.specs.Table.{Module, State, bad, act, performed}

-- no row that is built begins with this byte
pub record Unbuilt (b : ℕ) : Type 0 where
  pub words : 1 ≤ b → 6 ≤ b
  pub places : 16 ≤ b → 60 ≤ b
  pub operators : 64 ≤ b → 76 ≤ b
  pub comparisons : 80 ≤ b → 108 ≤ b
  pub jumps : 112 ≤ b → 123 ≤ b
  pub request : b ≢ 125

-- what is read at this place, if anything is, has no row
pub record IsBad (s : State) (m : Module) (o : Option (Instr × ℕ)) : Type 0 where
  pub is : performed s m o ≡ bad s

module _ (s : State) (m : Module) where
  nothing : IsBad s m None
  nothing = record { is = refl }

  unbuilt : (i : Instr) (q : ℕ) → act i q m s ≡ bad s → IsBad s m (Some (i, q))
  unbuilt i q h = record { is = h }

  behind : {A : Type 0} (o : Option A) (f : A → Option (Instr × ℕ)) → ((a : A) → IsBad s m (f a)) → IsBad s m (option_and_then f o)
  behind None f h = nothing
  behind (Some a) f h = h a

  other : (t : Bool) (x y : Option (Instr × ℕ)) → t ≡ false → IsBad s m y → IsBad s m (if t then x else y)
  other true x y e h = cc
  other false x y e h = h

  either : (t : Bool) (x y : Option (Instr × ℕ)) → IsBad s m x → IsBad s m y → IsBad s m (if t then x else y)
  either true x y g h = g
  either false x y g h = h

  ruleset tests = (other, either, nothing, unbuilt, behind, arith, nat_tests)

  row_0_bad : (b : ℕ) (code : List ℕ) (p : ℕ) → Unbuilt b → IsBad s m (row_0 b code p)
  unfolding row_0
  row_0_bad b code p h = search tests depth 60 fits 5000

  row_2_bad : (b : ℕ) (code : List ℕ) (p : ℕ) → Unbuilt b → IsBad s m (row_2 b code p)
  unfolding row_2
  row_2_bad b code p h = search tests depth 60 fits 5000

  row_3_bad : (b : ℕ) (code : List ℕ) (p : ℕ) → Unbuilt b → IsBad s m (row_3 b code p)
  unfolding row_3
  row_3_bad b code p h = search tests depth 60 fits 5000

  row_4_bad : (b : ℕ) (code : List ℕ) (p : ℕ) → Unbuilt b → IsBad s m (row_4 b p)
  unfolding row_4
  row_4_bad b code p h = search tests depth 60 fits 5000

  row_5_bad : (b : ℕ) (code : List ℕ) (p : ℕ) → Unbuilt b → IsBad s m (row_5 b p)
  unfolding row_5
  row_5_bad b code p h = search tests depth 60 fits 5000

  row_6_bad : (b : ℕ) (code : List ℕ) (p : ℕ) → Unbuilt b → IsBad s m (row_6 b code p)
  unfolding row_6
  row_6_bad b code p h = search tests depth 60 fits 5000

  row_7_bad : (b : ℕ) (code : List ℕ) (p : ℕ) → Unbuilt b → IsBad s m (row_7 b code p)
  unfolding row_7
  row_7_bad b code p h = search tests depth 60 fits 5000

  pub row_bad : (b : ℕ) (code : List ℕ) (p : ℕ) → Unbuilt b → IsBad s m (row b code p)
  row_bad b code p h = search (row_0_bad, row_2_bad, row_3_bad, row_4_bad b code, row_5_bad b code, row_6_bad, row_7_bad, tests) depth 20
