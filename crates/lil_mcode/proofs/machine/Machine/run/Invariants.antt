use Rattle.std.proofs.Common.{◌≡◌, true, ℕ, suc, Some}
use Rattle.lil_mcode.specs.{declared.machine.Event.TheVariants.Went, Table.{State, mstep}, Going.gone}
use Rattle.lil_mcode.proofs.machine.Machine.run.Given as goal

-- the steps so far went on, and the last of them was noted
abbrev pub invariant-loop-k : goal.invariant-loop-k
invariant-loop-k l = record {
  came : gone l.k l.fn.self.state ≡ Some l.self.state;
  last : (n : ℕ) → l.k ≡ suc n → (u : State) × (gone n l.fn.self.state ≡ Some u) × (mstep u ≡ (Went, l.self.state)) × (l.module ≡ u.running) × (l.place ≡ u.place);
  marked : l.self.state.marked ≡ true;
  steps : l.self.steps ≡ l.fn.self.steps;
  levels : l.self.levels ≡ l.fn.self.levels;
  begun : l.self.begun ≡ l.fn.self.begun;
  data_end : l.self.data_end ≡ l.fn.self.data_end;
}
