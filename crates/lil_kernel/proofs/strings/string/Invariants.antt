use Rattle.std.proofs.Common.{◌≡◌, suc, ◌+◌, ◌-◌, ◌++◌, ◌≤◌, length}
use Rattle.lil_kernel.proofs.Characters.{shown_from}
use Rattle.lil_kernel.proofs.strings.string.Given as goal

-- the bytes so far, and what the words from here on show
abbrev pub invariant-loop-at : goal.invariant-loop-at
invariant-loop-at g l = record {
  whole : l.text.items ++ shown_from l.machine.state.store l.at (l.end - l.at) ≡ shown_from l.machine.state.store l.address (suc l.high);
  room : length l.text.items + l.address ≤ l.at;
}
