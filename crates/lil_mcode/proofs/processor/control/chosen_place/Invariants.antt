use Rattle.std.proofs.Common.{◌≡◌, ◌+◌, ◌*◌}
use Rattle.lil_mcode.specs.Control.{chosen}
use Rattle.lil_mcode.proofs.processor.control.chosen_place.Given as goal

-- the entries that are left decide
abbrev pub invariant-loop-left : goal.invariant-loop-left
invariant-loop-left l =
    (chosen l.code l.fn.count l.fn.place l.fn.x l.fn.other ≡ chosen l.code l.left l.at l.fn.x l.fn.other)
    × (l.at + 6 * l.left ≡ l.fn.place + 6 * l.fn.count)

abbrev pub decreases-loop-left : goal.decreases-loop-left
decreases-loop-left l = l.left
