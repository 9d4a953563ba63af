use Rattle.std.proofs.Common.{◌≡◌, drop}
use Rattle.lil_interfaces.specs.Moving.{with_names}
use Rattle.lil_interfaces.proofs.moving.add_names.Given as goal

-- the names so far and those that are left are all
abbrev pub invariant-loop-one : goal.invariant-loop-one
invariant-loop-one l = with_names l.numbers l.texts l.block l.to (drop l.one-index l.of) ≡ with_names l.numbers l.texts l.block l.fn.to l.of
