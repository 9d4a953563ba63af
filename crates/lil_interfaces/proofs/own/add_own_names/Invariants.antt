use Rattle.std.proofs.Common.{◌≡◌, drop}
use Rattle.lil_interfaces.specs.Own.{with_own_names}
use Rattle.lil_interfaces.proofs.own.add_own_names.Given as goal

-- the names so far and those that are left are all
abbrev pub invariant-loop-one : goal.invariant-loop-one
invariant-loop-one l = with_own_names l.numbers l.env (drop l.one-index l.of) ≡ with_own_names l.numbers l.fn.env l.of
