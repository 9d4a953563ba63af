use Rattle.std.proofs.Common.{◌≡◌, ◌++◌, take}
use Rattle.lil_interfaces.proofs.modules.add_texts.Given as goal

abbrev pub invariant-loop-one : goal.invariant-loop-one
invariant-loop-one l = l.to ≡ l.fn.to ++ take l.one-index l.of
