use Rattle.std.proofs.Common.{◌≡◌, take}
use Rattle.lil_check_type.specs.Simple.{names_of}
use Rattle.lil_check_type.proofs.simple.copy_names.Given as goal

abbrev pub invariant-loop-one : goal.invariant-loop-one
invariant-loop-one l = l.names ≡ names_of (take l.one-index l.of)
