use Rattle.std.proofs.Common.{◌≡◌, drop}
use Rattle.lil_imports.specs.Meeting.{key_in}
use Rattle.lil_imports.proofs.meeting.key_in.Given as goal

-- none of those before has the name
abbrev pub invariant-loop-one : goal.invariant-loop-one
invariant-loop-one l = key_in (drop l.one-index l.met) l.name ≡ key_in l.met l.name
