use Rattle.std.proofs.Common.{◌≡◌, drop}
use Rattle.lil_imports.specs.Meeting.{conflict}
use Rattle.lil_imports.proofs.meeting.conflict_in.Given as goal

-- none of those before is met with another key
abbrev pub invariant-loop-one : goal.invariant-loop-one
invariant-loop-one l = conflict l.place l.all (drop l.one-index l.of) ≡ conflict l.place l.met l.of
